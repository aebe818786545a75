use Rattle.std.proofs.Common.{arith}
use Rattle.kernel_args.proofs.ZeroLemmas.{after_zeros_by_tables}
use Rattle.kernel_args.proofs.check_number.after_zeros.Goals as goal

pub returns : goal.returns
returns c = after_zeros_by_tables c.args.register (omega arith)
