use Rattle.std.proofs.Common.{arith}
use Rattle.kernel_args.proofs.TableLemmas.{after_byte_by_table}
use Rattle.kernel_args.proofs.check_number.after_byte.Goals as goal

pub returns : goal.returns
returns c = after_byte_by_table c.args.register c.args.byte (omega arith)
