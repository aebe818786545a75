use Rattle.std.proofs.Common.{arith, rules}
use Rattle.kernel_args.proofs.GroupLemmas.{after_group_by_tables}
use Rattle.kernel_args.proofs.check_number.after_group.Goals as goal

pub returns : goal.returns
returns c = after_group_by_tables c.args.register c.args.group.now (omega arith) c.told-group (λ i lt. search rules)
