use Rattle.std.proofs.Common.{List, ℕ, length, ap, arith}
use Rattle.kernel_args.proofs.ReadLemmas.{none_left, some_left}
use Rattle.kernel_args.proofs.WritingLemmas.{no_names, length-names}
use Rattle.kernel_args.proofs.writing.names_tag_size.Goals as goal

pub returns-then-is_empty : goal.returns-then-is_empty
returns-then-is_empty c =
    let none = none_left c.is_empty.result (length c.args.names.now) c.is_empty.ensures c.if-is_empty.true in
    let size = ap (λ (l : List ℕ). length l) (no_names c.args.names.now none) in
    let given = c.in_ok-size.ensures in
    (given.0, omega arith, omega (arith, given.1, given.2), omega arith)

pub returns-else-is_empty : goal.returns-else-is_empty
returns-else-is_empty c =
    let some = some_left c.is_empty.result (length c.args.names.now) c.is_empty.ensures c.if-is_empty.false in
    let size = length-names c.args.names.now (λ e. omega arith) in
    let given = c.in_ok-size.ensures in
    (given.0, omega (arith, given.1), omega (arith, given.1, given.2), omega (arith, given.2))
