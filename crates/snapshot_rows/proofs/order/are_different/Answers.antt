use Rattle.std.proofs.Common.{rules, sym, subst}
use Rattle.std.specs.List.Sorted.{IsPermutation, IsSorted}
use Rattle.std.specs.Ordering.{is_lt}
use Rattle.std.proofs.lemmas.List.Sorted.{answers_always}
use Rattle.snapshot_rows.proofs.Keys.DifferLemmas.{differ_told}
use Rattle.snapshot_rows.proofs.Keys.SearchLemmas.{order_of}
use Rattle.snapshot_rows.proofs.order.are_different.Goals as goal

pub returns : goal.returns
returns c =
    differ_told c.args.keys.items c.as_slice.result.now c.is_sorted_by.result
    (subst (λ l. IsPermutation c.args.keys.items l) (sym c.as_slice.ensures.value) c.sort_unstable.ensures.permutation)
    (subst (λ l. IsSorted order_of l) (sym c.as_slice.ensures.value) c.sort_unstable.ensures.sorted)
    (c.is_sorted_by.ensures.cases (λ x y. is_lt (order_of x y)) (answers_always _ _ _ (λ f a r g called. search rules)))
