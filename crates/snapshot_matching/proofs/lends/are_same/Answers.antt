use Rattle.std.proofs.Common.{rules}
use Rattle.std.proofs.lemmas.List.Sorted.{IsNonDecreasingBy-from_sort_by_key}
use Rattle.snapshot_matching.specs.declared.lends.Lend.{Lend}
use Rattle.snapshot_matching.proofs.Loans.LendLemmas.{alike_told, same_alike}
use Rattle.snapshot_matching.proofs.lends.are_same.Goals as goal

pub returns-clause-alike : goal.returns-clause-alike
returns-clause-alike c =
    alike_told c.args.said.items c.args.made.items c.sort_unstable_by_key.new.self.items c.sort_unstable_by_key-2.new.self.items c.sort_unstable_by_key.ensures.permutation
    c.sort_unstable_by_key-2.ensures.permutation c.eq.result c.eq.ensures

pub returns-clause-told : goal.returns-clause-told
returns-clause-told c =
    same_alike c.args.said.items c.args.made.items c.sort_unstable_by_key.new.self.items c.sort_unstable_by_key-2.new.self.items c.sort_unstable_by_key.ensures.permutation
    c.sort_unstable_by_key-2.ensures.permutation c.eq.result c.eq.ensures
    (IsNonDecreasingBy-from_sort_by_key (λ (l : Lend). l.number) _ c.sort_unstable_by_key.ensures.sorted (λ a r q k. search rules))
    (IsNonDecreasingBy-from_sort_by_key (λ (l : Lend). l.number) _ c.sort_unstable_by_key-2.ensures.sorted (λ a r q k. search rules)) c.requires
