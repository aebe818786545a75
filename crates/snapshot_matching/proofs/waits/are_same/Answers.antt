use Rattle.std.proofs.Common.{rules}
use Rattle.std.proofs.lemmas.List.Sorted.{answers_always}
use Rattle.snapshot_matching.proofs.ServerRows.WaitLemmas.{wait_key, alike_waits, same_waits}
use Rattle.snapshot_matching.proofs.waits.are_same.Goals as goal

pub returns-clause-alike : goal.returns-clause-alike
returns-clause-alike c =
    alike_waits c.args.said.items c.args.kept.items c.sort_unstable_by_key.new.self.items c.sort_unstable_by_key-2.new.self.items c.sort_unstable_by_key.ensures.permutation
    c.sort_unstable_by_key-2.ensures.permutation c.eq.result c.eq.ensures

pub returns-clause-told : goal.returns-clause-told
returns-clause-told c =
    same_waits c.args.said.items c.args.kept.items c.sort_unstable_by_key.new.self.items c.sort_unstable_by_key-2.new.self.items c.sort_unstable_by_key.ensures.permutation
    c.sort_unstable_by_key-2.ensures.permutation c.eq.result c.eq.ensures
    (c.sort_unstable_by_key.ensures.sorted wait_key (answers_always _ _ _ (λ f a r g called. search rules)))
    (c.sort_unstable_by_key-2.ensures.sorted wait_key (answers_always _ _ _ (λ f a r g called. search rules))) c.requires
