use Rattle.std.proofs.Common.{ℕ, ap, rules, subst}
use Rattle.std.specs.List.Sorted.{IsBinarySearchResult}
use Rattle.std.specs.Option.{option_map}
use Rattle.std.proofs.lemmas.List.Sorted.{answers_always}
use Rattle.snapshot_rows.proofs.Keys.SearchLemmas.{order_of}
use Rattle.snapshot_rows.specs.Order.{orphan_key}
use Rattle.snapshot_rows.specs.declared.state.OrphanRow.{OrphanRow as Orphan}
use Rattle.resume_path.proofs.Orphaned.OrphanSearchLemmas.{orphan_missed, orphan_there}
use Rattle.resume_path.proofs.orphans.offset.Goals as goal

-- src/orphans.rt
pub unreachable-requires : goal.unreachable-requires
unreachable-requires c =
    let found = subst (λ (pid : ℕ). IsBinarySearchResult (λ o. order_of (orphan_key o) (pid, c.args.at.vpn.0)) c.args.orphans.now c.binary_search_by_key.result)
    c.from.ensures (c.binary_search_by_key.ensures.position orphan_key (answers_always _ _ _ (λ f a r g called. search rules))) in
    orphan_missed c.args.orphans.now c.args.at c.binary_search_by_key.result c.requires.order c.binary_search_by_key.ensures.bound found c.in-Err.field-0
    c.in-Err.is c.requires.there

pub returns : goal.returns
returns c =
    let found = subst (λ (pid : ℕ). IsBinarySearchResult (λ o. order_of (orphan_key o) (pid, c.args.at.vpn.0)) c.args.orphans.now c.binary_search_by_key.result)
    c.from.ensures (c.binary_search_by_key.ensures.position orphan_key (answers_always _ _ _ (λ f a r g called. search rules))) in
    ap (option_map (λ (o : Orphan). o.from))
    (orphan_there c.args.orphans.now c.args.at c.binary_search_by_key.result c.requires.order c.binary_search_by_key.ensures.bound found c.in-Ok.i
    (record { pid = 0; page = 0; kind = 0; number = 0; from = 0 }) c.in-Ok.is)
