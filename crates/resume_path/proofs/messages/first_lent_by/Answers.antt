use Rattle.std.proofs.Common.{◌<◌, List, ap, rules, subst, sym, ◌∙◌}
use Rattle.std.specs.Prelude.{All}
use Rattle.std.proofs.lemmas.List.Elements.{All-drop}
use Rattle.std.proofs.lemmas.List.Sorted.{IsPartitionPoint-from_clause}
use Rattle.snapshot_rows.specs.declared.state.PageRow.{PageRow}
use Rattle.resume_path.proofs.Lending.LenderPagesLemmas.{is_below, lent_behind, pids_parted, rest_is}
use Rattle.resume_path.specs.Messages.{first_lent}
use Rattle.resume_path.proofs.messages.first_lent_by.Goals as goal

-- src/messages.rt
pub first_lent-requires : goal.first_lent-requires
first_lent-requires c =
    subst (All (λ (page : PageRow). page.pid < 256)) (sym (rest_is c.args.pages.now c.partition_point-first.result))
    (All-drop (λ (page : PageRow). page.pid < 256) c.partition_point-first.result c.args.pages.now c.requires.pids)

pub returns : goal.returns
returns c =
    let pages = c.args.pages.now in
    let first = c.partition_point-first.result in
    let bound = c.partition_point-first.ensures.bound in
    let parted = IsPartitionPoint-from_clause (is_below c.args.pid) _ _ c.partition_point-first.ensures.partitioned
    (pids_parted pages c.args.pid c.args.number first c.requires.order bound) (λ a r q k. search rules) in
    c.first_lent.ensures ∙ ap (λ (rows : List PageRow). first_lent rows c.args.number) (rest_is pages first)
    ∙ lent_behind pages c.args.pid c.args.number first c.requires.order bound parted c.requires.lender
