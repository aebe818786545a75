use Rattle.std.proofs.Common.{rules, ◌∙◌}
use Rattle.std.proofs.lemmas.List.Sorted.{answers_always}
use Rattle.snapshot_rows.specs.Order.{page_key}
use Rattle.snapshot_rows.proofs.Keys.SearchLemmas.{search_told}
use Rattle.snapshot_rows.proofs.search.is_home.Goals as goal

pub returns : goal.returns
returns c =
    c.is_ok.ensures.value
    ∙ search_told page_key (c.args.pid, c.args.number) c.args.pages.now c.binary_search_by_key.result c.requires c.binary_search_by_key.ensures.bound
    (c.binary_search_by_key.ensures.position page_key (answers_always _ _ _ (λ f a r g called. search rules)))
