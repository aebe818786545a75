use Rattle.std.proofs.Common.{List, reverse, sym, ap, ◌∙◌}
use Rattle.snapshot_rows.specs.declared.runs.Run.{Run}
use Rattle.snapshot_rows.proofs.LoanRuns.JoinLemmas.{joined_onto, onto_last, onto_none}
use Rattle.snapshot_rows.proofs.runs.joined.Goals as goal

pub loop-page-init : goal.loop-page-init
loop-page-init c = ap (λ (xs : List Run). joined_onto c.args.pages.items (reverse xs)) c.new-runs.ensures.items ∙ onto_none c.args.pages.items

pub loop-page-preserved : goal.loop-page-preserved
loop-page-preserved c =
    ap (λ (xs : List Run). joined_onto c.pop.new.self.items xs) c.in_ok-put_in_front.ensures
    ∙ sym (onto_last c.pop.new.self.items c.in-Some.page (reverse c.loop-page.runs.items))
    ∙ ap (λ (xs : List Run). joined_onto xs (reverse c.loop-page.runs.items)) (sym c.in-Some.ensures.items) ∙ c.loop-page.invariant
