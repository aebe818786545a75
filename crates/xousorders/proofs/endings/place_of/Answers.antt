use Rattle.std.proofs.Common.{◌∙◌, arith, below_more, sym}
use Rattle.std.proofs.lemmas.Option.{slice_get_within}
use Rattle.xousorders.specs.Endings.{IsAt, Shown, shown_in}
use Rattle.xousorders.proofs.EndingLemmas.{not_at, read_at}
use Rattle.xousorders.proofs.ShownLemmas.{same_shown-Decides}
use Rattle.xousorders.proofs.endings.place_of.Goals as goal

pub returns-then-is_told_so-clause-place : goal.returns-then-is_told_so-clause-place
returns-then-is_told_so-clause-place c =
    let shown : Shown = record { text = c.args.seen.now; fails = c.args.fails } in
    read_at c.args.list.now c.loop-place.place c.index-list-place.result (omega arith) c.index-list-place.is shown
    ((same_shown-Decides (shown_in c.index-list-place.result) shown).0 (sym c.is_told_so.ensures ∙ c.if-is_told_so.true))

pub loop-place-preserved : goal.loop-place-preserved
loop-place-preserved c =
    let shown : Shown = record { text = c.args.seen.now; fails = c.args.fails } in
    below_more (λ k. IsAt c.args.list.now k shown → ⊥) c.loop-place.place c.loop-place.invariant
    (not_at c.args.list.now c.loop-place.place c.index-list-place.result (omega arith) c.index-list-place.is shown
    (sym c.is_told_so.ensures ∙ c.if-is_told_so.false))

pub returns-clause-none : goal.returns-clause-none
returns-clause-none c none place at =
    let within = slice_get_within c.args.list.now place at.ending at.there in
    c.loop-place.invariant place (omega (arith, within)) at
