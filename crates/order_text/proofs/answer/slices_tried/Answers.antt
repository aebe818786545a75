use Rattle.std.proofs.Common.{◌∙◌, List, ap, arith, take_all}
use Rattle.order_model.specs.declared.moves.Note.{Note}
use Rattle.order_text.specs.Lines.{slices_tried}
use Rattle.order_text.proofs.LineLemmas.{tried_more}
use Rattle.order_text.proofs.answer.slices_tried.Goals as goal

pub loop-note-preserved : goal.loop-note-preserved
loop-note-preserved c =
    tried_more c.args.notes.now c.loop-note.note-index _ c.loop-note.slices _ c.loop-note-test.true c.loop-note.invariant c.saturating_add-slices.ensures

pub returns : goal.returns
returns c =
    c.loop-note.invariant ∙ ap (λ (ns : List Note). slices_tried ns) (take_all c.loop-note.note-index c.args.notes.now (omega arith))
