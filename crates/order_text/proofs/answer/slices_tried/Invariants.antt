use Rattle.std.proofs.Common.{◌≡◌, take}
use Rattle.order_text.specs.Lines.{slices_tried}
use Rattle.order_text.proofs.answer.slices_tried.Given as goal

abbrev pub invariant-loop-note : goal.invariant-loop-note
invariant-loop-note l = l.slices ≡ slices_tried (take l.note-index l.notes)
