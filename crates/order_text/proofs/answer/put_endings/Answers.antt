use Rattle.std.proofs.Common.{◌∙◌, List, ap, arith, length, refl}
use Rattle.std.proofs.lemmas.Option.{slice_get_read}
use Rattle.order_text.specs.Endings.{looks_at}
use Rattle.order_text.specs.declared.endings.Look.{Look}
use Rattle.order_text.proofs.LineLemmas.{line_put, lines_on, no_lines}
use Rattle.order_text.proofs.answer.put_endings.Goals as goal

pub loop-place-init : goal.loop-place-init
loop-place-init c = no_lines c.args.endings.now c.args.text.now.items

pub loop-place-preserved : goal.loop-place-preserved
loop-place-preserved c =
    lines_on c.args.endings.now c.loop-place.place c.args.text.now.items c.loop-place.text.items c.put_ending.new.text.items _ c.loop-place.invariant
    c.in_ok-put_ending.ensures
    (line_put c.args.endings.now c.loop-place.place c.index.result.now _ c.count_looks-nodes.result
    (slice_get_read c.args.endings.now.list.items (length c.args.endings.now.list.items) c.loop-place.place c.index.result.now refl (omega arith) c.index.ensures)
    refl
    (c.count_looks-nodes.ensures ∙ ap (λ (ls : List Look). looks_at ls c.loop-place.place) c.deref.ensures.value))
