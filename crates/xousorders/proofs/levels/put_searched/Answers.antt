use Rattle.std.proofs.Common.{◌≡◌, ◌+◌, ◌∙◌, ◌++◌, List, OnOk, ℕ, ap, arith, length, subst}
use Rattle.order_model.specs.declared.moves.Note.{Note}
use Rattle.order_text.specs.Lines.{extent_head, limits_text, slices_tried}
use Rattle.order_text.proofs.LineLemmas.{two_pieces}
use Rattle.xousorders.proofs.levels.put_searched.Goals as goal

pub returns : goal.returns
returns c =
    let found = c.args.found.now in
    let orders = c.args.quest.now.subject.orders in
    let states : c.len.result + 1 ≡ length found.edges.items + 1 = omega (arith, found.edges.ok.0) in
    let slices : c.slices_tried-slices.result ≡ slices_tried found.notes.items =
    c.slices_tried-slices.ensures ∙ ap (λ (ns : List Note). slices_tried ns) c.deref.ensures.value in
    two_pieces c.put_limits.result c.args.text.now.items c.put_extent.new.text.items c.put_limits.new.text.items
    (extent_head (length found.edges.items + 1) (slices_tried found.notes.items) found.extent)
    (limits_text orders.bound found.strategy orders.preemptions)
    (c.in_ok-put_extent.ensures ∙ (λ i. c.args.text.now.items ++ extent_head (states i) (slices i) found.extent))
    (subst (λ (line : List ℕ). OnOk c.put_limits.result (c.put_limits.new.text.items ≡ c.put_extent.new.text.items ++ line))
    (λ i. limits_text (c.bound.ensures i) found.strategy (c.preemptions.ensures i)) c.put_limits.ensures)
