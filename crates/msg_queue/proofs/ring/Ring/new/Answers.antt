use Rattle.std.proofs.Common.{◌≡◌, replicate, None, ap, ◌∙◌, arith}
use Rattle.msg_queue.proofs.StartLemmas.{start_ring}
use Rattle.msg_queue.proofs.ring.Ring.new.Goals as goal

pub invariant_of-result : goal.invariant_of-result
invariant_of-result c =
    let all : c.loop-slot.slot ≡ 128 = omega arith in
    let w = c.loop-slot.invariant in
    (start_ring c.loop-slot.slots.items c.loop-slot.next.items (w.slots ∙ ap (λ n. replicate n None) all) (w.words ∙ all) (λ k low. w.ascending k (omega arith))).sound

pub returns : goal.returns
returns c =
    let all : c.loop-slot.slot ≡ 128 = omega arith in
    let w = c.loop-slot.invariant in
    (start_ring c.loop-slot.slots.items c.loop-slot.next.items (w.slots ∙ ap (λ n. replicate n None) all) (w.words ∙ all) (λ k low. w.ascending k (omega arith))).shows
