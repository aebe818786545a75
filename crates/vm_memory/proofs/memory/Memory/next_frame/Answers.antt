use Rattle.std.proofs.Common.{ap, not, ◌∙◌, arith}
use Rattle.phys_pages.specs.Owners.{frame_seat, infos}
use Rattle.vm_memory.proofs.Changing.LastFrameLemmas.{begun_free, begun_used, passed_next, seat_seen}
use Rattle.vm_memory.proofs.memory.Memory.next_frame.Goals as goal

pub loop-k-init : goal.loop-k-init
loop-k-init g c = λ past. absurd (omega (arith, past))

pub loop-k-preserved : goal.loop-k-preserved
loop-k-preserved g c = passed_next c.args.self.now.owners c.args.from.0 c.loop-k.k (omega arith) c.loop-k.invariant
    (seat_seen c.info.result (infos c.args.self.now.owners (frame_seat c.loop-k.k)) c.info.ensures (c.is_none.ensures ∙ ap not c.if-is_none.false))

pub returns-then-is_none-clause-here : goal.returns-then-is_none-clause-here
returns-then-is_none-clause-here g c = begun_free c.args.self.now.owners c.args.from.0 c.loop-k.k (omega arith) c.loop-k.invariant

pub returns-clause-here : goal.returns-clause-here
returns-clause-here g c = begun_used c.args.self.now.owners c.args.from.0 c.loop-k.k
    (omega (arith, c.loop-k-test.false, c.frames-k-end.ensures.count, c.requires.sound.agree.last)) c.loop-k.invariant
