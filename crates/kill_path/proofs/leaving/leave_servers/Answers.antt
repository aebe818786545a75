use Rattle.std.proofs.Common.{◌≡◌, ◌+◌, ◌<◌, ap, subst, ◌∙◌, arith}
use Rattle.server_table.proofs.Lemmas.{seat_within}
use Rattle.vm_memory.specs.Memory.{Size, ledger, processes}
use Rattle.kill_path.specs.Leaving.{LeavesAlike, standing}
use Rattle.kill_path.proofs.KeepLemmas.{after_both, same_memory}
use Rattle.kill_path.proofs.Messages.LeaveSeatLemmas.{alike_both, alike_itself, seats_so_far}
use Rattle.kill_path.proofs.Messages.LeftLemmas.{all_left}
use Rattle.kill_path.proofs.leaving.leave_servers.Goals as goal

pub loop-seat-init : goal.loop-seat-init
loop-seat-init g c = record {
  stays = same_memory g.W.SwapStore c.args.mem.now c.requires.sound;
  messages = c.requires.messages;
  alike = alike_itself (processes c.args.mem.now) c.args.pid (standing (ledger g.W.SwapStore.held c.args.mem.now) c.args.servers.now c.args.queues.now);
  left = λ k low. absurd (omega arith);
}

pub leave_seat-requires-clause-sound : goal.leave_seat-requires-clause-sound
leave_seat-requires-clause-sound g c = c.loop-seat.invariant.stays.sound

pub leave_seat-requires-clause-usable : goal.leave_seat-requires-clause-usable
leave_seat-requires-clause-usable g c = c.loop-seat.invariant.stays.keeps.failed ∙ c.requires.usable

pub leave_seat-requires-clause-messages : goal.leave_seat-requires-clause-messages
leave_seat-requires-clause-messages g c = c.loop-seat.invariant.messages

pub loop-seat-preserved : goal.loop-seat-preserved
loop-seat-preserved g c =
    let first = standing (ledger g.W.SwapStore.held c.args.mem.now) c.args.servers.now c.args.queues.now in
    let old = standing (ledger g.W.SwapStore.held c.loop-seat.mem) c.args.servers.now c.loop-seat.queues in
    let new = standing (ledger g.W.SwapStore.held c.leave_seat.new.mem) c.args.servers.now c.leave_seat.new.queues in
    let procs : processes c.loop-seat.mem ≡ processes c.args.mem.now = ap (λ (s : Size). s.procs) c.loop-seat.invariant.stays.keeps.size in
    record {
      stays = after_both g.W.SwapStore c.args.mem.now c.loop-seat.mem c.leave_seat.new.mem
          c.loop-seat.invariant.stays c.leave_seat.ensures.stays;
      messages = c.leave_seat.ensures.messages;
      alike = alike_both (processes c.args.mem.now) c.args.pid first old new c.loop-seat.invariant.alike
          (subst (λ n. LeavesAlike n c.args.pid old new) procs c.leave_seat.ensures.alike);
      left = seats_so_far c.args.pid c.loop-seat.queues c.leave_seat.new.queues c.loop-seat.seat (c.loop-seat.seat + 1) (omega arith)
          c.loop-seat.invariant.left c.leave_seat.ensures.left c.leave_seat.ensures.others;
    }

pub returns-clause-left : goal.returns-clause-left
returns-clause-left g c =
    let first = standing (ledger g.W.SwapStore.held c.args.mem.now) c.args.servers.now c.args.queues.now in
    let now = standing (ledger g.W.SwapStore.held c.loop-seat.mem) c.args.servers.now c.loop-seat.queues in
    all_left (processes c.args.mem.now) c.args.pid first now c.loop-seat.invariant.alike
    (λ n v e. let low : v.seat < 64 = seat_within c.args.servers.now n v e in c.loop-seat.invariant.left v.seat (omega arith))
