use Rattle.std.proofs.Common.{◌==◌, Some, ap, subst, ◌∙◌}
use Rattle.machine_model.specs.State.Changes.{replies}
use Rattle.xk_parts.proofs.ThreadLemmas.{ready_id}
use Rattle.send_path.specs.Rows.{log_with}
use Rattle.xk_parts.specs.Threads.{answered}
use Rattle.server_table.specs.ServersOf.{servers_of}
use Rattle.thread_table.specs.Shown.{process_count}
use Rattle.vm_memory.specs.Memory.{ledger}
use Rattle.xk_base.specs.Tables.Circle.{is_thread_id}
use Rattle.send_path.proofs.Taken.{parts_of}
use Rattle.kill_path.specs.Closing.{AreClosed, closable}
use Rattle.kill_path.specs.Noted.{noted}
use Rattle.kill_path.specs.Telling.{told_to}
use Rattle.kill_path.specs.ThreadSets.{ThreadSet}
use Rattle.kill_path.proofs.Deaths.DestroyLemmas.{destroyed_row, destroyed_sound, first_noted, its_owner, live_there, noted_known}
use Rattle.kill_path.proofs.FitLemmas.{few_processes, known_of_all, sound_open}
use Rattle.kill_path.proofs.destroying.destroy.Goals as goal

pub note-requires : goal.note-requires
note-requires g c =
    known_of_all (process_count c.args.threads.now) c.args.who
    (few_processes g.W.SwapStore c.args.who
    (parts_of c.args.mem.now c.args.threads.now c.args.servers.now c.args.queues.now c.args.log.now)
    c.requires.sound)
    (ready_id c.args.threads.now c.args.who c.requires.ready)

pub note_receiving-requires : goal.note_receiving-requires
note_receiving-requires g c =
    let v = live_there ((servers_of c.args.servers.now).live c.args.s.0) c.requires.live in
    its_owner g.W.SwapStore c.args.who
    (parts_of c.args.mem.now c.args.threads.now c.args.servers.now c.args.queues.now c.args.log.now)
    c.requires.sound c.requires.ready c.args.s v.server v.live c.owner_of-pid.result c.owner_of-pid.ensures

pub close_server-requires-clause-messages : goal.close_server-requires-clause-messages
close_server-requires-clause-messages g c =
    sound_open g.W.SwapStore c.args.who
    (parts_of c.args.mem.now c.args.threads.now c.args.servers.now c.args.queues.now c.args.log.now)
    c.requires.sound

pub tell-requires-clause-known : goal.tell-requires-clause-known
tell-requires-clause-known g c = λ id e.
    ap (λ n. is_thread_id n id) c.pass.ensures.count
    ∙ noted_known g.W.SwapStore c.args.who
    (parts_of c.args.mem.now c.args.threads.now c.args.servers.now c.args.queues.now c.args.log.now)
    c.requires.sound c.requires.ready c.args.s c.seat_of-seat.ensures.server c.seat_of-seat.ensures.live
    (parts_of c.close_server.new.mem c.pass.new.threads c.close_server.new.servers c.close_server.new.queues c.args.log.now)
    (noted c.close_server.new.answered)
    (subst (λ (set : ThreadSet). AreClosed (λ k. k == c.args.s.0)
    (closable (ledger g.W.SwapStore.held c.args.mem.now) c.args.servers.now c.args.queues.now set)
    (closable (ledger g.W.SwapStore.held c.close_server.new.mem) c.close_server.new.servers c.close_server.new.queues (noted c.close_server.new.answered)))
    (first_noted g.W.SwapStore c.args.who
    (parts_of c.args.mem.now c.args.threads.now c.args.servers.now c.args.queues.now c.args.log.now)
    c.requires.sound c.requires.ready c.args.s c.seat_of-seat.ensures.server c.seat_of-seat.ensures.live c.owner_of-pid.result
    (noted c.new-noted_ids.result) (noted c.note.new.self) (noted c.note_receiving.new.noted_ids) c.owner_of-pid.ensures
    c.new-noted_ids.ensures c.note.ensures c.note_receiving.ensures)
    c.close_server.ensures.closed) id e

pub returns-clause-row : goal.returns-clause-row
returns-clause-row g c = λ m.
    destroyed_row g.W.SwapStore c.args.who
    (parts_of c.args.mem.now c.args.threads.now c.args.servers.now c.args.queues.now c.args.log.now)
    c.requires.sound c.requires.ready c.args.s c.seat_of-seat.ensures.server c.seat_of-seat.ensures.live
    (parts_of c.close_server.new.mem c.tell.new.threads c.close_server.new.servers c.close_server.new.queues c.tell.new.log)
    (noted c.close_server.new.answered)
    (subst (λ (set : ThreadSet). AreClosed (λ k. k == c.args.s.0)
    (closable (ledger g.W.SwapStore.held c.args.mem.now) c.args.servers.now c.args.queues.now set)
    (closable (ledger g.W.SwapStore.held c.close_server.new.mem) c.close_server.new.servers c.close_server.new.queues (noted c.close_server.new.answered)))
    (first_noted g.W.SwapStore c.args.who
    (parts_of c.args.mem.now c.args.threads.now c.args.servers.now c.args.queues.now c.args.log.now)
    c.requires.sound c.requires.ready c.args.s c.seat_of-seat.ensures.server c.seat_of-seat.ensures.live c.owner_of-pid.result
    (noted c.new-noted_ids.result) (noted c.note.new.self) (noted c.note_receiving.new.noted_ids) c.owner_of-pid.ensures
    c.new-noted_ids.ensures c.note.ensures c.note_receiving.ensures)
    c.close_server.ensures.closed)
    (c.tell.ensures.after ∙ ap (answered (told_to (Some c.args.who) (noted c.close_server.new.answered))) c.pass.ensures.after)
    (c.tell.ensures.log ∙ ap (λ n. log_with (replies n (told_to (Some c.args.who) (noted c.close_server.new.answered))) c.args.log.now) c.pass.ensures.count)
    (c.tell.ensures.count ∙ c.pass.ensures.count) c.close_server.ensures.stays c.close_server.ensures.messages m

pub returns-clause-sound : goal.returns-clause-sound
returns-clause-sound g c =
    destroyed_sound g.W.SwapStore c.args.who
    (parts_of c.args.mem.now c.args.threads.now c.args.servers.now c.args.queues.now c.args.log.now)
    c.requires.sound c.requires.ready c.args.s c.seat_of-seat.ensures.server c.seat_of-seat.ensures.live
    (parts_of c.close_server.new.mem c.tell.new.threads c.close_server.new.servers c.close_server.new.queues c.tell.new.log)
    (noted c.close_server.new.answered)
    (subst (λ (set : ThreadSet). AreClosed (λ k. k == c.args.s.0)
    (closable (ledger g.W.SwapStore.held c.args.mem.now) c.args.servers.now c.args.queues.now set)
    (closable (ledger g.W.SwapStore.held c.close_server.new.mem) c.close_server.new.servers c.close_server.new.queues (noted c.close_server.new.answered)))
    (first_noted g.W.SwapStore c.args.who
    (parts_of c.args.mem.now c.args.threads.now c.args.servers.now c.args.queues.now c.args.log.now)
    c.requires.sound c.requires.ready c.args.s c.seat_of-seat.ensures.server c.seat_of-seat.ensures.live c.owner_of-pid.result
    (noted c.new-noted_ids.result) (noted c.note.new.self) (noted c.note_receiving.new.noted_ids) c.owner_of-pid.ensures
    c.new-noted_ids.ensures c.note.ensures c.note_receiving.ensures)
    c.close_server.ensures.closed)
    (c.tell.ensures.after ∙ ap (answered (told_to (Some c.args.who) (noted c.close_server.new.answered))) c.pass.ensures.after)
    (c.tell.ensures.log ∙ ap (λ n. log_with (replies n (told_to (Some c.args.who) (noted c.close_server.new.answered))) c.args.log.now) c.pass.ensures.count)
    (c.tell.ensures.count ∙ c.pass.ensures.count) c.close_server.ensures.stays c.close_server.ensures.messages
