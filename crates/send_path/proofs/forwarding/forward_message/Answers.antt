use Rattle.std.proofs.Common.{◌≡◌, ◌+◌, ◌<◌, Some, refl, sym, ap, subst, ◌∙◌, is_some}
use Rattle.std.proofs.lemmas.Bool.{and_parts, false≢true}
use Rattle.boot_plan.specs.Capacity.{capacity}
use Rattle.ledger_model.specs.Loans.{loans}
use Rattle.ledger_model.specs.Steps.{pass}
use Rattle.machine_model.specs.Messaging.Messages.{is_lend}
use Rattle.msg_queue.specs.Seats.{changed_at, seat_of, used_of, without_held}
use Rattle.server_table.specs.ServersOf.{servers_of}
use Rattle.thread_table.specs.ThreadMap.{receiver}
use Rattle.thread_table.specs.Shown.{process_count, threads_of}
use Rattle.vm_memory.proofs.Changing.LoanCallLemmas.{found_arrival}
use Rattle.vm_memory.specs.Loaning.Sending.{IsFreeArrival}
use Rattle.vm_memory.specs.Memory.{Size, ledger, processes}
use Rattle.xk_base.specs.declared.limits.TheConstants.{MESSAGE_LIMIT}
use Rattle.send_path.specs.Arrivals.{with_arrived}
use Rattle.xk_parts.specs.Parts.{machine_at}
use Rattle.send_path.proofs.Taken.{parts_of, with_processes, without_processes}
use Rattle.xk_parts.specs.Sound.{AreLoansSound, AreSeatsSound}
use Rattle.send_path.proofs.Forwards.ForwardLemmas.{goes_on, no_run, not_passable, not_reached, passed_on, to_full, to_holder}
use Rattle.send_path.proofs.Forwards.ForwardSoundLemmas.{has_lender, has_loan_on, has_pages, has_room, its_count, its_run_stands, loans_on, pass_is, seats_on, still_matched, stood_on}
use Rattle.send_path.proofs.Servers.ReachedLemmas.{arrival_low, caller_bounds, room_left, to_bounds, to_in_mem, to_receivers, to_seat}
use Rattle.send_path.proofs.Receivers.ReturnLemmas.{has_loan, its_kind, none_held, other_kind, shown}
use Rattle.send_path.proofs.Servers.SeatLemmas.{seat_in_limit}
use Rattle.send_path.proofs.forwarding.forward_message.Goals as goal

pub returns-in_default-clause-sound : goal.returns-in_default-clause-sound
returns-in_default-clause-sound g c =
    c.requires.sound

pub returns-in_default-clause-mem : goal.returns-in_default-clause-mem
returns-in_default-clause-mem g c =
    record { size = refl; store = refl; failed = refl; none = λ e. e; means = λ e. e }

pub returns-then-not-is_passable-clause-sound : goal.returns-then-not-is_passable-clause-sound
returns-then-not-is_passable-clause-sound g c =
    c.requires.sound

pub returns-then-not-is_passable-clause-mem : goal.returns-then-not-is_passable-clause-mem
returns-then-not-is_passable-clause-mem g c =
    record { size = refl; store = refl; failed = refl; none = λ e. e; means = λ e. e }

pub returns-in_default-connected_server-clause-sound : goal.returns-in_default-connected_server-clause-sound
returns-in_default-connected_server-clause-sound g c =
    c.requires.sound

pub returns-in_default-connected_server-clause-mem : goal.returns-in_default-connected_server-clause-mem
returns-in_default-connected_server-clause-mem g c =
    record { size = refl; store = refl; failed = refl; none = λ e. e; means = λ e. e }

pub returns-then-eq-clause-sound : goal.returns-then-eq-clause-sound
returns-then-eq-clause-sound g c =
    c.requires.sound

pub returns-then-eq-clause-mem : goal.returns-then-eq-clause-mem
returns-then-eq-clause-mem g c =
    record { size = refl; store = refl; failed = refl; none = λ e. e; means = λ e. e }

pub returns-then-is_full-clause-sound : goal.returns-then-is_full-clause-sound
returns-then-is_full-clause-sound g c =
    c.requires.sound

pub returns-then-is_full-clause-mem : goal.returns-then-is_full-clause-mem
returns-then-is_full-clause-mem g c =
    record { size = refl; store = refl; failed = refl; none = λ e. e; means = λ e. e }

pub returns-in_default-free_run-clause-sound : goal.returns-in_default-free_run-clause-sound
returns-in_default-free_run-clause-sound g c =
    c.requires.sound

pub returns-in_default-free_run-clause-mem : goal.returns-in_default-free_run-clause-mem
returns-in_default-free_run-clause-mem g c =
    record { size = refl; store = refl; failed = refl; none = λ e. e; means = λ e. e }

pub returns-in_default-clause-row : goal.returns-in_default-clause-row
unfolding machine_at
returns-in_default-clause-row g c =
    let store = g.W.SwapStore in
    let old = parts_of c.args.mem.now c.args.threads.now c.args.servers.now c.args.queues.now c.args.log.now in
    let alone = without_processes store c.args.who c.args.procs.now old c.requires.sound in
    (refl, not_passable store c.args.procs.now c.args.who old alone c.requires.ready c.args.number c.args.cid.0 (none_held store c.args.who old alone c.requires.ready c.args.number c.in_default.ensures goes_on))

pub returns-then-not-is_passable-clause-row : goal.returns-then-not-is_passable-clause-row
unfolding machine_at
returns-then-not-is_passable-clause-row g c =
    let store = g.W.SwapStore in
    let old = parts_of c.args.mem.now c.args.threads.now c.args.servers.now c.args.queues.now c.args.log.now in
    let alone = without_processes store c.args.who c.args.procs.now old c.requires.sound in
    (refl, not_passable store c.args.procs.now c.args.who old alone c.requires.ready c.args.number c.args.cid.0 (other_kind store c.args.who old alone c.requires.ready c.args.number c.in-Some.from c.in-Some.ensures goes_on (sym c.is_passable.ensures ∙ c.if-not-is_passable.true)))

pub connected_server-requires : goal.connected_server-requires
connected_server-requires g c =
    let store = g.W.SwapStore in
    let old = parts_of c.args.mem.now c.args.threads.now c.args.servers.now c.args.queues.now c.args.log.now in
    caller_bounds store c.args.who c.args.procs.now old c.requires.sound c.requires.ready

pub returns-in_default-connected_server-clause-row : goal.returns-in_default-connected_server-clause-row
unfolding machine_at
returns-in_default-connected_server-clause-row g c =
    let store = g.W.SwapStore in
    let old = parts_of c.args.mem.now c.args.threads.now c.args.servers.now c.args.queues.now c.args.log.now in
    let alone = without_processes store c.args.who c.args.procs.now old c.requires.sound in
    let can = sym c.is_passable.ensures ∙ c.if-not-is_passable.false in
    (refl, not_reached store c.args.procs.now c.args.who old alone c.requires.ready c.args.number c.args.cid.0 c.in-Some.from.message (its_kind store c.args.who old alone c.requires.ready c.args.number c.in-Some.from c.in-Some.ensures goes_on can) c.in_default-connected_server.ensures)

pub returns-then-eq-clause-row : goal.returns-then-eq-clause-row
unfolding machine_at
returns-then-eq-clause-row g c =
    let store = g.W.SwapStore in
    let old = parts_of c.args.mem.now c.args.threads.now c.args.servers.now c.args.queues.now c.args.log.now in
    let alone = without_processes store c.args.who c.args.procs.now old c.requires.sound in
    let can = sym c.is_passable.ensures ∙ c.if-not-is_passable.false in
    (refl, to_holder store c.args.procs.now c.args.who old alone c.requires.ready c.args.number c.args.cid.0 c.in-Some.from c.in-Some.ensures can c.in-Some-connected_server.to c.in-Some-connected_server.ensures (sym c.eq.ensures ∙ c.if-eq.true))

pub is_full-requires : goal.is_full-requires
is_full-requires g c =
    let store = g.W.SwapStore in
    let old = parts_of c.args.mem.now c.args.threads.now c.args.servers.now c.args.queues.now c.args.log.now in
    let alone = without_processes store c.args.who c.args.procs.now old c.requires.sound in
    to_seat store c.args.who old alone c.in-Some-connected_server.to c.in-Some-connected_server.ensures

pub returns-then-is_full-clause-row : goal.returns-then-is_full-clause-row
unfolding machine_at
returns-then-is_full-clause-row g c =
    let store = g.W.SwapStore in
    let old = parts_of c.args.mem.now c.args.threads.now c.args.servers.now c.args.queues.now c.args.log.now in
    let alone = without_processes store c.args.who c.args.procs.now old c.requires.sound in
    let can = sym c.is_passable.ensures ∙ c.if-not-is_passable.false in
    let apart = sym c.eq.ensures ∙ c.if-eq.false in
    (refl, to_full store c.args.procs.now c.args.who old alone c.requires.ready c.args.number c.args.cid.0 c.in-Some.from c.in-Some.ensures can c.in-Some-connected_server.to c.in-Some-connected_server.ensures apart (c.is_full.ensures.full.0 c.if-is_full.true))

pub free_run-requires-clause-sound : goal.free_run-requires-clause-sound
free_run-requires-clause-sound g c =
    c.requires.sound.mem

pub free_run-requires-clause-usable : goal.free_run-requires-clause-usable
free_run-requires-clause-usable g c =
    c.requires.usable

pub free_run-requires-clause-process : goal.free_run-requires-clause-process
free_run-requires-clause-process g c =
    let store = g.W.SwapStore in
    let old = parts_of c.args.mem.now c.args.threads.now c.args.servers.now c.args.queues.now c.args.log.now in
    let alone = without_processes store c.args.who c.args.procs.now old c.requires.sound in
    to_in_mem store c.args.who old alone c.in-Some-connected_server.to c.in-Some-connected_server.ensures

pub free_run-requires-clause-some : goal.free_run-requires-clause-some
free_run-requires-clause-some g c =
    let store = g.W.SwapStore in
    let old = parts_of c.args.mem.now c.args.threads.now c.args.servers.now c.args.queues.now c.args.log.now in
    let alone = without_processes store c.args.who c.args.procs.now old c.requires.sound in
    let can = sym c.is_passable.ensures ∙ c.if-not-is_passable.false in
    has_pages store c.args.procs.now c.args.who old alone c.requires.ready c.args.number c.in-Some.from c.in-Some.ensures can c.args.cid.0 c.in-Some-connected_server.to c.in-Some-connected_server.ensures

pub returns-in_default-free_run-clause-row : goal.returns-in_default-free_run-clause-row
unfolding machine_at
returns-in_default-free_run-clause-row g c =
    let store = g.W.SwapStore in
    let old = parts_of c.args.mem.now c.args.threads.now c.args.servers.now c.args.queues.now c.args.log.now in
    let alone = without_processes store c.args.who c.args.procs.now old c.requires.sound in
    let can = sym c.is_passable.ensures ∙ c.if-not-is_passable.false in
    let apart = sym c.eq.ensures ∙ c.if-eq.false in
    let room = room_left c.is_full.result (used_of (seat_of c.args.queues.now c.in-Some-connected_server.to.seat)) c.is_full.ensures.full c.is_full.ensures.few c.if-is_full.false in
    (refl, no_run store c.args.procs.now c.args.who old alone c.requires.ready c.args.number c.args.cid.0 c.in-Some.from c.in-Some.ensures can c.in-Some-connected_server.to c.in-Some-connected_server.ensures apart room (sym c.in_default-free_run.ensures))

pub take-requires-clause-seat : goal.take-requires-clause-seat
take-requires-clause-seat g c =
    seat_in_limit c.args.servers.now c.args.queues.now c.in-Some.from.serial.0 c.in-Some.from.seat c.in-Some.ensures.seat c.requires.sound.seats.all

pub take-requires-clause-there : goal.take-requires-clause-there
take-requires-clause-there g c =
    let store = g.W.SwapStore in
    let old = parts_of c.args.mem.now c.args.threads.now c.args.servers.now c.args.queues.now c.args.log.now in
    let alone = without_processes store c.args.who c.args.procs.now old c.requires.sound in
    let found = shown store c.args.who old alone c.requires.ready c.args.number c.in-Some.from c.in-Some.ensures in
    ap is_some found.is

pub pass-loan-requires-clause-sound : goal.pass-loan-requires-clause-sound
pass-loan-requires-clause-sound g c =
    c.requires.sound.mem

pub pass-loan-requires-clause-usable : goal.pass-loan-requires-clause-usable
pass-loan-requires-clause-usable g c =
    c.requires.usable

pub pass-loan-requires-clause-stands : goal.pass-loan-requires-clause-stands
pass-loan-requires-clause-stands g c =
    let store = g.W.SwapStore in
    let old = parts_of c.args.mem.now c.args.threads.now c.args.servers.now c.args.queues.now c.args.log.now in
    let alone = without_processes store c.args.who c.args.procs.now old c.requires.sound in
    let found = shown store c.args.who old alone c.requires.ready c.args.number c.in-Some.from c.in-Some.ensures in
    let lent = sym (c.take.ensures.loan found.held found.is) ∙ c.in-Some-take.is in
    let can = sym c.is_passable.ensures ∙ c.if-not-is_passable.false in
    its_run_stands store c.args.procs.now c.args.who old alone c.requires.ready c.args.number c.in-Some.from c.in-Some.ensures can c.args.cid.0 c.in-Some-connected_server.to c.in-Some-connected_server.ensures c.in-Some-take.loan lent

pub pass-loan-requires-clause-lent : goal.pass-loan-requires-clause-lent
pass-loan-requires-clause-lent g c =
    let store = g.W.SwapStore in
    let old = parts_of c.args.mem.now c.args.threads.now c.args.servers.now c.args.queues.now c.args.log.now in
    let alone = without_processes store c.args.who c.args.procs.now old c.requires.sound in
    let found = shown store c.args.who old alone c.requires.ready c.args.number c.in-Some.from c.in-Some.ensures in
    let lent = sym (c.take.ensures.loan found.held found.is) ∙ c.in-Some-take.is in
    let can = sym c.is_passable.ensures ∙ c.if-not-is_passable.false in
    has_lender store c.args.procs.now c.args.who old alone c.requires.ready c.args.number c.in-Some.from c.in-Some.ensures can c.args.cid.0 c.in-Some-connected_server.to c.in-Some-connected_server.ensures c.in-Some-take.loan lent

pub pass-loan-requires-clause-arrival : goal.pass-loan-requires-clause-arrival
pass-loan-requires-clause-arrival g c =
    let store = g.W.SwapStore in
    let old = parts_of c.args.mem.now c.args.threads.now c.args.servers.now c.args.queues.now c.args.log.now in
    let alone = without_processes store c.args.who c.args.procs.now old c.requires.sound in
    let found = shown store c.args.who old alone c.requires.ready c.args.number c.in-Some.from c.in-Some.ensures in
    let lent = sym (c.take.ensures.loan found.held found.is) ∙ c.in-Some-take.is in
    let can = sym c.is_passable.ensures ∙ c.if-not-is_passable.false in
    subst (IsFreeArrival (processes c.args.mem.now) (ledger store.held c.args.mem.now) (record { pid = c.in-Some-connected_server.to.pid; vpn = c.in-Some-free_run.first }))
    (sym (its_count store c.args.procs.now c.args.who old alone c.requires.ready c.args.number c.in-Some.from c.in-Some.ensures can c.args.cid.0
    c.in-Some-connected_server.to c.in-Some-connected_server.ensures c.in-Some-take.loan lent)) (found_arrival (processes c.args.mem.now) (ledger store.held c.args.mem.now)
    c.in-Some-connected_server.to.pid c.in-Some.from.message.count c.in-Some-free_run.first (to_in_mem store c.args.who old alone c.in-Some-connected_server.to
    c.in-Some-connected_server.ensures) (sym c.in-Some-free_run.ensures))

pub unreachable-requires : goal.unreachable-requires
unreachable-requires g c =
    let store = g.W.SwapStore in
    let old = parts_of c.args.mem.now c.args.threads.now c.args.servers.now c.args.queues.now c.args.log.now in
    let alone = without_processes store c.args.who c.args.procs.now old c.requires.sound in
    let found = shown store c.args.who old alone c.requires.ready c.args.number c.in-Some.from c.in-Some.ensures in
    let can = sym c.is_passable.ensures ∙ c.if-not-is_passable.false in
    false≢true (sym (ap is_some (sym (c.take.ensures.loan found.held found.is) ∙ c.in-None.is)) ∙ has_loan store c.args.who old alone c.requires.ready c.args.number c.in-Some.from c.in-Some.ensures ∙ (and_parts (is_lend c.in-Some.from.message.kind) (is_some c.in-Some.from.message.sender) can).0)

pub moved_to-requires : goal.moved_to-requires
moved_to-requires g c =
    let held = g.W.SwapStore.held in
    arrival_low (processes c.args.mem.now) (ledger held c.args.mem.now) c.in-Some-connected_server.to.pid c.in-Some.from.message.count c.in-Some-free_run.first (sym c.in-Some-free_run.ensures)

pub arrive_and_answer-requires-clause-ready : goal.arrive_and_answer-requires-clause-ready
arrive_and_answer-requires-clause-ready g c =
    c.requires.ready

pub arrive_and_answer-requires-clause-log_room : goal.arrive_and_answer-requires-clause-log_room
arrive_and_answer-requires-clause-log_room g c =
    c.requires.room

pub arrive_and_answer-requires-clause-pid : goal.arrive_and_answer-requires-clause-pid
arrive_and_answer-requires-clause-pid g c =
    let store = g.W.SwapStore in
    let old = parts_of c.args.mem.now c.args.threads.now c.args.servers.now c.args.queues.now c.args.log.now in
    let alone = without_processes store c.args.who c.args.procs.now old c.requires.sound in
    to_bounds store c.args.who old alone c.in-Some-connected_server.to c.in-Some-connected_server.ensures

pub arrive_and_answer-requires-clause-its : goal.arrive_and_answer-requires-clause-its
arrive_and_answer-requires-clause-its g c =
    let store = g.W.SwapStore in
    let old = parts_of c.args.mem.now c.args.threads.now c.args.servers.now c.args.queues.now c.args.log.now in
    let alone = without_processes store c.args.who c.args.procs.now old c.requires.sound in
    to_receivers store c.args.who old alone c.in-Some-connected_server.to c.in-Some-connected_server.ensures

pub arrive_and_answer-requires-clause-seat : goal.arrive_and_answer-requires-clause-seat
arrive_and_answer-requires-clause-seat g c =
    let store = g.W.SwapStore in
    let old = parts_of c.args.mem.now c.args.threads.now c.args.servers.now c.args.queues.now c.args.log.now in
    let alone = without_processes store c.args.who c.args.procs.now old c.requires.sound in
    to_seat store c.args.who old alone c.in-Some-connected_server.to c.in-Some-connected_server.ensures

pub arrive_and_answer-requires-clause-room : goal.arrive_and_answer-requires-clause-room
arrive_and_answer-requires-clause-room g c =
    let store = g.W.SwapStore in
    let old = parts_of c.args.mem.now c.args.threads.now c.args.servers.now c.args.queues.now c.args.log.now in
    let alone = without_processes store c.args.who c.args.procs.now old c.requires.sound in
    let found = shown store c.args.who old alone c.requires.ready c.args.number c.in-Some.from c.in-Some.ensures in
    let lent = sym (c.take.ensures.loan found.held found.is) ∙ c.in-Some-take.is in
    let can = sym c.is_passable.ensures ∙ c.if-not-is_passable.false in
    let apart = sym c.eq.ensures ∙ c.if-eq.false in
    let room = room_left c.is_full.result (used_of (seat_of c.args.queues.now c.in-Some-connected_server.to.seat)) c.is_full.ensures.full c.is_full.ensures.few c.if-is_full.false in
    subst (λ q. used_of (seat_of q c.in-Some-connected_server.to.seat) < MESSAGE_LIMIT) (sym c.take.ensures.rest) (has_room store c.args.procs.now c.args.who old alone c.requires.ready c.args.number c.in-Some.from c.in-Some.ensures can c.args.cid.0 c.in-Some-connected_server.to c.in-Some-connected_server.ensures c.in-Some-take.loan lent apart room)

pub arrive_and_answer-requires-clause-loan : goal.arrive_and_answer-requires-clause-loan
arrive_and_answer-requires-clause-loan g c =
    let store = g.W.SwapStore in
    let old = parts_of c.args.mem.now c.args.threads.now c.args.servers.now c.args.queues.now c.args.log.now in
    let alone = without_processes store c.args.who c.args.procs.now old c.requires.sound in
    let found = shown store c.args.who old alone c.requires.ready c.args.number c.in-Some.from c.in-Some.ensures in
    let lent = sym (c.take.ensures.loan found.held found.is) ∙ c.in-Some-take.is in
    let can = sym c.is_passable.ensures ∙ c.if-not-is_passable.false in
    let apart = sym c.eq.ensures ∙ c.if-eq.false in
    let got = receiver (process_count c.args.threads.now) c.in-Some-connected_server.to.serial (threads_of c.args.threads.now) in
    has_loan_on store c.args.procs.now c.args.who old alone c.requires.ready c.args.number c.in-Some.from c.in-Some.ensures can c.args.cid.0 c.in-Some-connected_server.to c.in-Some-connected_server.ensures c.in-Some-take.loan lent apart c.in-Some-free_run.first (record { msg = c.moved_to.result; loan = Some c.pass-loan.result }) c.moved_to.ensures (ap Some c.pass-loan.ensures.loan) got

pub returns-clause-row : goal.returns-clause-row
unfolding machine_at
returns-clause-row g c =
    let store = g.W.SwapStore in
    let old = parts_of c.args.mem.now c.args.threads.now c.args.servers.now c.args.queues.now c.args.log.now in
    let alone = without_processes store c.args.who c.args.procs.now old c.requires.sound in
    let found = shown store c.args.who old alone c.requires.ready c.args.number c.in-Some.from c.in-Some.ensures in
    let lent = sym (c.take.ensures.loan found.held found.is) ∙ c.in-Some-take.is in
    let can = sym c.is_passable.ensures ∙ c.if-not-is_passable.false in
    let apart = sym c.eq.ensures ∙ c.if-eq.false in
    let room = room_left c.is_full.result (used_of (seat_of c.args.queues.now c.in-Some-connected_server.to.seat)) c.is_full.ensures.full c.is_full.ensures.few c.if-is_full.false in
    let got = receiver (process_count c.args.threads.now) c.in-Some-connected_server.to.serial (threads_of c.args.threads.now) in
    passed_on store c.args.procs.now c.args.who old alone c.requires.ready c.args.number c.args.cid.0 c.in-Some.from c.in-Some.ensures can
    c.in-Some-connected_server.to c.in-Some-connected_server.ensures apart room c.in-Some-free_run.first (sym c.in-Some-free_run.ensures) (record {
      msg =
          c.moved_to.result;
      loan = Some c.pass-loan.result;
    }) (parts_of c.pass-loan.new.self c.arrive_and_answer.new.threads c.args.servers.now c.arrive_and_answer.new.queues
    c.arrive_and_answer.new.log)
    (record {
      message = c.moved_to.ensures;
      threads = c.arrive_and_answer.ensures.threads;
      log = c.arrive_and_answer.ensures.log;
      counted = c.arrive_and_answer.ensures.count;
      servers = refl;
      queues = c.arrive_and_answer.ensures.queues ∙ ap (changed_at c.in-Some-connected_server.to.seat (with_arrived got (record { msg = c.moved_to.result; loan = Some c.pass-loan.result }))) c.take.ensures.rest;
      capacity = ap (λ (s : Size). capacity s.area.frames s.procs s.slots) c.pass-loan.ensures.keeps.size;
      ledger = c.pass-loan.ensures.ledger ∙ pass_is store c.args.procs.now c.args.who old alone c.requires.ready c.args.number c.in-Some.from c.in-Some.ensures can c.args.cid.0 c.in-Some-connected_server.to c.in-Some-connected_server.ensures c.in-Some-take.loan lent c.in-Some-free_run.first;
    })

pub returns-clause-sound : goal.returns-clause-sound
unfolding machine_at
returns-clause-sound g c =
    let store = g.W.SwapStore in
    let old = parts_of c.args.mem.now c.args.threads.now c.args.servers.now c.args.queues.now c.args.log.now in
    let alone = without_processes store c.args.who c.args.procs.now old c.requires.sound in
    let found = shown store c.args.who old alone c.requires.ready c.args.number c.in-Some.from c.in-Some.ensures in
    let lent = sym (c.take.ensures.loan found.held found.is) ∙ c.in-Some-take.is in
    let can = sym c.is_passable.ensures ∙ c.if-not-is_passable.false in
    let apart = sym c.eq.ensures ∙ c.if-eq.false in
    let got = receiver (process_count c.args.threads.now) c.in-Some-connected_server.to.serial (threads_of c.args.threads.now) in
    let left : ledger store.held c.pass-loan.new.self ≡ (pass c.args.number (record { pid = c.args.who.pid; vpn = c.in-Some.from.message.first }) (record {
      pid =
          c.in-Some-connected_server.to.pid;
      vpn = c.in-Some-free_run.first;
    }) (ledger store.held c.args.mem.now)) = c.pass-loan.ensures.ledger ∙ pass_is store c.args.procs.now
    c.args.who old alone c.requires.ready c.args.number c.in-Some.from c.in-Some.ensures can c.args.cid.0 c.in-Some-connected_server.to
    c.in-Some-connected_server.ensures c.in-Some-take.loan lent c.in-Some-free_run.first in
    let queues : c.arrive_and_answer.new.queues ≡ changed_at c.in-Some-connected_server.to.seat (with_arrived got (record { msg = c.moved_to.result; loan = Some c.pass-loan.result })) (changed_at c.in-Some.from.seat (without_held c.args.number) c.args.queues.now) =
    c.arrive_and_answer.ensures.queues ∙ ap (changed_at c.in-Some-connected_server.to.seat (with_arrived got (record { msg = c.moved_to.result; loan = Some c.pass-loan.result }))) c.take.ensures.rest in
    record {
      machine = record (with_processes c.args.procs.now c.requires.sound.machine) { steps = c.requires.sound.machine.steps + 1 };
      matched = still_matched store c.args.who c.args.procs.now old c.requires.sound c.requires.ready c.args.number c.args.cid.0 (parts_of c.pass-loan.new.self c.arrive_and_answer.new.threads c.args.servers.now c.arrive_and_answer.new.queues c.arrive_and_answer.new.log) (returns-clause-row g c c.requires.sound.machine);
      mem = c.pass-loan.ensures.keeps.sound;
      processes = c.arrive_and_answer.ensures.count ∙ c.requires.sound.processes ∙ sym (ap (λ (s : Size). s.procs) c.pass-loan.ensures.keeps.size);
      seats = subst (AreSeatsSound (servers_of c.args.servers.now)) (sym queues) (seats_on store c.args.procs.now c.args.who old alone c.requires.ready
          c.args.number c.in-Some.from c.in-Some.ensures can c.args.cid.0 c.in-Some-connected_server.to c.in-Some-connected_server.ensures c.in-Some-take.loan lent
          apart c.in-Some-free_run.first (record { msg = c.moved_to.result; loan = Some c.pass-loan.result }) c.moved_to.ensures (ap Some c.pass-loan.ensures.loan)
          got);
      loans = subst (λ l. AreLoansSound (loans l) (servers_of c.args.servers.now) c.arrive_and_answer.new.queues) (sym left)
          (subst (AreLoansSound (loans (pass c.args.number (record { pid = c.args.who.pid; vpn = c.in-Some.from.message.first }) (record { pid = c.in-Some-connected_server.to.pid; vpn = c.in-Some-free_run.first }) (ledger store.held c.args.mem.now))) (servers_of c.args.servers.now)) (sym queues)
          (loans_on store c.args.procs.now c.args.who old alone c.requires.ready c.args.number c.in-Some.from c.in-Some.ensures can c.args.cid.0
          c.in-Some-connected_server.to c.in-Some-connected_server.ensures c.in-Some-take.loan lent apart c.in-Some-free_run.first (record {
            msg = c.moved_to.result;
            loan = Some c.pass-loan.result;
          }) c.moved_to.ensures (ap Some c.pass-loan.ensures.loan) got (stood_on left c.pass-loan.ensures.loan
          c.pass-loan.ensures.stands)));
      procs = c.requires.sound.procs ∙ sym c.arrive_and_answer.ensures.count;
    }

pub returns-clause-mem : goal.returns-clause-mem
returns-clause-mem g c =
    record { size = c.pass-loan.ensures.keeps.size; store = c.pass-loan.ensures.keeps.store; failed = c.pass-loan.ensures.keeps.failed; none = c.pass-loan.ensures.keeps.none; means = c.pass-loan.ensures.keeps.means }
