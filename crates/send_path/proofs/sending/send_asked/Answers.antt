use Rattle.std.proofs.Common.{◌+◌, ◌/◌, refl, sym, ap, subst, ◌∙◌}
use Rattle.std.specs.Prelude.{slice_index_or}
use Rattle.boot_plan.specs.Capacity.{capacity}
use Rattle.ledger_model.specs.Loans.{Stands, loans}
use Rattle.machine_model.specs.Messaging.SendCalls.{send_call, sent_ledger}
use Rattle.machine_model.specs.State.Changes.{replies}
use Rattle.machine_model.specs.State.Threads.{passed}
use Rattle.msg_queue.specs.Seats.{seat_of, used_of}
use Rattle.server_table.specs.ServersOf.{servers_of}
use Rattle.thread_table.specs.ThreadMap.{receiver}
use Rattle.thread_table.specs.Shown.{process_count, threads_of}
use Rattle.vm_memory.specs.Memory.{Size, ledger, processes}
use Rattle.xk_base.specs.declared.ids.Place.{Place}
use Rattle.xk_base.specs.declared.errors.XousError.TheVariants.{InvalidSyscall, MemoryInUse, ServerNotFound}
use Rattle.send_path.specs.Arrivals.{arrival_answers, waiting_if}
use Rattle.xk_parts.specs.Parts.{machine_at}
use Rattle.send_path.proofs.Taken.{parts_of, with_next, without_processes}
use Rattle.xk_parts.specs.Shown.{threads_shown}
use Rattle.send_path.specs.Rows.{log_with}
use Rattle.send_path.specs.Sending.{MayGo, asked_words}
use Rattle.xk_parts.specs.Sound.{AreLoansSound, AreSeatsSound}
use Rattle.xk_parts.specs.Threads.{answered, changed_thread}
use Rattle.send_path.proofs.Sends.MatchedSendLemmas.{rest, sent_matched}
use Rattle.send_path.proofs.Sends.SendLemmas.{first_low, full_row, held_loan, may_go, no_kind_row, no_run_row, no_server_row, other_error, pages_error, pages_row, run_row}
use Rattle.send_path.proofs.Servers.ReachedLemmas.{caller_bounds, caller_in_mem, room_left, to_bounds, to_in_mem, to_receivers, to_seat}
use Rattle.send_path.proofs.Sends.SentLemmas.{at_send, message_at, sent_row}
use Rattle.send_path.proofs.Sends.SentSoundLemmas.{arrived_loans, arrived_seats, made_if_lend, others_stand_after}
use Rattle.send_path.proofs.sending.send_asked.Goals as goal

pub connected_server-requires : goal.connected_server-requires
connected_server-requires g c =
    let store = g.W.SwapStore in
    let old = parts_of c.args.mem.now c.args.threads.now c.args.servers.now c.args.queues.now c.args.log.now in
    caller_bounds store c.args.who c.args.procs.now old c.requires.sound c.requires.ready

pub returns-in_default-clause-row : goal.returns-in_default-clause-row
unfolding machine_at
returns-in_default-clause-row g c =
    let store = g.W.SwapStore in
    let old = parts_of c.args.mem.now c.args.threads.now c.args.servers.now c.args.queues.now c.args.log.now in
    (refl, other_error ServerNotFound refl, λ m. no_server_row store c.args.who c.args.procs.now c.args.number old c.requires.sound c.requires.above c.args.asked c.in_default.ensures m)

pub returns-in_default-kind_of-clause-row : goal.returns-in_default-kind_of-clause-row
unfolding machine_at
returns-in_default-kind_of-clause-row g c =
    let store = g.W.SwapStore in
    let old = parts_of c.args.mem.now c.args.threads.now c.args.servers.now c.args.queues.now c.args.log.now in
    (refl, other_error InvalidSyscall refl, λ m. no_kind_row store c.args.who c.args.procs.now c.args.number old c.requires.sound c.requires.above c.args.asked c.in-Some.to c.in-Some.ensures (sym c.in_default-kind_of.ensures) m)

pub test_pages-requires-clause-process : goal.test_pages-requires-clause-process
test_pages-requires-clause-process g c =
    let store = g.W.SwapStore in
    let old = parts_of c.args.mem.now c.args.threads.now c.args.servers.now c.args.queues.now c.args.log.now in
    caller_in_mem store c.args.who c.args.procs.now old c.requires.sound c.requires.ready

pub returns-in-Err-clause-row : goal.returns-in-Err-clause-row
unfolding machine_at
returns-in-Err-clause-row g c =
    let store = g.W.SwapStore in
    let old = parts_of c.args.mem.now c.args.threads.now c.args.servers.now c.args.queues.now c.args.log.now in (
      refl,
      pages_error store c.args.who c.args.procs.now c.args.number old c.requires.sound c.requires.above c.args.asked c.in-Some.to c.in-Some.ensures c.in-Some-kind_of.kind (sym c.in-Some-kind_of.ensures) c.in-Err.error (sym c.in-Err.ensures),
      λ m. pages_row store c.args.who c.args.procs.now c.args.number old c.requires.sound c.requires.above c.args.asked c.in-Some.to c.in-Some.ensures c.in-Some-kind_of.kind (sym c.in-Some-kind_of.ensures) c.in-Err.error (sym c.in-Err.ensures) m,
    )

pub is_full-requires : goal.is_full-requires
is_full-requires g c =
    let store = g.W.SwapStore in
    let old = parts_of c.args.mem.now c.args.threads.now c.args.servers.now c.args.queues.now c.args.log.now in
    let alone = without_processes store c.args.who c.args.procs.now old c.requires.sound in
    to_seat store c.args.who old alone c.in-Some.to c.in-Some.ensures

pub returns-then-is_full-clause-row : goal.returns-then-is_full-clause-row
unfolding machine_at
returns-then-is_full-clause-row g c =
    let store = g.W.SwapStore in
    let old = parts_of c.args.mem.now c.args.threads.now c.args.servers.now c.args.queues.now c.args.log.now in
    (refl, λ m. full_row store c.args.who c.args.procs.now c.args.number old c.requires.sound c.requires.above c.args.asked c.in-Some.to c.in-Some.ensures c.in-Some-kind_of.kind (sym c.in-Some-kind_of.ensures) (sym c.in-Ok.ensures) (c.is_full.ensures.full.0 c.if-is_full.true) m)

pub arrival-requires-clause-process : goal.arrival-requires-clause-process
arrival-requires-clause-process g c =
    let store = g.W.SwapStore in
    let old = parts_of c.args.mem.now c.args.threads.now c.args.servers.now c.args.queues.now c.args.log.now in
    let alone = without_processes store c.args.who c.args.procs.now old c.requires.sound in
    to_in_mem store c.args.who old alone c.in-Some.to c.in-Some.ensures

pub returns-in_default-arrival-clause-row : goal.returns-in_default-arrival-clause-row
unfolding machine_at
returns-in_default-arrival-clause-row g c =
    let store = g.W.SwapStore in
    let old = parts_of c.args.mem.now c.args.threads.now c.args.servers.now c.args.queues.now c.args.log.now in
    let room = room_left c.is_full.result (used_of (seat_of c.args.queues.now c.in-Some.to.seat)) c.is_full.ensures.full c.is_full.ensures.few c.if-is_full.false in
    (refl, other_error MemoryInUse refl, λ m. no_run_row store c.args.who c.args.procs.now c.args.number old c.requires.sound c.requires.above c.args.asked c.in-Some.to c.in-Some.ensures c.in-Some-kind_of.kind (sym c.in-Some-kind_of.ensures) (sym c.in-Ok.ensures) room (sym c.in_default-arrival.ensures) m)

pub carry-loan-requires-clause-may : goal.carry-loan-requires-clause-may
carry-loan-requires-clause-may g c =
    let store = g.W.SwapStore in
    let old = parts_of c.args.mem.now c.args.threads.now c.args.servers.now c.args.queues.now c.args.log.now in
    let alone = without_processes store c.args.who c.args.procs.now old c.requires.sound in
    let room = room_left c.is_full.result (used_of (seat_of c.args.queues.now c.in-Some.to.seat)) c.is_full.ensures.full c.is_full.ensures.few c.if-is_full.false in
    λ carries.
    subst (λ (from : Place). MayGo (processes c.args.mem.now) (ledger store.held c.args.mem.now)
    (record { kind = c.in-Some-kind_of.kind; from = from; count = slice_index_or c.args.asked.words 1 0 / 4096; to = record { pid = c.in-Some.to.pid; vpn = c.in-Some-arrival.first }; number = c.args.number }))
    (sym c.page_of-from.ensures) (may_go store c.args.who c.args.procs.now c.args.number old c.requires.sound c.requires.above c.args.asked c.in-Some.to c.in-Some.ensures c.in-Some-kind_of.kind (sym c.in-Some-kind_of.ensures) (sym c.in-Ok.ensures) room c.in-Some-arrival.first (sym c.in-Some-arrival.ensures) carries (to_in_mem store c.args.who old alone c.in-Some.to c.in-Some.ensures))

pub new_message-msg-requires : goal.new_message-msg-requires
new_message-msg-requires g c =
    let store = g.W.SwapStore in
    let old = parts_of c.args.mem.now c.args.threads.now c.args.servers.now c.args.queues.now c.args.log.now in
    let room = room_left c.is_full.result (used_of (seat_of c.args.queues.now c.in-Some.to.seat)) c.is_full.ensures.full c.is_full.ensures.few c.if-is_full.false in
    λ carries. first_low store c.args.who c.args.procs.now c.args.number old c.requires.sound c.requires.above c.args.asked c.in-Some.to c.in-Some.ensures c.in-Some-kind_of.kind (sym c.in-Some-kind_of.ensures) (sym c.in-Ok.ensures) room c.in-Some-arrival.first (sym c.in-Some-arrival.ensures) carries

pub arrive_and_answer-requires-clause-pid : goal.arrive_and_answer-requires-clause-pid
arrive_and_answer-requires-clause-pid g c =
    let store = g.W.SwapStore in
    let old = parts_of c.args.mem.now c.args.threads.now c.args.servers.now c.args.queues.now c.args.log.now in
    let alone = without_processes store c.args.who c.args.procs.now old c.requires.sound in
    to_bounds store c.args.who old alone c.in-Some.to c.in-Some.ensures

pub arrive_and_answer-requires-clause-its : goal.arrive_and_answer-requires-clause-its
arrive_and_answer-requires-clause-its g c =
    let store = g.W.SwapStore in
    let old = parts_of c.args.mem.now c.args.threads.now c.args.servers.now c.args.queues.now c.args.log.now in
    let alone = without_processes store c.args.who c.args.procs.now old c.requires.sound in
    to_receivers store c.args.who old alone c.in-Some.to c.in-Some.ensures

pub arrive_and_answer-requires-clause-seat : goal.arrive_and_answer-requires-clause-seat
arrive_and_answer-requires-clause-seat g c =
    let store = g.W.SwapStore in
    let old = parts_of c.args.mem.now c.args.threads.now c.args.servers.now c.args.queues.now c.args.log.now in
    let alone = without_processes store c.args.who c.args.procs.now old c.requires.sound in
    to_seat store c.args.who old alone c.in-Some.to c.in-Some.ensures

pub arrive_and_answer-requires-clause-loan : goal.arrive_and_answer-requires-clause-loan
arrive_and_answer-requires-clause-loan g c =
    let held = g.W.SwapStore.held in
    let old = parts_of c.args.mem.now c.args.threads.now c.args.servers.now c.args.queues.now c.args.log.now in
    made_if_lend (record { msg = c.new_message-msg.result; loan = c.carry-loan.result }) c.in-Some-kind_of.kind c.page_of-from.result (slice_index_or c.args.asked.words 1 0 / 4096) (record { pid = c.in-Some.to.pid; vpn = c.in-Some-arrival.first }) c.args.number
    (ap (λ x. x.kind) (message_at held c.args.who c.args.procs.now c.args.number old c.new_message-msg.result c.in-Some-kind_of.kind (asked_words c.args.asked) c.in-Some-arrival.first c.new_message-msg.ensures c.requires.sound.machine))
    c.carry-loan.ensures.loan

pub returns-clause-row : goal.returns-clause-row
unfolding machine_at
returns-clause-row g c =
    let store = g.W.SwapStore in
    let old = parts_of c.args.mem.now c.args.threads.now c.args.servers.now c.args.queues.now c.args.log.now in
    let room = room_left c.is_full.result (used_of (seat_of c.args.queues.now c.in-Some.to.seat)) c.is_full.ensures.full c.is_full.ensures.few c.if-is_full.false in
    λ m.
    sent_row store.held c.args.who c.args.procs.now c.args.number old c.args.asked.cid.0 c.in-Some.to c.in-Some.ensures c.requires.sound.seats.all (asked_words c.args.asked) refl
    c.in-Some-kind_of.kind c.in-Some-arrival.first (record { msg = c.new_message-msg.result; loan = c.carry-loan.result }) m (message_at store.held c.args.who c.args.procs.now
    c.args.number old c.new_message-msg.result c.in-Some-kind_of.kind (asked_words c.args.asked) c.in-Some-arrival.first c.new_message-msg.ensures m) (parts_of
    c.carry-loan.new.mem c.arrive_and_answer.new.threads c.args.servers.now c.arrive_and_answer.new.queues c.arrive_and_answer.new.log)
    (record {
      threads = c.arrive_and_answer.ensures.threads
          ∙ ap (λ waits. answered (arrival_answers (receiver (process_count c.args.threads.now) c.in-Some.to.serial (threads_of c.args.threads.now)) c.new_message-msg.result waits c.args.who) (changed_thread c.args.who passed (waiting_if waits c.args.who (threads_shown c.args.threads.now)))) c.awaited-waits.ensures;
      log = c.arrive_and_answer.ensures.log
          ∙ ap (λ waits. log_with (replies (process_count c.args.threads.now) (arrival_answers (receiver (process_count c.args.threads.now) c.in-Some.to.serial (threads_of c.args.threads.now)) c.new_message-msg.result waits c.args.who)) c.args.log.now) c.awaited-waits.ensures;
      same_count = c.arrive_and_answer.ensures.count;
      servers = refl;
      queues = c.arrive_and_answer.ensures.queues;
      capacity = ap (λ (s : Size). capacity s.area.frames s.procs s.slots) c.carry-loan.ensures.keeps.size;
      ledger = c.carry-loan.ensures.ledger
          ∙ ap (λ (from : Place). sent_ledger c.in-Some-kind_of.kind from (slice_index_or c.args.asked.words 1 0 / 4096) (record { pid = c.in-Some.to.pid; vpn = c.in-Some-arrival.first }) c.args.number (ledger store.held c.args.mem.now)) c.page_of-from.ensures;
    }) (send_call (at_send store.held c.args.who c.args.procs.now c.args.number old m) (asked_words c.args.asked)) (run_row store c.args.who c.args.procs.now c.args.number old c.requires.sound c.requires.above c.args.asked c.in-Some.to c.in-Some.ensures c.in-Some-kind_of.kind (sym c.in-Some-kind_of.ensures) (sym c.in-Ok.ensures) room c.in-Some-arrival.first (sym c.in-Some-arrival.ensures) m)

pub returns-clause-sound : goal.returns-clause-sound
unfolding machine_at
returns-clause-sound g c =
    let store = g.W.SwapStore in
    let old = parts_of c.args.mem.now c.args.threads.now c.args.servers.now c.args.queues.now c.args.log.now in
    let alone = without_processes store c.args.who c.args.procs.now old c.requires.sound in
    let room = room_left c.is_full.result (used_of (seat_of c.args.queues.now c.in-Some.to.seat)) c.is_full.ensures.full c.is_full.ensures.few c.if-is_full.false in
    let m = c.requires.sound.machine in
    let message = (message_at store.held c.args.who c.args.procs.now c.args.number old c.new_message-msg.result c.in-Some-kind_of.kind (asked_words c.args.asked) c.in-Some-arrival.first c.new_message-msg.ensures m) in
    let got = (receiver (process_count c.args.threads.now) c.in-Some.to.serial (threads_of c.args.threads.now)) in
    let lend = made_if_lend (record { msg = c.new_message-msg.result; loan = c.carry-loan.result }) c.in-Some-kind_of.kind c.page_of-from.result (slice_index_or c.args.asked.words 1 0 / 4096) (record { pid = c.in-Some.to.pid; vpn = c.in-Some-arrival.first }) c.args.number (ap (λ x. x.kind) message) c.carry-loan.ensures.loan in
    let late = rest store c.args.who c.args.procs.now c.args.number old c.requires.sound c.requires.above in
    record {
      machine = record (with_next c.args.procs.now (c.args.number.0 + 1) late) { steps = late.steps + 1 };
      matched = sent_matched store c.args.who c.args.procs.now c.args.number old c.requires.sound c.requires.above c.requires.ready (asked_words c.args.asked) c.requires.waits (parts_of c.carry-loan.new.mem c.arrive_and_answer.new.threads c.args.servers.now c.arrive_and_answer.new.queues c.arrive_and_answer.new.log) (returns-clause-row g c late);
      mem = c.carry-loan.ensures.sound;
      processes = c.arrive_and_answer.ensures.count ∙ c.requires.sound.processes
          ∙ sym (ap (λ (s : Size). s.procs) c.carry-loan.ensures.keeps.size);
      seats = subst (λ q. AreSeatsSound (servers_of c.args.servers.now) q) (sym c.arrive_and_answer.ensures.queues)
          (arrived_seats c.args.servers.now c.args.queues.now c.in-Some.to.serial.0 c.in-Some.to.seat c.requires.sound.seats c.in-Some.ensures.seat got (record { msg = c.new_message-msg.result; loan = c.carry-loan.result }) lend);
      loans = subst (λ q. AreLoansSound (loans (ledger store.held c.carry-loan.new.mem)) (servers_of c.args.servers.now) q)
          (sym c.arrive_and_answer.ensures.queues)
          (arrived_loans c.args.servers.now c.args.queues.now c.args.number c.requires.above (loans (ledger store.held c.args.mem.now))
          (loans (ledger store.held c.carry-loan.new.mem))
          (λ run other stands. subst (λ l. Stands (loans l) run) (sym c.carry-loan.ensures.ledger)
          (others_stand_after (processes c.args.mem.now) (ledger store.held c.args.mem.now) c.page_of-from.result (slice_index_or c.args.asked.words 1 0 / 4096) (record { pid = c.in-Some.to.pid; vpn = c.in-Some-arrival.first })
          c.args.number c.in-Some-kind_of.kind (λ carries. subst (λ (from : Place). MayGo (processes c.args.mem.now) (ledger store.held c.args.mem.now)
          (record { kind = c.in-Some-kind_of.kind; from = from; count = slice_index_or c.args.asked.words 1 0 / 4096; to = record { pid = c.in-Some.to.pid; vpn = c.in-Some-arrival.first }; number = c.args.number }))
          (sym c.page_of-from.ensures) (may_go store c.args.who c.args.procs.now c.args.number old c.requires.sound c.requires.above c.args.asked c.in-Some.to
          c.in-Some.ensures c.in-Some-kind_of.kind (sym c.in-Some-kind_of.ensures) (sym c.in-Ok.ensures) room c.in-Some-arrival.first (sym c.in-Some-arrival.ensures)
          carries (to_in_mem store c.args.who old alone c.in-Some.to c.in-Some.ensures))) run other stands))
          c.requires.sound.loans c.in-Some.to.serial.0 c.in-Some.to.seat c.in-Some.ensures.seat c.requires.sound.seats.all got (record { msg = c.new_message-msg.result; loan = c.carry-loan.result })
          (held_loan store.held c.args.who c.args.procs.now c.args.number old c.in-Some-kind_of.kind (asked_words c.args.asked) c.page_of-from.result (record { pid = c.in-Some.to.pid; vpn = c.in-Some-arrival.first })
          (ap (λ (p : Place). p.pid) c.page_of-from.ensures) (loans (ledger store.held c.carry-loan.new.mem)) (record { msg = c.new_message-msg.result; loan = c.carry-loan.result }) m message
          c.carry-loan.ensures.loan c.carry-loan.ensures.stands c.in-Some.ensures.seat.server.pid c.in-Some.ensures.own));
      procs = c.requires.sound.procs ∙ sym c.arrive_and_answer.ensures.count;
    }
