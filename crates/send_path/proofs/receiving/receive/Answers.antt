use Rattle.std.proofs.Common.{◌<◌, ◌+◌, [], ◌∷◌, refl, sym, ap, subst, ◌∙◌}
use Rattle.machine_model.specs.State.Threads.{passed, answer_to}
use Rattle.msg_queue.specs.Seats.{seat_of, used_of, without_queued_at}
use Rattle.xk_base.specs.declared.records.What.TheVariants.{Reply}
use Rattle.send_path.proofs.Taken.{CallTables}
use Rattle.xk_parts.specs.Shown.{threads_shown}
use Rattle.send_path.specs.Rows.{log_with}
use Rattle.xk_parts.specs.Seats.{HasLoanIfLend}
use Rattle.xk_parts.specs.Sound.{AreLoansSound, AreSeatsSound}
use Rattle.xk_parts.specs.Threads.{answered, changed_thread}
use Rattle.server_table.specs.ServersOf.{servers_of}
use Rattle.send_path.proofs.Receivers.ReceiveLemmas.{message_got, not_found, still_matched, taken_from, taken_loans, taken_sound, told_none, waited}
use Rattle.send_path.proofs.Servers.SeatLemmas.{seat_changed, seat_in_limit, seat_is_there}
use Rattle.send_path.proofs.Servers.SoundLemmas.{nothing_taken, oldest_too, one_fewer, slots_few, unchanged_at}
use Rattle.xk_parts.proofs.ThreadLemmas.{ready_id}
use Rattle.send_path.proofs.receiving.receive.Goals as goal

pub returns-in_default-clause-row : goal.returns-in_default-clause-row
returns-in_default-clause-row c = (
  refl,
  λ m. not_found c.args.who
      (record { threads = c.args.threads.now; servers = c.args.servers.now; queues = c.args.queues.now; log = c.args.log.now })
      c.args.sid c.args.wait_for_one (sym c.in_default.ensures.serial) m,
)

pub take_oldest-requires : goal.take_oldest-requires
take_oldest-requires c =
    seat_in_limit c.args.servers.now c.args.queues.now c.in-Some.field-0.serial.0 c.in-Some.field-0.seat c.in-Some.ensures.seat c.requires.sound.seats.all

pub keep_received-requires-clause-room : goal.keep_received-requires-clause-room
keep_received-requires-clause-room c =
    let k = c.in-Some.field-0.seat in
    let q = c.args.queues.now in
    subst (λ s. used_of (seat_of s k) < 128) (sym c.take_oldest.ensures.rest)
    (subst (λ seat. used_of seat < 128)
    (sym (seat_changed q k (without_queued_at 0) (seat_is_there c.args.servers.now q c.in-Some.field-0.serial.0 k c.in-Some.ensures.seat c.requires.sound.seats.all)))
    (one_fewer (seat_of q k) c.in-Some-take_oldest.message (sym c.in-Some-take_oldest.ensures.message)
    (slots_few c.args.who
    (record { threads = c.args.threads.now; servers = c.args.servers.now; queues = c.args.queues.now; log = c.args.log.now })
    c.in-Some.field-0.serial.0 k c.requires.sound c.in-Some.ensures.seat)))

pub keep_received-requires-clause-loan : goal.keep_received-requires-clause-loan
keep_received-requires-clause-loan c =
    oldest_too HasLoanIfLend (seat_of c.args.queues.now c.in-Some.field-0.seat) c.in-Some-take_oldest.message (sym c.in-Some-take_oldest.ensures.message)
    (c.requires.sound.seats.loans c.in-Some.field-0.seat)

pub returns-in-Some-take_oldest-clause-row : goal.returns-in-Some-take_oldest-clause-row
returns-in-Some-take_oldest-clause-row c =
    let k = c.in-Some.field-0.seat in
    let h = c.in-Some-take_oldest.message in
    let old : CallTables = record { threads = c.args.threads.now; servers = c.args.servers.now; queues = c.args.queues.now; log = c.args.log.now } in
    let new : CallTables = record { threads = c.answer_caller.new.threads; servers = c.args.servers.now; queues = c.keep_received.new.queues; log = c.answer_caller.new.log } in
    message_got c.args.who old c.args.sid c.args.wait_for_one c.in-Some.field-0.serial k (sym c.in-Some.ensures.serial) c.in-Some.ensures.seat
    c.requires.sound.seats.all h (sym c.in-Some-take_oldest.ensures.message) new
    (record {
      threads = c.answer_caller.ensures.after
          ∙ ap (λ words. answered (answer_to c.args.who words) (changed_thread c.args.who passed (threads_shown c.args.threads.now))) c.reply_words-words.ensures;
      procs = c.answer_caller.ensures.count;
      servers = refl;
      queues = taken_from c.args.queues.now c.take_oldest.new.self c.keep_received.new.queues k h
          (seat_is_there c.args.servers.now c.args.queues.now c.in-Some.field-0.serial.0 k c.in-Some.ensures.seat c.requires.sound.seats.all)
          c.take_oldest.ensures.rest c.keep_received.ensures;
      log = c.answer_caller.ensures.log ∙ ap (λ words. log_with (Reply c.args.who words ∷ []) c.args.log.now) c.reply_words-words.ensures;
      id = ready_id c.args.threads.now c.args.who c.requires.ready;
    })

pub returns-in-Some-take_oldest-clause-sound : goal.returns-in-Some-take_oldest-clause-sound
returns-in-Some-take_oldest-clause-sound c =
    let k = c.in-Some.field-0.seat in
    let h = c.in-Some-take_oldest.message in
    let old : CallTables = record { threads = c.args.threads.now; servers = c.args.servers.now; queues = c.args.queues.now; log = c.args.log.now } in
    let new : CallTables = record { threads = c.answer_caller.new.threads; servers = c.args.servers.now; queues = c.keep_received.new.queues; log = c.answer_caller.new.log } in
    record {
      machine = record c.requires.sound.machine { steps = c.requires.sound.machine.steps + 1 };
      matched = still_matched c.args.who old new c.args.sid c.args.wait_for_one c.requires.sound.machine c.requires.sound.matched c.requires.ready c.requires.waits
          (returns-in-Some-take_oldest-clause-row c c.requires.sound.machine);
      mem = tt;
      processes = tt;
      procs = tt;
      seats = subst (λ q. AreSeatsSound (servers_of c.args.servers.now) q)
          (sym (taken_from c.args.queues.now c.take_oldest.new.self c.keep_received.new.queues k h
          (seat_is_there c.args.servers.now c.args.queues.now c.in-Some.field-0.serial.0 k c.in-Some.ensures.seat c.requires.sound.seats.all)
          c.take_oldest.ensures.rest c.keep_received.ensures))
          (taken_sound c.args.who old c.in-Some.field-0.serial.0 k h c.requires.sound c.in-Some.ensures.seat (sym c.in-Some-take_oldest.ensures.message));
      loans = tt;
    }

pub returns-in-Some-take_oldest-clause-loans : goal.returns-in-Some-take_oldest-clause-loans
returns-in-Some-take_oldest-clause-loans c = λ all sound.
    let k = c.in-Some.field-0.seat in
    let h = c.in-Some-take_oldest.message in
    let q = c.args.queues.now in
    subst (λ seats. AreLoansSound all (servers_of c.args.servers.now) seats)
    (sym (taken_from q c.take_oldest.new.self c.keep_received.new.queues k h
    (seat_is_there c.args.servers.now q c.in-Some.field-0.serial.0 k c.in-Some.ensures.seat c.requires.sound.seats.all)
    c.take_oldest.ensures.rest c.keep_received.ensures))
    (taken_loans c.args.servers.now q c.in-Some.field-0.serial.0 k c.in-Some.ensures.seat c.requires.sound.seats.all h
    (sym c.in-Some-take_oldest.ensures.message) all sound)

pub returns-then-wait_for_one-clause-row : goal.returns-then-wait_for_one-clause-row
returns-then-wait_for_one-clause-row c =
    let k = c.in-Some.field-0.seat in
    let none = sym c.in_default-take_oldest.ensures.message in
    let old : CallTables = record { threads = c.args.threads.now; servers = c.args.servers.now; queues = c.args.queues.now; log = c.args.log.now } in
    let new : CallTables = record { threads = c.pass.new.threads; servers = c.args.servers.now; queues = c.take_oldest.new.self; log = c.args.log.now } in
    waited c.args.who old c.args.sid c.args.wait_for_one c.in-Some.field-0.serial k (sym c.in-Some.ensures.serial) c.in-Some.ensures.seat
    c.requires.sound.seats.all none new
    (c.take_oldest.ensures.rest ∙ unchanged_at c.args.queues.now k (without_queued_at 0) (nothing_taken (seat_of c.args.queues.now k) none))
    refl (c.pass.ensures.count ∙ c.wait.ensures.count) c.if-wait_for_one.true
    (c.pass.ensures.after ∙ ap (changed_thread c.args.who passed) c.wait.ensures.after) refl

pub returns-then-wait_for_one-clause-sound : goal.returns-then-wait_for_one-clause-sound
returns-then-wait_for_one-clause-sound c =
    let k = c.in-Some.field-0.seat in
    let none = sym c.in_default-take_oldest.ensures.message in
    let old : CallTables = record { threads = c.args.threads.now; servers = c.args.servers.now; queues = c.args.queues.now; log = c.args.log.now } in
    let new : CallTables = record { threads = c.pass.new.threads; servers = c.args.servers.now; queues = c.take_oldest.new.self; log = c.args.log.now } in
    record {
      machine = record c.requires.sound.machine { steps = c.requires.sound.machine.steps + 1 };
      matched = still_matched c.args.who old new c.args.sid c.args.wait_for_one c.requires.sound.machine c.requires.sound.matched c.requires.ready c.requires.waits
          (returns-then-wait_for_one-clause-row c c.requires.sound.machine);
      mem = tt;
      processes = tt;
      procs = tt;
      seats = subst (λ q. AreSeatsSound (servers_of c.args.servers.now) q)
          (sym (c.take_oldest.ensures.rest ∙ unchanged_at c.args.queues.now k (without_queued_at 0) (nothing_taken (seat_of c.args.queues.now k) none)))
          c.requires.sound.seats;
      loans = tt;
    }

pub returns-then-wait_for_one-clause-loans : goal.returns-then-wait_for_one-clause-loans
returns-then-wait_for_one-clause-loans c = λ all sound.
    let k = c.in-Some.field-0.seat in
    subst (λ q. AreLoansSound all (servers_of c.args.servers.now) q)
    (sym (c.take_oldest.ensures.rest
    ∙ unchanged_at c.args.queues.now k (without_queued_at 0) (nothing_taken (seat_of c.args.queues.now k) (sym c.in_default-take_oldest.ensures.message))))
    sound

pub returns-else-wait_for_one-clause-row : goal.returns-else-wait_for_one-clause-row
returns-else-wait_for_one-clause-row c =
    let k = c.in-Some.field-0.seat in
    let none = sym c.in_default-take_oldest.ensures.message in
    let old : CallTables = record { threads = c.args.threads.now; servers = c.args.servers.now; queues = c.args.queues.now; log = c.args.log.now } in
    let new : CallTables = record { threads = c.answer_caller-else-wait_for_one.new.threads; servers = c.args.servers.now; queues = c.take_oldest.new.self; log = c.answer_caller-else-wait_for_one.new.log } in
    told_none c.args.who old c.args.sid c.args.wait_for_one c.in-Some.field-0.serial k (sym c.in-Some.ensures.serial) c.in-Some.ensures.seat
    c.requires.sound.seats.all none new
    (c.take_oldest.ensures.rest ∙ unchanged_at c.args.queues.now k (without_queued_at 0) (nothing_taken (seat_of c.args.queues.now k) none))
    refl c.answer_caller-else-wait_for_one.ensures.count c.if-wait_for_one.false
    (c.answer_caller-else-wait_for_one.ensures.after
    ∙ ap (λ words. answered (answer_to c.args.who words) (changed_thread c.args.who passed (threads_shown c.args.threads.now))) c.reply_words.ensures)
    (c.answer_caller-else-wait_for_one.ensures.log ∙ ap (λ words. log_with (Reply c.args.who words ∷ []) c.args.log.now) c.reply_words.ensures)
    (ready_id c.args.threads.now c.args.who c.requires.ready)

pub returns-else-wait_for_one-clause-sound : goal.returns-else-wait_for_one-clause-sound
returns-else-wait_for_one-clause-sound c =
    let k = c.in-Some.field-0.seat in
    let none = sym c.in_default-take_oldest.ensures.message in
    let old : CallTables = record { threads = c.args.threads.now; servers = c.args.servers.now; queues = c.args.queues.now; log = c.args.log.now } in
    let new : CallTables = record { threads = c.answer_caller-else-wait_for_one.new.threads; servers = c.args.servers.now; queues = c.take_oldest.new.self; log = c.answer_caller-else-wait_for_one.new.log } in
    record {
      machine = record c.requires.sound.machine { steps = c.requires.sound.machine.steps + 1 };
      matched = still_matched c.args.who old new c.args.sid c.args.wait_for_one c.requires.sound.machine c.requires.sound.matched c.requires.ready c.requires.waits
          (returns-else-wait_for_one-clause-row c c.requires.sound.machine);
      mem = tt;
      processes = tt;
      procs = tt;
      seats = subst (λ q. AreSeatsSound (servers_of c.args.servers.now) q)
          (sym (c.take_oldest.ensures.rest ∙ unchanged_at c.args.queues.now k (without_queued_at 0) (nothing_taken (seat_of c.args.queues.now k) none)))
          c.requires.sound.seats;
      loans = tt;
    }

pub returns-else-wait_for_one-clause-loans : goal.returns-else-wait_for_one-clause-loans
returns-else-wait_for_one-clause-loans c = λ all sound.
    let k = c.in-Some.field-0.seat in
    subst (λ q. AreLoansSound all (servers_of c.args.servers.now) q)
    (sym (c.take_oldest.ensures.rest
    ∙ unchanged_at c.args.queues.now k (without_queued_at 0) (nothing_taken (seat_of c.args.queues.now k) (sym c.in_default-take_oldest.ensures.message))))
    sound
