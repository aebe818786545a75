use Rattle.std.proofs.Common.{◌≡◌, refl, sym, ap, subst, ◌∙◌, is_some, ◌+◌}
use Rattle.std.proofs.lemmas.Bool.{false≢true}
use Rattle.ledger_model.specs.Loans.{loans}
use Rattle.ledger_model.specs.Steps.{end_loan}
use Rattle.machine_model.specs.Messaging.Messages.{is_lend, is_lend_of}
use Rattle.machine_model.specs.State.Changes.{replies}
use Rattle.xk_base.specs.Tables.Sids.{serial_of}
use Rattle.machine_model.specs.State.Threads.{answer_to, both_answers, passed}
use Rattle.machine_model.specs.Messaging.ReturnCalls.{sender_gets}
use Rattle.boot_plan.specs.Capacity.{capacity}
use Rattle.vm_memory.specs.Memory.{Size, ledger}
use Rattle.server_table.specs.ServersOf.{servers_of}
use Rattle.thread_table.specs.Shown.{process_count}
use Rattle.syscall_codec.specs.ReplyWords.{plain_words, returned_words}
use Rattle.xk_base.specs.declared.messages.Message.{Message}
use Rattle.xk_parts.specs.Shown.{threads_shown}
use Rattle.send_path.proofs.Taken.{parts_of, taken}
use Rattle.send_path.specs.Rows.{log_with, memory_row}
use Rattle.xk_parts.specs.Sound.{AreLoansSound, AreSeatsSound}
use Rattle.xk_parts.specs.Threads.{answered, changed_thread}
use Rattle.send_path.proofs.Receivers.ReturnLemmas.{gave_back, has_loan, held_alike, holder_alike, its_holder, its_kind, its_loan, loan_number, loans_left, memory_change_is, memory_elsewhere, memory_keeps, memory_refused, memory_served, none_held, other_kind, others_stand, seats_left, sender_fits, shown, still_matched}
use Rattle.xk_parts.proofs.ThreadLemmas.{ready_id}
use Rattle.send_path.proofs.returning.return_memory.Goals as goal
use Rattle.xk_parts.specs.Parts.{machine_at}

pub returns-in_default-clause-row : goal.returns-in_default-clause-row
returns-in_default-clause-row g c =
    let store = g.W.SwapStore in
    let old = parts_of c.args.mem.now c.args.threads.now c.args.servers.now c.args.queues.now c.args.log.now in (
      refl,
      λ m. memory_refused store.held c.args.who old (machine_at store.held c.args.who (taken old) c.requires.sound.machine) c.args.returned.number (held_alike store c.args.who old
          c.requires.sound c.requires.ready c.args.returned.number) c.args.returned.address c.args.returned.size c.args.returned.offset c.args.returned.valid m (none_held
          store c.args.who old c.requires.sound c.requires.ready c.args.returned.number c.in_default.ensures (λ (x : Message). is_lend x.kind)),
    )

pub returns-then-not-is_lend-clause-row : goal.returns-then-not-is_lend-clause-row
returns-then-not-is_lend-clause-row g c =
    let store = g.W.SwapStore in
    let old = parts_of c.args.mem.now c.args.threads.now c.args.servers.now c.args.queues.now c.args.log.now in (
      refl,
      λ m. memory_refused store.held c.args.who old (machine_at store.held c.args.who (taken old) c.requires.sound.machine) c.args.returned.number (held_alike store c.args.who old
          c.requires.sound c.requires.ready c.args.returned.number) c.args.returned.address c.args.returned.size c.args.returned.offset c.args.returned.valid m (other_kind
          store c.args.who old c.requires.sound c.requires.ready c.args.returned.number c.in-Some.field-0 c.in-Some.ensures (λ (x : Message). is_lend x.kind) (sym
          c.is_lend.ensures ∙ c.if-not-is_lend.true)),
    )

pub returns-then-not-is_its_range-clause-row : goal.returns-then-not-is_its_range-clause-row
returns-then-not-is_its_range-clause-row g c =
    let store = g.W.SwapStore in
    let old = parts_of c.args.mem.now c.args.threads.now c.args.servers.now c.args.queues.now c.args.log.now in (
      refl,
      λ m. memory_elsewhere store.held c.args.who old (machine_at store.held c.args.who (taken old) c.requires.sound.machine) c.args.returned.number (held_alike store c.args.who old c.requires.sound c.requires.ready c.args.returned.number) c.args.returned.address c.args.returned.size c.args.returned.offset c.args.returned.valid m c.in-Some.field-0.message
          (its_kind store c.args.who old c.requires.sound c.requires.ready c.args.returned.number c.in-Some.field-0 c.in-Some.ensures (λ (x : Message). is_lend x.kind) (sym c.is_lend.ensures ∙ c.if-not-is_lend.false)) (sym c.is_its_range.ensures ∙ c.if-not-is_its_range.true),
    )

pub end_loan-requires-clause-stands : goal.end_loan-requires-clause-stands
end_loan-requires-clause-stands g c =
    let store = g.W.SwapStore in
    let old = parts_of c.args.mem.now c.args.threads.now c.args.servers.now c.args.queues.now c.args.log.now in
    let found = shown store c.args.who old c.requires.sound c.requires.ready c.args.returned.number c.in-Some.field-0 c.in-Some.ensures in
    let lent = sym (c.take.ensures.loan found.held found.is) ∙ c.in-Some-take.is in
    (its_loan store c.args.who old c.requires.sound c.requires.ready c.args.returned.number c.in-Some.field-0 c.in-Some.ensures c.in-Some-take.loan
    lent).stands

pub unreachable-requires : goal.unreachable-requires
unreachable-requires g c =
    let store = g.W.SwapStore in
    let old = parts_of c.args.mem.now c.args.threads.now c.args.servers.now c.args.queues.now c.args.log.now in
    let found = shown store c.args.who old c.requires.sound c.requires.ready c.args.returned.number c.in-Some.field-0 c.in-Some.ensures in
    false≢true (ap is_some (sym (sym (c.take.ensures.loan found.held found.is) ∙ c.in-None.is))
    ∙ has_loan store c.args.who old c.requires.sound c.requires.ready c.args.returned.number c.in-Some.field-0 c.in-Some.ensures ∙ sym c.is_lend.ensures ∙ c.if-not-is_lend.false)

pub answer_with_sender-requires-clause-who : goal.answer_with_sender-requires-clause-who
answer_with_sender-requires-clause-who g c = ready_id c.args.threads.now c.args.who c.requires.ready

pub answer_with_sender-requires-clause-sender : goal.answer_with_sender-requires-clause-sender
answer_with_sender-requires-clause-sender g c =
    let store = g.W.SwapStore in
    let old = parts_of c.args.mem.now c.args.threads.now c.args.servers.now c.args.queues.now c.args.log.now in
    sender_fits store c.args.who old c.requires.sound c.requires.ready c.args.returned.number c.in-Some.field-0 c.in-Some.ensures c.in-Some.field-0.message.sender refl

pub returns-clause-row : goal.returns-clause-row
returns-clause-row g c =
    let store = g.W.SwapStore in
    let old = parts_of c.args.mem.now c.args.threads.now c.args.servers.now c.args.queues.now c.args.log.now in
    let found = shown store c.args.who old c.requires.sound c.requires.ready c.args.returned.number c.in-Some.field-0 c.in-Some.ensures in
    let lent = sym (c.take.ensures.loan found.held found.is) ∙ c.in-Some-take.is in
    λ m.
    let q = sym c.is_lend.ensures ∙ c.if-not-is_lend.false in
    let loan = lent in
    gave_back store c.args.who old c.requires.sound c.requires.ready c.args.returned.number c.in-Some.field-0 c.in-Some.ensures (record {
      mem = c.end_loan.new.self;
      tables = record { threads = c.answer_with_sender.new.threads; servers = c.args.servers.now; queues = c.take.new.queues; log = c.answer_with_sender.new.log };
    })
    (end_loan c.args.returned.number (ledger store.held c.args.mem.now)) (returned_words c.args.returned.offset c.args.returned.valid)
    (record {
      threads = c.answer_with_sender.ensures.after
          ∙ ap (λ words. answered (both_answers (answer_to c.args.who plain_words) (sender_gets words c.in-Some.field-0.message.sender)) (changed_thread c.args.who passed (threads_shown c.args.threads.now))) c.reply_words-words.ensures;
      log = c.answer_with_sender.ensures.log
          ∙ ap (λ words. log_with (replies (process_count c.args.threads.now) (both_answers (answer_to c.args.who plain_words) (sender_gets words c.in-Some.field-0.message.sender))) c.args.log.now) c.reply_words-words.ensures;
      procs = c.answer_with_sender.ensures.count;
      servers = refl;
      queues = c.take.ensures.rest;
      capacity = ap (λ (s : Size). capacity s.area.frames s.procs s.slots) c.end_loan.ensures.keeps.size;
      ledger = c.end_loan.ensures.ledger ∙ ap (λ number. end_loan number (ledger store.held c.args.mem.now)) (loan_number store c.args.who old c.requires.sound c.requires.ready c.args.returned.number c.in-Some.field-0 c.in-Some.ensures c.in-Some-take.loan loan);
    }) m (memory_row c.args.returned.number c.args.returned.address c.args.returned.size c.args.returned.offset c.args.returned.valid (machine_at store.held c.args.who (taken old) m))
    (memory_served store.held c.args.who old (machine_at store.held c.args.who (taken old) c.requires.sound.machine) c.args.returned.number (held_alike store c.args.who old
    c.requires.sound c.requires.ready c.args.returned.number) c.args.returned.address c.args.returned.size c.args.returned.offset c.args.returned.valid m
    c.in-Some.field-0.message (its_kind store c.args.who old c.requires.sound c.requires.ready c.args.returned.number c.in-Some.field-0 c.in-Some.ensures (λ (x :
    Message). is_lend x.kind) q) (sym c.is_its_range.ensures ∙ c.if-not-is_its_range.false)
    ∙ memory_change_is store.held c.args.who old c.args.returned.number m c.in-Some.field-0.message (serial_of c.in-Some.field-0.serial.0)
    (held_alike store c.args.who old c.requires.sound c.requires.ready c.args.returned.number m (is_lend_of c.args.returned.number) ∙ its_kind store c.args.who
    old c.requires.sound c.requires.ready c.args.returned.number c.in-Some.field-0 c.in-Some.ensures (λ (x : Message). is_lend x.kind) q) (holder_alike store
    c.args.who old c.requires.sound c.requires.ready c.args.returned.number m (is_lend_of c.args.returned.number) ∙ its_holder store c.args.who old c.requires.sound
    c.requires.ready c.args.returned.number c.in-Some.field-0 c.in-Some.ensures (λ (x : Message). is_lend x.kind) q)
    c.args.returned.offset c.args.returned.valid)

pub returns-clause-sound : goal.returns-clause-sound
returns-clause-sound g c =
    let store = g.W.SwapStore in
    let old = parts_of c.args.mem.now c.args.threads.now c.args.servers.now c.args.queues.now c.args.log.now in
    let found = shown store c.args.who old c.requires.sound c.requires.ready c.args.returned.number c.in-Some.field-0 c.in-Some.ensures in
    let lent = sym (c.take.ensures.loan found.held found.is) ∙ c.in-Some-take.is in
    let loan = lent in
    let left : ledger store.held c.end_loan.new.self ≡ end_loan c.args.returned.number (ledger store.held c.args.mem.now) =
    c.end_loan.ensures.ledger ∙ ap (λ number. end_loan number (ledger store.held c.args.mem.now)) (loan_number store c.args.who old c.requires.sound c.requires.ready c.args.returned.number c.in-Some.field-0 c.in-Some.ensures c.in-Some-take.loan loan) in
    record {
      machine = record c.requires.sound.machine { steps = c.requires.sound.machine.steps + 1 };
      matched = still_matched store c.args.who old c.requires.sound c.requires.ready c.args.returned.number c.in-Some.field-0 c.in-Some.ensures (record {
        mem =
            c.end_loan.new.self;
        tables = record {
          threads = c.answer_with_sender.new.threads;
          servers = c.args.servers.now;
          queues = c.take.new.queues;
          log =
              c.answer_with_sender.new.log;
        };
      }) (memory_row c.args.returned.number c.args.returned.address c.args.returned.size c.args.returned.offset c.args.returned.valid
          (machine_at store.held c.args.who (taken old) c.requires.sound.machine)) (memory_keeps store c.args.who old c.requires.sound c.requires.ready c.args.returned.number
          c.args.returned.address c.args.returned.size c.args.returned.offset c.args.returned.valid) (returns-clause-row g c c.requires.sound.machine);
      mem = c.end_loan.ensures.keeps.sound;
      processes = c.answer_with_sender.ensures.count ∙ c.requires.sound.processes ∙ sym (ap (λ (s : Size). s.procs) c.end_loan.ensures.keeps.size);
      procs = tt;
      seats = subst (λ q. AreSeatsSound (servers_of c.args.servers.now) q) (sym c.take.ensures.rest) (seats_left store c.args.who old c.requires.sound c.requires.ready c.args.returned.number c.in-Some.field-0 c.in-Some.ensures);
      loans = subst (λ l. AreLoansSound (loans l) (servers_of c.args.servers.now) c.take.new.queues) (sym left)
          (subst (λ q. AreLoansSound (loans (end_loan c.args.returned.number (ledger store.held c.args.mem.now))) (servers_of c.args.servers.now) q) (sym c.take.ensures.rest)
          (loans_left store c.args.who old c.requires.sound c.requires.ready c.args.returned.number c.in-Some.field-0 c.in-Some.ensures (end_loan c.args.returned.number (ledger store.held c.args.mem.now)) (others_stand (ledger store.held c.args.mem.now) c.args.returned.number)));
    }
