use Rattle.std.proofs.Common.{refl, sym, ap, subst, ◌∙◌, is_some, ◌+◌}
use Rattle.std.proofs.lemmas.Bool.{false≢true}
use Rattle.ledger_model.specs.Loans.{loans}
use Rattle.machine_model.specs.Messaging.Messages.{is_blocking_of, is_blocking_scalar}
use Rattle.machine_model.specs.State.Changes.{replies}
use Rattle.xk_base.specs.Tables.Sids.{serial_of}
use Rattle.machine_model.specs.State.Threads.{answer_to, both_answers, passed}
use Rattle.machine_model.specs.Messaging.ReturnCalls.{sender_gets}
use Rattle.vm_memory.specs.Memory.{ledger}
use Rattle.server_table.specs.ServersOf.{servers_of}
use Rattle.syscall_codec.specs.Replies.{words_of}
use Rattle.thread_table.specs.Shown.{process_count}
use Rattle.syscall_codec.specs.ReplyWords.{plain_words}
use Rattle.xk_base.specs.declared.messages.Message.{Message}
use Rattle.xk_parts.specs.Shown.{threads_shown}
use Rattle.send_path.proofs.Taken.{parts_of, taken}
use Rattle.send_path.specs.Rows.{log_with, scalar_row}
use Rattle.xk_parts.specs.Sound.{AreLoansSound, AreSeatsSound}
use Rattle.xk_parts.specs.Threads.{answered, changed_thread}
use Rattle.send_path.proofs.Receivers.ReturnLemmas.{blocking_no_lend, change_is, gave_back, has_loan, held_alike, holder_alike, its_holder, its_kind, loans_left, none_held, other_kind, row_keeps, scalar_refused, scalar_served, seats_left, sender_fits, shown, still_matched}
use Rattle.xk_parts.proofs.ThreadLemmas.{ready_id}
use Rattle.send_path.proofs.returning.return_scalar.Goals as goal
use Rattle.xk_parts.specs.Parts.{machine_at}

pub returns-in_default-clause-row : goal.returns-in_default-clause-row
returns-in_default-clause-row g c =
    let store = g.W.SwapStore in
    let old = parts_of c.args.mem.now c.args.threads.now c.args.servers.now c.args.queues.now c.args.log.now in
    (refl, λ m. scalar_refused store.held c.args.who old (machine_at store.held c.args.who (taken old) c.requires.sound.machine) c.args.number (held_alike store c.args.who old c.requires.sound c.requires.ready c.args.number) (words_of c.args.reply) m (none_held store c.args.who old c.requires.sound c.requires.ready c.args.number c.in_default.ensures (λ (x : Message). is_blocking_scalar x.kind)))

pub returns-then-not-is_blocking-clause-row : goal.returns-then-not-is_blocking-clause-row
returns-then-not-is_blocking-clause-row g c =
    let store = g.W.SwapStore in
    let old = parts_of c.args.mem.now c.args.threads.now c.args.servers.now c.args.queues.now c.args.log.now in (
      refl,
      λ m. scalar_refused store.held c.args.who old (machine_at store.held c.args.who (taken old) c.requires.sound.machine) c.args.number (held_alike store c.args.who old
          c.requires.sound c.requires.ready c.args.number) (words_of c.args.reply) m (other_kind store c.args.who old c.requires.sound c.requires.ready c.args.number
          c.in-Some.field-0 c.in-Some.ensures (λ (x : Message). is_blocking_scalar x.kind) (sym c.is_blocking.ensures ∙ c.if-not-is_blocking.true)),
    )

pub unreachable-requires : goal.unreachable-requires
unreachable-requires g c =
    let store = g.W.SwapStore in
    let old = parts_of c.args.mem.now c.args.threads.now c.args.servers.now c.args.queues.now c.args.log.now in
    let found = shown store c.args.who old c.requires.sound c.requires.ready c.args.number c.in-Some.field-0 c.in-Some.ensures in
    let lent = sym (c.take.ensures.loan found.held found.is) ∙ c.in-Some-take.is in
    false≢true (sym (blocking_no_lend c.in-Some.field-0.message.kind (sym c.is_blocking.ensures ∙ c.if-not-is_blocking.false))
    ∙ sym (has_loan store c.args.who old c.requires.sound c.requires.ready c.args.number c.in-Some.field-0 c.in-Some.ensures)
    ∙ ap is_some lent)

pub answer_with_sender-requires-clause-who : goal.answer_with_sender-requires-clause-who
answer_with_sender-requires-clause-who g c = ready_id c.args.threads.now c.args.who c.requires.ready

pub answer_with_sender-requires-clause-sender : goal.answer_with_sender-requires-clause-sender
answer_with_sender-requires-clause-sender g c =
    let store = g.W.SwapStore in
    let old = parts_of c.args.mem.now c.args.threads.now c.args.servers.now c.args.queues.now c.args.log.now in
    sender_fits store c.args.who old c.requires.sound c.requires.ready c.args.number c.in-Some.field-0 c.in-Some.ensures c.in-Some.field-0.message.sender refl

pub returns-clause-row : goal.returns-clause-row
returns-clause-row g c =
    let store = g.W.SwapStore in
    let old = parts_of c.args.mem.now c.args.threads.now c.args.servers.now c.args.queues.now c.args.log.now in
    λ m.
    let q = sym c.is_blocking.ensures ∙ c.if-not-is_blocking.false in
    gave_back store c.args.who old c.requires.sound c.requires.ready c.args.number c.in-Some.field-0 c.in-Some.ensures (record { mem = c.args.mem.now; tables = record { threads = c.answer_with_sender.new.threads; servers = c.args.servers.now; queues = c.take.new.queues; log = c.answer_with_sender.new.log } }) (ledger store.held c.args.mem.now) (words_of c.args.reply)
    (record {
      threads = c.answer_with_sender.ensures.after
          ∙ ap (λ words. answered (both_answers (answer_to c.args.who plain_words) (sender_gets words c.in-Some.field-0.message.sender)) (changed_thread c.args.who passed (threads_shown c.args.threads.now))) c.reply_words.ensures;
      log = c.answer_with_sender.ensures.log
          ∙ ap (λ words. log_with (replies (process_count c.args.threads.now) (both_answers (answer_to c.args.who plain_words) (sender_gets words c.in-Some.field-0.message.sender))) c.args.log.now) c.reply_words.ensures;
      procs = c.answer_with_sender.ensures.count;
      servers = refl;
      queues = c.take.ensures.rest;
      capacity = refl;
      ledger = refl;
    }) m (scalar_row c.args.number (words_of c.args.reply) (machine_at store.held c.args.who (taken old) m))
    (scalar_served store.held c.args.who old (machine_at store.held c.args.who (taken old) c.requires.sound.machine) c.args.number (held_alike store c.args.who old c.requires.sound
    c.requires.ready c.args.number) (words_of c.args.reply) m c.in-Some.field-0.message (its_kind store c.args.who old c.requires.sound c.requires.ready
    c.args.number c.in-Some.field-0 c.in-Some.ensures (λ (x : Message). is_blocking_scalar x.kind) q)
    ∙ change_is store.held c.args.who old c.args.number (is_blocking_of c.args.number) m c.in-Some.field-0.message (serial_of c.in-Some.field-0.serial.0)
    (held_alike store c.args.who old c.requires.sound c.requires.ready c.args.number m (is_blocking_of c.args.number) ∙ its_kind store c.args.who old
    c.requires.sound c.requires.ready c.args.number c.in-Some.field-0 c.in-Some.ensures (λ (x : Message). is_blocking_scalar x.kind) q) (holder_alike store
    c.args.who old c.requires.sound c.requires.ready c.args.number m (is_blocking_of c.args.number) ∙ its_holder store c.args.who old c.requires.sound
    c.requires.ready c.args.number c.in-Some.field-0 c.in-Some.ensures (λ (x : Message). is_blocking_scalar x.kind) q) (words_of c.args.reply))

pub returns-clause-sound : goal.returns-clause-sound
returns-clause-sound g c =
    let store = g.W.SwapStore in
    let old = parts_of c.args.mem.now c.args.threads.now c.args.servers.now c.args.queues.now c.args.log.now in
    record {
      machine = record c.requires.sound.machine { steps = c.requires.sound.machine.steps + 1 };
      matched = still_matched store c.args.who old c.requires.sound c.requires.ready c.args.number c.in-Some.field-0 c.in-Some.ensures (record {
        mem = c.args.mem.now;
        tables = record { threads = c.answer_with_sender.new.threads; servers = c.args.servers.now; queues = c.take.new.queues; log = c.answer_with_sender.new.log };
      })
          (scalar_row c.args.number (words_of c.args.reply) (machine_at store.held c.args.who (taken old) c.requires.sound.machine)) (row_keeps store c.args.who old c.requires.sound
          c.requires.ready c.args.number (words_of c.args.reply))
          (returns-clause-row g c c.requires.sound.machine);
      mem = c.requires.sound.mem;
      processes = c.answer_with_sender.ensures.count ∙ c.requires.sound.processes;
      procs = tt;
      seats = subst (λ q. AreSeatsSound (servers_of c.args.servers.now) q) (sym c.take.ensures.rest) (seats_left store c.args.who old c.requires.sound c.requires.ready c.args.number c.in-Some.field-0 c.in-Some.ensures);
      loans = subst (λ q. AreLoansSound (loans (ledger store.held c.args.mem.now)) (servers_of c.args.servers.now) q) (sym c.take.ensures.rest)
          (loans_left store c.args.who old c.requires.sound c.requires.ready c.args.number c.in-Some.field-0 c.in-Some.ensures (ledger store.held c.args.mem.now) (λ run other s. s));
    }
