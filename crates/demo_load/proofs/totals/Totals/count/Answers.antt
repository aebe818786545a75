use Rattle.std.proofs.Common.{◌≡◌, false, nat_eq, refl}
use Rattle.std.specs.Prelude.{slice_index}
use Rattle.std.proofs.lemmas.Bool.{ne_eqb}
use Rattle.demo_load.proofs.LoadTotalsLemmas.{counted_gone, counted_none, counted_other, counted_send, counted_word}
use Rattle.demo_load.proofs.totals.Totals.count.Goals as goal
use Rattle.demo_load.proofs.totals.Totals.count.Goals.{else-thread-ne-SERVER-via-then-thread-ne-SERVER+else-words-eq-RETURNED, else-thread-ne-SERVER-via-else-thread-ne-SERVER}

pub returns-then-words-eq-TERMINATE_PROCESS-clause-counted : goal.returns-then-words-eq-TERMINATE_PROCESS-clause-counted
returns-then-words-eq-TERMINATE_PROCESS-clause-counted c before =
    counted_word (slice_index c.in-Call.words 1) c.args.self.now before c.args.rec.now
    (rw c.in-Call.is refl) (rw (c.in-Call.is, c.if-words-eq-TERMINATE_PROCESS.true) refl) (rw c.in-Call.is refl)

pub returns-else-words-eq-TERMINATE_PROCESS-clause-counted : goal.returns-else-words-eq-TERMINATE_PROCESS-clause-counted
returns-else-words-eq-TERMINATE_PROCESS-clause-counted c before =
    let other : nat_eq (slice_index c.in-Call.words 0) 22 ≡ false = ne_eqb (slice_index c.in-Call.words 0) 22 c.if-words-eq-TERMINATE_PROCESS.false in
    counted_none c.args.self.now before c.args.rec.now (rw c.in-Call.is refl) (rw (c.in-Call.is, other) refl) (rw c.in-Call.is refl)

pub returns-then-words-eq-RETURNED-clause-counted : goal.returns-then-words-eq-RETURNED-clause-counted
returns-then-words-eq-RETURNED-clause-counted c before =
    let client : nat_eq c.in-Reply.thread.pid.0 2 ≡ false = ne_eqb c.in-Reply.thread.pid.0 2 c.if-thread-ne-SERVER.true in
    counted_send c.args.self.now before c.args.rec.now
    (rw (c.in-Reply.is, client, c.if-words-eq-RETURNED.true) refl) (rw c.in-Reply.is refl) (rw c.in-Reply.is refl)

pub returns-else-thread-ne-SERVER-clause-counted : goal.returns-else-thread-ne-SERVER-clause-counted
returns-else-thread-ne-SERVER-clause-counted c before =
    elim c.else-thread-ne-SERVER.branch [
      | else-thread-ne-SERVER-via-then-thread-ne-SERVER+else-words-eq-RETURNED w ↦
          let client : nat_eq c.in-Reply.thread.pid.0 2 ≡ false = ne_eqb c.in-Reply.thread.pid.0 2 w.if-thread-ne-SERVER.true in
          let other : nat_eq (slice_index c.in-Reply.words 0) 18 ≡ false = ne_eqb (slice_index c.in-Reply.words 0) 18 w.if-words-eq-RETURNED.false in
          counted_none c.args.self.now before c.args.rec.now (rw (c.in-Reply.is, client, other) refl) (rw c.in-Reply.is refl) (rw c.in-Reply.is refl)
      | else-thread-ne-SERVER-via-else-thread-ne-SERVER w ↦
          counted_none c.args.self.now before c.args.rec.now
          (rw (c.in-Reply.is, w.if-thread-ne-SERVER.false) refl) (rw c.in-Reply.is refl) (rw c.in-Reply.is refl)
    ]

pub returns-in-Gone-clause-counted : goal.returns-in-Gone-clause-counted
returns-in-Gone-clause-counted c before = counted_gone c.args.self.now before c.args.rec.now (rw c.in-Gone.is refl) (rw c.in-Gone.is refl) (rw c.in-Gone.is refl)

pub returns-in-Retry-clause-counted : goal.returns-in-Retry-clause-counted
returns-in-Retry-clause-counted c before = counted_other c.args.self.now before c.args.rec.now c.in-Retry.is
