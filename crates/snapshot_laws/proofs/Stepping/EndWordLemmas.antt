-- Deaths, ends and interrupts keep the numbers of the machine words.
use Rattle.std.proofs.Common.{ℕ, ◌<◌, ◌≤◌, Bool, true, false, [], ◌∷◌, Option, Some, None, refl, arith}
use Rattle.std.specs.Prelude.{◌&&◌, nat_eq, if◌then◌else◌}
use Rattle.xk_base.proofs.CountingLemmas.{least_below-bound}
use Rattle.xk_base.specs.declared.ids.Pid.{Pid}
use Rattle.xk_base.specs.declared.ids.ThreadId.{ThreadId}
use Rattle.xk_base.specs.declared.limits.TheConstants.{INTERRUPT_LIMIT, TIMER_INTERRUPT}
use Rattle.syscall_codec.specs.CallNumbers.{reply_scalar1}
use Rattle.syscall_codec.specs.ReplyWords.{scalar1_words}
use Rattle.xk_base.specs.Tables.Circle.{same_thread}
use Rattle.xk_base.specs.Tables.Counting.{least_below, put_at}
use Rattle.machine_model.specs.Ending.Closing.{closed, is_sender_at, servers_closed}
use Rattle.machine_model.specs.Ending.Ends.{death, end_with_last_thread, handler_ended, has_threads, joiners_answered, thread_ended, waits_for_end}
use Rattle.machine_model.specs.State.Changes.{Change, Told, settled}
use Rattle.machine_model.specs.State.Machine.{Claim, Idle, Machine}
use Rattle.machine_model.specs.State.Servers.{is_server_of}
use Rattle.machine_model.specs.State.Threads.{handler_return, handler_stack, handler_thread, put_thread, thread_id, with_state}
use Rattle.machine_model.specs.Stepping.Interrupts.{cursor_after, delivered, delivered_lowest, handler_started, is_claim_of, is_free_for_interrupt, lowest_pending, pended}
use Rattle.machine_model.specs.Stepping.Timer.{is_due, raised_by_timer, timed, timed_if}
use Rattle.call_effects.specs.Effects.{ClosesServers, Forgets, Orphans, Unqueues, apply}
use Rattle.snapshot_laws.specs.Words.{IsClaimOfWords, IsMachineOfWords, IsThreadOfWords, greatest}
use Rattle.snapshot_laws.proofs.Calling.AnswerWordLemmas.{AreAnswersOfWords, both_are, fresh_are, nobody_are, server_refused_are}
use Rattle.snapshot_laws.proofs.Calling.AnswerWordLemmas.{settled_keeps}
use Rattle.snapshot_laws.proofs.Changing.EffectWordLemmas.{apply_keeps, change_are, threads_are, waits_are}
use Rattle.snapshot_laws.proofs.Changing.HoldingLemmas.{Holds, if_holds, none_holds, put_holds, some_holds}
use Rattle.snapshot_laws.proofs.Words.RegisterLemmas.{AreEightWords, eight_are}

-- a change of words
pub record IsChangeOfWords (change : Change) : Type 0 where
  pub machine : IsMachineOfWords change.machine
  pub answers : AreAnswersOfWords change.answers

pub taken_place : (change : Change) → IsChangeOfWords change → IsMachineOfWords (settled change).machine
taken_place change h = settled_keeps change h.answers h.machine

-- ---- deaths

pub death_is : (pid : Pid) (m : Machine) → IsMachineOfWords m → IsChangeOfWords (death pid m)
unfolding death servers_closed closed
death_is pid m h =
    let own : ℕ → Bool = λ n. is_server_of pid (m.servers n) in
    let a : Machine = apply (ClosesServers own) m in
    let b : Machine = apply (Unqueues pid) a in
    let c : Machine = apply (Orphans pid) b in
    record {
      machine = apply_keeps (Forgets pid) c tt (apply_keeps (Orphans pid) b tt (apply_keeps (Unqueues pid) a tt (apply_keeps (ClosesServers own) m tt h)));
      answers = server_refused_are (is_sender_at own m);
    }

-- ---- ends of threads

module _ (who : ThreadId) (a0 : ℕ) (fits : a0 ≤ greatest) (m : Machine) (h : IsMachineOfWords m) where
  joiners_are : AreAnswersOfWords (joiners_answered m who a0)
  joiners_are id =
      if_holds AreEightWords (waits_for_end who id (m.threads id)) (Some (scalar1_words a0)) None
      (some_holds AreEightWords (scalar1_words a0) (eight_are (reply_scalar1 ∷ a0 ∷ []) (omega arith, (fits, tt)))) (none_holds AreEightWords)

  without : IsMachineOfWords (put_thread who None m)
  without =
      threads_are m (put_at same_thread m.threads who None) h
      (put_holds IsThreadOfWords same_thread m.threads who None (none_holds IsThreadOfWords) h.threads)

  last_is : (b : Bool) → IsChangeOfWords (end_with_last_thread b who.pid (put_thread who None m))
  last_is true = record { machine = without; answers = nobody_are }
  last_is false = death_is who.pid (put_thread who None m) without

  pub thread_ended_is : IsChangeOfWords (thread_ended who a0 m)
  unfolding thread_ended
  thread_ended_is =
      let left = last_is (has_threads (put_thread who None m) who.pid) in
      record { machine = left.machine; answers = both_are _ _ joiners_are left.answers }

-- ---- interrupts

module _ (m : Machine) (h : IsMachineOfWords m) where
  pub pending_are : (pending : ℕ → Bool) → IsMachineOfWords (record m { pending = pending })
  pending_are pending = record {
    whole = h.whole;
    threads = h.threads;
    servers = h.servers;
    claims = h.claims;
    compare = h.compare;
    reserved = h.reserved;
  }

  pub cursor_are : (cursor : ThreadId) → IsMachineOfWords (record m { cursor = cursor })
  cursor_are cursor = record {
    whole = h.whole;
    threads = h.threads;
    servers = h.servers;
    claims = h.claims;
    compare = h.compare;
    reserved = h.reserved;
  }

  pub disarmed_is : IsMachineOfWords (record m { compare = None })
  disarmed_is = record {
    whole = h.whole;
    threads = h.threads;
    servers = h.servers;
    claims = h.claims;
    compare = none_holds (λ n. n ≤ greatest);
    reserved = h.reserved;
  }

  handler_are : (k : ℕ) (claim : Claim) → k < INTERRUPT_LIMIT → IsClaimOfWords claim → IsThreadOfWords (handler_thread k claim)
  handler_are k claim low f = record {
    pc = f.handler;
    regs = fresh_are handler_return handler_stack (k ∷ claim.argument ∷ []) (omega arith) (omega arith) (omega arith, (f.argument, tt));
  }

  started_is : (pid : Pid) (k : ℕ) → k < INTERRUPT_LIMIT → (o : Option Claim) → Holds IsClaimOfWords o → IsChangeOfWords (handler_started m pid k o)
  started_is pid k low None f = record { machine = h; answers = nobody_are }
  started_is pid k low (Some claim) f = record {
    machine = threads_are (record m { pending = put_at nat_eq m.pending k false })
        (put_at same_thread m.threads (thread_id pid 1) (Some (handler_thread k claim))) (pending_are (put_at nat_eq m.pending k false))
        (put_holds IsThreadOfWords same_thread m.threads (thread_id pid 1) (Some (handler_thread k claim))
        (some_holds IsThreadOfWords (handler_thread k claim) (handler_are k claim low (f claim refl))) h.threads);
    answers = nobody_are;
  }

  lowest_is : (pid : Pid) (o : Option ℕ) → Holds (λ k. k < INTERRUPT_LIMIT) o → IsChangeOfWords (delivered_lowest m pid o)
  lowest_is pid None f = record { machine = h; answers = nobody_are }
  lowest_is pid (Some k) f = started_is pid k (f k refl) (m.claims k) (h.claims k)

  pub delivered_is : (pid : Pid) → IsChangeOfWords (delivered pid m)
  unfolding delivered lowest_pending
  delivered_is pid =
      lowest_is pid (if is_free_for_interrupt m pid then least_below INTERRUPT_LIMIT (λ k. m.pending k && is_claim_of pid (m.claims k)) else None)
      (if_holds (λ k. k < INTERRUPT_LIMIT) (is_free_for_interrupt m pid) (least_below INTERRUPT_LIMIT (λ k. m.pending k && is_claim_of pid (m.claims k))) None
      (λ k e. least_below-bound INTERRUPT_LIMIT (λ k. m.pending k && is_claim_of pid (m.claims k)) k e) (none_holds (λ k. k < INTERRUPT_LIMIT)))

pub handler_ended_is : (pid : Pid) (m : Machine) → IsMachineOfWords m → IsChangeOfWords (handler_ended pid m)
unfolding handler_ended
handler_ended_is pid m h = delivered_is _ (change_are m (thread_id pid 1) (with_state Idle) h (waits_are Idle)) pid

pub pended_is : (k : ℕ) (claim : Claim) (m : Machine) → IsMachineOfWords m → IsChangeOfWords (pended k claim m)
pended_is k claim m h =
    let raised : Machine = record m { pending = put_at nat_eq m.pending k true } in
    let c : Change = delivered claim.pid raised in
    let f : IsChangeOfWords c = delivered_is raised (pending_are m h (put_at nat_eq m.pending k true)) claim.pid in
    record { machine = cursor_are c.machine f.machine (cursor_after c.delivery c.machine.cursor); answers = f.answers }

-- ---- the timer

raised_is : (o : Option Claim) (m : Machine) → IsMachineOfWords m → IsChangeOfWords (raised_by_timer o m)
raised_is None m h = record { machine = h; answers = nobody_are }
raised_is (Some claim) m h = pended_is TIMER_INTERRUPT claim m h

timed_if_are : (b : Bool) (done : Told) → IsMachineOfWords done.machine → IsMachineOfWords (timed_if b done).machine
timed_if_are false done h = h
timed_if_are true done h =
    taken_place _ (raised_is (done.machine.claims TIMER_INTERRUPT) (record done.machine { compare = None }) (disarmed_is done.machine h))

pub timed_are : (done : Told) → IsMachineOfWords done.machine → IsMachineOfWords (timed done).machine
timed_are done h = timed_if_are (is_due done.machine.compare done.machine.steps) done h
