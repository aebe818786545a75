-- What was pending before a thread acts is delivered, given up or still pending afterwards; and so it is with the timer's raise behind it.
use Rattle.std.proofs.Common.{◌≡◌, ℕ, ◌+◌, Bool, true, false, [], Option, Some, None, refl, ap, ◌∙◌, arith}
use Rattle.std.specs.Prelude.{◌==◌, ◌&&◌, not, is_some, if◌then◌else◌}
use Rattle.std.proofs.lemmas.Bool.{false≢true}
use Rattle.xk_base.specs.declared.ids.ThreadId.{ThreadId}
use Rattle.xk_base.specs.declared.limits.TheConstants.{TIMER_INTERRUPT}
use Rattle.xk_base.specs.Calls.Registers.{arguments_of, reg_at}
use Rattle.machine_model.specs.Calling.Calls.{call}
use Rattle.machine_model.specs.Ending.Ends.{death, handler_ended, thread_ended}
use Rattle.machine_model.specs.Hart.Instructions.{Executed, Next, Stores, StoresToConsole, StoresToTimer, CallsKernel, Traps}
use Rattle.machine_model.specs.State.Changes.{Change, Outcome, Refused, Retried, Served, Told, call_settled, settled}
use Rattle.machine_model.specs.State.Machine.{Claim, Machine, Thread}
use Rattle.machine_model.specs.State.Order.{turn}
use Rattle.machine_model.specs.State.Threads.{change_thread, passed}
use Rattle.machine_model.specs.State.Views.{stored, timer_set}
use Rattle.machine_model.specs.Stepping.Step.{console_told, executed}
use Rattle.machine_model.specs.Stepping.Timer.{raised_by_timer, timed_if, timer_change}
use Rattle.machine_laws.proofs.Threading.ThreadStepLemmas.{turned_to}
use Rattle.machine_laws.proofs.Stepping.CauseCaseLemmas.{ActCase, EndsHandler, EndsThread, Instructs}
use Rattle.interrupt_laws.specs.Balance.{given_up_in}
use Rattle.interrupt_laws.specs.Delivering.{once_if}
use Rattle.interrupt_laws.proofs.BalanceLemmas.{settled_count, timed_count, told_count, told_delivery}
use Rattle.interrupt_laws.proofs.KeptPendingLemmas.{IsKept, OutcomeKept, PendingIsClaimed, and_false, and_true, call_kept, death_kept}
use Rattle.interrupt_laws.proofs.KeptPendingLemmas.{thread_end_kept}
use Rattle.interrupt_laws.proofs.OneDeliveryLemmas.{DeliversOne, handler_end_claims, handler_end_one, pended_one}

module _ (k : ℕ) where
  -- what was pending is delivered, given up or pending
  abbrev pub IsEven : Machine → Told → Type 0
  IsEven m done = once_if (m.pending k) ≡ told_count k done.told + given_up_in k m done.machine + once_if (done.machine.pending k)

  -- what is pending and claimed isn't given up
  pub none_given_up : (m : Machine) → PendingIsClaimed m → once_if (m.pending k && not (is_some (m.claims k))) ≡ 0
  none_given_up m claimed = go (m.pending k) (is_some (m.claims k)) (claimed k)
    where
      go : (p c : Bool) → (p ≡ true → c ≡ true) → once_if (p && not c) ≡ 0
      go true true h = refl
      go true false h = absurd (false≢true (h refl))
      go false c h = refl

  -- .. nor where the claims are as before
  pub as_claimed : (m : Machine) (claims : ℕ → Option Claim) → PendingIsClaimed m → claims ≡ m.claims
      → once_if (m.pending k && not (is_some (claims k))) ≡ 0
  as_claimed m claims claimed same =
      ap (λ (f : ℕ → Option Claim). once_if (m.pending k && not (is_some (f k)))) same ∙ none_given_up m claimed

  split : (p c : Bool) → once_if p ≡ once_if (p && not c) + once_if (p && c)
  split true true = refl
  split true false = refl
  split false c = refl

  -- ---- changes

  pub kept_even : (m : Machine) (change : Change) → IsKept m change → IsEven m (settled change)
  unfolding settled told_delivery
  kept_even m change (keeps, none) =
      let tells : told_count k (settled change).told ≡ 0 = settled_count k change ∙ ap (told_delivery k) none in
      let parts : once_if (m.pending k) ≡ once_if (m.pending k && not (is_some (change.machine.claims k))) + once_if (m.pending k && is_some (change.machine.claims k)) =
      split (m.pending k) (is_some (change.machine.claims k)) in
      let left : once_if (change.machine.pending k) ≡ once_if (m.pending k && is_some (change.machine.claims k)) = ap once_if (keeps k) in
      omega arith

  delivered_even : (m : Machine) (change : Change) → PendingIsClaimed m → DeliversOne k m change → change.machine.claims ≡ m.claims
      → IsEven m (settled change)
  unfolding settled
  delivered_even m change claimed one same =
      let tells : told_count k (settled change).told ≡ told_delivery k change.delivery = settled_count k change in
      let none : once_if (m.pending k && not (is_some (change.machine.claims k))) ≡ 0 = as_claimed m change.machine.claims claimed same in
      omega arith

  call_even : (m : Machine) (outcome : Outcome) → PendingIsClaimed m → OutcomeKept m outcome → IsEven m (call_settled m outcome)
  unfolding call_settled turn
  call_even m (Refused error) claimed of =
      let none : once_if (m.pending k && not (is_some (m.claims k))) ≡ 0 = none_given_up m claimed in
      omega arith
  call_even m Retried claimed of =
      let none : once_if (m.pending k && not (is_some (m.claims k))) ≡ 0 = none_given_up m claimed in
      omega arith
  call_even m (Served change) claimed of = kept_even m (record change { machine = change_thread m.cursor passed change.machine }) of

  -- ---- what a thread does

  no_byte : (who : ThreadId) (offset value : ℕ) → told_count k (console_told who offset value) ≡ 0
  no_byte who offset value = go (offset == 0)
    where
      go : (b : Bool) → told_count k (if b then console_told who 0 value else []) ≡ 0
      go true = refl
      go false = refl

  module _ (m : Machine) (claimed : PendingIsClaimed m) where
    executed_even : (t : Thread) (x : Executed) → IsEven m (executed m t x)
    unfolding stored timer_set
    executed_even t (Next regs pc) =
        let none : once_if (m.pending k && not (is_some (m.claims k))) ≡ 0 = none_given_up m claimed in
        omega arith
    executed_even t (Stores address width value regs pc) =
        let none : once_if (m.pending k && not (is_some (m.claims k))) ≡ 0 = none_given_up m claimed in
        omega arith
    executed_even t (StoresToConsole offset value regs pc) =
        let none : once_if (m.pending k && not (is_some (m.claims k))) ≡ 0 = none_given_up m claimed in
        let silent : told_count k (console_told m.cursor offset value) ≡ 0 = no_byte m.cursor offset value in
        omega arith
    executed_even t (StoresToTimer offset width value regs pc) =
        let none : once_if (m.pending k && not (is_some (m.claims k))) ≡ 0 = none_given_up m claimed in
        omega arith
    executed_even t CallsKernel = call_even m (call m (arguments_of t.regs)) claimed (call_kept m claimed (arguments_of t.regs))
    executed_even t (Traps cause value) = kept_even m (death m.cursor.pid m) (death_kept m.cursor.pid m claimed)

  pub act_even : (m : Machine) → PendingIsClaimed m → (who : ThreadId) (t : Thread) (done : Told) → ActCase m who t done → IsEven m done
  act_even m claimed who t _ (Instructs x e) = executed_even (turned_to who m) claimed t x
  act_even m claimed who t _ (EndsThread e) =
      kept_even (turned_to who m) (thread_ended who (reg_at t.regs 10) (turned_to who m)) (thread_end_kept who (reg_at t.regs 10) (turned_to who m) claimed)
  act_even m claimed who t _ (EndsHandler e) =
      delivered_even (turned_to who m) (handler_ended who.pid (turned_to who m)) claimed (handler_end_one k who.pid (turned_to who m))
      (handler_end_claims who.pid (turned_to who m))

  -- ---- the timer

  timer_one : (o : Option Claim) (m : Machine) → is_some o ≡ true
      → once_if (TIMER_INTERRUPT == k) + once_if (m.pending k)
      ≡ told_delivery k (raised_by_timer o m).delivery + once_if ((TIMER_INTERRUPT == k) && m.pending k)
      + once_if ((raised_by_timer o m).machine.pending k)
  timer_one None m e = absurd (false≢true e)
  timer_one (Some claim) m e = pended_one k TIMER_INTERRUPT claim m

  -- what a step did, and then the timer, whose interrupt is claimed if it is due
  module _ (m : Machine) (done : Told) (even : IsEven m done) where
    pub timed_even : (b : Bool) → (b ≡ true → is_some (done.machine.claims TIMER_INTERRUPT) ≡ true)
        → (timed_if b done).machine.claims ≡ done.machine.claims
        → once_if ((TIMER_INTERRUPT == k) && b) + once_if (m.pending k)
        ≡ told_count k (timed_if b done).told + once_if (((TIMER_INTERRUPT == k) && b) && done.machine.pending k)
        + given_up_in k m (timed_if b done).machine + once_if ((timed_if b done).machine.pending k)
    unfolding settled
    timed_even false claimed same =
        let no_raise : once_if ((TIMER_INTERRUPT == k) && false) ≡ 0 = ap once_if (and_false (TIMER_INTERRUPT == k)) in
        let no_merge : once_if (((TIMER_INTERRUPT == k) && false) && done.machine.pending k) ≡ 0 =
        ap (λ c. once_if (c && done.machine.pending k)) (and_false (TIMER_INTERRUPT == k)) in
        omega arith
    timed_even true claimed same =
        let change : Change = timer_change done.machine in
        let one : once_if (TIMER_INTERRUPT == k) + once_if (done.machine.pending k) ≡ told_delivery k change.delivery + once_if ((TIMER_INTERRUPT == k) && done.machine.pending k) + once_if (change.machine.pending k) =
        timer_one (done.machine.claims TIMER_INTERRUPT) (record done.machine { compare = None }) (claimed refl) in
        let tells : told_count k (timed_if true done).told ≡ told_delivery k change.delivery + told_count k done.told = timed_count k change.delivery done.told in
        let raise : once_if ((TIMER_INTERRUPT == k) && true) ≡ once_if (TIMER_INTERRUPT == k) = ap once_if (and_true (TIMER_INTERRUPT == k)) in
        let merge : once_if (((TIMER_INTERRUPT == k) && true) && done.machine.pending k) ≡ once_if ((TIMER_INTERRUPT == k) && done.machine.pending k) =
        ap (λ c. once_if (c && done.machine.pending k)) (and_true (TIMER_INTERRUPT == k)) in
        let lost : given_up_in k m (timed_if true done).machine ≡ given_up_in k m done.machine =
        ap (λ (f : ℕ → Option Claim). once_if (m.pending k && not (is_some (f k)))) same in
        omega arith
