-- Each moment is balanced: what was pending and what is raised in it is delivered, merged, given up or pending.
use Rattle.std.proofs.Common.{◌≡◌, ℕ, ◌+◌, Bool, true, false, map, Option, refl, sym, ap, ◌∙◌, arith, subst}
use Rattle.std.specs.Prelude.{◌==◌, ◌&&◌, nat_eq, not, is_some}
use Rattle.std.proofs.lemmas.Bool.{false≢true}
use Rattle.xk_base.specs.declared.ids.ThreadId.{ThreadId}
use Rattle.xk_base.specs.declared.limits.TheConstants.{TIMER_INTERRUPT}
use Rattle.xk_base.specs.Tables.Counting.{put_at}
use Rattle.machine_model.specs.Ending.Ends.{death}
use Rattle.machine_model.specs.Runs.Matched.{Matched}
use Rattle.machine_model.specs.Runs.Moments.{Cause, ByIrq, ByStep, caused}
use Rattle.machine_model.specs.State.Changes.{Change, Told, settled}
use Rattle.machine_model.specs.State.Machine.{Machine, Reservation}
use Rattle.machine_model.specs.Stepping.Interrupts.{pended}
use Rattle.machine_model.specs.Stepping.Reservations.{unreserved}
use Rattle.machine_model.specs.Stepping.Step.{Recorded, acted, record_of}
use Rattle.machine_model.specs.Stepping.Timer.{is_due, timed}
use Rattle.machine_model.proofs.Runs.TimerLemmas.{timed_raised}
use Rattle.machine_laws.proofs.Threading.ThreadStepLemmas.{turned_to}
use Rattle.machine_laws.specs.Records.{records_by}
use Rattle.machine_laws.proofs.Stepping.CauseCaseLemmas.{CauseCase, IsDead, Kills, NoneActs, Picks, Raises, RestCase, Rests, Steps, Turns, Unclaimed, case_of}
use Rattle.interrupt_laws.specs.Balance.{given_up_in, merges_in}
use Rattle.interrupt_laws.specs.Delivering.{deliveries, once_if, raises_in}
use Rattle.interrupt_laws.specs.Raising.{other_effects}
use Rattle.interrupt_laws.proofs.BalanceLemmas.{deliveries-recorded, settled_count, told_count, told_delivery}
use Rattle.interrupt_laws.proofs.BeforeTimerLemmas.{before_timer, effects_are, raise_of, raises_if_due}
use Rattle.interrupt_laws.proofs.EvenChangeLemmas.{IsEven, act_even, as_claimed, kept_even, none_given_up, timed_even}
use Rattle.interrupt_laws.proofs.KeptPendingLemmas.{PendingIsClaimed, and_true, death_kept}
use Rattle.interrupt_laws.proofs.OneDeliveryLemmas.{delivered_claims, pended_one}
use Rattle.interrupt_laws.proofs.Runs.ClaimantLemmas.{raise_finds_claim}

-- without a raise nothing merges
none_merges : (own raise pending : Bool) → raise ≡ false → once_if (own && raise) ≡ once_if ((own && raise) && pending)
none_merges false raise pending e = refl
none_merges true true pending e = absurd (false≢true (sym e))
none_merges true false pending e = refl

module _ (k : ℕ) where
  -- a moment is balanced
  abbrev EvenIn : Machine → Cause → Recorded → Type 0
  EvenIn m cause next =
      raises_in k cause m + once_if (m.pending k)
      ≡ deliveries k next.records + merges_in k cause m + given_up_in k m next.machine + once_if (next.machine.pending k)

  rest_merges : (m : Machine) (cause : Cause) (cursor : ThreadId) (reserved : Option Reservation) → RestCase m cause cursor reserved
      → raises_in k cause m ≡ merges_in k cause m
  rest_merges m _ _ _ (NoneActs e) =
      none_merges (TIMER_INTERRUPT == k) _ ((other_effects m).pending k)
      (ap (λ o. is_some o && is_due (other_effects m).compare (other_effects m).steps) e)
  rest_merges m _ _ _ (Picks who) = refl
  rest_merges m _ _ _ (Unclaimed n e) = none_merges (n == k) (is_some (m.claims n)) (m.pending k) (ap is_some e)
  rest_merges m _ _ _ (IsDead pid e) = refl
  rest_merges m _ _ _ Turns = refl

  module _ (m : Machine) (h : Matched m) where
    claimed : PendingIsClaimed m
    claimed n pending = h.rest.claims.pending_claimed n pending

    by_cause : (cause : Cause) (next : Recorded) → CauseCase m cause next → EvenIn m cause next
    unfolding settled
    by_cause _ _ (Rests cause cursor reserved rest) =
        let merge : raises_in k cause m ≡ merges_in k cause m = rest_merges m cause cursor reserved rest in
        let kept : once_if (m.pending k && not (is_some (m.claims k))) ≡ 0 = none_given_up k m claimed in
        omega arith
    by_cause _ _ (Steps who t acts there case) =
        let done : Told = before_timer m who t in
        let due : Bool = is_due done.machine.compare done.machine.steps in
        let tells : deliveries k (map (record_of (m.steps + 1)) (timed done).told) ≡ told_count k (timed done).told = deliveries-recorded k (m.steps + 1) (timed done).told in
        let timed_so : once_if ((TIMER_INTERRUPT == k) && due) + once_if (m.pending k)
        ≡ told_count k (timed done).told + once_if (((TIMER_INTERRUPT == k) && due) && done.machine.pending k)
        + given_up_in k m (timed done).machine + once_if ((timed done).machine.pending k) =
        timed_even k m done (act_even k m claimed who t (acted (turned_to who m) t) case) due
        (λ e. subst (λ (x : Machine). is_some (x.claims TIMER_INTERRUPT) ≡ true) (effects_are m who t acts there)
        (raise_finds_claim m h (raise_of m who t acts there e)))
        (ap (λ (x : Machine). x.claims) (timed_raised done).is) in
        let raise : raises_in k ByStep m ≡ once_if ((TIMER_INTERRUPT == k) && due) =
        ap (λ b. once_if ((TIMER_INTERRUPT == k) && b)) (raises_if_due m who t acts there) in
        let merge : merges_in k ByStep m ≡ once_if (((TIMER_INTERRUPT == k) && due) && done.machine.pending k) =
        ap (λ b. once_if (((TIMER_INTERRUPT == k) && b) && (other_effects m).pending k)) (raises_if_due m who t acts there)
        ∙ ap (λ (x : Machine). once_if (((TIMER_INTERRUPT == k) && due) && x.pending k)) (effects_are m who t acts there) in
        omega arith
    by_cause _ _ (Raises n claim e) =
        let next : Machine = record (unreserved m) { pending = put_at nat_eq m.pending n true } in
        let change : Change = pended n claim (unreserved m) in
        let one : once_if (n == k) + once_if (m.pending k) ≡ told_delivery k change.delivery + once_if ((n == k) && m.pending k) + once_if (change.machine.pending k) =
        pended_one k n claim (unreserved m) in
        let settles : told_count k (settled change).told ≡ told_delivery k change.delivery = settled_count k change in
        let tells : deliveries k (map (record_of m.steps) (settled change).told) ≡ told_count k (settled change).told = deliveries-recorded k m.steps (settled change).told in
        let raise : raises_in k (ByIrq n) m ≡ once_if (n == k) = ap (λ o. once_if ((n == k) && is_some o)) e ∙ ap once_if (and_true (n == k)) in
        let merge : merges_in k (ByIrq n) m ≡ once_if ((n == k) && m.pending k) =
        ap (λ o. once_if (((n == k) && is_some o) && m.pending k)) e ∙ ap (λ c. once_if (c && m.pending k)) (and_true (n == k)) in
        let kept : once_if (m.pending k && not (is_some (change.machine.claims k))) ≡ 0 =
        as_claimed k m change.machine.claims claimed (delivered_claims claim.pid next) in
        omega arith
    by_cause _ _ (Kills pid e) =
        let change : Change = death pid (unreserved m) in
        let even : IsEven k m (settled change) = kept_even k (unreserved m) change (death_kept pid (unreserved m) claimed) in
        let tells : deliveries k (map (record_of m.steps) (settled change).told) ≡ told_count k (settled change).told = deliveries-recorded k m.steps (settled change).told in
        omega arith

    pub moment_even : (cause : Cause) → EvenIn m cause (record { machine = caused cause m; records = records_by cause m })
    moment_even cause = by_cause cause (record { machine = caused cause m; records = records_by cause m }) (case_of cause m)
