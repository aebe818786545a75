-- A delivery leaves no pending number beside an Idle interrupt thread, and so does a raise, by an event or by the timer.
use Rattle.std.proofs.Common.{◌≡◌, ◌≢◌, ℕ, ◌<◌, Bool, true, false, ◌⊎◌, inl, inr, Option, Some, None, nat_eq, refl, sym, ap, ◌∙◌}
use Rattle.std.specs.Prelude.{◌==◌, ◌&&◌, if◌then◌else◌}
use Rattle.std.specs.Option.{option_map}
use Rattle.std.proofs.lemmas.Bool.{and_from, and_parts, eq-eqb, eqb-true, false≢true}
use Rattle.std.proofs.lemmas.Option.{same_Some}
use Rattle.xk_base.proofs.CountingLemmas.{least_below-none, least_below-passes}
use Rattle.xk_base.specs.declared.ids.Pid.{Pid}
use Rattle.xk_base.specs.declared.limits.TheConstants.{INTERRUPT_LIMIT, TIMER_INTERRUPT}
use Rattle.xk_base.specs.Tables.Circle.{same_thread}
use Rattle.xk_base.specs.Tables.Counting.{least_below, put_at}
use Rattle.machine_model.specs.Ending.Ends.{handler_ended}
use Rattle.machine_model.specs.State.Changes.{Told, only, settled}
use Rattle.machine_model.specs.State.Machine.{Claim, Idle, Machine}
use Rattle.machine_model.specs.State.Threads.{change_thread, handler_thread, thread_id, with_state}
use Rattle.machine_model.specs.Stepping.Interrupts.{delivered, delivered_lowest, handler_started, is_claim_of, is_free_for_interrupt, lowest_pending, pended}
use Rattle.machine_model.specs.Stepping.Timer.{raised_by_timer, timed_if}
use Rattle.machine_laws.proofs.Threading.ThreadAnswerLemmas.{same_thread-self}
use Rattle.interrupt_laws.specs.Busy.{PendingMeansBusy}
use Rattle.interrupt_laws.proofs.IdleLemmas.{apart, busy_kept, idle_at, settled_calms}

-- only numbers below the limit are claimed
abbrev pub AreNumbers : Machine → Type 0
AreNumbers m = (k : ℕ) (claim : Claim) → m.claims k ≡ Some claim → k < INTERRUPT_LIMIT

still_pending : (b old : Bool) → (if b then false else old) ≡ true → old ≡ true
still_pending true old e = absurd (false≢true e)
still_pending false old e = e

by_pid : (a b : Pid) → (a ≡ b) ⊎ (a ≢ b)
by_pid a b = go (a.0 == b.0) refl
  where
    go : (c : Bool) → (a.0 == b.0) ≡ c → (a ≡ b) ⊎ (a ≢ b)
    go true q = inl (λ i. record { 0 = eqb-true a.0 b.0 q i })
    go false q = inr (λ same. false≢true (sym q ∙ eq-eqb a.0 b.0 (ap (λ (p : Pid). p.0) same)))

-- the law holds of the other processes
abbrev pub OthersBusy : Pid → Machine → Type 0
OthersBusy pid x =
    (k : ℕ) (claim : Claim) → x.claims k ≡ Some claim → claim.pid ≢ pid → x.pending k ≡ true → is_free_for_interrupt x claim.pid ≡ false

-- then a delivery to the process makes it hold of all
module _ (pid : Pid) (x : Machine) (numbers : AreNumbers x) (others : OthersBusy pid x) where
  -- no handler starts
  rests : ((k : ℕ) (claim : Claim) → x.claims k ≡ Some claim → claim.pid ≡ pid → x.pending k ≡ true → is_free_for_interrupt x claim.pid ≡ false)
      → PendingMeansBusy x
  rests own k claim c p = go (by_pid claim.pid pid)
    where
      go : (claim.pid ≡ pid) ⊎ (claim.pid ≢ pid) → is_free_for_interrupt x claim.pid ≡ false
      go (inl same) = own k claim c same p
      go (inr other) = others k claim c other p

  started_busy : (n : ℕ) (o : Option Claim) → is_claim_of pid o ≡ true → PendingMeansBusy (handler_started x pid n o).machine
  started_busy n None own k claim c p = absurd (false≢true own)
  started_busy n (Some started) own k claim c p = go (same_thread (thread_id claim.pid 1) (thread_id pid 1)) refl
    where
      go : (b : Bool) → same_thread (thread_id claim.pid 1) (thread_id pid 1) ≡ b
          → idle_at (if b then Some (handler_thread n started) else x.threads (thread_id claim.pid 1)) ≡ false
      go true q = refl
      go false q =
          others k claim c
          (λ same. false≢true (sym q ∙ (ap (λ a. same_thread (thread_id a 1) (thread_id pid 1)) same ∙ same_thread-self (thread_id pid 1))))
          (still_pending (nat_eq k n) (x.pending k) p)

  abbrev is_due_to : ℕ → Bool
  is_due_to j = x.pending j && is_claim_of pid (x.claims j)

  lowest_busy : (o : Option ℕ) → least_below INTERRUPT_LIMIT is_due_to ≡ o → PendingMeansBusy (delivered_lowest x pid o).machine
  lowest_busy None e =
      rests (λ k claim c same p.
      absurd (false≢true (sym (least_below-none INTERRUPT_LIMIT is_due_to e k (numbers k claim c))
      ∙ and_from (x.pending k) (is_claim_of pid (x.claims k)) p
      (ap (is_claim_of pid) c ∙ eq-eqb claim.pid.0 pid.0 (ap (λ (a : Pid). a.0) same)))))
  lowest_busy (Some n) e =
      started_busy n (x.claims n) (and_parts (x.pending n) (is_claim_of pid (x.claims n)) (least_below-passes INTERRUPT_LIMIT is_due_to n e)).1

  pub delivered_busy : PendingMeansBusy (delivered pid x).machine
  unfolding delivered lowest_pending
  delivered_busy = go (is_free_for_interrupt x pid) refl
    where
      go : (b : Bool) → is_free_for_interrupt x pid ≡ b → PendingMeansBusy (delivered_lowest x pid (if b then lowest_pending x pid else None)).machine
      go true e = lowest_busy (lowest_pending x pid) refl
      go false e = rests (λ k claim c same p. ap (is_free_for_interrupt x) same ∙ e)

-- ---- handlers that end

module _ (pid : Pid) (m : Machine) (numbers : AreNumbers m) (busy : PendingMeansBusy m) where
  rested : OthersBusy pid (change_thread (thread_id pid 1) (with_state Idle) m)
  rested k claim c other p =
      ap (λ b. idle_at (if b then option_map (with_state Idle) (m.threads (thread_id pid 1)) else m.threads (thread_id claim.pid 1)))
      (apart claim.pid pid other)
      ∙ busy k claim c p

  pub handler_end_busy : PendingMeansBusy (handler_ended pid m).machine
  unfolding handler_ended
  handler_end_busy = delivered_busy pid (change_thread (thread_id pid 1) (with_state Idle) m) numbers rested

-- ---- raises

module _ (n : ℕ) (claim : Claim) (x : Machine) (numbers : AreNumbers x) (claimed : x.claims n ≡ Some claim) (busy : PendingMeansBusy x) where
  raised_others : OthersBusy claim.pid (record x { pending = put_at nat_eq x.pending n true })
  raised_others k other c not_same p = go (nat_eq k n) refl p
    where
      go : (b : Bool) → nat_eq k n ≡ b → (if b then true else x.pending k) ≡ true → is_free_for_interrupt x other.pid ≡ false
      go true q r =
          absurd (not_same (ap (λ (a : Claim). a.pid) (same_Some other claim (sym c ∙ (ap x.claims (eqb-true k n q) ∙ claimed)))))
      go false q r = busy k other c r

  pub pended_busy : PendingMeansBusy (settled (pended n claim x)).machine
  pended_busy =
      busy_kept (pended n claim x).machine (settled (pended n claim x)).machine (settled_calms (pended n claim x))
      (delivered_busy claim.pid (record x { pending = put_at nat_eq x.pending n true }) numbers raised_others)

raised_busy : (o : Option Claim) (x : Machine) → x.claims TIMER_INTERRUPT ≡ o → AreNumbers x → PendingMeansBusy x
    → PendingMeansBusy (settled (raised_by_timer o x)).machine
raised_busy None x e numbers busy = busy_kept x (settled (only x)).machine (settled_calms (only x)) busy
raised_busy (Some claim) x e numbers busy = pended_busy TIMER_INTERRUPT claim x numbers e busy

pub timed_busy : (b : Bool) (done : Told) → AreNumbers done.machine → PendingMeansBusy done.machine → PendingMeansBusy (timed_if b done).machine
timed_busy false done numbers busy = busy
timed_busy true done numbers busy =
    raised_busy (done.machine.claims TIMER_INTERRUPT) (record done.machine { compare = None }) refl numbers busy
