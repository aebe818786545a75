-- ClaimInterrupt and FreeInterrupt keep the machine matched.
use Rattle.std.proofs.Common.{◌≡◌, ℕ, ◌<◌, Bool, true, false, List, Option, Some, None, refl, sym, ap, ◌∙◌, arith, subst}
use Rattle.std.specs.Prelude.{◌%◌, ◌==◌, not, nat_lt, nat_eq, is_some, if◌then◌else◌}
use Rattle.std.proofs.lemmas.Bool.{eq-eqb, eqb-true, false≢true}
use Rattle.std.proofs.lemmas.Bool.Decides.{nat_tests}
use Rattle.std.proofs.lemmas.Option.{none-some, same_Some}
use Rattle.xk_base.specs.declared.errors.XousError.TheVariants.{BadAlignment, InterruptNotFound, InterruptInUse}
use Rattle.xk_base.specs.declared.limits.TheConstants.{INTERRUPT_LIMIT, TIMER_INTERRUPT}
use Rattle.syscall_codec.specs.CallWords.{call_number, interrupt_number, interrupt_handler, interrupt_argument}
use Rattle.xk_base.specs.Tables.Counting.{put_at}
use Rattle.syscall_codec.specs.ReplyWords.{plain_words}
use Rattle.machine_model.specs.Calling.Calls.{call}
use Rattle.machine_model.specs.State.Changes.{Served, first_refusal}
use Rattle.machine_model.specs.Calling.InterruptCalls.{claim_call, claim_served, claim_refusals, free_call, free_served, free_refusals}
use Rattle.machine_model.specs.Stepping.Interrupts.{disarmed_if}
use Rattle.machine_model.specs.State.Machine.{Machine, Claim}
use Rattle.machine_model.specs.Runs.Matched.{Matched, IsTimerMatched, is_living}
use Rattle.machine_model.specs.State.Order.{ready_at}
use Rattle.machine_laws.proofs.Threading.ThreadAnswerLemmas.{ready_lives}
use Rattle.machine_laws.proofs.Threading.ThreadMoveLemmas.{KeepsClaims, matched_claimed}
use Rattle.machine_laws.proofs.Calling.AnsweredCallLemmas.{Keeps}
use Rattle.machine_laws.proofs.Calling.ThreadCallLemmas.{answered_keeps, unless_refused_keeps, three_passed, call_keeps}

-- a key of numbers and what is put there
pub at_key : (k n : ℕ) → (n == k) ≡ true → n ≡ k
at_key k n e = eqb-true n k e

module _ (m : Machine) (h : Matched m) where
  -- one more claim
  module _ (k : ℕ) (claim : Claim) (few : k < INTERRUPT_LIMIT) (aligned : claim.handler % 4 ≡ 0) (lives : is_living m claim.pid ≡ true) where
    abbrev with_claim : ℕ → Option Claim
    with_claim = put_at nat_eq m.claims k (Some claim)

    handlers : (n : ℕ) (other : Claim) (b : Bool) → (if b then Some claim else m.claims n) ≡ Some other → other.handler % 4 ≡ 0
    handlers n other true e = sym (ap (λ (x : Claim). x.handler % 4) (same_Some claim other e)) ∙ aligned
    handlers n other false e = h.rest.handlers n other e

    below : (n : ℕ) (other : Claim) (b : Bool) → nat_eq n k ≡ b → (if b then Some claim else m.claims n) ≡ Some other → n < INTERRUPT_LIMIT
    below n other true q e = subst (λ j. j < INTERRUPT_LIMIT) (sym (at_key k n q)) few
    below n other false q e = h.rest.claims.numbers n other e

    living : (n : ℕ) (other : Claim) (b : Bool) → (if b then Some claim else m.claims n) ≡ Some other → is_living m other.pid ≡ true
    living n other true e = sym (ap (λ (x : Claim). is_living m x.pid) (same_Some claim other e)) ∙ lives
    living n other false e = h.rest.claims.living n other e

    there : (n : ℕ) (b : Bool) → is_some (m.claims n) ≡ true → is_some (if b then Some claim else m.claims n) ≡ true
    there n true e = refl
    there n false e = e

    pub one_more_claim : KeepsClaims m.process with_claim m.pending m.compare
    one_more_claim = record {
      handlers = λ n other e. handlers n other (nat_eq n k) e;
      claims = record {
        living = λ n other e. living n other (nat_eq n k) e;
        numbers = λ n other e. below n other (nat_eq n k) refl e;
        pending_claimed = λ n e. there n (nat_eq n k) (h.rest.claims.pending_claimed n e);
      };
      timer = λ e. there TIMER_INTERRUPT (nat_eq TIMER_INTERRUPT k) (h.rest.timer e);
    }

  -- one claim less
  module _ (k : ℕ) where
    remains : (n : ℕ) (other : Claim) (b : Bool) → (if b then None else m.claims n) ≡ Some other → m.claims n ≡ Some other
    remains n other true e = absurd (none-some other e)
    remains n other false e = e

    still_claimed : (n : ℕ) (b : Bool) → (if b then false else m.pending n) ≡ true → is_some (if b then None else m.claims n) ≡ true
    still_claimed n true e = absurd (false≢true e)
    still_claimed n false e = h.rest.claims.pending_claimed n e

    -- the timer is armed still only where another claim ended
    still_armed : (b : Bool) → (k == TIMER_INTERRUPT) ≡ b → (o : Option ℕ) → is_some (disarmed_if b o) ≡ true
        → (nat_eq TIMER_INTERRUPT k ≡ false) × (is_some o ≡ true)
    still_armed b q None e = absurd (false≢true e)
    still_armed true q (Some compare) e = absurd (false≢true e)
    still_armed false q (Some compare) e = (other (nat_eq TIMER_INTERRUPT k) refl, refl)
      where
        other : (c : Bool) → nat_eq TIMER_INTERRUPT k ≡ c → c ≡ false
        other false r = refl
        other true r = absurd (false≢true (sym q ∙ eq-eqb k TIMER_INTERRUPT (sym (at_key k TIMER_INTERRUPT r))))

    timer_left : IsTimerMatched (disarmed_if (k == TIMER_INTERRUPT) m.compare) (put_at nat_eq m.claims k None)
    timer_left e =
        let parts : (nat_eq TIMER_INTERRUPT k ≡ false) × (is_some m.compare ≡ true) =
        still_armed (k == TIMER_INTERRUPT) refl m.compare e in
        ap (λ b. is_some (if b then None else m.claims TIMER_INTERRUPT)) parts.0 ∙ h.rest.timer parts.1

    pub one_claim_less : KeepsClaims m.process (put_at nat_eq m.claims k None) (put_at nat_eq m.pending k false)
        (disarmed_if (k == TIMER_INTERRUPT) m.compare)
    one_claim_less = record {
      handlers = λ n other e. h.rest.handlers n other (remains n other (nat_eq n k) e);
      claims = record {
        living = λ n other e. h.rest.claims.living n other (remains n other (nat_eq n k) e);
        numbers = λ n other e. h.rest.claims.numbers n other (remains n other (nat_eq n k) e);
        pending_claimed = λ n e. still_claimed n (nat_eq n k) e;
      };
      timer = timer_left;
    }

module _ (m : Machine) (h : Matched m) (ready : ready_at m m.cursor ≡ true) (w : List ℕ) where
  claim_served_keeps : (k handler argument : ℕ) → first_refusal (claim_refusals m k handler) ≡ None → Keeps m (Served (claim_served m k handler argument))
  claim_served_keeps k handler argument none =
      let fit : (not (nat_lt k INTERRUPT_LIMIT) ≡ false) × (not (handler % 4 == 0) ≡ false) × (is_some (m.claims k) ≡ false) =
      three_passed (not (nat_lt k INTERRUPT_LIMIT)) (not (handler % 4 == 0)) (is_some (m.claims k)) InterruptNotFound BadAlignment InterruptInUse none in
      let low : not (nat_lt k INTERRUPT_LIMIT) ≡ false = fit.0 in
      let even : not (handler % 4 == 0) ≡ false = fit.1 in
      let few : k < INTERRUPT_LIMIT = grind (arith, nat_tests) in
      let aligned : handler % 4 ≡ 0 = grind (arith, nat_tests) in
      let claim : Claim = record { pid = m.cursor.pid; handler = handler; argument = argument } in
      answered_keeps m (record m { claims = put_at nat_eq m.claims k (Some claim) }) plain_words
      (matched_claimed m h (put_at nat_eq m.claims k (Some claim)) m.pending m.compare (one_more_claim m h k claim few aligned (ready_lives m h m.cursor ready))) ready (omega arith)

  claim_keeps : Keeps m (claim_call m w)
  unfolding claim_call
  claim_keeps = unless_refused_keeps m h (claim_refusals m (interrupt_number w) (interrupt_handler w))
      (Served (claim_served m (interrupt_number w) (interrupt_handler w) (interrupt_argument w)))
      (claim_served_keeps (interrupt_number w) (interrupt_handler w) (interrupt_argument w))

  free_served_keeps : (k : ℕ) → Keeps m (Served (free_served m k))
  free_served_keeps k =
      let disarmed : Option ℕ = disarmed_if (k == TIMER_INTERRUPT) m.compare in
      answered_keeps m (record m { claims = put_at nat_eq m.claims k None; pending = put_at nat_eq m.pending k false; compare = disarmed }) plain_words
      (matched_claimed m h (put_at nat_eq m.claims k None) (put_at nat_eq m.pending k false) disarmed (one_claim_less m h k)) ready (omega arith)

  free_keeps : Keeps m (free_call m w)
  unfolding free_call
  free_keeps = unless_refused_keeps m h (free_refusals m (interrupt_number w)) (Served (free_served m (interrupt_number w)))
      (λ none. free_served_keeps (interrupt_number w))

  pub claim_number_keeps : call_number w ≡ 5 → Keeps m (call m w)
  claim_number_keeps e = call_keeps m h ready w 5 e (λ none. claim_keeps)

  pub free_number_keeps : call_number w ≡ 6 → Keeps m (call m w)
  free_number_keeps e = call_keeps m h ready w 6 e (λ none. free_keeps)
