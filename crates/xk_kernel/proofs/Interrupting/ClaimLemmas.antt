-- The claims of a kernel as its machine has them, and the calls that claim an interrupt and free one.
use Rattle.std.proofs.Common.{◌≡◌, ℕ, ◌<◌, Bool, true, false, Option, Some, None, refl, sym, ap, ◌∙◌, nat_eq, arith}
use Rattle.std.specs.Prelude.{◌%◌, ◌==◌, nat_lt, not, is_some, if◌then◌else◌, Result, Ok, Err}
use Rattle.std.specs.Option.{option_map}
use Rattle.std.proofs.lemmas.Bool.{eq-eqb}
use Rattle.std.proofs.lemmas.Bool.Decides.{nat_tests}
use Rattle.irq_claims.specs.ClaimMap.{is_of, new_claim, with_pending}
use Rattle.irq_claims.specs.ClaimsOf.{claims_of}
use Rattle.irq_claims.specs.declared.claims.Claim.{Claim as TableClaim}
use Rattle.irq_claims.specs.declared.claims.Claims.{Claims}
use Rattle.machine_model.specs.Calling.InterruptCalls.{claim_refusals, claim_served, free_refusals, free_served}
use Rattle.machine_model.specs.State.Changes.{Outcome, Refused, Served, answering, refused_or, unless_refused}
use Rattle.machine_model.specs.State.Machine.{Machine}
use Rattle.machine_model.specs.State.Threads.{answer_to}
use Rattle.machine_model.specs.Stepping.Interrupts.{disarmed_if, is_claim_of}
use Rattle.sv32_space.specs.Tie.{Held}
use Rattle.syscall_codec.specs.ReplyWords.{plain_words}
use Rattle.xk_base.specs.Tables.Counting.{put_at}
use Rattle.xk_base.specs.declared.errors.XousError.{XousError}
use Rattle.xk_base.specs.declared.errors.XousError.TheVariants.{BadAlignment, InterruptInUse, InterruptNotFound}
use Rattle.xk_base.specs.declared.ids.Pid.{Pid}
use Rattle.xk_base.specs.declared.limits.TheConstants.{INTERRUPT_LIMIT, TIMER_INTERRUPT}
use Rattle.irq_path.proofs.ClaimLemmas.{claims_shown-put, claims_shown-stay, pending_of, pending_shown-put, put_same}
use Rattle.xk_kernel.specs.State.{claim_of, machine_of}
use Rattle.xk_kernel.specs.declared.kernel.Kernel.{Kernel}

-- ---- one claim

pub is_some_claim : (o : Option TableClaim) → is_some (option_map claim_of o) ≡ is_some o
is_some_claim None = refl
is_some_claim (Some claim) = refl

pub is_of_claim : (pid : Pid) (o : Option TableClaim) → is_claim_of pid (option_map claim_of o) ≡ is_of pid o
is_of_claim pid None = refl
is_of_claim pid (Some claim) = refl

-- ---- a table with another claim, or none, at a number

module _ {W : Type 0} (held : W → Held) (k : Kernel W) (new : Claims) (n : ℕ) where
  abbrev m : Machine
  m = machine_of held k

  abbrev with_claims : Kernel W
  with_claims = record k { claims = new }

  abbrev PutsClaim : Option TableClaim → Type 0
  PutsClaim o = claims_of new ≡ put_at nat_eq (claims_of k.claims) n o

  put_claim : (o : Option TableClaim) → PutsClaim o
      → machine_of held with_claims
      ≡ record m { claims = put_at nat_eq m.claims n (option_map claim_of o); pending = put_at nat_eq m.pending n (pending_of o) }
  unfolding machine_of
  put_claim o e = λ i. record (machine_of held k) { claims = claims_shown-put k.claims new n o e i; pending = pending_shown-put k.claims new n o e i }

  -- the number is claimed, which wasn't
  pub claimed : (claim : TableClaim) → claim.pending ≡ false → claims_of k.claims n ≡ None → PutsClaim (Some claim)
      → machine_of held with_claims ≡ record m { claims = put_at nat_eq m.claims n (Some (claim_of claim)) }
  unfolding machine_of
  claimed claim quiet none e =
      put_claim (Some claim) e
      ∙ (λ i. record m { claims = put_at nat_eq m.claims n (Some (claim_of claim)); pending = same i })
    where
      same : put_at nat_eq m.pending n claim.pending ≡ m.pending
      same = put_same m.pending n claim.pending (ap pending_of none ∙ sym quiet)

  -- nobody claims the number any more, and the timer is disarmed where it is its own
  pub freed : (timer : Option ℕ) → timer ≡ disarmed_if (n == TIMER_INTERRUPT) k.timer → PutsClaim None
      → machine_of held (record k { claims = new; timer = timer })
      ≡ record m {
        claims = put_at nat_eq m.claims n None;
        pending = put_at nat_eq m.pending n false;
        compare = disarmed_if (n == TIMER_INTERRUPT) m.compare;
      }
  unfolding machine_of
  freed timer disarmed e = λ i. record (put_claim None e i) { compare = disarmed i }

  -- the number is pending, or isn't any more
  pub pending_put : (claim : TableClaim) (pending : Bool) → claims_of k.claims n ≡ Some claim → PutsClaim (Some (with_pending pending claim))
      → machine_of held with_claims ≡ record m { pending = put_at nat_eq m.pending n pending }
  unfolding machine_of
  pending_put claim pending there e = λ i. record (machine_of held k) {
    claims = claims_shown-stay k.claims new n claim pending there e i;
    pending = pending_shown-put k.claims new n (Some (with_pending pending claim)) e i;
  }

-- a table that holds the same claims
pub same_claims : {W : Type 0} (held : W → Held) (k : Kernel W) (new : Claims) → claims_of new ≡ claims_of k.claims
    → machine_of held (record k { claims = new }) ≡ machine_of held k
unfolding machine_of
same_claims held k new e = λ i. record (machine_of held k) {
  claims = λ q. option_map claim_of (e i q);
  pending = λ q. pending_of (e i q);
}

-- ---- ClaimInterrupt

abbrev error_of : Result (Unit {0}) XousError → XousError
error_of (Ok x) = InterruptInUse
error_of (Err error) = error

-- what the table answers
pub in_use : (o : Option TableClaim) (error : XousError) → ◌≡◌ {A = Result (Unit {0}) XousError} (Err error) (if is_some o then Err InterruptInUse else Ok tt)
    → (is_some o ≡ true) × (error ≡ InterruptInUse)
in_use None error e = cc
in_use (Some claim) error e = (refl, ap error_of e)

pub not_in_use : (o : Option TableClaim) → ◌≡◌ {A = Result (Unit {0}) XousError} (Ok tt) (if is_some o then Err InterruptInUse else Ok tt) → o ≡ None
not_in_use None e = refl
not_in_use (Some claim) e = cc

module _ {W : Type 0} (held : W → Held) (k : Kernel W) (n handler arg : ℕ) where
  abbrev claim_row : Outcome
  claim_row = unless_refused (claim_refusals (machine_of held k) n handler) (Served (claim_served (machine_of held k) n handler arg))

  abbrev claim_row_by : Bool → Bool → Bool → Outcome
  claim_row_by a b c =
      refused_or (if a then Some InterruptNotFound else (if b then Some BadAlignment else (if c then Some InterruptInUse else None)))
      (Served (claim_served (machine_of held k) n handler arg))

  claim_row_is : (a b c : Bool) → not (nat_lt n INTERRUPT_LIMIT) ≡ a → not (handler % 4 == 0) ≡ b → is_some ((machine_of held k).claims n) ≡ c
      → claim_row_by a b c ≡ claim_row
  claim_row_is a b c p q r = sym (λ i. claim_row_by (p i) (q i) (r i))

  module _ (low : n < INTERRUPT_LIMIT) where
    few : not (nat_lt n INTERRUPT_LIMIT) ≡ false
    few = grind (arith, nat_tests)

    module _ (aligned : handler % 4 ≡ 0) where
      even : not (handler % 4 == 0) ≡ false
      even = ap not (eq-eqb (handler % 4) 0 aligned)

      pub claim_refused : (error : XousError) → (is_some (claims_of k.claims n) ≡ true) × (error ≡ InterruptInUse) → Refused error ≡ claim_row
      unfolding machine_of
      claim_refused error (used, is) = ap Refused is ∙ claim_row_is false false true few even (is_some_claim (claims_of k.claims n) ∙ used)

      pub claim_accepted : (new : Claims) → claims_of k.claims n ≡ None
          → claims_of new ≡ put_at nat_eq (claims_of k.claims) n (Some (new_claim k.cursor.pid handler arg))
          → Served (answering (answer_to k.cursor plain_words) (machine_of held (record k { claims = new }))) ≡ claim_row
      unfolding machine_of
      claim_accepted new none e =
          ap (λ x. Served (answering (answer_to k.cursor plain_words) x)) (claimed held k new n (new_claim k.cursor.pid handler arg) refl none e)
          ∙ claim_row_is false false false few even (ap (λ o. is_some (option_map claim_of o)) none)

-- ---- FreeInterrupt

-- what the table answers
pub not_found : (b : Bool) (error : XousError) → ◌≡◌ {A = Result (Unit {0}) XousError} (Err error) (if b then Ok tt else Err InterruptNotFound)
    → (b ≡ false) × (error ≡ InterruptNotFound)
not_found true error e = cc
not_found false error e = (refl, ap error_of e)

pub found : (b : Bool) → ◌≡◌ {A = Result (Unit {0}) XousError} (Ok tt) (if b then Ok tt else Err InterruptNotFound) → b ≡ true
found true e = refl
found false e = cc

module _ {W : Type 0} (held : W → Held) (k : Kernel W) (n : ℕ) where
  abbrev free_row : Outcome
  free_row = unless_refused (free_refusals (machine_of held k) n) (Served (free_served (machine_of held k) n))

  free_row_is : (b : Bool) → is_claim_of (machine_of held k).cursor.pid ((machine_of held k).claims n) ≡ b
      → refused_or (if not b then Some InterruptNotFound else None) (Served (free_served (machine_of held k) n)) ≡ free_row
  free_row_is b e = sym (ap (λ x. refused_or (if not x then Some InterruptNotFound else None) (Served (free_served (machine_of held k) n))) e)

  pub free_refused : (error : XousError) → (is_of k.cursor.pid (claims_of k.claims n) ≡ false) × (error ≡ InterruptNotFound) → Refused error ≡ free_row
  unfolding machine_of
  free_refused error (none, is) = ap Refused is ∙ free_row_is false (is_of_claim k.cursor.pid (claims_of k.claims n) ∙ none)

  pub free_accepted : (new : Claims) (timer : Option ℕ) → is_of k.cursor.pid (claims_of k.claims n) ≡ true
      → claims_of new ≡ put_at nat_eq (claims_of k.claims) n None → timer ≡ disarmed_if (n == TIMER_INTERRUPT) k.timer
      → Served (answering (answer_to k.cursor plain_words) (machine_of held (record k { claims = new; timer = timer }))) ≡ free_row
  unfolding machine_of
  free_accepted new timer own e disarmed =
      ap (λ x. Served (answering (answer_to k.cursor plain_words) x)) (freed held k new n timer disarmed e)
      ∙ free_row_is true (is_of_claim k.cursor.pid (claims_of k.claims n) ∙ own)
