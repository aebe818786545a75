-- Which numbers are pending after a delivery, after a raise and after the timer: those of other processes are as before.
use Rattle.std.proofs.Common.{◌≡◌, ◌≢◌, ℕ, Bool, ◌&&◌, true, false, Option, Some, None, refl, sym, ap, ◌∙◌}
use Rattle.std.specs.Prelude.{◌==◌, nat_eq, if◌then◌else◌}
use Rattle.std.specs.Option.{option_map_or}
use Rattle.std.proofs.lemmas.Bool.{and_from, and_parts, eq-eqb, eqb-true, false_from_ne_true, false≢true}
use Rattle.std.proofs.lemmas.Option.{none-some, same_Some}
use Rattle.xk_base.specs.declared.ids.Pid.{Pid}
use Rattle.xk_base.specs.declared.limits.TheConstants.{INTERRUPT_LIMIT, TIMER_INTERRUPT}
use Rattle.xk_base.specs.Tables.Circle.{same_thread}
use Rattle.xk_base.specs.Tables.Counting.{put_at}
use Rattle.xk_base.proofs.CountingLemmas.{least_below-passes}
use Rattle.machine_model.specs.State.Changes.{Told, settled}
use Rattle.machine_model.specs.State.Machine.{Claim, Machine}
use Rattle.machine_model.specs.State.Threads.{thread_id}
use Rattle.machine_model.specs.Stepping.Interrupts.{delivered, delivered_lowest, handler_started, is_claim_of, is_free_for_interrupt, lowest_pending, pended}
use Rattle.machine_model.specs.Stepping.Timer.{is_due, raised_by_timer, timed, timed_if}

-- ---- whose a claim is

-- a claim that is found to be another's
pub claim_apart : (claim : Claim) (pid : Pid) → claim.pid ≢ pid → is_claim_of pid (Some claim) ≡ false
claim_apart claim pid other =
    false_from_ne_true (claim.pid.0 == pid.0) (λ e. other (λ i. record { 0 = eqb-true claim.pid.0 pid.0 e i }))

-- whose interrupt thread isn't the claimant's isn't the claimant
pub not_of_claimant : (pid : Pid) (o : Option Claim) → option_map_or (λ claim. same_thread (thread_id pid 1) (thread_id claim.pid 1)) o false ≡ false
    → is_claim_of pid o ≡ false
not_of_claimant pid None e = refl
not_of_claimant pid (Some claim) e =
    false_from_ne_true (claim.pid.0 == pid.0)
    (λ same.
    false≢true (sym e ∙ and_from (pid.0 == claim.pid.0) true (eq-eqb pid.0 claim.pid.0 (sym (eqb-true claim.pid.0 pid.0 same))) refl))

-- the lowest pending number of a process is one that it claimed
pub lowest_claimed : (m : Machine) (pid : Pid) (free : Bool) (k : ℕ) → (if free then lowest_pending m pid else None) ≡ Some k
    → is_claim_of pid (m.claims k) ≡ true
unfolding lowest_pending
lowest_claimed m pid false k e = absurd (none-some k e)
lowest_claimed m pid true k e =
    (and_parts (m.pending k) (is_claim_of pid (m.claims k))
    (least_below-passes INTERRUPT_LIMIT (λ j. m.pending j && is_claim_of pid (m.claims j)) k e)).1

-- ---- a delivery to another process

module _ (m : Machine) (pid : Pid) (k : ℕ) (claim : Claim) (there : m.claims k ≡ Some claim) (other : claim.pid ≢ pid) where
  pub started_pending : (number : ℕ) → is_claim_of pid (m.claims number) ≡ true → (o : Option Claim)
      → (handler_started m pid number o).machine.pending k ≡ m.pending k
  started_pending number own None = refl
  started_pending number own (Some c) = go (nat_eq k number) refl
    where
      go : (b : Bool) → nat_eq k number ≡ b → (if b then false else m.pending k) ≡ m.pending k
      go false q = refl
      go true q =
          absurd (false≢true (sym (claim_apart claim pid other)
          ∙ (ap (is_claim_of pid) (sym there) ∙ (ap (λ j. is_claim_of pid (m.claims j)) (eqb-true k number q) ∙ own))))

  lowest_keeps : (o : Option ℕ) → (if is_free_for_interrupt m pid then lowest_pending m pid else None) ≡ o
      → (delivered_lowest m pid o).machine.pending k ≡ m.pending k
  lowest_keeps None e = refl
  lowest_keeps (Some number) e =
      started_pending number (lowest_claimed m pid (is_free_for_interrupt m pid) number e) (m.claims number)

  pub delivered_pending : (delivered pid m).machine.pending k ≡ m.pending k
  unfolding delivered
  delivered_pending = lowest_keeps (if is_free_for_interrupt m pid then lowest_pending m pid else None) refl

-- ---- a raise, by an event or by the timer

module _ (k : ℕ) (claim : Claim) where
  -- .. of a number that another process claimed
  pub pended_pending : (m : Machine) (n : ℕ) (c : Claim) → m.claims k ≡ Some claim → m.claims n ≡ Some c → claim.pid ≢ c.pid
      → (settled (pended n c m)).machine.pending k ≡ m.pending k
  unfolding settled
  pended_pending m n c there claimed other =
      delivered_pending (record m { pending = put_at nat_eq m.pending n true }) c.pid k claim there other ∙ go (nat_eq k n) refl
    where
      go : (b : Bool) → nat_eq k n ≡ b → (if b then true else m.pending k) ≡ m.pending k
      go false q = refl
      go true q = absurd (other (ap (λ (x : Claim). x.pid) (same_Some claim c (sym there ∙ (ap m.claims (eqb-true k n q) ∙ claimed)))))

  raised_pending : (m : Machine) → m.claims k ≡ Some claim → (o : Option Claim) → m.claims TIMER_INTERRUPT ≡ o → is_claim_of claim.pid o ≡ false
      → (settled (raised_by_timer o (record m { compare = None }))).machine.pending k ≡ m.pending k
  unfolding settled
  raised_pending m there None e untimed = refl
  raised_pending m there (Some c) e untimed =
      pended_pending (record m { compare = None }) TIMER_INTERRUPT c there e
      (λ same. false≢true (sym untimed ∙ eq-eqb c.pid.0 claim.pid.0 (ap (λ (x : Pid). x.0) (sym same))))

  timed_if_pending : (b : Bool) (told : Told) → told.machine.claims k ≡ Some claim → is_claim_of claim.pid (told.machine.claims TIMER_INTERRUPT) ≡ false
      → (timed_if b told).machine.pending k ≡ told.machine.pending k
  timed_if_pending false told there untimed = refl
  timed_if_pending true told there untimed = raised_pending told.machine there (told.machine.claims TIMER_INTERRUPT) refl untimed

-- the timer leaves the interrupts of the processes that haven't claimed it
pub timed_pending : (told : Told) (k : ℕ) (claim : Claim) → told.machine.claims k ≡ Some claim
    → is_claim_of claim.pid (told.machine.claims TIMER_INTERRUPT) ≡ false → (timed told).machine.pending k ≡ told.machine.pending k
timed_pending told k claim = timed_if_pending k claim (is_due told.machine.compare told.machine.steps) told
