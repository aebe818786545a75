-- A delivery takes just its number out of the pending ones, and a raise puts one in, unless it is there. Both leave the claims.
use Rattle.std.proofs.Common.{◌≡◌, ℕ, ◌+◌, Bool, true, false, Option, Some, None, nat_eq, refl, sym, ap, ◌∙◌, arith}
use Rattle.std.specs.Prelude.{◌==◌, ◌&&◌, if◌then◌else◌}
use Rattle.std.proofs.lemmas.Bool.{and_parts, eq-eqb, eqb-true, false≢true}
use Rattle.xk_base.proofs.CountingLemmas.{least_below-passes}
use Rattle.xk_base.specs.declared.ids.Pid.{Pid}
use Rattle.xk_base.specs.declared.limits.TheConstants.{INTERRUPT_LIMIT}
use Rattle.xk_base.specs.Tables.Counting.{put_at}
use Rattle.machine_model.specs.Ending.Ends.{handler_ended}
use Rattle.machine_model.specs.State.Changes.{Change}
use Rattle.machine_model.specs.State.Machine.{Claim, Idle, Machine}
use Rattle.machine_model.specs.State.Threads.{change_thread, thread_id, with_state}
use Rattle.machine_model.specs.Stepping.Interrupts.{delivered, delivered_lowest, handler_started, is_claim_of, is_free_for_interrupt, lowest_pending, pended}
use Rattle.interrupt_laws.specs.Delivering.{once_if}
use Rattle.interrupt_laws.proofs.BalanceLemmas.{told_delivery}

-- the test by either side
turned_eq : (n k : ℕ) → nat_eq k n ≡ (n == k)
turned_eq n k = go (nat_eq k n) (n == k) refl refl
  where
    go : (a b : Bool) → nat_eq k n ≡ a → (n == k) ≡ b → a ≡ b
    go true true p q = refl
    go true false p q = absurd (false≢true (sym q ∙ eq-eqb n k (sym (eqb-true k n p))))
    go false true p q = absurd (false≢true (sym p ∙ eq-eqb k n (sym (eqb-true n k q))))
    go false false p q = refl

module _ (k : ℕ) where
  -- what is delivered was pending, and what else was pending still is
  abbrev pub DeliversOne : Machine → Change → Type 0
  DeliversOne m change = told_delivery k change.delivery + once_if (change.machine.pending k) ≡ once_if (m.pending k)

  undelivered : (m : Machine) → told_delivery k None + once_if (m.pending k) ≡ once_if (m.pending k)
  unfolding told_delivery
  undelivered m = omega arith

  started_one : (m : Machine) (pid : Pid) (n : ℕ) (o : Option Claim) → m.pending n ≡ true → DeliversOne m (handler_started m pid n o)
  unfolding told_delivery
  started_one m pid n None pending = undelivered m
  started_one m pid n (Some claim) pending =
      ap (λ b. once_if (n == k) + once_if (if b then false else m.pending k)) (turned_eq n k) ∙ go (n == k) refl
    where
      go : (a : Bool) → (n == k) ≡ a → once_if a + once_if (if a then false else m.pending k) ≡ once_if (m.pending k)
      go true p =
          let here : once_if (m.pending k) ≡ 1 = ap once_if (ap m.pending (sym (eqb-true n k p)) ∙ pending) in
          omega arith
      go false p = omega arith

  lowest_one : (m : Machine) (pid : Pid) (o : Option ℕ) → ((n : ℕ) → o ≡ Some n → m.pending n ≡ true) → DeliversOne m (delivered_lowest m pid o)
  lowest_one m pid None pending = undelivered m
  lowest_one m pid (Some n) pending = started_one m pid n (m.claims n) (pending n refl)

  pub delivered_one : (pid : Pid) (m : Machine) → DeliversOne m (delivered pid m)
  unfolding delivered lowest_pending
  delivered_one pid m = go (is_free_for_interrupt m pid)
    where
      go : (b : Bool) → DeliversOne m (delivered_lowest m pid (if b then lowest_pending m pid else None))
      go true =
          lowest_one m pid (lowest_pending m pid)
          (λ n e. (and_parts (m.pending n) (is_claim_of pid (m.claims n)) (least_below-passes INTERRUPT_LIMIT (λ j. m.pending j && is_claim_of pid (m.claims j)) n e)).0)
      go false = undelivered m

  pub handler_end_one : (pid : Pid) (m : Machine) → DeliversOne m (handler_ended pid m)
  unfolding handler_ended
  handler_end_one pid m = delivered_one pid (change_thread (thread_id pid 1) (with_state Idle) m)

  -- a raise adds one, or merges
  merged : (a p : Bool) → once_if a + once_if p ≡ once_if (a && p) + once_if (if a then true else p)
  merged true true = refl
  merged true false = refl
  merged false true = refl
  merged false false = refl

  pub pended_one : (n : ℕ) (claim : Claim) (m : Machine)
      → once_if (n == k) + once_if (m.pending k)
      ≡ told_delivery k (pended n claim m).delivery + once_if ((n == k) && m.pending k) + once_if ((pended n claim m).machine.pending k)
  pended_one n claim m =
      let next : Machine = record m { pending = put_at nat_eq m.pending n true } in
      let delivery : told_delivery k (delivered claim.pid next).delivery + once_if ((delivered claim.pid next).machine.pending k) ≡ once_if (next.pending k) =
      delivered_one claim.pid next in
      let raise : once_if (n == k) + once_if (m.pending k) ≡ once_if ((n == k) && m.pending k) + once_if (next.pending k) =
      merged (n == k) (m.pending k)
      ∙ ap (λ b. once_if ((n == k) && m.pending k) + once_if (if b then true else m.pending k)) (sym (turned_eq n k)) in
      omega arith

-- ---- claims

started_claims : (m : Machine) (pid : Pid) (n : ℕ) (o : Option Claim) → (handler_started m pid n o).machine.claims ≡ m.claims
started_claims m pid n None = refl
started_claims m pid n (Some claim) = refl

lowest_claims : (m : Machine) (pid : Pid) (o : Option ℕ) → (delivered_lowest m pid o).machine.claims ≡ m.claims
lowest_claims m pid None = refl
lowest_claims m pid (Some n) = started_claims m pid n (m.claims n)

pub delivered_claims : (pid : Pid) (m : Machine) → (delivered pid m).machine.claims ≡ m.claims
unfolding delivered
delivered_claims pid m = lowest_claims m pid (if is_free_for_interrupt m pid then lowest_pending m pid else None)

pub handler_end_claims : (pid : Pid) (m : Machine) → (handler_ended pid m).machine.claims ≡ m.claims
unfolding handler_ended
handler_end_claims pid m = delivered_claims pid (change_thread (thread_id pid 1) (with_state Idle) m)
