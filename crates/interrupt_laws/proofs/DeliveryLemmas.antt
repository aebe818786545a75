-- A delivery takes a number out of the pending ones.
use Rattle.std.proofs.Common.{◌≡◌, ℕ, ◌+◌, ◌≤◌, Bool, true, false, Option, Some, None, nat_eq, refl, sym, ap, ◌∙◌, arith}
use Rattle.std.specs.Prelude.{◌==◌, ◌&&◌, if◌then◌else◌}
use Rattle.std.proofs.lemmas.Bool.{and_parts, eqb-true, false≢true}
use Rattle.xk_base.proofs.CountingLemmas.{least_below-passes}
use Rattle.xk_base.specs.declared.ids.Pid.{Pid}
use Rattle.xk_base.specs.declared.limits.TheConstants.{INTERRUPT_LIMIT}
use Rattle.xk_base.specs.Tables.Counting.{put_at}
use Rattle.machine_model.specs.Ending.Ends.{handler_ended}
use Rattle.machine_model.specs.State.Changes.{Change}
use Rattle.machine_model.specs.State.Machine.{Claim, Machine}
use Rattle.machine_model.specs.State.Threads.{change_thread, thread_id, with_state}
use Rattle.machine_model.specs.State.Machine.{Idle}
use Rattle.machine_model.specs.Stepping.Interrupts.{delivered, delivered_lowest, handler_started, is_claim_of, is_free_for_interrupt, lowest_pending, pended}
use Rattle.interrupt_laws.specs.Delivering.{once_if}
use Rattle.interrupt_laws.proofs.BalanceLemmas.{told_delivery}

module _ (k : ℕ) where
  -- what a change delivers was pending before
  abbrev pub DeliversPending : Machine → Change → Type 0
  DeliversPending m change = told_delivery k change.delivery + once_if (change.machine.pending k) ≤ once_if (m.pending k)

  undelivered : (m : Machine) → told_delivery k None + once_if (m.pending k) ≤ once_if (m.pending k)
  unfolding told_delivery
  undelivered m = omega arith

  started_pending : (m : Machine) (pid : Pid) (n : ℕ) (o : Option Claim) → m.pending n ≡ true → DeliversPending m (handler_started m pid n o)
  unfolding told_delivery
  started_pending m pid n None pending = undelivered m
  started_pending m pid n (Some claim) pending = go (n == k) (nat_eq k n) refl refl
    where
      go : (a b : Bool) → (n == k) ≡ a → nat_eq k n ≡ b
          → once_if a + once_if (if b then false else m.pending k) ≤ once_if (m.pending k)
      go true true p q =
          let here : once_if (m.pending k) ≡ 1 = ap once_if (ap m.pending (sym (eqb-true n k p)) ∙ pending) in
          omega arith
      go true false p q = absurd (false≢true (sym q ∙ ap (nat_eq k) (eqb-true n k p) ∙ same k))
        where
          same : (n : ℕ) → nat_eq n n ≡ true
          same n = grind arith
      go false true p q = omega arith
      go false false p q = omega arith

  lowest_delivers : (m : Machine) (pid : Pid) (o : Option ℕ) → ((n : ℕ) → o ≡ Some n → m.pending n ≡ true) → DeliversPending m (delivered_lowest m pid o)
  lowest_delivers m pid None pending = undelivered m
  lowest_delivers m pid (Some n) pending = started_pending m pid n (m.claims n) (pending n refl)

  pub delivered_pending : (pid : Pid) (m : Machine) → DeliversPending m (delivered pid m)
  unfolding delivered lowest_pending
  delivered_pending pid m = go (is_free_for_interrupt m pid)
    where
      go : (b : Bool) → DeliversPending m (delivered_lowest m pid (if b then lowest_pending m pid else None))
      go true =
          lowest_delivers m pid (lowest_pending m pid)
          (λ n e. (and_parts (m.pending n) (is_claim_of pid (m.claims n)) (least_below-passes INTERRUPT_LIMIT (λ j. m.pending j && is_claim_of pid (m.claims j)) n e)).0)
      go false = undelivered m

  pub handler_end_pending : (pid : Pid) (m : Machine) → DeliversPending m (handler_ended pid m)
  unfolding handler_ended
  handler_end_pending pid m = delivered_pending pid (change_thread (thread_id pid 1) (with_state Idle) m)

  -- a raise adds one
  pub pended_pending : (n : ℕ) (claim : Claim) (m : Machine)
      → told_delivery k (pended n claim m).delivery + once_if ((pended n claim m).machine.pending k) ≤ once_if (n == k) + once_if (m.pending k)
  pended_pending n claim m =
      let next : Machine = record m { pending = put_at nat_eq m.pending n true } in
      let delivery : told_delivery k (delivered claim.pid next).delivery + once_if ((delivered claim.pid next).machine.pending k) ≤ once_if (next.pending k) =
      delivered_pending claim.pid next in
      let raise : once_if (next.pending k) ≤ once_if (n == k) + once_if (m.pending k) = go (n == k) (nat_eq k n) refl refl in
      omega arith
    where
      go : (a b : Bool) → (n == k) ≡ a → nat_eq k n ≡ b → once_if (if b then true else m.pending k) ≤ once_if a + once_if (m.pending k)
      go true true p q = omega arith
      go true false p q = omega arith
      go false true p q = absurd (false≢true (sym p ∙ ap (λ x. n == x) (eqb-true k n q) ∙ same n))
        where
          same : (n : ℕ) → nat_eq n n ≡ true
          same n = grind arith
      go false false p q = omega arith
