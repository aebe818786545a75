-- Interrupts that are raised and delivered, and handlers that end, keep the machine matched.
use Rattle.std.proofs.Common.{◌≡◌, ℕ, ◌≤◌, Bool, true, false, Option, Some, None, refl, sym, ap, ◌∙◌, arith, subst}
use Rattle.std.specs.Prelude.{nat_eq, is_some, if◌then◌else◌}
use Rattle.std.specs.Option.{option_map, option_map_or}
use Rattle.std.proofs.lemmas.Bool.{eqb-true, false≢true}
use Rattle.xk_base.specs.declared.ids.Number.{Number}
use Rattle.xk_base.specs.declared.ids.Pid.{Pid}
use Rattle.xk_base.specs.declared.ids.ThreadId.{ThreadId}
use Rattle.xk_base.specs.Tables.Circle.{same_thread}
use Rattle.xk_base.specs.Tables.Counting.{put_at}
use Rattle.machine_model.specs.State.Changes.{Change, settled}
use Rattle.machine_model.specs.Stepping.Events.{raised, raised_if}
use Rattle.machine_model.specs.Stepping.Interrupts.{is_idle, is_free_for_interrupt, lowest_pending, handler_started, delivered_lowest, delivered, pended, cursor_after}
use Rattle.machine_model.specs.Stepping.Reservations.{unreserved}
use Rattle.machine_model.specs.Runs.Kept.{IrqKeepsMatched}
use Rattle.machine_model.specs.State.Machine.{Machine, Thread, ThreadState, Claim, Ready, Receiving, Waiting, Joining, Idle}
use Rattle.machine_model.specs.Runs.Matched.{Matched, is_waiting_for}
use Rattle.machine_model.specs.State.Threads.{thread_id, give_answers, no_answers, with_answer, handler_thread}
use Rattle.machine_model.proofs.Runs.KeptLemmas.{matched_at}
use Rattle.machine_laws.proofs.Threading.ThreadAnswerLemmas.{same_thread-self, thread_living}
use Rattle.machine_laws.proofs.Threading.ThreadMoveLemmas.{KeepsClaims, matched_claimed, matched_moved, matched_reserved}
use Rattle.machine_laws.proofs.Threading.ThreadPutLemmas.{IsPut, waits_at, put_keeps}

-- giving no answers changes nothing
no_answer : (o : Option Thread) → option_map (with_answer None) o ≡ o
no_answer None = refl
no_answer (Some t) = refl

pub unanswered : (m : Machine) → give_answers no_answers m ≡ m
unanswered m = λ i. record m { threads = λ id. no_answer (m.threads id) i }

idle_waits_not : (number : Number) (s : ThreadState) → is_idle s ≡ true → is_waiting_for number s ≡ false
idle_waits_not number Ready e = refl
idle_waits_not number (Receiving serial) e = refl
idle_waits_not number (Waiting other) e = absurd (false≢true e)
idle_waits_not number (Joining tid) e = refl
idle_waits_not number Idle e = refl

free_waits_not : (number : Number) (o : Option Thread) → option_map_or (λ t. is_idle t.state) o false ≡ true → waits_at number o ≡ false
free_waits_not number None e = absurd (false≢true e)
free_waits_not number (Some t) e = idle_waits_not number t.state e

free_is_there : (o : Option Thread) → option_map_or (λ t. is_idle t.state) o false ≡ true → (t : Thread) × (o ≡ Some t)
free_is_there None e = absurd (false≢true e)
free_is_there (Some t) e = (t, refl)

-- what a delivery leads to is matched, wherever the cursor goes
pub record KeepsDelivery (m : Machine) (change : Change) : Type 0 where
  pub matched : Matched change.machine
  pub steps : change.machine.steps ≡ m.steps
  pub answers : change.answers ≡ no_answers

module _ (m : Machine) (h : Matched m) (pid : Pid) where
  module _ (free : is_free_for_interrupt m pid ≡ true) (k : ℕ) where
    abbrev with_handler : Claim → ThreadId → Option Thread
    with_handler claim = put_at same_thread m.threads (thread_id pid 1) (Some (handler_thread k claim))

    handler_put : (claim : Claim) → m.claims k ≡ Some claim → IsPut m (with_handler claim) (thread_id pid 1) (handler_thread k claim)
    handler_put claim e =
        let there : (t : Thread) × (m.threads (thread_id pid 1) ≡ Some t) = free_is_there (m.threads (thread_id pid 1)) free in
        record {
          here = rw (same_thread-self (thread_id pid 1)) refl;
          others = λ q e. rw e refl;
          fit = tt;
          aligned = h.rest.handlers k claim e;
          known = h.body.ids.known (thread_id pid 1) there.0 there.1;
          living = thread_living m h (thread_id pid 1) there.0 there.1;
          before = λ number. free_waits_not number (m.threads (thread_id pid 1)) free;
        }

    still_pending : (n : ℕ) (b : Bool) → (if b then false else m.pending n) ≡ true → m.pending n ≡ true
    still_pending n true e = absurd (false≢true e)
    still_pending n false e = e

    fewer_pending : KeepsClaims m.process m.claims (put_at nat_eq m.pending k false) m.compare
    fewer_pending = record {
      handlers = h.rest.handlers;
      claims = record {
        living = h.rest.claims.living;
        numbers = h.rest.claims.numbers;
        pending_claimed = λ n e. h.rest.claims.pending_claimed n (still_pending n (nat_eq n k) e);
      };
      timer = h.rest.timer;
    }

    started_keeps : (o : Option Claim) → m.claims k ≡ o → KeepsDelivery m (handler_started m pid k o)
    started_keeps None e = record { matched = h; steps = refl; answers = refl }
    started_keeps (Some claim) e =
        let later : m.steps ≤ m.steps = omega arith in
        record {
          matched = matched_claimed (record m { threads = with_handler claim })
              (matched_moved m h m.steps m.cursor (with_handler claim) later
              (put_keeps m h (with_handler claim) (thread_id pid 1) (handler_thread k claim) (handler_put claim e)))
              m.claims (put_at nat_eq m.pending k false) m.compare fewer_pending;
          steps = refl;
          answers = refl;
        }

  lowest_keeps : is_free_for_interrupt m pid ≡ true → (o : Option ℕ) → KeepsDelivery m (delivered_lowest m pid o)
  lowest_keeps free None = record { matched = h; steps = refl; answers = refl }
  lowest_keeps free (Some k) = started_keeps free k (m.claims k) refl

  pub delivery_keeps : KeepsDelivery m (delivered pid m)
  unfolding delivered
  delivery_keeps = go (is_free_for_interrupt m pid) refl
    where
      go : (b : Bool) → is_free_for_interrupt m pid ≡ b → KeepsDelivery m (delivered_lowest m pid (if b then lowest_pending m pid else None))
      go true e = lowest_keeps e (lowest_pending m pid)
      go false e = record { matched = h; steps = refl; answers = refl }

-- ---- an interrupt comes

pub settled_unanswered : (change : Change) → change.answers ≡ no_answers → (settled change).machine ≡ change.machine
unfolding settled
settled_unanswered change e = ap (λ a. give_answers a change.machine) e ∙ unanswered change.machine

pub pended_matched : (k : ℕ) (claim : Claim) (m : Machine) → Matched m → m.claims k ≡ Some claim → Matched (settled (pended k claim m)).machine
pended_matched k claim m h e =
    let next : Machine = record m { pending = put_at nat_eq m.pending k true } in
    let delivery : KeepsDelivery next (delivered claim.pid next) = delivery_keeps next (matched_claimed m h m.claims (put_at nat_eq m.pending k true) m.compare more_pending) claim.pid in
    subst Matched (sym (settled_unanswered (pended k claim m) delivery.answers))
    (matched_at (cursor_after (delivered claim.pid next).delivery (delivered claim.pid next).machine.cursor) (delivered claim.pid next).machine delivery.matched)
  where
    now_claimed : (n : ℕ) (b : Bool) → nat_eq n k ≡ b → (if b then true else m.pending n) ≡ true → is_some (m.claims n) ≡ true
    now_claimed n true q p = ap (λ j. is_some (m.claims j)) (eqb-true n k q) ∙ ap is_some e
    now_claimed n false q p = h.rest.claims.pending_claimed n p

    more_pending : KeepsClaims m.process m.claims (put_at nat_eq m.pending k true) m.compare
    more_pending = record {
      handlers = h.rest.handlers;
      claims = record {
        living = h.rest.claims.living;
        numbers = h.rest.claims.numbers;
        pending_claimed = λ n p. now_claimed n (nat_eq n k) refl p;
      };
      timer = h.rest.timer;
    }

pub irq_keeps : IrqKeepsMatched
unfolding raised
irq_keeps k m h = go (m.claims k) refl
  where
    go : (o : Option Claim) → m.claims k ≡ o → Matched (raised_if k o (unreserved m)).machine
    go None e = matched_reserved m h None
    go (Some claim) e = pended_matched k claim (unreserved m) (matched_reserved m h None) e
