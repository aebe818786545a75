-- What becomes of the compare value and of the claim on the timer's interrupt, where no store touches the timer.
use Rattle.std.proofs.Common.{◌≡◌, ℕ, Bool, true, false, List, [], ◌∷◌, Option, Some, None, refl, sym, ap, ◌∙◌}
use Rattle.std.specs.Prelude.{◌==◌, ◌%◌, not, nat_eq, nat_lt, is_some, if◌then◌else◌}
use Rattle.std.proofs.lemmas.Bool.{eqb-true, eq-eqb, false≢true}
use Rattle.xk_base.specs.declared.errors.XousError.{XousError}
use Rattle.xk_base.specs.declared.errors.XousError.TheVariants.{BadAlignment, InterruptNotFound, InterruptInUse}
use Rattle.xk_base.specs.declared.ids.Pid.{Pid}
use Rattle.xk_base.specs.declared.limits.TheConstants.{INTERRUPT_LIMIT, TIMER_INTERRUPT}
use Rattle.syscall_codec.specs.CallWords.{interrupt_number, interrupt_handler, interrupt_argument}
use Rattle.xk_base.specs.Tables.Counting.{put_at}
use Rattle.machine_model.specs.Ending.Closing.{closed, servers_closed, senders_queued_gone, senders_held_gone}
use Rattle.machine_model.specs.Ending.Ends.{death, end_with_last_thread, forgotten, handler_ended, has_threads, thread_ended}
use Rattle.machine_model.specs.State.Changes.{Outcome, Refused, Retried, Served, call_settled, settled}
use Rattle.machine_model.specs.State.Machine.{Claim, Machine}
use Rattle.machine_model.specs.State.Order.{turn}
use Rattle.machine_model.specs.State.Threads.{change_thread, put_thread, thread_id, with_state}
use Rattle.machine_model.specs.State.Machine.{Idle}
use Rattle.machine_model.specs.Stepping.Interrupts.{delivered, delivered_lowest, disarmed_if, handler_started, is_claim_of, is_free_for_interrupt, lowest_pending}
use Rattle.machine_laws.proofs.Calling.RunRefusalLemmas.{none_holds, not_false}
use Rattle.call_effects.specs.Effects.{run}
use Rattle.call_effects.specs.Rows.InterruptRows.{claim_row, free_row}
use Rattle.call_effects.specs.Rows.ThreadRows.{terminate_row}
use Rattle.call_effects.specs.Verdicts.{Verdict}
use Rattle.call_effects.proofs.ServedLemmas.{OfPlan}
use Rattle.xk_base.specs.declared.ids.ThreadId.{ThreadId}

-- Both stand, or the claim ends and the timer is disarmed with it.
pub data Fate (old : Option ℕ) (claim : Option Claim) (new : Option ℕ) (left : Option Claim) : Type 0 where
  Kept : new ≡ old → ((c : Claim) → claim ≡ Some c → left ≡ Some c) → Fate old claim new left
  Freed : (c : Claim) → claim ≡ Some c → left ≡ None → new ≡ None → Fate old claim new left

abbrev pub FateOf : Machine → Machine → Type 0
FateOf m n = Fate m.compare (m.claims TIMER_INTERRUPT) n.compare (n.claims TIMER_INTERRUPT)

pub as_before : (m : Machine) → FateOf m m
as_before m = Kept refl (λ c e. e)

-- ---- what comes of a call

abbrev pub machine_after : Machine → Outcome → Machine
machine_after m (Refused error) = m
machine_after m Retried = m
machine_after m (Served change) = change.machine

abbrev pub OutcomeFate : Machine → Outcome → Type 0
OutcomeFate m outcome = FateOf m (machine_after m outcome)

pub settled_fate : (m : Machine) (outcome : Outcome) → OutcomeFate m outcome → FateOf m (call_settled m outcome).machine
unfolding call_settled settled turn
settled_fate m (Refused error) of = of
settled_fate m Retried of = of
settled_fate m (Served change) of = of

-- ---- claims

module _ (m : Machine) (k : ℕ) where
  claimed_fate : (claim : Claim) → is_some (m.claims k) ≡ false
      → Fate m.compare (m.claims TIMER_INTERRUPT) m.compare (put_at nat_eq m.claims k (Some claim) TIMER_INTERRUPT)
  claimed_fate claim free = Kept refl (λ c e. go c e (nat_eq TIMER_INTERRUPT k) refl)
    where
      go : (c : Claim) → m.claims TIMER_INTERRUPT ≡ Some c → (b : Bool) → nat_eq TIMER_INTERRUPT k ≡ b
          → (if b then Some claim else m.claims TIMER_INTERRUPT) ≡ Some c
      go c e false q = e
      go c e true q =
          absurd (false≢true (sym free ∙ (ap (λ n. is_some (m.claims n)) (sym (eqb-true TIMER_INTERRUPT k q)) ∙ ap is_some e)))

  -- a claim that somebody has
  claim_there : (pid : Pid) (o : Option Claim) → is_claim_of pid o ≡ true → (c : Claim) × (o ≡ Some c)
  claim_there pid None e = absurd (false≢true e)
  claim_there pid (Some c) e = (c, refl)

  disarmed : (o : Option ℕ) → disarmed_if true o ≡ None
  disarmed None = refl
  disarmed (Some compare) = refl

  as_armed : (o : Option ℕ) → disarmed_if false o ≡ o
  as_armed None = refl
  as_armed (Some compare) = refl

  freed_fate : (pid : Pid) → is_claim_of pid (m.claims k) ≡ true
      → Fate m.compare (m.claims TIMER_INTERRUPT) (disarmed_if (k == TIMER_INTERRUPT) m.compare) (put_at nat_eq m.claims k None TIMER_INTERRUPT)
  freed_fate pid has = go (k == TIMER_INTERRUPT) (nat_eq TIMER_INTERRUPT k) refl refl
    where
      claim : (c : Claim) × (m.claims k ≡ Some c)
      claim = claim_there pid (m.claims k) has

      go : (a b : Bool) → (k == TIMER_INTERRUPT) ≡ a → nat_eq TIMER_INTERRUPT k ≡ b
          → Fate m.compare (m.claims TIMER_INTERRUPT) (disarmed_if a m.compare) (if b then None else m.claims TIMER_INTERRUPT)
      go true true p q = Freed claim.0 (ap m.claims (sym (eqb-true k TIMER_INTERRUPT p)) ∙ claim.1) refl (disarmed m.compare)
      go false false p q = Kept (as_armed m.compare) (λ c e. e)
      go true false p q = absurd (false≢true (sym q ∙ eq-eqb TIMER_INTERRUPT k (sym (eqb-true k TIMER_INTERRUPT p))))
      go false true p q = absurd (false≢true (sym p ∙ eq-eqb k TIMER_INTERRUPT (sym (eqb-true TIMER_INTERRUPT k q))))

-- what is done of the verdict on a call
abbrev PlanFate : Machine → Verdict → Type 0
PlanFate m verdict = OfPlan (λ plan. FateOf m (run plan.effects m)) verdict

pub claim_fate : (m : Machine) (w : List ℕ) → PlanFate m (claim_row m w)
claim_fate m w = λ none.
    let last : List (Bool × XousError) = (is_some (m.claims k), InterruptInUse) ∷ [] in
    let later : List (Bool × XousError) = (not (interrupt_handler w % 4 == 0), BadAlignment) ∷ last in
    let past_number = none_holds (not (nat_lt k INTERRUPT_LIMIT)) InterruptNotFound later none in
    let past_handler = none_holds (not (interrupt_handler w % 4 == 0)) BadAlignment last past_number.1 in
    let past_use = none_holds (is_some (m.claims k)) InterruptInUse [] past_handler.1 in
    claimed_fate m k (record { pid = m.cursor.pid; handler = interrupt_handler w; argument = interrupt_argument w }) past_use.0
  where
    k : ℕ
    k = interrupt_number w

pub free_fate : (m : Machine) (w : List ℕ) → PlanFate m (free_row m w)
free_fate m w = λ none.
    freed_fate m (interrupt_number w) m.cursor.pid
    (not_false (is_claim_of m.cursor.pid (m.claims (interrupt_number w)))
    (none_holds (not (is_claim_of m.cursor.pid (m.claims (interrupt_number w)))) InterruptNotFound [] none).0)

-- ---- deaths and ends

forgotten_fate : (pid : Pid) (o : Option Claim) (compare : Option ℕ)
    → Fate compare o (disarmed_if (is_claim_of pid o) compare) (if is_claim_of pid o then None else o)
forgotten_fate pid None None = Kept refl (λ c e. e)
forgotten_fate pid None (Some compare) = Kept refl (λ c e. e)
forgotten_fate pid (Some claim) compare = go (is_claim_of pid (Some claim)) compare
  where
    go : (b : Bool) (compare : Option ℕ) → Fate compare (Some claim) (disarmed_if b compare) (if b then None else Some claim)
    go true None = Freed claim refl refl refl
    go true (Some compare) = Freed claim refl refl refl
    go false None = Kept refl (λ c e. e)
    go false (Some compare) = Kept refl (λ c e. e)

pub terminate_fate : (m : Machine) (w : List ℕ) → PlanFate m (terminate_row m w)
unfolding closed senders_queued_gone senders_held_gone forgotten
terminate_fate m w = forgotten_fate m.cursor.pid (m.claims TIMER_INTERRUPT) m.compare

pub death_fate : (pid : Pid) (m : Machine) → FateOf m (settled (death pid m)).machine
unfolding settled death servers_closed closed senders_queued_gone senders_held_gone forgotten
death_fate pid m = forgotten_fate pid (m.claims TIMER_INTERRUPT) m.compare

pub thread_end_fate : (who : ThreadId) (a0 : ℕ) (m : Machine) → FateOf m (settled (thread_ended who a0 m)).machine
unfolding settled thread_ended death servers_closed closed senders_queued_gone senders_held_gone forgotten
thread_end_fate who a0 m = go (has_threads (put_thread who None m) who.pid)
  where
    go : (b : Bool) → FateOf m (end_with_last_thread b who.pid (put_thread who None m)).machine
    go true = as_before m
    go false = forgotten_fate who.pid (m.claims TIMER_INTERRUPT) m.compare

-- ---- deliveries

started_fate : (m : Machine) (pid : Pid) (k : ℕ) (o : Option Claim) → FateOf m (handler_started m pid k o).machine
started_fate m pid k None = as_before m
started_fate m pid k (Some claim) = as_before m

lowest_fate : (m : Machine) (pid : Pid) (o : Option ℕ) → FateOf m (delivered_lowest m pid o).machine
lowest_fate m pid None = as_before m
lowest_fate m pid (Some k) = started_fate m pid k (m.claims k)

pub delivered_fate : (pid : Pid) (m : Machine) → FateOf m (delivered pid m).machine
unfolding delivered
delivered_fate pid m = lowest_fate m pid (if is_free_for_interrupt m pid then lowest_pending m pid else None)

pub handler_end_fate : (pid : Pid) (m : Machine) → FateOf m (settled (handler_ended pid m)).machine
unfolding settled handler_ended
handler_end_fate pid m = delivered_fate pid (change_thread (thread_id pid 1) (with_state Idle) m)
