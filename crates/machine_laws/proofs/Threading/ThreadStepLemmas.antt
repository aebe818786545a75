-- The step of a thread that makes a system call, or ends, or ends its handler: what the machine is after it.
use Rattle.std.proofs.Common.{◌≡◌, ℕ, ◌+◌, ◌≤◌, Bool, true, false, List, Option, Some, None, refl, sym, ap, ◌∙◌, subst}
use Rattle.std.specs.Prelude.{if◌then◌else◌}
use Rattle.std.specs.Option.{option_and_then}
use Rattle.std.proofs.lemmas.Option.{none-some, same_Some}
use Rattle.xk_base.specs.declared.ids.ThreadId.{ThreadId}
use Rattle.xk_base.specs.declared.records.What.TheVariants.{End}
use Rattle.xk_base.specs.Calls.Registers.{arguments_of, reg_at}
use Rattle.machine_model.specs.Stepping.Acts.{call_by, executes, words_if_call}
use Rattle.machine_model.specs.Calling.Calls.{call}
use Rattle.machine_model.specs.State.Changes.{Told, call_settled, settled}
use Rattle.machine_model.specs.Ending.Ends.{thread_ended, handler_ended}
use Rattle.machine_model.specs.Hart.Atomics.{Performed}
use Rattle.machine_model.specs.Hart.Instructions.{Executed, Next, Stores, StoresToConsole, StoresToTimer, CallsKernel, Traps}
use Rattle.machine_model.specs.State.Machine.{Machine, Thread}
use Rattle.machine_model.specs.Runs.Kept.{Settles}
use Rattle.machine_model.specs.Runs.Matched.{Matched}
use Rattle.machine_model.specs.State.Order.{ready_at, next_ready, actor}
use Rattle.machine_model.specs.Stepping.Step.{step, step_by, step_by_if, acted, acted_if_there, counted, executed, after, ends_thread, ends_handler, performed, reservation_left}
use Rattle.machine_model.specs.Stepping.Timer.{timed}
use Rattle.machine_model.specs.State.Views.{memory_of}
use Rattle.machine_model.proofs.StepLemmas.{next_ready_passes}
use Rattle.machine_model.proofs.Runs.TimerLemmas.{timed_raised}
use Rattle.machine_laws.proofs.Interrupting.TimedLemmas.{timed_matched}
use Rattle.machine_laws.proofs.Threading.ThreadMoveLemmas.{matched_later, matched_reserved}

-- the machine with its cursor at that thread
abbrev pub turned_to : ThreadId → Machine → Machine
turned_to who m = record m { cursor = who }

-- who does the next step is Ready
pub actor_ready : (m : Machine) (who : ThreadId) → actor m ≡ Some who → ready_at m who ≡ true
unfolding actor
actor_ready m who e = go (ready_at m m.cursor) refl e
  where
    go : (b : Bool) → ready_at m m.cursor ≡ b → (if b then Some m.cursor else next_ready m m.cursor) ≡ Some who → ready_at m who ≡ true
    go true q r = ap (ready_at m) (sym (same_Some m.cursor who r)) ∙ q
    go false q r = next_ready_passes m m.cursor who r

pub step_of_actor : (m : Machine) (who : ThreadId) → actor m ≡ Some who
    → (step m).machine ≡ (timed (counted (turned_to who m) (m.threads who) (acted_if_there (turned_to who m) (m.threads who)))).machine
unfolding step step_by
step_of_actor m who e = ap (λ a. (step_by_if a m).machine) e

pub step_of_thread : (m : Machine) (who : ThreadId) (t : Thread) → actor m ≡ Some who → m.threads who ≡ Some t
    → (step m).machine ≡ (timed (counted (turned_to who m) (Some t) (acted (turned_to who m) t))).machine
step_of_thread m who t e there =
    step_of_actor m who e ∙ ap (λ o. (timed (counted (turned_to who m) o (acted_if_there (turned_to who m) o))).machine) there

-- the timer leaves the ledger and the servers
pub step_ledger : (m : Machine) (who : ThreadId) (t : Thread) → actor m ≡ Some who → m.threads who ≡ Some t
    → (step m).machine.ledger ≡ (acted (turned_to who m) t).machine.ledger
step_ledger m who t e there =
    ap (λ (left : Machine). left.ledger)
    (step_of_thread m who t e there ∙ (timed_raised (counted (turned_to who m) (Some t) (acted (turned_to who m) t))).is)

-- a matched machine settles where no more steps were counted than the one that is
pub settles : (m next : Machine) → next.steps ≤ m.steps + 1 → Matched next → Settles m next
settles m next le h = matched_later next h (m.steps + 1) le

pub step_keeps : (m : Machine) (who : ThreadId) (t : Thread) → actor m ≡ Some who → m.threads who ≡ Some t
    → Settles m (acted (turned_to who m) t).machine → Matched (step m).machine
step_keeps m who t e there h =
    let left : Machine = record (acted (turned_to who m) t).machine { steps = m.steps + 1 } in
    subst Matched (sym (step_of_thread m who t e there))
    (timed_matched (counted (turned_to who m) (Some t) (acted (turned_to who m) t))
    (matched_reserved left h (reservation_left (turned_to who m) t)))

-- ---- calls

-- where the cursor stands makes no difference to what an instruction does
pub performed_turned : (m : Machine) (who : ThreadId) (t : Thread) → performed m who t ≡ performed (turned_to who m) who t
unfolding memory_of
performed_turned m who t = refl

module _ (m : Machine) (who : ThreadId) (w : List ℕ) where
  abbrev then_called : Machine
  then_called = (call_settled (turned_to who m) (call (turned_to who m) w)).machine

  abbrev pub if_executes : Thread → Bool → Bool → Executed → Option (List ℕ)
  if_executes t a b x = option_and_then (words_if_call t) (if a then None else (if b then None else Some x))

  abbrev pub then_acted : Thread → Bool → Bool → Executed → Told
  then_acted t a b x =
      if a then after (End who) (settled (thread_ended who (reg_at t.regs 10) (turned_to who m))) else (
      if b then after (End who) (settled (handler_ended who.pid (turned_to who m))) else
      executed (turned_to who m) t x)

  call_executed : (t : Thread) (a b : Bool) (x : Executed) → if_executes t a b x ≡ Some w → (then_acted t a b x).machine ≡ then_called
  call_executed t true b x e = absurd (none-some w e)
  call_executed t false true x e = absurd (none-some w e)
  call_executed t false false (Next regs pc) e = absurd (none-some w e)
  call_executed t false false (Stores address width value regs pc) e = absurd (none-some w e)
  call_executed t false false (StoresToConsole offset value regs pc) e = absurd (none-some w e)
  call_executed t false false (StoresToTimer offset width value regs pc) e = absurd (none-some w e)
  call_executed t false false CallsKernel e =
      ap (λ v. (call_settled (turned_to who m) (call (turned_to who m) v)).machine) (same_Some (arguments_of t.regs) w e)
  call_executed t false false (Traps cause value) e = absurd (none-some w e)

  pub acted_call : (t : Thread) → option_and_then (words_if_call t) (executes m who t) ≡ Some w → (acted (turned_to who m) t).machine ≡ then_called
  acted_call t e =
      call_executed t (ends_thread who t.pc) (ends_handler who t.pc) (performed (turned_to who m) who t).executed
      (ap (λ (y : Performed). if_executes t (ends_thread who t.pc) (ends_handler who t.pc) y.executed) (sym (performed_turned m who t)) ∙ e)

  pub call_step_keeps : actor m ≡ Some who → call_by m who ≡ Some w → Settles m then_called → Matched (step m).machine
  unfolding call_by
  call_step_keeps e c h = go (m.threads who) refl c
    where
      go : (o : Option Thread) → m.threads who ≡ o → option_and_then (λ t. option_and_then (words_if_call t) (executes m who t)) o ≡ Some w
          → Matched (step m).machine
      go None q r = absurd (none-some w r)
      go (Some t) q r = step_keeps m who t e q (subst (Settles m) (sym (acted_call t r)) h)
