-- The step of a thread is what is executed, the end of the thread or the end of an interrupt handler.
use Rattle.std.proofs.Common.{◌≡◌, Bool, true, false, [], Option, Some, None, refl, sym, ap, ◌∙◌}
use Rattle.std.specs.Prelude.{if◌then◌else◌}
use Rattle.std.proofs.lemmas.Option.{none-some, same_Some}
use Rattle.xk_base.specs.declared.ids.ThreadId.{ThreadId}
use Rattle.xk_base.specs.Calls.Registers.{arguments_of}
use Rattle.machine_model.specs.Stepping.Acts.{call_by, does_instruction, executes, is_instruction}
use Rattle.machine_model.specs.Hart.Atomics.{Performed}
use Rattle.machine_model.specs.Hart.Instructions.{Executed, CallsKernel}
use Rattle.machine_model.specs.State.Machine.{Machine, Thread}
use Rattle.machine_model.specs.State.Order.{actor}
use Rattle.machine_model.specs.Stepping.Step.{acted, executed, ends_thread, ends_handler, performed}
use Rattle.machine_laws.proofs.Threading.ThreadAnswerLemmas.{IsReadyThread, ready_thread}
use Rattle.machine_laws.proofs.Threading.ThreadStepLemmas.{turned_to, actor_ready, performed_turned, then_acted}

pub data StepKind (m : Machine) (who : ThreadId) : Type 0 where
  Executes : (t : Thread) (x : Executed) → m.threads who ≡ Some t → executes m who t ≡ Some x → StepKind m who
  ThreadEnds : (t : Thread) → m.threads who ≡ Some t → ends_thread who t.pc ≡ true → StepKind m who
  HandlerEnds : (t : Thread) → m.threads who ≡ Some t → ends_thread who t.pc ≡ false → ends_handler who t.pc ≡ true → StepKind m who

pub kind_of : (m : Machine) (who : ThreadId) → actor m ≡ Some who → StepKind m who
kind_of m who e = go (ends_thread who r.thread.pc) (ends_handler who r.thread.pc) refl refl
  where
    r : IsReadyThread m who
    r = ready_thread m who (actor_ready m who e)

    fetched : Executed
    fetched = (performed m who r.thread).executed

    go : (a b : Bool) → ends_thread who r.thread.pc ≡ a → ends_handler who r.thread.pc ≡ b → StepKind m who
    go true b p q = ThreadEnds r.thread r.there p
    go false true p q = HandlerEnds r.thread r.there p q
    go false false p q =
        Executes r.thread fetched r.there
        (ap (λ a. if a then None else (if ends_handler who r.thread.pc then None else Some fetched)) p
        ∙ ap (λ b. if b then None else Some fetched) q)

-- what is executed acts
pub acted_as_executed : (m : Machine) (who : ThreadId) (t : Thread) (x : Executed) → executes m who t ≡ Some x
    → acted (turned_to who m) t ≡ executed (turned_to who m) t x
acted_as_executed m who t x e =
    go (ends_thread who t.pc) (ends_handler who t.pc) (performed (turned_to who m) who t).executed
    (ap (λ (y : Performed). if_fetched (ends_thread who t.pc) (ends_handler who t.pc) y.executed) (sym (performed_turned m who t)) ∙ e)
  where
    if_fetched : Bool → Bool → Executed → Option Executed
    if_fetched a b y = if a then None else (if b then None else Some y)

    go : (a b : Bool) (y : Executed) → (if a then None else (if b then None else Some y)) ≡ Some x
        → then_acted m who [] t a b y ≡ executed (turned_to who m) t x
    go true b y q = absurd (none-some x q)
    go false true y q = absurd (none-some x q)
    go false false y q = ap (executed (turned_to who m) t) (same_Some y x q)

module _ (m : Machine) (who : ThreadId) (t : Thread) (there : m.threads who ≡ Some t) where
  pub is_call : executes m who t ≡ Some CallsKernel → call_by m who ≡ Some (arguments_of t.regs)
  unfolding call_by
  is_call e = rw there (rw e refl)

  pub is_done : (x : Executed) → executes m who t ≡ Some x → is_instruction x ≡ true → does_instruction m who ≡ true
  unfolding does_instruction
  is_done x e i = rw there (rw e i)
