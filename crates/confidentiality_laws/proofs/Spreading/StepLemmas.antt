-- A step moves differences with their pages, and makes none, where its process can load no page that differs.
use Rattle.std.proofs.Common.{◌≡◌, ℕ, Bool, true, false, List, Option, Some, None, refl, sym, ap, ◌∙◌, subst}
use Rattle.std.specs.Prelude.{◌%◌, if◌then◌else◌}
use Rattle.xk_base.specs.declared.ids.Pid.{Pid}
use Rattle.xk_base.specs.declared.ids.ThreadId.{ThreadId}
use Rattle.xk_base.specs.declared.pages.Access.TheVariants.{Store}
use Rattle.xk_base.specs.Calls.Registers.{arguments_of, reg_at}
use Rattle.xk_base.specs.UserMemory.{low_bytes}
use Rattle.xk_base.specs.Numbers.Windows.{page_of}
use Rattle.ledger_model.specs.Ledger.{Ledger, PageName}
use Rattle.machine_model.specs.Calling.Calls.{call}
use Rattle.machine_model.specs.Ending.Ends.{handler_ended}
use Rattle.machine_model.specs.Hart.Atomics.{Performed}
use Rattle.machine_model.specs.Hart.Instructions.{Executed, Next, Stores, StoresToConsole, StoresToTimer, CallsKernel, Traps}
use Rattle.machine_model.specs.Runs.Isolation.{IsSameFor, without_bytes}
use Rattle.machine_model.specs.Runs.Matched.{Matched}
use Rattle.machine_model.specs.State.Changes.{settled, call_settled}
use Rattle.machine_model.specs.State.Machine.{Claim, Idle, Machine, Thread}
use Rattle.machine_model.specs.State.Order.{actor}
use Rattle.machine_model.specs.State.Threads.{change_thread, thread_id, with_state}
use Rattle.machine_model.specs.State.Views.{page_reached, stored, timer_set, write_to}
use Rattle.machine_model.specs.Stepping.Interrupts.{delivered, delivered_lowest, handler_started, is_free_for_interrupt, lowest_pending}
use Rattle.machine_model.specs.Stepping.Step.{ends_handler, ends_thread, executed, performed, step}
use Rattle.machine_model.proofs.Runs.KeptLemmas.{matched_at}
use Rattle.machine_laws.proofs.Threading.ThreadAnswerLemmas.{IsReadyThread, ready_thread}
use Rattle.machine_laws.proofs.Threading.ThreadStepLemmas.{actor_ready, step_ledger, turned_to}
use Rattle.confidentiality_laws.specs.Differences.{OnlyMovesDifferences}
use Rattle.confidentiality_laws.proofs.Isolating.SeenMemoryLemmas.{reached_alike}
use Rattle.confidentiality_laws.proofs.Isolating.StepLemmas.{actor_alike, acts, performed_alike}
use Rattle.confidentiality_laws.proofs.Keeping.CallLemmas.{settled_ledger, ledger_after}
use Rattle.confidentiality_laws.proofs.Ledgers.OtherBytesLemmas.{alike_through}
use Rattle.confidentiality_laws.proofs.Spreading.CallLemmas.{call_moves, death_moves, ended_moves}
use Rattle.confidentiality_laws.proofs.Spreading.MovedPageLemmas.{stay_moves}
use Rattle.confidentiality_laws.proofs.Spreading.WrittenPageLemmas.{stored_is_loaded, write_moves}

-- ---- deliveries leave the ledger

started_ledger : (m : Machine) (pid : Pid) (k : ℕ) (o : Option Claim) → (handler_started m pid k o).machine.ledger ≡ m.ledger
started_ledger m pid k None = refl
started_ledger m pid k (Some claim) = refl

lowest_ledger : (m : Machine) (pid : Pid) (o : Option ℕ) → (delivered_lowest m pid o).machine.ledger ≡ m.ledger
lowest_ledger m pid None = refl
lowest_ledger m pid (Some k) = started_ledger m pid k (m.claims k)

delivered_ledger : (pid : Pid) (m : Machine) → (delivered pid m).machine.ledger ≡ m.ledger
unfolding delivered
delivered_ledger pid m = lowest_ledger m pid (if is_free_for_interrupt m pid then lowest_pending m pid else None)

pub handler_ledger : (pid : Pid) (m : Machine) → (handler_ended pid m).machine.ledger ≡ m.ledger
unfolding handler_ended
handler_ledger pid m = delivered_ledger pid (change_thread (thread_id pid 1) (with_state Idle) m)

-- what leaves both ledgers
pub left_moves : (a b after other : Ledger) → after ≡ a → other ≡ b → OnlyMovesDifferences a b after other
left_moves a b after other e f =
    subst (λ l. OnlyMovesDifferences a b l other) (sym e) (subst (λ l. OnlyMovesDifferences a b a l) (sym f) (stay_moves a b))

-- ---- the step

module _ (m n : Machine) (who : ThreadId) (h : Matched m) (same : IsSameFor who.pid m n) where
  turned_alike : without_bytes (turned_to who m) ≡ without_bytes (turned_to who n)
  turned_alike = ap (turned_to who) same.but_bytes

  module _ (address : ℕ) (bytes : List ℕ) where
    stored_at : (o : Option PageName) → page_reached m who.pid Store address ≡ o
        → OnlyMovesDifferences m.ledger n.ledger (write_to o (address % 4096) bytes m.ledger) (write_to o (address % 4096) bytes n.ledger)
    stored_at None e = stay_moves m.ledger n.ledger
    stored_at (Some page) e =
        write_moves (address % 4096) bytes page m.ledger n.ledger
        (same.loaded (page_of who.pid address) page refl (stored_is_loaded m.processes m.ledger (page_of who.pid address) page e))

    stored_moves : OnlyMovesDifferences m.ledger n.ledger
        (write_to (page_reached m who.pid Store address) (address % 4096) bytes m.ledger)
        (write_to (page_reached n who.pid Store address) (address % 4096) bytes n.ledger)
    stored_moves =
        subst (λ o. OnlyMovesDifferences m.ledger n.ledger (write_to (page_reached m who.pid Store address) (address % 4096) bytes m.ledger)
        (write_to o (address % 4096) bytes n.ledger))
        (reached_alike who.pid m n same Store address) (stored_at (page_reached m who.pid Store address) refl)

  called_moves : (w : List ℕ)
      → OnlyMovesDifferences m.ledger n.ledger (call_settled (turned_to who m) (call (turned_to who m) w)).machine.ledger
      (call_settled (turned_to who n) (call (turned_to who n) w)).machine.ledger
  called_moves w =
      subst (λ l. OnlyMovesDifferences m.ledger n.ledger l (call_settled (turned_to who n) (call (turned_to who n) w)).machine.ledger)
      (sym (settled_ledger (turned_to who m) (call (turned_to who m) w)))
      (subst (λ l. OnlyMovesDifferences m.ledger n.ledger (ledger_after (turned_to who m) (call (turned_to who m) w)) l)
      (sym (settled_ledger (turned_to who n) (call (turned_to who n) w)))
      (call_moves (turned_to who m) (turned_to who n) w (matched_at who m h) turned_alike))

  executed_moves : (t : Thread) (x : Executed)
      → OnlyMovesDifferences m.ledger n.ledger (executed (turned_to who m) t x).machine.ledger (executed (turned_to who n) t x).machine.ledger
  unfolding stored timer_set settled
  executed_moves t (Next regs pc) = stay_moves m.ledger n.ledger
  executed_moves t (Stores address width value regs pc) = stored_moves address (low_bytes width value)
  executed_moves t (StoresToConsole offset value regs pc) = stay_moves m.ledger n.ledger
  executed_moves t (StoresToTimer offset width value regs pc) = stay_moves m.ledger n.ledger
  executed_moves t CallsKernel = called_moves (arguments_of t.regs)
  executed_moves t (Traps cause value) =
      death_moves (turned_to who m) (turned_to who n) who.pid h.body.ledger.lawful turned_alike

  acts_move : (t : Thread) (a b : Bool) (x : Executed)
      → OnlyMovesDifferences m.ledger n.ledger (acts m who t a b x).machine.ledger (acts n who t a b x).machine.ledger
  unfolding settled
  acts_move t true b x =
      ended_moves (turned_to who m) (turned_to who n) who (reg_at t.regs 10) h.body.ledger.lawful turned_alike
  acts_move t false true x =
      left_moves m.ledger n.ledger (handler_ended who.pid (turned_to who m)).machine.ledger
      (handler_ended who.pid (turned_to who n)).machine.ledger (handler_ledger who.pid (turned_to who m))
      (handler_ledger who.pid (turned_to who n))
  acts_move t false false x = executed_moves t x

  pub step_moves : actor m ≡ Some who → OnlyMovesDifferences m.ledger n.ledger (step m).machine.ledger (step n).machine.ledger
  step_moves e =
      subst (λ l. OnlyMovesDifferences m.ledger n.ledger l (step n).machine.ledger) (sym (step_ledger m who t e there))
      (subst (λ l. OnlyMovesDifferences m.ledger n.ledger (acts m who t a b x).machine.ledger l)
      (sym (step_ledger n who t (sym (actor_alike m n (alike_through m n same.but_bytes)) ∙ e) there_too ∙ ap (λ y. (acts n who t a b y).machine.ledger) (sym does)))
      (acts_move t a b x))
    where
      ready : IsReadyThread m who
      ready = ready_thread m who (actor_ready m who e)

      t : Thread
      t = ready.thread

      there : m.threads who ≡ Some t
      there = ready.there

      there_too : n.threads who ≡ Some t
      there_too = ap (λ (y : Machine). y.threads who) (sym same.but_bytes) ∙ there

      a : Bool
      a = ends_thread who t.pc

      b : Bool
      b = ends_handler who t.pc

      x : Executed
      x = (performed (turned_to who m) who t).executed

      does : x ≡ (performed (turned_to who n) who t).executed
      does = ap (λ (p : Performed). p.executed) (performed_alike m n who same t)
