-- A thread goes on nowhere where it or its handler ends: no page is there, so that it can't fetch.
use Rattle.std.proofs.Common.{◌≡◌, ℕ, ◌/◌, Bool, true, false, List, Option, refl, sym, ap, ◌∙◌}
use Rattle.std.specs.Prelude.{◌&&◌, ◌||◌, ◌==◌, is_some, nat_lt, not, if◌then◌else◌}
use Rattle.std.proofs.lemmas.Bool.{and_parts, eqb-true, false≢true}
use Rattle.machine_laws.proofs.TimerPageLemmas.{unreached}
use Rattle.machine_model.specs.Hart.Atomics.{execute, execute_at, leaving}
use Rattle.machine_model.specs.Hart.Instructions.{Traps, fetch_page_fault}
use Rattle.machine_model.specs.Runs.Matched.{Matched}
use Rattle.machine_model.specs.State.Machine.{Machine}
use Rattle.machine_model.specs.State.Threads.{handler_return, thread_return}
use Rattle.machine_model.specs.State.Views.{memory_of, timer_of}
use Rattle.machine_model.specs.Stepping.Step.{ends_handler, ends_thread}
use Rattle.xk_base.specs.Numbers.Windows.{in_window, page_of, window_at}
use Rattle.xk_base.specs.UserMemory.{Memory, number_at, timer_at}
use Rattle.xk_base.specs.declared.ids.Pid.{Pid}
use Rattle.xk_base.specs.declared.ids.ThreadId.{ThreadId}
use Rattle.xk_base.specs.declared.pages.Access.TheVariants.{Fetch}
use Rattle.xk_base.specs.declared.pages.Width.TheVariants.{Word}
use Rattle.xk_base.specs.declared.windows.Window.TheVariants.{Message}
use Rattle.xk_kernel.specs.Quiet.{goes_on, without_timer}

-- a thread that goes on has fetched
fetched : (mem : Memory) (regs : List ℕ) (pc : ℕ) (reserved : Option ℕ) → goes_on (execute_at regs pc reserved mem).executed ≡ true → mem.may Fetch pc ≡ true
unfolding execute_at
fetched mem regs pc reserved = by (mem.may Fetch pc)
  where
    by : (may : Bool) → goes_on (if may then execute regs pc (number_at mem.byte pc Word) reserved mem else leaving reserved (Traps fetch_page_fault pc)).executed ≡ true
        → may ≡ true
    by true e = refl
    by false e = absurd (false≢true e)

-- nothing is fetched outside all windows
unfetched : (served : Bool) → (not served && ((served && false) || false)) ≡ false
unfetched true = refl
unfetched false = refl

module _ (m : Machine) (pid : Pid) (matched : Matched m) where
  not_there : (pc : ℕ) → is_some (window_at (pc / 4096)) ≡ false → in_window Message (pc / 4096) ≡ false
      → (without_timer (memory_of m pid)).may Fetch pc ≡ false
  unfolding memory_of
  not_there pc out out_of =
      ap (λ reached. not (is_some (timer_at (timer_of m pid) pc)) && ((is_some (timer_at (timer_of m pid) pc) && false) || is_some reached))
      (unreached m.processes m.capacity m.ledger matched.body.ledger.lawful (page_of pid pc) out out_of Fetch)
      ∙ unfetched (is_some (timer_at (timer_of m pid) pc))

  module _ (who : ThreadId) (regs : List ℕ) (pc : ℕ) (reserved : Option ℕ)
      (goes : goes_on (execute_at regs pc reserved (without_timer (memory_of m pid))).executed ≡ true) where
    fetches : (without_timer (memory_of m pid)).may Fetch pc ≡ true
    fetches = fetched (without_timer (memory_of m pid)) regs pc reserved goes

    not_at : (end : ℕ) → pc ≡ end → is_some (window_at (end / 4096)) ≡ false → in_window Message (end / 4096) ≡ false → ⊥
    not_at end at out out_of =
        false≢true (sym (not_there pc (ap (λ a. is_some (window_at (a / 4096))) at ∙ out) (ap (λ a. in_window Message (a / 4096)) at ∙ out_of)) ∙ fetches)

    pub ends_nowhere : ends_thread who pc ≡ false
    ends_nowhere = by (ends_thread who pc) refl
      where
        by : (b : Bool) → ends_thread who pc ≡ b → b ≡ false
        by false e = refl
        by true e = absurd (not_at thread_return (eqb-true pc thread_return (and_parts (nat_lt 1 who.tid.0) (pc == thread_return) e).1) refl refl)

    pub ends_no_handler : ends_handler who pc ≡ false
    ends_no_handler = by (ends_handler who pc) refl
      where
        by : (b : Bool) → ends_handler who pc ≡ b → b ≡ false
        by false e = refl
        by true e = absurd (not_at handler_return (eqb-true pc handler_return (and_parts (who.tid.0 == 1) (pc == handler_return) e).1) refl refl)
