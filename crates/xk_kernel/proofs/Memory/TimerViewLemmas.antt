-- The memory of a process with the timer's page over it, where the process has claimed the timer's interrupt, is its memory as the
-- machine has it; and what an instruction does there it does to its pages, or to the timer.
use Rattle.std.proofs.Common.{◌≡◌, ℕ, Bool, true, false, Option, Some, None, refl, sym, ap, ◌∙◌}
use Rattle.std.specs.Prelude.{not, ◌&&◌, ◌||◌, is_some, if◌then◌else◌}
use Rattle.std.specs.Option.{option_and_then}
use Rattle.std.proofs.lemmas.Bool.{false≢true}
use Rattle.std.proofs.lemmas.Option.{same_Some}
use Rattle.machine_model.specs.Hart.Instructions.{Executed, Next, Stores, StoresToConsole, StoresToTimer, CallsKernel, Traps}
use Rattle.machine_model.specs.Runs.Matched.{Matched}
use Rattle.machine_model.specs.State.Machine.{Machine}
use Rattle.machine_model.specs.State.Views.{is_of_timer_page, memory_of, page_reached}
use Rattle.machine_model.specs.Stepping.Interrupts.{is_claim_of}
use Rattle.rv32_hart.specs.Running.{timer_left}
use Rattle.sv32_space.specs.Tie.{Held}
use Rattle.timer_device.proofs.PageLemmas.{view_is_memory}
use Rattle.timer_device.specs.Page.{IsMemoryOf, console_with_timer, may_with_timer, timer_with}
use Rattle.machine_laws.proofs.TimerPageLemmas.{page_is_apart}
use Rattle.vm_memory.specs.Using.UserView.{seen_memory, user_view}
use Rattle.xk_base.specs.UserMemory.{Memory as SeenMemory, Timer, compare_stored, in_timer_page, timer_at}
use Rattle.xk_base.specs.declared.ids.Pid.{Pid}
use Rattle.xk_base.specs.declared.limits.TheConstants.{TIMER_INTERRUPT}
use Rattle.xk_base.specs.declared.pages.Access.TheVariants.{Store}
use Rattle.xk_kernel.specs.Quiet.{without_timer}
use Rattle.xk_kernel.specs.State.{machine_of}
use Rattle.xk_kernel.specs.declared.kernel.Kernel.{Kernel}
use Rattle.xk_kernel.proofs.Memory.StoreLemmas.{StoresAllowed, StoresLawfully}

-- ---- what the process sees

-- the process has claimed the timer's interrupt
abbrev pub has_timer : Machine → Pid → Bool
has_timer m pid = is_claim_of pid (m.claims TIMER_INTERRUPT)

-- a memory with the page of this timer over it, where that is there
abbrev pub timed_memory : Bool → Timer → SeenMemory → SeenMemory
timed_memory on timer mem = record {
  may = may_with_timer on mem.may;
  console = console_with_timer on mem.console;
  byte = mem.byte;
  timer = timer_with on timer mem.timer;
}

-- the timer of a kernel in this step
abbrev pub timer_now : {W : Type 0} → Kernel W → Timer
timer_now k = record { steps = k.steps; compare = k.timer }

pub memory_seen : {W : Type 0} (held : W → Held) (k : Kernel W) (pid : Pid) → Matched (machine_of held k)
    → memory_of (machine_of held k) pid ≡ timed_memory (has_timer (machine_of held k) pid) (timer_now k) (user_view held k.mem pid)
unfolding machine_of memory_of seen_memory
memory_seen held k pid matched = λ i. record {
  may = sym is.may i;
  console = sym is.console i;
  byte = (memory_of (machine_of held k) pid).byte;
  timer = sym is.timer i;
}
  where
    is : IsMemoryOf (machine_of held k) pid (has_timer (machine_of held k) pid)
    is = view_is_memory (machine_of held k) pid (λ access address inside. page_is_apart (machine_of held k) pid access address matched inside)

-- .. where the page is there exactly if the process has claimed the timer's interrupt
pub timed_seen : {W : Type 0} (held : W → Held) (k : Kernel W) (pid : Pid) (on : Bool) → on ≡ has_timer (machine_of held k) pid
    → Matched (machine_of held k) → memory_of (machine_of held k) pid ≡ timed_memory on (timer_now k) (user_view held k.mem pid)
timed_seen held k pid on claimed matched =
    memory_seen held k pid matched ∙ ap (λ b. timed_memory b (timer_now k) (user_view held k.mem pid)) (sym claimed)

-- without the timer's page it is that of the pages
reached_past : (claimed inside loads reached : Bool) (timer : Timer) → (inside ≡ true → reached ≡ false)
    → (not (is_some (option_and_then (λ (t : Timer). if inside then Some t else None) (if claimed then Some timer else None)))
    && ((is_some (option_and_then (λ (t : Timer). if inside then Some t else None) (if claimed then Some timer else None)) && loads) || reached)) ≡ reached
reached_past false inside loads reached timer apart = refl
reached_past true false loads reached timer apart = refl
reached_past true true loads reached timer apart = sym (apart refl)

pub pages_seen : {W : Type 0} (held : W → Held) (k : Kernel W) (pid : Pid) → Matched (machine_of held k)
    → without_timer (memory_of (machine_of held k) pid) ≡ timed_memory false (timer_now k) (user_view held k.mem pid)
unfolding machine_of memory_of seen_memory
pages_seen held k pid matched = λ i. record (timed_memory false (timer_now k) (user_view held k.mem pid)) {
  may = λ access address. reached_past (has_timer (machine_of held k) pid) (in_timer_page address) (is_of_timer_page access)
      (is_some (page_reached (machine_of held k) pid access address)) (timer_now k)
      (λ inside. ap is_some (page_is_apart (machine_of held k) pid access address matched inside)) i;
}

-- ---- what an instruction does there

-- a store that isn't the timer's goes to the pages
inside : (on there may console : Bool) (timer : Timer)
    → is_some (option_and_then (λ (t : Timer). if there then Some t else None) (if on then Some timer else None)) ≡ false
    → (if (on && there) then true else may) ≡ true → (not (on && there) && console) ≡ false → (may ≡ true) × (console ≡ false)
inside false there may console timer none m c = (m, c)
inside true false may console timer none m c = (m, c)
inside true true may console timer none m c = absurd (false≢true (sym none))

pub allowed_inside : (on : Bool) (timer : Timer) (mem : SeenMemory) (x : Executed) → mem.timer ≡ None → StoresLawfully (timed_memory on timer mem) x
    → StoresAllowed mem.may mem.console x
allowed_inside on timer mem (Next regs pc) none so = tt
allowed_inside on timer mem (Stores address width value regs pc) none so =
    let pages : (mem.may Store address ≡ true) × (mem.console address ≡ false) =
    inside on (in_timer_page address) (mem.may Store address) (mem.console address) timer
    (ap (λ o. is_some (timer_at (timer_with on timer o) address)) (sym none) ∙ so.0) so.1.0 so.1.1 in
    (pages.0, pages.1, so.1.2)
allowed_inside on timer mem (StoresToConsole offset value regs pc) none so = tt
allowed_inside on timer mem (StoresToTimer offset width value regs pc) none so = tt
allowed_inside on timer mem CallsKernel none so = tt
allowed_inside on timer mem (Traps cause value) none so = tt

-- the compare value afterwards: a store to the timer alone changes it
abbrev pub compare_after : Option ℕ → Executed → Option ℕ
compare_after compare (Next regs pc) = compare
compare_after compare (Stores address width value regs pc) = compare
compare_after compare (StoresToConsole offset value regs pc) = compare
compare_after compare (StoresToTimer offset width value regs pc) = compare_stored offset width value compare
compare_after compare CallsKernel = compare
compare_after compare (Traps cause value) = compare

abbrev timer_by : ℕ → Option ℕ → Timer
timer_by steps compare = record { steps = steps; compare = compare }

-- a timer that is there is left as the instruction leaves it
shown_after : (steps : ℕ) (old new : Option ℕ) (x : Executed) → Some (timer_by steps new) ≡ timer_left (Some (timer_by steps old)) x → new ≡ compare_after old x
shown_after steps old new (Next regs pc) e = ap (λ (t : Timer). t.compare) (same_Some _ _ e)
shown_after steps old new (Stores address width value regs pc) e = ap (λ (t : Timer). t.compare) (same_Some _ _ e)
shown_after steps old new (StoresToConsole offset value regs pc) e = ap (λ (t : Timer). t.compare) (same_Some _ _ e)
shown_after steps old new (StoresToTimer offset width value regs pc) e = ap (λ (t : Timer). t.compare) (same_Some _ _ e)
shown_after steps old new CallsKernel e = ap (λ (t : Timer). t.compare) (same_Some _ _ e)
shown_after steps old new (Traps cause value) e = ap (λ (t : Timer). t.compare) (same_Some _ _ e)

-- one that isn't there is left
kept_after : (mem : SeenMemory) (old new : Option ℕ) (x : Executed) → mem.timer ≡ None → StoresLawfully mem x → new ≡ old → new ≡ compare_after old x
kept_after mem old new (Next regs pc) none so e = e
kept_after mem old new (Stores address width value regs pc) none so e = e
kept_after mem old new (StoresToConsole offset value regs pc) none so e = e
kept_after mem old new (StoresToTimer offset width value regs pc) none so e = absurd (false≢true (sym (ap (λ (o : Option Timer). is_some o) none) ∙ so))
kept_after mem old new CallsKernel none so e = e
kept_after mem old new (Traps cause value) none so e = e

pub compare_left : (on : Bool) (steps : ℕ) (mem : SeenMemory) (old new : Option ℕ) (x : Executed) → mem.timer ≡ None
    → StoresLawfully (timed_memory on (timer_by steps old) mem) x
    → timer_with on (timer_by steps new) None ≡ timer_left (timer_with on (timer_by steps old) None) x → (on ≡ false → new ≡ old)
    → new ≡ compare_after old x
compare_left true steps mem old new x none so e off = shown_after steps old new x e
compare_left false steps mem old new x none so e off = kept_after (timed_memory false (timer_by steps old) mem) old new x none so (off refl)
