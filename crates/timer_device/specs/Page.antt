-- A memory of a process with the timer's page over it, where that is there: which access there is, and what is the console's.
use Rattle.std.specs.Prelude.{◌≡◌, ℕ, Bool, true, not, ◌&&◌, is_some, if◌then◌else◌, Option, Some, None}
use Rattle.xk_base.specs.declared.ids.Pid.{Pid}
use Rattle.xk_base.specs.declared.limits.TheConstants.{TIMER_INTERRUPT}
use Rattle.xk_base.specs.declared.pages.Access.{Access}
use Rattle.xk_base.specs.UserMemory.{Timer, in_timer_page}
use Rattle.machine_model.specs.State.Machine.{Machine}
use Rattle.machine_model.specs.State.Views.{is_of_timer_page, memory_of, page_reached}
use Rattle.machine_model.specs.Stepping.Interrupts.{is_claim_of}

-- the timer serves the address
abbrev pub is_served : Bool → ℕ → Bool
is_served on address = on && in_timer_page address

-- The timer's page is for loads and stores; everywhere else the access is that to the memory.
abbrev pub may_with_timer : Bool → (Access → ℕ → Bool) → Access → ℕ → Bool
may_with_timer on may access address = if is_served on address then is_of_timer_page access else may access address

-- the timer's page isn't the console's
abbrev pub console_with_timer : Bool → (ℕ → Bool) → ℕ → Bool
console_with_timer on console address = not (is_served on address) && console address

-- the timer that is there: this one, or else the memory's own
abbrev pub timer_with : Bool → Timer → Option Timer → Option Timer
timer_with on timer other = if on then Some timer else other

-- ---- as the machine has it

-- no page that the process reaches is at an address of the timer's
abbrev pub ReachesNothingThere : Machine → Pid → Type 0
ReachesNothingThere m pid = (access : Access) (address : ℕ) → in_timer_page address ≡ true → page_reached m pid access address ≡ None

-- With the timer's page over the pages that the process reaches, there exactly where it has claimed the timer's interrupt, its
-- memory is that of the machine: the accesses, the console and the timer are the same. What stands there is that of its pages.
pub record IsMemoryOf (m : Machine) (pid : Pid) (on : Bool) : Type 0 where
  pub may : may_with_timer on (λ access address. is_some (page_reached m pid access address)) ≡ (memory_of m pid).may
  pub console : console_with_timer on (memory_of m pid).console ≡ (memory_of m pid).console
  pub timer : timer_with on (record { steps = m.steps; compare = m.compare }) None ≡ (memory_of m pid).timer

abbrev pub ViewIsMemory : Type 0
ViewIsMemory = (m : Machine) (pid : Pid) → ReachesNothingThere m pid → IsMemoryOf m pid (is_claim_of pid (m.claims TIMER_INTERRUPT))
