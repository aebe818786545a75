-- Integrity: what an instruction of a process leaves of all that is another's.
use Rattle.std.specs.Prelude.{◌≡◌, ◌≢◌, ℕ, Bool, true, false, Some}
use Rattle.std.specs.Option.{option_map_or}
use Rattle.xk_base.specs.declared.ids.Pid.{Pid}
use Rattle.xk_base.specs.declared.ids.Place.{Place}
use Rattle.xk_base.specs.declared.ids.ThreadId.{ThreadId}
use Rattle.xk_base.specs.declared.limits.TheConstants.{TIMER_INTERRUPT}
use Rattle.xk_base.specs.declared.pages.Access.TheVariants.{Load, Store}
use Rattle.xk_base.specs.Tables.Circle.{same_thread}
use Rattle.ledger_model.specs.Ledger.{Ledger, PageName, contents_of}
use Rattle.ledger_model.specs.Loans.{bare}
use Rattle.ledger_model.specs.Reach.{reach}
use Rattle.machine_model.specs.Runs.Matched.{Matched}
use Rattle.machine_model.specs.State.Machine.{Claim, Machine}
use Rattle.machine_model.specs.State.Order.{actor}
use Rattle.machine_model.specs.State.Threads.{thread_id}
use Rattle.machine_model.specs.Stepping.Acts.{does_instruction}
use Rattle.machine_model.specs.Stepping.Step.{step}

-- ---- pages

-- In every ledger a page that is stored to at one place and loaded at another is at one place: who may write it sees it alone.
abbrev pub StoredByOneAlone : Type 0
StoredByOneAlone =
    (procs : ℕ) (ledger : Ledger) (p q : Place) (page : PageName) → reach procs ledger p Store ≡ Some page
    → reach procs ledger q Load ≡ Some page → p ≡ q

-- ---- an instruction

-- tid 1 of the process that claimed the timer's interrupt: at the end of any step the timer may start its handler
abbrev pub is_of_timer : Machine → ThreadId → Bool
is_of_timer m id = option_map_or (λ claim. same_thread id (thread_id claim.pid 1)) (m.claims TIMER_INTERRUPT) false

-- another process than this can load the page at the place
pub record IsLoadedByOther (pid : Pid) (m : Machine) (page : PageName) : Type 0 where
  pub place : Place
  pub other : place.pid ≢ pid
  pub reached : reach m.processes m.ledger place Load ≡ Some page

-- what is as before, but for what is the process's own
pub record LeavesOthers (pid : Pid) (m after : Machine) : Type 0 where
  -- the places of all pages, their rights and loans
  pub pages : bare after.ledger ≡ bare m.ledger
  -- the bytes of each page that another process could load just before
  pub bytes : (page : PageName) → IsLoadedByOther pid m page → contents_of after.ledger page ≡ contents_of m.ledger page
  -- each thread of another process, but for the one that the timer may start
  pub threads : (id : ThreadId) → id.pid ≢ pid → is_of_timer m id ≡ false → after.threads id ≡ m.threads id
  -- each process's life, heap and connections
  pub process : after.process ≡ m.process
  -- all servers with their messages
  pub servers : after.servers ≡ m.servers
  -- all claims
  pub claims : after.claims ≡ m.claims
  -- which numbers are pending, but for those of the process whose handler the timer may start
  pub pending : (k : ℕ) (claim : Claim) → m.claims k ≡ Some claim → is_of_timer m (thread_id claim.pid 1) ≡ false
      → after.pending k ≡ m.pending k

-- an instruction leaves all that is another's
abbrev pub InstructionLeavesOthers : Type 0
InstructionLeavesOthers =
    (m : Machine) (who : ThreadId) → Matched m → actor m ≡ Some who → does_instruction m who ≡ true
    → LeavesOthers who.pid m (step m).machine
