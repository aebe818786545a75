-- How a run starts: the state of the machine before its first step.
use Rattle.std.specs.Prelude.{◌≡◌, ℕ, ◌%◌, ◌≤◌, ◌⊎◌, false, [], IsTrue, IsFalse, Some, None}
use Rattle.xk_base.specs.declared.ids.Pid.{Pid}
use Rattle.xk_base.specs.declared.ids.Place.{Place}
use Rattle.xk_base.specs.declared.ids.ThreadId.{ThreadId}
use Rattle.xk_base.specs.declared.limits.TheConstants.{PROCESS_LIMIT}
use Rattle.xk_base.specs.declared.windows.Window.TheVariants.{Heap}
use Rattle.xk_base.specs.Tables.Circle.{is_pid}
use Rattle.xk_base.specs.Numbers.Windows.{in_window}
use Rattle.ledger_model.specs.Lawful.{IsLawful}
use Rattle.ledger_model.specs.Ledger.{Page, loan_at}
use Rattle.machine_model.specs.State.Machine.{Machine, Thread, ThreadState, Ready, Idle}
use Rattle.machine_model.specs.State.Threads.{thread_id}

-- there is a thread of this id in this state, at the address of an instruction
pub record HasThread (m : Machine) (id : ThreadId) (state : ThreadState) : Type 0 where
  pub thread : Thread
  pub there : m.threads id ≡ Some thread
  pub about : thread.state ≡ state
  pub aligned : thread.pc % 4 ≡ 0

pub record IsStart (m : Machine) : Type 0 where
  pub few : m.processes ≤ PROCESS_LIMIT
  -- a lawful ledger without loans, orphans and pages of the Heap window
  pub lawful : IsLawful m.processes m.capacity m.ledger
  pub no_loan : (p : Place) → loan_at m.ledger p ≡ None
  pub no_orphan : (p : Place) → m.ledger.orphan p ≡ None
  pub no_heap : (p : Place) (page : Page) → m.ledger.home p ≡ Some page → IsFalse (in_window Heap p.vpn.0)
  -- all processes are alive, without a heap and without connections
  pub process : (pid : ℕ) → m.process pid ≡ record { alive = is_pid m.processes pid; heap = 0; connections = [] }
  -- each has its interrupt thread, Idle, and its first thread, Ready, and no other
  pub handler : (pid : Pid) → IsTrue (is_pid m.processes pid.0) → HasThread m (thread_id pid 1) Idle
  pub first : (pid : Pid) → IsTrue (is_pid m.processes pid.0) → HasThread m (thread_id pid 2) Ready
  pub no_other : (id : ThreadId) (t : Thread) → m.threads id ≡ Some t
      → IsTrue (is_pid m.processes id.pid.0) × ((id.tid.0 ≡ 1) ⊎ (id.tid.0 ≡ 2))
  -- no servers, and so no messages; no claims, and nothing pending
  pub servers : (n : ℕ) → m.servers n ≡ None
  pub claims : (k : ℕ) → m.claims k ≡ None
  pub pending : (k : ℕ) → m.pending k ≡ false
  -- the next numbers are 1, and no step is done
  pub next_number : m.next_number ≡ 1
  pub next_serial : m.next_serial ≡ 1
  pub steps : m.steps ≡ 0
  -- the timer isn't armed, and nothing is reserved
  pub compare : m.compare ≡ None
  pub reserved : m.reserved ≡ None
