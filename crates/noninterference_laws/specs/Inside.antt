-- The inside of a set of processes: the registers and the pcs of their threads, their reservation, and the bytes of the pages that
-- nobody else can load. The rest is outside.
use Rattle.std.specs.Prelude.{◌≡◌, ℕ, Bool, true, false, List, [], Option, Some, None, if◌then◌else◌}
use Rattle.std.specs.Option.{option_map}
use Rattle.xk_base.specs.declared.ids.Place.{Place}
use Rattle.xk_base.specs.declared.ids.ThreadId.{ThreadId}
use Rattle.xk_base.specs.declared.pages.Access.TheVariants.{Load}
use Rattle.ledger_model.specs.Ledger.{Homed, Page, PageName, contents_of}
use Rattle.ledger_model.specs.Loans.{bare}
use Rattle.ledger_model.specs.Reach.{reach}
use Rattle.ledger_model.specs.Steps.{write}
use Rattle.machine_model.specs.State.Machine.{Machine, Reservation, Thread}
use Rattle.machine_model.specs.State.Threads.{change_thread, with_registers}

-- a set of processes, as a test of the number of a pid
abbrev pub Group : Type 0
Group = ℕ → Bool

-- ---- what is hidden

-- of a thread only its state is told: it decides whose turn it is, and whom a message reaches
abbrev pub hidden_thread : Thread → Thread
hidden_thread t = record t { pc = 0; regs = [] }

-- .. where the test says so
abbrev pub hidden_if : Bool → Option Thread → Option Thread
hidden_if true thread = option_map hidden_thread thread
hidden_if false thread = thread

abbrev pub hidden_threads : Group → (ThreadId → Option Thread) → ThreadId → Option Thread
hidden_threads group threads id = hidden_if (group id.pid.0) (threads id)

-- of a reservation by a thread of the group nothing is told, not even that there is one
abbrev pub hidden_reservation : Group → Option Reservation → Option Reservation
hidden_reservation group None = None
hidden_reservation group (Some r) = if group r.who.pid.0 then None else Some r

-- the machine without the bytes of its pages, and without what the threads of the group have in their registers
abbrev pub outside : Group → Machine → Machine
outside group m = record m {
  ledger = bare m.ledger;
  threads = hidden_threads group m.threads;
  reserved = hidden_reservation group m.reserved;
}

-- ---- what others see

-- a process that isn't of the group can load the page at the place
pub record IsSeenByOther (group : Group) (m : Machine) (page : PageName) : Type 0 where
  pub place : Place
  pub other : group place.pid.0 ≡ false
  pub reached : reach m.processes m.ledger place Load ≡ Some page

-- two states are the same but for the inside of the group: their outside is, and each page that another can load holds the same
pub record SameButInside (group : Group) (m n : Machine) : Type 0 where
  pub outside : outside group m ≡ outside group n
  pub seen : (page : PageName) → IsSeenByOther group m page → contents_of m.ledger page ≡ contents_of n.ledger page

-- ---- what is inside

-- Other registers and another pc of a thread of the group, and other bytes in a page of one of its processes that isn't on loan, make a
-- state that is the same but for the inside.
pub record InsideIsThere : Type 0 where
  pub registers : (group : Group) (m : Machine) (who : ThreadId) (regs : List ℕ) (pc : ℕ) → group who.pid.0 ≡ true
      → SameButInside group m (change_thread who (with_registers regs pc) m)
  pub bytes : (group : Group) (m : Machine) (home : Place) (page : Page) (offset : ℕ) (bytes : List ℕ) → group home.pid.0 ≡ true
      → m.ledger.home home ≡ Some page → page.loan ≡ None
      → SameButInside group m (record m { ledger = write (Homed home) offset bytes m.ledger })
