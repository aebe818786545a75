-- What one moment does to a page: it is allocated, it lives on, or it is released. A page is named by its home, and an orphan by its
-- holder's place. Each case says what stood before, what stands after, and by whose doing.
use Rattle.std.specs.Prelude.{◌≡◌, IsTrue, Bool, true, false, is_some, Some, None}
use Rattle.xk_base.specs.declared.ids.Number.{Number}
use Rattle.xk_base.specs.declared.ids.Pid.{Pid}
use Rattle.xk_base.specs.declared.ids.Place.{Place}
use Rattle.xk_base.specs.declared.messages.MsgKind.{MsgKind}
use Rattle.xk_base.specs.declared.messages.MsgKind.TheVariants.{Move}
use Rattle.xk_base.specs.declared.pages.Right.{Right}
use Rattle.syscall_codec.specs.CallNumbers.{decrease_heap, increase_heap, map_memory, unmap_memory, update_memory_flags}
use Rattle.ledger_model.specs.Conditions.{is_within}
use Rattle.ledger_model.specs.Ledger.{Bytes, Homed, Ledger, Orphan, Orphaned, Page, PageLoan, PageName}
use Rattle.ledger_model.specs.Steps.{new_page, zero_page}
use Rattle.machine_model.specs.Messaging.MessageCounts.{HasNone}
use Rattle.machine_model.specs.Messaging.Messages.{is_lend_of, loan_kind}
use Rattle.machine_model.specs.Runs.Isolation.{IsNewPage, IsOneStore, IsOrphaned}
use Rattle.machine_model.specs.Runs.LoanSpan.{IsInstructionOf}
use Rattle.machine_model.specs.Runs.Moments.{Moment}
use Rattle.machine_model.specs.State.Machine.{Machine}
use Rattle.lifetime_laws.specs.Causes.{Dies, IsCallOf, IsEndedBy, IsForwardedBy, IsSentBy}

-- a page or an orphan of that name stands in the ledger
abbrev pub stands : Ledger → PageName → Bool
stands ledger (Homed p) = is_some (ledger.home p)
stands ledger (Orphaned q) = is_some (ledger.orphan q)

-- ---- allocation

-- the page is new: none stood there, and it is not on loan
pub data Allocated (before : Machine) (moment : Moment) : PageName → Type 0 where
  -- MapMemory of its owner: it is of zeros, or the console
  Mapped : (p : Place) (page : Page) → before.ledger.home p ≡ None → moment.machine.ledger.home p ≡ Some page → IsNewPage page
      → page.loan ≡ None → IsCallOf p.pid map_memory before moment → Allocated before moment (Homed p)
  -- IncreaseHeap of its owner: it is of zeros, for loads and stores
  Grown : (p : Place) → before.ledger.home p ≡ None
      → moment.machine.ledger.home p ≡ Some (new_page (record { w = true; x = false }) (Bytes zero_page))
      → IsCallOf p.pid increase_heap before moment → Allocated before moment (Homed p)

-- ---- life

-- what is done to a page, as the cases below say; the number is that of the message by which it is done
pub data Deed : Type 0 where
  Nothing : Deed
  Storing : Deed
  Reducing : Deed
  Lending : Number → Deed
  Forwarding : Number → Deed
  Returning : Number → Deed
  Moving : Number → Deed
  Orphaning : Number → Deed

-- The page of the first name before the moment is that of the second name after it. What a case doesn't say stays: its right, its
-- bytes, its loan and its place.
pub data LivesOn (before : Machine) (moment : Moment) : PageName → Deed → PageName → Type 0 where
  -- it stands as it was, at its home or at its holder's place
  Stays : (p : Place) (page : Page) → before.ledger.home p ≡ Some page → moment.machine.ledger.home p ≡ Some page
      → LivesOn before moment (Homed p) Nothing (Homed p)
  StaysOrphan : (q : Place) (orphan : Orphan) → before.ledger.orphan q ≡ Some orphan → moment.machine.ledger.orphan q ≡ Some orphan
      → LivesOn before moment (Orphaned q) Nothing (Orphaned q)
  -- an instruction of a process writes bytes of it, where the process may store
  Stored : (name : PageName) (pid : Pid) → IsInstructionOf pid before moment → (store : IsOneStore pid before moment.machine.ledger)
      → store.page ≡ name → LivesOn before moment name Storing name
  -- UpdateMemoryFlags of its owner takes permissions from it
  Reduced : (p : Place) (page : Page) (right : Right) → before.ledger.home p ≡ Some page → page.loan ≡ None
      → IsTrue (is_within right page.right) → moment.machine.ledger.home p ≡ Some (record page { right = right })
      → IsCallOf p.pid update_memory_flags before moment → LivesOn before moment (Homed p) Reducing (Homed p)
  -- its owner lends it by a message to its holder
  Lent : (p : Place) (page : Page) (loan : PageLoan) (kind : MsgKind) → before.ledger.home p ≡ Some page → page.loan ≡ None
      → moment.machine.ledger.home p ≡ Some (record page { loan = Some loan }) → loan_kind kind ≡ Some loan.kind
      → IsSentBy p.pid loan.holder.pid kind loan.number before moment → LivesOn before moment (Homed p) (Lending loan.number) (Homed p)
  -- its holder forwards the message, so that it is lent to another holder
  Forwarded : (p : Place) (page : Page) (loan : PageLoan) (to : Place) → before.ledger.home p ≡ Some page → page.loan ≡ Some loan
      → moment.machine.ledger.home p ≡ Some (record page { loan = Some (record loan { holder = to }) })
      → IsForwardedBy loan.holder.pid to.pid loan.number before moment → LivesOn before moment (Homed p) (Forwarding loan.number) (Homed p)
  -- its loan ends, and its owner has it back
  GivenBack : (p : Place) (page : Page) (loan : PageLoan) → before.ledger.home p ≡ Some page → page.loan ≡ Some loan
      → moment.machine.ledger.home p ≡ Some (record page { loan = None }) → IsEndedBy loan.holder.pid loan.number before moment
      → LivesOn before moment (Homed p) (Returning loan.number) (Homed p)
  -- its owner moves it by a message to another owner; no page stood there, and none stands where it was
  Moved : (from to : Place) (page : Page) (number : Number) → before.ledger.home from ≡ Some page → page.loan ≡ None
      → before.ledger.home to ≡ None → moment.machine.ledger.home to ≡ Some page → moment.machine.ledger.home from ≡ None
      → IsSentBy from.pid to.pid Move number before moment → LivesOn before moment (Homed from) (Moving number) (Homed to)
  -- its owner dies while it is on loan, and it is an orphan of the same message, with its holder
  Bereft : (home q : Place) (orphan : Orphan) → before.ledger.orphan q ≡ None → moment.machine.ledger.orphan q ≡ Some orphan
      → (was : IsOrphaned before.ledger moment.machine.ledger home q orphan) → orphan.number ≡ was.loan.number
      → orphan.kind ≡ was.loan.kind → Dies home.pid before moment
      → LivesOn before moment (Homed home) (Orphaning orphan.number) (Orphaned q)

-- ---- release

-- the page stood, and is gone
pub data Released (before : Machine) (moment : Moment) : PageName → Type 0 where
  -- UnmapMemory of its owner
  Unmapped : (p : Place) (page : Page) → before.ledger.home p ≡ Some page → page.loan ≡ None → moment.machine.ledger.home p ≡ None
      → IsCallOf p.pid unmap_memory before moment → Released before moment (Homed p)
  -- DecreaseHeap of its owner
  Shrunk : (p : Place) (page : Page) → before.ledger.home p ≡ Some page → page.loan ≡ None → moment.machine.ledger.home p ≡ None
      → IsCallOf p.pid decrease_heap before moment → Released before moment (Homed p)
  -- its owner dies, and if it was on loan, no server has its message any more
  OwnerDied : (p : Place) (page : Page) → before.ledger.home p ≡ Some page → moment.machine.ledger.home p ≡ None
      → Dies p.pid before moment
      → ((loan : PageLoan) → page.loan ≡ Some loan → HasNone moment.machine.servers (is_lend_of loan.number))
      → Released before moment (Homed p)
  -- an orphan is given up by its holder
  GivenUp : (q : Place) (orphan : Orphan) → before.ledger.orphan q ≡ Some orphan → moment.machine.ledger.orphan q ≡ None
      → IsEndedBy q.pid orphan.number before moment → Released before moment (Orphaned q)
