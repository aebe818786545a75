-- Isolation: what a step may change of memory, and of which memory a step knows nothing. The last are propositions.
use Rattle.std.specs.Prelude.{◌≡◌, ℕ, ◌⊎◌, true, List, Option, Some, None}
use Rattle.xk_base.specs.declared.ids.Pid.{Pid}
use Rattle.xk_base.specs.declared.ids.Place.{Place}
use Rattle.xk_base.specs.declared.ids.ThreadId.{ThreadId}
use Rattle.xk_base.specs.declared.pages.Access.TheVariants.{Load}
use Rattle.ledger_model.specs.Conditions.{CanWrite}
use Rattle.ledger_model.specs.Ledger.{Ledger, Console, Bytes, Page, PageLoan, Orphan, PageName, Homed, Orphaned, contents_of}
use Rattle.ledger_model.specs.Loans.{bare}
use Rattle.ledger_model.specs.Reach.{reach}
use Rattle.ledger_model.specs.Steps.{write, zero_page}
use Rattle.machine_model.specs.Stepping.Acts.{does_instruction, call_by}
use Rattle.machine_model.specs.State.Machine.{Machine}
use Rattle.machine_model.specs.Runs.Matched.{Matched}
use Rattle.machine_model.specs.State.Order.{actor}
use Rattle.machine_model.specs.Stepping.Step.{step}

-- ---- an instruction

-- bytes within one page were written, which the process reaches by a store at a place of its own
pub record IsOneStore (pid : Pid) (m : Machine) (after : Ledger) : Type 0 where
  pub page : PageName
  pub offset : ℕ
  pub bytes : List ℕ
  pub store : CanWrite m.processes m.ledger page offset bytes
  pub own : store.place.pid ≡ pid
  pub written : after ≡ write page offset bytes m.ledger

-- an instruction leaves the ledger, or changes at most the bytes of one page at a place where its process may store
abbrev pub InstructionStoresOnePage : Type 0
InstructionStoresOnePage =
    (m : Machine) (who : ThreadId) → Matched m → actor m ≡ Some who → does_instruction m who ≡ true
    → ((step m).machine.ledger ≡ m.ledger) ⊎ IsOneStore who.pid m (step m).machine.ledger

-- ---- a system call

-- zeros, or the console
abbrev pub IsNewPage : Page → Type 0
IsNewPage page = (page.contents ≡ Bytes zero_page) ⊎ (page.contents ≡ Console)

-- the page stood at a home before with the same bytes: at the same, or at one that it left
pub record IsOldPage (before after : Ledger) (from place : Place) (page : Page) : Type 0 where
  pub old : Page
  pub stood : before.home from ≡ Some old
  pub same : page.contents ≡ old.contents
  pub moved : (from ≡ place) ⊎ (after.home from ≡ None)

-- the page that became the orphan was lent to its place, has the same bytes, and left its home
pub record IsOrphaned (before after : Ledger) (home place : Place) (orphan : Orphan) : Type 0 where
  pub page : Page
  pub loan : PageLoan
  pub stood : before.home home ≡ Some page
  pub lent : page.loan ≡ Some loan
  pub held : loan.holder ≡ place
  pub same : page.contents ≡ Bytes orphan.bytes
  pub left : after.home home ≡ None

-- No byte of any page is changed: pages are made as zeros where none was, moved with their bytes, or go. Each page that stands
-- after comes from one that stood before, unless it is new, and no two come from one.
pub record ChangesNoByte (before after : Ledger) : Type 0 where
  pub from : PageName → Option PageName
  pub one_to_one : (a b old : PageName) → from a ≡ Some old → from b ≡ Some old → a ≡ b
  pub homes : (p : Place) (page : Page) → after.home p ≡ Some page
      → ((from (Homed p) ≡ None) × (before.home p ≡ None) × IsNewPage page)
      ⊎ ((home : Place) × (from (Homed p) ≡ Some (Homed home)) × IsOldPage before after home p page)
  pub orphans : (q : Place) (orphan : Orphan) → after.orphan q ≡ Some orphan
      → ((from (Orphaned q) ≡ Some (Orphaned q)) × (before.orphan q ≡ Some orphan))
      ⊎ ((home : Place) × (from (Orphaned q) ≡ Some (Homed home)) × IsOrphaned before after home q orphan)

abbrev pub CallChangesNoByte : Type 0
CallChangesNoByte =
    (m : Machine) (who : ThreadId) (words : List ℕ) → Matched m → actor m ≡ Some who → call_by m who ≡ Some words
    → ChangesNoByte m.ledger (step m).machine.ledger

-- ---- what a step doesn't know

-- the machine without the bytes of its pages
abbrev pub without_bytes : Machine → Machine
without_bytes m = record m { ledger = bare m.ledger }

-- two states differ only in bytes of pages that the process can't load
pub record IsSameFor (pid : Pid) (m n : Machine) : Type 0 where
  pub but_bytes : without_bytes m ≡ without_bytes n
  pub loaded : (place : Place) (page : PageName) → place.pid ≡ pid → reach m.processes m.ledger place Load ≡ Some page
      → contents_of m.ledger page ≡ contents_of n.ledger page

-- the records, and the next state but for the bytes of pages, are the same from both
abbrev pub StepIsIsolated : Type 0
StepIsIsolated =
    (m n : Machine) (who : ThreadId) → Matched m → Matched n → actor m ≡ Some who → IsSameFor who.pid m n
    → ((step m).records ≡ (step n).records) × (without_bytes (step m).machine ≡ without_bytes (step n).machine)
