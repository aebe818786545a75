-- The conditions of the ledger steps: what whoever does a step owes, so that the ledger stays lawful.
-- `end_loan` and `orphan_loan` have none.
use Rattle.std.specs.Prelude.{◌≡◌, ℕ, ◌+◌, ◌<◌, ◌≤◌, Bool, true, false, not, ◌&&◌, ◌||◌, is_some, is_none, IsTrue, IsFalse, List, length}
use Rattle.std.specs.Prelude.{Option, Some, None}
use Rattle.std.specs.List.{All}
use Rattle.xk_base.specs.declared.ids.Number.{Number}
use Rattle.xk_base.specs.declared.ids.Pid.{Pid}
use Rattle.xk_base.specs.declared.ids.Place.{Place}
use Rattle.xk_base.specs.declared.pages.Access.TheVariants.{Store}
use Rattle.xk_base.specs.declared.pages.LoanKind.{LoanKind}
use Rattle.xk_base.specs.declared.pages.LoanKind.TheVariants.{Shared, Exclusive}
use Rattle.xk_base.specs.declared.pages.Right.{Right}
use Rattle.xk_base.specs.declared.windows.Window.TheVariants.{Message, Map}
use Rattle.ledger_model.specs.Ledger.{Ledger, Page, PageName, has_bytes, pages}
use Rattle.ledger_model.specs.Loans.{loans, LoanRun, Stands, IsFresh}
use Rattle.ledger_model.specs.Places.{in_run, is_user_place, is_place_in}
use Rattle.ledger_model.specs.Reach.{is_free, reach}

-- a page that is on loan
abbrev pub is_lent : Option Page → Bool
is_lent None = false
is_lent (Some page) = is_some page.loan

-- a page that may be moved: it is there, is not on loan, and is not the console
abbrev pub may_move : Option Page → Bool
may_move None = false
may_move (Some page) = has_bytes page.contents && is_none page.loan

-- a page that may be lent: one that may be moved, and for an Exclusive loan one with w
abbrev pub may_lend_page : LoanKind → Page → Bool
may_lend_page Shared page = has_bytes page.contents && is_none page.loan
may_lend_page Exclusive page = has_bytes page.contents && is_none page.loan && page.right.w

abbrev pub may_lend : LoanKind → Option Page → Bool
may_lend kind None = false
may_lend kind (Some page) = may_lend_page kind page

-- the console
abbrev pub is_console : Option Page → Bool
is_console None = false
is_console (Some page) = not (has_bytes page.contents)

-- a right that asks for nothing that the other hasn't
abbrev pub is_within : Right → Right → Bool
is_within asked had = (not asked.w || had.w) && (not asked.x || had.x)

-- n pages at `first`: free user places, and the capacity holds
pub record CanMake (procs capacity : ℕ) (ledger : Ledger) (first : Place) (n : ℕ) : Type 0 where
  pub lies : (p : Place) → in_run first n p ≡ true → IsTrue (is_user_place procs p)
  pub free : (p : Place) → in_run first n p ≡ true → IsTrue (is_free procs ledger p)
  pub room : pages procs ledger + n ≤ capacity

-- the console: a free place of the Map window, and no console so far
pub record CanMakeConsole (procs : ℕ) (ledger : Ledger) (place : Place) : Type 0 where
  pub lies : IsTrue (is_place_in procs Map place)
  pub free : IsTrue (is_free procs ledger place)
  pub first : (p : Place) → IsFalse (is_console (ledger.home p))

-- bytes within a page, which a process reaches by a store at some place
pub record CanWrite (procs : ℕ) (ledger : Ledger) (name : PageName) (offset : ℕ) (bytes : List ℕ) : Type 0 where
  pub place : Place
  pub reached : reach procs ledger place Store ≡ Some name
  pub fits : offset + length bytes ≤ 4096
  pub each : All (λ b. b < 256) bytes

-- no page at these places is on loan; places without a page are passed over
pub record CanRemove (ledger : Ledger) (places : Place → Bool) : Type 0 where
  pub not_lent : (p : Place) → places p ≡ true → IsFalse (is_lent (ledger.home p))

-- .. and each page there has the right that it is to have
pub record CanReduce (ledger : Ledger) (places : Place → Bool) (right : Right) : Type 0 where
  pub not_lent : (p : Place) → places p ≡ true → IsFalse (is_lent (ledger.home p))
  pub within : (p : Place) (page : Page) → places p ≡ true → ledger.home p ≡ Some page
      → IsTrue (is_within right page.right)

-- n pages at `from` that may be lent, n free places of the Message window at `to`, and a number that nothing has
pub record CanLend (procs : ℕ) (ledger : Ledger) (from : Place) (n : ℕ) (to : Place) (kind : LoanKind) (number : Number) : Type 0 where
  pub pages : (p : Place) → in_run from n p ≡ true → IsTrue (may_lend kind (ledger.home p))
  pub free : (p : Place) → in_run to n p ≡ true → IsTrue (is_free procs ledger p)
  pub lies : (p : Place) → in_run to n p ≡ true → IsTrue (is_place_in procs Message p)
  pub fresh : IsFresh (loans ledger) number

-- a loan that stands and has a lender, and as many free places of the Message window at `to`
pub record CanPass (procs : ℕ) (ledger : Ledger) (loan : LoanRun) (to : Place) : Type 0 where
  pub stands : Stands (loans ledger) loan
  pub lent : IsTrue (is_some loan.lender)
  pub free : (p : Place) → in_run to loan.count p ≡ true → IsTrue (is_free procs ledger p)
  pub lies : (p : Place) → in_run to loan.count p ≡ true → IsTrue (is_place_in procs Message p)

-- n pages at `from` that may be moved, and n free places of the Message window at `to`
pub record CanGive (procs : ℕ) (ledger : Ledger) (from : Place) (n : ℕ) (to : Place) : Type 0 where
  pub pages : (p : Place) → in_run from n p ≡ true → IsTrue (may_move (ledger.home p))
  pub free : (p : Place) → in_run to n p ≡ true → IsTrue (is_free procs ledger p)
  pub lies : (p : Place) → in_run to n p ≡ true → IsTrue (is_place_in procs Message p)

-- no page of that process is on loan
pub record CanForget (ledger : Ledger) (pid : Pid) : Type 0 where
  pub not_lent : (p : Place) → p.pid.0 ≡ pid.0 → IsFalse (is_lent (ledger.home p))
