-- The lawful ledger: what the ledger of `procs` processes keeps, with room for `capacity` pages. It says nothing of bytes.
use Rattle.std.specs.Prelude.{◌≡◌, ℕ, ◌≤◌, ◌⊎◌, true, false, IsTrue, Some, None}
use Rattle.xk_base.specs.declared.ids.Number.{Number}
use Rattle.xk_base.specs.declared.ids.Place.{Place}
use Rattle.xk_base.specs.declared.pages.LoanKind.TheVariants.{Exclusive}
use Rattle.xk_base.specs.declared.windows.Window.TheVariants.{Message, Map}
use Rattle.ledger_model.specs.Ledger.{Ledger, Console, Page, PageLoan, Orphan, loan_at, pages}
use Rattle.ledger_model.specs.Loans.{loans, LoanRun, Stands, IsFresh}
use Rattle.ledger_model.specs.Places.{is_user_place, is_place_in}

-- the entries of a number: it has none, or they are those of one loan that stands
abbrev pub IsOneRun : Ledger → Number → Type 0
IsOneRun ledger number = IsFresh (loans ledger) number ⊎ ((r : LoanRun) × (r.number ≡ number) × Stands (loans ledger) r)

pub record IsLawful (procs capacity : ℕ) (ledger : Ledger) : Type 0 where
  -- homes, holder places and places of orphans lie in windows of the processes, those of holders and
  -- orphans in the Message window
  pub home_lies : (p : Place) (page : Page) → ledger.home p ≡ Some page → IsTrue (is_user_place procs p)
  pub holder_lies : (p : Place) (loan : PageLoan) → loan_at ledger p ≡ Some loan
      → IsTrue (is_place_in procs Message loan.holder)
  pub orphan_lies : (p : Place) (orphan : Orphan) → ledger.orphan p ≡ Some orphan
      → IsTrue (is_place_in procs Message p)
  -- and they are all different
  pub holders_differ : (p q : Place) (a b : PageLoan) → loan_at ledger p ≡ Some a → loan_at ledger q ≡ Some b
      → a.holder ≡ b.holder → p ≡ q
  pub holder_no_home : (p : Place) (loan : PageLoan) → loan_at ledger p ≡ Some loan → ledger.home loan.holder ≡ None
  pub holder_no_orphan : (p : Place) (loan : PageLoan) → loan_at ledger p ≡ Some loan
      → ledger.orphan loan.holder ≡ None
  pub orphan_no_home : (p : Place) (orphan : Orphan) → ledger.orphan p ≡ Some orphan → ledger.home p ≡ None
  -- at most one page is the console; it lies in the Map window, and has no loan and no x
  pub one_console : (p q : Place) (a b : Page) → ledger.home p ≡ Some a → ledger.home q ≡ Some b
      → a.contents ≡ Console → b.contents ≡ Console → p ≡ q
  pub console_lies : (p : Place) (page : Page) → ledger.home p ≡ Some page → page.contents ≡ Console
      → IsTrue (is_place_in procs Map p)
  pub console_no_loan : (p : Place) (page : Page) → ledger.home p ≡ Some page → page.contents ≡ Console
      → page.loan ≡ None
  pub console_no_fetch : (p : Place) (page : Page) → ledger.home p ≡ Some page → page.contents ≡ Console
      → page.right.x ≡ false
  -- the capacity holds
  pub within : pages procs ledger ≤ capacity
  -- the entries of one number are all loans or all orphans, of one kind; their holder places are a
  -- run, and where they are loans, their homes are a run in the same order
  pub one_run : (number : Number) → IsOneRun ledger number
  -- a page under an Exclusive loan has w in its right
  pub exclusive_writable : (p : Place) (page : Page) (loan : PageLoan) → ledger.home p ≡ Some page
      → page.loan ≡ Some loan → loan.kind ≡ Exclusive → page.right.w ≡ true
