-- The life of a ledger: its steps as values, each with its condition, one after another.
use Rattle.std.specs.Prelude.{◌≡◌, ℕ, Bool, false, IsFalse, List, [], ◌∷◌, Some, None}
use Rattle.std.specs.Bool.{⊤}
use Rattle.xk_base.specs.declared.ids.Number.{Number}
use Rattle.xk_base.specs.declared.ids.Pid.{Pid}
use Rattle.xk_base.specs.declared.ids.Place.{Place}
use Rattle.xk_base.specs.declared.pages.LoanKind.{LoanKind}
use Rattle.xk_base.specs.declared.pages.LoanKind.TheVariants.{Shared}
use Rattle.xk_base.specs.declared.pages.Right.{Right}
use Rattle.ledger_model.specs.Conditions.{CanMake, CanMakeConsole, CanWrite, CanRemove, CanReduce, CanLend, CanPass, CanGive, CanForget}
use Rattle.ledger_model.specs.Ledger.{Ledger, Page, PageLoan, PageName}
use Rattle.ledger_model.specs.Loans.{LoanRun, same_number}
use Rattle.ledger_model.specs.Steps.{make, make_console, write, remove, reduce, lend, end_loan, pass, give, orphan_loan, forget}

-- a step with its arguments
pub data LedgerStep : Type 0 where
  Make : Place → ℕ → Right → LedgerStep
  MakeConsole : Place → Bool → LedgerStep
  Write : PageName → ℕ → List ℕ → LedgerStep
  Remove : (Place → Bool) → LedgerStep
  Reduce : (Place → Bool) → Right → LedgerStep
  Lend : Place → ℕ → Place → LoanKind → Number → LedgerStep
  End : Number → LedgerStep
  Pass : LoanRun → Place → LedgerStep
  Give : Place → ℕ → Place → LedgerStep
  MakeOrphans : Number → LedgerStep
  Forget : Pid → LedgerStep

-- the ledger after a step
abbrev pub after : ℕ → LedgerStep → Ledger → Ledger
after procs (Make first n right) ledger = make first n right ledger
after procs (MakeConsole place w) ledger = make_console place w ledger
after procs (Write name offset bytes) ledger = write name offset bytes ledger
after procs (Remove places) ledger = remove places ledger
after procs (Reduce places right) ledger = reduce places right ledger
after procs (Lend from n to kind number) ledger = lend from n to kind number ledger
after procs (End number) ledger = end_loan number ledger
after procs (Pass loan to) ledger = pass loan.number loan.holder to ledger
after procs (Give from n to) ledger = give from n to ledger
after procs (MakeOrphans number) ledger = orphan_loan procs number ledger
after procs (Forget pid) ledger = forget pid ledger

-- the condition of a step
abbrev pub May : ℕ → ℕ → LedgerStep → Ledger → Type 0
May procs capacity (Make first n right) ledger = CanMake procs capacity ledger first n
May procs capacity (MakeConsole place w) ledger = CanMakeConsole procs ledger place
May procs capacity (Write name offset bytes) ledger = CanWrite procs ledger name offset bytes
May procs capacity (Remove places) ledger = CanRemove ledger places
May procs capacity (Reduce places right) ledger = CanReduce ledger places right
May procs capacity (Lend from n to kind number) ledger = CanLend procs ledger from n to kind number
May procs capacity (End number) ledger = ⊤
May procs capacity (Pass loan to) ledger = CanPass procs ledger loan to
May procs capacity (Give from n to) ledger = CanGive procs ledger from n to
May procs capacity (MakeOrphans number) ledger = ⊤
May procs capacity (Forget pid) ledger = CanForget ledger pid

-- the step ends the loan of that number, or makes its pages orphans
abbrev pub ends : Number → LedgerStep → Bool
ends number (Make first n right) = false
ends number (MakeConsole place w) = false
ends number (Write name offset bytes) = false
ends number (Remove places) = false
ends number (Reduce places right) = false
ends number (Lend from n to kind other) = false
ends number (End other) = same_number other number
ends number (Pass loan to) = false
ends number (Give from n to) = false
ends number (MakeOrphans other) = same_number other number
ends number (Forget pid) = false

-- the step begins a loan of that number
abbrev pub lends : Number → LedgerStep → Bool
lends number (Make first n right) = false
lends number (MakeConsole place w) = false
lends number (Write name offset bytes) = false
lends number (Remove places) = false
lends number (Reduce places right) = false
lends number (Lend from n to kind other) = same_number other number
lends number (End other) = false
lends number (Pass loan to) = false
lends number (Give from n to) = false
lends number (MakeOrphans other) = false
lends number (Forget pid) = false

-- the step passes the loan of that number on to another holder
abbrev pub passes : Number → LedgerStep → Bool
passes number (Make first n right) = false
passes number (MakeConsole place w) = false
passes number (Write name offset bytes) = false
passes number (Remove places) = false
passes number (Reduce places right) = false
passes number (Lend from n to kind other) = false
passes number (End other) = false
passes number (Pass loan to) = same_number loan.number number
passes number (Give from n to) = false
passes number (MakeOrphans other) = false
passes number (Forget pid) = false

-- the ledger after a list of steps
unfoldable pub after_all : ℕ → List LedgerStep → Ledger → Ledger
after_all procs [] ledger = ledger
after_all procs (step ∷ steps) ledger = after_all procs steps (after procs step ledger)

-- each step of the list has its condition when its turn comes
unfoldable pub MayAll : ℕ → ℕ → List LedgerStep → Ledger → Type 0
MayAll procs capacity [] ledger = ⊤
MayAll procs capacity (step ∷ steps) ledger = May procs capacity step ledger × MayAll procs capacity steps (after procs step ledger)

-- and none of them ends the loan of that number
unfoldable pub NoneEnds : Number → List LedgerStep → Type 0
NoneEnds number [] = ⊤
NoneEnds number (step ∷ steps) = IsFalse (ends number step) × NoneEnds number steps

-- What a page on loan keeps: its right, and its loan but for the holder's place. Under a Shared loan its bytes.
pub record IsStillLent (loan : PageLoan) (before now : Page) : Type 0 where
  pub right : now.right ≡ before.right
  pub loan_now : PageLoan
  pub still : now.loan ≡ Some loan_now
  pub kind : loan_now.kind ≡ loan.kind
  pub number : loan_now.number ≡ loan.number
  pub bytes : loan.kind ≡ Shared → now.contents ≡ before.contents

-- What a page has back after its loan: no loan and the right from before, and after a Shared loan the bytes from before.
pub record IsBack (kind : LoanKind) (before now : Page) : Type 0 where
  pub no_loan : now.loan ≡ None
  pub right : now.right ≡ before.right
  pub bytes : kind ≡ Shared → now.contents ≡ before.contents
