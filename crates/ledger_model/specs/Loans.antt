-- The loans of a ledger: all that is said of loans, without rights and bytes.
use Rattle.std.specs.Prelude.{◌≡◌, ℕ, Bool, ◌&&◌, ◌==◌, is_none, if◌then◌else◌, [], Option, Some, None}
use Rattle.std.specs.Option.{option_and_then, option_map}
use Rattle.xk_base.specs.declared.ids.Number.{Number}
use Rattle.xk_base.specs.declared.ids.Place.{Place}
use Rattle.xk_base.specs.declared.pages.LoanKind.{LoanKind}
use Rattle.ledger_model.specs.Ledger.{Ledger, Contents, Console, Bytes, Page, PageLoan, Orphan, loan_at}
use Rattle.ledger_model.specs.Places.{in_run, moved}

-- ---- a ledger without its bytes: places, rights and loans

abbrev pub bare_contents : Contents → Contents
bare_contents Console = Console
bare_contents (Bytes bytes) = Bytes []

abbrev pub bare_page : Page → Page
bare_page page = record page { contents = bare_contents page.contents }

abbrev pub bare_orphan : Orphan → Orphan
bare_orphan orphan = record orphan { bytes = [] }

unfoldable pub bare : Ledger → Ledger
bare ledger = record {
  home = λ p. option_map bare_page (ledger.home p);
  orphan = λ p. option_map bare_orphan (ledger.orphan p);
}

-- ---- the loans alone

-- what is said of an orphan: the kind and the message of the loan that it was
pub record OrphanLoan : Type 0 where
  pub kind : LoanKind
  pub number : Number

pub record Loans : Type 0 where
  pub home : Place → Option PageLoan
  pub orphan : Place → Option OrphanLoan

abbrev pub loan_of_orphan : Orphan → OrphanLoan
loan_of_orphan orphan = record { kind = orphan.kind; number = orphan.number }

abbrev pub orphan_loan_at : Ledger → Place → Option OrphanLoan
orphan_loan_at ledger p = option_map loan_of_orphan (ledger.orphan p)

unfoldable pub loans : Ledger → Loans
loans ledger = record { home = λ p. loan_at ledger p; orphan = λ p. orphan_loan_at ledger p }

-- ---- the loan of one message, as a whole

-- `count` pages on loan by one message: from the lender's place on (none where the lender died), at
-- the holder's place on
pub record LoanRun : Type 0 where
  pub lender : Option Place
  pub holder : Place
  pub count : ℕ
  pub kind : LoanKind
  pub number : Number

-- the loan after its lender died
abbrev pub without_lender : LoanRun → LoanRun
without_lender r = record r { lender = None }

-- the loan after it was passed on to another holder's place
abbrev pub with_holder : Place → LoanRun → LoanRun
with_holder to r = record r { holder = to }

abbrev pub same_number : Number → Number → Bool
same_number a b = a.0 == b.0

-- the loan, if it is one of that message
abbrev pub of_number : Number → Option PageLoan → Option PageLoan
of_number number o = option_and_then (λ loan. if same_number loan.number number then Some loan else None) o

abbrev pub orphan_of_number : Number → Option OrphanLoan → Option OrphanLoan
orphan_of_number number o = option_and_then (λ loan. if same_number loan.number number then Some loan else None) o

-- the loan that a run with this lender makes at a home: of the i-th place of the lender's run to the i-th of the holder's
abbrev pub lent_from : LoanRun → Place → Place → Option PageLoan
lent_from r from p = if in_run from r.count p
    then Some (record { holder = moved from r.holder p; kind = r.kind; number = r.number }) else None

abbrev pub loan_of_run : LoanRun → Place → Option PageLoan
loan_of_run r p = option_and_then (λ from. lent_from r from p) r.lender

-- the orphan that a run without a lender makes at a place
abbrev pub orphan_of_run : LoanRun → Place → Option OrphanLoan
orphan_of_run r p = if is_none r.lender && in_run r.holder r.count p then Some (record { kind = r.kind; number = r.number }) else None

-- The loan stands: at each place the loans of its message, and the orphans, are exactly its own.
pub record Stands (all : Loans) (r : LoanRun) : Type 0 where
  pub homes : (p : Place) → of_number r.number (all.home p) ≡ loan_of_run r p
  pub orphans : (p : Place) → orphan_of_number r.number (all.orphan p) ≡ orphan_of_run r p

-- The number is fresh: no loan and no orphan has it.
pub record IsFresh (all : Loans) (number : Number) : Type 0 where
  pub homes : (p : Place) → of_number number (all.home p) ≡ None
  pub orphans : (p : Place) → orphan_of_number number (all.orphan p) ≡ None
