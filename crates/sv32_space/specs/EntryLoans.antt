-- Loans in entries and owners. A loan's pages stand at the places of its holder's run, and of its lender's where it has one;
-- the seat of page i is the one that entry i of the holder's run names.
use Rattle.std.specs.Prelude.{◌≡◌, ◌≢◌, ℕ, ◌<◌, Option, Some}
use Rattle.std.specs.Option.{option_map}
use Rattle.xk_base.specs.declared.ids.Number.{Number}
use Rattle.xk_base.specs.declared.ids.Place.{Place}
use Rattle.phys_pages.specs.declared.infos.LoanInfo.{LoanInfo}
use Rattle.phys_pages.specs.declared.infos.Seat.{Seat}
use Rattle.ledger_model.specs.Loans.{LoanRun}
use Rattle.ledger_model.specs.Places.{place_after}
use Rattle.sv32_space.specs.Agreement.{Infos, holder_side, lender_side, on_loan, right_in, seat_in}
use Rattle.sv32_space.specs.declared.sides.Entry.TheVariants.{At}
use Rattle.sv32_space.specs.Entries.{Entries}

-- the seat of page i
abbrev pub loan_seat : Entries → LoanRun → ℕ → Seat
loan_seat E loan i = seat_in (E (place_after loan.holder i))

-- the home of page i, where the loan has a lender
abbrev pub lender_place : LoanRun → ℕ → Option Place
lender_place loan i = option_map (λ from. place_after from i) loan.lender

-- what the owner table says of the loan of page i
abbrev pub loan_info : LoanRun → ℕ → LoanInfo
loan_info loan i = record { holder = place_after loan.holder i; kind = loan.kind; number = loan.number }

-- The loan stands in entries and owners.
pub record StandsIn (E : Entries) (I : Infos) (loan : LoanRun) : Type 0 where
  -- entry i of the holder's run, and of the lender's, has the spelling of its kind, and both name one seat
  pub holder : (i : ℕ) → i < loan.count → E (place_after loan.holder i) ≡ Some (At (holder_side loan.kind) (loan_seat E loan i))
  pub lender : (from : Place) (i : ℕ) → loan.lender ≡ Some from → i < loan.count
      → E (place_after from i) ≡ Some (At (lender_side loan.kind (right_in (E (place_after from i)))) (loan_seat E loan i))
  -- and the owner table has exactly this loan there
  pub info : (i : ℕ) → i < loan.count → I (loan_seat E loan i) ≡ Some (on_loan (lender_place loan i) (loan_info loan i))
  -- no used seat but these has a loan with that number
  pub only : (s : Seat) (home : Option Place) (x : LoanInfo) → I s ≡ Some (on_loan home x) → x.number ≡ loan.number
      → (i : ℕ) × (i < loan.count) × (s ≡ loan_seat E loan i)

-- No used seat has a loan with that number.
pub record IsUnlent (I : Infos) (number : Number) : Type 0 where
  pub none : (s : Seat) (home : Option Place) (x : LoanInfo) → I s ≡ Some (on_loan home x) → x.number ≢ number
