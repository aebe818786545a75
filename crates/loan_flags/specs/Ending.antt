-- What the end of a loan leaves.
use Rattle.std.specs.Prelude.{◌≡◌, Bool, false, ◌||◌, IsFalse}
use Rattle.std.specs.Option.{option_map_or}
use Rattle.xk_base.specs.declared.ids.Place.{Place}
use Rattle.phys_pages.specs.Owners.{infos}
use Rattle.ledger_model.specs.Loans.{LoanRun}
use Rattle.ledger_model.specs.Places.{in_run}
use Rattle.ledger_model.specs.Steps.{end_loan}
use Rattle.sv32_space.specs.EntryLoans.{IsUnlent}
use Rattle.sv32_space.specs.Tie.{agrees}
use Rattle.loan_flags.specs.Keeping.{KeepsPages, IsLedgerStep, Tables, entries_of}

-- a place of the holder's run, or of the lender's
abbrev pub is_of_loan : LoanRun → Place → Bool
is_of_loan loan p = in_run loan.holder loan.count p || option_map_or (λ from. in_run from loan.count p) loan.lender false

-- The loan has ended: entries and owners agree, the ledger is the one after its end, and nothing has its number. All entries
-- but its own stay.
pub record EndsSo (old new : Tables) (loan : LoanRun) : Type 0 where
  pub agree : agrees new.ram new.owners
  pub step : IsLedgerStep (end_loan loan.number) old new
  pub fresh : IsUnlent (infos new.owners) loan.number
  pub others : (p : Place) → IsFalse (is_of_loan loan p) → entries_of new p ≡ entries_of old p
  pub keeps : KeepsPages old new
