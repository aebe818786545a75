-- What is asked of one page before its loan changes.
use Rattle.std.specs.Prelude.{◌≡◌, true, Some, None}
use Rattle.xk_base.specs.declared.ids.Place.{Place}
use Rattle.xk_base.specs.declared.pages.LoanKind.{LoanKind}
use Rattle.xk_base.specs.declared.pages.LoanKind.TheVariants.{Exclusive}
use Rattle.phys_pages.specs.declared.infos.LoanInfo.{LoanInfo}
use Rattle.sv32_space.specs.declared.sides.Side.TheVariants.{Own}
use Rattle.sv32_space.specs.Agreement.{Infos, holder_side, lender_side, on_loan, right_in, seat_in}
use Rattle.sv32_space.specs.declared.sides.Entry.TheVariants.{At}
use Rattle.sv32_space.specs.Entries.{Entries}

-- the place is the home of a page without a loan
pub record IsOwn (E : Entries) (home : Place) : Type 0 where
  pub entry : E home ≡ Some (At (Own (right_in (E home))) (seat_in (E home)))

-- .. which may be lent so: under an Exclusive loan its right has w
pub record IsLendable (E : Entries) (kind : LoanKind) (home : Place) : Type 0 where
  pub own : IsOwn E home
  pub writable : kind ≡ Exclusive → (right_in (E home)).w ≡ true

-- the page at that home is on loan so, as entries and owners say alike
pub record IsLentFrom (E : Entries) (I : Infos) (home : Place) (loan : LoanInfo) : Type 0 where
  pub entry : E home ≡ Some (At (lender_side loan.kind (right_in (E home))) (seat_in (E home)))
  pub held : E loan.holder ≡ Some (At (holder_side loan.kind) (seat_in (E home)))
  pub info : I (seat_in (E home)) ≡ Some (on_loan (Some home) loan)

-- the page of that loan is an orphan
pub record IsOrphaned (E : Entries) (I : Infos) (loan : LoanInfo) : Type 0 where
  pub held : E loan.holder ≡ Some (At (holder_side loan.kind) (seat_in (E loan.holder)))
  pub info : I (seat_in (E loan.holder)) ≡ Some (on_loan None loan)
