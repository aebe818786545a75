-- The fate of a number in what leads from a state to the next: its loan opens, is kept, or closes, and what is then so.
use Rattle.std.specs.Prelude.{◌≡◌, ℕ, ◌<◌, ◌≤◌, ◌⊎◌, true, Some}
use Rattle.xk_base.specs.declared.ids.Number.{Number}
use Rattle.xk_base.specs.declared.ids.Place.{Place}
use Rattle.xk_base.specs.declared.pages.LoanKind.TheVariants.{Exclusive}
use Rattle.ledger_model.specs.Ledger.{Page}
use Rattle.ledger_model.specs.Loans.{LoanRun}
use Rattle.ledger_model.specs.Places.{place_after}
use Rattle.machine_model.specs.Runs.LoanSpan.{Closes, IsForwarded, IsIn, IsInstructionOf, IsOut, Opens, page_bytes, page_right, unlent}
use Rattle.machine_model.specs.Runs.Matched.{Matched, is_living}
use Rattle.machine_model.specs.Runs.Moments.{Cause, Moment, moment_of}
use Rattle.machine_model.specs.State.Machine.{Machine}

-- The loan goes on, `a` before and `b` after: its kind and how many pages it has stay, it gets no other lender, its pages at their
-- homes keep their rights, its holder's places change only where it is forwarded, and the bytes of a page only under Exclusive and
-- by an instruction of its holder.
pub record IsKept (number : Number) (before : Machine) (moment : Moment) (a b : LoanRun) : Type 0 where
  pub kind : a.kind ≡ b.kind
  pub count : a.count ≡ b.count
  pub lender : (home : Place) → b.lender ≡ Some home → a.lender ≡ Some home
  pub rights : (home : Place) (k : ℕ) → b.lender ≡ Some home → k < a.count
      → page_right before a k ≡ page_right moment.machine b k
  pub holder : (a.holder ≡ b.holder) ⊎ IsForwarded number a before moment
  pub bytes : (k : ℕ) → k < a.count
      → (page_bytes before a k ≡ page_bytes moment.machine b k)
      ⊎ ((a.kind ≡ Exclusive) × IsInstructionOf a.holder.pid before moment)

-- each page of the loan stands at its home without a loan, with its right and its bytes, where its lender lives
abbrev pub IsGivenBack : Machine → Moment → LoanRun → Type 0
IsGivenBack before moment loan =
    (home : Place) (k : ℕ) (page : Page) → loan.lender ≡ Some home → is_living moment.machine home.pid ≡ true → k < loan.count
    → before.ledger.home (place_after home k) ≡ Some page
    → moment.machine.ledger.home (place_after home k) ≡ Some (unlent page)

pub record Fate (number : Number) (before : Machine) (moment : Moment) : Type 0 where
  pub opens : (loan : LoanRun) → IsIn number before → IsOut number moment.machine loan → Opens number loan before moment
  pub keeps : (a b : LoanRun) → IsOut number before a → IsOut number moment.machine b → IsKept number before moment a b
  pub ends : (loan : LoanRun) → IsOut number before loan → IsIn number moment.machine → Closes number loan before moment
  pub gives_back : (loan : LoanRun) → IsOut number before loan → IsIn number moment.machine → IsGivenBack before moment loan
  -- the next number never falls
  pub climbs : before.next_number ≤ moment.machine.next_number

-- every number has its fate by the cause, in a matched state
abbrev pub HasFates : Cause → Type 0
HasFates cause = (m : Machine) (number : Number) → Matched m → Fate number m (moment_of cause m)

-- .. whatever it is
abbrev pub AllHaveFates : Type 0
AllHaveFates = (cause : Cause) → HasFates cause
