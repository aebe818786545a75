-- What a run left is as a case wants it.

use Rattle.std.specs.Prelude.{◌≡◌, ℕ, List, [], IsTrue, nat_eq, if◌then◌else◌}
use Rattle.std.specs.List.{ends_with}
use Rattle.run_cases.specs.declared.judging.Left.{Left}
use Rattle.run_cases.specs.declared.case.Wanted.{Wanted}
use Rattle.run_cases.specs.declared.case.WantedOut.{WantedOut}
use Rattle.run_cases.specs.declared.case.WantedOut.TheVariants.{Any, Last, Whole}

-- The output is just the bytes that are wanted, or it ends with them, or nothing is said of it.
abbrev pub IsOutWanted : WantedOut → List ℕ → Type 0
IsOutWanted (Whole bytes) out = out ≡ bytes.items
IsOutWanted (Last bytes) out = IsTrue (ends_with nat_eq out bytes.items)
IsOutWanted Any _ = Unit {0}

-- The number and the note of the status are those that are wanted, the note stands alone on the notes or nothing does, and the
-- output is as wanted.
pub record IsAsWanted (wanted : Wanted) (left : Left) : Type 0 where
  pub number : left.number ≡ wanted.number
  pub note : left.note.items ≡ wanted.note.items
  pub notes : left.notes.items ≡ (if wanted.is_noted then wanted.note.items else [])
  pub out : IsOutWanted wanted.out left.out.items
