-- An unwinding of a group of processes: what makes the group act alike is said of one step at a time, and not of two whole runs.
use Rattle.std.specs.Prelude.{◌≡◌, Bool, true}
use Rattle.machine_model.specs.Runs.Matched.{Matched}
use Rattle.machine_model.specs.Runs.Moments.{Cause, caused}
use Rattle.machine_model.specs.State.Machine.{Machine}
use Rattle.noninterference_laws.specs.Acting.{ActsAlike}
use Rattle.noninterference_laws.specs.Inside.{Group, SameButInside}

-- In states that are related, and the same but for the inside, the group acts alike, whatever comes next; and what comes next leads to
-- related states. The relation says what the insides of the group have in common.
pub record IsUnwinding (group : Group) (related : Machine → Machine → Type 0) : Type 0 where
  pub acts : (cause : Cause) (m n : Machine) → Matched m → SameButInside group m n → related m n → ActsAlike group cause m n
  pub kept : (cause : Cause) (m n : Machine) → Matched m → SameButInside group m n → related m n
      → related (caused cause m) (caused cause n)

-- a relation as a test, and the states that pass it
abbrev pub Relation : Type 0
Relation = Machine → Machine → Bool

abbrev pub Passes : Relation → Machine → Machine → Type 0
Passes related m n = related m n ≡ true
