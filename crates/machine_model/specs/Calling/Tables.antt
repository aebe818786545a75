-- Tables with a row for each number of a call.
use Rattle.std.specs.Prelude.{ℕ, ◌==◌, if◌then◌else◌, List, [], ◌∷◌}

-- the row of a number; a number that is not there has this one
abbrev pub row_of : {A : Type 0} → A → ℕ → List (ℕ × A) → A
row_of absent number [] = absent
row_of absent number (row ∷ rows) = if number == row.0 then row.1 else row_of absent number rows
