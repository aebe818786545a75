-- A list of places, each empty or with a value, as the finite map from the number of a place to what it has.
use Rattle.std.specs.Prelude.{ℕ, List, Option, None, slice_index_or}

-- what place k of the list has; none past its end
abbrev pub row_map : {V : Type 0} → List (Option V) → ℕ → Option V
row_map xs k = slice_index_or xs k None
