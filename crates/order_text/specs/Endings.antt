-- The endings of a search, as they are told: of what each fails, how many nodes are like it, and how many there are.
use Rattle.std.specs.Prelude.{◌==◌, ◌&&◌, ℕ, Bool, List, filter, is_some, length, nat_lt, slice_get, Option}
use Rattle.std.specs.List.{list_any}
use Rattle.std.specs.Option.{option_and_then}
use Rattle.order_model.specs.declared.failing.Failing.{Failing}
use Rattle.order_text.specs.declared.endings.Ending.{Ending}
use Rattle.order_text.specs.declared.endings.Look.{Look}

-- of what an ending is told to fail
abbrev pub failing_of : List Failing → Option ℕ → Option Failing
failing_of list fails = option_and_then (slice_get list) fails

-- how many nodes are told to be like the ending at this place
abbrev pub looks_at : List Look → ℕ → ℕ
looks_at looks place = length (filter (λ look. look.ending == place) looks)

-- there was to be one ending at most, and there are so many
abbrev pub is_several : Bool → ℕ → Bool
is_several differ endings = differ && nat_lt 1 endings

-- an ending fails of one of these
abbrev pub fails_some : List Failing → List Ending → Bool
fails_some fails list = list_any (λ ending. is_some (failing_of fails ending.fails)) list
