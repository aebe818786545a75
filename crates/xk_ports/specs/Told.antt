-- What an object outside holds is told (`Some`) or isn't (`None`). What is said of content holds
-- where it is told.
use Rattle.std.specs.Prelude.{◌≡◌, ◌<◌, List, ◌++◌, length, Option, Some, None}
use Rattle.std.specs.Option.{option_map}

-- a list grew by these items at its end: where it is told now, it was told before
abbrev pub Grows : {X : Type 0} → Option (List X) → Option (List X) → List X → Type 0
Grows old None added = Unit {0}
Grows {X} old (Some now) added = (before : List X) × (old ≡ Some before) × (now ≡ before ++ added)

-- a list grew by a part of these items, from their front
abbrev pub GrowsByPrefix : {X : Type 0} → Option (List X) → Option (List X) → List X → Type 0
GrowsByPrefix {X} old new added = (front : List X) × (rest : List X) × (added ≡ front ++ rest) × Grows old new front

-- a list grew by a proper part of these items, from their front: one item or more is still left
abbrev pub GrowsByProperPrefix : {X : Type 0} → Option (List X) → Option (List X) → List X → Type 0
GrowsByProperPrefix {X} old new added =
    (front : List X) × (rest : List X) × (0 < length rest) × (added ≡ front ++ rest) × Grows old new front

-- these items were taken from the front of a list, which is told afterwards exactly where it was
-- told before
abbrev pub Consumes : {X : Type 0} → Option (List X) → Option (List X) → List X → Type 0
Consumes old new taken = old ≡ option_map (λ rest. taken ++ rest) new
