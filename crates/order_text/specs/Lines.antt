-- The lines of what a search found.
use Rattle.std.specs.Prelude.{ℕ, zero, suc, ◌+◌, ◌==◌, Bool, true, false, List, [], ◌∷◌, ◌++◌, codes, decimal, if◌then◌else◌, Option, Some, None}
use Rattle.std.specs.Prelude.{filter, length, map, min, slice_get, sum}
use Rattle.std.specs.Option.{option_map_or}
use Rattle.order_model.specs.declared.failing.Failing.{Failing}
use Rattle.order_model.specs.declared.moves.Move.{Move}
use Rattle.order_model.specs.declared.moves.Move.TheVariants.{Once, Preempted, Slice}
use Rattle.order_model.specs.declared.moves.Note.{Note}
use Rattle.order_model.specs.Orders.{preemptions_in}
use Rattle.graph_search.specs.declared.found.Extent.{Extent}
use Rattle.graph_search.specs.declared.found.Extent.TheVariants.{Cut, Whole}
use Rattle.graph_search.specs.declared.found.Strategy.{Strategy}
use Rattle.graph_search.specs.declared.found.Strategy.TheVariants.{Breadth, Depth}
use Rattle.order_text.specs.Failings.{failing_text}
use Rattle.order_text.specs.Endings.{failing_of, is_several, looks_at}
use Rattle.order_text.specs.declared.endings.Ending.{Ending}
use Rattle.order_text.specs.declared.endings.Endings.{Endings}

-- a number with its noun
abbrev pub counted : ℕ → List ℕ → List ℕ
counted n noun = decimal n ++ (codes " " ++ (noun ++ (if n == 1 then [] else codes "s")))

abbrev pub extent_text : Extent → List ℕ
extent_text Whole = codes " whole"
extent_text (Cut why) = codes " cut"

-- the bound of steps, where there is one
abbrev pub bound_text : Option ℕ → List ℕ
bound_text None = []
bound_text (Some steps) = codes " within " ++ (decimal steps ++ codes " steps")

-- how many slices of an order are preempted at most, which searches depth first tell
abbrev pub level_text : Strategy → ℕ → List ℕ
level_text Breadth preemptions = []
level_text Depth preemptions = codes " preemptions " ++ decimal preemptions

-- within which limits orders were searched
abbrev pub limits_text : Option ℕ → Strategy → ℕ → List ℕ
limits_text bound strategy preemptions = bound_text bound ++ (level_text strategy preemptions ++ codes "\n")

-- how many slices were tried from the nodes that were followed; more than 64 bits hold aren't counted
abbrev pub slices_tried : List Note → ℕ
slices_tried notes = min (sum (map (λ note. note.slices) notes)) 18446744073709551615

-- how much was searched
abbrev pub extent_head : ℕ → ℕ → Extent → List ℕ
extent_head states slices extent = codes "states " ++ (decimal states ++ (codes " slices " ++ (decimal slices ++ extent_text extent)))

-- a preempted slice is one too
abbrev pub is_slice : Move → Bool
is_slice (Slice who steps) = true
is_slice (Preempted who steps) = true
is_slice (Once k) = false

-- how many slices an order has
abbrev pub slices_in : List Move → ℕ
slices_in order = length (filter is_slice order)

-- how many of them are preempted, if some are
abbrev pub preempted_text : ℕ → List ℕ
preempted_text n = if n == 0 then [] else codes ", " ++ counted n (codes "preemption")

-- how long an order is
abbrev pub size_text : List Move → List ℕ
size_text order = counted (slices_in order) (codes "slice") ++ preempted_text (preemptions_in order)

abbrev pub ending_head : ℕ → List ℕ → List ℕ
ending_head number seen = codes "ending " ++ (decimal number ++ (codes ": " ++ seen))

abbrev pub ending_counts : ℕ → List Move → List ℕ
ending_counts nodes order = counted nodes (codes "node") ++ (codes "; " ++ (size_text order ++ codes "\n"))

-- an ending that is told so, of so many nodes, with the order to the first of them
abbrev pub ending_line : ℕ → List ℕ → ℕ → List Move → List ℕ
ending_line number seen nodes order = ending_head number seen ++ ending_counts nodes order

-- ---- all endings

-- the line of the ending at a place: numbers begin with 1, and its nodes are those that are told to be like it
abbrev pub line_at : Endings → ℕ → List ℕ
line_at endings place =
    option_map_or (λ ending. ending_line (place + 1) ending.seen.items (looks_at endings.looks.items place) ending.order.items)
    (slice_get endings.list.items place) []

-- the lines of the first n endings
unfoldable pub lines_below : ℕ → Endings → List ℕ
lines_below zero endings = []
lines_below (suc n) endings = lines_below n endings ++ line_at endings n

-- the lines of all endings, and of how many there are
abbrev pub endings_text : Endings → List ℕ
endings_text endings =
    lines_below (length endings.list.items) endings ++ (counted (length endings.list.items) (codes "ending") ++ codes "\n")

-- ---- endings that fail

-- of what the ending of this number fails, and how many slices its order has
abbrev pub failure_line : Failing → ℕ → List Move → List ℕ
failure_line failing number order =
    codes "fails: "
    ++ (failing_text failing
    ++ (codes " in ending " ++ (decimal number ++ (codes ", " ++ (size_text order ++ codes "\n")))))

-- the line of the ending of this number, if it fails of one of these
abbrev pub failure_of : List Failing → ℕ → Ending → List ℕ
failure_of fails number ending = option_map_or (λ failing. failure_line failing number ending.order.items) (failing_of fails ending.fails) []

-- .. and of the one at a place
abbrev pub failure_at : List Failing → List Ending → ℕ → List ℕ
failure_at fails list place = option_map_or (failure_of fails (place + 1)) (slice_get list place) []

-- the lines of the first n endings that fail
unfoldable pub failures_below : ℕ → List Failing → List Ending → List ℕ
failures_below zero fails list = []
failures_below (suc n) fails list = failures_below n fails list ++ failure_at fails list n

-- .. and of all
abbrev pub failures_text : List Failing → List Ending → List ℕ
failures_text fails list = failures_below (length list) fails list

-- the line of endings that differ, where there was to be one at most
abbrev pub differ_text : Bool → ℕ → List ℕ
differ_text differ count =
    if is_several differ count then codes "fails: differ, " ++ (counted count (codes "ending") ++ codes "\n") else []

-- ---- endings as they are found

abbrev pub found_head : ℕ → List ℕ → List ℕ
found_head number seen = codes "found " ++ (decimal number ++ (codes ": " ++ seen))

-- of what it fails, if it does
abbrev pub fails_text : Option Failing → List ℕ
fails_text None = []
fails_text (Some failing) = codes "; fails: " ++ failing_text failing

-- the line of an ending of this number when it is found: what is seen of it, how long its order is, and of what it fails
abbrev pub found_line : List Failing → ℕ → Ending → List ℕ
found_line fails number ending =
    found_head number ending.seen.items
    ++ (size_text ending.order.items ++ (fails_text (failing_of fails ending.fails) ++ codes "\n"))

-- the lines of endings that are found behind so many others
unfoldable pub found_lines : List Failing → ℕ → List Ending → List ℕ
found_lines fails before [] = []
found_lines fails before (ending ∷ endings) = found_line fails (before + 1) ending ++ found_lines fails (before + 1) endings

-- the line that steps are counted from now on, and endings are found anew
abbrev pub counting_line : List ℕ
counting_line = codes "steps count\n"
