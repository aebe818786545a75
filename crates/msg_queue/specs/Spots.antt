-- Places of a chain.
use Rattle.std.specs.Prelude.{◌≡◌, ℕ, ◌<◌, Bool, true, false, List, take, Option, Some, None, is_some, slice_index_or}
use Rattle.xk_base.specs.declared.ids.Number.{Number}
use Rattle.xk_base.specs.Tables.RowMap.{row_map}
use Rattle.msg_queue.specs.Chains.{no_slot, last_from, times}
use Rattle.msg_queue.specs.Seats.{is_of_number}
use Rattle.msg_queue.specs.declared.held.Held.{Held}
use Rattle.msg_queue.specs.declared.walks.Spot.{Spot}

-- the slot at that place of the chain, none past its end, and the slot before that place
abbrev pub spot_in : List ℕ → ℕ → Spot
spot_in slots place = record { before = last_from no_slot (take place slots); slot = slice_index_or slots place no_slot }

-- the slot has a message of that number
abbrev pub slot_has : Number → Option Held → Bool
slot_has number None = false
slot_has number (Some h) = is_of_number number h

-- each slot of the chain has a message
abbrev pub AreFilledBy : List (Option Held) → List ℕ → Type 0
AreFilledBy slots chosen = (slot : ℕ) → 0 < times slot chosen → is_some (row_map slots slot) ≡ true
