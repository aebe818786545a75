-- What it changes to put a slot into a chain, or to take one out. `before` is the slot before its place, or none at the front.
use Rattle.std.specs.Prelude.{ℕ, ◌==◌, if◌then◌else◌, List, slice_index, slice_set}
use Rattle.msg_queue.specs.Chains.{no_slot}

-- the words after the slot came behind `before` in the chain that begins at `first`, and where the chain begins and ends then
abbrev pub linked_words : List ℕ → ℕ → ℕ → ℕ → List ℕ
linked_words next first before slot =
    if before == no_slot then slice_set next slot first else slice_set (slice_set next slot (slice_index next before)) before slot

abbrev pub linked_first : ℕ → ℕ → ℕ → ℕ
linked_first first before slot = if before == no_slot then slot else first

abbrev pub linked_last : ℕ → ℕ → ℕ → ℕ
linked_last last before slot = if last == before then slot else last

-- the words after the slot behind `before` left, and where the chain begins and ends then
abbrev pub unlinked_words : List ℕ → ℕ → ℕ → List ℕ
unlinked_words next before slot = if before == no_slot then next else slice_set next before (slice_index next slot)

abbrev pub unlinked_first : List ℕ → ℕ → ℕ → ℕ → ℕ
unlinked_first next first before slot = if before == no_slot then slice_index next slot else first

abbrev pub unlinked_last : ℕ → ℕ → ℕ → ℕ
unlinked_last last before slot = if last == slot then before else last
