-- For each process a set of tids, as a word of bits: which of its threads may be Ready.
use Rattle.std.specs.Prelude.{◌≡◌, ℕ, ◌+◌, ◌-◌, ◌/◌, ◌%◌, ◌^◌, ◌==◌, Bool, true, false, ◌&&◌, not, List, length, Option, Some, None, is_none, slice_index_or, vec_len, if◌then◌else◌}
use Rattle.std.proofs.Common.{refl}
use Rattle.std.specs.Int.{bit_at, bit_not, w32}
use Rattle.std.specs.Int.Bits.{bit_and, bit_or}
use Rattle.std.specs.Vec.{with_item}
use Rattle.std.specs.declared.alloc.Global.{Global}
use Rattle.std.specs.declared.vec.Vec.{Vec}
use Rattle.xk_base.specs.declared.ids.ThreadId.{ThreadId}
use Rattle.xk_base.specs.declared.limits.TheConstants.{TID_LIMIT}
use Rattle.xk_base.specs.Tables.Circle.{same_thread}
use Rattle.xk_base.specs.Tables.Counting.{least_below}
use Rattle.xk_base.specs.Tables.RowMap.{row_map}
use Rattle.thread_table.specs.declared.thread.Thread.{Thread}
use Rattle.thread_table.specs.declared.tids.Tids.{Tids}
use Rattle.thread_table.specs.States.{is_ready_state}
use Rattle.thread_table.specs.ThreadMap.{ThreadMap, is_ready}

-- the set without a tid
abbrev pub no_tids : Tids
no_tids = record { 0 = 0 }

-- the set has the tid
abbrev pub has_tid : Tids → ℕ → Bool
has_tid tids tid = bit_at tids.0 tid == 1

-- the set with the tid besides ..
abbrev pub with_tid : Tids → ℕ → Tids
with_tid tids tid = record { 0 = bit_or tids.0 (2 ^ tid) }

-- .. without it ..
abbrev pub without_tid : Tids → ℕ → Tids
without_tid tids tid = record { 0 = bit_and tids.0 (bit_not w32 (2 ^ tid)) }

-- .. and with it exactly where that is so
abbrev pub with_if : Tids → ℕ → Bool → Tids
with_if tids tid has = if has then with_tid tids tid else without_tid tids tid

-- the thread at place k of the list of all is Ready, and the set of its process hasn't its tid
abbrev pub is_left_out : List Tids → List (Option Thread) → ℕ → Bool
is_left_out sets threads k =
    is_ready (row_map threads k) && not (has_tid (slice_index_or sets (k / TID_LIMIT) no_tids) (k % TID_LIMIT + 1))

-- no thread is left out
abbrev pub are_marked : List Tids → List (Option Thread) → Bool
are_marked sets threads = is_none (least_below (length threads) (is_left_out sets threads))

-- the sets in which that of the thread's process has its tid exactly where that is so
abbrev pub marked_sets : Vec Tids Global → ThreadId → Bool → Vec Tids Global
marked_sets sets id has =
    with_item sets (id.pid.0 - 2) (with_if (slice_index_or sets.items (id.pid.0 - 2) no_tids) id.tid.0 has)

-- .. where the thread is Ready; where there is none they stay
abbrev pub sets_by_state : Vec Tids Global → ThreadId → Option Thread → Vec Tids Global
sets_by_state sets id None = sets
sets_by_state sets id (Some thread) = marked_sets sets id (is_ready_state thread.state)

-- .. for the thread that was lent last, where another is lent next
abbrev pub settled_sets : Vec Tids Global → ThreadMap → Option ThreadId → ThreadId → Vec Tids Global
settled_sets sets m None next = sets
settled_sets sets m (Some last) next = if not (same_thread last next) then sets_by_state sets last (m last) else sets

-- .. and with the tid of the one that is lent next
abbrev pub lent_sets : Vec Tids Global → ThreadMap → Option ThreadId → ThreadId → Vec Tids Global
lent_sets sets m last next = marked_sets (settled_sets sets m last next) next true

-- they are as many as before
pub count_settled : (sets : Vec Tids Global) (m : ThreadMap) (last : Option ThreadId) (next : ThreadId)
    → vec_len (settled_sets sets m last next) ≡ vec_len sets
count_settled sets m None next = refl
count_settled sets m (Some last) next = go (not (same_thread last next)) (m last)
  where
    go : (b : Bool) (there : Option Thread) → vec_len (if b then sets_by_state sets last there else sets) ≡ vec_len sets
    go false there = refl
    go true None = refl
    go true (Some thread) = refl
