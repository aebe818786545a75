-- A thread that is lent is that of its place, and given back it stands there, while all others stay.
use Rattle.std.proofs.Common.{◌≡◌, ◌<◌, ◌≤◌, ℕ, length, vec_len, Option, Some, None, IsSome, Bool, true, false, set, refl, sym, ap, ◌∙◌, slice_index_or, arith}
use Rattle.std.proofs.Math.Bool.{Bool-set}
use Rattle.std.proofs.lemmas.List.{get_or_read}
use Rattle.std.proofs.lemmas.Bool.{both_ways}
use Rattle.std.specs.Vec.{with_item}
use Rattle.std.specs.declared.alloc.Global.{Global}
use Rattle.std.specs.declared.vec.Vec.{Vec}
use mathlib.Core.HLevel.{is_prop→PathP}
use native.Mathlib.Bridge.{le_prop}
use native.Mathlib.Nat.{ℕ_set}
use Rattle.xk_base.proofs.CircleLemmas.{place_of-bound}
use Rattle.xk_base.specs.Tables.Circle.{is_thread_id, place_of, same_thread, thread_ids}
use Rattle.xk_base.specs.Tables.Counting.{put_at}
use Rattle.xk_base.specs.Tables.RowMap.{row_map}
use Rattle.xk_base.specs.declared.ids.ThreadId.{ThreadId}
use Rattle.xk_base.specs.declared.limits.TheConstants.{PROCESS_LIMIT}
use Rattle.thread_table.specs.Lending.{places_after, sets_after, table_after, with_thread}
use Rattle.thread_table.specs.ThreadMap.{thread_map}
use Rattle.thread_table.specs.TidSets.{are_marked, lent_sets}
use Rattle.thread_table.specs.Shown.{process_count, threads_of}
use Rattle.thread_table.specs.declared.table.Threads.{Threads}
use Rattle.thread_table.specs.declared.thread.Thread.{Thread}
use Rattle.thread_table.specs.declared.tids.Tids.{Tids}
use Rattle.thread_table.proofs.MarkLemmas.{marked_lent}
use Rattle.thread_table.proofs.PlaceLemmas.{thread_map_read, thread_map_valid, thread_map_write}

-- tables with the same parts are one
same_tables : (a b : Threads) → a.procs ≡ b.procs → a.by_place ≡ b.by_place → a.ready ≡ b.ready → a.lent ≡ b.lent → a ≡ b
same_tables a b count places sets last = λ i. record {
  procs = count i;
  by_place = places i;
  ready = sets i;
  lent = last i;
  few = is_prop→PathP (λ j. count j ≤ PROCESS_LIMIT) (λ j. le_prop) a.few b.few i;
  whole = is_prop→PathP (λ j. vec_len (places j) ≡ thread_ids (count j)) (λ j. ℕ_set _ _) a.whole b.whole i;
  sets = is_prop→PathP (λ j. vec_len (sets j) ≡ count j) (λ j. ℕ_set _ _) a.sets b.sets i;
  marked = is_prop→PathP (λ j. are_marked (sets j).items (places j).items ≡ true) (λ j. Bool-set _ _) a.marked b.marked i;
}

module _ (t : Threads) (id : ThreadId) where
  -- what stands at the place of an id that has a thread
  pub lent_from : (place : ℕ) (there : Option Thread) → IsSome (threads_of t id) → place ≡ place_of id
      → there ≡ slice_index_or t.by_place.items place there → threads_of t id ≡ there
  unfolding threads_of
  lent_from place there has e read =
      let valid : is_thread_id t.procs id ≡ true = thread_map_valid t.procs t.by_place.items id has in
      let bound : place_of id < thread_ids t.procs = place_of-bound t.procs id valid in
      let within : place < length t.by_place.items = omega arith in
      thread_map_read t.procs t.by_place.items id valid ∙ ap (row_map t.by_place.items) (sym e) ∙ sym (get_or_read t.by_place.items place there within read None)

  module _ (thread : Thread) where
    -- no thread is left out of the sets with that of the id, whatever it becomes
    marked_after : IsSome (thread_map t.procs t.by_place.items id) → are_marked (sets_after t id).items (places_after t id thread).items ≡ true
    marked_after has = marked_lent t.procs t.ready t.by_place.items t.lent id thread t.sets t.marked has

    same_by : (a : Threads) (marked : Bool) (is : are_marked (sets_after t id).items (places_after t id thread).items ≡ marked) → marked ≡ true
        → a.procs ≡ t.procs → a.by_place ≡ places_after t id thread → a.ready ≡ sets_after t id → a.lent ≡ Some id → a ≡ table_after t id thread marked is
    same_by a true is so count places sets last = same_tables a (table_after t id thread true is) count places sets last
    same_by a false is so count places sets last = absurd (both_ways false refl so)

    written_by : (marked : Bool) (is : are_marked (sets_after t id).items (places_after t id thread).items ≡ marked) → marked ≡ true
        → is_thread_id t.procs id ≡ true → thread_map (table_after t id thread marked is).procs (table_after t id thread marked is).by_place.items
        ≡ put_at same_thread (thread_map t.procs t.by_place.items) id (Some thread)
    written_by true is so valid =
        let size : length t.by_place.items ≡ thread_ids t.procs = omega arith in
        thread_map_write t.procs t.by_place.items id (place_of id) (Some thread) refl size valid
    written_by false is so valid = absurd (both_ways false refl so)

    count_by : (marked : Bool) (is : are_marked (sets_after t id).items (places_after t id thread).items ≡ marked)
        → (table_after t id thread marked is).procs ≡ t.procs
    count_by true is = refl
    count_by false is = refl

    -- .. as they stand in the table that lends
    pub still_marked : (sets : Vec Tids Global) (places : Vec (Option Thread) Global) (place : ℕ) → IsSome (threads_of t id)
        → sets ≡ lent_sets t.ready (threads_of t) t.lent id → places ≡ t.by_place → place ≡ place_of id
        → are_marked sets.items (set places.items place (Some thread)) ≡ true
    unfolding threads_of
    still_marked sets places place has sets_are places_are place_is =
        (λ i. are_marked (sets_are i).items (set (places_are i).items (place_is i) (Some thread))) ∙ marked_after has

    -- the table that a thread is given back to, by its parts
    pub given_back_as : (a : Threads) → IsSome (threads_of t id) → a.procs ≡ t.procs → a.by_place ≡ with_item t.by_place (place_of id) (Some thread)
        → a.ready ≡ lent_sets t.ready (threads_of t) t.lent id → a.lent ≡ Some id → a ≡ with_thread t id thread
    unfolding threads_of with_thread
    given_back_as a has count places sets last =
        same_by a (are_marked (sets_after t id).items (places_after t id thread).items) refl (marked_after has) count places sets last

    pub given_back : IsSome (threads_of t id) → threads_of (with_thread t id thread) ≡ put_at same_thread (threads_of t) id (Some thread)
    unfolding threads_of with_thread
    given_back has =
        written_by (are_marked (sets_after t id).items (places_after t id thread).items) refl (marked_after has)
        (thread_map_valid t.procs t.by_place.items id has)

    pub count_stays : process_count (with_thread t id thread) ≡ process_count t
    unfolding process_count with_thread
    count_stays = count_by (are_marked (sets_after t id).items (places_after t id thread).items) refl
