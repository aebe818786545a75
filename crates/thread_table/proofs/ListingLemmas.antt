-- The table as a list: the ids of threads in ascending order.
use Rattle.std.proofs.Common.{◌≡◌, ℕ, true, is_some, map, IsSome, subst, sym}
use Rattle.std.specs.List.{All, Contains}
use Rattle.std.specs.List.Sorted.{IsStrictlyIncreasing}
use Rattle.xk_base.specs.declared.ids.ThreadId.{ThreadId}
use Rattle.xk_base.specs.Tables.Circle.{is_thread_id, thread_ids, id_at, place_of}
use Rattle.xk_base.proofs.CountingLemmas.{listed_below-ascends}
use Rattle.xk_base.proofs.CircleLemmas.{places-listed_ids, listed_ids-passes, listed_ids-contains}
use Rattle.thread_table.specs.declared.table.Threads.{Threads}
use Rattle.thread_table.specs.ThreadMap.{ThreadMap, live_ids}
use Rattle.thread_table.specs.Shown.{process_count, threads_of}
use Rattle.thread_table.proofs.PlaceLemmas.{thread_map_valid}

-- their places in the order of all ids ascend, so that the list has each id once
pub live_ids-ascends : (n : ℕ) (m : ThreadMap) → IsStrictlyIncreasing (map place_of (live_ids n m))
live_ids-ascends n m =
    subst IsStrictlyIncreasing (sym (places-listed_ids n (λ d. is_some (m d)))) (listed_below-ascends (thread_ids n) (λ k. is_some (m (id_at k))))

-- it has ids of threads alone ..
pub live_ids-live : (n : ℕ) (m : ThreadMap) → All (λ d. (is_thread_id n d ≡ true) × IsSome (m d)) (live_ids n m)
live_ids-live n m = listed_ids-passes n (λ d. is_some (m d))

-- .. and that of each thread of the table
pub live_ids-contains : (t : Threads) (d : ThreadId) → IsSome (threads_of t d) → Contains (live_ids (process_count t) (threads_of t)) d
unfolding process_count threads_of
live_ids-contains t d h =
    listed_ids-contains t.procs (λ e. is_some (threads_of t e)) d (thread_map_valid t.procs t.by_place.items d h) h
