-- The list of threads in the order of their ids, read and written as a map from the id.
use Rattle.std.proofs.Common.{◌≡◌, ℕ, ◌<◌, true, false, List, length, set, Option, None, IsSome, is_some, ap, sym, ◌∙◌, inl, inr, arith}
use Rattle.std.proofs.lemmas.Bool.{cases_Bool, both_ways, true_from_ne_false, cond-true, cond-false}
use Rattle.std.proofs.lemmas.Bool.Decides.{nat_tests}
use Rattle.std.proofs.lemmas.List.{get_or-set_same, get_or-set_other}
use Rattle.xk_base.specs.declared.ids.ThreadId.{ThreadId}
use Rattle.xk_base.specs.Tables.Circle.{IsPid, IsTid, is_thread_id, same_thread, thread_ids, id_at, place_of}
use Rattle.xk_base.specs.Tables.Counting.{put_at}
use Rattle.xk_base.specs.Tables.RowMap.{row_map}
use Rattle.xk_base.proofs.CircleLemmas.{same_ids, is_thread_id-id_at, place_of-id_at, place_of-bound, id_at-place_of}
use Rattle.thread_table.specs.declared.thread.Thread.{Thread}
use Rattle.thread_table.specs.ThreadMap.{thread_map}

-- what stands at the place of an id is its thread
pub thread_map_read : (n : ℕ) (xs : List (Option Thread)) (id : ThreadId) → is_thread_id n id ≡ true → thread_map n xs id ≡ row_map xs (place_of id)
thread_map_read n xs id h = cond-true (is_thread_id n id) (row_map xs (place_of id)) None h

-- .. and there is none for what is no id of these processes
pub thread_map_outside : (n : ℕ) (xs : List (Option Thread)) (id : ThreadId) → is_thread_id n id ≡ false → thread_map n xs id ≡ None
thread_map_outside n xs id h = cond-false (is_thread_id n id) (row_map xs (place_of id)) None h

-- the thread at a place
pub thread_map_at : (n : ℕ) (xs : List (Option Thread)) (k : ℕ) → k < thread_ids n → thread_map n xs (id_at k) ≡ row_map xs k
thread_map_at n xs k l = thread_map_read n xs (id_at k) (is_thread_id-id_at n k l) ∙ ap (row_map xs) (place_of-id_at k)

-- what has a thread is an id of these processes
pub thread_map_valid : (n : ℕ) (xs : List (Option Thread)) (id : ThreadId) → IsSome (thread_map n xs id) → is_thread_id n id ≡ true
thread_map_valid n xs id h =
    true_from_ne_false (is_thread_id n id) (λ f. both_ways (is_some (thread_map n xs id)) (ap is_some (thread_map_outside n xs id f)) h)

-- .. so its pid and its tid are
pub id_bounds : (n : ℕ) (id : ThreadId) → is_thread_id n id ≡ true → (IsPid n id.pid.0) × (IsTid id.tid.0)
id_bounds n id h = ((grind (arith, nat_tests), grind (arith, nat_tests)), (grind (arith, nat_tests), grind (arith, nat_tests)))

-- ids of these processes that differ have different places
places_differ : (n : ℕ) (a b : ThreadId) → is_thread_id n a ≡ true → is_thread_id n b ≡ true → (a ≡ b → ⊥) → place_of a ≡ place_of b → ⊥
places_differ n a b ha hb apart same = apart (sym (id_at-place_of n a ha) ∙ ap id_at same ∙ id_at-place_of n b hb)

-- what the test of ids says
pub same_thread-true : (a b : ThreadId) → same_thread a b ≡ true → a ≡ b
same_thread-true a b h = same_ids a b (grind (arith, nat_tests)) (grind (arith, nat_tests))

pub same_thread-self : (a : ThreadId) → same_thread a a ≡ true
same_thread-self a = grind (arith, nat_tests)

-- a write at the place of an id changes the map there alone
pub thread_map_set : (n : ℕ) (xs : List (Option Thread)) (id : ThreadId) (v : Option Thread) → length xs ≡ thread_ids n → is_thread_id n id ≡ true
    → thread_map n (set xs (place_of id) v) ≡ put_at same_thread (thread_map n xs) id v
thread_map_set n xs id v size h = λ i d. at d i
  where
    here : place_of id < length xs
    here = let l : place_of id < thread_ids n = place_of-bound n id h in omega arith

    there : (d : ThreadId) → (d ≡ id → ⊥) → thread_map n (set xs (place_of id) v) d ≡ thread_map n xs d
    there d apart = elim (cases_Bool (is_thread_id n d)) [
      | inl valid ↦ thread_map_read n (set xs (place_of id) v) d valid
          ∙ get_or-set_other xs (place_of id) (place_of d) v None (places_differ n d id valid h apart)
          ∙ sym (thread_map_read n xs d valid)
      | inr outside ↦ thread_map_outside n (set xs (place_of id) v) d outside ∙ sym (thread_map_outside n xs d outside)
    ]

    now : thread_map n (set xs (place_of id) v) id ≡ v
    now = thread_map_read n (set xs (place_of id) v) id h ∙ get_or-set_same xs (place_of id) v None here

    at : (d : ThreadId) → thread_map n (set xs (place_of id) v) d ≡ put_at same_thread (thread_map n xs) id v d
    at d = elim (cases_Bool (same_thread d id)) [
      | inl same ↦ ap (thread_map n (set xs (place_of id) v)) (same_thread-true d id same) ∙ now
          ∙ sym (cond-true (same_thread d id) v (thread_map n xs d) same)
      | inr other ↦ there d (λ e. both_ways (same_thread d id) other (ap (λ x. same_thread x id) e ∙ same_thread-self id))
          ∙ sym (cond-false (same_thread d id) v (thread_map n xs d) other)
    ]

pub ruleset laws = (thread_map_read, thread_map_outside, thread_map_at, thread_map_valid, thread_map_set)

-- a write at that place, however the place is spelled
pub thread_map_write : (n : ℕ) (xs : List (Option Thread)) (id : ThreadId) (p : ℕ) (v : Option Thread) → p ≡ place_of id → length xs ≡ thread_ids n
    → is_thread_id n id ≡ true → thread_map n (set xs p v) ≡ put_at same_thread (thread_map n xs) id v
thread_map_write n xs id p v e size h = ap (λ k. thread_map n (set xs k v)) e ∙ thread_map_set n xs id v size h
