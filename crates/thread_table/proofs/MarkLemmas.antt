-- The sets of tids keep up with the threads.
use Rattle.std.proofs.Common.{◌≡◌, ℕ, ◌+◌, ◌-◌, ◌*◌, ◌/◌, ◌%◌, ◌<◌, ◌≤◌, Bool, true, false, List, length, set, replicate, vec_len, Option, Some, None, IsSome, is_none, is_some, refl, ap, sym, ◌∙◌, inl, inr, arith}
use Rattle.std.specs.Prelude.{not, slice_index_or, if◌then◌else◌}
use Rattle.std.specs.Vec.{with_item}
use Rattle.std.specs.declared.alloc.Global.{Global}
use Rattle.std.specs.declared.vec.Vec.{Vec}
use Rattle.std.proofs.lemmas.Bool.{and_cases, and_left, and_right, both_ways, cases_Bool, cases_eq, cases_lt}
use Rattle.std.proofs.lemmas.List.{get_or-set_same, get_or-set_other, get_or_default, get_or_past}
use Rattle.xk_base.specs.declared.ids.ThreadId.{ThreadId}
use Rattle.xk_base.specs.declared.limits.TheConstants.{TID_LIMIT}
use Rattle.xk_base.specs.Tables.Circle.{IsPid, IsTid, is_thread_id, place_of, same_thread, thread_ids}
use Rattle.xk_base.specs.Tables.Counting.{least_below}
use Rattle.xk_base.specs.Tables.RowMap.{row_map}
use Rattle.xk_base.proofs.CountingLemmas.{least_below-None, least_below-none}
use Rattle.xk_base.proofs.RowMapLemmas.{row_map_replicate}
use Rattle.thread_table.specs.declared.thread.Thread.{Thread}
use Rattle.thread_table.specs.declared.tids.Tids.{Tids}
use Rattle.thread_table.specs.States.{is_ready_state}
use Rattle.thread_table.specs.ThreadMap.{id_in_row, is_ready, is_ready_in, thread_map}
use Rattle.thread_table.specs.TidSets.{are_marked, count_settled, has_tid, is_left_out, lent_sets, marked_sets, no_tids, sets_by_state, settled_sets, with_if}
use Rattle.thread_table.proofs.PlaceLemmas.{id_bounds, thread_map_outside, thread_map_read, thread_map_valid}
use Rattle.thread_table.proofs.TidLemmas.{has-other, has-same}

-- of each Ready thread the set of its process has the tid ..
abbrev pub AreMarked : List Tids → List (Option Thread) → Type 0
AreMarked sets xs = (k : ℕ) → is_ready (row_map xs k) ≡ true → has_tid (slice_index_or sets (k / TID_LIMIT) no_tids) (k % TID_LIMIT + 1) ≡ true

is_nothing : (o : Option ℕ) → is_none o ≡ true → o ≡ None
is_nothing None e = refl
is_nothing (Some k) e = absurd (both_ways false refl e)

not_not : (b : Bool) → not b ≡ false → b ≡ true
not_not true e = refl
not_not false e = absurd (both_ways true e refl)

-- .. exactly where none is left out
pub marks_of : (sets : List Tids) (xs : List (Option Thread)) → are_marked sets xs ≡ true → AreMarked sets xs
marks_of sets xs marked k h = elim (cases_lt k (length xs)) [
  | inl inside ↦
      let none : least_below (length xs) (is_left_out sets xs) ≡ None = is_nothing (least_below (length xs) (is_left_out sets xs)) marked in
      let has : Bool = has_tid (slice_index_or sets (k / TID_LIMIT) no_tids) (k % TID_LIMIT + 1) in
      elim (and_cases (is_ready (row_map xs k)) (not has) (least_below-none (length xs) (is_left_out sets xs) none k inside)) [
        | inl idle ↦ absurd (both_ways (is_ready (row_map xs k)) idle h)
        | inr there ↦ not_not has there
      ]
  | inr past ↦ absurd (both_ways (is_ready (row_map xs k)) (ap is_ready (get_or_past xs k None past)) h)
]

pub marked_from : (sets : List Tids) (xs : List (Option Thread)) → AreMarked sets xs → are_marked sets xs ≡ true
marked_from sets xs marks = ap is_none (least_below-None (length xs) (is_left_out sets xs) (λ k l. go k (is_ready (row_map xs k)) refl))
  where
    go : (k : ℕ) (b : Bool) → is_ready (row_map xs k) ≡ b → is_left_out sets xs k ≡ false
    go k false e = and_left (is_ready (row_map xs k)) (not (has_tid (slice_index_or sets (k / TID_LIMIT) no_tids) (k % TID_LIMIT + 1))) e
    go k true e =
        and_right (is_ready (row_map xs k)) (not (has_tid (slice_index_or sets (k / TID_LIMIT) no_tids) (k % TID_LIMIT + 1))) (ap not (marks k e))

-- where there is no thread the sets need nothing
pub none_marked : (sets : List Tids) (xs : List (Option Thread)) (m : ℕ) → xs ≡ replicate m None → are_marked sets xs ≡ true
none_marked sets xs m empty =
    marked_from sets xs
    (λ k h. absurd (both_ways (is_ready (row_map xs k)) (ap (λ (ys : List (Option Thread)). is_ready (row_map ys k)) empty ∙ ap is_ready (none k)) h))
  where
    none : (k : ℕ) → row_map {V = Thread} (replicate m None) k ≡ None
    none k = ap (λ (f : ℕ → Option Thread). f k) (row_map_replicate {V = Thread} m)

-- what is in no set isn't Ready
pub unmarked : (n : ℕ) (sets : List Tids) (xs : List (Option Thread)) (row tid : ℕ) → are_marked sets xs ≡ true
    → has_tid (slice_index_or sets row no_tids) tid ≡ false → is_ready_in (thread_map n xs) row tid ≡ false
unmarked n sets xs row tid marked none = elim (cases_Bool (is_thread_id n (id_in_row row tid))) [
  | inl valid ↦ ap is_ready (thread_map_read n xs (id_in_row row tid) valid)
      ∙ go valid (is_ready (row_map xs (place_of (id_in_row row tid)))) refl
  | inr outside ↦ ap is_ready (thread_map_outside n xs (id_in_row row tid) outside)
]
  where
    go : is_thread_id n (id_in_row row tid) ≡ true → (b : Bool) → is_ready (row_map xs (place_of (id_in_row row tid))) ≡ b → b ≡ false
    go valid false e = refl
    go valid true e =
        let bounds : (IsPid n (row + 2)) × (IsTid tid) = id_bounds n (id_in_row row tid) valid in
        let row_is : place_of (id_in_row row tid) / TID_LIMIT ≡ row = omega (arith, bounds.1.0, bounds.1.1) in
        let tid_is : place_of (id_in_row row tid) % TID_LIMIT + 1 ≡ tid = omega (arith, bounds.1.0, bounds.1.1) in
        absurd (both_ways (has_tid (slice_index_or sets row no_tids) tid) none
        ((λ i. has_tid (slice_index_or sets (sym row_is i) no_tids) (sym tid_is i)) ∙ marks_of sets xs marked (place_of (id_in_row row tid)) e))

-- .. by the set as it was read
pub not_ready : (n : ℕ) (sets : List Tids) (xs : List (Option Thread)) (row : ℕ) (tids : Tids) → are_marked sets xs ≡ true → row < length sets
    → tids ≡ slice_index_or sets row tids → (tid : ℕ) → has_tid tids tid ≡ false → is_ready_in (thread_map n xs) row tid ≡ false
not_ready n sets xs row tids marked inside was tid none =
    unmarked n sets xs row tid marked (ap (λ s. has_tid s tid) (sym (was ∙ get_or_default sets row tids no_tids inside)) ∙ none)

-- what fails at the numbers from one on that are below another fails up to that one, where it fails there
pub one_more : (test : ℕ → Bool) (from at : ℕ) → ((k : ℕ) → from ≤ k → k < at → test k ≡ false) → test at ≡ false
    → (k : ℕ) → from ≤ k → k < at + 1 → test k ≡ false
one_more test from at before now k low high = elim (cases_lt k at) [
  | inl early ↦ before k low early
  | inr late ↦ let same : k ≡ at = omega (arith, late, high) in ap test same ∙ now
]

-- the set of one process has a tid exactly where that is so ..
module _ (sets : List Tids) (row tid : ℕ) (has : Bool) (within : row < length sets) (few : tid ≤ TID_LIMIT) where
  abbrev old : Tids
  old = slice_index_or sets row no_tids

  abbrev after : List Tids
  after = set sets row (with_if old tid has)

  here : has_tid (slice_index_or after row no_tids) tid ≡ has
  here = ap (λ s. has_tid s tid) (get_or-set_same sets row (with_if old tid has) no_tids within) ∙ has-same old tid has few

  -- .. and each other tid as before
  elsewhere : (q t : ℕ) → t ≤ TID_LIMIT → (q ≡ row → t ≡ tid → ⊥) → has_tid (slice_index_or after q no_tids) t ≡ has_tid (slice_index_or sets q no_tids) t
  elsewhere q t low apart = elim (cases_eq q row) [
    | inl same ↦ ap (λ k. has_tid (slice_index_or after k no_tids) t) same
        ∙ ap (λ s. has_tid s t) (get_or-set_same sets row (with_if old tid has) no_tids within)
        ∙ has-other old tid t has few low (apart same)
        ∙ ap (λ k. has_tid (slice_index_or sets k no_tids) t) (sym same)
    | inr other ↦ ap (λ s. has_tid s t) (get_or-set_other sets row q (with_if old tid has) no_tids other)
  ]

module _ (sets : List Tids) (xs : List (Option Thread)) (row tid place : ℕ) (within : row < length sets) (is : IsTid tid)
    (at : place ≡ row * TID_LIMIT + (tid - 1)) (marked : AreMarked sets xs) where
  -- the thread at the place is another, and of the others no more are Ready
  marked_at : (ys : List (Option Thread)) (has : Bool)
      → ((k : ℕ) → (k ≡ place → ⊥) → is_ready (row_map ys k) ≡ true → is_ready (row_map xs k) ≡ true)
      → (is_ready (row_map ys place) ≡ true → has ≡ true) → AreMarked (set sets row (with_if (slice_index_or sets row no_tids) tid has)) ys
  marked_at ys has others own k h = elim (cases_eq k place) [
    | inl same ↦
        let row_is : k / TID_LIMIT ≡ row = omega (arith, same, at, is.0, is.1) in
        let tid_is : k % TID_LIMIT + 1 ≡ tid = omega (arith, same, at, is.0, is.1) in
        (λ i. has_tid (slice_index_or (after sets row tid has within is.1) (row_is i) no_tids) (tid_is i))
        ∙ here sets row tid has within is.1 ∙ own (ap (λ q. is_ready (row_map ys q)) (sym same) ∙ h)
    | inr apart ↦
        elsewhere sets row tid has within is.1 (k / TID_LIMIT) (k % TID_LIMIT + 1) (omega arith) (λ r t. apart (omega (arith, r, t, at, is.0, is.1)))
        ∙ marked k (others k apart h)
  ]

  -- it is written there ..
  marked_write : (v : Option Thread) (has : Bool) → (is_ready v ≡ true → has ≡ true) → place < length xs
      → AreMarked (set sets row (with_if (slice_index_or sets row no_tids) tid has)) (set xs place v)
  marked_write v has says room =
      marked_at (set xs place v) has (λ k apart h. ap is_ready (sym (get_or-set_other xs place k v None apart)) ∙ h)
      (λ h. says (ap is_ready (sym (get_or-set_same xs place v None room)) ∙ h))

  -- .. or stays
  marked_stay : (has : Bool) → (is_ready (row_map xs place) ≡ true → has ≡ true)
      → AreMarked (set sets row (with_if (slice_index_or sets row no_tids) tid has)) xs
  marked_stay has says = marked_at xs has (λ k apart h. h) says

module _ (n : ℕ) (sets : List Tids) (xs : List (Option Thread)) (id : ThreadId) (pid : IsPid n id.pid.0) (tid : IsTid id.tid.0) (size : length sets ≡ n)
    (marked : are_marked sets xs ≡ true) (row : ℕ) (row_is : row ≡ id.pid.0 - 2) (old tids : Tids) (was : old ≡ slice_index_or sets row old) (has : Bool)
    (is : tids ≡ with_if old id.tid.0 has) where
  within : row < length sets
  within = omega (arith, row_is, pid.0, pid.1, size)

  same : set sets row tids ≡ set sets row (with_if (slice_index_or sets row no_tids) id.tid.0 has)
  same = ap (set sets row) (is ∙ ap (λ s. with_if s id.tid.0 has) (was ∙ get_or_default sets row old no_tids within))

  -- a thread is written at the place of its id
  pub written_marked : (place : ℕ) (v : Option Thread) → place ≡ place_of id → length xs ≡ thread_ids n → (is_ready v ≡ true → has ≡ true)
      → are_marked (set sets row tids) (set xs place v) ≡ true
  written_marked place v e room says =
      ap (λ s. are_marked s (set xs place v)) same
      ∙ marked_from (set sets row (with_if (slice_index_or sets row no_tids) id.tid.0 has)) (set xs place v)
      (marked_write sets xs row id.tid.0 place within tid (omega (arith, e, row_is)) (marks_of sets xs marked) v has says
      (omega (arith, e, pid.0, pid.1, tid.0, tid.1, room)))

  -- .. or only its set is another
  pub noted_marked : (is_ready (row_map xs (place_of id)) ≡ true → has ≡ true) → are_marked (set sets row tids) xs ≡ true
  noted_marked says =
      ap (λ s. are_marked s xs) same
      ∙ marked_from (set sets row (with_if (slice_index_or sets row no_tids) id.tid.0 has)) xs
      (marked_stay sets xs row id.tid.0 (place_of id) within tid (omega (arith, row_is)) (marks_of sets xs marked) has says)

-- .. as the sets of a table
pub noted_is : (sets : Vec Tids Global) (id : ThreadId) (row : ℕ) (old tids : Tids) (has : Bool) → row ≡ id.pid.0 - 2 → row < length sets.items
    → old ≡ slice_index_or sets.items row old → tids ≡ with_if old id.tid.0 has → with_item sets row tids ≡ marked_sets sets id has
noted_is sets id row old tids has row_is inside was is =
    ap (λ (s : Tids). with_item sets row s) (is ∙ ap (λ (s : Tids). with_if s id.tid.0 has) (was ∙ get_or_default sets.items row old no_tids inside))
    ∙ ap (λ (k : ℕ). with_item sets k (with_if (slice_index_or sets.items k no_tids) id.tid.0 has)) row_is

-- the thread that was lent last is settled ..
marks_settled : (n : ℕ) (sets : Vec Tids Global) (xs : List (Option Thread)) (last : Option ThreadId) (next : ThreadId) → vec_len sets ≡ n
    → AreMarked sets.items xs → AreMarked (settled_sets sets (thread_map n xs) last next).items xs
marks_settled n sets xs None next size marked = marked
marks_settled n sets xs (Some last) next size marked = go (not (same_thread last next)) (thread_map n xs last) refl
  where
    go : (b : Bool) (there : Option Thread) → thread_map n xs last ≡ there
        → AreMarked (if b then sets_by_state sets last there else sets).items xs
    go false there is = marked
    go true None is = marked
    go true (Some thread) is =
        let valid : is_thread_id n last ≡ true = thread_map_valid n xs last (ap is_some is) in
        let bounds : (IsPid n last.pid.0) × (IsTid last.tid.0) = id_bounds n last valid in
        let within : last.pid.0 - 2 < length sets.items = omega (arith, bounds.0.0, bounds.0.1, size, sets.ok.0) in
        marked_stay sets.items xs (last.pid.0 - 2) last.tid.0 (place_of last) within bounds.1 refl marked (is_ready_state thread.state)
        (λ h. sym (ap is_ready (sym (thread_map_read n xs last valid) ∙ is)) ∙ h)

-- .. and one is lent, which may be Ready then
pub marked_lent : (n : ℕ) (sets : Vec Tids Global) (xs : List (Option Thread)) (last : Option ThreadId) (id : ThreadId) (thread : Thread) → vec_len sets ≡ n
    → are_marked sets.items xs ≡ true → IsSome (thread_map n xs id)
    → are_marked (lent_sets sets (thread_map n xs) last id).items (set xs (place_of id) (Some thread)) ≡ true
marked_lent n sets xs last id thread size marked is =
    let settled : Vec Tids Global = settled_sets sets (thread_map n xs) last id in
    let bounds : (IsPid n id.pid.0) × (IsTid id.tid.0) = id_bounds n id (thread_map_valid n xs id is) in
    let count : vec_len settled ≡ n = count_settled sets (thread_map n xs) last id ∙ size in
    let within : id.pid.0 - 2 < length settled.items = omega (arith, bounds.0.0, bounds.0.1, count, settled.ok.0) in
    marked_from (lent_sets sets (thread_map n xs) last id).items (set xs (place_of id) (Some thread))
    (marked_at settled.items xs (id.pid.0 - 2) id.tid.0 (place_of id) within bounds.1 refl
    (marks_settled n sets xs last id size (marks_of sets.items xs marked)) (set xs (place_of id) (Some thread)) true
    (λ k apart h. ap is_ready (sym (get_or-set_other xs (place_of id) k (Some thread) None apart)) ∙ h) (λ h. refl))
