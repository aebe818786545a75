-- The places of one process emptied.
use Rattle.std.proofs.Common.{◌≡◌, ℕ, ◌+◌, ◌-◌, ◌*◌, ◌/◌, ◌%◌, ◌<◌, ◌≤◌, true, false, List, [], ◌∷◌, ◌++◌, length, take, drop, replicate, set, Option, None, refl, sym, ap, ◌∙◌, inl, inr, arith}
use Rattle.std.specs.Prelude.{◌==◌, slice_index_or}
use Rattle.std.specs.List.{FoldsTo}
use Rattle.std.proofs.lemmas.Bool.{both_ways, cases_Bool, cases_lt, cond-true, cond-false}
use Rattle.std.proofs.lemmas.Bool.Decides.{nat_tests}
use Rattle.std.proofs.lemmas.List.{get_or_append_left, get_or-append_right, get_or-take, get_or-drop, get_or-replicate, get_or-set_other, length-replicate, length-take-le}
use Rattle.std.proofs.lemmas.List.{with_items_is}
use Rattle.std.proofs.lemmas.List.Edits.{paste_all, length-paste}
use Rattle.std.proofs.lemmas.Slice.{put_mid-paste}
use Rattle.std.specs.Vec.{with_items}
use borrow.Rule.Slice.PartMut.{put_mid}
use Rattle.xk_base.specs.declared.ids.Pid.{Pid}
use Rattle.xk_base.specs.declared.ids.ThreadId.{ThreadId}
use Rattle.xk_base.specs.declared.limits.TheConstants.{TID_LIMIT}
use Rattle.xk_base.specs.Tables.Circle.{IsPid, is_thread_id, thread_ids, place_of}
use Rattle.xk_base.specs.Tables.RowMap.{row_map}
use Rattle.thread_table.specs.declared.table.Threads.{Threads}
use Rattle.thread_table.specs.declared.thread.Thread.{Thread}
use Rattle.thread_table.specs.declared.tids.Tids.{Tids}
use Rattle.thread_table.specs.ThreadMap.{is_ready, thread_map, without_process}
use Rattle.thread_table.specs.TidSets.{are_marked, has_tid, no_tids}
use Rattle.thread_table.proofs.MarkLemmas.{AreMarked, marked_from, marks_of}
use Rattle.thread_table.proofs.PlaceLemmas.{thread_map_read, thread_map_outside}

-- what calls that answer one value leave in what they fill
pub filled : {F X : Type 0} (R : F → X → F → Type 0) (v : X) (f last : F) (xs : List X) → ((p : F) (x : X) (q : F) → R p x q → x ≡ v) → FoldsTo R f xs last
    → xs ≡ replicate (length xs) v
filled R v f last [] same ran = refl
filled R v f last (x ∷ xs) same ran =
    ap (λ y. y ∷ xs) (same f x ran.0 ran.1) ∙ ap (λ ys. v ∷ ys) (filled R v ran.0 last xs same ran.2)

abbrev empty : Option Thread
empty = None

-- the list with the places from `first` on, as many as a process has, empty
abbrev emptied : ℕ → List (Option Thread) → List (Option Thread)
emptied first xs = take first xs ++ (replicate 31 None ++ drop (first + 31) xs)

module _ (first : ℕ) (xs : List (Option Thread)) (within : first ≤ length xs) where
  before : (p : ℕ) → p < first → row_map (emptied first xs) p ≡ row_map xs p
  before p low =
      let size : length (take first xs) ≡ first = length-take-le first xs within in
      get_or_append_left (take first xs) (replicate 31 None ++ drop (first + 31) xs) None p (omega arith) ∙ get_or-take first xs p None low

  rest : (p : ℕ) → first ≤ p → row_map (emptied first xs) p ≡ row_map (replicate 31 None ++ drop (first + 31) xs) (p - first)
  rest p low = get_or-append_right (take first xs) (replicate 31 None ++ drop (first + 31) xs) first p None (length-take-le first xs within) low

  inside : (p : ℕ) → first ≤ p → p < first + 31 → row_map (emptied first xs) p ≡ None
  inside p low high =
      let none : List (Option Thread) = replicate 31 empty in
      let size : length none ≡ 31 = length-replicate 31 empty in
      rest p low
      ∙ get_or_append_left none (drop (first + 31) xs) None (p - first) (omega arith)
      ∙ get_or-replicate 31 (p - first) None None (omega arith)

  behind : (p : ℕ) → first + 31 ≤ p → row_map (emptied first xs) p ≡ row_map xs p
  behind p low =
      let none : List (Option Thread) = replicate 31 empty in
      let size : length none ≡ 31 = length-replicate 31 empty in
      rest p (omega arith)
      ∙ get_or-append_right none (drop (first + 31) xs) 31 (p - first) None size (omega arith)
      ∙ get_or-drop (first + 31) xs (p - first - 31) None
      ∙ ap (row_map xs) (omega arith)

  -- a process without a thread needs no tid in its set
  pub marked_emptied : (sets : List Tids) (row : ℕ) → AreMarked sets xs → first ≡ row * TID_LIMIT
      → AreMarked (set sets row no_tids) (emptied first xs)
  marked_emptied sets row marked at k h = elim (cases_lt k first) [
    | inl low ↦ other k (λ e. omega (arith, e, low, at)) (ap is_ready (sym (before k low)) ∙ h)
    | inr from ↦ elim (cases_lt k (first + 31)) [
      | inl low ↦ absurd (both_ways (is_ready (row_map (emptied first xs) k)) (ap is_ready (inside k from low)) h)
      | inr high ↦ other k (λ e. omega (arith, e, high, at)) (ap is_ready (sym (behind k high)) ∙ h)
    ]
  ]
    where
      other : (q : ℕ) → (q / TID_LIMIT ≡ row → ⊥) → is_ready (row_map xs q) ≡ true
          → has_tid (slice_index_or (set sets row no_tids) (q / TID_LIMIT) no_tids) (q % TID_LIMIT + 1) ≡ true
      other q apart ready =
          ap (λ s. has_tid s (q % TID_LIMIT + 1)) (get_or-set_other sets row (q / TID_LIMIT) no_tids no_tids apart) ∙ marked q ready

-- the table without the threads of the process whose places are emptied
thread_map_without : (n first : ℕ) (xs : List (Option Thread)) (pid : Pid) → length xs ≡ thread_ids n → IsPid n pid.0 → first ≡ (pid.0 - 2) * 31
    → thread_map n (emptied first xs) ≡ without_process pid (thread_map n xs)
thread_map_without n first xs pid size is at = λ i d. of d i
  where
    within : first ≤ length xs
    within = let low : 2 ≤ pid.0 = is.0 in let high : pid.0 < n + 2 = is.1 in omega arith

    own : (d : ThreadId) → is_thread_id n d ≡ true → d.pid.0 ≡ pid.0 → row_map (emptied first xs) (place_of d) ≡ None
    own d valid here = inside first xs within (place_of d) (grind (arith, nat_tests)) (grind (arith, nat_tests))

    other : (d : ThreadId) → is_thread_id n d ≡ true → (d.pid.0 ≡ pid.0 → ⊥) → row_map (emptied first xs) (place_of d) ≡ row_map xs (place_of d)
    other d valid apart = elim (cases_lt (place_of d) first) [
      | inl low ↦ before first xs within (place_of d) low
      | inr high ↦ behind first xs within (place_of d) (grind (arith, nat_tests))
    ]

    of : (d : ThreadId) → thread_map n (emptied first xs) d ≡ without_process pid (thread_map n xs) d
    of d = elim (cases_Bool (is_thread_id n d)) [
      | inl valid ↦ thread_map_read n (emptied first xs) d valid ∙ elim (cases_Bool (d.pid.0 == pid.0)) [
        | inl here ↦ own d valid (grind (arith, nat_tests)) ∙ sym (cond-true (d.pid.0 == pid.0) None (thread_map n xs d) here)
        | inr apart ↦ other d valid (λ e. grind (arith, nat_tests)) ∙ sym (thread_map_read n xs d valid)
            ∙ sym (cond-false (d.pid.0 == pid.0) None (thread_map n xs d) apart)
      ]
      | inr outside ↦ thread_map_outside n (emptied first xs) d outside ∙ sym (gone d outside)
    ]
      where
        gone : (e : ThreadId) → is_thread_id n e ≡ false → without_process pid (thread_map n xs) e ≡ None
        gone e out = elim (cases_Bool (e.pid.0 == pid.0)) [
          | inl here ↦ cond-true (e.pid.0 == pid.0) None (thread_map n xs e) here
          | inr apart ↦ cond-false (e.pid.0 == pid.0) None (thread_map n xs e) apart ∙ thread_map_outside n xs e out
        ]

-- .. as they are filled in the table
module _ (t : Threads) (pid : Pid) (lent left : List (Option Thread)) (same : lent ≡ t.by_place.items) (none : left ≡ replicate (length left) None)
    (count : length left ≡ 31) (is : IsPid t.procs pid.0) where
  abbrev start : ℕ
  start = (pid.0 - 2) * 31

  abbrev filled_places : List (Option Thread)
  filled_places = (with_items t.by_place (put_mid start (start + 31 - start) lent left)).items

  room : start + 31 ≤ length t.by_place.items
  room =
      let size : length t.by_place.items ≡ thread_ids t.procs = omega arith in
      let low : 2 ≤ pid.0 = is.0 in
      let high : pid.0 < t.procs + 2 = is.1 in
      omega arith

  emptied_places : filled_places ≡ emptied start t.by_place.items
  emptied_places =
      let places = t.by_place in
      let within : start + 31 ≤ length lent = let long : length lent ≡ length places.items = ap length same in omega (arith, room, long) in
      let pasted = put_mid-paste start (start + 31 - start) lent left left 31 refl (omega arith) (sym count) in
      let whole : length lent ≡ places.len = ap length same ∙ sym places.ok.0 in
      with_items_is places _ (ap length pasted ∙ length-paste lent start left 31 within (omega arith) ∙ whole)
      ∙ pasted ∙ paste_all lent start left 31 (sym count) ∙ ap (λ xs. take start xs ++ (left ++ drop (start + 31) xs)) same
      ∙ ap (λ ys. take start places.items ++ (ys ++ drop (start + 31) places.items)) (none ∙ ap (λ k. replicate k None) count)

  pub emptied_process : thread_map t.procs filled_places ≡ without_process pid (thread_map t.procs t.by_place.items)
  emptied_process =
      let size : length t.by_place.items ≡ thread_ids t.procs = omega arith in
      ap (thread_map t.procs) emptied_places ∙ thread_map_without t.procs start t.by_place.items pid size is refl

  -- and the set of the process, emptied too, has what it needs
  pub emptied_marked : (row : ℕ) (tids : Tids) → row ≡ pid.0 - 2 → tids ≡ no_tids → are_marked (set t.ready.items row tids) filled_places ≡ true
  emptied_marked row tids at tids_are =
      ap (λ (s : Tids). are_marked (set t.ready.items row s) filled_places) tids_are
      ∙ ap (are_marked (set t.ready.items row no_tids)) emptied_places
      ∙ marked_from (set t.ready.items row no_tids) (emptied start t.by_place.items)
      (marked_emptied start t.by_place.items (omega (arith, room)) t.ready.items row (marks_of t.ready.items t.by_place.items t.marked) (omega (arith, at)))
