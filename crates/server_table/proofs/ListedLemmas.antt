-- The servers of a list, and the seats where they sit.
use Rattle.std.proofs.Common.{◌≡◌, ℕ, ◌+◌, ◌-◌, ◌<◌, ◌≤◌, ◌==◌, Bool, true, false, List, [], ◌∷◌, ◌++◌, length, get_or, Option, Some, None, refl, ap, sym, ◌∙◌, inl, inr, eqb-true, eq-eqb, arith}
use Rattle.std.specs.Prelude.{All, AllPairs, nat_lt, slice_get}
use Rattle.std.specs.List.{position_or_len}
use Rattle.std.specs.List.Sorted.{IsStrictlyIncreasing}
use Rattle.std.specs.Option.{option_map, option_and_then}
use Rattle.std.proofs.lemmas.Bool.{cases_lt, cases_eq, both_ways, cond-true}
use Rattle.std.proofs.lemmas.Bool.Decides.{nat_tests}
use Rattle.std.proofs.lemmas.List.{get_or-map, get_or_past, get_or_append_left, get_or-append_right, length-map}
use Rattle.std.proofs.lemmas.List.Kept.{AllPairs-from_increasing}
use Rattle.std.proofs.lemmas.List.Quantifiers.{position-Some}
use Rattle.std.proofs.lemmas.List.Sums.{fails_before_first}
use Rattle.std.proofs.lemmas.Option.{none-some, same_Some, slice_get_within, slice_get-get_or, slice_get_past, get_or_from_slice_get}
use Rattle.xk_base.specs.declared.limits.TheConstants.{SERVER_LIMIT}
use Rattle.xk_base.specs.Tables.RowMap.{row_map}
use Rattle.xk_base.specs.Tables.Sids.{same_sid}
use Rattle.server_table.specs.declared.table.ServerSeat.{ServerSeat}
use Rattle.server_table.specs.Listed.{serials_of, HaveTwoSids, place_of_serial, server_at, by_list}
use Rattle.server_table.specs.Seats.{server_of, by_serial, AreApart}
use Rattle.server_table.specs.ServerState.{Server}
use Rattle.server_table.proofs.AnsweredLemmas.{same_sid-sym}
use Rattle.server_table.proofs.SerialLemmas.{by_serial_is, by_serial_found}

-- ---- the list

-- serials ascend along the list ..
pub rows_rise : (rows : List ServerSeat) (i j : ℕ) (a b : ServerSeat) → IsStrictlyIncreasing (serials_of rows) → slice_get rows i ≡ Some a
    → slice_get rows j ≡ Some b → i < j → a.serial.0 < b.serial.0
rows_rise rows i j a b up g h l =
    let inside : j < length rows = slice_get_within rows j b h in
    let rise : get_or (serials_of rows) i 0 < get_or (serials_of rows) j 0 =
    AllPairs-from_increasing (serials_of rows) up i j 0 l (rw (length-map rows (λ row. row.serial.0)) inside) in
    let first : get_or (serials_of rows) i 0 ≡ a.serial.0 =
    get_or-map (λ row. row.serial.0) rows i a 0 (omega arith) ∙ ap (λ row. row.serial.0) (get_or_from_slice_get rows i a a g) in
    let second : get_or (serials_of rows) j 0 ≡ b.serial.0 =
    get_or-map (λ row. row.serial.0) rows j b 0 inside ∙ ap (λ row. row.serial.0) (get_or_from_slice_get rows j b b h) in
    omega arith

-- .. so that one serial stands at one place
pub one_place : (rows : List ServerSeat) (i j : ℕ) (a b : ServerSeat) → IsStrictlyIncreasing (serials_of rows) → slice_get rows i ≡ Some a
    → slice_get rows j ≡ Some b → a.serial.0 ≡ b.serial.0 → i ≡ j
one_place rows i j a b up g h same = elim (cases_eq i j) [
  | inl one ↦ one
  | inr other ↦ elim (cases_lt i j) [
    | inl low ↦ let rise : a.serial.0 < b.serial.0 = rows_rise rows i j a b up g h low in absurd (omega arith)
    | inr high ↦ let rise : b.serial.0 < a.serial.0 = rows_rise rows j i b a up h g (omega arith) in absurd (omega arith)
  ]
]

row_given : (rows : List ServerSeat) (next i : ℕ) (e : ServerSeat) → All (λ serial. serial < next) (serials_of rows) → slice_get rows i ≡ Some e
    → e.serial.0 < next
row_given rows next i e given h =
    let inside : i < length rows = slice_get_within rows i e h in
    let low : get_or (serials_of rows) i 0 < next = given i 0 (rw (length-map rows (λ row. row.serial.0)) inside) in
    let here : get_or (serials_of rows) i 0 ≡ e.serial.0 =
    get_or-map (λ row. row.serial.0) rows i e 0 inside ∙ ap (λ row. row.serial.0) (get_or_from_slice_get rows i e e h) in
    omega arith

rows_named : (rows : List ServerSeat) (i j : ℕ) (a b : ServerSeat) → AllPairs HaveTwoSids rows → slice_get rows i ≡ Some a
    → slice_get rows j ≡ Some b → i < j → same_sid a.sid b.sid ≡ false
rows_named rows i j a b named g h l =
    sym (ap (λ x. same_sid x.sid b.sid) (get_or_from_slice_get rows i a a g))
    ∙ sym (ap (λ y. same_sid (get_or rows i a).sid y.sid) (get_or_from_slice_get rows j b a h))
    ∙ named i j a l (slice_get_within rows j b h)

one_sid : (rows : List ServerSeat) (i j : ℕ) (a b : ServerSeat) → AllPairs HaveTwoSids rows → slice_get rows i ≡ Some a
    → slice_get rows j ≡ Some b → same_sid a.sid b.sid ≡ true → i ≡ j
one_sid rows i j a b named g h same = elim (cases_eq i j) [
  | inl one ↦ one
  | inr other ↦ elim (cases_lt i j) [
    | inl low ↦ absurd (both_ways (same_sid a.sid b.sid) (rows_named rows i j a b named g h low) same)
    | inr high ↦ absurd (both_ways (same_sid b.sid a.sid) (rows_named rows j i b a named h g (omega arith)) (same_sid-sym a.sid b.sid same))
  ]
]

-- ---- what a serial finds in the list

place_found : (rows : List ServerSeat) (n i : ℕ) → place_of_serial rows n ≡ Some i → (e : ServerSeat) × (slice_get rows i ≡ Some e) × (e.serial.0 ≡ n)
place_found [] n i q = absurd (none-some i q)
place_found (row ∷ rest) n i q =
    let at = position-Some (λ other. other.serial.0 == n) (row ∷ rest) i row q in
    (get_or (row ∷ rest) i row, slice_get-get_or (row ∷ rest) i row at.0, eqb-true (get_or (row ∷ rest) i row).serial.0 n at.1)

place_missing : (rows : List ServerSeat) (n i : ℕ) (e : ServerSeat) → place_of_serial rows n ≡ None → slice_get rows i ≡ Some e → e.serial.0 ≡ n → ⊥
place_missing rows n i e q h same =
    let p : ServerSeat → Bool = λ row. row.serial.0 == n in
    let inside : i < length rows = slice_get_within rows i e h in
    elim (cases_lt (position_or_len p rows) (length rows)) [
      | inl found ↦ none-some (position_or_len p rows) (sym q
          ∙ cond-true (nat_lt (position_or_len p rows) (length rows)) (Some (position_or_len p rows)) None (grind (arith, nat_tests)))
      | inr past ↦ both_ways (p (get_or rows i e)) (fails_before_first p rows i e (omega arith))
          (ap p (get_or_from_slice_get rows i e e h) ∙ eq-eqb e.serial.0 n same)
    ]

-- a server of the list is found by its serial, at its place ..
pub by_list_is : (rows : List ServerSeat) (i : ℕ) (e : ServerSeat) → IsStrictlyIncreasing (serials_of rows) → slice_get rows i ≡ Some e
    → by_list rows e.serial.0 ≡ Some (server_of i e)
unfolding by_list
by_list_is rows i e up here = go (place_of_serial rows e.serial.0) refl
  where
    go : (o : Option ℕ) → place_of_serial rows e.serial.0 ≡ o → option_and_then (server_at rows) (place_of_serial rows e.serial.0) ≡ Some (server_of i e)
    go None q = absurd (place_missing rows e.serial.0 i e q here refl)
    go (Some j) q =
        let at : (b : ServerSeat) × (slice_get rows j ≡ Some b) × (b.serial.0 ≡ e.serial.0) = place_found rows e.serial.0 j q in
        let one : j ≡ i = one_place rows j i at.0 e up at.1 here at.2 in
        ap (option_and_then (server_at rows)) (q ∙ ap Some one) ∙ ap (option_map (server_of i)) here

-- .. and no other is found
pub by_list_found : (rows : List ServerSeat) (n : ℕ) (v : Server) → by_list rows n ≡ Some v
    → (i : ℕ) × (e : ServerSeat) × (slice_get rows i ≡ Some e) × (e.serial.0 ≡ n) × (server_of i e ≡ v)
unfolding by_list
by_list_found rows n v h = go (place_of_serial rows n) refl
  where
    go : (o : Option ℕ) → place_of_serial rows n ≡ o → (i : ℕ) × (e : ServerSeat) × (slice_get rows i ≡ Some e) × (e.serial.0 ≡ n) × (server_of i e ≡ v)
    go None q = absurd (none-some v (sym (ap (option_and_then (server_at rows)) q) ∙ h))
    go (Some i) q =
        let at : (e : ServerSeat) × (slice_get rows i ≡ Some e) × (e.serial.0 ≡ n) = place_found rows n i q in (
          i,
          at.0,
          at.1,
          at.2,
          same_Some (server_of i at.0) v
              (sym (ap (option_and_then (server_at rows)) q ∙ ap (option_map (server_of i)) at.1) ∙ h),
        )

pub by_list_missing : (rows : List ServerSeat) (n : ℕ) → ((i : ℕ) (e : ServerSeat) → slice_get rows i ≡ Some e → e.serial.0 ≡ n → ⊥)
    → by_list rows n ≡ None
by_list_missing rows n none = go (by_list rows n) refl
  where
    go : (o : Option Server) → by_list rows n ≡ o → by_list rows n ≡ None
    go None q = q
    go (Some v) q =
        let at : (i : ℕ) × (e : ServerSeat) × (slice_get rows i ≡ Some e) × (e.serial.0 ≡ n) × (server_of i e ≡ v) = by_list_found rows n v q in
        absurd (none at.0 at.1 at.2 at.3)

-- ---- the list at its seats

-- each server of the list sits at its place, and nobody else sits
abbrev pub AreSeated : List ServerSeat → List (Option ServerSeat) → Type 0
AreSeated rows xs = (i : ℕ) → row_map xs i ≡ slice_get rows i

pub seated_apart : (rows : List ServerSeat) (xs : List (Option ServerSeat)) (next : ℕ) → AreSeated rows xs → IsStrictlyIncreasing (serials_of rows)
    → All (λ serial. serial < next) (serials_of rows) → AllPairs HaveTwoSids rows → AreApart xs next
seated_apart rows xs next seated up given named = record {
  below = λ i e h. row_given rows next i e given (sym (seated i) ∙ h);
  serials = λ i j a b g h same. one_place rows i j a b up (sym (seated i) ∙ g) (sym (seated j) ∙ h) same;
  sids = λ i j a b g h same. one_sid rows i j a b named (sym (seated i) ∙ g) (sym (seated j) ∙ h) same;
}

pub seated_state : (rows : List ServerSeat) (xs : List (Option ServerSeat)) (next : ℕ) → AreSeated rows xs → IsStrictlyIncreasing (serials_of rows)
    → AreApart xs next → length xs ≡ SERVER_LIMIT → by_serial xs ≡ by_list rows
seated_state rows xs next seated up apart size = λ k n. at n (by_serial xs n) refl k
  where
    at : (n : ℕ) (o : Option Server) → by_serial xs n ≡ o → by_serial xs n ≡ by_list rows n
    at n None q = q ∙ sym (by_list_missing rows n (λ i e h same. none-some (server_of i e)
        (sym q ∙ ap (by_serial xs) (sym same) ∙ by_serial_is xs next i e apart size (seated i ∙ h))))
    at n (Some v) q =
        let here : (i : ℕ) × (e : ServerSeat) × (row_map xs i ≡ Some e) × (e.serial.0 ≡ n) × (server_of i e ≡ v) = by_serial_found xs n v q in
        q ∙ sym (ap Some here.4) ∙ sym (by_list_is rows here.0 here.1 up (sym (seated here.0) ∙ here.2)) ∙ ap (by_list rows) here.3

-- one seat more
pub seated_more : (rows : List ServerSeat) (xs : List (Option ServerSeat)) (k : ℕ) (v : Option ServerSeat) → length xs ≡ k
    → ((i : ℕ) → i < k → row_map xs i ≡ slice_get rows i) → v ≡ slice_get rows k → (i : ℕ) → i < k + 1 → row_map (xs ++ v ∷ []) i ≡ slice_get rows i
seated_more rows xs k v size before here i l = elim (cases_lt i k) [
  | inl low ↦ get_or_append_left xs (v ∷ []) None i (omega arith) ∙ before i low
  | inr high ↦
      let last : i ≡ k = omega arith in
      let zero' : i - k ≡ 0 = omega arith in
      get_or-append_right xs (v ∷ []) k i None size high ∙ ap (λ j. get_or (v ∷ []) j None) zero' ∙ here ∙ sym (ap (slice_get rows) last)
]

-- all of them
pub seated_all : (rows : List ServerSeat) (xs : List (Option ServerSeat)) → length xs ≡ SERVER_LIMIT → length rows ≤ SERVER_LIMIT
    → ((i : ℕ) → i < SERVER_LIMIT → row_map xs i ≡ slice_get rows i) → AreSeated rows xs
seated_all rows xs size few inside i = elim (cases_lt i SERVER_LIMIT) [
  | inl low ↦ inside i low
  | inr past ↦ get_or_past xs i None (omega arith) ∙ sym (slice_get_past rows i (omega arith))
]
