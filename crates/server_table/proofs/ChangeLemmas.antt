-- What a new server and the end of one change.
use Rattle.std.proofs.Common.{◌≡◌, ℕ, zero, suc, ◌+◌, ◌<◌, ◌≤◌, Bool, true, false, List, length, set, replicate, Option, Some, None, nat_eq, is_some, refl, ap, sym, subst, ◌∙◌, ◌⊎◌, inl, inr, arith}
use Rattle.std.proofs.lemmas.List.Folds.{position_or_len-set}
use Rattle.std.proofs.lemmas.List.Quantifiers.{position-Some}
use Rattle.std.specs.Option.{option_map, option_and_then}
use Rattle.std.proofs.lemmas.Bool.{cases_eq, both_ways, cond-true, cond-false, eq-eqb, ne_eqb}
use Rattle.std.proofs.lemmas.List.{length-set, get_or_past, get_or-set_same, get_or-set_other}
use Rattle.std.proofs.lemmas.Option.{none-some, same_Some}
use Rattle.xk_base.specs.declared.limits.TheConstants.{SERVER_LIMIT}
use Rattle.xk_base.specs.Tables.Counting.{count_below, put_at}
use Rattle.xk_base.specs.Tables.RowMap.{row_map}
use Rattle.xk_base.proofs.CountingLemmas.{count_below-one, count_below-none}
use Rattle.xk_base.proofs.RowMapLemmas.{row_map_replicate}
use Rattle.server_table.specs.declared.table.ServerSeat.{ServerSeat}
use Rattle.server_table.specs.Seats.{has_serial, server_of, seat_with, by_serial, AreApart, AreCounted}
use Rattle.xk_base.specs.Tables.Sids.{same_sid}
use Rattle.server_table.specs.ServerState.{Server}
use Rattle.server_table.proofs.SerialLemmas.{within, taken, by_serial_is, by_serial_found}

-- what a place of the list has after a write
row_here : (xs : List (Option ServerSeat)) (i : ℕ) (v : Option ServerSeat) → i < length xs → row_map (set xs i v) i ≡ v
row_here xs i v l = get_or-set_same xs i v None l

row_there : (xs : List (Option ServerSeat)) (i j : ℕ) (v : Option ServerSeat) → (j ≡ i → ⊥) → row_map (set xs i v) j ≡ row_map xs j
row_there xs i j v apart = get_or-set_other xs i j v None apart

-- a serial that neither the old nor the new value of a seat has finds what it found
other_serial : (xs : List (Option ServerSeat)) (i n : ℕ) (v : Option ServerSeat) → i < length xs → has_serial n (row_map xs i) ≡ false → has_serial n v ≡ false
    → by_serial (set xs i v) n ≡ by_serial xs n
unfolding by_serial
other_serial xs i n v l old new = find (seat_with xs n) refl
  where
    here : row_map (set xs i v) i ≡ v
    here = row_here xs i v l

    seats : seat_with (set xs i v) n ≡ seat_with xs n
    seats = simp (length-set, position_or_len-set (has_serial n) xs i v None (new ∙ sym old))

    find : (o : Option ℕ) → seat_with xs n ≡ o
        → option_and_then (λ k. option_map (server_of k) (row_map (set xs i v) k)) (seat_with (set xs i v) n) ≡ option_and_then (λ k. option_map (server_of k) (row_map xs k)) (seat_with xs n)
    find None q =
        ap (option_and_then (λ k. option_map (server_of k) (row_map (set xs i v) k))) (seats ∙ q)
        ∙ sym (ap (option_and_then (λ k. option_map (server_of k) (row_map xs k))) q)
    find (Some k) q =
        let t : has_serial n (row_map xs k) ≡ true = (position-Some (has_serial n) xs k None q).1 in
        ap (option_and_then (λ j. option_map (server_of j) (row_map (set xs i v) j))) (seats ∙ q)
        ∙ ap (option_map (server_of k)) (row_there xs i k v (λ e. both_ways (has_serial n (row_map xs i)) old (subst (λ j. has_serial n (row_map xs j) ≡ true) e t)))
        ∙ sym (ap (option_and_then (λ j. option_map (server_of j) (row_map xs j))) q)

-- ---- no server

empty_row : (k : ℕ) (e : ServerSeat) → row_map (replicate SERVER_LIMIT None) k ≡ Some e → ⊥
empty_row k e h = none-some e (sym (ap (λ f. f k) (row_map_replicate SERVER_LIMIT)) ∙ h)

pub apart_empty : (next : ℕ) → AreApart (replicate SERVER_LIMIT None) next
apart_empty next = record {
  below = λ i e h. absurd (empty_row i e h);
  serials = λ i j a b h k s. absurd (empty_row i a h);
  sids = λ i j a b h k s. absurd (empty_row i a h);
}

-- where every seat is empty, no serial finds a server
nobody : (xs : List (Option ServerSeat)) → ((i : ℕ) → row_map xs i ≡ None) → (n : ℕ) → by_serial xs n ≡ None
nobody xs none n = go (by_serial xs n) refl
  where
    go : (o : Option Server) → by_serial xs n ≡ o → by_serial xs n ≡ None
    go None q = q
    go (Some v) q =
        let at : (i : ℕ) × (e : ServerSeat) × (row_map xs i ≡ Some e) × (e.serial.0 ≡ n) × (server_of i e ≡ v) = by_serial_found xs n v q in
        absurd (none-some at.1 (sym (none at.0) ∙ at.2))

pub by_serial_empty : (n : ℕ) → by_serial (replicate SERVER_LIMIT None) n ≡ None
by_serial_empty n = nobody (replicate SERVER_LIMIT None) (λ i. ap (λ f. f i) (row_map_replicate SERVER_LIMIT)) n

-- ---- a new server

-- what stands at a seat after a write there is the new server or stood there before
seat_after : (xs : List (Option ServerSeat)) (i j : ℕ) (v : Option ServerSeat) (b : ServerSeat) → i < length xs → row_map (set xs i v) j ≡ Some b
    → ((j ≡ i) × (v ≡ Some b)) ⊎ ((j ≡ i → ⊥) × (row_map xs j ≡ Some b))
seat_after xs i j v b l h = elim (cases_eq j i) [
  | inl same ↦ inl (same, sym (ap (row_map (set xs i v)) same ∙ row_here xs i v l) ∙ h)
  | inr apart ↦ inr (apart, sym (row_there xs i j v apart) ∙ h)
]

pub apart_made : (xs : List (Option ServerSeat)) (next i : ℕ) (e : ServerSeat) → AreApart xs next → i < length xs → e.serial.0 ≡ next
    → ((j : ℕ) (b : ServerSeat) → row_map xs j ≡ Some b → same_sid b.sid e.sid ≡ false)
    → ((j : ℕ) (b : ServerSeat) → row_map xs j ≡ Some b → same_sid e.sid b.sid ≡ false)
    → AreApart (set xs i (Some e)) (next + 1)
apart_made xs next i e apart l serial new new' = record {
  below = λ j b h. elim (seat_after xs i j (Some e) b l h) [
    | inl here ↦ let s : e.serial.0 ≡ b.serial.0 = ap (λ s. s.serial.0) (same_Some e b here.1) in omega arith
    | inr there ↦ let s : b.serial.0 < next = apart.below j b there.1 in omega arith
  ];
  serials = λ j k a b g h s. elim (seat_after xs i j (Some e) a l g) [
    | inl here ↦ elim (seat_after xs i k (Some e) b l h) [
      | inl same ↦ here.0 ∙ sym same.0
      | inr there ↦
          let low : b.serial.0 < next = apart.below k b there.1 in
          let top : e.serial.0 ≡ a.serial.0 = ap (λ x. x.serial.0) (same_Some e a here.1) in
          absurd (omega arith)
    ]
    | inr there ↦ elim (seat_after xs i k (Some e) b l h) [
      | inl here ↦
          let low : a.serial.0 < next = apart.below j a there.1 in
          let top : e.serial.0 ≡ b.serial.0 = ap (λ x. x.serial.0) (same_Some e b here.1) in
          absurd (omega arith)
      | inr both ↦ apart.serials j k a b there.1 both.1 s
    ]
  ];
  sids = λ j k a b g h s. elim (seat_after xs i j (Some e) a l g) [
    | inl here ↦ elim (seat_after xs i k (Some e) b l h) [
      | inl same ↦ here.0 ∙ sym same.0
      | inr there ↦ absurd (both_ways (same_sid e.sid b.sid) (new' k b there.1) (ap (λ x. same_sid x.sid b.sid) (same_Some e a here.1) ∙ s))
    ]
    | inr there ↦ elim (seat_after xs i k (Some e) b l h) [
      | inl here ↦ absurd (both_ways (same_sid a.sid e.sid) (new j a there.1) (ap (λ x. same_sid a.sid x.sid) (same_Some e b here.1) ∙ s))
      | inr both ↦ apart.sids j k a b there.1 both.1 s
    ]
  ];
}

pub by_serial_made : (xs : List (Option ServerSeat)) (next i : ℕ) (e : ServerSeat) → AreApart (set xs i (Some e)) (next + 1) → length xs ≡ SERVER_LIMIT
    → i < length xs → row_map xs i ≡ None → e.serial.0 ≡ next
    → by_serial (set xs i (Some e)) ≡ put_at nat_eq (by_serial xs) next (Some (server_of i e))
by_serial_made xs next i e apart size l free serial = λ k n. at n k
  where
    at : (n : ℕ) → by_serial (set xs i (Some e)) n ≡ put_at nat_eq (by_serial xs) next (Some (server_of i e)) n
    at n = elim (cases_eq n next) [
      | inl same ↦ ap (by_serial (set xs i (Some e))) (same ∙ sym serial)
          ∙ by_serial_is (set xs i (Some e)) (next + 1) i e apart (length-set xs i (Some e) ∙ size) (row_here xs i (Some e) l)
          ∙ sym (cond-true (nat_eq n next) (Some (server_of i e)) (by_serial xs n) (eq-eqb n next same))
      | inr other ↦ other_serial xs i n (Some e) l (ap (has_serial n) free)
          (ne_eqb e.serial.0 n (λ s. other (sym s ∙ serial)))
          ∙ sym (cond-false (nat_eq n next) (Some (server_of i e)) (by_serial xs n) (ne_eqb n next other))
    ]

-- ---- the end of a server

pub apart_removed : (xs : List (Option ServerSeat)) (next i : ℕ) → AreApart xs next → i < length xs → AreApart (set xs i None) next
apart_removed xs next i apart l = record {
  below = λ j b h. apart.below j b (old j b h);
  serials = λ j k a b g h s. apart.serials j k a b (old j a g) (old k b h) s;
  sids = λ j k a b g h s. apart.sids j k a b (old j a g) (old k b h) s;
}
  where
    old : (j : ℕ) (b : ServerSeat) → row_map (set xs i None) j ≡ Some b → row_map xs j ≡ Some b
    old j b h = elim (seat_after xs i j None b l h) [ inl here ↦ absurd (none-some b here.1) | inr there ↦ there.1 ]

pub by_serial_removed : (xs : List (Option ServerSeat)) (next i : ℕ) (e : ServerSeat) → AreApart xs next → i < length xs → row_map xs i ≡ Some e
    → by_serial (set xs i None) ≡ put_at nat_eq (by_serial xs) e.serial.0 None
by_serial_removed xs next i e apart l here = λ k n. at n k
  where
    gone : (o : Option Server) → by_serial (set xs i None) e.serial.0 ≡ o → by_serial (set xs i None) e.serial.0 ≡ None
    gone None q = q
    gone (Some v) q =
        let at : (j : ℕ) × (b : ServerSeat) × (row_map (set xs i None) j ≡ Some b) × (b.serial.0 ≡ e.serial.0) × (server_of j b ≡ v) =
        by_serial_found (set xs i None) e.serial.0 v q in
        elim (seat_after xs i at.0 None at.1 l at.2) [
          | inl same ↦ absurd (none-some at.1 same.1)
          | inr there ↦ absurd (there.0 (apart.serials at.0 i at.1 e there.1 here at.3))
        ]

    at : (n : ℕ) → by_serial (set xs i None) n ≡ put_at nat_eq (by_serial xs) e.serial.0 None n
    at n = elim (cases_eq n e.serial.0) [
      | inl same ↦ ap (by_serial (set xs i None)) same ∙ gone (by_serial (set xs i None) e.serial.0) refl
          ∙ sym (cond-true (nat_eq n e.serial.0) None (by_serial xs n) (eq-eqb n e.serial.0 same))
      | inr other ↦ other_serial xs i n None l (ap (has_serial n) here ∙ ne_eqb e.serial.0 n (λ s. other (sym s))) refl
          ∙ sym (cond-false (nat_eq n e.serial.0) None (by_serial xs n) (ne_eqb n e.serial.0 other))
    ]

-- a serial that finds nothing is taken out already
pub nothing_removed : (xs : List (Option ServerSeat)) (n : ℕ) → by_serial xs n ≡ None → by_serial xs ≡ put_at nat_eq (by_serial xs) n None
nothing_removed xs n gone = λ i q. at q i
  where
    at : (q : ℕ) → by_serial xs q ≡ put_at nat_eq (by_serial xs) n None q
    at q = elim (cases_eq q n) [
      | inl same ↦ ap (by_serial xs) same ∙ gone ∙ sym (cond-true (nat_eq q n) None (by_serial xs q) (eq-eqb q n same))
      | inr other ↦ sym (cond-false (nat_eq q n) None (by_serial xs q) (ne_eqb q n other))
    ]

-- ---- how many there are

-- a seat that is emptied takes one server and one seat with it
counted_back : (xs : List (Option ServerSeat)) (next i : ℕ) (e : ServerSeat) → AreApart xs next → length xs ≡ SERVER_LIMIT
    → i < length xs → row_map xs i ≡ Some e → AreCounted (set xs i None) next → AreCounted xs next
counted_back xs next i e apart size l here counted =
    let f : ℕ → Bool = λ n. is_some (by_serial xs n) in
    let g : ℕ → Bool = λ n. is_some (by_serial (set xs i None) n) in
    let map : by_serial (set xs i None) ≡ put_at nat_eq (by_serial xs) e.serial.0 None = by_serial_removed xs next i e apart l here in
    let lost : g e.serial.0 ≡ false = ap (λ m. is_some (m e.serial.0)) map
    ∙ ap is_some (cond-true (nat_eq e.serial.0 e.serial.0) None (by_serial xs e.serial.0) (eq-eqb e.serial.0 e.serial.0 refl)) in
    let fewer : count_below next f ≡ count_below next g + 1 =
    count_below-one next e.serial.0 f g (apart.below i e here) (ap is_some (by_serial_is xs next i e apart size here)) lost
    (λ n b other. sym (ap (λ m. is_some (m n)) map ∙ ap is_some (cond-false (nat_eq n e.serial.0) None (by_serial xs n) (ne_eqb n e.serial.0 other)))) in
    let seats : count_below SERVER_LIMIT (λ j. is_some (row_map xs j)) ≡ count_below SERVER_LIMIT (λ j. is_some (row_map (set xs i None) j)) + 1 =
    count_below-one SERVER_LIMIT i (λ j. is_some (row_map xs j)) (λ j. is_some (row_map (set xs i None) j)) (omega arith)
    (ap is_some here) (ap is_some (row_here xs i None l)) (λ j b other. sym (ap is_some (row_there xs i j None other))) in
    let after : count_below next g ≡ count_below SERVER_LIMIT (λ j. is_some (row_map (set xs i None) j)) = counted in
    omega (arith, fewer, seats, after)

counted_up_to : (k : ℕ) (xs : List (Option ServerSeat)) (next : ℕ) → AreApart xs next → length xs ≡ SERVER_LIMIT
    → ((i : ℕ) → k ≤ i → row_map xs i ≡ None) → AreCounted xs next
counted_up_to zero xs next apart size none =
    count_below-none next (λ n. is_some (by_serial xs n)) (λ n l. ap is_some (nobody xs (λ i. none i (omega arith)) n))
    ∙ sym (count_below-none SERVER_LIMIT (λ i. is_some (row_map xs i)) (λ i l. ap is_some (none i (omega arith))))
counted_up_to (suc k) xs next apart size none = go (row_map xs k) refl (counted_up_to k xs next apart size)
    (λ inside. counted_up_to k (set xs k None) next (apart_removed xs next k apart inside) (length-set xs k None ∙ size))
  where
    go : (o : Option ServerSeat) → row_map xs k ≡ o → (((i : ℕ) → k ≤ i → row_map xs i ≡ None) → AreCounted xs next)
        → (k < length xs → ((i : ℕ) → k ≤ i → row_map (set xs k None) i ≡ None) → AreCounted (set xs k None) next) → AreCounted xs next
    go None q as_they_are without =
        as_they_are (λ i l. elim (cases_eq i k) [ inl same ↦ ap (row_map xs) same ∙ q | inr other ↦ none i (omega arith) ])
    go (Some e) q as_they_are without =
        let inside : k < length xs = within xs k e q in
        counted_back xs next k e apart size inside q (without inside (λ i l. elim (cases_eq i k) [
          | inl same ↦ ap (row_map (set xs k None)) same ∙ row_here xs k None inside
          | inr other ↦ row_there xs k i None other ∙ none i (omega arith)
        ]))

-- servers that are apart are counted, however they came to their seats
pub counted_apart : (xs : List (Option ServerSeat)) (next : ℕ) → AreApart xs next → length xs ≡ SERVER_LIMIT → AreCounted xs next
counted_apart xs next apart size = counted_up_to SERVER_LIMIT xs next apart size (λ i l. get_or_past xs i None (omega arith))
