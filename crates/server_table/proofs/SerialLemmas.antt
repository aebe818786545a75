-- What a serial finds among the seats, and the least serial that passes a test.
use Rattle.std.proofs.Common.{◌≡◌, ℕ, ◌<◌, ◌≤◌, Bool, true, false, List, length, get_or, Option, Some, None, refl, ap, sym, ◌∙◌, inl, inr, arith}
use Rattle.std.specs.Option.{option_map, option_and_then}
use Rattle.std.proofs.lemmas.Bool.{cases_lt, both_ways, false_from_ne_true, eq-eqb, eqb-true, cond-true, cond-false}
use Rattle.std.proofs.lemmas.List.{get_or_past, get_or_default}
use Rattle.std.specs.Prelude.{not, nat_lt}
use Rattle.std.specs.List.{position, position_or_len}
use Rattle.std.proofs.lemmas.Bool.Decides.{nat_tests}
use Rattle.std.proofs.lemmas.List.Quantifiers.{position-Some}
use Rattle.std.proofs.lemmas.List.Sums.{passes_at_first, prefix_len_passes}
use Rattle.std.proofs.lemmas.Option.{none-some, same_Some}
use Rattle.xk_base.specs.declared.limits.TheConstants.{SERVER_LIMIT}
use Rattle.xk_base.specs.Tables.Counting.{least_below}
use Rattle.xk_base.specs.Tables.RowMap.{row_map}
use Rattle.xk_base.proofs.CountingLemmas.{least_below-Some, least_below-None}
use Rattle.server_table.specs.declared.table.ServerSeat.{ServerSeat}
use Rattle.server_table.specs.Seats.{has_serial, server_of, seat_with, by_serial, AreApart}
use Rattle.server_table.specs.ServerState.{Server, least_serial}

-- what has a value is inside the list
pub within : (xs : List (Option ServerSeat)) (i : ℕ) (e : ServerSeat) → row_map xs i ≡ Some e → i < length xs
within xs i e h = elim (cases_lt i (length xs)) [
  | inl inside ↦ inside
  | inr past ↦ absurd (none-some e (sym (get_or_past xs i None past) ∙ h))
]

-- what is read at an index is what the map has
pub row_read : (xs : List (Option ServerSeat)) (k : ℕ) (v : Option ServerSeat) → k < length xs → v ≡ get_or xs k v → row_map xs k ≡ v
row_read xs k v l here = get_or_default xs k None v l ∙ sym here

-- the first seat that passes a test is the least one
pub position_is_least : (p : Option ServerSeat → Bool) (xs : List (Option ServerSeat)) (n : ℕ) → length xs ≡ n
    → position p xs ≡ least_below n (λ i. p (row_map xs i))
position_is_least p xs n size = elim (cases_lt (position_or_len p xs) (length xs)) [
  | inl inside ↦
      cond-true (nat_lt (position_or_len p xs) (length xs)) (Some (position_or_len p xs)) None (grind (arith, nat_tests))
      ∙ sym (least_below-Some n (λ i. p (row_map xs i)) (position_or_len p xs) (omega arith) (passes_at_first p xs None inside)
      (λ j l. not_passed (p (row_map xs j)) (prefix_len_passes (λ x. not (p x)) xs j None l)))
  | inr past ↦
      cond-false (nat_lt (position_or_len p xs) (length xs)) (Some (position_or_len p xs)) None (grind (arith, nat_tests))
      ∙ sym (least_below-None n (λ i. p (row_map xs i)) (λ j l. not_passed (p (row_map xs j)) (prefix_len_passes (λ x. not (p x)) xs j None (omega arith))))
]
  where
    not_passed : (b : Bool) → not b ≡ true → b ≡ false
    not_passed true h = cc
    not_passed false h = refl

-- a seat that has the serial is taken
pub taken : (n : ℕ) (o : Option ServerSeat) → has_serial n o ≡ true → (e : ServerSeat) × (o ≡ Some e) × (e.serial.0 ≡ n)
taken n None h = absurd (both_ways false refl h)
taken n (Some e) h = (e, refl, eqb-true e.serial.0 n h)

-- a serial finds its seat ..
pub seat_with_is : (xs : List (Option ServerSeat)) (next i : ℕ) (e : ServerSeat) → AreApart xs next → length xs ≡ SERVER_LIMIT
    → row_map xs i ≡ Some e → seat_with xs e.serial.0 ≡ Some i
seat_with_is xs next i e apart size here =
    let inside : i < length xs = within xs i e here in
    position_is_least (has_serial e.serial.0) xs SERVER_LIMIT size
    ∙ least_below-Some SERVER_LIMIT (λ j. has_serial e.serial.0 (row_map xs j)) i (omega arith)
    (ap (has_serial e.serial.0) here ∙ eq-eqb e.serial.0 e.serial.0 refl)
    (λ j l. false_from_ne_true (has_serial e.serial.0 (row_map xs j)) (λ t.
    let other : (b : ServerSeat) × (row_map xs j ≡ Some b) × (b.serial.0 ≡ e.serial.0) = taken e.serial.0 (row_map xs j) t in
    let same : j ≡ i = apart.serials j i other.0 e other.1 here other.2 in
    omega arith))

-- .. and with it its server
pub by_serial_is : (xs : List (Option ServerSeat)) (next i : ℕ) (e : ServerSeat) → AreApart xs next → length xs ≡ SERVER_LIMIT
    → row_map xs i ≡ Some e → by_serial xs e.serial.0 ≡ Some (server_of i e)
unfolding by_serial
by_serial_is xs next i e apart size here =
    ap (option_and_then (λ k. option_map (server_of k) (row_map xs k))) (seat_with_is xs next i e apart size here)
    ∙ ap (option_map (server_of i)) here

found_at : (xs : List (Option ServerSeat)) (n : ℕ) (v : Server) (o : Option ℕ) → seat_with xs n ≡ o
    → option_and_then (λ k. option_map (server_of k) (row_map xs k)) o ≡ Some v
    → (i : ℕ) × (e : ServerSeat) × (row_map xs i ≡ Some e) × (e.serial.0 ≡ n) × (server_of i e ≡ v)
found_at xs n v None s h = absurd (none-some v h)
found_at xs n v (Some i) s h =
    let t : has_serial n (row_map xs i) ≡ true = (position-Some (has_serial n) xs i None s).1 in
    let at : (e : ServerSeat) × (row_map xs i ≡ Some e) × (e.serial.0 ≡ n) = taken n (row_map xs i) t in
    (i, at.0, at.1, at.2, same_Some (server_of i at.0) v (sym (ap (option_map (server_of i)) at.1) ∙ h))

-- a server that is found stands at a seat
pub by_serial_found : (xs : List (Option ServerSeat)) (n : ℕ) (v : Server) → by_serial xs n ≡ Some v
    → (i : ℕ) × (e : ServerSeat) × (row_map xs i ≡ Some e) × (e.serial.0 ≡ n) × (server_of i e ≡ v)
unfolding by_serial
by_serial_found xs n v h = found_at xs n v (seat_with xs n) refl h

-- a test of the server with a serial is one of the server at its seat
pub tested : (xs : List (Option ServerSeat)) (n : ℕ) (test : Option Server → Bool) → test None ≡ false → test (by_serial xs n) ≡ true
    → (i : ℕ) × (e : ServerSeat) × (row_map xs i ≡ Some e) × (e.serial.0 ≡ n) × (test (Some (server_of i e)) ≡ true)
tested xs n test none h = go (by_serial xs n) refl
  where
    go : (o : Option Server) → by_serial xs n ≡ o → (i : ℕ) × (e : ServerSeat) × (row_map xs i ≡ Some e) × (e.serial.0 ≡ n) × (test (Some (server_of i e)) ≡ true)
    go None q = absurd (both_ways (test None) none (ap test (sym q) ∙ h))
    go (Some v) q =
        let at : (i : ℕ) × (e : ServerSeat) × (row_map xs i ≡ Some e) × (e.serial.0 ≡ n) × (server_of i e ≡ v) = by_serial_found xs n v q in
        (at.0, at.1, at.2, at.3, ap (λ w. test (Some w)) at.4 ∙ ap test (sym q) ∙ h)

-- the least serial that passes is that of a seat that passes where none that passes has a lower one
pub least_is : (xs : List (Option ServerSeat)) (next i : ℕ) (e : ServerSeat) (test : Option Server → Bool) → AreApart xs next → length xs ≡ SERVER_LIMIT
    → test None ≡ false → row_map xs i ≡ Some e → test (Some (server_of i e)) ≡ true
    → ((j : ℕ) (b : ServerSeat) → row_map xs j ≡ Some b → test (Some (server_of j b)) ≡ true → e.serial.0 ≤ b.serial.0)
    → least_serial test (record { next = next; live = by_serial xs }) ≡ Some e.serial.0
least_is xs next i e test apart size none here passes least =
    least_below-Some next (λ n. test (by_serial xs n)) e.serial.0 (apart.below i e here)
    (ap test (by_serial_is xs next i e apart size here) ∙ passes)
    (λ n l. false_from_ne_true (test (by_serial xs n)) (λ t.
    let at : (j : ℕ) × (b : ServerSeat) × (row_map xs j ≡ Some b) × (b.serial.0 ≡ n) × (test (Some (server_of j b)) ≡ true) = tested xs n test none t in
    let low : e.serial.0 ≤ at.1.serial.0 = least at.0 at.1 at.2 at.4 in
    let same : at.1.serial.0 ≡ n = at.3 in
    omega arith))

-- where no seat passes, no serial does
pub least_none : (xs : List (Option ServerSeat)) (next : ℕ) (test : Option Server → Bool) → test None ≡ false
    → ((j : ℕ) (b : ServerSeat) → row_map xs j ≡ Some b → test (Some (server_of j b)) ≡ false)
    → least_serial test (record { next = next; live = by_serial xs }) ≡ None
least_none xs next test none failing =
    least_below-None next (λ n. test (by_serial xs n)) (λ n l. false_from_ne_true (test (by_serial xs n)) (λ t.
    let at : (j : ℕ) × (b : ServerSeat) × (row_map xs j ≡ Some b) × (b.serial.0 ≡ n) × (test (Some (server_of j b)) ≡ true) = tested xs n test none t in
    both_ways (test (Some (server_of at.0 at.1))) (failing at.0 at.1 at.2) at.4))

-- ---- the server at the seat that a serial finds

pub by_serial_seat : (xs : List (Option ServerSeat)) (n i : ℕ) (e : ServerSeat) → seat_with xs n ≡ Some i → row_map xs i ≡ Some e → by_serial xs n ≡ Some (server_of i e)
unfolding by_serial
by_serial_seat xs n i e at here = ap (option_and_then (λ k. option_map (server_of k) (row_map xs k))) at ∙ ap (option_map (server_of i)) here

pub by_serial_blank : (xs : List (Option ServerSeat)) (n i : ℕ) → seat_with xs n ≡ Some i → row_map xs i ≡ None → by_serial xs n ≡ None
unfolding by_serial
by_serial_blank xs n i at here = ap (option_and_then (λ k. option_map (server_of k) (row_map xs k))) at ∙ ap (option_map (server_of i)) here

pub by_serial_none : (xs : List (Option ServerSeat)) (n : ℕ) → seat_with xs n ≡ None → by_serial xs n ≡ None
unfolding by_serial
by_serial_none xs n none = ap (option_and_then (λ k. option_map (server_of k) (row_map xs k))) none

-- what stands at that seat
pub seat_with_found : (xs : List (Option ServerSeat)) (n i : ℕ) → seat_with xs n ≡ Some i → (e : ServerSeat) × (row_map xs i ≡ Some e) × (e.serial.0 ≡ n)
seat_with_found xs n i at = taken n (row_map xs i) (position-Some (has_serial n) xs i None at).1
