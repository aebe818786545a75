-- The calls of a ring, by what its fields are before and after.
use Rattle.std.proofs.Common.{◌≡◌, ℕ, zero, suc, ◌<◌, ◌≤◌, false, List, [], ◌∷◌, ◌++◌, length, take, drop, set, Option, None, is_some, refl, ap, sym, subst, ◌∙◌, inl, inr, arith}
use Rattle.std.proofs.lemmas.Bool.{cases_lt}
use Rattle.std.proofs.lemmas.List.{take_all, drop_all, append-nil, take-append-drop, get_or_past, nil_from_length}
use Rattle.std.specs.List.{remove, slice_get}
use Rattle.xk_base.specs.Tables.RowMap.{row_map}
use Rattle.xk_base.specs.declared.ids.Number.{Number}
use Rattle.msg_queue.specs.Chains.{no_slot, chain, times, last_from, IsChain}
use Rattle.msg_queue.specs.Rings.{Links, IsRing}
use Rattle.msg_queue.specs.Seats.{Seat, used_of, message_place, without_queued_at, without_held_at}
use Rattle.msg_queue.specs.Shown.{messages, seat_shown}
use Rattle.msg_queue.specs.Spots.{spot_in}
use Rattle.msg_queue.specs.declared.held.Held.{Held}
use Rattle.msg_queue.specs.declared.walks.Spot.{Spot}
use Rattle.msg_queue.proofs.Rings.TimesLemmas.{times_head, times-append, last_is_among}
use Rattle.msg_queue.proofs.ChangeLemmas.{is_slot}
use Rattle.msg_queue.proofs.Rings.RingLemmas.{exchanged, vacated}
use Rattle.msg_queue.proofs.Seats.MessageLemmas.{AreUsed, length-contents, get-contents}
use Rattle.msg_queue.proofs.Seats.SeatLemmas.{IsRingOf, used_is, free_first, seat_vacated}
use Rattle.msg_queue.proofs.Seats.HeldLemmas.{held_vacated}
use Rattle.msg_queue.proofs.Rings.WalkLemmas.{first_at, slot_at, none_at, within_at, past_at}

-- the same words and slots
pub ring_same : (slots slots' : List (Option Held)) (l l' : Links) (seat : Seat) → slots' ≡ slots → l' ≡ l → IsRingOf slots l seat → IsRingOf slots' l' seat
ring_same slots slots' l l' seat es el r = subst (λ s. IsRingOf s l' seat) (sym es) (subst (λ k. IsRingOf slots k seat) (sym el) r)

-- the first free slot is empty
pub free_is_empty : (slots : List (Option Held)) (l : Links) → IsRing slots l → used_of (seat_shown slots l) < 128 → is_some (row_map slots l.free) ≡ false
free_is_empty slots l r room =
    let first = free_first slots l r room in
    r.filled.free_slots l.free (subst (λ xs. 0 < times l.free xs) (sym first.1) (omega (arith, times_head l.free first.0)))

-- where a part of a chain ends is a slot or none
last_is_few : (xs ys : List ℕ) → ((n : ℕ) → 128 ≤ n → times n (xs ++ ys) ≡ 0) → last_from no_slot xs ≤ 128
last_is_few [] ys within = omega arith
last_is_few (x ∷ xs) ys within =
    let low : last_from x xs < 128 = is_slot (last_from x xs) ((x ∷ xs) ++ ys) within (omega (arith, last_is_among x xs, times-append (last_from x xs) (x ∷ xs) ys)) in
    omega arith

pub chain_end_is_few : (xs : List ℕ) (last : ℕ) → last ≡ last_from no_slot xs → ((n : ℕ) → 128 ≤ n → times n xs ≡ 0) → last ≤ 128
chain_end_is_few xs last e within = omega (arith, last_is_few xs [] (λ n g. omega (arith, within n g, times-append n xs [])))

pub before_is_few : (xs : List ℕ) (i : ℕ) → ((n : ℕ) → 128 ≤ n → times n xs ≡ 0) → last_from no_slot (take i xs) ≤ 128
before_is_few xs i within = last_is_few (take i xs) (drop i xs) (λ n g. subst (λ ys. times n ys ≡ 0) (sym (take-append-drop i xs)) (within n g))

-- ---- what is taken out of a chain

-- what taking out the slot at place i of a chain needs and gives
pub record IsTaken (slots : List (Option Held)) (shown : List Held) (i : ℕ) (after : Links) (spot : Spot) (seat : Seat) : Type 0 where
  pub slot : spot.slot < 128
  pub before : spot.before ≤ 128
  pub ring : IsRingOf (set slots spot.slot None) after seat
  pub message : row_map slots spot.slot ≡ slice_get shown i

pub queued_taken : (slots : List (Option Held)) (l : Links) (i : ℕ) (spot : Spot) → IsRing slots l → spot ≡ spot_in (chain l.next l.queued) i → (spot.slot ≡ no_slot → ⊥)
    → IsTaken slots (seat_shown slots l).queued i (vacated l spot.before spot.slot) spot (without_queued_at i (seat_shown slots l))
queued_taken slots l i spot r e some =
    let q = chain l.next l.queued in
    let within : i < length q = within_at q i (λ none. some (ap (λ s. s.slot) e ∙ none)) in
    subst (λ s. IsTaken slots (seat_shown slots l).queued i (vacated l s.before s.slot) s (without_queued_at i (seat_shown slots l))) (sym e) (record {
      slot = slot_at q i r.chains.queued_chain.within within;
      before = before_is_few q i r.chains.queued_chain.within;
      ring = seat_vacated slots l i r within;
      message = sym (get-contents i no_slot slots q r.filled.queued_slots within);
    })

pub held_taken : (slots : List (Option Held)) (l : Links) (i : ℕ) (spot : Spot) → IsRing slots l → spot ≡ spot_in (chain l.next l.held) i → (spot.slot ≡ no_slot → ⊥)
    → IsTaken slots (seat_shown slots l).held i (exchanged (vacated (exchanged l) spot.before spot.slot)) spot (without_held_at i (seat_shown slots l))
held_taken slots l i spot r e some =
    let h = chain l.next l.held in
    let within : i < length h = within_at h i (λ none. some (ap (λ s. s.slot) e ∙ none)) in
    subst (λ s. IsTaken slots (seat_shown slots l).held i (exchanged (vacated (exchanged l) s.before s.slot)) s (without_held_at i (seat_shown slots l))) (sym e) (record {
      slot = slot_at h i r.chains.held_chain.within within;
      before = before_is_few h i r.chains.held_chain.within;
      ring = held_vacated slots l i r within;
      message = sym (get-contents i no_slot slots h r.filled.held_slots within);
    })

-- ---- nothing stands past the end

pub get_past : {A : Type 0} (xs : List A) (i : ℕ) → length xs ≤ i → slice_get xs i ≡ None
get_past [] i past = refl
get_past (x ∷ xs) zero past = absurd (omega arith)
get_past (x ∷ xs) (suc i) past = get_past xs i (omega arith)

pub remove_past : {A : Type 0} (xs : List A) (i : ℕ) → length xs ≤ i → remove xs i ≡ xs
remove_past xs i past =
    ap (λ ys. ys ++ drop (suc i) xs) (take_all i xs past) ∙ ap (λ ys. xs ++ ys) (drop_all (suc i) xs (omega arith)) ∙ append-nil xs

pub chain_past : (slots : List (Option Held)) (xs : List ℕ) (i : ℕ) → AreUsed slots xs → ((n : ℕ) → 128 ≤ n → times n xs ≡ 0) → (spot_in xs i).slot ≡ no_slot
    → length (messages slots xs) ≤ i
chain_past slots xs i used within none = omega (arith, past_at xs i within none, length-contents slots xs used)

-- the first of a chain is its place 0
pub first_spot : (next : List ℕ) (first : ℕ) → IsChain next first (chain next first) → record { before = no_slot; slot = first } ≡ spot_in (chain next first) 0
first_spot next first h = ap (λ s. record { before = no_slot; slot = s }) (first_at next first (chain next first) h.links)

-- ---- a walk over slices of the words and slots

-- the spot that a walk over these words and slots found
pub spot_of_same : (slots slots' : List (Option Held)) (next next' : List ℕ) (first : ℕ) (number : Number) (spot : Spot) → slots' ≡ slots → next' ≡ next
    → spot ≡ spot_in (chain next' first) (message_place number (messages slots' (chain next' first))) → spot ≡ spot_in (chain next first) (message_place number (messages slots (chain next first)))
spot_of_same slots slots' next next' first number spot es en h =
    h ∙ ap (λ ns. spot_in (chain ns first) (message_place number (messages slots' (chain ns first)))) en
    ∙ ap (λ ss. spot_in (chain next first) (message_place number (messages ss (chain next first)))) es

pub spot_at_same : (next next' : List ℕ) (first place : ℕ) (spot : Spot) → next' ≡ next → spot ≡ spot_in (chain next' first) place → spot ≡ spot_in (chain next first) place
spot_at_same next next' first place spot en h = h ∙ ap (λ ns. spot_in (chain ns first) place) en

-- ---- what is read at a place of a chain: the message there, and none past the end

pub read_at : (slots : List (Option Held)) (xs : List ℕ) (i : ℕ) (spot : Spot) → length slots ≡ 128 → AreUsed slots xs → spot ≡ spot_in xs i
    → row_map slots spot.slot ≡ slice_get (messages slots xs) i
read_at slots xs i spot size used e = elim (cases_lt i (length xs)) [
  | inl within ↦ ap (λ s. row_map slots s.slot) e ∙ sym (get-contents i no_slot slots xs used within)
  | inr past ↦
      ap (λ s. row_map slots s.slot) e ∙ ap (row_map slots) (none_at xs i past) ∙ get_or_past slots no_slot None (omega arith)
      ∙ sym (get_past (messages slots xs) i (omega (arith, length-contents slots xs used)))
]

-- ---- a ring without messages

-- its slots are all empty
pub all_empty : (slots : List (Option Held)) (l : Links) → IsRing slots l → used_of (seat_shown slots l) ≡ 0 → (k : ℕ) → is_some (row_map slots k) ≡ false
all_empty slots l r e k = elim (cases_lt k 128) [
  | inl low ↦
      let q : length (chain l.next l.queued) ≡ 0 = omega (arith, used_is slots l r) in
      let h : length (chain l.next l.held) ≡ 0 = omega (arith, used_is slots l r) in
      let none : times k (chain l.next l.queued) ≡ 0 = ap (times k) (nil_from_length (chain l.next l.queued) q) in
      let none' : times k (chain l.next l.held) ≡ 0 = ap (times k) (nil_from_length (chain l.next l.held) h) in
      r.filled.free_slots k (omega (arith, r.chains.each k low))
  | inr past ↦ ap is_some (get_or_past slots k None (omega (arith, r.filled.size)))
]
