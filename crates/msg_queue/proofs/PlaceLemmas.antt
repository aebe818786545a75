-- The first message of a number in a chain.
use Rattle.std.proofs.Common.{◌≡◌, ℕ, zero, suc, ◌+◌, ◌<◌, ◌≤◌, Bool, true, false, not, List, [], ◌∷◌, ◌++◌, length, take, get_or, Option, Some, None, ap, sym, ◌∙◌, inl, inr, arith}
use Rattle.std.proofs.lemmas.Bool.{cases_lt, both_ways}
use Rattle.std.proofs.lemmas.List.{take_more, take_all}
use Rattle.std.proofs.lemmas.List.Sums.{fails_before_first, passes_at_first, prefix_len-le-length}
use Rattle.std.specs.List.{slice_get, position_or_len}
use Rattle.std.specs.Option.{option_map}
use Rattle.std.proofs.lemmas.List.Folds.{find_at}
use Rattle.xk_base.specs.Tables.RowMap.{row_map}
use Rattle.xk_base.specs.declared.ids.Number.{Number}
use Rattle.msg_queue.specs.Chains.{no_slot}
use Rattle.msg_queue.specs.Seats.{is_of_number, place_found, message_place}
use Rattle.msg_queue.specs.Shown.{messages}
use Rattle.msg_queue.specs.Spots.{slot_has}
use Rattle.msg_queue.specs.declared.held.Held.{Held}
use Rattle.msg_queue.proofs.CallLemmas.{get_past}
use Rattle.msg_queue.proofs.Seats.MessageLemmas.{AreUsed, the_content, length-contents, get-contents}
use Rattle.msg_queue.proofs.Rings.WalkLemmas.{among_at}

-- what stands at a place stands within the list
got : {A : Type 0} (xs : List A) (i : ℕ) (a : A) → slice_get xs i ≡ Some a → (i < length xs) × (get_or xs i a ≡ a)
got [] i a h = absurd cc
got (x ∷ xs) zero a h = (omega arith, cc)
got (x ∷ xs) (suc i) a h = let rest = got xs i a h in (omega (arith, rest.0), rest.1)

-- no element before place i passes: the one at i is the first if it does, and else none up to it is
found_place : {A : Type 0} (p : A → Bool) (xs : List A) (i : ℕ) (a : A) → slice_get xs i ≡ Some a → i ≤ position_or_len p xs → p a ≡ true → i ≡ position_or_len p xs
found_place p xs i a h low passes = elim (cases_lt i (position_or_len p xs)) [
  | inl before ↦ absurd (both_ways (p a) (sym (ap p (got xs i a h).1) ∙ fails_before_first p xs i a before) passes)
  | inr past ↦ omega arith
]

passed_place : {A : Type 0} (p : A → Bool) (xs : List A) (i : ℕ) (a : A) → slice_get xs i ≡ Some a → i ≤ position_or_len p xs → p a ≡ false → i + 1 ≤ position_or_len p xs
passed_place p xs i a h low fails = elim (cases_lt i (position_or_len p xs)) [
  | inl before ↦ omega arith
  | inr past ↦
      let here : position_or_len p xs ≡ i = omega arith in
      let at = got xs i a h in
      let passes : p (get_or xs (position_or_len p xs) a) ≡ true = passes_at_first p xs a (omega (arith, at.0)) in
      absurd (both_ways (p a) fails (sym (ap p (ap (λ k. get_or xs k a) here ∙ at.1)) ∙ passes))
]

place_is_few : {A : Type 0} (p : A → Bool) (xs : List A) → position_or_len p xs ≤ length xs
place_is_few p xs = prefix_len-le-length (λ x. not (p x)) xs

-- ---- by the slots of a chain

-- what the slot at a place has is the message at that place
message_at : (slots : List (Option Held)) (xs : List ℕ) (i : ℕ) → AreUsed slots xs → i < length xs
    → (h : Held) × (row_map slots (get_or xs i no_slot) ≡ Some h) × (slice_get (messages slots xs) i ≡ Some h)
message_at slots xs i used within =
    let here = the_content (row_map slots (get_or xs i no_slot)) (used (get_or xs i no_slot) (among_at xs i within)) in
    (here.0, here.1, get-contents i no_slot slots xs used within ∙ here.1)

pub found_slot : (slots : List (Option Held)) (xs : List ℕ) (i : ℕ) (number : Number) → AreUsed slots xs → i < length xs → i ≤ message_place number (messages slots xs)
    → slot_has number (row_map slots (get_or xs i no_slot)) ≡ true → i ≡ message_place number (messages slots xs)
found_slot slots xs i number used within low has =
    let here = message_at slots xs i used within in
    found_place (is_of_number number) (messages slots xs) i here.0 here.2 low (sym (ap (slot_has number) here.1) ∙ has)

pub passed_slot : (slots : List (Option Held)) (xs : List ℕ) (i : ℕ) (number : Number) → AreUsed slots xs → i < length xs → i ≤ message_place number (messages slots xs)
    → slot_has number (row_map slots (get_or xs i no_slot)) ≡ false → i + 1 ≤ message_place number (messages slots xs)
passed_slot slots xs i number used within low has =
    let here = message_at slots xs i used within in
    passed_place (is_of_number number) (messages slots xs) i here.0 here.2 low (sym (ap (slot_has number) here.1) ∙ has)

-- the message there is the first of the number
pub found_there : (slots : List (Option Held)) (xs : List ℕ) (i : ℕ) (number : Number) → AreUsed slots xs → i < length xs → i ≤ message_place number (messages slots xs)
    → slot_has number (row_map slots (get_or xs i no_slot)) ≡ true → place_found number (messages slots xs) ≡ Some i
found_there slots xs i number used within low has =
    let here = message_at slots xs i used within in
    let place : i ≡ message_place number (messages slots xs) = found_slot slots xs i number used within low has in
    ap (option_map (λ _. message_place number (messages slots xs)))
    (find_at (is_of_number number) (messages slots xs) ∙ ap (slice_get (messages slots xs)) (sym place) ∙ here.2)
    ∙ ap Some (sym place)

-- past the last slot no message has it
pub past_slots : (slots : List (Option Held)) (xs : List ℕ) (i : ℕ) (number : Number) → AreUsed slots xs → i ≡ length xs → i ≤ message_place number (messages slots xs)
    → i ≡ message_place number (messages slots xs)
past_slots slots xs i number used end low =
    omega (arith, place_is_few (is_of_number number) (messages slots xs), length-contents slots xs used)

pub none_there : (slots : List (Option Held)) (xs : List ℕ) (i : ℕ) (number : Number) → AreUsed slots xs → i ≡ length xs → i ≤ message_place number (messages slots xs)
    → place_found number (messages slots xs) ≡ None
none_there slots xs i number used end low =
    ap (option_map (λ _. message_place number (messages slots xs)))
    (find_at (is_of_number number) (messages slots xs)
    ∙ get_past (messages slots xs) (message_place number (messages slots xs)) (omega (arith, length-contents slots xs used)))

-- ---- one message more

-- the messages before the next place are those before this one, and what its slot has
pub next_message : (slots : List (Option Held)) (xs : List ℕ) (i : ℕ) → AreUsed slots xs → i < length xs
    → (h : Held) × (row_map slots (get_or xs i no_slot) ≡ Some h) × (take (i + 1) (messages slots xs) ≡ take i (messages slots xs) ++ h ∷ [])
next_message slots xs i used within =
    let here = message_at slots xs i used within in
    let at = got (messages slots xs) i here.0 here.2 in
    (here.0, here.1, take_more (messages slots xs) i here.0 at.0 ∙ ap (λ h. take i (messages slots xs) ++ h ∷ []) at.1)

-- and past the last place they are all
pub all_messages : (slots : List (Option Held)) (xs : List ℕ) (i : ℕ) → AreUsed slots xs → length xs ≤ i → take i (messages slots xs) ≡ messages slots xs
all_messages slots xs i used past = take_all i (messages slots xs) (omega (arith, length-contents slots xs used))
