-- A walk along a chain, place by place.
use Rattle.std.proofs.Common.{◌≡◌, ℕ, zero, suc, ◌<◌, ◌≤◌, List, [], ◌∷◌, length, take, get_or, ap, sym, ◌∙◌, inl, inr, add-one, arith}
use Rattle.std.proofs.lemmas.Bool.{cases_lt}
use Rattle.std.proofs.lemmas.List.{take_more, get_or_past}
use Rattle.msg_queue.specs.Chains.{no_slot, times, last_from}
use Rattle.msg_queue.proofs.Rings.TimesLemmas.{times_head, last_from-append}
use Rattle.msg_queue.proofs.Rings.ChainLemmas.{Leads, leads_first, leads_rest}

-- `first` is the slot at place 0
pub first_at : (next : List ℕ) (first : ℕ) (xs : List ℕ) → Leads next first xs → first ≡ get_or xs 0 no_slot
first_at next first [] h = cc
first_at next first (x ∷ xs) h = leads_first next first x xs h

-- the word of the slot at a place is the slot at the next
pub next_at : (next : List ℕ) (first : ℕ) (xs : List ℕ) (i : ℕ) → Leads next first xs → i < length xs
    → get_or next (get_or xs i no_slot) 0 ≡ get_or xs (suc i) no_slot
next_at next first [] i h within = absurd (omega arith)
next_at next first (x ∷ xs) zero h within = first_at next (get_or next x 0) xs (leads_rest next first x xs h)
next_at next first (x ∷ xs) (suc i) h within = next_at next (get_or next x 0) xs i (leads_rest next first x xs h) (omega arith)

-- the slot at a place is the last of those up to it
pub last_at : (before : ℕ) (xs : List ℕ) (i : ℕ) → i < length xs → last_from before (take (suc i) xs) ≡ get_or xs i no_slot
last_at before xs i within =
    ap (λ n. last_from before (take n xs)) (sym (add-one i)) ∙ ap (last_from before) (take_more xs i no_slot within)
    ∙ last_from-append before (take i xs) (get_or xs i no_slot ∷ [])

pub among_at : (xs : List ℕ) (i : ℕ) → i < length xs → 0 < times (get_or xs i no_slot) xs
among_at [] i within = absurd (omega arith)
among_at (x ∷ xs) zero within = omega (arith, times_head x xs)
among_at (x ∷ xs) (suc i) within = omega (arith, among_at xs i (omega arith))

-- a chain has a slot at a place exactly where it is longer
pub slot_at : (xs : List ℕ) (i : ℕ) → ((n : ℕ) → 128 ≤ n → times n xs ≡ 0) → i < length xs → get_or xs i no_slot < 128
slot_at xs i within low = elim (cases_lt (get_or xs i no_slot) 128) [ inl l ↦ l | inr g ↦ absurd (omega (arith, among_at xs i low, within (get_or xs i no_slot) g)) ]

pub none_at : (xs : List ℕ) (i : ℕ) → length xs ≤ i → get_or xs i no_slot ≡ no_slot
none_at xs i past = get_or_past xs i no_slot past

pub within_at : (xs : List ℕ) (i : ℕ) → (get_or xs i no_slot ≡ no_slot → ⊥) → i < length xs
within_at xs i some = elim (cases_lt i (length xs)) [ inl l ↦ l | inr g ↦ absurd (some (none_at xs i g)) ]

pub past_at : (xs : List ℕ) (i : ℕ) → ((n : ℕ) → 128 ≤ n → times n xs ≡ 0) → get_or xs i no_slot ≡ no_slot → length xs ≤ i
past_at xs i within none = elim (cases_lt i (length xs)) [ inl l ↦ absurd (omega (arith, slot_at xs i within l)) | inr g ↦ g ]
