-- A walk from spot to spot.
use Rattle.std.proofs.Common.{◌≡◌, ℕ, suc, ◌+◌, ◌<◌, ◌≤◌, List, length, take, get_or, Option, None, ap, sym, subst, ◌∙◌, add-one, arith}
use Rattle.std.proofs.lemmas.List.{take_all, get_or_default}
use Rattle.xk_base.specs.Tables.RowMap.{row_map}
use Rattle.msg_queue.specs.Chains.{no_slot, chain, last_from, times, IsChain}
use Rattle.msg_queue.specs.Spots.{spot_in}
use Rattle.msg_queue.specs.declared.walks.Spot.{Spot}
use Rattle.msg_queue.proofs.Rings.WalkLemmas.{first_at, next_at, last_at, slot_at, none_at, within_at, past_at}

-- the walk has come to that place of the chain
pub record IsAt (xs : List ℕ) (place : ℕ) (spot : Spot) : Type 0 where
  pub within : place ≤ length xs
  pub here : spot ≡ spot_in xs place

pub at_first : (next : List ℕ) (first : ℕ) → IsChain next first (chain next first) → IsAt (chain next first) 0 (record { before = no_slot; slot = first })
at_first next first h = record {
  within = omega arith;
  here = ap (λ s. record { before = no_slot; slot = s }) (first_at next first (chain next first) h.links);
}

-- a spot with a slot is at a place before the end
pub at_within : (xs : List ℕ) (place : ℕ) (spot : Spot) → IsAt xs place spot → (spot.slot ≡ no_slot → ⊥) → place < length xs
at_within xs place spot a some = within_at xs place (λ none. some (ap (λ s. s.slot) a.here ∙ none))

pub at_slot : (xs : List ℕ) (place : ℕ) (spot : Spot) → ((n : ℕ) → 128 ≤ n → times n xs ≡ 0) → IsAt xs place spot → (spot.slot ≡ no_slot → ⊥) → spot.slot < 128
at_slot xs place spot few a some =
    subst (λ s. s.slot < 128) (sym a.here) (slot_at xs place few (at_within xs place spot a some))

-- and a spot without one is at the end
pub at_end : (xs : List ℕ) (place : ℕ) (spot : Spot) → ((n : ℕ) → 128 ≤ n → times n xs ≡ 0) → IsAt xs place spot → spot.slot ≡ no_slot → place ≡ length xs
at_end xs place spot few a none =
    let past : length xs ≤ place = past_at xs place few (sym (ap (λ s. s.slot) a.here) ∙ none) in
    let within = a.within in
    omega arith

pub spot_past : (xs : List ℕ) (i j : ℕ) → length xs ≤ i → length xs ≤ j → spot_in xs i ≡ spot_in xs j
spot_past xs i j past past' =
    let ti : take i xs ≡ xs = take_all i xs past in
    let tj : take j xs ≡ xs = take_all j xs past' in
    let si : get_or xs i no_slot ≡ no_slot = none_at xs i past in
    let sj : get_or xs j no_slot ≡ no_slot = none_at xs j past' in
    cc

pub at_next : (next : List ℕ) (first place : ℕ) (spot : Spot) → IsChain next first (chain next first) → IsAt (chain next first) place spot → (spot.slot ≡ no_slot → ⊥)
    → IsAt (chain next first) (place + 1) (record { before = spot.slot; slot = get_or next spot.slot 0 })
at_next next first place spot h a some =
    let xs = chain next first in
    let low : place < length xs = at_within xs place spot a some in
    let here : spot.slot ≡ get_or xs place no_slot = ap (λ s. s.slot) a.here in
    let before : last_from no_slot (take (suc place) xs) ≡ get_or xs place no_slot = last_at no_slot xs place low in
    let after : get_or next (get_or xs place no_slot) 0 ≡ get_or xs (suc place) no_slot = next_at next first xs place h.links low in
    let e : place + 1 ≡ suc place = add-one place in
    record { within = omega arith; here = cc }

-- what is read of the spot's slot is what the slot at that place has
pub spot_read : {A : Type 0} (slots : List (Option A)) (xs : List ℕ) (place : ℕ) (spot : Spot) (v : Option A) → IsAt xs place spot → spot.slot < length slots → v ≡ get_or slots spot.slot v
    → v ≡ row_map slots (get_or xs place no_slot)
spot_read slots xs place spot v a within read = read ∙ get_or_default slots spot.slot v None within ∙ ap (λ s. row_map slots s.slot) a.here
