-- A ring at first: its slots are free, in ascending order.
use Rattle.std.proofs.Common.{◌≡◌, ℕ, zero, suc, ◌+◌, ◌<◌, ◌≤◌, List, [], ◌∷◌, length, get_or, Option, None, is_some, replicate, refl, ap, ◌∙◌, inl, inr, add-one, arith}
use Rattle.std.proofs.lemmas.Bool.{cases_eq, eq-eqb, ne_eqb}
use Rattle.std.proofs.lemmas.List.{length-replicate}
use Rattle.xk_base.specs.Tables.RowMap.{row_map}
use Rattle.xk_base.proofs.RowMapLemmas.{row_map_replicate}
use Rattle.msg_queue.specs.Chains.{no_slot, times, IsChain}
use Rattle.msg_queue.specs.Rings.{AreChains, AreFilled}
use Rattle.msg_queue.specs.Seats.{empty_seat}
use Rattle.msg_queue.specs.declared.held.Held.{Held}
use Rattle.msg_queue.proofs.Rings.ChainLemmas.{Leads, leads_to}
use Rattle.msg_queue.proofs.Seats.SeatLemmas.{IsRingOf, ring_of_chains}

-- so many numbers in ascending order from the first on
upwards : ℕ → ℕ → List ℕ
upwards first zero = []
upwards first (suc n) = first ∷ upwards (suc first) n

length-upwards : (n first : ℕ) → length (upwards first n) ≡ n
unfolding upwards
length-upwards zero first = refl
length-upwards (suc n) first = ap suc (length-upwards n (suc first))

-- each word is the next slot
abbrev pub IsAscending : List ℕ → Type 0
IsAscending next = (k : ℕ) → k < 128 → get_or next k 0 ≡ k + 1

leads_upwards : (next : List ℕ) (n first : ℕ) → IsAscending next → first + n ≡ 128 → Leads next first (upwards first n)
unfolding upwards
leads_upwards next zero first h e = let here : first ≡ no_slot = omega arith in cc
leads_upwards next (suc n) first h e =
    leads_to next first first (suc first) (upwards (suc first) n) refl (h first (omega arith) ∙ add-one first) (leads_upwards next n (suc first) h (omega arith))

below_absent : (n first slot : ℕ) → slot < first → times slot (upwards first n) ≡ 0
unfolding upwards
below_absent zero first slot low = refl
below_absent (suc n) first slot low = grind (arith, below_absent n (suc first) slot (omega arith), ne_eqb first slot (λ e. omega arith))

above_absent : (n first slot : ℕ) → first + n ≤ slot → times slot (upwards first n) ≡ 0
unfolding upwards
above_absent zero first slot high = refl
above_absent (suc n) first slot high = grind (arith, above_absent n (suc first) slot (omega arith), ne_eqb first slot (λ e. omega arith))

within_once : (n first slot : ℕ) → first ≤ slot → slot < first + n → times slot (upwards first n) ≡ 1
unfolding upwards
within_once zero first slot low high = absurd (omega arith)
within_once (suc n) first slot low high = elim (cases_eq first slot) [
  | inl here ↦ grind (arith, below_absent n (suc first) slot (omega arith), eq-eqb first slot here)
  | inr apart ↦ grind (arith, within_once n (suc first) slot (omega arith) (omega arith), ne_eqb first slot apart)
]

-- no queued and no held slot
no_chain : (next : List ℕ) → IsChain next no_slot []
no_chain next = record { links = refl; within = λ slot g. refl }

start_chains : (next : List ℕ) → length next ≡ 128 → IsAscending next
    → AreChains (record { next = next; free = 0; queued = no_slot; last_queued = no_slot; held = no_slot; last_held = no_slot }) (upwards 0 128) [] []
start_chains next size ascending = record {
  words = size;
  free_chain = record { links = leads_upwards next 128 0 ascending (omega arith); within = λ slot g. above_absent 128 0 slot (omega arith) };
  queued_chain = no_chain next;
  held_chain = no_chain next;
  ends_queued = refl;
  ends_held = refl;
  each = λ slot low. omega (arith, within_once 128 0 slot (omega arith) (omega arith));
  all = omega (arith, length-upwards 128 0);
}

start_filled : (slots : List (Option Held)) → slots ≡ replicate 128 None → AreFilled slots (upwards 0 128) [] []
start_filled slots e = record {
  size = ap length e ∙ length-replicate {A = Option Held} 128 None;
  free_slots = λ slot among. ap (λ xs. is_some (row_map xs slot)) e ∙ ap (λ f. is_some (f slot)) (row_map_replicate 128);
  queued_slots = λ slot among. absurd (omega arith);
  held_slots = λ slot among. absurd (omega arith);
}

pub start_ring : (slots : List (Option Held)) (next : List ℕ) → slots ≡ replicate 128 None → length next ≡ 128 → IsAscending next
    → IsRingOf slots (record { next = next; free = 0; queued = no_slot; last_queued = no_slot; held = no_slot; last_held = no_slot }) empty_seat
start_ring slots next e size ascending = ring_of_chains slots _ (upwards 0 128) [] [] (start_chains next size ascending) (start_filled slots e)
