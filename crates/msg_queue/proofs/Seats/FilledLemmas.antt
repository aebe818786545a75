-- Which slots have a message, after one came or left.
use Rattle.std.proofs.Common.{◌≡◌, ℕ, ◌<◌, List, ◌∷◌, ◌++◌, length, set, Option, Some, None, is_some, ap, sym, subst, ◌∙◌, inl, inr, arith}
use Rattle.std.proofs.lemmas.Bool.{cases_eq, ne_eqb}
use Rattle.std.proofs.lemmas.List.{length-set, get_or-set_same, get_or-set_other}
use Rattle.xk_base.specs.Tables.RowMap.{row_map}
use Rattle.msg_queue.specs.Chains.{times}
use Rattle.msg_queue.specs.Rings.{AreFilled}
use Rattle.msg_queue.specs.declared.held.Held.{Held}
use Rattle.msg_queue.proofs.Rings.TimesLemmas.{times-append}

-- what a slot has after a write to another, or to it
row_there : (slots : List (Option Held)) (slot n : ℕ) (v : Option Held) → (n ≡ slot → ⊥) → row_map (set slots slot v) n ≡ row_map slots n
row_there slots slot n v apart = get_or-set_other slots slot n v None apart

row_here : (slots : List (Option Held)) (slot n : ℕ) (v : Option Held) → slot < length slots → n ≡ slot → row_map (set slots slot v) n ≡ v
row_here slots slot n v within same = ap (row_map (set slots slot v)) same ∙ get_or-set_same slots slot v None within

-- a slot that is among these is not one that is not
among_apart : (slot n : ℕ) (xs : List ℕ) → times slot xs ≡ 0 → 0 < times n xs → n ≡ slot → ⊥
among_apart slot n xs absent among same = let h : 0 < times slot xs = subst (λ k. 0 < times k xs) same among in omega arith

pub filled_exchanged : (slots : List (Option Held)) (f q h : List ℕ) → AreFilled slots f q h → AreFilled slots f h q
filled_exchanged slots f q h r = record { size = r.size; free_slots = r.free_slots; queued_slots = r.held_slots; held_slots = r.queued_slots }

-- among slots that one was put in the middle of
among_middle : (slot n : ℕ) (ys zs : List ℕ) → (n ≡ slot → ⊥) → times n (ys ++ slot ∷ zs) ≡ times n (ys ++ zs)
among_middle slot n ys zs apart =
    grind (arith, times-append n ys zs, times-append n ys (slot ∷ zs), ne_eqb slot n (λ e. apart (sym e)))

pub filled_occupied : (slots : List (Option Held)) (f ys zs h : List ℕ) (slot : ℕ) (m : Held) → slot < 128
    → times slot f ≡ 0 → times slot h ≡ 0
    → AreFilled slots (slot ∷ f) (ys ++ zs) h → AreFilled (set slots slot (Some m)) f (ys ++ slot ∷ zs) h
filled_occupied slots f ys zs h slot m low absent absent' r = record {
  size = length-set slots slot (Some m) ∙ r.size;
  free_slots = λ n among. ap is_some (row_there slots slot n (Some m) (among_apart slot n f absent among)) ∙ r.free_slots n (omega arith);
  queued_slots = λ n among. elim (cases_eq n slot) [
    | inl same ↦ ap is_some (row_here slots slot n (Some m) (omega (arith, r.size)) same)
    | inr apart ↦ ap is_some (row_there slots slot n (Some m) apart) ∙ r.queued_slots n (omega (arith, among_middle slot n ys zs apart))
  ];
  held_slots = λ n among. ap is_some (row_there slots slot n (Some m) (among_apart slot n h absent' among)) ∙ r.held_slots n among;
}

pub filled_vacated : (slots : List (Option Held)) (f ys zs h : List ℕ) (slot : ℕ) → slot < 128
    → times slot (ys ++ zs) ≡ 0 → times slot h ≡ 0
    → AreFilled slots f (ys ++ slot ∷ zs) h → AreFilled (set slots slot None) (slot ∷ f) (ys ++ zs) h
filled_vacated slots f ys zs h slot low absent absent' r = record {
  size = length-set slots slot None ∙ r.size;
  free_slots = λ n among. elim (cases_eq n slot) [
    | inl same ↦ ap is_some (row_here slots slot n None (omega (arith, r.size)) same)
    | inr apart ↦ ap is_some (row_there slots slot n None apart) ∙ r.free_slots n (grind (arith, ne_eqb slot n (λ e. apart (sym e))))
  ];
  queued_slots = λ n among. let apart = among_apart slot n (ys ++ zs) absent among in
      ap is_some (row_there slots slot n None apart) ∙ r.queued_slots n (omega (arith, among_middle slot n ys zs apart));
  held_slots = λ n among. ap is_some (row_there slots slot n None (among_apart slot n h absent' among)) ∙ r.held_slots n among;
}
