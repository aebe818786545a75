-- What the words of a chain and its ends are after a slot came into it or left it, at the front or behind another.
use Rattle.std.proofs.Common.{◌≡◌, ℕ, ◌<◌, ◌≤◌, List, [], ◌∷◌, ◌++◌, length, get_or, set, refl, subst, ◌∙◌, inl, inr, arith}
use Rattle.std.proofs.lemmas.Bool.{cases_lt, eq-eqb, ne_eqb, cases_eq}
use Rattle.std.proofs.lemmas.List.{length-set}
use Rattle.msg_queue.specs.Chains.{no_slot, times, last_from, IsChain}
use Rattle.msg_queue.specs.Linking.{linked_words, linked_first, linked_last, unlinked_words, unlinked_first, unlinked_last}
use Rattle.msg_queue.proofs.Rings.TimesLemmas.{times-append, times_head, last_is_among, last_from-append}
use Rattle.msg_queue.proofs.Rings.ChainLemmas.{leads_rest, leads_kept}
use Rattle.msg_queue.proofs.Rings.LinkLemmas.{IsOnce, first_linked, behind_linked, behind_passed, put_behind_kept}

-- a slot of a chain is a slot
pub is_slot : (slot : ℕ) (xs : List ℕ) → ((n : ℕ) → 128 ≤ n → times n xs ≡ 0) → 0 < times slot xs → slot < 128
is_slot slot xs within among = elim (cases_lt slot 128) [ inl l ↦ l | inr g ↦ absurd (omega (arith, within slot g)) ]

-- what is the last of some slots of a chain is a slot
last_is_slot : (x : ℕ) (xs ys : List ℕ) → ((n : ℕ) → 128 ≤ n → times n ((x ∷ xs) ++ ys) ≡ 0) → last_from x xs < 128
last_is_slot x xs ys within =
    is_slot (last_from x xs) ((x ∷ xs) ++ ys) within (omega (arith, last_is_among x xs, times-append (last_from x xs) (x ∷ xs) ys))

-- ---- a slot comes in

-- the chain that it comes into
pub linked_chain : (next : List ℕ) (first : ℕ) (ys zs : List ℕ) (slot : ℕ) → length next ≡ 128 → slot < 128 → IsOnce (ys ++ zs) → times slot (ys ++ zs) ≡ 0
    → IsChain next first (ys ++ zs) → IsChain (linked_words next first (last_from no_slot ys) slot) (linked_first first (last_from no_slot ys) slot) (ys ++ slot ∷ zs)
linked_chain next first [] zs slot size within once absent h = record {
  links = first_linked next first slot zs (omega arith) absent h.links;
  within = λ n g. grind (arith, h.within n g, ne_eqb slot n);
}
linked_chain next first (y ∷ ys) zs slot size within once absent h =
    let low : last_from y ys < 128 = last_is_slot y ys zs h.within in
    rw (ne_eqb (last_from y ys) no_slot (λ e. omega arith)) (record {
      links = behind_linked next first y ys zs slot (omega arith) (omega arith) once absent h.links;
      within = λ n g. grind (arith, h.within n g, ne_eqb slot n, times-append n (y ∷ ys) zs, times-append n (y ∷ ys) (slot ∷ zs));
    })

-- the other chains
pub linked_kept : (next : List ℕ) (first before slot other : ℕ) (xs : List ℕ) → times before xs ≡ 0 → times slot xs ≡ 0
    → IsChain next other xs → IsChain (linked_words next first before slot) other xs
linked_kept next first before slot other xs apart absent h = elim (cases_eq before no_slot) [
  | inl e ↦ rw (eq-eqb before no_slot e) (record { links = leads_kept next slot first other xs absent h.links; within = h.within })
  | inr n ↦ rw (ne_eqb before no_slot n) (record { links = put_behind_kept next before slot other xs apart absent h.links; within = h.within })
]

-- ---- where it ends

-- behind `before`, none of them being `before`, the last is theirs, or `before` where there are none
ends_changed : (before other : ℕ) (zs : List ℕ) → times before zs ≡ 0
    → linked_last (last_from before zs) before other ≡ last_from other zs
ends_changed before other [] absent = rw (eq-eqb before before refl)
ends_changed before other (z ∷ zs) absent = rw (ne_eqb (last_from z zs) before last_differs)
  where
    last_differs : last_from z zs ≡ before → ⊥
    last_differs e =
        let among : 0 < times before (z ∷ zs) = subst (λ n. 0 < times n (z ∷ zs)) e (last_is_among z zs) in
        omega arith

-- the slot before a place is not behind it
pub before_absent : (ys zs : List ℕ) → IsOnce (ys ++ zs) → ((n : ℕ) → 128 ≤ n → times n (ys ++ zs) ≡ 0) → times (last_from no_slot ys) zs ≡ 0
before_absent [] zs once within = within 128 (omega arith)
before_absent (y ∷ ys) zs once within =
    omega (arith, once (last_from y ys), last_is_among y ys, times-append (last_from y ys) (y ∷ ys) zs)

pub linked_last_is : (ys zs : List ℕ) (slot : ℕ) → IsOnce (ys ++ zs) → ((n : ℕ) → 128 ≤ n → times n (ys ++ zs) ≡ 0)
    → linked_last (last_from no_slot (ys ++ zs)) (last_from no_slot ys) slot ≡ last_from no_slot (ys ++ slot ∷ zs)
linked_last_is ys zs slot once within =
    rw (last_from-append no_slot ys zs, last_from-append no_slot ys (slot ∷ zs)) (ends_changed (last_from no_slot ys) slot zs (before_absent ys zs once within))

-- ---- a slot leaves

pub once_middle : (ys zs : List ℕ) (slot : ℕ) → IsOnce (ys ++ slot ∷ zs) → times slot (ys ++ zs) ≡ 0
once_middle ys zs slot once =
    omega (arith, once slot, times-append slot ys (slot ∷ zs), times-append slot ys zs, times_head slot zs)

-- the chain that it leaves
pub unlinked_chain : (next : List ℕ) (first : ℕ) (ys zs : List ℕ) (slot : ℕ) → length next ≡ 128 → IsOnce (ys ++ slot ∷ zs)
    → IsChain next first (ys ++ slot ∷ zs)
    → IsChain (unlinked_words next (last_from no_slot ys) slot) (unlinked_first next first (last_from no_slot ys) slot) (ys ++ zs)
unlinked_chain next first [] zs slot size once h = record {
  links = leads_rest next first slot zs h.links;
  within = λ n g. omega (arith, h.within n g);
}
unlinked_chain next first (y ∷ ys) zs slot size once h =
    let low : last_from y ys < 128 = last_is_slot y ys (slot ∷ zs) h.within in
    rw (ne_eqb (last_from y ys) no_slot (λ e. omega arith)) (record {
      links = behind_passed next first y ys zs slot (omega arith) once h.links;
      within = λ n g. omega (arith, h.within n g, times-append n (y ∷ ys) zs, times-append n (y ∷ ys) (slot ∷ zs));
    })

-- the other chains
pub unlinked_kept : (next : List ℕ) (before slot other : ℕ) (xs : List ℕ) → times before xs ≡ 0
    → IsChain next other xs → IsChain (unlinked_words next before slot) other xs
unlinked_kept next before slot other xs apart h = elim (cases_eq before no_slot) [
  | inl e ↦ rw (eq-eqb before no_slot e) h
  | inr n ↦ rw (ne_eqb before no_slot n) (record { links = leads_kept next before (get_or next slot 0) other xs apart h.links; within = h.within })
]

pub unlinked_last_is : (ys zs : List ℕ) (slot : ℕ) → IsOnce (ys ++ slot ∷ zs)
    → unlinked_last (last_from no_slot (ys ++ slot ∷ zs)) (last_from no_slot ys) slot ≡ last_from no_slot (ys ++ zs)
unlinked_last_is ys zs slot once =
    rw (last_from-append no_slot ys (slot ∷ zs), last_from-append no_slot ys zs)
    (ends_changed slot (last_from no_slot ys) zs (omega (arith, once slot, times-append slot ys (slot ∷ zs), times_head slot zs)))

-- ---- how many words there are

pub length-linked_words : (next : List ℕ) (first before slot : ℕ) → length (linked_words next first before slot) ≡ length next
length-linked_words next first before slot = elim (cases_eq before no_slot) [
  | inl e ↦ rw (eq-eqb before no_slot e) (length-set next slot first)
  | inr n ↦ rw (ne_eqb before no_slot n) (length-set (set next slot (get_or next before 0)) before slot ∙ length-set next slot (get_or next before 0))
]

pub length-unlinked_words : (next : List ℕ) (before slot : ℕ) → length (unlinked_words next before slot) ≡ length next
length-unlinked_words next before slot = elim (cases_eq before no_slot) [
  | inl e ↦ rw (eq-eqb before no_slot e)
  | inr n ↦ rw (ne_eqb before no_slot n) (length-set next before (get_or next slot 0))
]
