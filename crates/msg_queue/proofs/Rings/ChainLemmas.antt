-- Chains by their words: what a chain's words say, when they stay, and that they say it of one chain alone.
use Rattle.std.proofs.Common.{◌≡◌, ℕ, zero, suc, ◌≤◌, List, [], ◌∷◌, ◌++◌, length, map, get_or, set, refl, ap, sym, subst, ◌∙◌, arith}
use Rattle.std.proofs.lemmas.Bool.{eq-eqb, ne_eqb}
use Rattle.std.proofs.lemmas.List.{get_or-set_other}
use Rattle.msg_queue.specs.Chains.{no_slot, followed, chain, times, IsChain}
use Rattle.msg_queue.proofs.Rings.TimesLemmas.{absent_head, absent_rest}

-- the words lead from `first` through these slots to none
abbrev pub Leads : List ℕ → ℕ → List ℕ → Type 0
Leads next first xs = first ∷ map (λ x. get_or next x 0) xs ≡ xs ++ no_slot ∷ []

-- ---- one slot

pub leads_first : (next : List ℕ) (first x : ℕ) (xs : List ℕ) → Leads next first (x ∷ xs) → first ≡ x
leads_first next first x xs h = cc

pub leads_rest : (next : List ℕ) (first x : ℕ) (xs : List ℕ) → Leads next first (x ∷ xs) → Leads next (get_or next x 0) xs
leads_rest next first x xs h = cc

pub leads_on : (next : List ℕ) (first x : ℕ) (xs : List ℕ) → first ≡ x → Leads next (get_or next x 0) xs → Leads next first (x ∷ xs)
leads_on next first x xs e h = cc

-- from a word that is the next slot
pub leads_to : (next : List ℕ) (first x after : ℕ) (xs : List ℕ) → first ≡ x → get_or next x 0 ≡ after → Leads next after xs → Leads next first (x ∷ xs)
leads_to next first x after xs e w h = leads_on next first x xs e (subst (λ y. Leads next y xs) (sym w) h)

-- ---- words that a chain does not read

map_kept : (next : List ℕ) (slot word : ℕ) (xs : List ℕ) → times slot xs ≡ 0 → map (λ x. get_or (set next slot word) x 0) xs ≡ map (λ x. get_or next x 0) xs
map_kept next slot word [] h = refl
map_kept next slot word (x ∷ xs) h =
    let here : get_or (set next slot word) x 0 ≡ get_or next x 0 = get_or-set_other next slot x word 0 (λ e. absent_head slot x xs h (sym e)) in
    let rest = map_kept next slot word xs (absent_rest slot x xs h) in
    cc

pub leads_kept : (next : List ℕ) (slot word first : ℕ) (xs : List ℕ) → times slot xs ≡ 0 → Leads next first xs → Leads (set next slot word) first xs
leads_kept next slot word first xs absent h = let same = map_kept next slot word xs absent in cc

-- ---- the words say it of one chain alone

pub followed_is : (most : ℕ) (next : List ℕ) (first : ℕ) (xs : List ℕ) → Leads next first xs → times no_slot xs ≡ 0 → length xs ≤ most → followed most next first ≡ xs
unfolding followed
followed_is zero next first [] h some few = refl
followed_is zero next first (x ∷ xs) h some few = absurd (omega arith)
followed_is (suc most) next first [] h some few =
    let none : first ≡ no_slot = cc in
    rw (eq-eqb first no_slot none)
followed_is (suc most) next first (x ∷ xs) h some few =
    let e : first ≡ x = leads_first next first x xs h in
    let there = λ (n : first ≡ no_slot). absent_head no_slot x xs some (sym n ∙ e) in
    let rest : followed most next (get_or next x 0) ≡ xs = followed_is most next (get_or next x 0) xs (leads_rest next first x xs h) (absent_rest no_slot x xs some) (omega arith) in
    rw (ne_eqb first no_slot there) (ap (λ y. y ∷ followed most next (get_or next y 0)) e ∙ ap (λ ys. x ∷ ys) rest)

pub chain_is : (next : List ℕ) (first : ℕ) (xs : List ℕ) → IsChain next first xs → length xs ≤ 128 → chain next first ≡ xs
unfolding chain
chain_is next first xs h few = followed_is 128 next first xs h.links (h.within 128 (omega arith)) few
