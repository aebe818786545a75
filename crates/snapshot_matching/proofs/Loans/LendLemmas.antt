-- Lends that are put in order of their numbers and compared.
use Rattle.std.proofs.Common.{◌≡◌, ℕ, ◌≤◌, Bool, true, cond, eqb, List, [], ◌∷◌, ◌++◌, map, reverse, refl, sym, ap, subst, ◌∙◌, arith, inl, inr, ◌⊎◌}
use Rattle.std.specs.Prelude.{◌&&◌}
use Rattle.std.specs.Bool.{beq}
use Rattle.std.specs.Cmp.Lexicographic.{pointwise}
use Rattle.std.specs.List.{list_any, count_by}
use Rattle.std.specs.List.Sorted.{IsPermutation, IsNonDecreasingBy}
use Rattle.std.proofs.lemmas.Bool.{cases_Bool, and_parts, eqb-true, eq-eqb}
use Rattle.std.proofs.lemmas.List.Sorted.{IsPermutation-reverse, IsPermutation-map, IsPermutation-append, sum_by-IsPermutation}
use Rattle.snapshot_matching.specs.declared.lends.Lend.{Lend}
use Rattle.snapshot_rows.specs.declared.runs.Run.{Run}
use Rattle.snapshot_matching.specs.LendParts.{loan_lend, orphan_lend, is_lend_numbered, same_lend, HaveSame, AreAlike}
use Rattle.snapshot_matching.proofs.SameLemmas.{in_order, same_list, pointwise_same, pointwise_own}
use Rattle.snapshot_rows.proofs.LoanRuns.RunLemmas.{Among, beq_true, beq_same}

-- ---- one lend

pub lend_from : (a b : Lend) → a.number ≡ b.number → a.shared ≡ b.shared → a.is_lent ≡ b.is_lent → a.lender ≡ b.lender → a.holder ≡ b.holder
    → a.first ≡ b.first → a.end ≡ b.end → a ≡ b
lend_from a b n s i l h f e =
    ap (λ (x : ℕ). record a { number = x }) n ∙ ap (λ (x : Bool). record a { number = b.number; shared = x }) s
    ∙ ap (λ (x : Bool). record a { number = b.number; shared = b.shared; is_lent = x }) i
    ∙ ap (λ (x : ℕ). record b { lender = x; holder = a.holder; first = a.first; end = a.end }) l
    ∙ ap (λ (x : ℕ). record b { holder = x; first = a.first; end = a.end }) h
    ∙ ap (λ (x : ℕ). record b { first = x; end = a.end }) f ∙ ap (λ (x : ℕ). record b { end = x }) e

pub lend_is : (a b : Lend) → same_lend a b ≡ true → a ≡ b
lend_is a b same =
    let one = and_parts (eqb a.number b.number) _ same in
    let two = and_parts (beq a.shared b.shared) _ one.1 in
    let three = and_parts (beq a.is_lent b.is_lent) _ two.1 in
    let four = and_parts (eqb a.lender b.lender) _ three.1 in
    let five = and_parts (eqb a.holder b.holder) _ four.1 in
    let six = and_parts (eqb a.first b.first) (eqb a.end b.end) five.1 in
    lend_from a b (eqb-true a.number b.number one.0) (beq_true a.shared b.shared two.0) (beq_true a.is_lent b.is_lent three.0)
    (eqb-true a.lender b.lender four.0)
    (eqb-true a.holder b.holder five.0) (eqb-true a.first b.first six.0) (eqb-true a.end b.end six.1)

all_seven : (a b c d e f g : Bool) → a ≡ true → b ≡ true → c ≡ true → d ≡ true → e ≡ true → f ≡ true → g ≡ true
    → (a && (b && (c && (d && (e && (f && g)))))) ≡ true
all_seven a b c d e f g p q r s t u v = rw (p, q, r, s, t, u, v) refl

pub lend_own : (a : Lend) → same_lend a a ≡ true
lend_own a =
    all_seven _ _ _ _ _ _ _ (eq-eqb a.number a.number refl) (beq_same a.shared a.shared refl) (beq_same a.is_lent a.is_lent refl)
    (eq-eqb a.lender a.lender refl)
    (eq-eqb a.holder a.holder refl) (eq-eqb a.first a.first refl) (eq-eqb a.end a.end refl)

-- ---- in order of their numbers

abbrev low : Lend → Lend → Type 0
low a b = a.number ≤ b.number

abbrev key : Lend → Lend → Bool
key a b = is_lend_numbered a.number b

low_own : (a : Lend) → low a a
low_own a = omega arith

key_own : (a : Lend) → key a a ≡ true
key_own a = eq-eqb a.number a.number refl

anti : (a b : Lend) → low a b → low b a → key a b ≡ true
anti a b p q = eq-eqb b.number a.number (omega arith)

permuted : (test : Lend → Bool) (xs ys : List Lend) → IsPermutation xs ys → count_by test ys ≡ count_by test xs
permuted test xs ys moved = sum_by-IsPermutation (λ l. cond (test l) 1 0) xs ys moved

module _ (said made said_in_order made_in_order : List Lend) (p : IsPermutation said said_in_order) (q : IsPermutation made made_in_order) (told : Bool)
    (is : told ≡ pointwise same_lend said_in_order made_in_order) where
  pub alike_told : told ≡ true → AreAlike said made
  alike_told holds test =
      let same = pointwise_same same_lend lend_is lend_own low low_own key key_own anti said_in_order made_in_order (sym is ∙ holds) in
      sym (permuted test said said_in_order p) ∙ ap (count_by test) same ∙ permuted test made made_in_order q

  pub same_alike : IsNonDecreasingBy (λ (l : Lend). l.number) said_in_order → IsNonDecreasingBy (λ (l : Lend). l.number) made_in_order
      → ((number : ℕ) → count_by (is_lend_numbered number) made ≤ 1) → HaveSame said made → told ≡ true
  same_alike rise_said rise_made few same =
      let lists = same_list same_lend lend_is lend_own low low_own key key_own anti said_in_order made_in_order
      (in_order same_lend lend_is lend_own low low_own key key_own anti said_in_order rise_said)
      (in_order same_lend lend_is lend_own low low_own key key_own anti made_in_order rise_made)
      (λ l. permuted (same_lend l) said said_in_order p ∙ same l ∙ sym (permuted (same_lend l) made made_in_order q))
      (λ l. subst (λ (n : ℕ). n ≤ 1) (sym (permuted (key l) made made_in_order q)) (few l.number)) in
      is ∙ subst (λ (z : List Lend). pointwise same_lend said_in_order z ≡ true) lists
      (pointwise_own same_lend lend_is lend_own low low_own key key_own anti said_in_order)

-- ---- the lends of runs

abbrev pub made_of : List Run → List Run → List Lend
made_of loans left = map loan_lend loans ++ map orphan_lend left

-- in either order of the runs
pub made_back : (loans left one two : List Run) → reverse loans ≡ one → reverse left ≡ two → (test : Lend → Bool)
    → count_by test (made_of one two) ≡ count_by test (made_of loans left)
made_back loans left one two e f test =
    let moved = IsPermutation-append (map loan_lend loans) (map loan_lend one) (map orphan_lend left) (map orphan_lend two)
    (IsPermutation-map loan_lend loans one (subst (IsPermutation loans) e (IsPermutation-reverse loans)))
    (IsPermutation-map orphan_lend left two (subst (IsPermutation left) f (IsPermutation-reverse left))) in
    permuted test (made_of loans left) (made_of one two) moved

any_orphans : (test : Lend → Bool) (left : List Run) → list_any test (map orphan_lend left) ≡ true → (r : Run) × Among left r × (test (orphan_lend r) ≡ true)
any_orphans test [] e = absurd cc
any_orphans test (r ∷ left) e = elim (cases_Bool (test (orphan_lend r))) [
  | inl is ↦ (r, inl refl, is)
  | inr isnt ↦ (
      let rest : list_any test (map orphan_lend left) ≡ true = rw isnt at e in
      let found = any_orphans test left rest in
      (found.0, inr found.1, found.2)
      )
]

-- a lend of theirs is that of a run
pub any_made : (test : Lend → Bool) (loans left : List Run) → list_any test (made_of loans left) ≡ true
    → ((r : Run) × Among loans r × (test (loan_lend r) ≡ true)) ⊎ ((r : Run) × Among left r × (test (orphan_lend r) ≡ true))
any_made test [] left e = inr (any_orphans test left e)
any_made test (r ∷ loans) left e = elim (cases_Bool (test (loan_lend r))) [
  | inl is ↦ inl (r, inl refl, is)
  | inr isnt ↦ (
      let rest : list_any test (made_of loans left) ≡ true = rw isnt at e in
      elim (any_made test loans left rest) [
        | inl found ↦ inl (found.0, inr found.1, found.2)
        | inr found ↦ inr found
      ]
      )
]

pub made_orphan : (test : Lend → Bool) (loans left : List Run) (r : Run) → Among left r → test (orphan_lend r) ≡ true
    → list_any test (made_of loans left) ≡ true
made_orphan test [] [] r in_none is = absurd in_none
made_orphan test [] (s ∷ left) r (inl same) is = (let here = ap (λ (z : Run). test (orphan_lend z)) same ∙ is in rw here refl)
made_orphan test [] (s ∷ left) r (inr later) is =
    let rest = made_orphan test [] left r later is in
    elim (cases_Bool (test (orphan_lend s))) [
      | inl first ↦ rw first refl
      | inr other ↦ rw other rest
    ]
made_orphan test (s ∷ loans) left r among is =
    let rest = made_orphan test loans left r among is in
    elim (cases_Bool (test (loan_lend s))) [
      | inl first ↦ rw first refl
      | inr other ↦ rw other rest
    ]

pub made_loan : (test : Lend → Bool) (loans left : List Run) (r : Run) → Among loans r → test (loan_lend r) ≡ true → list_any test (made_of loans left) ≡ true
made_loan test [] left r in_none is = absurd in_none
made_loan test (s ∷ loans) left r (inl same) is = (let here = ap (λ (z : Run). test (loan_lend z)) same ∙ is in rw here refl)
made_loan test (s ∷ loans) left r (inr later) is =
    let rest = made_loan test loans left r later is in
    elim (cases_Bool (test (loan_lend s))) [
      | inl first ↦ rw first refl
      | inr other ↦ rw other rest
    ]
