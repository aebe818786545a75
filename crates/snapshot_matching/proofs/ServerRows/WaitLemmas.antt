-- Waits that are put in order of their threads and compared.
use Rattle.std.proofs.Common.{◌≡◌, ℕ, ◌≤◌, ◌<◌, Bool, true, false, cond, eqb, List, length, get_or, refl, sym, ap, subst, ◌∙◌}
use Rattle.std.specs.Prelude.{◌&&◌}
use Rattle.std.specs.Cmp.Lexicographic.{pointwise}
use Rattle.std.specs.List.{count_by}
use Rattle.std.specs.List.Sorted.{IsPermutation, IsSortedByKey}
use Rattle.std.specs.Ordering.{is_lt}
use Rattle.std.specs.declared.cmp.Ordering.{Ordering}
use Rattle.std.specs.declared.cmp.Ordering.TheVariants.{Less, Equal, Greater}
use Rattle.std.proofs.lemmas.Bool.{and_parts, eqb-true, eq-eqb}
use Rattle.std.proofs.lemmas.List.Sorted.{ranks_by, sorted_far, sum_by-IsPermutation}
use Rattle.snapshot_matching.specs.declared.waits.Wait.{Wait}
use Rattle.snapshot_matching.specs.WaitParts.{is_wait_at, same_wait, HaveSameWaits, AreAlikeWaits}
use Rattle.snapshot_rows.proofs.Keys.DifferLemmas.{total, tied}
use Rattle.snapshot_rows.proofs.KeyLemmas.{less_apart}
use Rattle.snapshot_matching.proofs.SameLemmas.{in_order, same_list, pointwise_same, pointwise_own}
use Rattle.snapshot_rows.proofs.Keys.SearchLemmas.{order_of, Ranked, ranked}

abbrev pub wait_key : Wait → ℕ × ℕ
wait_key w = (w.pid, w.tid)

pub wait_from : (a b : Wait) → a.pid ≡ b.pid → a.tid ≡ b.tid → a.number ≡ b.number → a ≡ b
wait_from a b p t n =
    ap (λ (x : ℕ). record a { pid = x }) p ∙ ap (λ (x : ℕ). record a { pid = b.pid; tid = x }) t ∙ ap (λ (x : ℕ). record b { number = x }) n

pub wait_is : (a b : Wait) → same_wait a b ≡ true → a ≡ b
wait_is a b same =
    let one = and_parts (eqb a.pid b.pid) _ same in
    let two = and_parts (eqb a.tid b.tid) (eqb a.number b.number) one.1 in
    wait_from a b (eqb-true a.pid b.pid one.0) (eqb-true a.tid b.tid two.0) (eqb-true a.number b.number two.1)

all_three : (a b c : Bool) → a ≡ true → b ≡ true → c ≡ true → (a && (b && c)) ≡ true
all_three a b c p q r = rw (p, q, r) refl

pub wait_own : (a : Wait) → same_wait a a ≡ true
wait_own a = all_three _ _ _ (eq-eqb a.pid a.pid refl) (eq-eqb a.tid a.tid refl) (eq-eqb a.number a.number refl)

-- ---- in order of their threads

abbrev low : Wait → Wait → Type 0
low a b = is_lt (order_of (wait_key b) (wait_key a)) ≡ false

abbrev key : Wait → Wait → Bool
key a b = is_wait_at (wait_key a) b

low_own : (a : Wait) → low a a
low_own a = go (order_of (wait_key a) (wait_key a)) (ranked (wait_key a) (wait_key a))
  where
    go : (o : Ordering) → Ranked o (wait_key a) (wait_key a) → is_lt o ≡ false
    go Less less = absurd (less_apart (wait_key a) less)
    go Equal same = refl
    go Greater more = refl

key_own : (a : Wait) → key a a ≡ true
key_own a = rw (eq-eqb a.pid a.pid refl, eq-eqb a.tid a.tid refl) refl

anti : (a b : Wait) → low a b → low b a → key a b ≡ true
anti a b p q = tied (wait_key b) (wait_key a) (sym p) q

permuted : (test : Wait → Bool) (xs ys : List Wait) → IsPermutation xs ys → count_by test ys ≡ count_by test xs
permuted test xs ys moved = sum_by-IsPermutation (λ l. cond (test l) 1 0) xs ys moved

ordered : (xs : List Wait) → IsSortedByKey wait_key order_of xs → (i j : ℕ) (d : Wait) → i ≤ j → j < length xs → low (get_or xs i d) (get_or xs j d)
ordered xs sorted i j d below within = sorted_far (λ x y. is_lt (order_of (wait_key x) (wait_key y))) (ranks_by total wait_key) xs sorted i j d below within

module _ (said kept said_in_order kept_in_order : List Wait) (p : IsPermutation said said_in_order) (q : IsPermutation kept kept_in_order) (told : Bool)
    (is : told ≡ pointwise same_wait said_in_order kept_in_order) where
  pub alike_waits : told ≡ true → AreAlikeWaits said kept
  alike_waits holds test =
      let same = pointwise_same same_wait wait_is wait_own low low_own key key_own anti said_in_order kept_in_order (sym is ∙ holds) in
      sym (permuted test said said_in_order p) ∙ ap (count_by test) same ∙ permuted test kept kept_in_order q

  pub same_waits : IsSortedByKey wait_key order_of said_in_order → IsSortedByKey wait_key order_of kept_in_order
      → ((k : ℕ × ℕ) → count_by (is_wait_at k) kept ≤ 1) → HaveSameWaits said kept → told ≡ true
  same_waits rise_said rise_kept few same =
      let lists = same_list same_wait wait_is wait_own low low_own key key_own anti said_in_order kept_in_order
      (in_order same_wait wait_is wait_own low low_own key key_own anti said_in_order (ordered said_in_order rise_said))
      (in_order same_wait wait_is wait_own low low_own key key_own anti kept_in_order (ordered kept_in_order rise_kept))
      (λ w. permuted (same_wait w) said said_in_order p ∙ same w ∙ sym (permuted (same_wait w) kept kept_in_order q))
      (λ w. subst (λ (n : ℕ). n ≤ 1) (sym (permuted (key w) kept kept_in_order q)) (few (wait_key w))) in
      is ∙ subst (λ (z : List Wait). pointwise same_wait said_in_order z ≡ true) lists
      (pointwise_own same_wait wait_is wait_own low low_own key key_own anti said_in_order)
