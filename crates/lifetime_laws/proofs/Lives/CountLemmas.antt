-- Tests of names that are paired one to one pass equally often.
use Rattle.std.proofs.Common.{◌≡◌, ◌⊎◌, ℕ, zero, suc, ◌+◌, Bool, true, false, Option, Some, None, refl, sym, ap, ◌∙◌, inl, inr, arith, subst}
use Rattle.std.specs.Prelude.{if◌then◌else◌}
use Rattle.std.proofs.lemmas.Bool.{false≢true}
use Rattle.xk_base.specs.declared.ids.Place.{Place}
use Rattle.ledger_model.specs.Ledger.{Homed, Orphaned, PageName}
use Rattle.ledger_model.specs.Places.{count_places, first_place, is_user_place, same_place}
use Rattle.ledger_model.proofs.Loans.NumberingLemmas.{count_places-none, count_places-one, count_places-same, first_place-lies, first_place-none, first_place-passes}
use Rattle.ledger_model.proofs.PlaceLemmas.{same_place-apart, same_place-refl, same_place-true}
use Rattle.lifetime_laws.specs.Counts.{count_names}

-- ---- names

abbrev pub place_of : PageName → Place
place_of (Homed p) = p
place_of (Orphaned q) = q

abbrev same_name : PageName → PageName → Bool
same_name (Homed p) (Homed q) = same_place p q
same_name (Homed p) (Orphaned q) = false
same_name (Orphaned p) (Homed q) = false
same_name (Orphaned p) (Orphaned q) = same_place p q

same_name-true : (a b : PageName) → same_name a b ≡ true → a ≡ b
same_name-true (Homed p) (Homed q) e = ap (λ x. Homed x) (same_place-true p q e)
same_name-true (Homed p) (Orphaned q) e = absurd (false≢true e)
same_name-true (Orphaned p) (Homed q) e = absurd (false≢true e)
same_name-true (Orphaned p) (Orphaned q) e = ap (λ x. Orphaned x) (same_place-true p q e)

same_name-refl : (a : PageName) → same_name a a ≡ true
same_name-refl (Homed p) = same_place-refl p
same_name-refl (Orphaned q) = same_place-refl q

-- names that aren't one are told apart
told_apart : (a b : PageName) → (a ≡ b → ⊥) → same_name a b ≡ false
told_apart a b apart = go (same_name a b) refl
  where
    go : (c : Bool) → same_name a b ≡ c → c ≡ false
    go true e = absurd (apart (same_name-true a b e))
    go false e = refl

-- the test without one name
abbrev but : PageName → (PageName → Bool) → PageName → Bool
but x test y = if same_name y x then false else test y

but_parts : (x : PageName) (test : PageName → Bool) (y : PageName) → but x test y ≡ true → (same_name y x ≡ false) × (test y ≡ true)
but_parts x test y e = go (same_name y x) refl e
  where
    go : (b : Bool) → same_name y x ≡ b → (if b then false else test y) ≡ true → (same_name y x ≡ false) × (test y ≡ true)
    go true q r = absurd (false≢true r)
    go false q r = (q, r)

but_from : (x : PageName) (test : PageName → Bool) (y : PageName) → same_name y x ≡ false → test y ≡ true → but x test y ≡ true
but_from x test y apart passes = ap (λ b. if b then false else test y) apart ∙ passes

-- ---- sums

one_more_left : (a b c d : ℕ) → a ≡ c + 1 → b ≡ d → a + b ≡ c + d + 1
one_more_left a b c d e f = omega arith

one_more_right : (a b c d : ℕ) → a ≡ c → b ≡ d + 1 → a + b ≡ c + d + 1
one_more_right a b c d e f = omega arith

both_none : (a b : ℕ) → a ≡ 0 → b ≡ 0 → a + b ≡ 0
both_none a b e f = omega arith

not_one_more : (n k : ℕ) → n ≡ 0 → n ≡ k + 1 → ⊥
not_one_more n k e f = omega arith

not_both : (n k : ℕ) → n ≡ 0 → n ≡ suc k → ⊥
not_both n k e f = omega arith

taken_one : (n k j : ℕ) → n ≡ suc j → n ≡ k + 1 → k ≡ j
taken_one n k j e f = omega arith

put_one : (n k j : ℕ) → n ≡ k + 1 → k ≡ j → n ≡ suc j
put_one n k j e f = omega arith

-- ---- counting

-- it counts one less
one_less : (procs : ℕ) (x : PageName) (test : PageName → Bool) → is_user_place procs (place_of x) ≡ true → test x ≡ true
    → count_names procs test ≡ count_names procs (but x test) + 1
one_less procs (Homed q) test lies passes =
    one_more_left (count_places procs (λ p. test (Homed p))) (count_places procs (λ p. test (Orphaned p)))
    (count_places procs (λ p. but (Homed q) test (Homed p))) (count_places procs (λ p. but (Homed q) test (Orphaned p)))
    (count_places-one procs q (λ p. test (Homed p)) (λ p. but (Homed q) test (Homed p)) lies passes
    (ap (λ b. if b then false else test (Homed q)) (same_place-refl q))
    (λ p apart. sym (ap (λ b. if b then false else test (Homed p)) (same_place-apart p q apart))))
    (count_places-same procs (λ p. test (Orphaned p)) (λ p. but (Homed q) test (Orphaned p)) (λ p. refl))
one_less procs (Orphaned q) test lies passes =
    one_more_right (count_places procs (λ p. test (Homed p))) (count_places procs (λ p. test (Orphaned p)))
    (count_places procs (λ p. but (Orphaned q) test (Homed p))) (count_places procs (λ p. but (Orphaned q) test (Orphaned p)))
    (count_places-same procs (λ p. test (Homed p)) (λ p. but (Orphaned q) test (Homed p)) (λ p. refl))
    (count_places-one procs q (λ p. test (Orphaned p)) (λ p. but (Orphaned q) test (Orphaned p)) lies passes
    (ap (λ b. if b then false else test (Orphaned q)) (same_place-refl q))
    (λ p apart. sym (ap (λ b. if b then false else test (Orphaned p)) (same_place-apart p q apart))))

record Found (procs : ℕ) (test : PageName → Bool) : Type 0 where
  name : PageName
  passes : test name ≡ true
  lies : is_user_place procs (place_of name) ≡ true

-- one passes, or none does
found : (procs : ℕ) (test : PageName → Bool) → ((x : PageName) → test x ≡ true → is_user_place procs (place_of x) ≡ true)
    → Found procs test ⊎ (count_names procs test ≡ 0)
found procs test lies = of_homes (first_place procs (λ p. test (Homed p))) refl
  where
    none : (make : Place → PageName) → ((p : Place) → place_of (make p) ≡ p) → first_place procs (λ p. test (make p)) ≡ None
        → (p : Place) → test (make p) ≡ false
    none make there e p = go (test (make p)) refl
      where
        go : (b : Bool) → test (make p) ≡ b → test (make p) ≡ false
        go true q =
            first_place-none procs (λ x. test (make x)) e p (ap (is_user_place procs) (sym (there p)) ∙ lies (make p) q)
        go false q = q

    of_orphans : first_place procs (λ p. test (Homed p)) ≡ None → (o : Option Place) → first_place procs (λ q. test (Orphaned q)) ≡ o
        → Found procs test ⊎ (count_names procs test ≡ 0)
    of_orphans e None f =
        inr (both_none (count_places procs (λ p. test (Homed p))) (count_places procs (λ q. test (Orphaned q)))
        (count_places-none procs (λ p. test (Homed p)) (none (λ p. Homed p) (λ p. refl) e))
        (count_places-none procs (λ q. test (Orphaned q)) (none (λ q. Orphaned q) (λ q. refl) f)))
    of_orphans e (Some q) f =
        inl (record {
          name = Orphaned q;
          passes = first_place-passes procs (λ x. test (Orphaned x)) q f;
          lies = first_place-lies procs (λ x. test (Orphaned x)) q f;
        })

    of_homes : (o : Option Place) → first_place procs (λ p. test (Homed p)) ≡ o → Found procs test ⊎ (count_names procs test ≡ 0)
    of_homes None e = of_orphans e (first_place procs (λ q. test (Orphaned q))) refl
    of_homes (Some p) e =
        inl (record {
          name = Homed p;
          passes = first_place-passes procs (λ x. test (Homed x)) p e;
          lies = first_place-lies procs (λ x. test (Homed x)) p e;
        })

-- ---- pairs

-- each name that passes the one test has its pair among those that pass the other
pub record ArePaired (procs : ℕ) (Pair : PageName → PageName → Type 0) (f g : PageName → Bool) : Type 0 where
  pub left : (x : PageName) → f x ≡ true → (y : PageName) × (g y ≡ true) × Pair x y
  pub right : (y : PageName) → g y ≡ true → (x : PageName) × (f x ≡ true) × Pair x y
  pub left_lies : (x : PageName) → f x ≡ true → is_user_place procs (place_of x) ≡ true
  pub right_lies : (y : PageName) → g y ≡ true → is_user_place procs (place_of y) ≡ true

module _ (procs : ℕ) (Pair : PageName → PageName → Type 0) (one_right : (x y z : PageName) → Pair x y → Pair x z → y ≡ z)
    (one_left : (x y z : PageName) → Pair x z → Pair y z → x ≡ y) where
  -- a pair is taken out
  without : (f g : PageName → Bool) → ArePaired procs Pair f g → (x y : PageName) → Pair x y → ArePaired procs Pair (but x f) (but y g)
  without f g pairs x y pair = record {
    left = λ a e.
        let parts = but_parts x f a e in
        let other = pairs.left a parts.1 in (
          other.0,
          but_from y g other.0
              (told_apart other.0 y (λ same. false≢true (sym parts.0 ∙ of_same a x (left_same a other.0 same other.2)))) other.1,
          other.2,
        );
    right = λ b e.
        let parts = but_parts y g b e in
        let other = pairs.right b parts.1 in (
          other.0,
          but_from x f other.0
              (told_apart other.0 x (λ same. false≢true (sym parts.0 ∙ of_same b y (right_same b other.0 same other.2)))) other.1,
          other.2,
        );
    left_lies = λ a e. pairs.left_lies a (but_parts x f a e).1;
    right_lies = λ b e. pairs.right_lies b (but_parts y g b e).1;
  }
    where
      of_same : (a b : PageName) → a ≡ b → same_name a b ≡ true
      of_same a b e = ap (same_name a) (sym e) ∙ same_name-refl a

      left_same : (a b : PageName) → b ≡ y → Pair a b → a ≡ x
      left_same a b same with_b = one_left a x y (subst (λ z. Pair a z) same with_b) pair

      right_same : (b a : PageName) → a ≡ x → Pair a b → b ≡ y
      right_same b a same with_a = one_right x b y (subst (λ z. Pair z b) same with_a) pair

  pub paired_counts : (n : ℕ) (f g : PageName → Bool) → ArePaired procs Pair f g → count_names procs f ≡ n → count_names procs g ≡ n
  paired_counts zero f g pairs e = go (found procs g pairs.right_lies)
    where
      go : Found procs g ⊎ (count_names procs g ≡ 0) → count_names procs g ≡ 0
      go (inl at) =
          let other = pairs.right at.name at.passes in
          absurd (not_one_more (count_names procs f) (count_names procs (but other.0 f)) e
          (one_less procs other.0 f (pairs.left_lies other.0 other.1) other.1))
      go (inr none) = none
  paired_counts (suc n) f g pairs e = go (λ f g pairs e. paired_counts n f g pairs e) (found procs f pairs.left_lies)
    where
      Fewer : Type 0
      Fewer = (f g : PageName → Bool) → ArePaired procs Pair f g → count_names procs f ≡ n → count_names procs g ≡ n

      of_pair : Fewer → (x y : PageName) → f x ≡ true → g y ≡ true → Pair x y → count_names procs g ≡ suc n
      of_pair fewer x y passes other pair =
          put_one (count_names procs g) (count_names procs (but y g)) n (one_less procs y g (pairs.right_lies y other) other)
          (fewer (but x f) (but y g) (without f g pairs x y pair)
          (taken_one (count_names procs f) (count_names procs (but x f)) n e (one_less procs x f (pairs.left_lies x passes) passes)))

      go : Fewer → Found procs f ⊎ (count_names procs f ≡ 0) → count_names procs g ≡ suc n
      go fewer (inr none) = absurd (not_both (count_names procs f) n none e)
      go fewer (inl at) =
          let other = pairs.left at.name at.passes in
          of_pair fewer at.name other.0 at.passes other.1 other.2
