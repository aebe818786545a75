-- Laws of places and runs (specs/Places.antt).
use Rattle.std.proofs.Common.{◌≡◌, ◌≢◌, ℕ, zero, suc, ◌+◌, ◌-◌, ◌<◌, ◌≤◌, Bool, true, false, ◌&&◌, ◌||◌, length, get_or, refl, sym, ap, subst, ◌∙◌, arith, ◌⊎◌, inl, inr}
use Rattle.std.specs.Prelude.{◌==◌, nat_le, nat_lt}
use Rattle.std.specs.List.{list_all}
use Rattle.std.proofs.lemmas.Bool.{cases_Bool, and_parts, and_from, eqb-true, eq-eqb, ltb-true, lt-ltb, leb-true, le-leb, both_ways, false_from_ne_true}
use Rattle.std.proofs.lemmas.Bool.Decides.{nat_tests}
use Rattle.xk_base.specs.declared.ids.Place.{Place}
use Rattle.ledger_model.specs.Places.{same_place, is_before, place_after, run, in_run, moved}

-- ---- one place or two

-- places with equal numbers are one
pub place_from : (p q : Place) → p.pid.0 ≡ q.pid.0 → p.vpn.0 ≡ q.vpn.0 → p ≡ q
place_from p q a b = λ i. record { pid = record { 0 = a i }; vpn = record { 0 = b i } }

pub same_place-true : (p q : Place) → same_place p q ≡ true → p ≡ q
same_place-true p q e =
    let parts : (p.pid.0 == q.pid.0 ≡ true) × (p.vpn.0 == q.vpn.0 ≡ true) =
    and_parts (p.pid.0 == q.pid.0) (p.vpn.0 == q.vpn.0) e in
    place_from p q (eqb-true p.pid.0 q.pid.0 parts.0) (eqb-true p.vpn.0 q.vpn.0 parts.1)

pub same_place-refl : (p : Place) → same_place p p ≡ true
same_place-refl p = and_from (p.pid.0 == p.pid.0) (p.vpn.0 == p.vpn.0) (eq-eqb p.pid.0 p.pid.0 refl) (eq-eqb p.vpn.0 p.vpn.0 refl)

pub same_place-at : (p q : Place) → p ≡ q → same_place p q ≡ true
same_place-at p q e = subst (λ r. same_place p r ≡ true) e (same_place-refl p)

pub same_place-false : (p q : Place) → same_place p q ≡ false → p ≢ q
same_place-false p q e same = both_ways (same_place p q) e (same_place-at p q same)

pub same_place-apart : (p q : Place) → p ≢ q → same_place p q ≡ false
same_place-apart p q ne = false_from_ne_true (same_place p q) (λ t. ne (same_place-true p q t))

-- the test with what it tells, for `grind`
pub same_place_tells : (p q : Place) → ((same_place p q ≡ true) × (p ≡ q)) ⊎ ((same_place p q ≡ false) × (p ≢ q))
same_place_tells p q = elim (cases_Bool (same_place p q)) [
  | inl t ↦ inl (t, same_place-true p q t)
  | inr f ↦ inr (f, same_place-false p q f)
]

-- ---- runs

-- what membership in a run says
pub record IsInRun (first : Place) (n : ℕ) (p : Place) : Type 0 where
  pub pid : p.pid.0 ≡ first.pid.0
  pub from : first.vpn.0 ≤ p.vpn.0
  pub to : p.vpn.0 < first.vpn.0 + n

pub in_run-true : (first : Place) (n : ℕ) (p : Place) → in_run first n p ≡ true → IsInRun first n p
in_run-true first n p e =
    let a : (p.pid.0 == first.pid.0 ≡ true) × (nat_le first.vpn.0 p.vpn.0 && nat_lt p.vpn.0 (first.vpn.0 + n) ≡ true) =
    and_parts (p.pid.0 == first.pid.0) (nat_le first.vpn.0 p.vpn.0 && nat_lt p.vpn.0 (first.vpn.0 + n)) e in
    let b : (nat_le first.vpn.0 p.vpn.0 ≡ true) × (nat_lt p.vpn.0 (first.vpn.0 + n) ≡ true) =
    and_parts (nat_le first.vpn.0 p.vpn.0) (nat_lt p.vpn.0 (first.vpn.0 + n)) a.1 in
    record {
      pid = eqb-true p.pid.0 first.pid.0 a.0;
      from = leb-true first.vpn.0 p.vpn.0 b.0;
      to = ltb-true p.vpn.0 (first.vpn.0 + n) b.1;
    }

pub in_run-from : (first : Place) (n : ℕ) (p : Place) → IsInRun first n p → in_run first n p ≡ true
in_run-from first n p h =
    and_from (p.pid.0 == first.pid.0) (nat_le first.vpn.0 p.vpn.0 && nat_lt p.vpn.0 (first.vpn.0 + n)) (eq-eqb p.pid.0 first.pid.0 h.pid)
    (and_from (nat_le first.vpn.0 p.vpn.0) (nat_lt p.vpn.0 (first.vpn.0 + n)) (le-leb first.vpn.0 p.vpn.0 h.from) (lt-ltb p.vpn.0 (first.vpn.0 + n) h.to))

-- the place i above the first is in the run where i is below n
pub in_run-after : (first : Place) (n i : ℕ) → i < n → in_run first n (place_after first i) ≡ true
in_run-after first n i l = in_run-from first n (place_after first i) (record { pid = refl; from = omega arith; to = omega arith })

-- every place of a run is some number of pages above the first
pub in_run-index : (first : Place) (n : ℕ) (p : Place) → in_run first n p ≡ true
    → (p.vpn.0 - first.vpn.0 < n) × (p ≡ place_after first (p.vpn.0 - first.vpn.0))
in_run-index first n p e =
    let h : IsInRun first n p = in_run-true first n p e in
    let low : first.vpn.0 ≤ p.vpn.0 = h.from in
    let high : p.vpn.0 < first.vpn.0 + n = h.to in
    (omega arith, place_from p (place_after first (p.vpn.0 - first.vpn.0)) h.pid (omega arith))

-- a run without places
pub in_run-none : (first p : Place) → in_run first 0 p ≡ false
in_run-none first p = false_from_ne_true (in_run first 0 p) (λ t. let h : IsInRun first 0 p = in_run-true first 0 p t in
    let low : first.vpn.0 ≤ p.vpn.0 = h.from in
    let high : p.vpn.0 < first.vpn.0 + 0 = h.to in omega arith)

-- ---- moved places

-- a place of a run is moved to a place of the other run ..
pub moved-in_run : (from to p : Place) (n : ℕ) → in_run from n p ≡ true → in_run to n (moved from to p) ≡ true
moved-in_run from to p n e =
    let h : IsInRun from n p = in_run-true from n p e in
    let low : from.vpn.0 ≤ p.vpn.0 = h.from in
    let high : p.vpn.0 < from.vpn.0 + n = h.to in
    in_run-from to n (moved from to p) (record { pid = refl; from = omega arith; to = omega arith })

-- .. and back
pub moved-back : (from to p : Place) (n : ℕ) → in_run from n p ≡ true → moved to from (moved from to p) ≡ p
moved-back from to p n e =
    let h : IsInRun from n p = in_run-true from n p e in
    let low : from.vpn.0 ≤ p.vpn.0 = h.from in
    place_from (moved to from (moved from to p)) p (sym h.pid) (omega arith)

-- no two places of a run are moved to one
pub moved-apart : (from to p q : Place) (n : ℕ) → in_run from n p ≡ true → in_run from n q ≡ true
    → moved from to p ≡ moved from to q → p ≡ q
moved-apart from to p q n a b e = sym (moved-back from to p n a) ∙ (ap (moved to from) e ∙ moved-back from to q n b)

-- the i-th place goes to the i-th
pub moved-after : (from to : Place) (i : ℕ) → moved from to (place_after from i) ≡ place_after to i
moved-after from to i = place_from (moved from to (place_after from i)) (place_after to i) refl (omega arith)

-- ---- the list of a run

place_after-zero : (p : Place) → place_after p 0 ≡ p
place_after-zero p = place_from (place_after p 0) p refl (omega arith)

place_after-suc : (p : Place) (i : ℕ) → place_after (place_after p 1) i ≡ place_after p (suc i)
place_after-suc p i = place_from (place_after (place_after p 1) i) (place_after p (suc i)) refl (omega arith)

pub length-run : (first : Place) (n : ℕ) → length (run first n) ≡ n
unfolding run
length-run first zero = refl
length-run first (suc n) = ap suc (length-run (place_after first 1) n)

-- its i-th place
pub run-at : (first : Place) (n i : ℕ) (d : Place) → i < n → get_or (run first n) i d ≡ place_after first i
unfolding run
run-at first zero i d l = absurd (omega arith)
run-at first (suc n) zero d l = sym (place_after-zero first)
run-at first (suc n) (suc i) d l = run-at (place_after first 1) n i d (omega arith) ∙ place_after-suc first i

-- a test holds all along a run exactly where it holds at each of its places
pub list_all-run : (test : Place → Bool) (first : Place) (n : ℕ)
    → ((i : ℕ) → i < n → test (place_after first i) ≡ true) → list_all test (run first n) ≡ true
unfolding run
list_all-run test first zero h = refl
list_all-run test first (suc n) h =
    and_from (test first) (list_all test (run (place_after first 1) n)) (subst (λ p. test p ≡ true) (place_after-zero first) (h 0 (omega arith)))
    (list_all-run test (place_after first 1) n (λ i l. subst (λ p. test p ≡ true) (sym (place_after-suc first i)) (h (suc i) (omega arith))))

pub run-passes : (test : Place → Bool) (first : Place) (n : ℕ) → list_all test (run first n) ≡ true → (i : ℕ) → i < n
    → test (place_after first i) ≡ true
unfolding run
run-passes test first zero e i l = absurd (omega arith)
run-passes test first (suc n) e zero l =
    subst (λ p. test p ≡ true) (sym (place_after-zero first)) (and_parts (test first) (list_all test (run (place_after first 1) n)) e).0
run-passes test first (suc n) e (suc i) l =
    subst (λ p. test p ≡ true) (place_after-suc first i)
    (run-passes test (place_after first 1) n (and_parts (test first) (list_all test (run (place_after first 1) n)) e).1 i (omega arith))

-- ---- the order of places

pub is_before-apart : (p q : Place) → is_before p q ≡ true → p ≢ q
is_before-apart p q e same = both_ways (is_before p p) (not_before p.pid.0 p.vpn.0) (subst (λ r. is_before p r ≡ true) (sym same) e)
  where
    not_before : (a b : ℕ) → (nat_lt a a || ((a == a) && nat_lt b b)) ≡ false
    not_before a b = grind (arith, nat_tests)

-- `is_before` is an order
pub is_before-trans : (p q r : Place) → is_before p q ≡ true → is_before q r ≡ true → is_before p r ≡ true
is_before-trans p q r e f = numbers p.pid.0 p.vpn.0 q.pid.0 q.vpn.0 r.pid.0 r.vpn.0 e f
  where
    numbers : (a b c d x y : ℕ) → (nat_lt a c || ((a == c) && nat_lt b d)) ≡ true
        → (nat_lt c x || ((c == x) && nat_lt d y)) ≡ true → (nat_lt a x || ((a == x) && nat_lt b y)) ≡ true
    numbers a b c d x y e f = grind (arith, nat_tests)
