-- Steps of a count and of a test through a reference.
use Rattle.std.proofs.Common.{◌≡◌, ◌<◌, ◌≤◌, ℕ, ◌+◌, Bool, true, false, Option, Some, None, Bor, is_some, refl, sym, arith, zero, suc, cond, ap}
use Rattle.std.specs.List.{range_with_len, count_by}
use Rattle.std.specs.Option.{MatchOption, option_copied}
use Rattle.std.proofs.lemmas.List.Sums.{sum_by-cons}
use Rattle.xk_base.specs.Tables.Counting.{count_below, least_below}
use Rattle.xk_base.proofs.CountingLemmas.{least_below-Some, least_below-None}

pub is_some_copied : {X : Type 0} (o : Option (Bor X)) → is_some (option_copied o) ≡ is_some o
is_some_copied None = refl
is_some_copied (Some x) = refl

-- what a search over the numbers below n finds is the least that passes the test
pub least_found : (n : ℕ) (test : ℕ → Bool) (r : Option ℕ)
    → MatchOption r ((k : ℕ) → 0 ≤ k → k < n → test k ≡ false) (λ i. (0 ≤ i) × (i < n) × (test i ≡ true) × ((k : ℕ) → 0 ≤ k → k < i → test k ≡ false))
    → r ≡ least_below n test
least_found n test None none = sym (least_below-None n test (λ k l. none k (omega arith) l))
least_found n test (Some i) found = sym (least_below-Some n test i found.1 found.2 (λ k l. found.3 k (omega arith) l))

-- the numbers from a on that pass the test, and those below a
pub count_from : (a n : ℕ) (test : ℕ → Bool) → count_below a test + count_by test (range_with_len a n) ≡ count_below (a + n) test
unfolding count_below
count_from a zero test =
    let none : count_by test (range_with_len a zero) ≡ 0 = refl in
    let same : count_below a test ≡ count_below (a + zero) test = ap (λ k. count_below k test) (omega arith) in
    omega (arith, none, same)
count_from a (suc n) test =
    let first : count_by test (range_with_len a (suc n)) ≡ cond (test a) 1 0 + count_by test (range_with_len (a + 1) n) = sum_by-cons (λ k. cond (test k) 1 0) a (range_with_len (a + 1) n) in
    let rest : count_below (a + 1) test + count_by test (range_with_len (a + 1) n) ≡ count_below (a + 1 + n) test = count_from (a + 1) n test in
    let more : count_below (a + 1) test ≡ count_below a test + cond (test a) 1 0 = ap (λ k. count_below k test) (step a) in
    let same : count_below (a + 1 + n) test ≡ count_below (a + suc n) test = ap (λ k. count_below k test) (omega arith) in
    omega (arith, first, rest, more, same)
  where
    step : (k : ℕ) → k + 1 ≡ suc k
    step k = omega arith

-- a count over the numbers below n
pub count_all : (n : ℕ) (test : ℕ → Bool) → count_by test (range_with_len 0 n) ≡ count_below n test
unfolding count_below
count_all n test =
    let counted : count_below 0 test + count_by test (range_with_len 0 n) ≡ count_below (0 + n) test = count_from 0 n test in
    let none : count_below 0 test ≡ 0 = refl in
    let same : count_below (0 + n) test ≡ count_below n test = ap (λ k. count_below k test) (omega arith) in
    omega (arith, counted, none, same)
