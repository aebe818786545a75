-- Tests over a run of numbers, as comparisons of its ends.
use Rattle.std.proofs.Common.{◌≡◌, ℕ, zero, suc, ◌+◌, ◌-◌, ◌≤◌, not, ◌&&◌, ◌||◌, nat_eq, nat_lt, nat_le, min, max, arith}
use Rattle.std.specs.List.{list_any, range_with_len}
use Rattle.std.proofs.lemmas.Bool.Decides.{nat_tests}

-- a number is in a run
pub in_run_is : (v a n : ℕ) → list_any (nat_eq v) (range_with_len a n) ≡ (nat_le a v && nat_lt v (a + n))
in_run_is v a zero = grind (arith, nat_tests)
in_run_is v a (suc n) = grind (arith, nat_tests, in_run_is v (a + 1) n)

-- a run leaves a window
pub outside_is : (low high a n : ℕ) → low ≤ high → list_any (λ v. not (nat_le low v && nat_le v high)) (range_with_len a n) ≡ (nat_lt 0 n && (nat_lt a low || nat_lt high (a + n - 1)))
outside_is low high a zero h = grind (arith, nat_tests)
outside_is low high a (suc n) h = grind (arith, nat_tests, outside_is low high (a + 1) n h)

-- two runs share a number
pub shared_is : (a m b n : ℕ) → list_any (λ v. list_any (nat_eq v) (range_with_len b n)) (range_with_len a m) ≡ nat_lt (max a b) (min (a + m) (b + n))
shared_is a zero b n = grind (arith, nat_tests)
shared_is a (suc m) b n = grind (arith, nat_tests, in_run_is a b n, shared_is (a + 1) m b n)
