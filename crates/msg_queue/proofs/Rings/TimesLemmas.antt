-- How often a slot is among others, and the last of them.
use Rattle.std.proofs.Common.{◌≡◌, ℕ, ◌+◌, ◌<◌, List, [], ◌∷◌, ◌++◌, refl, subst, arith}
use Rattle.std.proofs.lemmas.Bool.Decides.{nat_tests}
use Rattle.msg_queue.specs.Chains.{times, last_from}

pub times-append : (slot : ℕ) (xs ys : List ℕ) → times slot (xs ++ ys) ≡ times slot xs + times slot ys
times-append slot [] ys = omega arith
times-append slot (x ∷ xs) ys = omega (arith, times-append slot xs ys)

-- a slot is among those that begin with it
pub times_head : (x : ℕ) (xs : List ℕ) → times x (x ∷ xs) ≡ 1 + times x xs
times_head x xs = grind (arith, nat_tests)

-- what is not among a list that begins with x is not x, and not among the rest
pub absent_head : (slot x : ℕ) (xs : List ℕ) → times slot (x ∷ xs) ≡ 0 → slot ≡ x → ⊥
absent_head slot x xs h e = let a : times x (x ∷ xs) ≡ 0 = subst (λ y. times y (x ∷ xs) ≡ 0) e h in omega (arith, times_head x xs)

pub absent_rest : (slot x : ℕ) (xs : List ℕ) → times slot (x ∷ xs) ≡ 0 → times slot xs ≡ 0
absent_rest slot x xs h = omega arith

pub last_is_among : (x : ℕ) (xs : List ℕ) → 0 < times (last_from x xs) (x ∷ xs)
last_is_among x [] = omega (arith, times_head x [])
last_is_among x (y ∷ ys) = omega (arith, last_is_among y ys)

pub last_from-append : (before : ℕ) (xs ys : List ℕ) → last_from before (xs ++ ys) ≡ last_from (last_from before xs) ys
last_from-append before [] ys = refl
last_from-append before (x ∷ xs) ys = last_from-append x xs ys
