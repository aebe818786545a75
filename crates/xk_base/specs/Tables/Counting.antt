-- Finite maps, and counting over them. What has a key (the page of a place, the thread of an id, the
-- server of a serial) is a function from the key to an Option. It is a finite map where only keys
-- below a bound of some numbering have a value. These are the words over the numbers below n: how
-- many pass a test, which is the least, which they are in ascending order, and what they add up to.
use Rattle.std.specs.Prelude.{ℕ, ◌+◌, Bool, List, [], ◌∷◌, ◌++◌, if◌then◌else◌, zero, suc, Option, Some, None}
use Rattle.std.specs.Option.{option_or}

-- how many of the numbers below n pass the test
unfoldable pub count_below : ℕ → (ℕ → Bool) → ℕ
count_below zero test = 0
count_below (suc n) test = count_below n test + (if test n then 1 else 0)

-- the least number below n that passes the test, or None where none does
unfoldable pub least_below : ℕ → (ℕ → Bool) → Option ℕ
least_below zero test = None
least_below (suc n) test = option_or (least_below n test) (if test n then Some n else None)

-- the numbers below n that pass the test, in ascending order, each once
unfoldable pub listed_below : ℕ → (ℕ → Bool) → List ℕ
listed_below zero test = []
listed_below (suc n) test = listed_below n test ++ (if test n then n ∷ [] else [])

-- the sum of f over the numbers below n
unfoldable pub sum_below : ℕ → (ℕ → ℕ) → ℕ
sum_below zero f = 0
sum_below (suc n) f = sum_below n f + f n

-- the map f with v at the key; every other key keeps what it has. `same` is the test for equal keys
abbrev pub put_at : {K V : Type 0} → (K → K → Bool) → (K → V) → K → V → K → V
put_at same f key v q = if same q key then v else f q
