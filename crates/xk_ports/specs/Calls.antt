-- Counted calls of an object in memory, and which of them are to fail.
use Rattle.std.specs.Prelude.{ℕ, ◌+◌, ◌==◌, Bool, List, min}
use Rattle.std.specs.List.{list_any}

-- the calls of an object in memory: the numbers of those that are to fail, counted from 1, how many
-- were made, and how many faults were counted
pub record CallsState : Type 0 where
  pub fails : List ℕ
  pub made : ℕ
  pub faults : ℕ

-- no call was made
abbrev pub no_calls : List ℕ → CallsState
no_calls fails = record { fails = fails; made = 0; faults = 0 }

-- a count after one more; at 2^64 - 1 it stays
abbrev pub one_more : ℕ → ℕ
one_more count = min (count + 1) 18446744073709551615

-- whether the next call is one that is to fail
abbrev pub is_next_to_fail : CallsState → Bool
is_next_to_fail calls = list_any (λ number. number == one_more calls.made) calls.fails

-- one more call was made
abbrev pub called : CallsState → CallsState
called calls = record calls { made = one_more calls.made }

-- one more call was made, and failed
abbrev pub failed : CallsState → CallsState
failed calls = record calls { made = one_more calls.made; faults = one_more calls.faults }

-- the count of faults
abbrev pub faults_of : CallsState → ℕ
faults_of calls = min calls.faults 18446744073709551615
