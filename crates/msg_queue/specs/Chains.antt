-- Chains of slots. Each of 128 slots has a link word: the number of the slot behind it in its chain.
use Rattle.std.specs.Prelude.{◌≡◌, ℕ, zero, suc, ◌+◌, ◌≤◌, ◌==◌, if◌then◌else◌, List, [], ◌∷◌, ◌++◌, map, slice_index}

-- the number that stands for no slot
abbrev pub no_slot : ℕ
no_slot = 128

-- the slots that `first` leads to by at most `most` link words, in order
unfoldable pub followed : ℕ → List ℕ → ℕ → List ℕ
followed zero next first = []
followed (suc most) next first = if first == no_slot then [] else first ∷ followed most next (slice_index next first)

-- the slots of the chain that begins at `first`: there are 128 slots, so it has no more
unfoldable pub chain : List ℕ → ℕ → List ℕ
chain next first = followed 128 next first

-- how often the slot is among these
abbrev pub times : ℕ → List ℕ → ℕ
times slot [] = 0
times slot (x ∷ xs) = (if x == slot then 1 else 0) + times slot xs

-- the last of the slots, and `before` where there are none
abbrev pub last_from : ℕ → List ℕ → ℕ
last_from before [] = before
last_from before (x ∷ xs) = last_from x xs

-- These slots are the chain that begins at `first`, and it ends.
pub record IsChain (next : List ℕ) (first : ℕ) (slots : List ℕ) : Type 0 where
  -- `first` is the first slot, the word of each slot is the next one, and the word of the last is none
  pub links : first ∷ map (slice_index next) slots ≡ slots ++ no_slot ∷ []
  -- its slots are of the 128
  pub within : (slot : ℕ) → 128 ≤ slot → times slot slots ≡ 0
