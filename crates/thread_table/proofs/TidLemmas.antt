-- A word of bits as a set of tids.
use Rattle.std.proofs.Common.{◌≡◌, ◌<◌, ◌≤◌, ◌/◌, ◌%◌, ◌+◌, ◌-◌, ◌*◌, ◌^◌, ℕ, w32, w64, Bool, true, false, sym, ap, ◌∙◌, inl, inr, arith}
use Rattle.std.specs.Prelude.{◌==◌}
use Rattle.std.specs.Int.{bit_at, bit_not, trailing_zeros}
use Rattle.std.specs.Int.Bits.{bit_and, bit_or}
use Rattle.std.proofs.lemmas.Bool.{both_ways, cases_lt}
use Rattle.std.proofs.lemmas.Nat.{one_shl, shr-shr, shr_le}
use Rattle.std.proofs.lemmas.Nat.Bits.{bit_at_above, bit_at-zero, bit_at_set_same, bit_at_set_other, bit_at_clear_same, bit_at_clear_other, bit_at-trailing_zeros}
use Rattle.xk_base.specs.declared.limits.TheConstants.{TID_LIMIT}
use Rattle.thread_table.specs.declared.tids.Tids.{Tids}
use Rattle.thread_table.specs.TidSets.{has_tid, with_tid, without_tid, with_if}

-- the set of a word
abbrev tids_of : ℕ → Tids
tids_of word = record { 0 = word }

-- the bit of a tid is one of the word's
one_bit : (tid : ℕ) → tid ≤ TID_LIMIT → 1 * 2 ^ tid % 4294967296 ≡ 2 ^ tid
one_bit tid few = one_shl tid 32 (omega (arith, few))

-- a bit that is set, and one that is cleared
pub with_is : (tids : Tids) (tid : ℕ) → tid ≤ TID_LIMIT → tids_of (bit_or tids.0 (1 * 2 ^ tid % 4294967296)) ≡ with_tid tids tid
with_is tids tid few = ap (λ b. tids_of (bit_or tids.0 b)) (one_bit tid few)

pub without_is : (tids : Tids) (tid : ℕ) → tid ≤ TID_LIMIT → tids_of (bit_and tids.0 (4294967295 - 1 * 2 ^ tid % 4294967296)) ≡ without_tid tids tid
without_is tids tid few = ap (λ b. tids_of (bit_and tids.0 (bit_not w32 b))) (one_bit tid few)

-- the set says what it was told of the tid ..
pub has-same : (tids : Tids) (tid : ℕ) (has : Bool) → tid ≤ TID_LIMIT → has_tid (with_if tids tid has) tid ≡ has
has-same tids tid true few =
    ap (λ b. bit_at (bit_or tids.0 b) tid == 1) (sym (one_bit tid few)) ∙ ap (λ b. b == 1) (bit_at_set_same w32 tids.0 tid (omega (arith, few)))
has-same tids tid false few =
    ap (λ b. bit_at (bit_and tids.0 (bit_not w32 b)) tid == 1) (sym (one_bit tid few))
    ∙ ap (λ b. b == 1) (bit_at_clear_same w32 tids.0 tid (omega (arith, few)))

-- .. and of each other as before
pub has-other : (tids : Tids) (tid other : ℕ) (has : Bool) → tid ≤ TID_LIMIT → other ≤ TID_LIMIT → (other ≡ tid → ⊥)
    → has_tid (with_if tids tid has) other ≡ has_tid tids other
has-other tids tid other true few low apart =
    ap (λ b. bit_at (bit_or tids.0 b) other == 1) (sym (one_bit tid few))
    ∙ ap (λ b. b == 1) (bit_at_set_other w32 tids.0 tid (omega (arith, few)) other apart)
has-other tids tid other false few low apart =
    ap (λ b. bit_at (bit_and tids.0 (bit_not w32 b)) other == 1) (sym (one_bit tid few))
    ∙ ap (λ b. b == 1) (bit_at_clear_other w32 tids.0 tid (omega (arith, few)) other (omega (arith, low)) apart)

module _ (word from : ℕ) where
  -- the bits of a word that is shifted down are those from there on
  shifted : (k : ℕ) → bit_at (word / 2 ^ from) k ≡ bit_at word (from + k)
  shifted k = ap (λ x. x % 2) (shr-shr word from k)

  from_there : (tid : ℕ) → from ≤ tid → bit_at word tid ≡ bit_at (word / 2 ^ from) (tid - from)
  from_there tid low = let at : tid ≡ from + (tid - from) = omega (arith, low) in ap (bit_at word) at ∙ sym (shifted (tid - from))

  -- nothing is left
  pub none_from : word / 2 ^ from ≡ 0 → (tid : ℕ) → from ≤ tid → (bit_at word tid == 1) ≡ false
  none_from none tid low = ap (λ b. b == 1) (from_there tid low ∙ ap (λ x. bit_at x (tid - from)) none ∙ bit_at-zero (tid - from))

  -- the lowest bit that is left
  module _ (some : 0 < word / 2 ^ from) (fits : word < 4294967296) where
    abbrev lowest : ℕ
    lowest = trailing_zeros w64 (word / 2 ^ from)

    is_lowest : (lowest < 64) × (bit_at (word / 2 ^ from) lowest ≡ 1) × ((k : ℕ) → k < lowest → bit_at (word / 2 ^ from) k ≡ 0)
    is_lowest = let less : word / 2 ^ from ≤ word = shr_le word from in bit_at-trailing_zeros w64 (word / 2 ^ from) some (omega (arith, less, fits))

    pub least_has : (bit_at word (from + lowest) == 1) ≡ true
    least_has = ap (λ b. b == 1) (sym (shifted lowest) ∙ is_lowest.1)

    pub least_few : from + lowest ≤ TID_LIMIT
    least_few = elim (cases_lt (from + lowest) 32) [
      | inl low ↦ omega (arith, low)
      | inr high ↦ absurd (both_ways (bit_at word (from + lowest) == 1) (ap (λ b. b == 1) (bit_at_above word 32 (from + lowest) fits high)) least_has)
    ]

    pub none_before : (tid : ℕ) → from ≤ tid → tid < from + lowest → (bit_at word tid == 1) ≡ false
    none_before tid low early = ap (λ b. b == 1) (from_there tid low ∙ is_lowest.2 (tid - from) (omega (arith, low, early)))
