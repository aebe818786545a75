-- A bit of the flags of a section by a mask and by division.
use Rattle.std.proofs.Common.{◌≡◌, ℕ, ◌/◌, ◌%◌, not, nat_eq, bit_and, arith}
use Rattle.std.proofs.lemmas.Nat.Bits.{and_pow}
use Rattle.std.proofs.lemmas.Bool.Decides.{nat_tests}

pub mask_four : (flags : ℕ) → not (nat_eq (bit_and flags 4) 0) ≡ nat_eq (flags / 4 % 2) 1
mask_four flags = grind (arith, nat_tests, and_pow flags 2)
