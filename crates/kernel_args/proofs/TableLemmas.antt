-- The register after a byte, by what the low byte of the register and the byte together make.
use Rattle.std.proofs.Common.{◌≡◌, ℕ, zero, suc, ◌+◌, ◌*◌, ◌/◌, ◌%◌, ◌^◌, ◌<◌, Bool, true, ◌&&◌, get_or, refl, sym, ap, ◌∙◌, arith, eqb, T, bit_xor, inl, inr, eqb→eq, eq-zero-or-pos, ◌-◌, pow-suc, mul_assoc, div-one, List}
use Rattle.std.specs.Int.Bits.{xor_assoc, xor_zero_r, xor_shifted, shifted_half}
use Rattle.std.proofs.lemmas.Nat.{xor_shr, xor_comm, shr-shr}
use Rattle.std.proofs.lemmas.Nat.Bits.{bit_at_xor, bit_at_lowest}
use Rattle.std.proofs.lemmas.Bool.Decides.{eqb_tells}
use lib.Ieee.Fits.{and_l, and_r}
use Rattle.kernel_args.specs.CheckNumber.{bits, register_after, shifted}
use Rattle.kernel_args.specs.declared.check_tables.TheConstants.{AFTER_ONE}

-- the table's first n words are what eight zero bits make of their places
abbrev are_after_zeros : ℕ → Bool
are_after_zeros zero = true
are_after_zeros (suc i) = eqb (get_or AFTER_ONE i 0) (register_after i (bits 8 0)) && are_after_zeros i

all_are : T (are_after_zeros 256)
unfolding bits
all_are = tt

at_place : (n i : ℕ) → T (are_after_zeros n) → i < n → get_or AFTER_ONE i 0 ≡ register_after i (bits 8 0)
at_place zero i t h = absurd (omega arith)
at_place (suc n) i t h =
    elim (eq-zero-or-pos (n - i)) [
      | inl z ↦ let e : i ≡ n = omega arith in rw e (eqb→eq _ _ (and_l _ (are_after_zeros n) t))
      | inr g ↦ at_place n i (and_r _ (are_after_zeros n) t) (omega arith)
    ]

pub in_table : (i : ℕ) → i < 256 → get_or AFTER_ONE i 0 ≡ register_after i (bits 8 0)
in_table i lt = at_place 256 i all_are lt

pub parity_of : (r x : ℕ) → bit_xor r x % 2 ≡ (r % 2 + x % 2) % 2
parity_of r x =
    sym (bit_at_lowest (bit_xor r x)) ∙ bit_at_xor r x 0 ∙ rw (bit_at_lowest r, bit_at_lowest x) refl

pub third_apart : (a b c : ℕ) → bit_xor (bit_xor a b) c ≡ bit_xor (bit_xor a c) b
third_apart a b c = xor_assoc a b c ∙ ap (bit_xor a) (xor_comm b c) ∙ sym (xor_assoc a c b)

-- a bit that is mixed into the register before the step is a bit that comes in
mixed_step : (r x : ℕ) → shifted (bit_xor r x) 0 ≡ bit_xor (shifted r (x % 2)) (x / 2)
mixed_step r x =
    let parity : bit_xor r x % 2 ≡ (r % 2 + x % 2) % 2 = parity_of r x in
    let half : bit_xor r x / 2 ≡ bit_xor (r / 2) (x / 2) = xor_shr r x 1 in
    elim (eqb_tells (r % 2) (x % 2)) [
      | inl same ↦
          let even : bit_xor r x % 2 ≡ 0 = omega (arith, same.1) in
          rw (same.0, even, half) refl
      | inr differs ↦
          let odd : bit_xor r x % 2 ≡ 1 = omega (arith, differs.1) in
          rw (differs.0, odd, half) (third_apart (r / 2) (x / 2) 0x8408)
    ]

-- so is each bit that is mixed in before steps over zeros; what is above them is mixed in at the end
mixed_steps : (k r x : ℕ) → register_after (bit_xor r x) (bits k 0) ≡ bit_xor (register_after r (bits k x)) (x / 2 ^ k)
unfolding bits
mixed_steps zero r x = ap (bit_xor r) (sym (div-one x))
mixed_steps (suc k) r x =
    let halves : x / 2 / 2 ^ k ≡ x / 2 ^ suc k = shr-shr x 1 k ∙ ap (λ (n : ℕ). x / 2 ^ n) (omega arith) in
    ap (λ (n : ℕ). register_after n (bits k 0)) (mixed_step r x) ∙ mixed_steps k (shifted r (x % 2)) (x / 2)
    ∙ ap (bit_xor (register_after (shifted r (x % 2)) (bits k (x / 2)))) halves

low_bits_zero : (k q : ℕ) → bits k (q * 2 ^ k) ≡ bits k 0
unfolding bits
low_bits_zero zero q = refl
low_bits_zero (suc k) q =
    let twice : q * 2 ^ suc k ≡ q * 2 ^ k * 2 = ap (λ (n : ℕ). q * n) (pow-suc 2 k) ∙ sym (mul_assoc q (2 ^ k) 2) in
    let even : q * 2 ^ suc k % 2 ≡ 0 = omega arith in
    rw (even, shifted_half q k, low_bits_zero k q) refl

-- eight zero bits move the high byte down, and mix in what they make of the low one
pub zeros_by_parts : (z : ℕ) → register_after z (bits 8 0) ≡ bit_xor (z / 256) (register_after (z % 256) (bits 8 0))
zeros_by_parts z =
    let high : ℕ = z / 256 * 2 ^ 8 in
    let low : z % 256 < 2 ^ 8 = omega arith in
    let parts : bit_xor (z % 256) high ≡ z = xor_comm (z % 256) high ∙ xor_shifted (z / 256) 8 (z % 256) low ∙ omega arith in
    let above : high / 2 ^ 8 ≡ z / 256 = omega arith in
    ap (λ (n : ℕ). register_after n (bits 8 0)) (sym parts) ∙ mixed_steps 8 (z % 256) high
    ∙ ap (bit_xor (register_after (z % 256) (bits 8 high))) above
    ∙ ap (λ (bs : List ℕ). bit_xor (register_after (z % 256) bs) (z / 256)) (low_bits_zero 8 (z / 256))
    ∙ xor_comm (register_after (z % 256) (bits 8 0)) (z / 256)

pub byte_mixed_in : (r b : ℕ) → b < 256 → register_after (bit_xor r b) (bits 8 0) ≡ register_after r (bits 8 b)
byte_mixed_in r b fits =
    let none : b / 2 ^ 8 ≡ 0 = omega arith in
    mixed_steps 8 r b ∙ ap (bit_xor (register_after r (bits 8 b))) none ∙ xor_zero_r (register_after r (bits 8 b))

pub after_byte_by_table : (r b : ℕ) → b < 256 → bit_xor (bit_xor r b / 256) (get_or AFTER_ONE (bit_xor r b % 256) 0) ≡ register_after r (bits 8 b)
after_byte_by_table r b fits =
    let z : ℕ = bit_xor r b in
    let low : z % 256 < 256 = omega arith in
    ap (bit_xor (z / 256)) (in_table (z % 256) low) ∙ sym (zeros_by_parts z) ∙ byte_mixed_in r b fits
