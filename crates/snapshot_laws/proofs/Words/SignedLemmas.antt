-- Words that are read as signed numbers, and what is made of them: it fits into a word again.
use Rattle.std.proofs.Common.{◌≡◌, ℕ, zero, suc, ◌+◌, ◌-◌, ◌*◌, ◌/◌, ◌%◌, ◌^◌, ◌<◌, ◌≤◌, Bool, true, false, refl, arith, ℤ, pos, negsuc, div-le_self}
use Rattle.std.specs.Prelude.{◌*ℤ◌, if◌then◌else◌, nat_lt, int_div, int_rem}
use Rattle.std.specs.Int.{w8, w16, w32, w64, cast_signed, cast_unsigned, int_shr}
use Rattle.std.specs.Int.RustNames.{unsigned_abs}
use Rattle.std.proofs.lemmas.Bool.{ltb-true, ltb-false}
use Rattle.std.proofs.lemmas.Int.{unsigned_abs-mul}
use Rattle.std.proofs.lemmas.Nat.{mul-le, and_le_l, or_of_32, xor_of_32}
use Rattle.std.specs.Prelude.{bit_and, bit_or, bit_xor}
use Rattle.snapshot_laws.specs.Words.{greatest}
use lib.Signed.{mag, mag_rem, mag_shr}
use lib.IntN.{neg_ℤ}
use native.Mathlib.Nat.{mod-le}

-- ---- signed numbers

-- the number as a word, where it isn't too great
pub as_word_fits : (z : ℤ) → mag z ≤ greatest → cast_unsigned w32 z ≤ greatest
as_word_fits (pos n) h = h
as_word_fits (negsuc n) h = omega arith

as_double_fits : (z : ℤ) → unsigned_abs z ≤ 9223372036854775808 → cast_unsigned w64 z < 2 ^ 64
as_double_fits (pos n) h = omega arith
as_double_fits (negsuc n) h = omega arith

-- a word as a signed number
pub signed_fits : (a : ℕ) → a ≤ greatest → mag (cast_signed w32 a) ≤ 2147483647
signed_fits a h = go (nat_lt a 2147483648) refl
  where
    go : (b : Bool) → nat_lt a 2147483648 ≡ b → mag (if b then pos a else negsuc (4294967296 - suc a)) ≤ 2147483647
    go true e = let below : a < 2147483648 = ltb-true a 2147483648 e in omega arith
    go false e = let above : 2147483648 ≤ a = ltb-false a 2147483648 e in omega arith

pub signed_word : (a : ℕ) → a ≤ greatest → mag (cast_signed w32 a) ≤ greatest
signed_word a h = let f : mag (cast_signed w32 a) ≤ 2147483647 = signed_fits a h in omega arith

abs_mag : (z : ℤ) → unsigned_abs z ≤ mag z + 1
abs_mag (pos n) = omega arith
abs_mag (negsuc n) = omega arith

-- ---- shifts, quotients and remainders

pub shifted_fits : (a k : ℕ) → a ≤ greatest → cast_unsigned w32 (int_shr (cast_signed w32 a) k) ≤ greatest
shifted_fits a k h =
    let s : mag (cast_signed w32 a) ≤ greatest = signed_word a h in
    let le : mag (int_shr (cast_signed w32 a) k) ≤ mag (cast_signed w32 a) = mag_shr (cast_signed w32 a) (2 ^ k) in
    as_word_fits (int_shr (cast_signed w32 a) k) (omega arith)

quotient_le : (a b : ℕ) → a / b ≤ a
quotient_le a b = div-le_self a b

mag_neg : (r : ℕ) → mag (neg_ℤ (pos r)) ≤ r
mag_neg zero = omega arith
mag_neg (suc r) = omega arith

divided : (x y : ℤ) → mag x ≤ 2147483647 → mag (int_div x y) ≤ greatest
divided (pos a) (pos b) h = let q : a / b ≤ a = quotient_le a b in omega arith
divided (pos a) (negsuc b) h =
    let q : a / suc b ≤ a = quotient_le a (suc b) in
    let n : mag (neg_ℤ (pos (a / suc b))) ≤ a / suc b = mag_neg (a / suc b) in
    omega arith
divided (negsuc a) (pos b) h =
    let q : suc a / b ≤ suc a = quotient_le (suc a) b in
    let n : mag (neg_ℤ (pos (suc a / b))) ≤ suc a / b = mag_neg (suc a / b) in
    omega arith
divided (negsuc a) (negsuc b) h = let q : suc a / suc b ≤ suc a = quotient_le (suc a) (suc b) in omega arith

pub divided_fits : (a b : ℕ) → a ≤ greatest → cast_unsigned w32 (int_div (cast_signed w32 a) (cast_signed w32 b)) ≤ greatest
divided_fits a b h =
    as_word_fits (int_div (cast_signed w32 a) (cast_signed w32 b)) (divided (cast_signed w32 a) (cast_signed w32 b) (signed_fits a h))

pub left_over_fits : (a b : ℕ) → a ≤ greatest → cast_unsigned w32 (int_rem (cast_signed w32 a) (cast_signed w32 b)) ≤ greatest
left_over_fits a b h =
    let s : mag (cast_signed w32 a) ≤ greatest = signed_word a h in
    let le : mag (int_rem (cast_signed w32 a) (cast_signed w32 b)) ≤ mag (cast_signed w32 a) = mag_rem (cast_signed w32 a) (cast_signed w32 b) in
    as_word_fits (int_rem (cast_signed w32 a) (cast_signed w32 b)) (omega arith)

-- ---- products

upper_fits : (n : ℕ) → n < 2 ^ 64 → n / 2 ^ 32 ≤ greatest
upper_fits n h = omega arith

-- the upper half of a product of a signed word and a number that is no greater than a word
product_fits : (x y : ℤ) → mag x ≤ 2147483647 → unsigned_abs y ≤ 4294967296 → cast_unsigned w64 (x *ℤ y) / 2 ^ 32 ≤ greatest
product_fits x y h k =
    let bx : unsigned_abs x ≤ 2147483648 = (let m : unsigned_abs x ≤ mag x + 1 = abs_mag x in omega arith) in
    let both : unsigned_abs x * unsigned_abs y ≤ 2147483648 * 4294967296 = mul-le (unsigned_abs x) (unsigned_abs y) 2147483648 4294967296 bx k in
    let e : unsigned_abs (x *ℤ y) ≡ unsigned_abs x * unsigned_abs y = unsigned_abs-mul x y in
    let all : unsigned_abs (x *ℤ y) ≤ 9223372036854775808 = rw e both in
    upper_fits (cast_unsigned w64 (x *ℤ y)) (as_double_fits (x *ℤ y) all)

pub signed_product_fits : (a b : ℕ) → a ≤ greatest → b ≤ greatest
    → cast_unsigned w64 (cast_signed w32 a *ℤ cast_signed w32 b) / 2 ^ 32 ≤ greatest
signed_product_fits a b h k =
    let s : mag (cast_signed w32 b) ≤ 2147483647 = signed_fits b k in
    let m : unsigned_abs (cast_signed w32 b) ≤ mag (cast_signed w32 b) + 1 = abs_mag (cast_signed w32 b) in
    product_fits (cast_signed w32 a) (cast_signed w32 b) (signed_fits a h) (omega arith)

pub mixed_product_fits : (a b : ℕ) → a ≤ greatest → b ≤ greatest → cast_unsigned w64 (cast_signed w32 a *ℤ pos b) / 2 ^ 32 ≤ greatest
mixed_product_fits a b h k = product_fits (cast_signed w32 a) (pos b) (signed_fits a h) (omega arith)

pub product_of_words_fits : (a b : ℕ) → a ≤ greatest → b ≤ greatest → a * b / 2 ^ 32 ≤ greatest
product_of_words_fits a b h k =
    let both : a * b ≤ 4294967295 * 4294967295 = mul-le a b 4294967295 4294967295 h k in
    upper_fits (a * b) (omega arith)

-- ---- signs

pub extended_byte_fits : (a : ℕ) → cast_unsigned w32 (cast_signed w8 (a % 2 ^ 8)) ≤ greatest
extended_byte_fits a = go (nat_lt (a % 2 ^ 8) 128)
  where
    below : a % 2 ^ 8 < 256
    below = omega arith

    go : (b : Bool) → cast_unsigned w32 (if b then pos (a % 2 ^ 8) else negsuc (256 - suc (a % 2 ^ 8))) ≤ greatest
    go true = let h : a % 2 ^ 8 < 256 = below in omega arith
    go false = omega arith

pub extended_half_fits : (a : ℕ) → cast_unsigned w32 (cast_signed w16 (a % 2 ^ 16)) ≤ greatest
extended_half_fits a = go (nat_lt (a % 2 ^ 16) 32768)
  where
    below : a % 2 ^ 16 < 65536
    below = omega arith

    go : (b : Bool) → cast_unsigned w32 (if b then pos (a % 2 ^ 16) else negsuc (65536 - suc (a % 2 ^ 16))) ≤ greatest
    go true = let h : a % 2 ^ 16 < 65536 = below in omega arith
    go false = omega arith

-- ---- bits

pub xor_fits : (a b : ℕ) → a ≤ greatest → b ≤ greatest → bit_xor a b ≤ greatest
xor_fits a b h k = let f : bit_xor a b < 2 ^ 32 = xor_of_32 a b (omega arith) (omega arith) in omega arith

pub or_fits : (a b : ℕ) → a ≤ greatest → b ≤ greatest → bit_or a b ≤ greatest
or_fits a b h k = let f : bit_or a b < 2 ^ 32 = or_of_32 a b (omega arith) (omega arith) in omega arith

pub and_fits : (a b : ℕ) → a ≤ greatest → bit_and a b ≤ greatest
and_fits a b h = let f : bit_and a b ≤ a = and_le_l a b in omega arith

-- ---- arithmetic

pub wraps_fits : (n : ℕ) → n % 2 ^ 32 ≤ greatest
wraps_fits n = omega arith

pub quotient_fits : (a b : ℕ) → a ≤ greatest → a / b ≤ greatest
quotient_fits a b h = let q : a / b ≤ a = quotient_le a b in omega arith

pub remainder_fits : (a b : ℕ) → a ≤ greatest → a % b ≤ greatest
remainder_fits a b h = let q : a % b ≤ a = mod-le a b in omega arith
