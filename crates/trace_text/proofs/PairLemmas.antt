-- The table of pairs has the digits of each byte, and those of a word's four bytes are the word's.
use Rattle.std.proofs.Common.{◌≡◌, ℕ, zero, suc, ◌+◌, ◌-◌, ◌*◌, ◌/◌, ◌%◌, ◌<◌, Bool, true, ◌&&◌, [], ◌∷◌, get_or, refl, arith, eqb, T, inl, inr, eqb→eq, eq-zero-or-pos}
use Rattle.std.proofs.lemmas.Bool.Decides.{nat_tests}
use Rattle.std.specs.Char.{digit_char}
use lib.Ieee.Fits.{and_l, and_r}
use Rattle.trace_text.specs.Words.{word_text}
use Rattle.trace_text.specs.declared.digits.TheConstants.{PAIRS}

-- the digits of a byte as they stand in the table
abbrev pair_of : ℕ → ℕ
pair_of b = digit_char (b / 16) + 256 * digit_char (b % 16)

-- the first n places have the digits of their numbers
abbrev are_pairs : ℕ → Bool
are_pairs zero = true
are_pairs (suc b) = eqb (get_or PAIRS b 0) (pair_of b) && are_pairs b

all_are : T (are_pairs 256)
all_are = tt

at_place : (n b : ℕ) → T (are_pairs n) → b < n → get_or PAIRS b 0 ≡ pair_of b
at_place zero b t h = absurd (omega arith)
at_place (suc n) b t h =
    elim (eq-zero-or-pos (n - b)) [
      | inl z ↦ let e : b ≡ n = omega arith in rw e (eqb→eq _ _ (and_l _ (are_pairs n) t))
      | inr g ↦ at_place n b (and_r _ (are_pairs n) t) (omega arith)
    ]

digit_is_a_byte : (d : ℕ) → d < 16 → digit_char d < 256
digit_is_a_byte d fits = grind (arith, nat_tests)

-- the two halves of a place are the digits of its byte
first_of_pair : (b : ℕ) → b < 256 → get_or PAIRS b 0 % 256 ≡ digit_char (b / 16)
first_of_pair b fits =
    let first = digit_is_a_byte (b / 16) (omega arith) in
    rw (at_place 256 b all_are fits) (omega arith)

second_of_pair : (b : ℕ) → b < 256 → get_or PAIRS b 0 / 256 % 256 ≡ digit_char (b % 16)
second_of_pair b fits =
    let first = digit_is_a_byte (b / 16) (omega arith) in
    let second = digit_is_a_byte (b % 16) (omega arith) in
    rw (at_place 256 b all_are fits) (omega arith)

-- the pairs of a word's bytes are its digits
pub pairs_of_word : (w first second third fourth : ℕ) → first ≡ w / 16777216 % 256 → second ≡ w / 65536 % 256 → third ≡ w / 256 % 256
    → fourth ≡ w % 256
    → get_or PAIRS first 0 % 256 ∷ get_or PAIRS first 0 / 256 % 256 ∷ get_or PAIRS second 0 % 256 ∷ get_or PAIRS second 0 / 256 % 256
    ∷ get_or PAIRS third 0 % 256 ∷ get_or PAIRS third 0 / 256 % 256 ∷ get_or PAIRS fourth 0 % 256 ∷ get_or PAIRS fourth 0 / 256 % 256 ∷ []
    ≡ word_text w
pairs_of_word w first second third fourth one two three four =
    let a : first / 16 ≡ w / 268435456 % 16 = omega arith in
    let b : first % 16 ≡ w / 16777216 % 16 = omega arith in
    let c : second / 16 ≡ w / 1048576 % 16 = omega arith in
    let d : second % 16 ≡ w / 65536 % 16 = omega arith in
    let e : third / 16 ≡ w / 4096 % 16 = omega arith in
    let f : third % 16 ≡ w / 256 % 16 = omega arith in
    let g : fourth / 16 ≡ w / 16 % 16 = omega arith in
    let h : fourth % 16 ≡ w / 1 % 16 = omega arith in
    rw (
      first_of_pair first (omega arith),
      second_of_pair first (omega arith),
      first_of_pair second (omega arith),
      second_of_pair second (omega arith),
      first_of_pair third (omega arith),
      second_of_pair third (omega arith),
      first_of_pair fourth (omega arith),
      second_of_pair fourth (omega arith),
      a,
      b,
      c,
      d,
      e,
      f,
      g,
      h,
    ) refl
