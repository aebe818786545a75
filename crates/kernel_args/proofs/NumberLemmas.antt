-- Numbers of a few bytes, read and written.
use Rattle.std.proofs.Common.{◌≡◌, ℕ, suc, ◌+◌, ◌*◌, ◌/◌, ◌%◌, ◌^◌, ◌<◌, ◌≤◌, List, [], ◌∷◌, ◌++◌, length, take, drop, get_or, sym, ap, subst, arith, inl, inr}
use Rattle.std.proofs.lemmas.List.{append-nil, get_or-append-add, get_or_append_left, get_or-drop, get_or-take, get_or_past, length-take}
use Rattle.std.proofs.lemmas.Bool.{cases_lt}
use Rattle.byteorder.specs.Endian.{little_bytes, little_number}
use Rattle.byteorder.specs.Numbers.{little_number-reads_back, little_from-lt}
use Rattle.kernel_args.specs.Contents.{word}

abbrev pub IsBytes : List ℕ → Type 0
IsBytes bytes = (i : ℕ) → get_or bytes i 0 < 256

pub IsBytes-drop : (n : ℕ) (bytes : List ℕ) → IsBytes bytes → IsBytes (drop n bytes)
IsBytes-drop n bytes h i = rw get_or-drop (h (n + i))

pub IsBytes-take : (n : ℕ) (bytes : List ℕ) → IsBytes bytes → IsBytes (take n bytes)
IsBytes-take n bytes h i =
    elim (cases_lt i n) [
      | inl lt ↦ rw (get_or-take n bytes i 0 lt) (h i)
      | inr le ↦ rw (get_or_past (take n bytes) i 0 (omega (arith, length-take n bytes))) (omega arith)
    ]

pub IsBytes-tail : (b : ℕ) (bytes : List ℕ) → IsBytes (b ∷ bytes) → IsBytes bytes
IsBytes-tail b bytes h i = h (suc i)

-- what was written is read
pub number_again : (n x : ℕ) → x < 256 ^ n → little_number n (little_bytes n x) ≡ x
number_again n x lt = subst (λ (bytes : List ℕ). little_number n bytes ≡ x) (append-nil (little_bytes n x)) (little_number-reads_back n x [] lt)

-- what was read is written
pub bytes_again_2 : (a b : ℕ) → a < 256 → b < 256 → little_bytes 2 (little_number 2 (a ∷ b ∷ [])) ≡ a ∷ b ∷ []
bytes_again_2 a b p q =
    let first : (a + 256 * (b + 256 * 0)) % 256 ≡ a = omega arith in
    let second : (a + 256 * (b + 256 * 0)) / 256 % 256 ≡ b = omega arith in
    cc

pub bytes_again_3 : (a b c : ℕ) → a < 256 → b < 256 → c < 256 → little_bytes 3 (little_number 3 (a ∷ b ∷ c ∷ [])) ≡ a ∷ b ∷ c ∷ []
bytes_again_3 a b c p q r =
    let n = a + 256 * (b + 256 * (c + 256 * 0)) in
    let first : n % 256 ≡ a = omega arith in
    let second : n / 256 % 256 ≡ b = omega arith in
    let third : n / 65536 % 256 ≡ c = omega arith in
    cc

pub bytes_again_4 : (a b c d : ℕ) → a < 256 → b < 256 → c < 256 → d < 256 → little_bytes 4 (little_number 4 (a ∷ b ∷ c ∷ d ∷ [])) ≡ a ∷ b ∷ c ∷ d ∷ []
bytes_again_4 a b c d p q r s =
    let n = a + 256 * (b + 256 * (c + 256 * (d + 256 * 0))) in
    let first : n % 256 ≡ a = omega arith in
    let second : n / 256 % 256 ≡ b = omega arith in
    let third : n / 65536 % 256 ≡ c = omega arith in
    let fourth : n / 16777216 % 256 ≡ d = omega arith in
    cc

-- a word at the front
pub word_split : (bytes : List ℕ) → IsBytes bytes → 4 ≤ length bytes → bytes ≡ word (little_number 4 bytes) ++ drop 4 bytes
word_split (a ∷ b ∷ c ∷ d ∷ rest) fits long = ap (λ (x : List ℕ). x ++ rest) (sym (bytes_again_4 a b c d (fits 0) (fits 1) (fits 2) (fits 3)))
word_split (a ∷ b ∷ c ∷ []) fits long = absurd (omega arith)
word_split (a ∷ b ∷ []) fits long = absurd (omega arith)
word_split (a ∷ []) fits long = absurd (omega arith)
word_split [] fits long = absurd (omega arith)

-- four bytes are a word
pub one_word : (bytes : List ℕ) → IsBytes bytes → length bytes ≡ 4 → bytes ≡ word (little_number 4 bytes)
one_word (a ∷ b ∷ c ∷ d ∷ []) fits four = sym (bytes_again_4 a b c d (fits 0) (fits 1) (fits 2) (fits 3))
one_word (a ∷ b ∷ c ∷ d ∷ e ∷ rest) fits four = absurd (omega arith)
one_word (a ∷ b ∷ c ∷ []) fits four = absurd (omega arith)
one_word (a ∷ b ∷ []) fits four = absurd (omega arith)
one_word (a ∷ []) fits four = absurd (omega arith)
one_word [] fits four = absurd (omega arith)

pub word_front : (n : ℕ) (rest : List ℕ) → n < 2 ^ 32 → little_number 4 (word n ++ rest) ≡ n
word_front n rest lt = little_number-reads_back 4 n rest lt

pub number_lt : (bytes : List ℕ) → IsBytes bytes → little_number 4 bytes < 2 ^ 32
number_lt bytes fits = little_from-lt 0 4 bytes fits

pub IsBytes-right : (xs ys : List ℕ) → IsBytes (xs ++ ys) → IsBytes ys
IsBytes-right xs ys h i = rw (← get_or-append-add xs ys i 0) (h (length xs + i))

pub IsBytes-left : (xs ys : List ℕ) → IsBytes (xs ++ ys) → IsBytes xs
IsBytes-left xs ys h i =
    elim (cases_lt i (length xs)) [
      | inl lt ↦ rw (← get_or_append_left xs ys 0 i lt) (h i)
      | inr le ↦ rw (get_or_past xs i 0 le) (omega arith)
    ]
