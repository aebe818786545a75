-- Lemmas on the words and numbers of a line.
use Rattle.std.proofs.Common.{◌≡◌, ◌≢◌, ℕ, zero, suc, ◌+◌, ◌-◌, ◌*◌, ◌<◌, ◌≤◌, ◌^◌, ◌==◌, List, [], ◌∷◌, ◌++◌, length, take, drop, get_or, refl, ap, ◌∙◌, arith, false, add-one, filter, length-take}
use Rattle.std.proofs.lemmas.Bool.Decides.{nat_tests}
use Rattle.std.proofs.lemmas.List.Splits.{slice_split-cons_no}
use Rattle.std.proofs.Math.Nat.{pow-suc}
use Rattle.std.specs.List.{slice_split, onto_first}
use Rattle.event_text.specs.Lines.{number_after, words_of, is_not_empty}

-- one more digit
pub number_after-append : (high : ℕ) (text : List ℕ) (digit : ℕ) → number_after high (text ++ digit ∷ []) ≡ number_after high text * 10 + (digit - 48)
number_after-append high [] digit = refl
number_after-append high (d ∷ text) digit = number_after-append (high * 10 + (d - 48)) text digit

pub digits_bound : (i n d : ℕ) → n < 10 ^ i → d ≤ 9 → n * 10 + d < 10 ^ (i + 1)
digits_bound i n d below small = rw (add-one i, pow-suc 10 i) (omega arith)

-- the first part ends at the first space
pub split_at : (bytes : List ℕ) (i : ℕ) → i < length bytes → get_or bytes i 0 ≡ 32 → ((k : ℕ) → k < i → get_or bytes k 0 ≢ 32) → slice_split (λ b. b == 32) bytes ≡ take i bytes ∷ slice_split (λ b. b == 32) (drop (i + 1) bytes)
split_at [] i inside space before = absurd (omega arith)
split_at (b ∷ bytes) zero inside space before = rw space refl
split_at (b ∷ bytes) (suc i) inside space before =
    let e : suc i + 1 ≡ suc (i + 1) = omega arith in
    let other : b ≢ 32 = before 0 (omega arith) in
    let test : (b == 32) ≡ false = grind (arith, nat_tests) in
    rw e (slice_split-cons_no (λ b. b == 32) b bytes test
    ∙ ap (onto_first b) (split_at bytes i (omega arith) space (λ k h. before (suc k) (omega arith))))

-- a text without spaces is one part
pub split_alone : (bytes : List ℕ) → ((k : ℕ) → k < length bytes → get_or bytes k 0 ≢ 32) → slice_split (λ b. b == 32) bytes ≡ bytes ∷ []
split_alone [] none = refl
split_alone (b ∷ bytes) none =
    let other : b ≢ 32 = none 0 (omega arith) in
    let test : (b == 32) ≡ false = grind (arith, nat_tests) in
    slice_split-cons_no (λ b. b == 32) b bytes test
    ∙ ap (onto_first b) (split_alone bytes (λ k h. none (suc k) (omega arith)))

-- a space in front makes no word
pub words_skip : (bytes : List ℕ) → 0 < length bytes → get_or bytes 0 0 ≡ 32 → words_of (drop 1 bytes) ≡ words_of bytes
unfolding words_of
words_skip [] some space = absurd (omega arith)
words_skip (b ∷ bytes) some space = rw space refl

-- .. and so do as many as there are
pub words_from : (bytes : List ℕ) (i : ℕ) → i ≤ length bytes → ((k : ℕ) → k < i → get_or bytes k 0 ≡ 32) → words_of (drop i bytes) ≡ words_of bytes
words_from bytes zero inside spaces = refl
words_from [] (suc i) inside spaces = absurd (omega arith)
words_from (b ∷ bytes) (suc i) inside spaces =
    words_from bytes i (omega arith) (λ k h. spaces (suc k) (omega arith))
    ∙ words_skip (b ∷ bytes) (omega arith) (spaces 0 (omega arith))

kept_first : (word : List ℕ) (parts : List (List ℕ)) → 0 < length word → filter is_not_empty (word ∷ parts) ≡ word ∷ filter is_not_empty parts
kept_first [] parts some = absurd (omega arith)
kept_first (b ∷ word) parts some = refl

-- a word that ends at a space
pub words_cut : (bytes : List ℕ) (i : ℕ) → i < length bytes → get_or bytes i 0 ≡ 32 → ((k : ℕ) → k < i → get_or bytes k 0 ≢ 32) → 0 < i → words_of bytes ≡ take i bytes ∷ words_of (drop (i + 1) bytes)
unfolding words_of
words_cut bytes i inside space before some =
    let long : 0 < length (take i bytes) = simp length-take (omega arith) in
    ap (filter is_not_empty) (split_at bytes i inside space before)
    ∙ kept_first (take i bytes) (slice_split (λ b. b == 32) (drop (i + 1) bytes)) long

-- a word at the end of the text
pub words_only : (bytes : List ℕ) → ((k : ℕ) → k < length bytes → get_or bytes k 0 ≢ 32) → 0 < length bytes → words_of bytes ≡ bytes ∷ []
unfolding words_of
words_only bytes none some =
    ap (filter is_not_empty) (split_alone bytes none) ∙ kept_first bytes [] some

pub words_none : words_of [] ≡ []
unfolding words_of
words_none = refl
