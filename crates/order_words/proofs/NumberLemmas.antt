-- Numbers without leading zeros.
use Rattle.std.proofs.Common.{◌≡◌, ◌∙◌, ◌<◌, ◌≤◌, ◌≢◌, ℕ, zero, suc, Bool, true, false, List, [], ◌∷◌, get_or, length, Option, None, Some, refl, sym, ap, arith, rules}
use Rattle.std.specs.Prelude.{◌^◌, ◌&&◌, codes, decimal, nat_eq, nat_le, if◌then◌else◌}
use Rattle.std.specs.Char.{is_ascii_digit}
use Rattle.std.specs.List.{list_all, starts_with}
use Rattle.std.proofs.lemmas.Bool.{false≢true}
use Rattle.std.proofs.lemmas.Bool.Decides.{nat_tests}
use Rattle.std.proofs.lemmas.Fmt.{decimal-digits_value, decimal_nonempty, digits_decimal, digits_value-decimal, first_decimal, length-decimal-le}
use Rattle.std.proofs.lemmas.Str.Parse.{IsNumeralModel, numerals_by_fold}
use Rattle.event_text.specs.Lines.{is_number, number_after, number_of}
use Rattle.order_words.specs.Values.{IsPlainNumber}

own : IsNumeralModel (λ ds. list_all is_ascii_digit ds ≡ true) (number_after 0)
own = numerals_by_fold _ (search rules) number_after (search rules)

digits_of : (n : ℕ) → n ≤ 255 → list_all is_ascii_digit (decimal n) ≡ true
digits_of n small = digits_decimal own n (omega arith)

-- a small number is read from its digits
decimal_read : (n : ℕ) → n ≤ 255 → number_of (decimal n) ≡ Some n
decimal_read n small =
    let wide : n < 2 ^ 64 = omega arith in
    let few : length (decimal n) ≤ 10 = length-decimal-le 10 n (omega arith) (omega arith) wide in
    let some : 0 < length (decimal n) = decimal_nonempty n wide in
    if_all (nat_le 1 (length (decimal n))) (nat_le (length (decimal n)) 10) (list_all is_ascii_digit (decimal n)) (Some (number_after 0 (decimal n)))
    (grind (arith, nat_tests, some)) (grind (arith, nat_tests, few)) (digits_of n small)
    ∙ ap Some (digits_value-decimal own n wide)
  where
    if_all : (a b c : Bool) (x : Option ℕ) → a ≡ true → b ≡ true → c ≡ true → (if (a && b) && c then x else None) ≡ x
    if_all true true true x a b c = refl
    if_all true true false x a b c = absurd (false≢true c)
    if_all true false c x a b e = absurd (false≢true b)
    if_all false b c x a d e = absurd (false≢true a)

pub is_small : (word : List ℕ) (n : ℕ) (least most : ℕ) → most ≤ 255 → IsPlainNumber least most word n → number_of word ≡ Some n
is_small word n least most small plain = ap number_of plain.spelled ∙ decimal_read n (let a = plain.within.1 in omega arith)

-- a word that is no number at all
pub no_digits : (word : List ℕ) (n : ℕ) (least most : ℕ) → most ≤ 255 → is_number word ≡ false → IsPlainNumber least most word n → ⊥
no_digits word n least most small none plain = go (is_number word) none (is_small word n least most small plain)
  where
    go : (b : Bool) → b ≡ false → (if b then Some (number_after 0 word) else None) ≡ Some n → ⊥
    go true e f = false≢true (sym e)
    go false e f = cc

-- the number that a word spells, in whichever way
pub same_number : (word : List ℕ) (m n : ℕ) (least most : ℕ) → most ≤ 255 → is_number word ≡ true → m ≡ number_after 0 word → IsPlainNumber least most word n → m ≡ n
same_number word m n least most small is e plain = e ∙ go (is_number word) is (is_small word n least most small plain)
  where
    go : (b : Bool) → b ≡ true → (if b then Some (number_after 0 word) else None) ≡ Some n → number_after 0 word ≡ n
    go true e f = cc
    go false e f = absurd (false≢true e)

-- ---- leading zeros

zero_first : (word : List ℕ) → starts_with nat_eq word (codes "0") ≡ true → get_or word 0 0 ≡ 48
zero_first [] e = absurd (false≢true e)
zero_first (b ∷ word) e = grind (arith, nat_tests)

zero_starts : (word : List ℕ) → 0 < length word → starts_with nat_eq word (codes "0") ≡ false → get_or word 0 0 ≡ 48 → ⊥
zero_starts [] some e is = omega arith
zero_starts (b ∷ word) some e is = grind (arith, nat_tests)

pub no_zero : (word : List ℕ) (n : ℕ) (least most : ℕ) → 1 ≤ least → most ≤ 255 → starts_with nat_eq word (codes "0") ≡ true → IsPlainNumber least most word n → ⊥
no_zero word n least most low small e plain =
    let a = plain.within.0 in let b = plain.within.1 in
    let first : 48 < get_or (decimal n) 0 0 = first_decimal n (omega arith) (omega arith) in
    let is : get_or word 0 0 ≡ 48 = zero_first word e in
    let same : get_or word 0 0 ≡ get_or (decimal n) 0 0 = ap (λ (w : List ℕ). get_or w 0 0) plain.spelled in
    omega arith

and_third : (a b c : Bool) → ((a && b) && c) ≡ true → (a ≡ true) × (c ≡ true)
and_third true true c e = (refl, e)
and_third true false c e = absurd (false≢true e)
and_third false b c e = absurd (false≢true e)

pub spelled_plainly : (word : List ℕ) (m : ℕ) → is_number word ≡ true → m ≡ number_after 0 word → m ≤ 255 → starts_with nat_eq word (codes "0") ≡ false
    → word ≡ decimal m
spelled_plainly word m is e small first =
    let parts = and_third (nat_le 1 (length word)) (nat_le (length word) 10) (list_all is_ascii_digit word) is in
    let some : 0 < length word = grind (arith, nat_tests, parts.0) in
    let low : number_after 0 word < 2 ^ 64 = omega arith in
    sym (decimal-digits_value own word parts.1 some (λ z. absurd (zero_starts word some first z)) low) ∙ ap decimal (sym e)

-- ---- a point between numbers

all_at : (word : List ℕ) (i : ℕ) → list_all is_ascii_digit word ≡ true → i < length word → is_ascii_digit (get_or word i 0) ≡ true
all_at [] i all low = absurd (omega arith)
all_at (b ∷ word) zero all low = and_left (is_ascii_digit b) (list_all is_ascii_digit word) all
  where
    and_left : (a b : Bool) → (a && b) ≡ true → a ≡ true
    and_left true b e = refl
    and_left false b e = e
all_at (b ∷ word) (suc i) all low = all_at word i (and_right (is_ascii_digit b) (list_all is_ascii_digit word) all) (omega arith)
  where
    and_right : (a b : Bool) → (a && b) ≡ true → b ≡ true
    and_right true b e = e
    and_right false b e = absurd (false≢true e)

-- no digit is a point
pub no_point : (word : List ℕ) (n : ℕ) (least most : ℕ) → most ≤ 255 → IsPlainNumber least most word n → (i : ℕ) → i < length word → get_or word i 0 ≢ 46
no_point word n least most small plain i low is =
    let b = plain.within.1 in
    let digits : list_all is_ascii_digit word ≡ true = ap (list_all is_ascii_digit) plain.spelled ∙ digits_of n (omega arith) in
    let one : is_ascii_digit (get_or word i 0) ≡ true = all_at word i digits low in
    false≢true (ap is_ascii_digit (sym is) ∙ one)
