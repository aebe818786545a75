-- Numbers as decimal digits, and texts without the bytes that end lines.
use Rattle.std.proofs.Common.{◌≡◌, ℕ, ◌+◌, ◌-◌, ◌*◌, ◌<◌, ◌≤◌, ◌==◌, Bool, true, false, List, [], ◌∷◌, ◌++◌, length, Some, None, refl, ap, ◌∙◌, arith, rules}
use Rattle.std.specs.Prelude.{◌^◌, ◌&&◌, ◌/◌, ◌%◌, decimal, nat_le, if◌then◌else◌}
use Rattle.std.specs.Char.{is_ascii_digit}
use Rattle.std.specs.List.{list_all}
use Rattle.std.proofs.lemmas.Bool.Decides.{nat_tests}
use Rattle.std.proofs.lemmas.Fmt.{decimal_by_steps, decimal_nonempty, length-decimal-le}
use Rattle.event_text.specs.Lines.{at_most, number_after, number_up_to}

-- ---- bytes

-- it is no byte that ends a line, a carriage return or a space
pub record IsPlain (byte : ℕ) : Type 0 where
  pub feed : (byte == 10) ≡ false
  pub return : (byte == 13) ≡ false
  pub space : (byte == 32) ≡ false

pub data ArePlain : List ℕ → Type 0 where
  NoByte : ArePlain []
  OneByte : (byte : ℕ) (bytes : List ℕ) → IsPlain byte → ArePlain bytes → ArePlain (byte ∷ bytes)

pub plain_append : (a b : List ℕ) → ArePlain a → ArePlain b → ArePlain (a ++ b)
plain_append _ b NoByte plain = plain
plain_append _ b (OneByte byte bytes one rest) plain = OneByte byte (bytes ++ b) one (plain_append bytes b rest plain)

-- ---- digits

digit_plain : (d : ℕ) → d < 10 → IsPlain (48 + d)
digit_plain d small = record { feed = grind (arith, nat_tests); return = grind (arith, nat_tests); space = grind (arith, nat_tests) }

digit_is : (d : ℕ) → d < 10 → is_ascii_digit (48 + d) ≡ true
digit_is d small = grind (arith, nat_tests)

number_more : (high : ℕ) (ds : List ℕ) (digit : ℕ) → number_after high (ds ++ digit ∷ []) ≡ number_after high ds * 10 + (digit - 48)
number_more high [] digit = refl
number_more high (d ∷ ds) digit = number_more (high * 10 + (d - 48)) ds digit

digits_more : (ds : List ℕ) (digit : ℕ) → list_all is_ascii_digit ds ≡ true → is_ascii_digit digit ≡ true
    → list_all is_ascii_digit (ds ++ digit ∷ []) ≡ true
digits_more [] digit all one = rw one refl
digits_more (d ∷ ds) digit all one = go (is_ascii_digit d) (list_all is_ascii_digit ds) (λ rest. digits_more ds digit rest one) all
  where
    go : (a b : Bool) → (b ≡ true → list_all is_ascii_digit (ds ++ digit ∷ []) ≡ true) → (a && b) ≡ true
        → (a && list_all is_ascii_digit (ds ++ digit ∷ [])) ≡ true
    go true b rest e = rest e
    go false b rest e = e

-- what the digits of a number are
pub record AreDigitsOf (n : ℕ) (ds : List ℕ) : Type 0 where
  pub digits : list_all is_ascii_digit ds ≡ true
  pub number : number_after 0 ds ≡ n
  pub plain : ArePlain ds

one_digit : (n : ℕ) → n < 10 → AreDigitsOf n ((48 + n) ∷ [])
one_digit n small = record {
  digits = rw (digit_is n small) refl;
  number = (let same : 0 + ((48 + n) - 48) ≡ n = omega arith in same);
  plain = OneByte (48 + n) [] (digit_plain n small) NoByte;
}

more_digits : (n : ℕ) (ds : List ℕ) → 10 ≤ n → AreDigitsOf (n / 10) ds → AreDigitsOf n (ds ++ (48 + n % 10) ∷ [])
more_digits n ds more h =
    let small : n % 10 < 10 = omega arith in
    record {
      digits = digits_more ds (48 + n % 10) h.digits (digit_is (n % 10) small);
      number =
          number_more 0 ds (48 + n % 10)
          ∙ (let high : number_after 0 ds ≡ n / 10 = h.number in let sum : number_after 0 ds * 10 + ((48 + n % 10) - 48) ≡ n = omega (arith, high) in sum);
      plain = plain_append ds ((48 + n % 10) ∷ []) h.plain (OneByte (48 + n % 10) [] (digit_plain (n % 10) small) NoByte);
    }

pub are_digits : (n : ℕ) → n < 2 ^ 64 → AreDigitsOf n (decimal n)
are_digits n fits = decimal_by_steps AreDigitsOf one_digit more_digits n fits

-- the number that its digits spell
if_both : {A : Type 0} (a b c : Bool) (x y : A) → a ≡ true → b ≡ true → c ≡ true → (if (a && b) && c then x else y) ≡ x
if_both true true true x y a b c = refl
if_both false b c x y a b' c' = absurd (let no : ⊥ = search (rules, a) in no)
if_both true false c x y a b c' = absurd (let no : ⊥ = search (rules, b) in no)
if_both true true false x y a b c = absurd (let no : ⊥ = search (rules, c) in no)

pub number_read : (most n : ℕ) → n ≤ most → n < 2 ^ 32 → number_up_to most (decimal n) ≡ Some n
unfolding number_up_to
number_read most n within fits =
    let wide : n < 2 ^ 64 = omega arith in
    let few : length (decimal n) ≤ 10 = length-decimal-le 10 n (omega arith) (omega arith) wide in
    let some : 0 < length (decimal n) = decimal_nonempty n wide in
    let ds = are_digits n wide in
    ap (at_most most)
    (if_both (nat_le 1 (length (decimal n))) (nat_le (length (decimal n)) 10) (list_all is_ascii_digit (decimal n))
    (Some (number_after 0 (decimal n))) None (grind (arith, nat_tests, some)) (grind (arith, nat_tests, few)) ds.digits
    ∙ ap Some ds.number)
    ∙ at (nat_le n most) (grind (arith, nat_tests, within))
  where
    at : (b : Bool) → b ≡ true → (if b then Some n else None) ≡ Some n
    at true e = refl
    at false e = absurd (let no : ⊥ = search (rules, e) in no)
