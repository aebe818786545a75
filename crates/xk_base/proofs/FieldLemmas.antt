-- Laws on the fields of a word: a drawing is read back from its word, and a word from its drawing.
use Rattle.std.proofs.Common.{◌≡◌, ℕ, zero, suc, pred, ◌+◌, ◌-◌, ◌*◌, ◌/◌, ◌%◌, ◌^◌, ◌<◌, ◌≤◌, [], ◌∷◌, refl, sym, ◌∙◌, ap, arith, ℤ, pos, negsuc, ◌<ℤ◌, ◌≤ℤ◌}
use Rattle.std.proofs.lemmas.Bool.{lt-ltb, le-ltb}
use Rattle.std.proofs.lemmas.Int.{ints}
use Rattle.std.proofs.Math.Decide.{dec_lt}
use Rattle.std.proofs.lemmas.Nat.{pow_pos, pow-add, mod-pow-add, shr_high}
use Rattle.std.proofs.Math.Nat.{mod-lt, mod-eq_of_lt, mod-one, div-one, two-pow-succ, suc-mul, mul_assoc, mul-le-mul_right, mul-add-div_right, mul-add-mod_self_right}
use Rattle.std.specs.Int.{w32, cast_unsigned}
use Rattle.xk_base.specs.Numbers.Fields.{field, Drawing, bit_count, word_of, IsDrawn, drawn_like, sign_extended, FitsBits}

pub field_below : (place width word : ℕ) → field place width word < 2 ^ width
field_below place width word = mod-lt (word / 2 ^ place) (pow_pos width)

-- what stands in front of a number of `low` bits fits `high` bits more
front_below : (a r high low : ℕ) → a < 2 ^ high → r < 2 ^ low → a * 2 ^ low + r < 2 ^ (high + low)
front_below a r high low p q =
    rw (pow-add 2 high low) (
    let room : suc a * 2 ^ low ≤ 2 ^ high * 2 ^ low = mul-le-mul_right (2 ^ low) p in
    omega arith)

pub word_of-below : (d : Drawing) → IsDrawn d → word_of d < 2 ^ bit_count d
word_of-below [] h = omega arith
word_of-below (part ∷ parts) h =
    front_below part.1 (word_of parts) part.0 (bit_count parts) h.0 (word_of-below parts h.1)

-- a field doesn't see what stands above it
field-above : (a r place width : ℕ) → field place width (a * 2 ^ (width + place) + r) ≡ field place width r
field-above a r place width =
    rw (pow-add 2 width place, ← mul_assoc a (2 ^ width) (2 ^ place), mul-add-div_right (pow_pos place) (a * 2 ^ width) r)
    (mul-add-mod_self_right a (2 ^ width) (r / 2 ^ place))

drawn_like-above : (d : Drawing) (a r : ℕ) → drawn_like d (a * 2 ^ bit_count d + r) ≡ drawn_like d r
drawn_like-above [] a r = refl
drawn_like-above (part ∷ parts) a r =
    let head : field (bit_count parts) part.0 (a * 2 ^ (part.0 + bit_count parts) + r) ≡ field (bit_count parts) part.0 r = field-above a r (bit_count parts) part.0 in
    let tail : drawn_like parts (a * 2 ^ (part.0 + bit_count parts) + r) ≡ drawn_like parts r =
    rw (pow-add 2 part.0 (bit_count parts), ← mul_assoc a (2 ^ part.0) (2 ^ bit_count parts))
    (drawn_like-above parts (a * 2 ^ part.0) r) in
    cc

-- the parts of a drawing are the fields of its word
pub drawn_like-word_of : (d : Drawing) → IsDrawn d → drawn_like d (word_of d) ≡ d
drawn_like-word_of [] h = refl
drawn_like-word_of (part ∷ parts) h =
    let head : field (bit_count parts) part.0 (part.1 * 2 ^ bit_count parts + word_of parts) ≡ part.1 =
    rw (shr_high part.1 (bit_count parts) (word_of parts) (word_of-below parts h.1)) (mod-eq_of_lt h.0) in
    let tail : drawn_like parts (part.1 * 2 ^ bit_count parts + word_of parts) ≡ parts =
    drawn_like-above parts part.1 (word_of parts) ∙ drawn_like-word_of parts h.1 in
    let rest : Drawing = drawn_like parts (part.1 * 2 ^ bit_count parts + word_of parts) in
    ap (λ v. (part.0, v) ∷ rest) head ∙ ap (λ ps. part ∷ ps) tail

bit_count-drawn_like : (d : Drawing) (word : ℕ) → bit_count (drawn_like d word) ≡ bit_count d
bit_count-drawn_like [] word = refl
bit_count-drawn_like (part ∷ parts) word = ap (λ n. part.0 + n) (bit_count-drawn_like parts word)

pub IsDrawn-drawn_like : (d : Drawing) (word : ℕ) → IsDrawn (drawn_like d word)
IsDrawn-drawn_like [] word = tt
IsDrawn-drawn_like (part ∷ parts) word =
    (field_below (bit_count parts) part.0 word, IsDrawn-drawn_like parts word)

-- the lowest `width` bits of a word that has no more
pub field_whole : (width word : ℕ) → word < 2 ^ width → field 0 width word ≡ word
field_whole width word h = rw (div-one word) (mod-eq_of_lt h)

-- a word is spelled by its fields
pub word_of-drawn_like : (d : Drawing) (word : ℕ) → word_of (drawn_like d word) ≡ field 0 (bit_count d) word
word_of-drawn_like [] word = sym (mod-one (word / 1))
word_of-drawn_like (part ∷ parts) word =
    rw (bit_count-drawn_like parts word, word_of-drawn_like parts word, div-one word)
    (sym (mod-pow-add word part.0 (bit_count parts)))

pub sign_extended-positive : (m n : ℕ) → n < 2 ^ m → sign_extended (suc m) n ≡ pos n
sign_extended-positive m n h =
    let less : suc m - 1 ≡ m = omega arith in
    rw (less, lt-ltb n (2 ^ m) h) refl

pub sign_extended-negative : (m n : ℕ) → 2 ^ m ≤ n → sign_extended (suc m) n ≡ negsuc (2 ^ suc m - 1 - n)
sign_extended-negative m n h =
    let less : suc m - 1 ≡ m = omega arith in
    rw (less, le-ltb n (2 ^ m) h) refl

-- what is extended by its sign fits
pub sign_extended-fits : (m n : ℕ) → n < 2 ^ suc m → FitsBits (suc m) (sign_extended (suc m) n)
sign_extended-fits m n h =
    let less : suc m - 1 ≡ m = omega arith in
    let some : 0 < 2 ^ m = pow_pos m in
    let double : 2 ^ suc m ≡ 2 ^ m + 2 ^ m = two-pow-succ m in
    elim (dec_lt n (2 ^ m)) as (λ _. FitsBits (suc m) (sign_extended (suc m) n)) [
      | yes below ↦ rw (sign_extended-positive m n below, less) (omega (arith, ints), omega (arith, ints))
      | no above ↦ let high : 2 ^ m ≤ n = omega arith in rw (sign_extended-negative m n high, less) (omega (arith, ints), omega (arith, ints))
    ]

taken_out : (times part : ℕ) → 0 < times → times * part ≡ pred times * part + part
taken_out zero part h = absurd (omega arith)
taken_out (suc less) part h = suc-mul less part

-- the lowest bits of a number below 0 in a word of a whole number of such parts
low_of_minus : (times part n : ℕ) → 0 < times → n < part → (times * part - suc n) % part ≡ part - suc n
low_of_minus times part n h below =
    let out : times * part ≡ pred times * part + part = taken_out times part h in
    let turned : times * part - suc n ≡ pred times * part + (part - suc n) = omega arith in
    rw (turned, mul-add-mod_self_right (pred times) part (part - suc n)) (mod-eq_of_lt (omega arith))

-- A word of 32 bits as a signed number's two's complement: its lowest m + 1 bits, with `more` bits above them.
module _ (m more : ℕ) (whole : 2 ^ 32 ≡ 2 ^ more * 2 ^ suc m) where
  low-positive : (n : ℕ) → n < 2 ^ m → n % 2 ^ suc m ≡ n
  low-positive n h = let double : 2 ^ suc m ≡ 2 ^ m + 2 ^ m = two-pow-succ m in mod-eq_of_lt (omega arith)

  low-negative : (n : ℕ) → n < 2 ^ m → cast_unsigned w32 (negsuc n) % 2 ^ suc m ≡ 2 ^ suc m - suc n
  low-negative n h =
      let double : 2 ^ suc m ≡ 2 ^ m + 2 ^ m = two-pow-succ m in
      let as_parts : cast_unsigned w32 (negsuc n) ≡ 2 ^ more * 2 ^ suc m - suc n = ap (λ all. all - suc n) whole in
      rw as_parts (low_of_minus (2 ^ more) (2 ^ suc m) n (pow_pos more) (omega arith))

  -- the lowest bits of a signed number that fits them, extended by their sign, are the number
  pub sign_extended-low : (z : ℤ) → FitsBits (suc m) z → sign_extended (suc m) (cast_unsigned w32 z % 2 ^ suc m) ≡ z
  sign_extended-low (pos n) h =
      let less : suc m - 1 ≡ m = omega arith in
      let fits : pos n <ℤ pos (2 ^ m) = rw less at h.1 in
      let below : n < 2 ^ m = omega (arith, ints, fits) in
      rw (low-positive n below) (sign_extended-positive m n below)
  sign_extended-low (negsuc n) h =
      let less : suc m - 1 ≡ m = omega arith in
      let fits : negsuc (2 ^ m - 1) ≤ℤ negsuc n = rw less at h.0 in
      let some : 0 < 2 ^ m = pow_pos m in
      let below : n < 2 ^ m = omega (arith, ints, fits) in
      let double : 2 ^ suc m ≡ 2 ^ m + 2 ^ m = two-pow-succ m in
      let back : 2 ^ suc m - 1 - (2 ^ suc m - suc n) ≡ n = omega arith in
      rw (low-negative n below) (sign_extended-negative m (2 ^ suc m - suc n) (omega arith) ∙ ap negsuc back)

  -- and back
  pub low-sign_extended : (n : ℕ) → n < 2 ^ suc m → cast_unsigned w32 (sign_extended (suc m) n) % 2 ^ suc m ≡ n
  low-sign_extended n h =
      let double : 2 ^ suc m ≡ 2 ^ m + 2 ^ m = two-pow-succ m in
      elim (dec_lt n (2 ^ m)) as (λ _. cast_unsigned w32 (sign_extended (suc m) n) % 2 ^ suc m ≡ n) [
        | yes below ↦ rw (sign_extended-positive m n below) (low-positive n below)
        | no above ↦
            let high : 2 ^ m ≤ n = omega arith in
            rw (sign_extended-negative m n high)
            (low-negative (2 ^ suc m - 1 - n) (omega arith) ∙ omega arith)
      ]
