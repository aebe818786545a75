-- The register after 64 zero bytes at once, by tables for 64 and for 63.
use Rattle.std.proofs.Common.{◌≡◌, ℕ, zero, suc, ◌+◌, ◌*◌, ◌/◌, ◌%◌, ◌<◌, List, length, get_or, refl, sym, ap, ap₂, ◌∙◌, arith, bit_xor, map, replicate}
use Rattle.std.specs.List.{flat_map}
use Rattle.std.proofs.lemmas.List.{get_or-map}
use Rattle.std.proofs.lemmas.List.Concat.{flat_map-cons}
use Rattle.kernel_args.specs.CheckNumber.{bits, register_after}
use Rattle.kernel_args.specs.declared.check_tables.TheConstants.{AFTER_SEVEN, AFTER_EIGHT, AFTER_SIXTY_THREE, AFTER_SIXTY_FOUR}
use Rattle.kernel_args.proofs.CheckLemmas.{register_after-append, register_fits}
use Rattle.kernel_args.proofs.GroupLemmas.{IsTable, zero_bytes, zero_bytes_by_parts, table_seven, table_eight}

zero_bytes_fit : (k r : ℕ) → r < 65536 → zero_bytes k r < 65536
unfolding zero_bytes
zero_bytes_fit zero r fits = fits
zero_bytes_fit (suc k) r fits = zero_bytes_fit k (register_after r (bits 8 0)) (register_fits r (bits 8 0) fits)

zero_bytes-add : (j k r : ℕ) → zero_bytes (j + k) r ≡ zero_bytes k (zero_bytes j r)
unfolding zero_bytes
zero_bytes-add zero k r = let same : zero + k ≡ k = omega arith in ap (λ (n : ℕ). zero_bytes n r) same
zero_bytes-add (suc j) k r =
    let next : suc j + k ≡ suc (j + k) = omega arith in
    ap (λ (n : ℕ). zero_bytes n r) next ∙ zero_bytes-add j k (register_after r (bits 8 0))

-- ---- the tables

-- eight zero bytes more, from the tables for eight and for seven
abbrev eight_more : ℕ → ℕ
eight_more z = bit_xor (get_or AFTER_EIGHT (z % 256) 0) (get_or AFTER_SEVEN (z / 256) 0)

eight_more_is : (z : ℕ) → z < 65536 → eight_more z ≡ zero_bytes 8 z
eight_more_is z fits =
    let low : z % 256 < 256 = omega arith in
    let high : z / 256 < 256 = omega arith in
    ap₂ bit_xor (table_eight.1 (z % 256) low) (table_seven.1 (z / 256) high) ∙ sym (zero_bytes_by_parts 7 z)

-- n times eight zero bytes more
abbrev eights_more : ℕ → ℕ → ℕ
eights_more zero z = z
eights_more (suc n) z = eights_more n (eight_more z)

eights_more_are : (n z : ℕ) → z < 65536 → eights_more n z ≡ zero_bytes (n * 8) z
unfolding zero_bytes
eights_more_are zero z fits = refl
eights_more_are (suc n) z fits =
    let all : suc n * 8 ≡ 8 + n * 8 = omega arith in
    ap (eights_more n) (eight_more_is z fits) ∙ eights_more_are n (zero_bytes 8 z) (zero_bytes_fit 8 z fits)
    ∙ sym (zero_bytes-add 8 (n * 8) z) ∙ ap (λ (m : ℕ). zero_bytes m z) (sym all)

farther_table : (k n : ℕ) (table more : List ℕ) → IsTable k table → length more ≡ 256 → more ≡ map (eights_more n) table → IsTable (k + n * 8) more
farther_table k n table more is long made = (
  long,
  λ i lt.
      let here : i < length table = omega (arith, is.0) in
      ap (λ (xs : List ℕ). get_or xs i 0) made ∙ get_or-map (eights_more n) table i 0 0 here
      ∙ ap (eights_more n) (is.1 i lt) ∙ eights_more_are n (zero_bytes k i) (zero_bytes_fit k i (omega arith))
      ∙ sym (zero_bytes-add k (n * 8) i),
)

table_sixty_three : IsTable 63 AFTER_SIXTY_THREE
table_sixty_three = farther_table 7 7 AFTER_SEVEN AFTER_SIXTY_THREE table_seven refl refl

table_sixty_four : IsTable 64 AFTER_SIXTY_FOUR
table_sixty_four = farther_table 8 7 AFTER_EIGHT AFTER_SIXTY_FOUR table_eight refl refl

-- ---- a list of zeros

zeros_are : (n r : ℕ) → register_after r (flat_map (bits 8) (replicate n 0)) ≡ zero_bytes n r
unfolding zero_bytes
zeros_are zero r = refl
zeros_are (suc n) r =
    let others : List ℕ = replicate n 0 in
    ap (register_after r) (flat_map-cons (bits 8) 0 others) ∙ register_after-append r (bits 8 0) (flat_map (bits 8) others)
    ∙ zeros_are n (register_after r (bits 8 0))

pub after_zeros_by_tables : (r : ℕ) → r < 65536
    → bit_xor (get_or AFTER_SIXTY_FOUR (r % 256) 0) (get_or AFTER_SIXTY_THREE (r / 256) 0) ≡ register_after r (flat_map (bits 8) (replicate 64 0))
after_zeros_by_tables r fits =
    let low : r % 256 < 256 = omega arith in
    let high : r / 256 < 256 = omega arith in
    ap₂ bit_xor (table_sixty_four.1 (r % 256) low) (table_sixty_three.1 (r / 256) high) ∙ sym (zero_bytes_by_parts 63 r) ∙ sym (zeros_are 64 r)
