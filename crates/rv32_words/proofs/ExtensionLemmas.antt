-- A shift to the left and back, of a signed number, extends the lowest bits by their sign.
use Rattle.std.proofs.Common.{◌≡◌, ℕ, zero, suc, ◌+◌, ◌-◌, ◌*◌, ◌/◌, ◌%◌, ◌^◌, ◌<◌, ◌≤◌, sym, ◌∙◌, ap, arith, ℤ, negsuc, to_z, of_z, w32, FitsSigned}
use Rattle.std.proofs.lemmas.Bool.{le-ltb}
use Rattle.std.proofs.lemmas.Int.{ints, to_z_pos, of_z-to_z, to_z-of_z}
use Rattle.std.proofs.Math.Decide.{dec_lt}
use Rattle.std.proofs.lemmas.Nat.{pow_pos, pow-add, shl-shr, div-mul-add}
use Rattle.std.proofs.Math.Nat.{mod-eq_of_lt, two-pow-succ, mul_comm, mul-lt-mul_of_pos_right, mul-le-mul_right, pow-le-pow_right}
use Rattle.std.specs.Int.Signed.{shr_z}
use Rattle.xk_base.specs.Numbers.Fields.{sign_extended}
use Rattle.xk_base.proofs.FieldLemmas.{sign_extended-positive, sign_extended-negative}

-- what is left of a number below 0 after a shift to the right
shifted_minus : (all part left n : ℕ) → all ≡ part * (left + suc n) → 0 < part → (all - suc (n * part)) / part ≡ left
shifted_minus all part left n e some =
    let parts : all - suc (n * part) ≡ left * part + (part - 1) = omega arith in
    rw parts (div-mul-add left part (part - 1) (omega arith))

half_of : (part half all : ℕ) → all + all ≡ part * (half + half) → part * half ≡ all
half_of part half all e = omega arith

module _ (m n : ℕ) (room : suc m ≤ 32) (fits : n < 2 ^ suc m) where
  whole : 2 ^ 32 ≡ 2 ^ (32 - suc m) * 2 ^ suc m
  whole =
      let sum : 32 - suc m + suc m ≡ 32 = omega arith in
      let joined : 2 ^ (32 - suc m + suc m) ≡ 2 ^ (32 - suc m) * 2 ^ suc m = pow-add 2 (32 - suc m) (suc m) in
      rw sum at joined

  half : 2 ^ (32 - suc m) * 2 ^ m ≡ 2 ^ 31
  half = half_of (2 ^ (32 - suc m)) (2 ^ m) (2 ^ 31) (rw (two-pow-succ m) at whole)

  below_whole : n * 2 ^ (32 - suc m) < 2 ^ 32
  below_whole =
      rw (whole, mul_comm (2 ^ (32 - suc m)) (2 ^ suc m)) (mul-lt-mul_of_pos_right fits (pow_pos (32 - suc m)))

  positive : n < 2 ^ m → shr_z (to_z w32 (n * 2 ^ (32 - suc m))) (2 ^ (32 - suc m)) ≡ sign_extended (suc m) n
  positive below =
      let less : n * 2 ^ (32 - suc m) < 2 ^ m * 2 ^ (32 - suc m) = mul-lt-mul_of_pos_right below (pow_pos (32 - suc m)) in
      let turned : 2 ^ m * 2 ^ (32 - suc m) ≡ 2 ^ 31 = mul_comm (2 ^ m) (2 ^ (32 - suc m)) ∙ half in
      let low : n * 2 ^ (32 - suc m) < 2 ^ 31 = rw turned at less in
      rw (to_z_pos w32 (n * 2 ^ (32 - suc m)) low, shl-shr n (32 - suc m)) (sym (sign_extended-positive m n below))

  negative : 2 ^ m ≤ n → shr_z (to_z w32 (n * 2 ^ (32 - suc m))) (2 ^ (32 - suc m)) ≡ sign_extended (suc m) n
  negative high =
      let more : 2 ^ m * 2 ^ (32 - suc m) ≤ n * 2 ^ (32 - suc m) = mul-le-mul_right (2 ^ (32 - suc m)) high in
      let turned : 2 ^ m * 2 ^ (32 - suc m) ≡ 2 ^ 31 = mul_comm (2 ^ m) (2 ^ (32 - suc m)) ∙ half in
      let top : 2 ^ 31 ≤ n * 2 ^ (32 - suc m) = rw turned at more in
      let rest : 2 ^ suc m ≡ (2 ^ suc m - 1 - n) + suc n = omega arith in
      let all : 4294967296 ≡ 2 ^ (32 - suc m) * ((2 ^ suc m - 1 - n) + suc n) = whole ∙ ap (λ p. 2 ^ (32 - suc m) * p) rest in
      rw (le-ltb (n * 2 ^ (32 - suc m)) (2 ^ 31) top, sign_extended-negative m n high)
      (ap negsuc (shifted_minus 4294967296 (2 ^ (32 - suc m)) (2 ^ suc m - 1 - n) n all (pow_pos (32 - suc m))))

  shifted_back : shr_z (to_z w32 (n * 2 ^ (32 - suc m))) (2 ^ (32 - suc m)) ≡ sign_extended (suc m) n
  shifted_back = elim (dec_lt n (2 ^ m)) [ yes below ↦ positive below | no above ↦ negative (omega arith) ]

  extension_fits : FitsSigned w32 (sign_extended (suc m) n)
  extension_fits =
      let double : 2 ^ suc m ≡ 2 ^ m + 2 ^ m = two-pow-succ m in
      let few : m ≤ 31 = omega arith in
      let some : 0 < 2 = omega arith in
      let short : 2 ^ m ≤ 2 ^ 31 = pow-le-pow_right some few in
      elim (dec_lt n (2 ^ m)) as (λ _. FitsSigned w32 (sign_extended (suc m) n)) [
        | yes below ↦ rw (sign_extended-positive m n below) (omega (arith, ints))
        | no above ↦
            let high : 2 ^ m ≤ n = omega arith in
            rw (sign_extended-negative m n high) (omega (arith, ints))
      ]

pub extended : (width n : ℕ) (signed : ℤ) → 1 ≤ width → width ≤ 32 → n < 2 ^ width →
    signed ≡ to_z w32 (n * 2 ^ (32 - width) % 4294967296) →
    to_z w32 (of_z w32 (shr_z (to_z w32 (of_z w32 signed)) (2 ^ (32 - width)))) ≡ sign_extended width n
extended zero n signed some room fits is = absurd (omega arith)
extended (suc m) n signed some room fits is =
    let whole_bits : n * 2 ^ (32 - suc m) % 4294967296 ≡ n * 2 ^ (32 - suc m) = mod-eq_of_lt (below_whole m n room fits) in
    let bits_is : of_z w32 signed ≡ n * 2 ^ (32 - suc m) =
    rw (is, whole_bits) (of_z-to_z w32 (n * 2 ^ (32 - suc m)) (below_whole m n room fits)) in
    rw (bits_is, shifted_back m n room fits) (to_z-of_z w32 (sign_extended (suc m) n) (extension_fits m n room fits))
