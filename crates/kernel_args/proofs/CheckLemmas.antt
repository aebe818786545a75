-- The register over bits in pieces.
use Rattle.std.proofs.Common.{◌≡◌, ℕ, ◌+◌, ◌/◌, ◌%◌, ◌<◌, List, [], ◌∷◌, ◌++◌, length, drop, get_or, refl, sym, ap, ◌∙◌, arith, drop-cons, add-one, eqb, inl, inr}
use Rattle.std.specs.List.{flat_map}
use Rattle.std.proofs.lemmas.List.Concat.{flat_map-cons}
use Rattle.std.proofs.lemmas.Bool.{cases_Bool}
use Rattle.std.proofs.lemmas.Nat.{xor_lt}
use Rattle.kernel_args.specs.CheckNumber.{bits, register_after, shifted, check_number}

pub register_after-append : (r : ℕ) (xs ys : List ℕ) → register_after r (xs ++ ys) ≡ register_after (register_after r xs) ys
register_after-append r [] ys = refl
register_after-append r (x ∷ xs) ys = register_after-append (shifted r x) xs ys

-- one more byte of a list
pub one_more_byte : (r total i : ℕ) (xs : List ℕ) → i < length xs → register_after r (flat_map (bits 8) (drop i xs)) ≡ total
    → register_after (register_after r (bits 8 (get_or xs i 0))) (flat_map (bits 8) (drop (i + 1) xs)) ≡ total
one_more_byte r total i xs lt h =
    let split : drop i xs ≡ get_or xs i 0 ∷ drop (i + 1) xs = rw (add-one, drop-cons xs i 0) refl in
    let joined : flat_map (bits 8) (drop i xs) ≡ bits 8 (get_or xs i 0) ++ flat_map (bits 8) (drop (i + 1) xs) = ap (flat_map (bits 8)) split ∙ flat_map-cons (bits 8) (get_or xs i 0) (drop (i + 1) xs) in
    sym (register_after-append r (bits 8 (get_or xs i 0)) (flat_map (bits 8) (drop (i + 1) xs))) ∙ ap (register_after r) (sym joined) ∙ h

shifted_fits : (r b : ℕ) → r < 65536 → shifted r b < 65536
shifted_fits r b fits =
    elim (cases_Bool (eqb (r % 2) b)) [
      | inl same ↦ rw same (omega arith)
      | inr differs ↦ rw differs (xor_lt 16 (r / 2) 0x8408 (omega arith) (omega arith))
    ]

pub register_fits : (r : ℕ) (bs : List ℕ) → r < 65536 → register_after r bs < 65536
register_fits r [] fits = fits
register_fits r (b ∷ bs) fits = register_fits (shifted r b) bs (shifted_fits r b fits)

-- a check number has 16 bits
pub check_number_fits : (bytes : List ℕ) → check_number bytes < 65536
unfolding check_number
check_number_fits bytes = xor_lt 16 (register_after 0xFFFF (flat_map (bits 8) bytes)) 0xFFFF (register_fits 0xFFFF (flat_map (bits 8) bytes) (omega arith)) (omega arith)
