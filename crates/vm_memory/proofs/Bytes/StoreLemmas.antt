-- What a store changes of what a process sees, and what it keeps.
use Rattle.std.proofs.Common.{◌≡◌, ◌≢◌, ℕ, zero, suc, ◌+◌, ◌-◌, ◌/◌, ◌%◌, ◌<◌, ◌≤◌, true, false, List, ◌++◌, length, take, drop, get_or, refl, sym, ap, subst, ◌∙◌, inl, inr, arith, length-append, length-take, length-drop}
use Rattle.std.specs.Prelude.{slice_index}
use Rattle.std.specs.Int.{byte_at}
use Rattle.std.proofs.lemmas.Bool.{cases_lt, cond-true, cond-false}
use Rattle.std.proofs.lemmas.Bool.Decides.{nat_tests}
use Rattle.std.proofs.lemmas.List.{get_or_append_left, get_or-append_right, get_or-take, get_or-drop}
use Rattle.xk_base.specs.UserMemory.{byte_of_number, is_moved, size_of, with_number, low_bytes}
use Rattle.xk_base.specs.declared.pages.Width.{Width}
use Rattle.xk_base.specs.declared.pages.Width.TheVariants.{Byte, Half, Word}
use Rattle.ledger_model.specs.Steps.{written}

-- ---- the bytes of a store

pub low_size : (width : Width) (value : ℕ) → length (low_bytes width value) ≡ size_of width
low_size Byte value = refl
low_size Half value = refl
low_size Word value = refl

byte_is : (value i : ℕ) → byte_at i value ≡ byte_of_number value i
byte_is value zero = omega arith
byte_is value (suc i) = refl

low_at : (width : Width) (value i : ℕ) → i < size_of width → get_or (low_bytes width value) i 0 ≡ byte_of_number value i
low_at width value zero l = first width
  where
    first : (width : Width) → get_or (low_bytes width value) zero 0 ≡ byte_of_number value zero
    first Byte = byte_is value zero
    first Half = byte_is value zero
    first Word = byte_is value zero
low_at Byte value (suc i) l = absurd (omega arith)
low_at Half value (suc zero) l = refl
low_at Half value (suc (suc i)) l = absurd (omega arith)
low_at Word value (suc zero) l = refl
low_at Word value (suc (suc zero)) l = refl
low_at Word value (suc (suc (suc zero))) l = refl
low_at Word value (suc (suc (suc (suc i)))) l = absurd (omega arith)

-- an aligned store stays in one page
pub stays_in_page : (width : Width) (a : ℕ) → a % size_of width ≡ 0 → a % 4096 + size_of width ≤ 4096
stays_in_page Byte a e = omega arith
stays_in_page Half a e = omega arith
stays_in_page Word a e = omega arith

-- ---- bytes that were written into a page

front_size : (xs : List ℕ) (offset : ℕ) → offset ≤ length xs → length (take offset xs) ≡ offset
front_size xs offset l = simp length-take (omega arith)

written_below : (xs ys : List ℕ) (offset i : ℕ) → offset ≤ length xs → i < offset → get_or (written xs offset ys) i 0 ≡ get_or xs i 0
written_below xs ys offset i l b =
    let inside : i < length (take offset xs) = subst (λ n. i < n) (sym (front_size xs offset l)) b in
    get_or_append_left (take offset xs) (ys ++ drop (offset + length ys) xs) 0 i inside ∙ get_or-take offset xs i 0 b

written_inside : (xs ys : List ℕ) (offset i : ℕ) → offset ≤ length xs → offset ≤ i → i < offset + length ys → get_or (written xs offset ys) i 0 ≡ get_or ys (i - offset) 0
written_inside xs ys offset i l a b =
    get_or-append_right (take offset xs) (ys ++ drop (offset + length ys) xs) offset i 0 (front_size xs offset l) a
    ∙ get_or_append_left ys (drop (offset + length ys) xs) 0 (i - offset) (omega arith)

written_above : (xs ys : List ℕ) (offset i : ℕ) → offset ≤ length xs → offset + length ys ≤ i → get_or (written xs offset ys) i 0 ≡ get_or xs i 0
written_above xs ys offset i l a =
    let back : offset + length ys + (i - offset - length ys) ≡ i = omega arith in
    get_or-append_right (take offset xs) (ys ++ drop (offset + length ys) xs) offset i 0 (front_size xs offset l) (omega arith)
    ∙ get_or-append_right ys (drop (offset + length ys) xs) (length ys) (i - offset) 0 refl (omega arith)
    ∙ get_or-drop (offset + length ys) xs (i - offset - length ys) 0
    ∙ ap (λ j. get_or xs j 0) back

pub written_size : (old : List ℕ) (offset : ℕ) (bytes : List ℕ) → offset + length bytes ≤ 4096 → length old ≡ 4096 → length (written old offset bytes) ≡ 4096
written_size old offset bytes l w = simp (length-append, length-take, length-drop) (omega arith)

-- ---- the bytes after a store, in its page

module _ (byte : ℕ → ℕ) (a : ℕ) (width : Width) (value : ℕ) (aligned : a % size_of width ≡ 0) (bytes : List ℕ) (whole : length bytes ≡ 4096)
    (old_at : (address : ℕ) → address / 4096 ≡ a / 4096 → byte address ≡ slice_index bytes (address % 4096)) where
  moved_number : (address : ℕ) → a ≤ address → address < a + size_of width → with_number byte a width value address ≡ byte_of_number value (address - a)
  moved_number address l m =
      let is : is_moved a width address ≡ true = grind (arith, nat_tests) in
      cond-true (is_moved a width address) (byte_of_number value (address - a)) (byte address) is

  unmoved_number : (address : ℕ) → is_moved a width address ≡ false → with_number byte a width value address ≡ byte address
  unmoved_number address n = cond-false (is_moved a width address) (byte_of_number value (address - a)) (byte address) n

  fits : a % 4096 + size_of width ≤ 4096
  fits = stays_in_page width a aligned

  pub there : (address : ℕ) → address / 4096 ≡ a / 4096
      → slice_index (written bytes (a % 4096) (low_bytes width value)) (address % 4096) ≡ with_number byte a width value address
  there address same = elim (cases_lt address a) [
    | inl below ↦
        let n : is_moved a width address ≡ false = grind (arith, nat_tests) in
        written_below bytes (low_bytes width value) (a % 4096) (address % 4096) (omega arith) (omega arith)
        ∙ sym (old_at address same) ∙ sym (unmoved_number address n)
    | inr above ↦ elim (cases_lt address (a + size_of width)) [
      | inl inside ↦
          let size = low_size width value in
          let i : address % 4096 - a % 4096 ≡ address - a = omega arith in
          let f = fits in
          written_inside bytes (low_bytes width value) (a % 4096) (address % 4096) (omega arith) (omega arith) (omega (arith, size))
          ∙ low_at width value (address % 4096 - a % 4096) (omega arith) ∙ ap (byte_of_number value) i
          ∙ sym (moved_number address above inside)
      | inr outside ↦
          let size = low_size width value in
          let n : is_moved a width address ≡ false = grind (arith, nat_tests) in
          written_above bytes (low_bytes width value) (a % 4096) (address % 4096) (omega arith) (omega (arith, size))
          ∙ sym (old_at address same) ∙ sym (unmoved_number address n)
    ]
  ]

  -- in another page nothing is stored
  pub elsewhere : (address : ℕ) → address / 4096 ≢ a / 4096 → with_number byte a width value address ≡ byte address
  elsewhere address apart =
      let f = fits in
      let n : is_moved a width address ≡ false = grind (arith, nat_tests) in
      unmoved_number address n
