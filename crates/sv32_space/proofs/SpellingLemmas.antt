-- What is spelled is read back, and what is read spells the word.
use Rattle.std.proofs.Common.{◌≡◌, ◌==◌, ◌+◌, ◌*◌, ◌%◌, ◌/◌, ◌^◌, ◌<◌, ℕ, Bool, true, false, List, [], ◌∷◌, Option, Some, None, MatchOption, refl, sym, ap, subst, ◌∙◌, inl, inr, arith}
use Rattle.std.proofs.lemmas.Bool.{cases_Bool, eqb-true, ne_eqb}
use Rattle.xk_base.specs.Numbers.Fields.{bits_of}
use Rattle.sv32_space.specs.declared.sides.Side.{Side}
use Rattle.sv32_space.specs.declared.sides.Side.TheVariants.{Own, LentOut, LentIn, MutOut, MutIn}
use Rattle.sv32_space.specs.declared.sides.EntryKind.{EntryKind}
use Rattle.sv32_space.specs.declared.sides.EntryKind.TheVariants.{Free, Here, Out}
use Rattle.sv32_space.specs.Spellings.{here_bits, out_bits, here_side, out_side, side_among, sides, kind_with, kind_at, spelling, right_of, IsKind, Spells}

-- each side is read back from its bits
here_own : (w x : Bool) → here_side (here_bits (Own (right_of w x))) ≡ Some (Own (right_of w x))
here_own true true = refl
here_own true false = refl
here_own false true = refl
here_own false false = refl

here_lent : (w x : Bool) → here_side (here_bits (LentOut (right_of w x))) ≡ Some (LentOut (right_of w x))
here_lent true true = refl
here_lent true false = refl
here_lent false true = refl
here_lent false false = refl

here_mut : (x : Bool) → here_side (here_bits (MutOut x)) ≡ Some (MutOut x)
here_mut true = refl
here_mut false = refl

here_again : (side : Side) → here_side (here_bits side) ≡ Some side
here_again (Own right) = here_own right.w right.x
here_again (LentOut right) = here_lent right.w right.x
here_again LentIn = refl
here_again (MutOut x) = here_mut x
here_again MutIn = refl

out_own : (w x : Bool) → (here_side (out_bits (Own (right_of w x))) ≡ None) × (out_side (out_bits (Own (right_of w x))) ≡ Some (Own (right_of w x)))
out_own true true = (refl, refl)
out_own true false = (refl, refl)
out_own false true = (refl, refl)
out_own false false = (refl, refl)

out_lent : (w x : Bool) → (here_side (out_bits (LentOut (right_of w x))) ≡ None) × (out_side (out_bits (LentOut (right_of w x))) ≡ Some (LentOut (right_of w x)))
out_lent true true = (refl, refl)
out_lent true false = (refl, refl)
out_lent false true = (refl, refl)
out_lent false false = (refl, refl)

out_mut : (x : Bool) → (here_side (out_bits (MutOut x)) ≡ None) × (out_side (out_bits (MutOut x)) ≡ Some (MutOut x))
out_mut true = (refl, refl)
out_mut false = (refl, refl)

-- no side that is out has the bits of one in a frame
out_again : (side : Side) → (here_side (out_bits side) ≡ None) × (out_side (out_bits side) ≡ Some side)
out_again (Own right) = out_own right.w right.x
out_again (LentOut right) = out_lent right.w right.x
out_again LentIn = (refl, refl)
out_again (MutOut x) = out_mut x
out_again MutIn = (refl, refl)

-- the bits of each side are some of the low ten
here_own_low : (w x : Bool) → (0 < here_bits (Own (right_of w x))) × (here_bits (Own (right_of w x)) < 1024)
here_own_low true true = (omega arith, omega arith)
here_own_low true false = (omega arith, omega arith)
here_own_low false true = (omega arith, omega arith)
here_own_low false false = (omega arith, omega arith)

here_lent_low : (w x : Bool) → (0 < here_bits (LentOut (right_of w x))) × (here_bits (LentOut (right_of w x)) < 1024)
here_lent_low true true = (omega arith, omega arith)
here_lent_low true false = (omega arith, omega arith)
here_lent_low false true = (omega arith, omega arith)
here_lent_low false false = (omega arith, omega arith)

here_mut_low : (x : Bool) → (0 < here_bits (MutOut x)) × (here_bits (MutOut x) < 1024)
here_mut_low true = (omega arith, omega arith)
here_mut_low false = (omega arith, omega arith)

pub here_low : (side : Side) → (0 < here_bits side) × (here_bits side < 1024)
here_low (Own right) = here_own_low right.w right.x
here_low (LentOut right) = here_lent_low right.w right.x
here_low LentIn = (omega arith, omega arith)
here_low (MutOut x) = here_mut_low x
here_low MutIn = (omega arith, omega arith)

out_own_low : (w x : Bool) → (0 < out_bits (Own (right_of w x))) × (out_bits (Own (right_of w x)) < 1024)
out_own_low true true = (omega arith, omega arith)
out_own_low true false = (omega arith, omega arith)
out_own_low false true = (omega arith, omega arith)
out_own_low false false = (omega arith, omega arith)

out_lent_low : (w x : Bool) → (0 < out_bits (LentOut (right_of w x))) × (out_bits (LentOut (right_of w x)) < 1024)
out_lent_low true true = (omega arith, omega arith)
out_lent_low true false = (omega arith, omega arith)
out_lent_low false true = (omega arith, omega arith)
out_lent_low false false = (omega arith, omega arith)

out_mut_low : (x : Bool) → (0 < out_bits (MutOut x)) × (out_bits (MutOut x) < 1024)
out_mut_low true = (omega arith, omega arith)
out_mut_low false = (omega arith, omega arith)

pub out_low : (side : Side) → (0 < out_bits side) × (out_bits side < 1024)
out_low (Own right) = out_own_low right.w right.x
out_low (LentOut right) = out_lent_low right.w right.x
out_low LentIn = (omega arith, omega arith)
out_low (MutOut x) = out_mut_low x
out_low MutIn = (omega arith, omega arith)

-- low bits and a number above them are read apart
low_of : (bits number : ℕ) → bits < 1024 → bits_of (bits + 1024 * number) 9 0 ≡ bits
low_of bits number low = omega arith

number_of : (bits number : ℕ) → bits < 1024 → number < 2 ^ 22 → bits_of (bits + 1024 * number) 31 10 ≡ number
number_of bits number low fits = omega arith

-- a spelling is read back
pub kind_at_spelling : (kind : EntryKind) → IsKind kind → kind_at (spelling kind) ≡ Some kind
unfolding kind_at
kind_at_spelling Free fits = refl
kind_at_spelling (Here side ppn) fits =
    let low : (0 < here_bits side) × (here_bits side < 1024) = here_low side in
    rw (ne_eqb (here_bits side + 1024 * ppn) 0 (λ same. omega arith), low_of (here_bits side) ppn low.1, number_of (here_bits side) ppn low.1 fits, here_again side) refl
kind_at_spelling (Out side slot) fits =
    let low : (0 < out_bits side) × (out_bits side < 1024) = out_low side in
    rw (ne_eqb (out_bits side + 1024 * slot) 0 (λ same. omega arith), low_of (out_bits side) slot low.1, number_of (out_bits side) slot low.1 fits, (out_again side).0, (out_again side).1) refl

-- a side that is found has the bits
pub among_found : (bits : Side → ℕ) (low : ℕ) (list : List Side) (side : Side) → side_among bits low list ≡ Some side → bits side ≡ low
among_found bits low [] side found = absurd (cc)
among_found bits low (first ∷ rest) side found = elim (cases_Bool (low == bits first)) [
  | inl here ↦
      let given = rw here at found in
      let same : first ≡ side = cc in
      ap bits (sym same) ∙ sym (eqb-true low (bits first) here)
  | inr apart ↦ let given = rw apart at found in among_found bits low rest side given
]

spells_along : (word : ℕ) (a b : EntryKind) → a ≡ b → Spells a word → Spells b word
spells_along word a b same spelled = subst (λ k. Spells k word) same spelled

-- what is read spells the word
found_with : (word low number : ℕ) (here out : Option Side) (kind : EntryKind)
    → here_side low ≡ here → out_side low ≡ out → low + 1024 * number ≡ word → number < 2 ^ 22
    → kind_with here out number ≡ Some kind → Spells kind word
found_with word low number (Some side) out kind h o whole fits found =
    let is : Here side number ≡ kind = cc in
    let bits : here_bits side ≡ low = among_found here_bits low sides side h in
    spells_along word (Here side number) kind is (fits, ap (λ b. b + 1024 * number) bits ∙ whole)
found_with word low number None (Some side) kind h o whole fits found =
    let is : Out side number ≡ kind = cc in
    let bits : out_bits side ≡ low = among_found out_bits low sides side o in
    spells_along word (Out side number) kind is (fits, ap (λ b. b + 1024 * number) bits ∙ whole)
found_with word low number None None kind h o whole fits found = absurd (cc)

pub kind_at_spells : (word : ℕ) (kind : EntryKind) → word < 2 ^ 32 → kind_at word ≡ Some kind → Spells kind word
unfolding kind_at
kind_at_spells word kind fits found = elim (cases_Bool (word == 0)) [
  | inl zero ↦
      let given = rw zero at found in
      let is : Free ≡ kind = cc in
      spells_along word Free kind is (tt, sym (eqb-true word 0 zero))
  | inr apart ↦
      let given = rw apart at found in
      found_with word (bits_of word 9 0) (bits_of word 31 10) (here_side (bits_of word 9 0)) (out_side (bits_of word 9 0)) kind refl refl
      (omega arith) (omega arith) given
]

-- what spells a word is read from it
pub kind_at_only : (word : ℕ) (kind : EntryKind) → Spells kind word → kind_at word ≡ Some kind
kind_at_only word kind spelled = ap kind_at (sym spelled.1) ∙ kind_at_spelling kind spelled.0

none_is_not_some : (k : EntryKind) → None ≡ Some k → ⊥
none_is_not_some k same = cc

-- and none is read only where nothing spells the word
pub kind_at_found : (word : ℕ) → word < 2 ^ 32 → MatchOption (kind_at word) ((k : EntryKind) → ¬ Spells k word) (λ k. Spells k word)
kind_at_found word fits = by_answer (kind_at word) refl
  where
    by_answer : (answer : Option EntryKind) → kind_at word ≡ answer → MatchOption answer ((k : EntryKind) → ¬ Spells k word) (λ k. Spells k word)
    by_answer None none = λ k spelled. none_is_not_some k (sym none ∙ kind_at_only word k spelled)
    by_answer (Some kind) found = kind_at_spells word kind fits found

-- the table, read from the low bits and the number above them
pub kind_by_parts : (word : ℕ) (here out : Option Side) → word < 2 ^ 32 → (word ≡ 0 → ⊥)
    → here ≡ here_side (word % 1024) → out ≡ out_side (word % 1024) → kind_with here out (word / 1024) ≡ kind_at word
unfolding kind_at
kind_by_parts word here out fits some h o =
    let low : bits_of word 9 0 ≡ word % 1024 = omega arith in
    let number : bits_of word 31 10 ≡ word / 1024 = omega arith in
    rw (ne_eqb word 0 some, low, number, h, o) refl
