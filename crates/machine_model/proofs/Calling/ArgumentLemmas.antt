-- Eight words in a0 to a7: they are what stands there, and every other register stays.
use Rattle.std.proofs.Common.{◌≡◌, ℕ, ◌+◌, ◌-◌, ◌<◌, ◌≤◌, ◌⊎◌, inl, inr, List, ◌++◌, length, take, drop, get_or, refl, ap, ◌∙◌, arith, take_at, drop_at, length-take}
use Rattle.std.proofs.lemmas.List.{get_or_append_left, get_or-append_right, get_or-take, get_or-drop}
use Rattle.std.specs.Prelude.{slice_index}
use Rattle.xk_base.specs.Calls.Registers.{arguments_of, with_arguments}

-- the first ten registers, which stand before the words
front_size : (regs : List ℕ) → length regs ≡ 32 → length (take 10 regs) ≡ 10
front_size regs n = length-take 10 regs ∙ rw n refl

pub arguments_given : (words regs : List ℕ) → length words ≡ 8 → length regs ≡ 32 → arguments_of (with_arguments words regs) ≡ words
arguments_given words regs w n =
    ap (take 8) (drop_at (take 10 regs) (words ++ drop 18 regs) 10 (front_size regs n))
    ∙ take_at words (drop 18 regs) 8 w

pub others_stay : (words regs : List ℕ) (r : ℕ) → length words ≡ 8 → length regs ≡ 32 → (r < 10) ⊎ (18 ≤ r)
    → slice_index (with_arguments words regs) r ≡ slice_index regs r
others_stay words regs r w n (inl below) =
    let inside : r < length (take 10 regs) = rw (front_size regs n) below in
    get_or_append_left (take 10 regs) (words ++ drop 18 regs) 0 r inside ∙ get_or-take 10 regs r 0 below
others_stay words regs r w n (inr above) =
    let back : 18 + (r - 10 - 8) ≡ r = omega arith in
    get_or-append_right (take 10 regs) (words ++ drop 18 regs) 10 r 0 (front_size regs n) (omega arith)
    ∙ get_or-append_right words (drop 18 regs) 8 (r - 10) 0 w (omega arith)
    ∙ get_or-drop 18 regs (r - 10 - 8) 0
    ∙ ap (λ i. get_or regs i 0) back
