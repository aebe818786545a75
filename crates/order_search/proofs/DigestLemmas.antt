-- What spells a node, by the bytes of any of its states.
use Rattle.std.proofs.Common.{◌≡◌, ◌≤◌, ◌-◌, ◌+◌, ◌∙◌, ℕ, Bool, true, false, List, ◌++◌, drop, length, take, refl, sym, ap, subst, append_assoc, arith, length-append, length-take, length-drop, take_all}
use Rattle.std.proofs.lemmas.Bool.{false≢true}
use Rattle.machine_model.specs.State.Machine.{Machine}
use Rattle.suspend_image.specs.Sheets.{SheetBytes, with_word}
use Rattle.suspend_image.specs.Spelling.{machine_bytes}
use Rattle.suspend_image.specs.StateBytes.{saved_bytes, saved_parts}
use Rattle.suspend_image.specs.Words.{word, word_bytes}
use Rattle.order_model.specs.Moves.{Asked, Bound, Point, Unbounded, UpTo}
use Rattle.order_model.specs.Nodes.{node_of, set_aside}
use Rattle.order_search.specs.Keys.{HasParts, beside_bytes, has_bound, node_bytes}
use Rattle.order_search.specs.Marks.{marked}

-- ---- what a node leaves out is set aside in the bytes

abbrev pub placed_first : List ℕ → List ℕ
placed_first bytes = with_word 32 1 (with_word 28 2 bytes)

-- the length that the header has
sized : (m : Machine) → 16 + length (saved_parts m) ≡ length (saved_bytes m)
unfolding saved_bytes word_bytes
sized m = omega arith

counted : (bound : ℕ) (m : Machine) → HasParts (set_aside (UpTo bound) m) (placed_first (saved_bytes m))
unfolding saved_bytes saved_parts machine_bytes word_bytes
counted bound m = record { size = ap word (sized (set_aside (UpTo bound) m)); parts = refl }

uncounted : (m : Machine) → HasParts (set_aside Unbounded m) (with_word 24 0 (placed_first (saved_bytes m)))
unfolding saved_bytes saved_parts machine_bytes word_bytes
uncounted m = record { size = ap word (sized (set_aside Unbounded m)); parts = refl }

pub parts_counted : (bytes : List ℕ) (new : List ℕ) (counts : Bool) → new ≡ placed_first bytes → counts ≡ true → (bound : Bound) (m : Machine)
    → bytes ≡ saved_bytes m → counts ≡ has_bound bound → HasParts (set_aside bound m) new
parts_counted bytes new counts is so Unbounded m same bounded = absurd (false≢true (sym bounded ∙ so))
parts_counted bytes new counts is so (UpTo bound) m same bounded =
    subst (HasParts (set_aside (UpTo bound) m)) (sym (is ∙ ap placed_first same)) (counted bound m)

pub parts_uncounted : (bytes new : List ℕ) (counts : Bool) → new ≡ with_word 24 0 (placed_first bytes) → counts ≡ false
    → (bound : Bound) (m : Machine) → bytes ≡ saved_bytes m → counts ≡ has_bound bound → HasParts (set_aside bound m) new
parts_uncounted bytes new counts is so (UpTo bound) m same bounded = absurd (false≢true (sym so ∙ bounded))
parts_uncounted bytes new counts is so Unbounded m same bounded =
    subst (HasParts (set_aside Unbounded m)) (sym (is ∙ ap (λ (b : List ℕ). with_word 24 0 (placed_first b)) same)) (uncounted m)

-- a word that is set leaves as many bytes
pub as_long : (at w : ℕ) (bytes : List ℕ) → at + 4 ≤ length bytes → length (with_word at w bytes) ≡ length bytes
as_long at w bytes within =
    omega (arith, within, length-append (take at bytes) (word w ++ drop (at + 4) bytes), length-take at bytes, length-drop (at + 4) bytes)

-- the cursor is set word by word
pub first_long : (old one : SheetBytes) → 36 ≤ length old.bytes → one ≡ record old { bytes = with_word 28 2 old.bytes }
    → length one.bytes ≡ length old.bytes
first_long old one long first = ap (λ (s : SheetBytes). length s.bytes) first ∙ as_long 28 2 old.bytes (omega (arith, long))

module _ (old one two : SheetBytes) (long : 36 ≤ length old.bytes) (first : one ≡ record old { bytes = with_word 28 2 old.bytes })
    (second : two ≡ record one { bytes = with_word 32 1 one.bytes }) where
  pub second_long : length two.bytes ≡ length old.bytes
  second_long =
      ap (λ (s : SheetBytes). length s.bytes) second ∙ (as_long 32 1 one.bytes (omega (arith, long, first_long old one long first)) ∙ first_long old one long first)

  pub placed_is : two.bytes ≡ placed_first old.bytes
  placed_is =
      ap (λ (s : SheetBytes). s.bytes) second ∙ ap (λ (s : SheetBytes). with_word 32 1 s.bytes) first

-- ---- the digest

-- all that is told of the point's node
pub told_bytes : (asked : Asked) (p : Point) (bytes told beside console : List ℕ) → HasParts (set_aside asked.bound p.state) bytes
    → told ≡ take 4 (drop 8 bytes) ++ marked (drop 16 bytes) → beside ≡ beside_bytes asked p → console ≡ p.console
    → (told ++ beside) ++ console ≡ node_bytes asked (node_of asked p)
told_bytes asked p bytes told beside console has is also too =
    append_assoc told beside console
    ∙ ((λ i. (is ∙ (λ j. has.size j ++ marked (has.parts j))) i ++ (also i ++ too i))
    ∙ append_assoc (word (length (saved_bytes (set_aside asked.bound p.state)))) (marked (saved_parts (set_aside asked.bound p.state)))
    (beside_bytes asked p ++ p.console))

-- what is behind the header is taken whole
pub rest_whole : (bytes : List ℕ) → take (length bytes - 16) (drop 16 bytes) ≡ drop 16 bytes
rest_whole bytes =
    let same = length-drop 16 bytes in
    let few : length (drop 16 bytes) ≤ length bytes - 16 = omega (arith, same) in
    take_all (length bytes - 16) (drop 16 bytes) few
