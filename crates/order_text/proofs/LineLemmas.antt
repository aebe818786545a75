-- The lines of the endings, one after the other, and the slices that are counted.
use Rattle.std.proofs.Common.{◌≡◌, ◌<◌, ◌+◌, ◌∙◌, ℕ, suc, List, [], ◌∷◌, ◌++◌, get_or, length, take, take-suc, Option, Some, Result, Ok, Err, OnOk, refl, sym, ap, arith}
use Rattle.std.specs.Prelude.{map, min, slice_get, sum}
use Rattle.std.specs.List.{fold}
use Rattle.std.specs.Option.{option_map_or}
use Rattle.std.proofs.lemmas.List.{append-nil, append_assoc}
use Rattle.order_text.specs.Endings.{looks_at}
use Rattle.order_model.specs.declared.moves.Note.{Note}
use Rattle.order_text.specs.Lines.{slices_tried}
use Rattle.order_model.specs.declared.failing.Failing.{Failing}
use Rattle.order_text.specs.Lines.{ending_line, failure_at, failure_of, failures_below, found_line, found_lines, line_at, lines_below}
use Rattle.order_text.specs.declared.endings.Ending.{Ending}
use Rattle.order_text.specs.declared.endings.Endings.{Endings}

pub no_lines : (endings : Endings) (text : List ℕ) → text ≡ text ++ lines_below 0 endings
unfolding lines_below
no_lines endings text = sym (append-nil text)

-- the line of an ending as it is put
pub line_put : (endings : Endings) (place : ℕ) (ending : Ending) (number nodes : ℕ) → slice_get endings.list.items place ≡ Some ending
    → number ≡ place + 1 → nodes ≡ looks_at endings.looks.items place
    → ending_line number ending.seen.items nodes ending.order.items ≡ line_at endings place
line_put endings place ending number nodes there counted looks =
    (λ i. ending_line (counted i) ending.seen.items (looks i) ending.order.items)
    ∙ ap (λ (o : Option Ending).
    option_map_or (λ (e : Ending). ending_line (place + 1) e.seen.items (looks_at endings.looks.items place) e.order.items) o []) (sym there)

-- a line more
pub lines_on : (endings : Endings) (place : ℕ) (old so_far more line : List ℕ) → so_far ≡ old ++ lines_below place endings → more ≡ so_far ++ line
    → line ≡ line_at endings place → more ≡ old ++ lines_below (place + 1) endings
unfolding lines_below
lines_on endings place old so_far more line before put is =
    let on : place + 1 ≡ suc place = omega arith in
    put
    ∙ ((λ i. before i ++ is i)
    ∙ (append_assoc old (lines_below place endings) (line_at endings place)
    ∙ ap (λ (n : ℕ). old ++ lines_below n endings) (sym on)))

-- two pieces, of which the second may not have been put
pub two_pieces : {E : Type 0} (r : Result (Unit {0}) E) (old mid new first second : List ℕ) → mid ≡ old ++ first → OnOk r (new ≡ mid ++ second)
    → OnOk r (new ≡ old ++ (first ++ second))
two_pieces (Ok x) old mid new first second is then = then ∙ (ap (λ (xs : List ℕ). xs ++ second) is ∙ append_assoc old first second)
two_pieces (Err e) old mid new first second is then = tt

-- pieces of text, one behind the other
pub four_pieces : (a b c d one two three four : List ℕ) → one ≡ a → two ≡ one ++ b → three ≡ two ++ c → four ≡ three ++ d
    → four ≡ a ++ (b ++ (c ++ d))
four_pieces a b c d one two three four first second third fourth =
    fourth
    ∙ (ap (λ (xs : List ℕ). xs ++ d) (third ∙ ap (λ (xs : List ℕ). xs ++ c) second)
    ∙ (append_assoc (one ++ b) c d
    ∙ (append_assoc one b (c ++ d) ∙ ap (λ (xs : List ℕ). xs ++ (b ++ (c ++ d))) first)))

-- ---- endings that fail

module _ (fails : List Failing) (list : List Ending) where
  pub no_failures : (text : List ℕ) → text ≡ text ++ failures_below 0 fails list
  unfolding failures_below
  no_failures text = sym (append-nil text)

  -- the ending at a place is looked at
  pub failures_on : (place : ℕ) (old so_far more : List ℕ) → so_far ≡ old ++ failures_below place fails list
      → more ≡ so_far ++ failure_at fails list place → more ≡ old ++ failures_below (place + 1) fails list
  unfolding failures_below
  failures_on place old so_far more before put =
      let on : place + 1 ≡ suc place = omega arith in
      put
      ∙ (ap (λ (xs : List ℕ). xs ++ failure_at fails list place) before
      ∙ (append_assoc old (failures_below place fails list) (failure_at fails list place)
      ∙ ap (λ (n : ℕ). old ++ failures_below n fails list) (sym on)))

  pub failure_there : (place : ℕ) (ending : Ending) → slice_get list place ≡ Some ending
      → failure_at fails list place ≡ failure_of fails (place + 1) ending
  failure_there place ending there = ap (λ (o : Option Ending). option_map_or (failure_of fails (place + 1)) o []) there

-- ---- endings as they are found

-- the line of one more
pub found_more : (fails : List Failing) (before : ℕ) (list : List Ending) (ending : Ending)
    → found_lines fails before (list ++ ending ∷ []) ≡ found_lines fails before list ++ found_line fails (before + length list + 1) ending
unfolding found_lines
found_more fails before [] ending =
    let number : before + 1 ≡ before + 0 + 1 = omega arith in
    append-nil (found_line fails (before + 1) ending) ∙ ap (λ (n : ℕ). found_line fails n ending) number
found_more fails before (first ∷ list) ending =
    let number : before + 1 + length list + 1 ≡ before + suc (length list) + 1 = omega arith in
    ap (λ (xs : List ℕ). found_line fails (before + 1) first ++ xs)
    (found_more fails (before + 1) list ending
    ∙ ap (λ (n : ℕ). found_lines fails (before + 1) list ++ found_line fails n ending) number)
    ∙ sym (append_assoc (found_line fails (before + 1) first) (found_lines fails (before + 1) list)
    (found_line fails (before + suc (length list) + 1) ending))

pub found_none : (fails : List Failing) (before : ℕ) → found_lines fails before [] ≡ []
unfolding found_lines
found_none fails before = refl

-- ---- slices

abbrev sum_of : List Note → ℕ
sum_of notes = sum (map (λ (note : Note). note.slices) notes)

fold_more : (sum : ℕ) (xs : List Note) (note : Note)
    → fold ◌+◌ sum (map (λ (n : Note). n.slices) (xs ++ note ∷ [])) ≡ fold ◌+◌ sum (map (λ (n : Note). n.slices) xs) + note.slices
fold_more sum [] note = refl
fold_more sum (x ∷ xs) note = fold_more (sum + x.slices) xs note

sum_more : (xs : List Note) (note : Note) → sum_of (xs ++ note ∷ []) ≡ sum_of xs + note.slices
sum_more xs note = fold_more 0 xs note

-- the slices of one node more
pub tried_more : (notes : List Note) (k : ℕ) (d : Note) (slices more : ℕ) → k < length notes → slices ≡ slices_tried (take k notes)
    → more ≡ min (slices + (get_or notes k d).slices) 18446744073709551615 → more ≡ slices_tried (take (k + 1) notes)
tried_more notes k d slices more low so_far is =
    let next : k + 1 ≡ suc k = omega arith in
    let further : take (k + 1) notes ≡ take k notes ++ get_or notes k d ∷ [] = ap (λ (n : ℕ). take n notes) next ∙ take-suc notes k d low in
    let all : sum_of (take (k + 1) notes) ≡ sum_of (take k notes) + (get_or notes k d).slices =
    ap sum_of further ∙ sum_more (take k notes) (get_or notes k d) in
    omega (arith, so_far, is, all)
