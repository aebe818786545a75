-- Pieces of text, one behind the other.
use Rattle.std.proofs.Common.{◌≡◌, ℕ, ◌+◌, ◌<◌, suc, true, List, [], ◌∷◌, ◌++◌, append_assoc, length, get_or, take, ap, arith, refl, subst, sym, ◌∙◌}
use Rattle.std.specs.Prelude.{map}
use Rattle.std.specs.List.{flat_map, join_by}
use Rattle.std.proofs.lemmas.List.{flat_map_more, map_push, take_more}
use Rattle.std.proofs.lemmas.List.Folds.{flat_map-map}
use Rattle.xk_base.specs.Tables.Counting.{listed_below}

-- two pieces and three
pub two_pieces : (old a b one two : List ℕ) → one ≡ old ++ a → two ≡ one ++ b → two ≡ old ++ (a ++ b)
two_pieces old a b one two first second = second ∙ (ap (λ (xs : List ℕ). xs ++ b) first ∙ append_assoc old a b)

pub three_pieces : (old a b c one two three : List ℕ) → one ≡ old ++ a → two ≡ one ++ b → three ≡ two ++ c → three ≡ old ++ (a ++ (b ++ c))
three_pieces old a b c one two three first second third =
    two_pieces old a (b ++ c) one three first (two_pieces one b c two three second third)

-- what is joined of a list that a function made
pub joined_map : {X Y : Type 0} (f : Y → List ℕ) (g : X → Y) (between : List ℕ) (xs : List X)
    → join_by (λ x. f (g x)) between xs ≡ join_by f between (map g xs)
joined_map f g between [] = refl
joined_map f g between (x ∷ xs) = ap (λ (rest : List ℕ). f (g x) ++ rest) (sym (flat_map-map (λ y. between ++ f y) g xs))

-- one more piece, of the next number
pub next_piece : {X : Type 0} (f : X → List ℕ) (g : ℕ → X) (old text new : List ℕ) (k : ℕ)
    → text ≡ old ++ flat_map f (map g (listed_below k (λ j. true))) → new ≡ text ++ f (g k)
    → new ≡ old ++ flat_map f (map g (listed_below (k + 1) (λ j. true)))
unfolding listed_below
next_piece f g old text new k before is =
    let same : suc k ≡ k + 1 = omega arith in
    subst (λ n. new ≡ old ++ flat_map f (map g (listed_below n (λ j. true)))) same
    (is
    ∙ (ap (λ (xs : List ℕ). xs ++ f (g k)) before
    ∙ (flat_map_more f old (map g (listed_below k (λ j. true))) (g k)
    ∙ ap (λ ys. old ++ flat_map f ys) (sym (map_push g (listed_below k (λ j. true)) k)))))

-- one more piece, of the item at that place
pub next_item : {X : Type 0} (f : X → List ℕ) (old text new : List ℕ) (xs : List X) (i : ℕ) (d : X) → i < length xs
    → text ≡ old ++ flat_map f (take i xs) → new ≡ text ++ f (get_or xs i d) → new ≡ old ++ flat_map f (take (i + 1) xs)
next_item f old text new xs i d low before is =
    is
    ∙ (ap (λ (ys : List ℕ). ys ++ f (get_or xs i d)) before
    ∙ (flat_map_more f old (take i xs) (get_or xs i d) ∙ ap (λ ys. old ++ flat_map f ys) (sym (take_more xs i d low))))
