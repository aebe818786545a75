-- Bytes that are set one after the other are a write of all of them.
use Rattle.std.proofs.Common.{◌≡◌, ℕ, ◌+◌, ◌-◌, ◌<◌, ◌≤◌, List, [], ◌∷◌, ◌++◌, take, drop, length, set, get_or, length-take, length-append, append_assoc, add-one, drop-cons, sym, ap, ◌∙◌, arith}
use Rattle.std.proofs.lemmas.List.{set-append_right, take-set, drop-set, take-append-drop}
use Rattle.std.proofs.Math.Seq.{set-append_seam}
use Rattle.ledger_model.specs.Steps.{written}

-- a byte after bytes that were written into a list
write_more : (xs ys : List ℕ) (i v : ℕ) → i + length ys < length xs → set (written xs i ys) (i + length ys) v ≡ written xs i (ys ++ (v ∷ []))
write_more xs ys i v l =
    let front : length (take i xs) ≡ i = simp length-take (omega arith) in
    let rest = drop (i + length ys) xs in
    let inside : i + length ys - i ≡ length ys = omega arith in
    let next : drop (i + length ys) xs ≡ get_or xs (i + length ys) 0 ∷ drop (i + length ys + 1) xs = rw add-one (drop-cons xs (i + length ys) 0 l) in
    let far : i + length ys + 1 ≡ i + length (ys ++ v ∷ []) = simp length-append (omega arith) in
    set-append_right (take i xs) (ys ++ rest) i (i + length ys) v front (omega arith)
    ∙ (λ j. take i xs ++ set (ys ++ rest) (inside j) v)
    ∙ (λ j. take i xs ++ set (ys ++ next j) (length ys) v)
    ∙ ap (λ zs. take i xs ++ zs) (set-append_seam ys (get_or xs (i + length ys) 0) (drop (i + length ys + 1) xs) v)
    ∙ ap (λ zs. take i xs ++ zs) (sym (append_assoc ys (v ∷ []) (drop (i + length ys + 1) xs)))
    ∙ (λ j. take i xs ++ ((ys ++ v ∷ []) ++ drop (far j) xs))

-- one byte, two, and four
set_byte : (xs : List ℕ) (i v : ℕ) → i < length xs → set xs i v ≡ written xs i (v ∷ [])
set_byte xs i v l =
    sym (take-append-drop i (set xs i v)) ∙ ap (λ ys. ys ++ drop i (set xs i v)) (take-set xs i v) ∙ ap (λ ys. take i xs ++ ys) (drop-set xs i v l)

pub set_two : (xs : List ℕ) (i a b : ℕ) → i + 2 ≤ length xs → set (set xs i a) (i + 1) b ≡ written xs i (a ∷ (b ∷ []))
set_two xs i a b l = ap (λ ys. set ys (i + 1) b) (set_byte xs i a (omega arith)) ∙ write_more xs (a ∷ []) i b (omega arith)

pub set_four : (xs : List ℕ) (i a b c d : ℕ) → i + 4 ≤ length xs
    → set (set (set (set xs i a) (i + 1) b) (i + 2) c) (i + 3) d ≡ written xs i (a ∷ (b ∷ (c ∷ (d ∷ []))))
set_four xs i a b c d l =
    ap (λ ys. set (set ys (i + 2) c) (i + 3) d) (set_two xs i a b (omega arith))
    ∙ ap (λ ys. set ys (i + 3) d) (write_more xs (a ∷ (b ∷ [])) i c (omega arith))
    ∙ write_more xs (a ∷ (b ∷ (c ∷ []))) i d (omega arith)
