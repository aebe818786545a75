-- What growth and prefixes of told lists have in common.
use Rattle.std.proofs.Common.{◌≡◌, ◌-◌, ℕ, take, drop, length, List, [], ◌++◌, Option, Some, None, refl, sym, subst, arith, append_assoc}
use Rattle.std.proofs.lemmas.List.{append-nil, take_all, take-append-drop, length-drop}
use Rattle.std.proofs.lemmas.Option.{none-some, same_Some}
use Rattle.xk_ports.specs.Told.{Grows}

-- a list grows by no items
pub Grows-none : {X : Type 0} (held : Option (List X)) → Grows held held []
Grows-none None = tt
Grows-none (Some xs) = (xs, refl, sym (append-nil xs))

-- growth after growth
pub Grows-append : {X : Type 0} (old mid new : Option (List X)) (xs ys : List X) → Grows old mid xs → Grows mid new ys → Grows old new (xs ++ ys)
Grows-append old mid None xs ys first second = tt
Grows-append old None (Some now) xs ys first second = absurd (none-some second.0 second.1)
Grows-append old (Some between) (Some now) xs ys first second =
    let same : between ≡ second.0 = same_Some _ _ second.1 in (first.0, first.1, grind (arith, append_assoc))

-- growth and then nothing
pub Grows-kept : {X : Type 0} (old mid new : Option (List X)) (xs : List X) → Grows old mid xs → Grows mid new [] → Grows old new xs
Grows-kept {X} old mid new xs first second =
    let grown : Grows old new (xs ++ []) = Grows-append old mid new xs [] first second in
    let P : List X → Type 0 = λ zs. Grows old new zs in
    subst P (append-nil xs) grown

-- a front moves on over the first items of the rest
pub front_more : {X : Type 0} (bytes front rest : List X) (n : ℕ) → bytes ≡ front ++ rest → bytes ≡ (front ++ take n rest) ++ take (length rest - n) (drop n rest)
front_more bytes front rest n whole =
    simp (take_all (length rest - n) (drop n rest) (omega (arith, length-drop n rest)), append_assoc, take-append-drop) whole
