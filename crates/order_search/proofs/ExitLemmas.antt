-- What processes ended with is told by what tells each end.
use Rattle.std.proofs.Common.{◌≡◌, ◌<◌, ◌+◌, ◌∙◌, ◌==◌, ℕ, suc, Bool, true, false, List, [], ◌∷◌, ◌++◌, All, get_or, length, take, Some, refl, sym, ap, subst, arith, if◌then◌else◌}
use Rattle.std.specs.List.{find}
use Rattle.std.specs.Option.{option_map}
use Rattle.std.proofs.Math.Seq.{take-suc}
use Rattle.std.proofs.lemmas.Bool.Decides.{nat_tests}
use Rattle.std.proofs.lemmas.List.Elements.{All-append, All-cons, All-head, All-nil, All-tail}
use Rattle.order_model.specs.declared.exits.Ended.{Ended}
use Rattle.order_model.specs.Exits.{exit_in}
use Rattle.order_search.specs.Spelled.{IsEndOfWords, IsExitTold}

-- one more is of words
pub one_more_end : (ends : List Ended) (k : ℕ) (d : Ended) → k < length ends → All IsEndOfWords (take k ends) → IsEndOfWords (get_or ends k d)
    → All IsEndOfWords (take (k + 1) ends)
one_more_end ends k d low all one =
    let next : k + 1 ≡ suc k = omega arith in
    let further : take (k + 1) ends ≡ take k ends ++ get_or ends k d ∷ [] = ap (λ (n : ℕ). take n ends) next ∙ take-suc ends k d low in
    subst (All IsEndOfWords) (sym further)
    (All-append IsEndOfWords (take k ends) (get_or ends k d ∷ []) all (All-cons IsEndOfWords (get_or ends k d) [] one (All-nil IsEndOfWords)))

pub exits_told : (ends : List Ended) → All IsEndOfWords ends → (pid : ℕ) → IsExitTold pid (exit_in ends pid)
exits_told [] all pid = tt
exits_told (end ∷ ends) all pid = go (end.pid.0 == pid) refl (exits_told ends (All-tail IsEndOfWords end ends all) pid)
  where
    go : (b : Bool) → (end.pid.0 == pid) ≡ b → IsExitTold pid (exit_in ends pid)
        → IsExitTold pid (option_map (λ (e : Ended). e.exit) (if b then Some end else find (λ e. e.pid.0 == pid) ends))
    go true is rest =
        let one = All-head IsEndOfWords end ends all in
        let same : end.pid.0 ≡ pid = grind (arith, nat_tests) in
        (omega (arith, one.pid, same), one.exit)
    go false is rest = rest
