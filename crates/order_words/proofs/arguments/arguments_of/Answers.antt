use Rattle.std.proofs.Common.{◌≡◌, ◌∷◌, List, subst}
use Rattle.std.specs.declared.string.String.{String}
use Rattle.std.specs.declared.alloc.Global.{Global}
use Rattle.order_words.specs.Arguments.{AreArguments, texts}
use Rattle.order_words.proofs.ArgumentLemmas.{rest_are}
use Rattle.order_words.proofs.arguments.arguments_of.Goals as goal

pub returns-in_default-next_argument : goal.returns-in_default-next_argument
returns-in_default-next_argument c args are =
    let more = rest_are _ _ args _ c.loop-word.invariant.each c.loop-word.invariant.words are in
    let first : c.loop-word.rest.now ≡ c.in-Some.word.now ∷ c.in-Some.behind.now = c.in-Some.ensures.cases.0 in
    c.in_default-next_argument.ensures.none more.0 (subst (λ (ws : List (String Global)). AreArguments more.0 (texts ws)) first more.1)
