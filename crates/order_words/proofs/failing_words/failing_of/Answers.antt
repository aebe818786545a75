use Rattle.std.proofs.Common.{◌≡◌, ◌∙◌, ◌++◌, List, ℕ, ap, sym}
use Rattle.std.specs.Prelude.{codes}
use Rattle.order_words.proofs.ArgumentLemmas.{if_none}
use Rattle.order_words.proofs.FailingWordLemmas.{no_waiter}
use Rattle.order_words.proofs.failing_words.failing_of.Goals as goal

pub returns-in_err-waiter-clause-none : goal.returns-in_err-waiter-clause-none
returns-in_err-waiter-clause-none c =
    let front = c.in-Some.ensures.cases in
    let is : c.args.word.now ≡ codes "waits=" ++ c.in-Some.named.now = front.1.1 ∙ ap (λ (r : List ℕ). codes "waits=" ++ r) (sym front.2) in
    if_none c.from_residual.result _ (λ failing asks. no_waiter c.args.word.now c.in-Some.named.now is c.in_err-waiter.ensures.none failing asks)
