use Rattle.std.proofs.Common.{◌≡◌, ◌∙◌, arith, below_more, false, get_or, sym}
use Rattle.std.proofs.lemmas.Option.{slice_get-get_or}
use Rattle.order_model.specs.declared.failing.Failing.TheVariants.{Exit}
use Rattle.order_model.specs.Failing.{fails_at}
use Rattle.order_model.proofs.FailingLemmas.{fails_first, fails_nowhere, fails_there}
use Rattle.order_model.proofs.failing.first_failing.Goals as goal

pub returns-then-fails : goal.returns-then-fails
returns-then-fails c p stand =
    let place = c.loop-place.place in
    let item = get_or c.args.list.now place Exit in
    fails_first c.args.list.now p place (omega arith)
    (fails_there c.args.list.now p place item (slice_get-get_or c.args.list.now place Exit (omega arith))
    ∙ (sym (c.fails.ensures p stand) ∙ c.if-fails.true))
    (c.loop-place.invariant p stand)

pub loop-place-preserved : goal.loop-place-preserved
loop-place-preserved c p stand =
    let place = c.loop-place.place in
    let item = get_or c.args.list.now place Exit in
    below_more (λ k. fails_at c.args.list.now p k ≡ false) place (c.loop-place.invariant p stand)
    (fails_there c.args.list.now p place item (slice_get-get_or c.args.list.now place Exit (omega arith))
    ∙ (sym (c.fails.ensures p stand) ∙ c.if-fails.false))

pub returns : goal.returns
returns c p stand = fails_nowhere c.args.list.now p (λ k low. c.loop-place.invariant p stand k (omega (arith, low)))
