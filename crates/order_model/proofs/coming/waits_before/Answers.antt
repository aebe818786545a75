use Rattle.std.proofs.Common.{◌≡◌, ◌∙◌, arith, below_more, false, sym}
use Rattle.order_model.specs.Asking.{asked_of}
use Rattle.order_model.specs.Moves.{waits_at}
use Rattle.order_model.proofs.FailingLemmas.{none_found, some_found}
use Rattle.order_model.proofs.coming.waits_before.Goals as goal

pub returns-then-waits_at : goal.returns-then-waits_at
returns-then-waits_at c p same =
    some_found c.args.number c.loop-lower.lower (waits_at (asked_of c.args.orders.now) c.args.event p) (omega arith)
    (sym (c.waits_at.ensures p same) ∙ c.if-waits_at.true)

pub loop-lower-preserved : goal.loop-lower-preserved
loop-lower-preserved c p same =
    below_more (λ k. waits_at (asked_of c.args.orders.now) c.args.event p k ≡ false) c.loop-lower.lower (c.loop-lower.invariant p same)
    (sym (c.waits_at.ensures p same) ∙ c.if-waits_at.false)

pub returns : goal.returns
returns c p same =
    none_found c.args.number (waits_at (asked_of c.args.orders.now) c.args.event p)
    (λ k low. c.loop-lower.invariant p same k (omega (arith, low)))
