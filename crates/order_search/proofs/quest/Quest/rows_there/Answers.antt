use Rattle.std.proofs.Common.{◌<◌, ℕ, arith, subst}
use Rattle.order_search.proofs.FaultLemmas.{beyond_there}
use Rattle.order_search.proofs.QuestLemmas.{arrived_reserved}
use Rattle.xk_base.specs.declared.limits.TheConstants.{STEP_LIMIT}
use Rattle.order_search.proofs.quest.Quest.rows_there.Goals as goal

pub rows-requires-clause-reserved : goal.rows-requires-clause-reserved
rows-requires-clause-reserved c =
    arrived_reserved c.args.self.now.subject c.args.self.now.lawful c.args.self.now.can_start c.args.order.now _ c.requires.arrives

pub returns-then-steps-gt-STEP_LIMIT-clause-fault : goal.returns-then-steps-gt-STEP_LIMIT-clause-fault
returns-then-steps-gt-STEP_LIMIT-clause-fault c =
    let beyond : STEP_LIMIT < c.steps.result = omega (arith, c.if-steps-gt-STEP_LIMIT.true) in
    beyond_there c.args.self.now.subject c.args.order.now _ c.requires.arrives (subst (λ (n : ℕ). STEP_LIMIT < n) c.steps.ensures beyond)
