use Rattle.std.proofs.Common.{◌≡◌, ◌+◌, ◌∙◌, ℕ, Err, ap, arith}
use Rattle.order_player.specs.declared.moves.MoveFault.TheVariants.{Steps}
use Rattle.order_model.proofs.MoveLemmas.{preempted_may}
use Rattle.order_model.specs.Asking.{asked_of, came_of}
use Rattle.order_player.specs.Played.{shown}
use Rattle.order_player.specs.Runs.{point_of}
use Rattle.order_player.proofs.MoveLemmas.{preempted_near, preemption_leads}
use Rattle.order_player.proofs.moves.play_preempted.Goals as goal

pub returns-in-Ok-clause-leads : goal.returns-in-Ok-clause-leads
returns-in-Ok-clause-leads g c =
    preemption_leads (asked_of c.args.orders.now) (shown g.W.SwapStore c.args.kernel.now c.args.trail.now)
    (shown g.W.SwapStore c.play_within.new.kernel c.play_within.new.trail) (came_of c.args.trail.now.came.items) c.args.trail.now.preempted
    c.args.who c.in-Ok.field-0 c.args.steps (came_of c.play_within.new.trail.came.items) _ c.requires.leads c.in-Ok.ensures.plays
    (λ i. came_of (c.play_within.ensures.moves.came i).items)
    (c.one_more-trail.ensures ∙ ap (λ (n : ℕ). n + 1) c.play_within.ensures.moves.preempted)

pub one_more-trail-requires : goal.one_more-trail-requires
one_more-trail-requires g c =
    let may = preempted_may (asked_of c.args.orders.now) (point_of g.W.SwapStore c.args.kernel.now c.args.trail.now) c.args.who c.args.steps
    c.requires.leads in
    let same = c.play_within.ensures.moves.preempted in
    let left = may.left in
    omega (arith, left, same)

pub returns-in-Err-clause-steps : goal.returns-in-Err-clause-steps
returns-in-Err-clause-steps g c steps =
    let near : c.in-Err.fault ≡ Steps = cc in
    preempted_near (asked_of c.args.orders.now) (point_of g.W.SwapStore c.args.kernel.now c.args.trail.now) c.args.who c.args.steps
    c.requires.leads (c.play_within.ensures.steps (c.in-Err.is ∙ ap (λ fault. Err fault) near))
