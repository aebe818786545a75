use Rattle.std.proofs.Common.{ℕ, ap, subst, ◌∙◌}
use Rattle.order_model.specs.Moves.{Asked, most_within}
use Rattle.order_model.specs.Asking.{asked_of, came_of}
use Rattle.order_player.specs.Played.{shown}
use Rattle.order_player.specs.Steps.{IsSlice, Shown}
use Rattle.order_player.proofs.MoveLemmas.{slice_leads}
use Rattle.order_player.proofs.moves.play_thread.Goals as goal

pub returns-in-Ok-clause-leads : goal.returns-in-Ok-clause-leads
returns-in-Ok-clause-leads g c =
    let asked : Asked = asked_of c.args.orders.now in
    let old : Shown = shown g.W.SwapStore c.args.kernel.now c.args.trail.now in
    let new : Shown = shown g.W.SwapStore c.play_within.new.kernel c.play_within.new.trail in
    let most = c.most_steps-most.ensures ∙ ap (most_within asked.bound asked.quantum) c.steps.ensures in
    slice_leads asked old new (came_of c.args.trail.now.came.items) c.args.trail.now.preempted c.args.who c.in-Ok.steps
    (came_of c.play_within.new.trail.came.items) c.play_within.new.trail.preempted c.requires.ready c.requires.left
    (subst (λ (n : ℕ). IsSlice asked.exits n c.args.who old c.in-Ok.steps new) most c.in-Ok.ensures.plays)
    (λ i. came_of (c.play_within.ensures.moves.came i).items) c.play_within.ensures.moves.preempted
