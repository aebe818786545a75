use Rattle.std.proofs.Common.{refl, ap, ◌∙◌, arith}
use Rattle.machine_model.specs.State.Machine.{Machine}
use Rattle.xk_kernel.specs.State.{machine_of}
use Rattle.xk_kernel.proofs.Memory.KnownLemmas.{stays_trusted}
use Rattle.order_player.specs.Played.{shown}
use Rattle.order_player.specs.Steps.{Shown}
use Rattle.order_player.proofs.StepLemmas.{picked_steps, slice_played}
use Rattle.order_player.proofs.slices.play_slice.Goals as goal

pub play_steps-requires-clause-few : goal.play_steps-requires-clause-few
play_steps-requires-clause-few g c =
    let same = ap (λ (m : Machine). m.steps) c.event_start.ensures.does.machine
    ∙ picked_steps c.args.who (machine_of g.W.SwapStore.held c.args.kernel.now) in
    omega (arith, same, c.requires.few)

pub returns-clause-plays : goal.returns-clause-plays
returns-clause-plays g c trusted =
    let old : Shown = shown g.W.SwapStore c.args.kernel.now c.args.trail.now in
    let mid : Shown = shown g.W.SwapStore c.event_start.new.self c.args.trail.now in
    let last : Shown = shown g.W.SwapStore c.play_steps.new.kernel c.play_steps.new.trail in
    let new : Shown = shown g.W.SwapStore c.end_turn.new.self c.play_steps.new.trail in
    let still = stays_trusted g.W.SwapStore c.args.kernel.now c.event_start.new.self c.event_start.ensures.keeps ∙ trusted in
    slice_played c.args.keeps c.args.quantum c.in_ok-left.left c.args.who old mid last new c.event_start.ensures.does.machine refl (c.in_ok-left.ensures.plays still)
    c.end_turn.ensures.machine refl
