use Rattle.std.proofs.Common.{◌≢◌, ◌≤◌, ◌-◌, ◌∙◌, ℕ, refl, sym, arith}
use Rattle.std.proofs.lemmas.Bool.{false≢true}
use Rattle.xk_base.specs.declared.events.Event.TheVariants.{Tick}
use Rattle.xk_kernel.specs.Moments.{Stood}
use Rattle.event_player.specs.Gathering.{text}
use Rattle.event_player.specs.Standing.{Stand, stand}
use Rattle.event_player.proofs.Playing.RestLemmas.{on_from_rest, plays_of_rest, stands_after_run}
use Rattle.event_player.proofs.Playing.StepLemmas.{steps_shown}
use Rattle.event_player.proofs.Playing.StoodLemmas.{stood_here}
use Rattle.event_player.proofs.Playing.TickLemmas.{plays_swap}
use Rattle.event_player.proofs.events.play_run.Goals as goal

pub returns-in_default-clause-on : goal.returns-in_default-clause-on
returns-in_default-clause-on g c =
    let out = text (g.K.Sink.written c.args.out.now) c.args.held.now.items in
    let now : Stand = stand g.W.SwapStore c.args.kernel.now out in
    let new : Stand = stand g.W.SwapStore c.run_quiet.new.self out in
    let more : now.machine.steps ≢ c.args.limit = λ e. absurd (omega (arith, e, c.requires.below)) in
    plays_swap (Stood g.W.SwapStore c.args.kernel.now) c.args.tells c.args.left c.args.limit now new (stood_here c.requires.sound c.requires.usable)
    (omega (arith, c.requires.some)) c.in_default.ensures.idle more (omega (arith, c.requires.below)) refl
    (λ near. absurd (false≢true (sym c.in_default.ensures.out ∙ near)))

pub returns-then-done-most-clause-on : goal.returns-then-done-most-clause-on
returns-then-done-most-clause-on g c last result plays =
    let out = text (g.K.Sink.written c.args.out.now) c.args.held.now.items in
    let now : Stand = stand g.W.SwapStore c.args.kernel.now out in
    let mid : Stand = stand g.W.SwapStore c.run_quiet.new.self out in
    let done : ℕ = c.in-Ok.done in
    let some : done ≤ c.args.left = omega arith in
    let old_steps = steps_shown g.W.SwapStore.held c.args.kernel.now in
    let new_steps = steps_shown g.W.SwapStore.held c.run_quiet.new.self in
    let within : mid.machine.steps ≤ c.args.limit = omega (arith, old_steps, new_steps, c.in-Ok.ensures.counts, c.in-Ok.ensures.most) in
    plays_of_rest (Stood g.W.SwapStore c.args.kernel.now) (Stood g.W.SwapStore c.run_quiet.new.self) c.args.tells (Tick c.args.left) (Tick (c.args.left - done)) c.args.limit now mid last result
    (stands_after_run done c.args.left c.args.limit out c.run_quiet.ensures.keeps (λ knows. (c.in-Ok.ensures.runs knows).steps) c.in-Ok.ensures.stood c.run_quiet.ensures.none some within) plays

pub returns-clause-on : goal.returns-clause-on
returns-clause-on g c =
    let out = text (g.K.Sink.written c.args.out.now) c.args.held.now.items in
    let now : Stand = stand g.W.SwapStore c.args.kernel.now out in
    let mid : Stand = stand g.W.SwapStore c.run_quiet.new.self out in
    let new : Stand = stand g.W.SwapStore c.play_step.new.kernel (text (g.K.Sink.written c.play_step.new.out) c.play_step.new.held.items) in
    let done : ℕ = c.in-Ok.done in
    let some : done ≤ c.args.left = omega (arith, c.in-Ok.ensures.most) in
    let old_steps = steps_shown g.W.SwapStore.held c.args.kernel.now in
    let new_steps = steps_shown g.W.SwapStore.held c.run_quiet.new.self in
    let within : mid.machine.steps ≤ c.args.limit = omega (arith, old_steps, new_steps, c.in-Ok.ensures.counts, c.in-Ok.ensures.most) in
    on_from_rest (Stood g.W.SwapStore c.args.kernel.now) (Stood g.W.SwapStore c.run_quiet.new.self) (Stood g.W.SwapStore c.play_step.new.kernel) c.args.tells c.args.left (c.args.left - done) c.args.limit now mid new _
    (stands_after_run done c.args.left c.args.limit out c.run_quiet.ensures.keeps (λ knows. (c.in-Ok.ensures.runs knows).steps) c.in-Ok.ensures.stood c.run_quiet.ensures.none some within) c.play_step.ensures.on

pub returns-then-done-most-clause-serves : goal.returns-then-done-most-clause-serves
returns-then-done-most-clause-serves g c =
    let old_steps = steps_shown g.W.SwapStore.held c.args.kernel.now in
    let new_steps = steps_shown g.W.SwapStore.held c.run_quiet.new.self in
    record {
      sound = c.run_quiet.ensures.sound;
      usable = c.in-Ok.ensures.usable;
      keeps = c.run_quiet.ensures.keeps;
      within = omega (arith, old_steps, new_steps, c.in-Ok.ensures.counts, c.in-Ok.ensures.most);
      write = λ e. cc;
      swap = λ e. cc;
      never_falls = omega arith;
    }

pub play_step-requires-clause-below : goal.play_step-requires-clause-below
play_step-requires-clause-below g c =
    let old_steps = steps_shown g.W.SwapStore.held c.args.kernel.now in
    let new_steps = steps_shown g.W.SwapStore.held c.run_quiet.new.self in
    omega (arith, old_steps, new_steps, c.in-Ok.ensures.counts, c.in-Ok.ensures.most, c.if-done-most.false)
