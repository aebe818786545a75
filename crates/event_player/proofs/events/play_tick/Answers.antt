use Rattle.std.proofs.Common.{◌≡◌, refl, arith, Ok, Err}
use Rattle.xk_base.specs.declared.events.Event.TheVariants.{Tick}
use Rattle.machine_model.specs.State.Machine.{Machine}
use Rattle.machine_laws.proofs.Histories.LimitLemmas.{turn_steps}
use Rattle.xk_kernel.specs.Moments.{Stood}
use Rattle.event_player.specs.declared.ending.Ending.TheVariants.{Played, LimitMet}
use Rattle.event_player.specs.Gathering.{text}
use Rattle.event_player.specs.Standing.{Stand, stand}
use Rattle.event_player.proofs.Playing.KeptLemmas.{kept_after}
use Rattle.event_player.proofs.Playing.RestLemmas.{plays_err}
use Rattle.event_player.proofs.Playing.StoodLemmas.{stood_here, stood_there}
use Rattle.event_player.proofs.Playing.TickLemmas.{comes_idle, comes_met, comes_over, plays_surely}
use Rattle.event_player.proofs.events.play_tick.Goals as goal

pub returns-then-ready-clause-plays : goal.returns-then-ready-clause-plays
returns-then-ready-clause-plays g c =
    let stood : Machine → Type 0 = Stood g.W.SwapStore c.runs.kernel in
    let now : Stand = stand g.W.SwapStore c.runs.kernel (text (g.K.Sink.written c.runs.out) c.runs.held.items) in
    c.runs.invariant.plays now (Ok LimitMet)
    (plays_surely stood c.args.tells c.runs.left c.args.limit now now LimitMet (λ near. near)
    (comes_met stood c.args.tells c.runs.left c.args.limit now (stood_here c.runs.invariant.sound c.runs.invariant.usable) (omega arith) (cc) (cc)))

pub returns-then-steps-limit-clause-plays : goal.returns-then-steps-limit-clause-plays
returns-then-steps-limit-clause-plays g c =
    let stood : Machine → Type 0 = Stood g.W.SwapStore c.runs.kernel in
    let out = text (g.K.Sink.written c.runs.out) c.runs.held.items in
    let now : Stand = stand g.W.SwapStore c.runs.kernel out in
    let new : Stand = stand g.W.SwapStore c.end_turn.new.self out in
    c.runs.invariant.plays new (Ok Played)
    (plays_surely stood c.args.tells c.runs.left c.args.limit now new Played c.end_turn.ensures.none
    (comes_idle stood c.args.tells c.runs.left c.args.limit now new (stood_here c.runs.invariant.sound c.runs.invariant.usable)
    (stood_there new.machine c.end_turn.ensures.keeps c.end_turn.ensures.sound c.end_turn.ensures.usable refl) (cc) refl c.end_turn.ensures.machine))

pub returns-then-steps-limit-clause-serves : goal.returns-then-steps-limit-clause-serves
returns-then-steps-limit-clause-serves g c = record {
  sound = c.end_turn.ensures.sound;
  usable = c.end_turn.ensures.usable;
  keeps = kept_after c.runs.invariant.keeps c.end_turn.ensures.keeps;
  within = rw (c.end_turn.ensures.machine, turn_steps) c.runs.invariant.within;
  write = λ e. cc;
  swap = λ e. cc;
  never_falls = c.runs.invariant.later;
}

pub returns-clause-plays : goal.returns-clause-plays
returns-clause-plays g c =
    let stood : Machine → Type 0 = Stood g.W.SwapStore c.runs.kernel in
    let out = text (g.K.Sink.written c.runs.out) c.runs.held.items in
    let now : Stand = stand g.W.SwapStore c.runs.kernel out in
    let new : Stand = stand g.W.SwapStore c.end_turn-2.new.self out in
    let none : c.runs.left ≡ 0 = omega arith in
    c.runs.invariant.plays new (Ok Played)
    (plays_surely stood c.args.tells c.runs.left c.args.limit now new Played c.end_turn-2.ensures.none
    (comes_over stood c.args.tells c.runs.left c.args.limit now new (stood_here c.runs.invariant.sound c.runs.invariant.usable)
    (stood_there new.machine c.end_turn-2.ensures.keeps c.end_turn-2.ensures.sound c.end_turn-2.ensures.usable refl) none refl c.end_turn-2.ensures.machine))

pub returns-clause-serves : goal.returns-clause-serves
returns-clause-serves g c = record {
  sound = c.end_turn-2.ensures.sound;
  usable = c.end_turn-2.ensures.usable;
  keeps = kept_after c.runs.invariant.keeps c.end_turn-2.ensures.keeps;
  within = rw (c.end_turn-2.ensures.machine, turn_steps) c.runs.invariant.within;
  write = λ e. cc;
  swap = λ e. cc;
  never_falls = c.runs.invariant.later;
}

pub returns-in_err-left-clause-plays : goal.returns-in_err-left-clause-plays
returns-in_err-left-clause-plays g c =
    let old : Stand = stand g.W.SwapStore c.args.kernel.now (text (g.K.Sink.written c.args.out.now) c.args.held.now.items) in
    let new : Stand = stand g.W.SwapStore c.play_run.new.kernel (text (g.K.Sink.written c.play_run.new.out) c.play_run.new.held.items) in
    plays_err (Stood g.W.SwapStore c.args.kernel.now) c.args.tells (Tick c.args.count) c.args.limit old new c.from_residual.result _ c.from_residual.ensures.1
    (c.runs.invariant.plays new (Err c.in_err-left.field-0.0) c.in_err-left.ensures.on)

pub runs-preserved : goal.runs-preserved
runs-preserved g c = record {
  plays = λ new result plays. c.runs.invariant.plays new result (c.in_ok-left.ensures.on new result plays);
  later = omega (arith, c.runs.invariant.later, c.play_run.ensures.serves.never_falls);
  sound = c.play_run.ensures.serves.sound;
  usable = c.in_ok-left.ensures.serves.usable;
  keeps = kept_after c.runs.invariant.keeps c.play_run.ensures.serves.keeps;
  within = c.in_ok-left.ensures.serves.within;
}
