use Rattle.std.proofs.Common.{◌≢◌, ◌≤◌, refl, sym, subst, arith, List}
use Rattle.xk_base.specs.declared.events.Event.TheVariants.{Tick}
use Rattle.xk_base.specs.declared.records.Rec.{Rec}
use Rattle.machine_model.specs.State.Machine.{Machine}
use Rattle.xk_kernel.specs.Knowing.{KnowsBytes}
use Rattle.xk_kernel.specs.Moments.{Stood}
use Rattle.xk_kernel.specs.State.{machine_of}
use Rattle.xk_kernel.specs.Stepping.{CountsStep, DoesStep}
use Rattle.xk_kernel.specs.declared.kernel.Kernel.{Kernel}
use Rattle.xk_kernel.specs.declared.kernel.Stepped.{Stepped}
use Rattle.xk_kernel.specs.declared.kernel.Stepped.TheVariants.{Did, Idle}
use Rattle.event_player.specs.Gathering.{Gathers, GathersPart, text}
use Rattle.event_player.specs.Playing.{Plays}
use Rattle.event_player.specs.Standing.{Stand, stand}
use Rattle.event_player.specs.Telling.{told}
use Rattle.event_player.proofs.Playing.RestLemmas.{plays_of_rest, stands_idle}
use Rattle.event_player.proofs.Playing.StepLemmas.{full_where_near, step_does, step_unwritten, steps_shown}
use Rattle.event_player.proofs.Playing.StoodLemmas.{stood_here}
use Rattle.event_player.proofs.Playing.TickLemmas.{plays_later, plays_swap, plays_unwritten}
use Rattle.event_player.proofs.events.play_step.Goals as goal

pub returns-in-Ok-Idle-clause-on : goal.returns-in-Ok-Idle-clause-on
returns-in-Ok-Idle-clause-on g c last result plays =
    let out = text (g.K.Sink.written c.args.out.now) c.args.held.now.items in
    let now : Stand = stand g.W.SwapStore c.args.kernel.now out in
    let C : Stepped → Type 0 = λ s. CountsStep g.W.SwapStore.held c.args.kernel.now c.step.new.self s in
    let counts : C Idle = subst C c.in-Ok-Idle.field-0-is c.in-Ok-Idle.ensures.counts in
    let P : Kernel _ → Type 0 = λ k. Plays (Stood g.W.SwapStore k) c.args.tells (Tick 0) c.args.limit (stand g.W.SwapStore k out) last result in
    let stood : Machine → Type 0 = Stood g.W.SwapStore c.args.kernel.now in
    plays_of_rest stood stood c.args.tells (Tick c.args.left) (Tick 0) c.args.limit now now last result
    (stands_idle stood c.args.left c.args.limit now (omega (arith, c.requires.below)) counts.0) (subst P counts.1 plays)

pub returns-in-Ok-Idle-clause-serves : goal.returns-in-Ok-Idle-clause-serves
returns-in-Ok-Idle-clause-serves g c =
    let C : Stepped → Type 0 = λ s. CountsStep g.W.SwapStore.held c.args.kernel.now c.step.new.self s in
    let counts : C Idle = subst C c.in-Ok-Idle.field-0-is c.in-Ok-Idle.ensures.counts in
    let P : Kernel _ → Type 0 = λ k. (machine_of g.W.SwapStore.held k).steps ≤ c.args.limit in
    let within : P c.args.kernel.now = omega (arith, c.requires.below) in
    record {
      sound = c.step.ensures.sound;
      usable = c.in-Ok-Idle.ensures.usable;
      keeps = c.step.ensures.keeps;
      within = subst P (sym counts.1) within;
      write = λ e. cc;
      swap = λ e. cc;
      never_falls = omega arith;
    }

pub returns-in-Err-clause-on : goal.returns-in-Err-clause-on
returns-in-Err-clause-on g c =
    let out = text (g.K.Sink.written c.args.out.now) c.args.held.now.items in
    let now : Stand = stand g.W.SwapStore c.args.kernel.now out in
    let new : Stand = stand g.W.SwapStore c.step.new.self out in
    let more : now.machine.steps ≢ c.args.limit = λ e. absurd (omega (arith, e, c.requires.below)) in
    plays_swap (Stood g.W.SwapStore c.args.kernel.now) c.args.tells c.args.left c.args.limit now new (stood_here c.requires.sound c.requires.usable)
    (omega (arith, c.requires.some)) c.in-Err.ensures.there more (omega (arith, c.requires.below)) refl
    (full_where_near g.W.SwapStore.held c.args.kernel.now c.in-Err.ensures.full)

pub returns-in_default-clause-on : goal.returns-in_default-clause-on
returns-in_default-clause-on g c =
    let before = text (g.K.Sink.written c.args.out.now) c.args.held.now.items in
    let after = text (g.K.Sink.written c.gather_records.new.out) c.gather_records.new.held.items in
    let now : Stand = stand g.W.SwapStore c.args.kernel.now before in
    let new : Stand = stand g.W.SwapStore c.step.new.self after in
    let more : now.machine.steps ≢ c.args.limit = λ e. absurd (omega (arith, e, c.requires.below)) in
    let C : Stepped → Type 0 = λ s. CountsStep g.W.SwapStore.held c.args.kernel.now c.step.new.self s in
    let D : Stepped → Type 0 = λ s. KnowsBytes g.W.SwapStore c.args.kernel.now c.step.new.self → DoesStep g.W.SwapStore.held c.args.kernel.now c.step.new.self s in
    let P : List Rec → Type 0 = λ rs. GathersPart before after (told c.args.tells rs) in
    plays_unwritten (Stood g.W.SwapStore c.args.kernel.now) c.args.tells c.args.left c.args.limit now new (omega (arith, c.requires.some))
    (step_unwritten c.args.tells c.args.limit before after c.step.ensures.keeps (subst C c.in-Ok-Did.field-0-is c.in-Ok-Did.ensures.counts) more
    (subst D c.in-Ok-Did.field-0-is c.in-Ok-Did.ensures.does) c.step.ensures.out (subst P c.last.ensures c.in_default.ensures.front))

pub returns-clause-on : goal.returns-clause-on
returns-clause-on g c last result plays =
    let before = text (g.K.Sink.written c.args.out.now) c.args.held.now.items in
    let after = text (g.K.Sink.written c.gather_records.new.out) c.gather_records.new.held.items in
    let now : Stand = stand g.W.SwapStore c.args.kernel.now before in
    let mid : Stand = stand g.W.SwapStore c.step.new.self after in
    let more : now.machine.steps ≢ c.args.limit = λ e. absurd (omega (arith, e, c.requires.below)) in
    let C : Stepped → Type 0 = λ s. CountsStep g.W.SwapStore.held c.args.kernel.now c.step.new.self s in
    let D : Stepped → Type 0 = λ s. KnowsBytes g.W.SwapStore c.args.kernel.now c.step.new.self → DoesStep g.W.SwapStore.held c.args.kernel.now c.step.new.self s in
    let P : List Rec → Type 0 = λ rs. Gathers before after (told c.args.tells rs) in
    plays_later (Stood g.W.SwapStore c.args.kernel.now) (Stood g.W.SwapStore c.step.new.self) c.args.tells c.args.left c.args.limit now mid last result (omega (arith, c.requires.some))
    (step_does c.args.tells c.args.limit before after c.requires.sound c.requires.usable c.step.ensures.keeps (subst C c.in-Ok-Did.field-0-is c.in-Ok-Did.ensures.counts) more
    (subst D c.in-Ok-Did.field-0-is c.in-Ok-Did.ensures.does) c.step.ensures.out (subst P c.last.ensures c.in-Ok.ensures.gathered))
    plays

pub returns-clause-serves : goal.returns-clause-serves
returns-clause-serves g c =
    let C : Stepped → Type 0 = λ s. CountsStep g.W.SwapStore.held c.args.kernel.now c.step.new.self s in
    let counts : C Did = subst C c.in-Ok-Did.field-0-is c.in-Ok-Did.ensures.counts in
    let old_steps = steps_shown g.W.SwapStore.held c.args.kernel.now in
    let new_steps = steps_shown g.W.SwapStore.held c.step.new.self in
    record {
      sound = c.step.ensures.sound;
      usable = c.in-Ok-Did.ensures.usable;
      keeps = c.step.ensures.keeps;
      within = omega (arith, old_steps, new_steps, counts.1, c.requires.below);
      write = λ e. cc;
      swap = λ e. cc;
      never_falls = c.gather_records.ensures.never_falls;
    }
