use Rattle.std.proofs.Common.{◌≡◌, ◌≢◌, ◌+◌, ◌-◌, ◌++◌, ℕ, refl, sym, ap, ◌∙◌, subst, arith, List, length}
use Rattle.xk_base.specs.declared.events.Event.TheVariants.{Tick}
use Rattle.machine_model.specs.State.Machine.{Machine}
use Rattle.machine_model.specs.State.Order.{turn}
use Rattle.machine_model.specs.Stepping.Step.{step}
use Rattle.xk_base.specs.declared.limits.TheConstants.{DEFAULT_STEPS}
use Rattle.xk_base.specs.declared.records.Rec.{Rec}
use Rattle.machine_laws.specs.History.{History, behind, play}
use Rattle.xk_kernel.specs.Moments.{Stood, Throughout}
use Rattle.xk_kernel.specs.State.{machine_of}
use Rattle.xk_kernel.specs.Stepping.{DoesStep}
use Rattle.xk_kernel.specs.declared.kernel.Stepped.{Stepped}
use Rattle.xk_kernel.specs.declared.kernel.Stepped.TheVariants.{Did, Idle}
use Rattle.machine_laws.proofs.Histories.HistoryLemmas.{tick_zero, tick_idle, tick_steps}
use Rattle.machine_laws.proofs.Histories.LimitLemmas.{step_steps, turn_steps}
use Rattle.event_player.proofs.Playing.KeptLemmas.{kept_after, kept_same}
use Rattle.machine_laws.specs.HistoryMoments.{event_moments}
use Rattle.event_player.specs.Rooms.{ComesFull}
use Rattle.event_player.specs.Standing.{room_in}
use Rattle.event_player.proofs.Playing.FullLemmas.{step_full, step_on_full}
use Rattle.event_player.proofs.Playing.StandingLemmas.{no_slots_none_out, no_slots_trusted, room_stays, slots_stay, trusted_knows}
use Rattle.event_player.proofs.Playing.StepLemmas.{full_where_near}
use Rattle.event_player.proofs.Playing.StoodLemmas.{idle_turn, over_moments, stood_here, stood_since, stood_there, through_step_to, through_turn}
use Rattle.demo_load.proofs.LoadPlayingLemmas.{few_told, tick_on, tick_over, within_more, within_same}
use Rattle.demo_load.proofs.playing.play_tick.Goals as goal

pub returns-in-Ok-Idle-clause-counted : goal.returns-in-Ok-Idle-clause-counted
returns-in-Ok-Idle-clause-counted g c before is =
    let D : Stepped → Type 0 = λ s. DoesStep g.W.SwapStore.held c.steps.kernel c.step.new.self s in
    let does : D Idle = subst D c.in-Ok-Idle.field-0-is (c.in-Ok-Idle.ensures.does (trusted_knows c.step.ensures.keeps (no_slots_trusted g.W.SwapStore c.steps.kernel (slots_stay c.steps.invariant.keeps c.requires.slots)))) in
    let m : Machine = machine_of g.W.SwapStore.held c.steps.kernel in
    let so_far = c.steps.invariant.rest before is in
    tick_over c.steps.totals before so_far.0 (play (Tick (c.args.count - c.steps.done)) DEFAULT_STEPS m)
    (play (Tick c.args.count) DEFAULT_STEPS (machine_of g.W.SwapStore.held c.args.kernel.now)) so_far.1 so_far.2
    (ap (λ (h : History). h.records) (tick_idle (c.args.count - c.steps.done) DEFAULT_STEPS m does.0))

pub returns-in-Ok-Idle-clause-machine : goal.returns-in-Ok-Idle-clause-machine
returns-in-Ok-Idle-clause-machine g c =
    let D : Stepped → Type 0 = λ s. DoesStep g.W.SwapStore.held c.steps.kernel c.step.new.self s in
    let does : D Idle = subst D c.in-Ok-Idle.field-0-is (c.in-Ok-Idle.ensures.does (trusted_knows c.step.ensures.keeps (no_slots_trusted g.W.SwapStore c.steps.kernel (slots_stay c.steps.invariant.keeps c.requires.slots)))) in
    let m : Machine = machine_of g.W.SwapStore.held c.steps.kernel in
    c.end_turn.ensures.machine
    ∙ (ap turn does.1
    ∙ (sym (ap (λ (h : History). h.machine) (tick_idle (c.args.count - c.steps.done) DEFAULT_STEPS m does.0))
    ∙ c.steps.invariant.machine))

pub returns-in-Ok-Idle-clause-stood : goal.returns-in-Ok-Idle-clause-stood
returns-in-Ok-Idle-clause-stood g c =
    let D : Stepped → Type 0 = λ s. DoesStep g.W.SwapStore.held c.steps.kernel c.step.new.self s in
    let does : D Idle = subst D c.in-Ok-Idle.field-0-is (c.in-Ok-Idle.ensures.does (trusted_knows c.step.ensures.keeps (no_slots_trusted g.W.SwapStore c.steps.kernel (slots_stay c.steps.invariant.keeps c.requires.slots)))) in
    let m : Machine = machine_of g.W.SwapStore.held c.steps.kernel in
    let next : Machine = machine_of g.W.SwapStore.held c.end_turn.new.self in
    let left : ℕ = c.args.count - c.steps.done in
    c.steps.invariant.stood
    (through_turn (Stood g.W.SwapStore c.steps.kernel) left DEFAULT_STEPS m next (idle_turn left DEFAULT_STEPS m does.0)
    (stood_here c.steps.invariant.sound c.steps.invariant.usable) (c.end_turn.ensures.machine ∙ ap turn does.1)
    (stood_there next (kept_after c.step.ensures.keeps c.end_turn.ensures.keeps) c.end_turn.ensures.sound c.end_turn.ensures.usable refl))

pub returns-in-Ok-Idle-clause-within : goal.returns-in-Ok-Idle-clause-within
returns-in-Ok-Idle-clause-within g c =
    let D : Stepped → Type 0 = λ s. DoesStep g.W.SwapStore.held c.steps.kernel c.step.new.self s in
    let does : D Idle = subst D c.in-Ok-Idle.field-0-is (c.in-Ok-Idle.ensures.does (trusted_knows c.step.ensures.keeps (no_slots_trusted g.W.SwapStore c.steps.kernel (slots_stay c.steps.invariant.keeps c.requires.slots)))) in
    let m : Machine = machine_of g.W.SwapStore.held c.steps.kernel in
    within_same m.steps _ c.steps.totals c.steps.invariant.within
    (ap (λ (x : Machine). x.steps) c.end_turn.ensures.machine ∙ (turn_steps (machine_of g.W.SwapStore.held c.step.new.self) ∙ ap (λ (x : Machine). x.steps) does.1))

pub steps-init : goal.steps-init
steps-init g c =
    let ticks : ℕ → History = λ n. play (Tick n) DEFAULT_STEPS (machine_of g.W.SwapStore.held c.args.kernel.now) in
    let all : c.args.count - 0 ≡ c.args.count = omega arith in
    record {
      rest = λ before is. (before, is, ap (λ (n : ℕ). before ++ (ticks n).records) all);
      machine = ap (λ (n : ℕ). (ticks n).machine) all;
      full = (let m : Machine = machine_of g.W.SwapStore.held c.args.kernel.now in
          let F : ℕ → Type 0 = λ n. ComesFull (room_in c.args.kernel.now) m (event_moments (Tick n) DEFAULT_STEPS m) in
          λ full. subst F all full);
      stood = (let m : Machine = machine_of g.W.SwapStore.held c.args.kernel.now in
          let F : ℕ → Type 0 = λ n. Throughout (Stood g.W.SwapStore c.args.kernel.now) m (event_moments (Tick n) DEFAULT_STEPS m) in
          λ stood. subst F all stood);
      steps = omega arith;
      within = c.requires.within;
      sound = c.requires.sound;
      usable = c.requires.usable;
      keeps = kept_same c.args.kernel.now;
    }

pub count_all-requires : goal.count_all-requires
count_all-requires g c =
    let D : Stepped → Type 0 = λ s. DoesStep g.W.SwapStore.held c.steps.kernel c.step.new.self s in
    let does : D Did = subst D c.in-Ok-Did.field-0-is (c.in-Ok-Did.ensures.does (trusted_knows c.step.ensures.keeps (no_slots_trusted g.W.SwapStore c.steps.kernel (slots_stay c.steps.invariant.keeps c.requires.slots)))) in
    let few = few_told g.W.SwapStore (machine_of g.W.SwapStore.held c.steps.kernel) c.step.new.self c.last.result.now
    c.step.ensures.sound does.1.machine (c.last.ensures ∙ does.1.records) in
    record {
      few = omega (arith, few, c.steps.invariant.within.sends, c.steps.invariant.steps, c.requires.room);
      few_gone = omega (arith, few, c.steps.invariant.within.gone, c.steps.invariant.steps, c.requires.room);
    }

pub steps-preserved : goal.steps-preserved
steps-preserved g c =
    let D : Stepped → Type 0 = λ s. DoesStep g.W.SwapStore.held c.steps.kernel c.step.new.self s in
    let does : D Did = subst D c.in-Ok-Did.field-0-is (c.in-Ok-Did.ensures.does (trusted_knows c.step.ensures.keeps (no_slots_trusted g.W.SwapStore c.steps.kernel (slots_stay c.steps.invariant.keeps c.requires.slots)))) in
    let m : Machine = machine_of g.W.SwapStore.held c.steps.kernel in
    let count : ℕ = c.args.count - c.steps.done in
    let left : ℕ = c.args.count - (c.steps.done + 1) in
    let fewer : count - 1 ≡ left = omega arith in
    let records : c.last.result.now ≡ (step m).records = c.last.ensures ∙ does.1.records in
    let more : m.steps ≢ DEFAULT_STEPS = λ e. absurd (omega (arith, e, c.steps.invariant.steps, c.requires.room)) in
    let few = few_told g.W.SwapStore m c.step.new.self c.last.result.now c.step.ensures.sound does.1.machine records in
    let rest : Machine → History = λ mm. play (Tick left) DEFAULT_STEPS mm in
    let one : play (Tick count) DEFAULT_STEPS m ≡ behind (step m).records (rest (step m).machine) =
    tick_steps count DEFAULT_STEPS m (omega arith) does.0 more
    ∙ ap (λ (n : ℕ). behind (step m).records (play (Tick n) DEFAULT_STEPS (step m).machine)) fewer in
    let there : play (Tick count) DEFAULT_STEPS m ≡ behind c.last.result.now (rest (machine_of g.W.SwapStore.held c.step.new.self)) =
    one ∙ (ap (λ (rs : List Rec). behind rs (rest (step m).machine)) (sym records) ∙ ap (λ (mm : Machine). behind c.last.result.now (rest mm)) (sym does.1.machine)) in
    let steps : (machine_of g.W.SwapStore.held c.step.new.self).steps ≡ m.steps + 1 = ap (λ (x : Machine). x.steps) does.1.machine ∙ step_steps m does.0 in
    record {
      rest = λ before is.
          let so_far = c.steps.invariant.rest before is in (
            so_far.0 ++ c.last.result.now,
            c.count_all.ensures.counted so_far.0 so_far.1,
            tick_on before so_far.0 c.last.result.now (play (Tick count) DEFAULT_STEPS m) (rest (machine_of g.W.SwapStore.held c.step.new.self))
                (play (Tick c.args.count) DEFAULT_STEPS (machine_of g.W.SwapStore.held c.args.kernel.now)) so_far.2 there,
          );
      machine = sym (ap (λ (h : History). h.machine) there) ∙ c.steps.invariant.machine;
      full = λ full.
          let F : ℕ → Type 0 = λ n. ComesFull (room_in c.step.new.self) (machine_of g.W.SwapStore.held c.step.new.self) (event_moments (Tick n) DEFAULT_STEPS (machine_of g.W.SwapStore.held c.step.new.self)) in
          c.steps.invariant.full
          (step_on_full (room_in c.steps.kernel) (room_in c.step.new.self) count DEFAULT_STEPS m (machine_of g.W.SwapStore.held c.step.new.self) (omega arith) does.0 more
          (room_stays c.step.ensures.keeps) does.1.machine (subst F (sym fewer) full));
      stood = λ later.
          let next : Machine = machine_of g.W.SwapStore.held c.step.new.self in
          let F : ℕ → Type 0 = λ n. Throughout (Stood g.W.SwapStore c.step.new.self) next (event_moments (Tick n) DEFAULT_STEPS next) in
          let rest : F (count - 1) = subst F (sym fewer) later in
          c.steps.invariant.stood
          (through_step_to (Stood g.W.SwapStore c.steps.kernel) count DEFAULT_STEPS m next (omega arith) does.0 more
          (stood_here c.steps.invariant.sound c.steps.invariant.usable) does.1.machine (λ i. stood_since c.step.ensures.keeps _ (rest i)));
      steps = omega (arith, steps, c.steps.invariant.steps);
      within = within_more m.steps _ (length c.last.result.now) c.steps.totals c.count_all.new.self c.steps.invariant.within steps few
          c.count_all.ensures.sends c.count_all.ensures.gone;
      sound = c.step.ensures.sound;
      usable = c.in-Ok-Did.ensures.usable;
      keeps = kept_after c.steps.invariant.keeps c.step.ensures.keeps;
    }

pub returns-clause-counted : goal.returns-clause-counted
returns-clause-counted g c before is =
    let m : Machine = machine_of g.W.SwapStore.held c.steps.kernel in
    let none : c.args.count - c.steps.done ≡ 0 = omega arith in
    let so_far = c.steps.invariant.rest before is in
    tick_over c.steps.totals before so_far.0 (play (Tick (c.args.count - c.steps.done)) DEFAULT_STEPS m)
    (play (Tick c.args.count) DEFAULT_STEPS (machine_of g.W.SwapStore.held c.args.kernel.now)) so_far.1 so_far.2
    (ap (λ (n : ℕ). (play (Tick n) DEFAULT_STEPS m).records) none ∙ ap (λ (h : History). h.records) (tick_zero DEFAULT_STEPS m))

pub returns-clause-machine : goal.returns-clause-machine
returns-clause-machine g c =
    let m : Machine = machine_of g.W.SwapStore.held c.steps.kernel in
    let none : c.args.count - c.steps.done ≡ 0 = omega arith in
    c.end_turn-2.ensures.machine
    ∙ (sym (ap (λ (h : History). h.machine) (ap (λ (n : ℕ). play (Tick n) DEFAULT_STEPS m) none ∙ tick_zero DEFAULT_STEPS m))
    ∙ c.steps.invariant.machine)

pub returns-clause-stood : goal.returns-clause-stood
returns-clause-stood g c =
    let m : Machine = machine_of g.W.SwapStore.held c.steps.kernel in
    let next : Machine = machine_of g.W.SwapStore.held c.end_turn-2.new.self in
    let left : ℕ = c.args.count - c.steps.done in
    let none : left ≡ 0 = omega arith in
    c.steps.invariant.stood
    (through_turn (Stood g.W.SwapStore c.steps.kernel) left DEFAULT_STEPS m next (over_moments left DEFAULT_STEPS m none)
    (stood_here c.steps.invariant.sound c.steps.invariant.usable) c.end_turn-2.ensures.machine
    (stood_there next c.end_turn-2.ensures.keeps c.end_turn-2.ensures.sound c.end_turn-2.ensures.usable refl))

pub returns-clause-within : goal.returns-clause-within
returns-clause-within g c =
    let m : Machine = machine_of g.W.SwapStore.held c.steps.kernel in
    within_same m.steps _ c.steps.totals c.steps.invariant.within
    (ap (λ (x : Machine). x.steps) c.end_turn-2.ensures.machine ∙ turn_steps m)

pub returns-in-Err-clause-full : goal.returns-in-Err-clause-full
returns-in-Err-clause-full g c =
    let m : Machine = machine_of g.W.SwapStore.held c.steps.kernel in
    let more : m.steps ≢ DEFAULT_STEPS = λ e. absurd (omega (arith, e, c.steps.invariant.steps, c.requires.room)) in
    let near = no_slots_none_out c.steps.kernel.mem (slots_stay c.steps.invariant.keeps c.requires.slots) in
    c.steps.invariant.full
    (step_full (room_in c.steps.kernel) (c.args.count - c.steps.done) DEFAULT_STEPS m (omega arith) c.in-Err.ensures.there more
    (full_where_near g.W.SwapStore.held c.steps.kernel c.in-Err.ensures.full near))
