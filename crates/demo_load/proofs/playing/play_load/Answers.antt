use Rattle.std.proofs.Common.{◌≡◌, ◌+◌, ◌++◌, ℕ, sym, ap, ◌∙◌, subst, arith, ◌*◌}
use Rattle.xk_base.specs.declared.events.Event.TheVariants.{Tick}
use Rattle.machine_model.specs.State.Machine.{Machine}
use Rattle.machine_model.specs.Stepping.Events.{nothing}
use Rattle.xk_base.specs.declared.limits.TheConstants.{DEFAULT_STEPS}
use Rattle.machine_laws.specs.History.{History, behind, history, play, reached}
use Rattle.machine_laws.specs.HistoryMoments.{event_moments, moments_of}
use Rattle.xk_kernel.specs.Moments.{Stood, Throughout}
use Rattle.xk_kernel.specs.State.{machine_of}
use Rattle.demo_load.specs.Events.{first_events, tick_at}
use Rattle.demo_load.specs.Totals.{IsWithin, totals_of}
use Rattle.event_player.proofs.Playing.KeptLemmas.{kept_after, kept_same}
use Rattle.demo_load.proofs.LoadHistoryLemmas.{events_none, few_ticks, history_more, load_full, more_stood, none_stood, tick_unmet}
use Rattle.event_player.proofs.Playing.StandingLemmas.{room_stays, slots_stay}
use Rattle.event_player.proofs.Playing.StoodLemmas.{stood_here, stood_since}
use Rattle.event_player.specs.Standing.{room_in}
use Rattle.demo_load.proofs.LoadPlayingLemmas.{event_counted}
use Rattle.demo_load.proofs.LoadTotalsLemmas.{within_start}
use Rattle.demo_load.proofs.playing.play_load.Goals as goal

pub events-init : goal.events-init
events-init g c =
    let m : Machine = machine_of g.W.SwapStore.held c.args.kernel.now in
    let none : history (first_events 0) DEFAULT_STEPS m ≡ reached (nothing m) = events_none DEFAULT_STEPS m in
    record {
      unmet = ap (λ (h : History). h.met) none;
      there = ap (λ (h : History). h.machine) none;
      stood = none_stood (Stood g.W.SwapStore c.args.kernel.now) DEFAULT_STEPS m (stood_here c.requires.sound c.requires.usable);
      counted = c.new-totals.ensures ∙ sym (ap (λ (h : History). totals_of h.records) none);
      steps = omega (arith, c.requires.start);
      within = subst (IsWithin m.steps) (sym c.new-totals.ensures) (within_start m.steps);
      sound = c.requires.sound;
      usable = c.requires.usable;
      keeps = kept_same c.args.kernel.now;
    }

pub play_tick-requires : goal.play_tick-requires
play_tick-requires g c =
    let few = few_ticks c.events.i in
    record {
      sound = c.events.invariant.sound;
      usable = c.events.invariant.usable;
      slots = slots_stay c.events.invariant.keeps c.requires.slots;
      room = omega (arith, few, c.tick_at.ensures, c.events.invariant.steps, c.requires.few);
      within = c.events.invariant.within;
    }

pub events-preserved : goal.events-preserved
events-preserved g c =
    let start : Machine = machine_of g.W.SwapStore.held c.args.kernel.now in
    let m : Machine = machine_of g.W.SwapStore.held c.events.kernel in
    let i : ℕ = c.events.i in
    let before : History = history (first_events i) DEFAULT_STEPS start in
    let tick : History = play (Tick (tick_at i)) DEFAULT_STEPS m in
    let few = few_ticks i in
    let over = tick_unmet (tick_at i) DEFAULT_STEPS m (omega (arith, few, c.events.invariant.steps, c.requires.few)) in
    let more : history (first_events (i + 1)) DEFAULT_STEPS start ≡ behind before.records (behind tick.records (reached (nothing tick.machine))) =
    history_more i DEFAULT_STEPS start m c.events.invariant.unmet c.events.invariant.there over.0 in
    let to : machine_of g.W.SwapStore.held c.play_tick.new.kernel ≡ tick.machine =
    c.in-Ok.ensures.machine ∙ ap (λ (n : ℕ). (play (Tick n) DEFAULT_STEPS m).machine) c.tick_at.ensures in
    let counted : c.play_tick.new.totals ≡ totals_of (before.records ++ tick.records) =
    c.in-Ok.ensures.counted before.records c.events.invariant.counted
    ∙ ap (λ (n : ℕ). totals_of (before.records ++ (play (Tick n) DEFAULT_STEPS m).records)) c.tick_at.ensures in
    let steps : (machine_of g.W.SwapStore.held c.play_tick.new.kernel).steps ≡ tick.machine.steps = ap (λ (x : Machine). x.steps) to in
    record {
      unmet = ap (λ (h : History). h.met) more;
      there = ap (λ (h : History). h.machine) more ∙ sym to;
      stood = (let T : ℕ → Type 0 = λ n. Throughout (Stood g.W.SwapStore c.events.kernel) m (event_moments (Tick n) DEFAULT_STEPS m) in
          let through : T (tick_at i) = subst T c.tick_at.ensures c.in-Ok.ensures.stood in
          more_stood (Stood g.W.SwapStore c.args.kernel.now) i DEFAULT_STEPS start m c.events.invariant.unmet c.events.invariant.there c.events.invariant.stood
          (λ j. stood_since c.events.invariant.keeps _ (through j)));
      counted = event_counted c.play_tick.new.totals before.records tick (history (first_events (i + 1)) DEFAULT_STEPS start) counted more;
      steps = omega (arith, steps, over.1, few, c.events.invariant.steps);
      within = c.in-Ok.ensures.within;
      sound = c.play_tick.ensures.sound;
      usable = c.in-Ok.ensures.usable;
      keeps = kept_after c.events.invariant.keeps c.play_tick.ensures.keeps;
    }

pub returns-in_default-clause-full : goal.returns-in_default-clause-full
returns-in_default-clause-full g c =
    load_full (room_in c.args.kernel.now) (room_in c.events.kernel) c.events.i (1000 * c.args.clients) DEFAULT_STEPS c.tick_at.result
    (machine_of g.W.SwapStore.held c.args.kernel.now) (machine_of g.W.SwapStore.held c.events.kernel) (omega arith) c.events.invariant.unmet c.events.invariant.there
    (room_stays c.events.invariant.keeps) c.tick_at.ensures c.in_default.ensures.full

pub returns-clause-stood : goal.returns-clause-stood
returns-clause-stood g c =
    let start : Machine = machine_of g.W.SwapStore.held c.args.kernel.now in
    let all : c.events.i ≡ 1000 * c.args.clients = omega arith in
    let T : ℕ → Type 0 = λ n. Throughout (Stood g.W.SwapStore c.args.kernel.now) start (moments_of (first_events n) DEFAULT_STEPS start) in
    subst T all c.events.invariant.stood
