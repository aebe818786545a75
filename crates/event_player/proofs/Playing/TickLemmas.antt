-- A tick, one step further: what comes of the rest comes of the whole.
use Rattle.std.proofs.Common.{◌≡◌, ◌≢◌, ◌+◌, ◌-◌, ◌≤◌, ◌⊎◌, ◌∙◌, inl, inr, ℕ, Bool, true, false, [], ◌∷◌, Result, Ok, Err, is_some, refl, sym, ap, subst, arith}
use Rattle.std.specs.Prelude.{if◌then◌else◌}
use Rattle.xk_base.specs.declared.events.Event.TheVariants.{Tick}
use Rattle.machine_model.specs.Runs.Moments.{ByTurn, moment_of}
use Rattle.machine_model.specs.State.Machine.{Machine}
use Rattle.machine_model.specs.State.Order.{actor, turn}
use Rattle.machine_model.specs.Stepping.Events.{nothing}
use Rattle.machine_model.specs.Stepping.Step.{step}
use Rattle.machine_laws.specs.History as kernel
use Rattle.machine_laws.specs.History.{play}
use Rattle.machine_laws.specs.HistoryMoments.{event_moments}
use Rattle.machine_laws.proofs.Histories.HistoryLemmas.{tick_idle, tick_met, tick_steps, tick_zero}
use Rattle.machine_laws.proofs.Histories.LimitLemmas.{step_steps}
use Rattle.event_player.specs.declared.telling.Telling.{Telling}
use Rattle.event_player.specs.declared.ending.Ending.{Ending}
use Rattle.event_player.specs.declared.ending.Ending.TheVariants.{BadLine, Played, LimitMet}
use Rattle.event_player.specs.declared.events.PlayFault.{PlayFault}
use Rattle.event_player.specs.declared.events.PlayFault.TheVariants.{Write, Swap}
use Rattle.event_player.specs.Gathering.{Gathered, Gathers, GathersPart, StaysSilent, Text}
use Rattle.event_player.specs.History.{with_ending}
use Rattle.event_player.specs.Rooms.{ComesFull, IsFull, Room}
use Rattle.event_player.specs.Playing.{Comes, EndsAtNoLine, KeepsSilence, Plays, StaysNear}
use Rattle.event_player.specs.Standing.{Stand}
use Rattle.event_player.specs.Telling.{told}
use Rattle.event_player.proofs.Playing.FullLemmas.{full_start, step_full, tick_full}
use Rattle.event_player.proofs.Playing.GatheringLemmas.{gathers_silent, silent_after, silent_same}
use Rattle.event_player.proofs.Playing.HistoryLemmas.{gathered_behind, gathered_nothing, gathered_same, gathered_stopped, met_steps, part_behind, part_front, part_same}
use Rattle.event_player.proofs.Playing.StepLimitLemmas.{play_grows}
use Rattle.event_player.proofs.Playing.StoodLemmas.{idle_turn, over_moments, through_met, through_step_to, through_turn}

-- ---- a step

-- the step was done, and what is told of it was gathered
pub record StepsTo (tells : Telling) (old mid : Stand) : Type 0 where
  pub machine : mid.machine ≡ (step old.machine).machine
  pub gathered : Gathers old.text mid.text (told tells (step old.machine).records)

-- .. where the kernel is trusted, and where no page is out before and after; else the state after it has more pages than there are frames for
-- A kernel stood before it, and one that stood since the step did so since then.
pub record DoesOne (P Q : Machine → Type 0) (tells : Telling) (limit : ℕ) (old mid : Stand) : Type 0 where
  pub here : P old.machine
  pub since : (machine : Machine) → Q machine → P machine
  pub actor : is_some (actor old.machine) ≡ true
  pub more : old.machine.steps ≢ limit
  pub trust : mid.trusted ≡ old.trusted
  pub room : mid.room ≡ old.room
  pub trusted : old.trusted ≡ true → StepsTo tells old mid
  pub near : old.near ≡ true → ((mid.near ≡ true) × StepsTo tells old mid) ⊎ IsFull old.room (step old.machine).machine
  pub silent : StaysSilent tells old.text mid.text

-- ---- how an event ends, and whether the sink is touched

-- after a silent front
pub silence_later : (tells : Telling) (before mid after : Text) (result : Result Ending PlayFault) → StaysSilent tells before mid → KeepsSilence tells mid after result
    → KeepsSilence tells before after result
silence_later tells before mid after (Ok ending) first second = silent_after tells before mid after first second
silence_later tells before mid after (Err Swap) first second = silent_after tells before mid after first second
silence_later tells before mid after (Err Write) first second = tt

-- the limit or the end of its steps is where a history of an event ends
pub ends_no_line : (h : kernel.History) (ending : Ending) → (with_ending Played h).ending ≡ ending → EndsAtNoLine (Ok ending)
ends_no_line h ending is = go h.met ending is
  where
    go : (met : Bool) (ending : Ending) → (if met then LimitMet else Played) ≡ ending → EndsAtNoLine (Ok ending)
    go met Played is = tt
    go met LimitMet is = tt
    go true (BadLine line) is = cc
    go false (BadLine line) is = cc

-- ---- the rest of a tick

-- the tick is the step, and then the tick of one step fewer
one_step : (n limit : ℕ) (old mid : Stand) → 1 ≤ n → is_some (actor old.machine) ≡ true → old.machine.steps ≢ limit → mid.machine ≡ (step old.machine).machine
    → play (Tick n) limit old.machine ≡ kernel.behind (step old.machine).records (play (Tick (n - 1)) limit mid.machine)
one_step n limit old mid some ready more there =
    tick_steps n limit old.machine some ready more
    ∙ ap (λ (m : Machine). kernel.behind (step old.machine).records (play (Tick (n - 1)) limit m)) (sym there)

-- a tick that meets a limit later meets it after the step
later_met : (n done : ℕ) (m : Machine) → (with_ending Played (play (Tick n) done m)).ending ≡ LimitMet → m.steps ≤ done
later_met n done m met = omega (arith, play_grows (Tick n) done m, met_steps (Tick n) done m met)

-- the states of the rest of a tick, in the room and on the machine of its first step
rest_full : (tells : Telling) (n limit : ℕ) (old mid : Stand) → 1 ≤ n → is_some (actor old.machine) ≡ true → old.machine.steps ≢ limit → mid.room ≡ old.room
    → mid.machine ≡ (step old.machine).machine → ComesFull mid.room mid.machine (event_moments (Tick (n - 1)) limit mid.machine)
    → ComesFull old.room old.machine (event_moments (Tick n) limit old.machine)
rest_full tells n limit old mid some ready more room there later =
    let A : Machine → Type 0 = λ x. ComesFull mid.room x (event_moments (Tick (n - 1)) limit x) in
    let B : Room → Type 0 = λ r. ComesFull r (step old.machine).machine (event_moments (Tick (n - 1)) limit (step old.machine).machine) in
    tick_full old.room n limit old.machine some ready more (subst B room (subst A there later))

comes_later : (P Q : Machine → Type 0) (tells : Telling) (n limit : ℕ) (old mid new : Stand) (result : Result Ending PlayFault) → 1 ≤ n → DoesOne P Q tells limit old mid
    → StepsTo tells old mid → Comes Q tells (Tick (n - 1)) limit mid new result → Comes P tells (Tick n) limit old new result
comes_later P Q tells n limit old mid new (Ok ending) some does did comes =
    let one = one_step n limit old mid some does.actor does.more did.machine in (
      gathered_same tells old.text new.text _ _ ending (ap (with_ending Played) one)
          (gathered_behind tells old.text mid.text new.text (step old.machine).records (with_ending Played (play (Tick (n - 1)) limit mid.machine)) ending did.gathered comes.0),
      comes.1 ∙ sym (ap (λ (h : kernel.History). h.machine) one),
      through_step_to P n limit old.machine mid.machine some does.actor does.more does.here did.machine (λ i. does.since _ (comes.2 i)),
    )
comes_later P Q tells n limit old mid new (Err Write) some does did comes =
    let one = one_step n limit old mid some does.actor does.more did.machine in
    part_same tells old.text new.text _ _ (ap (with_ending Played) one)
    (part_behind tells old.text mid.text new.text (step old.machine).records (with_ending Played (play (Tick (n - 1)) limit mid.machine)) did.gathered comes)
comes_later P Q tells n limit old mid new (Err Swap) some does did comes =
    let done : ℕ = comes.some.done in
    let grown = later_met (n - 1) done mid.machine comes.some.met in
    let steps : mid.machine.steps ≡ old.machine.steps + 1 = ap (λ (m : Machine). m.steps) did.machine ∙ step_steps old.machine does.actor in
    let other : old.machine.steps ≢ done = λ e. absurd (omega (arith, e, grown, steps)) in
    let behind : old.machine.steps ≢ done + 1 = λ e. absurd (omega (arith, e, grown, steps)) in
    let one : with_ending Played (play (Tick n) done old.machine) ≡ with_ending Played (kernel.behind (step old.machine).records (play (Tick (n - 1)) done mid.machine)) =
    ap (with_ending Played) (one_step n done old mid some does.actor other did.machine) in
    let wrote = gathered_same tells old.text new.text (with_ending Played (play (Tick n) done old.machine)) _ LimitMet one
    (gathered_behind tells old.text mid.text new.text (step old.machine).records (with_ending Played (play (Tick (n - 1)) done mid.machine)) LimitMet did.gathered (comes.some.met, comes.some.gathered)) in
    record {
      some = record { done = done; within = comes.some.within; met = wrote.0; gathered = wrote.1 };
      through = through_step_to P n done old.machine mid.machine some does.actor other does.here did.machine (λ i. does.since _ (comes.through i));
      soon = λ near. go behind (does.near near);
    }
  where
    go : old.machine.steps ≢ comes.some.done + 1 → ((mid.near ≡ true) × StepsTo tells old mid) ⊎ IsFull old.room (step old.machine).machine
        → ComesFull old.room old.machine (event_moments (Tick n) (comes.some.done + 1) old.machine)
    go behind (inl both) = rest_full tells n (comes.some.done + 1) old mid some does.actor behind does.room did.machine (comes.soon both.0)
    go behind (inr crowd) = step_full old.room n (comes.some.done + 1) old.machine some does.actor behind crowd

pub plays_later : (P Q : Machine → Type 0) (tells : Telling) (n limit : ℕ) (old mid new : Stand) (result : Result Ending PlayFault) → 1 ≤ n
    → DoesOne P Q tells limit old mid → Plays Q tells (Tick (n - 1)) limit mid new result → Plays P tells (Tick n) limit old new result
plays_later P Q tells n limit old mid new result some one plays = record {
  trusted = λ trusted.
      comes_later P Q tells n limit old mid new result some one (one.trusted trusted) (plays.trusted (one.trust ∙ trusted));
  near = λ near. go (one.near near);
  ends = plays.ends;
  silent = silence_later tells old.text mid.text new.text result one.silent plays.silent;
}
  where
    full : (m : Machine) → m ≡ (step old.machine).machine → ComesFull mid.room m (event_moments (Tick (n - 1)) limit m) → ComesFull old.room old.machine (event_moments (Tick n) limit old.machine)
    full m is later =
        let A : Machine → Type 0 = λ x. ComesFull mid.room x (event_moments (Tick (n - 1)) limit x) in
        let B : Room → Type 0 = λ r. ComesFull r (step old.machine).machine (event_moments (Tick (n - 1)) limit (step old.machine).machine) in
        tick_full old.room n limit old.machine some one.actor one.more (subst B one.room (subst A is later))

    rest : StepsTo tells old mid → (StaysNear new result × Comes Q tells (Tick (n - 1)) limit mid new result) ⊎ ComesFull mid.room mid.machine (event_moments (Tick (n - 1)) limit mid.machine)
        → (StaysNear new result × Comes P tells (Tick n) limit old new result) ⊎ ComesFull old.room old.machine (event_moments (Tick n) limit old.machine)
    rest did (inl both) = inl (both.0, comes_later P Q tells n limit old mid new result some one did both.1)
    rest did (inr later) = inr (full mid.machine did.machine later)

    go : ((mid.near ≡ true) × StepsTo tells old mid) ⊎ IsFull old.room (step old.machine).machine
        → (StaysNear new result × Comes P tells (Tick n) limit old new result) ⊎ ComesFull old.room old.machine (event_moments (Tick n) limit old.machine)
    go (inl both) = rest both.1 (plays.near both.0)
    go (inr crowd) = inr (full (step old.machine).machine refl
        (let B : Room → Type 0 = λ r. ComesFull r (step old.machine).machine (event_moments (Tick (n - 1)) limit (step old.machine).machine) in
        subst B (sym one.room) (full_start old.room (step old.machine).machine (event_moments (Tick (n - 1)) limit (step old.machine).machine) crowd)))

-- ---- where a tick ends

-- what comes is so whatever is trusted, and puts no page out
pub plays_surely : (P : Machine → Type 0) (tells : Telling) (n limit : ℕ) (old new : Stand) (ending : Ending) → (old.near ≡ true → new.near ≡ true)
    → Comes P tells (Tick n) limit old new (Ok ending) → Plays P tells (Tick n) limit old new (Ok ending)
plays_surely P tells n limit old new ending stays comes = record {
  trusted = λ trusted. comes;
  near = λ near. inl (stays near, comes);
  ends = ends_no_line (play (Tick n) limit old.machine) ending comes.0.0;
  silent = gathers_silent tells old.text new.text (play (Tick n) limit old.machine).records comes.0.1;
}

-- at the limit
pub comes_met : (P : Machine → Type 0) (tells : Telling) (n limit : ℕ) (now : Stand) → P now.machine → 1 ≤ n → is_some (actor now.machine) ≡ true
    → now.machine.steps ≡ limit → Comes P tells (Tick n) limit now now (Ok LimitMet)
comes_met P tells n limit now here some ready met =
    let is = tick_met n limit now.machine some ready met in (
      gathered_same tells now.text now.text _ _ LimitMet (ap (with_ending Played) is) (gathered_stopped tells now.text Played now.machine),
      sym (ap (λ (h : kernel.History). h.machine) is),
      through_met P n limit now.machine some ready met here,
    )

-- the turn ends
comes_turn : (P : Machine → Type 0) (tells : Telling) (n limit : ℕ) (old new : Stand) → P old.machine → P new.machine
    → play (Tick n) limit old.machine ≡ kernel.reached (nothing (turn old.machine)) → event_moments (Tick n) limit old.machine ≡ moment_of ByTurn old.machine ∷ []
    → new.text ≡ old.text → new.machine ≡ turn old.machine → Comes P tells (Tick n) limit old new (Ok Played)
comes_turn P tells n limit old new here there is moments same turned =
    let T : Text → Type 0 = λ text. Gathered tells old.text text (with_ending Played (play (Tick n) limit old.machine)) Played in (
      subst T (sym same) (gathered_same tells old.text old.text _ _ Played (ap (with_ending Played) is) (gathered_nothing tells old.text Played (turn old.machine))),
      turned ∙ sym (ap (λ (h : kernel.History). h.machine) is),
      through_turn P n limit old.machine new.machine moments here turned there,
    )

-- .. where no thread is ready
pub comes_idle : (P : Machine → Type 0) (tells : Telling) (n limit : ℕ) (old new : Stand) → P old.machine → P new.machine → is_some (actor old.machine) ≡ false
    → new.text ≡ old.text → new.machine ≡ turn old.machine → Comes P tells (Tick n) limit old new (Ok Played)
comes_idle P tells n limit old new here there idle same turned =
    comes_turn P tells n limit old new here there (tick_idle n limit old.machine idle) (idle_turn n limit old.machine idle) same turned

-- .. where no step is left
pub comes_over : (P : Machine → Type 0) (tells : Telling) (n limit : ℕ) (old new : Stand) → P old.machine → P new.machine → n ≡ 0 → new.text ≡ old.text
    → new.machine ≡ turn old.machine → Comes P tells (Tick n) limit old new (Ok Played)
comes_over P tells n limit old new here there none same turned =
    comes_turn P tells n limit old new here there (ap (λ (k : ℕ). play (Tick k) limit old.machine) none ∙ tick_zero limit old.machine)
    (over_moments n limit old.machine none) same turned

-- ---- where a step stops the tick

-- a write failed behind a step
pub record FailsOne (tells : Telling) (limit : ℕ) (old new : Stand) : Type 0 where
  pub actor : is_some (actor old.machine) ≡ true
  pub more : old.machine.steps ≢ limit
  pub trusted : old.trusted ≡ true → GathersPart old.text new.text (told tells (step old.machine).records)
  pub near : old.near ≡ true
      → ((new.near ≡ true) × GathersPart old.text new.text (told tells (step old.machine).records)) ⊎ IsFull old.room (step old.machine).machine

comes_unwritten : (P : Machine → Type 0) (tells : Telling) (n limit : ℕ) (old new : Stand) → 1 ≤ n → is_some (actor old.machine) ≡ true → old.machine.steps ≢ limit
    → GathersPart old.text new.text (told tells (step old.machine).records) → Comes P tells (Tick n) limit old new (Err Write)
comes_unwritten P tells n limit old new some ready more part =
    part_same tells old.text new.text _ _ (ap (with_ending Played) (tick_steps n limit old.machine some ready more))
    (part_front tells old.text new.text (step old.machine).records (with_ending Played (play (Tick (n - 1)) limit (step old.machine).machine)) part)

pub plays_unwritten : (P : Machine → Type 0) (tells : Telling) (n limit : ℕ) (old new : Stand) → 1 ≤ n → FailsOne tells limit old new
    → Plays P tells (Tick n) limit old new (Err Write)
plays_unwritten P tells n limit old new some one = record {
  trusted = λ trusted. comes_unwritten P tells n limit old new some one.actor one.more (one.trusted trusted);
  near = λ near. go (one.near near);
  ends = tt;
  silent = tt;
}
  where
    go : ((new.near ≡ true) × GathersPart old.text new.text (told tells (step old.machine).records)) ⊎ IsFull old.room (step old.machine).machine
        → ((new.near ≡ true) × Comes P tells (Tick n) limit old new (Err Write)) ⊎ ComesFull old.room old.machine (event_moments (Tick n) limit old.machine)
    go (inl both) = inl (both.0, comes_unwritten P tells n limit old new some one.actor one.more both.1)
    go (inr crowd) = inr (step_full old.room n limit old.machine some one.actor one.more crowd)

-- the store failed in a step
pub plays_swap : (P : Machine → Type 0) (tells : Telling) (n limit : ℕ) (old new : Stand) → P old.machine → 1 ≤ n → is_some (actor old.machine) ≡ true → old.machine.steps ≢ limit → old.machine.steps ≤ limit
    → new.text ≡ old.text → (old.near ≡ true → IsFull old.room (step old.machine).machine) → Plays P tells (Tick n) limit old new (Err Swap)
plays_swap P tells n limit old new here some ready more within same crowd =
    let done : ℕ = old.machine.steps in
    let is : with_ending Played (play (Tick n) done old.machine) ≡ with_ending Played (kernel.stopped old.machine) = ap (with_ending Played) (tick_met n done old.machine some ready refl) in
    let T : Text → Type 0 = λ text. Gathered tells old.text text (with_ending Played (play (Tick n) done old.machine)) LimitMet in
    let wrote : T new.text = subst T (sym same) (gathered_same tells old.text old.text _ _ LimitMet is (gathered_stopped tells old.text Played old.machine)) in
    record {
      trusted = λ trusted. record {
        some = record { done = done; within = within; met = wrote.0; gathered = wrote.1 };
        through = through_met P n done old.machine some ready refl here;
        soon = λ near. step_full old.room n (done + 1) old.machine some ready (λ e. absurd (omega (arith, e))) (crowd near);
      };
      near = λ near. inr (step_full old.room n limit old.machine some ready more (crowd near));
      ends = tt;
      silent = silent_same tells old.text new.text same;
    }
