-- What is left of a tick: what comes of the rest comes of the whole.
use Rattle.xk_ports.specs.declared.store.SwapStore.{Ghosts as SwapStore}
use Rattle.std.proofs.Common.{◌≡◌, ◌-◌, ◌+◌, ◌≤◌, ◌⊎◌, ◌∙◌, inl, inr, ℕ, zero, suc, true, false, List, Result, Ok, Err, IsErrAnd, is_some, refl, sym, ap, subst, arith}
use Rattle.xk_base.specs.declared.events.Event.{Event}
use Rattle.xk_base.specs.declared.events.Event.TheVariants.{Tick}
use Rattle.machine_model.specs.Runs.Moments.{Moment}
use Rattle.machine_model.specs.State.Machine.{Machine}
use Rattle.machine_model.specs.State.Order.{actor}
use Rattle.machine_laws.specs.History as kernel
use Rattle.machine_laws.specs.History.{play}
use Rattle.machine_laws.specs.HistoryMoments.{event_moments, tick_moments}
use Rattle.xk_kernel.specs.Knowing.{KnowsBytes, PutsNoneOut}
use Rattle.xk_kernel.specs.Moments.{Stood, StoodQuietly, Throughout}
use Rattle.xk_kernel.specs.Quiet.{GoesQuietly}
use Rattle.xk_kernel.specs.Sound.{Keeps}
use Rattle.xk_kernel.specs.State.{machine_of}
use Rattle.xk_kernel.specs.declared.kernel.Kernel.{Kernel}
use Rattle.machine_laws.proofs.Histories.HistoryLemmas.{tick_idle, tick_zero}
use Rattle.event_player.specs.declared.telling.Telling.{Telling}
use Rattle.event_player.specs.declared.ending.Ending.{Ending}
use Rattle.event_player.specs.declared.ending.Ending.TheVariants.{LimitMet, Played}
use Rattle.event_player.specs.declared.events.PlayFault.{PlayFault}
use Rattle.event_player.specs.declared.events.PlayFault.TheVariants.{Swap, Write}
use Rattle.event_player.specs.Gathering.{Gathered, GatheredPart, Text}
use Rattle.event_player.specs.History.{with_ending}
use Rattle.event_player.specs.Rooms.{ComesFull, Room}
use Rattle.event_player.specs.Playing.{Comes, Plays, PlaysOn, StaysNear}
use Rattle.event_player.specs.Standing.{Stand, stand}
use Rattle.event_player.proofs.Playing.GatheringLemmas.{silent_same}
use Rattle.event_player.proofs.Playing.HistoryLemmas.{gathered_same, met_steps, part_same}
use Rattle.event_player.proofs.Playing.QuietLemmas.{quiet_counts, quiet_full, quiet_tick}
use Rattle.event_player.proofs.Playing.StandingLemmas.{near_knows, room_stays, trust_stays, trusted_knows}
use Rattle.event_player.proofs.Playing.StepLimitLemmas.{play_grows}
use Rattle.event_player.proofs.Playing.StoodLemmas.{stood_since, through_quiet}
use Rattle.event_player.proofs.Playing.TickLemmas.{silence_later}

-- ---- the rest of an event, of whose front nothing is told

-- Up to any limit that isn't passed by then, the history is that of this event on this machine, its states are among those of the whole, and
-- where a kernel stood at each of them, one did at each of the whole.
pub record IsRest (P Q : Machine → Type 0) (whole rest : Event) (old mid : Machine) : Type 0 where
  pub history : (limit : ℕ) → mid.steps ≤ limit → play whole limit old ≡ play rest limit mid
  pub states : (room : Room) (limit : ℕ) → mid.steps ≤ limit → ComesFull room mid (event_moments rest limit mid) → ComesFull room old (event_moments whole limit old)
  pub through : (limit : ℕ) → mid.steps ≤ limit → Throughout Q mid (event_moments rest limit mid) → Throughout P old (event_moments whole limit old)

-- The run stands before the rest of an event: where the kernel is trusted; and where no page was out, and then none is.
pub record StandsBefore (P Q : Machine → Type 0) (limit : ℕ) (whole rest : Event) (old mid : Stand) : Type 0 where
  pub text : mid.text ≡ old.text
  pub trust : mid.trusted ≡ old.trusted
  pub room : mid.room ≡ old.room
  pub within : mid.machine.steps ≤ limit
  pub trusted : old.trusted ≡ true → IsRest P Q whole rest old.machine mid.machine
  pub near : old.near ≡ true → (mid.near ≡ true) × IsRest P Q whole rest old.machine mid.machine

comes_of_rest : (P Q : Machine → Type 0) (tells : Telling) (whole rest : Event) (limit : ℕ) (old mid new : Stand) (result : Result Ending PlayFault)
    → mid.text ≡ old.text → mid.room ≡ old.room → (old.near ≡ true → mid.near ≡ true)
    → mid.machine.steps ≤ limit → IsRest P Q whole rest old.machine mid.machine → Comes Q tells rest limit mid new result → Comes P tells whole limit old new result
comes_of_rest P Q tells whole rest limit old mid new (Ok ending) same room near within is comes =
    let alike = is.history limit within in
    let T : Text → Type 0 = λ text. Gathered tells text new.text (with_ending Played (play rest limit mid.machine)) ending in (
      gathered_same tells old.text new.text _ _ ending (ap (with_ending Played) alike) (subst T same comes.0),
      comes.1 ∙ sym (ap (λ (h : kernel.History). h.machine) alike),
      is.through limit within comes.2,
    )
comes_of_rest P Q tells whole rest limit old mid new (Err Write) same room near within is comes =
    let T : Text → Type 0 = λ text. GatheredPart tells text new.text (with_ending Played (play rest limit mid.machine)) in
    part_same tells old.text new.text _ _ (ap (with_ending Played) (is.history limit within)) (subst T same comes)
comes_of_rest P Q tells whole rest limit old mid new (Err Swap) same room near within is comes =
    let done : ℕ = comes.some.done in
    let grown = play_grows rest done mid.machine in
    let ends = met_steps rest done mid.machine comes.some.met in
    let R : Room → Type 0 = λ r. ComesFull r mid.machine (event_moments rest (done + 1) mid.machine) in
    let alike = is.history done (omega (arith, grown, ends)) in
    let T : Text → Type 0 = λ text. Gathered tells text new.text (with_ending Played (play rest done mid.machine)) LimitMet in
    let wrote = gathered_same tells old.text new.text (with_ending Played (play whole done old.machine)) _ LimitMet (ap (with_ending Played) alike) (subst T same (comes.some.met, comes.some.gathered)) in
    record {
      some = record { done = done; within = comes.some.within; met = wrote.0; gathered = wrote.1 };
      through = is.through done (omega (arith, grown, ends)) comes.through;
      soon = λ before. is.states old.room (done + 1) (omega (arith, grown, ends)) (subst R room (comes.soon (near before)));
    }

pub plays_of_rest : (P Q : Machine → Type 0) (tells : Telling) (whole rest : Event) (limit : ℕ) (old mid new : Stand) (result : Result Ending PlayFault)
    → StandsBefore P Q limit whole rest old mid → Plays Q tells rest limit mid new result → Plays P tells whole limit old new result
plays_of_rest P Q tells whole rest limit old mid new result stands plays = record {
  trusted = λ trusted.
      comes_of_rest P Q tells whole rest limit old mid new result stands.text stands.room (λ near. (stands.near near).0) stands.within (stands.trusted trusted) (plays.trusted (stands.trust ∙ trusted));
  near = λ near. let both = stands.near near in go both.1 (plays.near both.0);
  ends = plays.ends;
  silent = silence_later tells old.text mid.text new.text result (silent_same tells old.text mid.text stands.text) plays.silent;
}
  where
    go : IsRest P Q whole rest old.machine mid.machine
        → (StaysNear new result × Comes Q tells rest limit mid new result) ⊎ ComesFull mid.room mid.machine (event_moments rest limit mid.machine)
        → (StaysNear new result × Comes P tells whole limit old new result) ⊎ ComesFull old.room old.machine (event_moments whole limit old.machine)
    go is (inl both) = inl (both.0, comes_of_rest P Q tells whole rest limit old mid new result stands.text stands.room (λ near. (stands.near near).0) stands.within is both.1)
    go is (inr later) =
        let A : Room → Type 0 = λ r. ComesFull r mid.machine (event_moments rest limit mid.machine) in
        inr (is.states old.room limit stands.within (subst A stands.room later))

-- so it is as the tick is played on from there
pub on_from_rest : (P Q R : Machine → Type 0) (tells : Telling) (left middle limit : ℕ) (old mid new : Stand) (result : Result ℕ PlayFault)
    → StandsBefore P Q limit (Tick left) (Tick middle) old mid → PlaysOn Q R tells middle limit mid new result → PlaysOn P R tells left limit old new result
on_from_rest P Q R tells left middle limit old mid new (Ok rest) stands on =
    λ end result plays. plays_of_rest P Q tells (Tick left) (Tick middle) limit old mid end result stands (on end result plays)
on_from_rest P Q R tells left middle limit old mid new (Err fault) stands on =
    plays_of_rest P Q tells (Tick left) (Tick middle) limit old mid new (Err fault) stands on

-- a fault of it is handed on
pub plays_err : (P : Machine → Type 0) (tells : Telling) (event : Event) (limit : ℕ) (old new : Stand) (result : Result Ending PlayFault) (fault : PlayFault)
    → IsErrAnd result (λ e. e ≡ fault) → Plays P tells event limit old new (Err fault) → Plays P tells event limit old new result
plays_err P tells event limit old new (Ok ending) fault same plays = absurd same
plays_err P tells event limit old new (Err e) fault same plays =
    let F : PlayFault → Type 0 = λ x. Plays P tells event limit old new (Err x) in subst F (sym same) plays

-- those that stood since a later kernel did so since the first
pub plays_since : (P Q : Machine → Type 0) (tells : Telling) (event : Event) (limit : ℕ) (old new : Stand) (result : Result Ending PlayFault)
    → ((machine : Machine) → Q machine → P machine) → Plays Q tells event limit old new result → Plays P tells event limit old new result
plays_since P Q tells event limit old new result since plays = record {
  trusted = λ trusted. comes result (plays.trusted trusted);
  near = λ near. go (plays.near near);
  ends = plays.ends;
  silent = plays.silent;
}
  where
    comes : (result : Result Ending PlayFault) → Comes Q tells event limit old new result → Comes P tells event limit old new result
    comes (Ok ending) all = (all.0, all.1, λ i. since _ (all.2 i))
    comes (Err Write) part = part
    comes (Err Swap) stops = record { some = stops.some; through = λ i. since _ (stops.through i); soon = stops.soon }

    go : (StaysNear new result × Comes Q tells event limit old new result) ⊎ ComesFull old.room old.machine (event_moments event limit old.machine)
        → (StaysNear new result × Comes P tells event limit old new result) ⊎ ComesFull old.room old.machine (event_moments event limit old.machine)
    go (inl both) = inl (both.0, comes result both.1)
    go (inr full) = inr full

-- ---- which fronts are so

-- quiet steps
pub quiet_rest : (P Q : Machine → Type 0) (done n : ℕ) (m new : Machine) → ((machine : Machine) → Q machine → P machine)
    → ((k : ℕ) (x : Machine) → k ≤ done → GoesQuietly k m x → P x) → GoesQuietly done m new → done ≤ n → IsRest P Q (Tick n) (Tick (n - done)) m new
quiet_rest P Q done n m new since stood goes within =
    let counts = quiet_counts done m new goes in
    record {
      history = λ limit below. quiet_tick done n limit m new goes within (omega (arith, counts, below));
      states = λ room limit below full. quiet_full room done n limit m new goes within (omega (arith, counts, below)) full;
      through = λ limit below later.
          through_quiet P done n limit m new goes within (omega (arith, counts, below)) stood (λ i. since _ (later i));
    }

idle_moments : (n limit : ℕ) (m : Machine) → is_some (actor m) ≡ false → event_moments (Tick 0) limit m ≡ event_moments (Tick n) limit m
unfolding event_moments tick_moments
idle_moments zero limit m idle = refl
idle_moments (suc n) limit m idle = rw idle refl

-- none, where no thread is Ready: no step is left of the tick
idle_rest : (P : Machine → Type 0) (n : ℕ) (m : Machine) → is_some (actor m) ≡ false → IsRest P P (Tick n) (Tick 0) m m
idle_rest P n m idle = record {
  history = λ limit below. tick_idle n limit m idle ∙ sym (tick_zero limit m);
  states = λ room limit below full.
      let A : List Moment → Type 0 = λ moments. ComesFull room m moments in subst A (idle_moments n limit m idle) full;
  through = λ limit below later. subst (Throughout P m) (idle_moments n limit m idle) later;
}

pub stands_idle : (P : Machine → Type 0) (n limit : ℕ) (now : Stand) → now.machine.steps ≤ limit → is_some (actor now.machine) ≡ false
    → StandsBefore P P limit (Tick n) (Tick 0) now now
stands_idle P n limit now within idle = record {
  text = refl;
  trust = refl;
  room = refl;
  within = within;
  trusted = λ trusted. idle_rest P n now.machine idle;
  near = λ near. (near, idle_rest P n now.machine idle);
}

-- .. after a run of a kernel
pub stands_after_run : {W : Type 0} {S : SwapStore W} {old new : Kernel W} (done left limit : ℕ) (before : Text)
    → Keeps S old new → (KnowsBytes S old new → GoesQuietly done (machine_of S.held old) (machine_of S.held new))
    → (KnowsBytes S old new → StoodQuietly S old done) → PutsNoneOut old new → done ≤ left → (machine_of S.held new).steps ≤ limit
    → StandsBefore (Stood S old) (Stood S new) limit (Tick left) (Tick (left - done)) (stand S old before) (stand S new before)
stands_after_run {S = S} {old = old} {new = new} done left limit before keeps runs stood none some within = record {
  text = refl;
  trust = trust_stays keeps;
  room = room_stays keeps;
  within = within;
  trusted = λ trusted. rest (trusted_knows keeps trusted);
  near = λ near. let after = none near in (after, rest (near_knows S old new near after));
}
  where
    rest : KnowsBytes S old new → IsRest (Stood S old) (Stood S new) (Tick left) (Tick (left - done)) (machine_of S.held old) (machine_of S.held new)
    rest knows =
        quiet_rest (Stood S old) (Stood S new) done left (machine_of S.held old) (machine_of S.held new) (stood_since keeps) (stood knows) (runs knows) some
