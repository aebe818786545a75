-- The steps of a history and the limit.
use Rattle.std.proofs.Common.{◌≡◌, ◌≢◌, ◌==◌, ◌+◌, ◌≤◌, ℕ, zero, suc, Bool, true, false, List, [], ◌∷◌, Option, Some, None, is_some, refl, ap, arith}
use Rattle.std.specs.Prelude.{if◌then◌else◌}
use Rattle.std.proofs.lemmas.Bool.{false≢true}
use Rattle.std.proofs.lemmas.Bool.Decides.{nat_tests}
use Rattle.xk_base.specs.declared.events.Event.{Event}
use Rattle.xk_base.specs.declared.events.Event.TheVariants.{Tick, Pick, Irq, Kill}
use Rattle.xk_base.specs.declared.ids.Pid.{Pid}
use Rattle.xk_base.specs.declared.ids.ThreadId.{ThreadId}
use Rattle.machine_model.specs.State.Changes.{Told, settled}
use Rattle.machine_model.specs.Ending.Closing.{closed, servers_closed, senders_queued_gone, senders_held_gone}
use Rattle.machine_model.specs.Ending.Ends.{death, forgotten}
use Rattle.machine_model.specs.Stepping.Events.{nothing, picked, raised, raised_if, killed, killed_if}
use Rattle.machine_model.specs.Stepping.Reservations.{unreserved}
use Rattle.machine_model.proofs.Runs.TimerLemmas.{pended_raised, timed_raised}
use Rattle.machine_model.specs.State.Machine.{Machine, Claim}
use Rattle.machine_model.specs.State.Order.{actor, turn}
use Rattle.machine_model.specs.Stepping.Step.{acted_if_there, counted, step, step_by, step_by_if}
use Rattle.machine_laws.specs.History.{reached, stopped, behind, go_on, ticks, play, history}

-- ---- what counts a step: a step alone

pub turn_steps : (m : Machine) → (turn m).steps ≡ m.steps
unfolding turn
turn_steps m = refl

pub step_by_counts : (who : ThreadId) (m : Machine) → (step_by who m).machine.steps ≡ m.steps + 1
unfolding step_by
step_by_counts who m =
    let turned : Machine = record m { cursor = who } in
    let done : Told = counted turned (m.threads who) (acted_if_there turned (m.threads who)) in
    ap (λ (after : Machine). after.steps) (timed_raised done).is

counts_one : (m : Machine) (who : Option ThreadId) → is_some who ≡ true → (step_by_if who m).machine.steps ≡ m.steps + 1
counts_one m None none = absurd (false≢true none)
counts_one m (Some who) some = step_by_counts who m

pub step_steps : (m : Machine) → is_some (actor m) ≡ true → (step m).machine.steps ≡ m.steps + 1
unfolding step
step_steps m ready = counts_one m (actor m) ready

pub pick_steps : (who : ThreadId) (m : Machine) → (picked who m).machine.steps ≡ m.steps
unfolding picked
pick_steps who m = refl

pub kill_steps : (pid : Pid) (m : Machine) → (killed pid m).machine.steps ≡ m.steps
unfolding killed settled death servers_closed closed senders_queued_gone senders_held_gone forgotten
kill_steps pid m = go (m.process pid.0).alive
  where
    go : (b : Bool) → (killed_if b pid (unreserved m)).machine.steps ≡ m.steps
    go true = refl
    go false = refl

pub irq_steps : (k : ℕ) (m : Machine) → (raised k m).machine.steps ≡ m.steps
unfolding raised
irq_steps k m = go (m.claims k)
  where
    go : (o : Option Claim) → (raised_if k o (unreserved m)).machine.steps ≡ m.steps
    go None = refl
    go (Some claim) = ap (λ (after : Machine). after.steps) (pended_raised k claim (unreserved m)).is

-- ---- the steps stay within the limit

ticks_within : (n limit : ℕ) (m : Machine) → m.steps ≤ limit → (ticks n limit m).machine.steps ≤ limit
unfolding ticks
ticks_within zero limit m within = rw turn_steps within
ticks_within (suc n) limit m within =
    go (is_some (actor m)) refl (m.steps == limit) refl (λ h. ticks_within n limit (step m).machine h)
  where
    go : (a : Bool) → is_some (actor m) ≡ a → (b : Bool) → (m.steps == limit) ≡ b
        → ((step m).machine.steps ≤ limit → (ticks n limit (step m).machine).machine.steps ≤ limit)
        → (if a then (if b then stopped m else behind (step m).records (ticks n limit (step m).machine)) else reached (nothing (turn m))).machine.steps ≤ limit
    go false ready b test later = rw turn_steps within
    go true ready true test later = within
    go true ready false test later =
        let more : m.steps ≢ limit = grind (arith, nat_tests) in
        later (omega (arith, step_steps m ready))

play_within : (event : Event) (limit : ℕ) (m : Machine) → m.steps ≤ limit → (play event limit m).machine.steps ≤ limit
unfolding play
play_within (Tick n) limit m within = ticks_within n limit m within
play_within (Pick pid tid) limit m within = rw pick_steps within
play_within (Irq k) limit m within = rw irq_steps within
play_within (Kill pid) limit m within = rw kill_steps within

pub history_within : (events : List Event) (limit : ℕ) (m : Machine) → m.steps ≤ limit → (history events limit m).machine.steps ≤ limit
unfolding history
history_within [] limit m within = within
history_within (event ∷ events) limit m within =
    go (play event limit m).met (history_within events limit (play event limit m).machine (play_within event limit m within))
  where
    go : (b : Bool) → (history events limit (play event limit m).machine).machine.steps ≤ limit
        → (go_on b (play event limit m) (history events limit)).machine.steps ≤ limit
    go true later = play_within event limit m within
    go false later = later

-- ---- where the limit was met

ticks_met : (n limit : ℕ) (m : Machine) → (ticks n limit m).met ≡ true → (ticks n limit m).machine.steps ≡ limit
unfolding ticks
ticks_met zero limit m met = absurd (false≢true met)
ticks_met (suc n) limit m met =
    go (is_some (actor m)) (m.steps == limit) refl (λ h. ticks_met n limit (step m).machine h) met
  where
    go : (a b : Bool) → (m.steps == limit) ≡ b
        → ((ticks n limit (step m).machine).met ≡ true → (ticks n limit (step m).machine).machine.steps ≡ limit)
        → (if a then (if b then stopped m else behind (step m).records (ticks n limit (step m).machine)) else reached (nothing (turn m))).met ≡ true
        → (if a then (if b then stopped m else behind (step m).records (ticks n limit (step m).machine)) else reached (nothing (turn m))).machine.steps ≡ limit
    go false b test later is = absurd (false≢true is)
    go true true test later is = grind (arith, nat_tests)
    go true false test later is = later is

play_met : (event : Event) (limit : ℕ) (m : Machine) → (play event limit m).met ≡ true → (play event limit m).machine.steps ≡ limit
unfolding play
play_met (Tick n) limit m met = ticks_met n limit m met
play_met (Pick pid tid) limit m met = absurd (false≢true met)
play_met (Irq k) limit m met = absurd (false≢true met)
play_met (Kill pid) limit m met = absurd (false≢true met)

pub history_met : (events : List Event) (limit : ℕ) (m : Machine) → (history events limit m).met ≡ true
    → (history events limit m).machine.steps ≡ limit
unfolding history
history_met [] limit m met = absurd (false≢true met)
history_met (event ∷ events) limit m met =
    go (play event limit m).met refl (λ h. history_met events limit (play event limit m).machine h) met
  where
    go : (b : Bool) → (play event limit m).met ≡ b
        → ((history events limit (play event limit m).machine).met ≡ true → (history events limit (play event limit m).machine).machine.steps ≡ limit)
        → (go_on b (play event limit m) (history events limit)).met ≡ true
        → (go_on b (play event limit m) (history events limit)).machine.steps ≡ limit
    go true is later ends = play_met event limit m ends
    go false is later ends = later ends
