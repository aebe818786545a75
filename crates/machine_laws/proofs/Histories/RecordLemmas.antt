-- The records of a history are those of its moments.
use Rattle.std.proofs.Common.{◌≡◌, ◌==◌, ℕ, zero, suc, Bool, true, false, List, [], ◌∷◌, ◌++◌, is_some, refl, sym, ap, ◌∙◌, append_assoc, append-nil}
use Rattle.std.specs.Prelude.{if◌then◌else◌}
use Rattle.xk_base.specs.declared.events.Event.{Event}
use Rattle.xk_base.specs.declared.events.Event.TheVariants.{Tick, Pick, Irq, Kill}
use Rattle.xk_base.specs.declared.records.Rec.{Rec}
use Rattle.machine_laws.specs.Records.{records_by, records_of}
use Rattle.machine_model.specs.Runs.Moments.{Cause, ByStep, ByPick, ByIrq, ByKill, ByTurn, Moment, caused, moment_of}
use Rattle.machine_model.specs.State.Machine.{Machine}
use Rattle.machine_model.specs.State.Order.{actor, turn}
use Rattle.machine_model.specs.Stepping.Events.{nothing}
use Rattle.machine_model.specs.Stepping.Step.{step}
use Rattle.machine_laws.specs.History.{History, reached, stopped, behind, go_on, ticks, play, history}
use Rattle.machine_laws.specs.HistoryMoments.{tick_moments, event_moments, moments_of}

-- what the moments tell, before what comes after them, is what the history tells
abbrev Tells : Machine → List Moment → History → List Moment → Type 0
Tells m moments h after = records_of m (moments ++ after) ≡ h.records ++ records_of h.machine after

tells_one : (cause : Cause) (m : Machine) (after : List Moment)
    → records_of m (moment_of cause m ∷ after) ≡ records_by cause m ++ records_of (caused cause m) after
unfolding records_of
tells_one cause m after = refl

ticks_tell : (k limit : ℕ) (m : Machine) (after : List Moment) → Tells m (tick_moments k limit m) (ticks k limit m) after
unfolding tick_moments ticks
ticks_tell zero limit m after = tells_one ByTurn m after
ticks_tell (suc k) limit m after = go (is_some (actor m)) (m.steps == limit) (ticks_tell k limit (step m).machine after)
  where
    go : (a b : Bool) → Tells (step m).machine (tick_moments k limit (step m).machine) (ticks k limit (step m).machine) after
        → Tells m
        (if a then (if b then [] else moment_of ByStep m ∷ tick_moments k limit (step m).machine) else moment_of ByTurn m ∷ [])
        (if a then (if b then stopped m else behind (step m).records (ticks k limit (step m).machine)) else reached (nothing (turn m)))
        after
    go false b later = tells_one ByTurn m after
    go true true later = refl
    go true false later =
        tells_one ByStep m (tick_moments k limit (step m).machine ++ after)
        ∙ (ap (λ (rs : List Rec). (step m).records ++ rs) later
        ∙ sym (append_assoc (step m).records (ticks k limit (step m).machine).records
        (records_of (ticks k limit (step m).machine).machine after)))

event_tells : (event : Event) (limit : ℕ) (m : Machine) (after : List Moment)
    → Tells m (event_moments event limit m) (play event limit m) after
unfolding event_moments play
event_tells (Tick k) limit m after = ticks_tell k limit m after
event_tells (Pick pid tid) limit m after = tells_one (ByPick (record { pid = pid; tid = tid })) m after
event_tells (Irq k) limit m after = tells_one (ByIrq k) m after
event_tells (Kill pid) limit m after = tells_one (ByKill pid) m after

none_told : (m : Machine) → records_of m [] ≡ []
unfolding records_of
none_told m = refl

pub history_tells : (events : List Event) (limit : ℕ) (start : Machine)
    → (history events limit start).records ≡ records_of start (moments_of events limit start)
unfolding history moments_of
history_tells [] limit m = sym (none_told m)
history_tells (event ∷ events) limit m =
    go (play event limit m).met (history_tells events limit (play event limit m).machine)
    ∙ sym (event_tells event limit m (if (play event limit m).met then [] else moments_of events limit (play event limit m).machine))
  where
    go : (b : Bool)
        → (history events limit (play event limit m).machine).records
        ≡ records_of (play event limit m).machine (moments_of events limit (play event limit m).machine)
        → (go_on b (play event limit m) (history events limit)).records
        ≡ (play event limit m).records
        ++ records_of (play event limit m).machine (if b then [] else moments_of events limit (play event limit m).machine)
    go true later =
        sym (append-nil (play event limit m).records)
        ∙ ap (λ (rs : List Rec). (play event limit m).records ++ rs) (sym (none_told (play event limit m).machine))
    go false later = ap (λ (rs : List Rec). (play event limit m).records ++ rs) later
