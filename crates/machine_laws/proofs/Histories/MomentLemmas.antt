-- The moments that a history goes through.
use Rattle.std.proofs.Common.{◌≡◌, ◌==◌, ℕ, zero, suc, Bool, true, false, List, [], ◌∷◌, ◌++◌, length, is_some, refl, sym, ap, ◌∙◌, subst, append_assoc, append-nil}
use Rattle.std.specs.Prelude.{if◌then◌else◌}
use Rattle.std.specs.Bool.{IsTrue}
use Rattle.xk_base.specs.declared.events.Event.{Event}
use Rattle.xk_base.specs.declared.events.Event.TheVariants.{Tick, Pick, Irq, Kill}
use Rattle.xk_base.specs.Tables.Circle.{is_thread_id}
use Rattle.machine_model.specs.Stepping.Events.{nothing}
use Rattle.machine_model.specs.State.Machine.{Machine}
use Rattle.machine_model.specs.Runs.Matched.{Matched}
use Rattle.machine_model.specs.Runs.Moments.{Cause, ByStep, ByPick, ByIrq, ByKill, ByTurn, Moment, IsRun, caused, state_at, moment_of}
use Rattle.machine_model.specs.State.Order.{actor, turn}
use Rattle.machine_model.specs.Stepping.Step.{step}
use Rattle.machine_laws.specs.History.{reached, stopped, behind, go_on, followed_by, ticks, play, history}
use Rattle.machine_laws.specs.HistoryMoments.{tick_moments, event_moments, moments_of}
use Rattle.machine_laws.proofs.Stepping.CursorStepLemmas.{every_cause_keeps_cursor}
use Rattle.machine_laws.proofs.Stepping.EveryStepLemmas.{every_cause_keeps}

-- ---- runs, and their last states

last_of : Machine → List Moment → Machine
last_of start [] = start
last_of start (moment ∷ moments) = last_of moment.machine moments

last_is : (start : Machine) (moments : List Moment) → state_at start moments (length moments) ≡ last_of start moments
unfolding state_at last_of
last_is start [] = refl
last_is start (moment ∷ moments) = last_is moment.machine moments

last_append : (start : Machine) (before after : List Moment) → last_of start (before ++ after) ≡ last_of (last_of start before) after
unfolding last_of
last_append start [] after = refl
last_append start (moment ∷ before) after = last_append moment.machine before after

run_none : (start : Machine) → IsRun start []
unfolding IsRun
run_none start = tt

run_one : (cause : Cause) (start : Machine) → IsRun start (moment_of cause start ∷ [])
unfolding IsRun
run_one cause start = (refl, tt)

run_append : (start : Machine) (before after : List Moment) → IsRun start before → IsRun (last_of start before) after → IsRun start (before ++ after)
unfolding IsRun last_of
run_append start [] after first second = second
run_append start (moment ∷ before) after first second = (first.0, run_append moment.machine before after first.1 second)

-- they are a run from the start, and end in that state
Leads : Machine → List Moment → Machine → Type 0
Leads start moments end = IsRun start moments × (last_of start moments ≡ end)

leads_one : (cause : Cause) (start : Machine) → Leads start (moment_of cause start ∷ []) (caused cause start)
unfolding Leads last_of
leads_one cause start = (run_one cause start, refl)

leads_none : (start : Machine) → Leads start [] start
unfolding Leads last_of
leads_none start = (run_none start, refl)

leads_append : (start mid end : Machine) (before after : List Moment) → Leads start before mid → Leads mid after end → Leads start (before ++ after) end
unfolding Leads
leads_append start mid end before after first second = (
  run_append start before after first.0 (subst (λ (m : Machine). IsRun m after) (sym first.1) second.0),
  last_append start before after ∙ (ap (λ (m : Machine). last_of m after) first.1 ∙ second.1),
)

leads_behind : (cause : Cause) (start end : Machine) (after : List Moment) → Leads (caused cause start) after end → Leads start (moment_of cause start ∷ after) end
leads_behind cause start end after later = leads_append start (caused cause start) end (moment_of cause start ∷ []) after (leads_one cause start) later

-- ---- a history's

ticks_lead : (n limit : ℕ) (m : Machine) → Leads m (tick_moments n limit m) (ticks n limit m).machine
unfolding tick_moments ticks
ticks_lead zero limit m = leads_one ByTurn m
ticks_lead (suc n) limit m = go (is_some (actor m)) (m.steps == limit) (ticks_lead n limit (step m).machine)
  where
    go : (a b : Bool) → Leads (step m).machine (tick_moments n limit (step m).machine) (ticks n limit (step m).machine).machine
        → Leads m (if a then (if b then [] else moment_of ByStep m ∷ tick_moments n limit (step m).machine) else moment_of ByTurn m ∷ [])
        (if a then (if b then stopped m else behind (step m).records (ticks n limit (step m).machine)) else reached (nothing (turn m))).machine
    go false b later = leads_one ByTurn m
    go true true later = leads_none m
    go true false later = leads_behind ByStep m (ticks n limit (step m).machine).machine (tick_moments n limit (step m).machine) later

event_leads : (event : Event) (limit : ℕ) (m : Machine) → Leads m (event_moments event limit m) (play event limit m).machine
unfolding event_moments play
event_leads (Tick n) limit m = ticks_lead n limit m
event_leads (Pick pid tid) limit m = leads_one (ByPick (record { pid = pid; tid = tid })) m
event_leads (Irq k) limit m = leads_one (ByIrq k) m
event_leads (Kill pid) limit m = leads_one (ByKill pid) m

history_leads : (events : List Event) (limit : ℕ) (m : Machine) → Leads m (moments_of events limit m) (history events limit m).machine
unfolding moments_of history
history_leads [] limit m = leads_none m
history_leads (event ∷ events) limit m =
    leads_append m (play event limit m).machine (followed_by (play event limit m) (history events limit)).machine
    (event_moments event limit m) (if (play event limit m).met then [] else moments_of events limit (play event limit m).machine)
    (event_leads event limit m)
    (go (play event limit m).met (history_leads events limit (play event limit m).machine))
  where
    go : (b : Bool) → Leads (play event limit m).machine (moments_of events limit (play event limit m).machine) (history events limit (play event limit m).machine).machine
        → Leads (play event limit m).machine (if b then [] else moments_of events limit (play event limit m).machine)
        (go_on b (play event limit m) (history events limit)).machine
    go true later = leads_none (play event limit m).machine
    go false later = later

pub history_is_run : (events : List Event) (limit : ℕ) (start : Machine) → IsRun start (moments_of events limit start)
unfolding Leads
history_is_run events limit start = (history_leads events limit start).0

pub history_last : (events : List Event) (limit : ℕ) (start : Machine)
    → state_at start (moments_of events limit start) (length (moments_of events limit start)) ≡ (history events limit start).machine
unfolding Leads
history_last events limit start = last_is start (moments_of events limit start) ∙ (history_leads events limit start).1

moments_go_on : (em before both after : List Moment) → both ≡ before ++ after → em ++ both ≡ (em ++ before) ++ after
moments_go_on em before both after same = ap (λ (ms : List Moment). em ++ ms) same ∙ sym (append_assoc em before after)

pub moments_append : (before after : List Event) (limit : ℕ) (m : Machine)
    → moments_of (before ++ after) limit m
    ≡ moments_of before limit m ++ (if (history before limit m).met then [] else moments_of after limit (history before limit m).machine)
unfolding moments_of history
moments_append [] after limit m = refl
moments_append (event ∷ before) after limit m =
    go (play event limit m).met refl (moments_append before after limit (play event limit m).machine)
  where
    go : (b : Bool) → (play event limit m).met ≡ b
        → moments_of (before ++ after) limit (play event limit m).machine
        ≡ moments_of before limit (play event limit m).machine
        ++ (if (history before limit (play event limit m).machine).met then [] else moments_of after limit (history before limit (play event limit m).machine).machine)
        → event_moments event limit m ++ (if b then [] else moments_of (before ++ after) limit (play event limit m).machine)
        ≡ (event_moments event limit m ++ (if b then [] else moments_of before limit (play event limit m).machine))
        ++ (if (go_on b (play event limit m) (history before limit)).met then [] else moments_of after limit (go_on b (play event limit m) (history before limit)).machine)
    go true is later =
        let ends : (if (play event limit m).met then [] else moments_of after limit (play event limit m).machine) ≡ [] =
        ap (λ (b : Bool). if b then [] else moments_of after limit (play event limit m).machine) is in
        sym (append-nil (event_moments event limit m ++ []))
        ∙ ap (λ (ms : List Moment). (event_moments event limit m ++ []) ++ ms) (sym ends)
    go false is later =
        moments_go_on (event_moments event limit m) (moments_of before limit (play event limit m).machine)
        (moments_of (before ++ after) limit (play event limit m).machine)
        (if (history before limit (play event limit m).machine).met then [] else moments_of after limit (history before limit (play event limit m).machine).machine)
        later

-- ---- what each cause keeps, a history keeps

run_keeps_all : (P : Machine → Type 0) → ((cause : Cause) (m : Machine) → P m → P (caused cause m))
    → (start : Machine) (moments : List Moment) → P start → IsRun start moments → (i : ℕ) → P (state_at start moments i)
unfolding IsRun state_at
run_keeps_all P keep start moments h run zero = h
run_keeps_all P keep start [] h run (suc i) = h
run_keeps_all P keep start (moment ∷ moments) h run (suc i) =
    run_keeps_all P keep moment.machine moments (subst P (sym run.0) (keep moment.cause start h)) run.1 i

-- at each of its moments
pub moments_keep : (P : Machine → Type 0) → ((cause : Cause) (m : Machine) → P m → P (caused cause m))
    → (events : List Event) (limit : ℕ) (start : Machine) → P start → (i : ℕ) → P (state_at start (moments_of events limit start) i)
moments_keep P keep events limit start h i =
    run_keeps_all P keep start (moments_of events limit start) h (history_is_run events limit start) i

-- and at its end
pub history_keeps : (P : Machine → Type 0) → ((cause : Cause) (m : Machine) → P m → P (caused cause m))
    → (events : List Event) (limit : ℕ) (start : Machine) → P start → P (history events limit start).machine
history_keeps P keep events limit start h =
    subst P (history_last events limit start) (moments_keep P keep events limit start h (length (moments_of events limit start)))

pub moments_matched : (events : List Event) (limit : ℕ) (start : Machine) → Matched start
    → (i : ℕ) → Matched (state_at start (moments_of events limit start) i)
moments_matched events limit start h i = moments_keep Matched every_cause_keeps events limit start h i

pub history_matched : (events : List Event) (limit : ℕ) (start : Machine) → Matched start → Matched (history events limit start).machine
history_matched events limit start h = history_keeps Matched every_cause_keeps events limit start h

-- the cursor, with the invariant on which it rests
cursor_kept : (cause : Cause) (m : Machine) → Matched m × IsTrue (is_thread_id m.processes m.cursor)
    → Matched (caused cause m) × IsTrue (is_thread_id (caused cause m).processes (caused cause m).cursor)
cursor_kept cause m h = (every_cause_keeps cause m h.0, every_cause_keeps_cursor cause m h.0 h.1)

pub moments_cursor : (events : List Event) (limit : ℕ) (start : Machine) → Matched start
    → IsTrue (is_thread_id start.processes start.cursor) → (i : ℕ)
    → IsTrue (is_thread_id (state_at start (moments_of events limit start) i).processes (state_at start (moments_of events limit start) i).cursor)
moments_cursor events limit start h c i =
    let P : Machine → Type 0 = λ (m : Machine). Matched m × IsTrue (is_thread_id m.processes m.cursor) in
    (moments_keep P cursor_kept events limit start (h, c) i).1
