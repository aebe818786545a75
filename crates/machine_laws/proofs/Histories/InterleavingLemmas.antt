-- Any order of the threads' steps.
use Rattle.std.proofs.Common.{◌≡◌, ◌≢◌, ◌==◌, ◌+◌, ◌≤◌, ℕ, Bool, true, false, List, [], ◌∷◌, ◌++◌, length, Option, Some, is_some, refl, sym, ap, ◌∙◌, arith, append-nil}
use Rattle.std.proofs.lemmas.Bool.{false≢true}
use Rattle.std.proofs.lemmas.Bool.Decides.{nat_tests}
use Rattle.xk_base.specs.declared.events.Event.{Event}
use Rattle.xk_base.specs.declared.events.Event.TheVariants.{Tick, Pick}
use Rattle.xk_base.specs.declared.ids.ThreadId.{ThreadId}
use Rattle.xk_base.specs.declared.records.Rec.{Rec}
use Rattle.machine_model.specs.Stepping.Events.{picked, nothing}
use Rattle.machine_model.specs.State.Machine.{Machine}
use Rattle.machine_model.specs.State.Order.{actor, turn, ready_at}
use Rattle.machine_model.specs.Stepping.Step.{Recorded, step, step_by, step_by_if}
use Rattle.machine_laws.specs.History.{History, reached, stopped, behind, followed_by, play, history}
use Rattle.machine_laws.specs.Interleaving.{picks_and_ticks, after_step_of, AreReadyInTurn, steps_in_turn}
use Rattle.machine_laws.proofs.Histories.LimitLemmas.{step_by_counts}
use Rattle.machine_laws.proofs.Histories.HistoryLemmas.{history_append, history_first, history_none, pick_plays, tick_met, tick_steps}
use Rattle.machine_laws.proofs.Histories.HistoryLemmas.{tick_zero}

-- the machine as its turn goes to the thread
abbrev at : ThreadId → Machine → Machine
at who m = record m { cursor = who }

pick_is : (who : ThreadId) (m : Machine) → ready_at m who ≡ true → picked who m ≡ nothing (at who m)
unfolding picked
pick_is who m ready = rw ready refl

actor_is : (who : ThreadId) (m : Machine) → ready_at m who ≡ true → actor (at who m) ≡ Some who
unfolding actor
actor_is who m ready = rw ready refl

step_is : (m : Machine) → step m ≡ step_by_if (actor m) m
unfolding step
step_is m = refl

step_by_at : (who : ThreadId) (m : Machine) → step_by who (at who m) ≡ step_by who m
unfolding step_by
step_by_at who m = refl

step_at : (who : ThreadId) (m : Machine) → ready_at m who ≡ true → step (at who m) ≡ step_by who m
step_at who m ready =
    step_is (at who m) ∙ (ap (λ (a : Option ThreadId). step_by_if a (at who m)) (actor_is who m ready) ∙ step_by_at who m)

someone : (who : ThreadId) (m : Machine) → ready_at m who ≡ true → is_some (actor (at who m)) ≡ true
someone who m ready = ap (λ (a : Option ThreadId). is_some a) (actor_is who m ready)

step_by_steps : (who : ThreadId) (m : Machine) → (after_step_of who m).steps ≡ m.steps + 1
unfolding turn
step_by_steps who m = step_by_counts who m

-- the pick leads to its tick
pick_first : (who : ThreadId) (events : List Event) (limit : ℕ) (m : Machine) → ready_at m who ≡ true
    → history (Pick who.pid who.tid ∷ events) limit m ≡ history events limit (at who m)
pick_first who events limit m ready =
    history_first (Pick who.pid who.tid) events limit m
    ∙ ap (λ (h : History). followed_by h (history events limit)) (pick_plays who.pid who.tid limit m ∙ ap reached (pick_is who m ready))

-- its tick is one step and the end of the turn
tick_one : (who : ThreadId) (limit : ℕ) (m : Machine) → ready_at m who ≡ true → m.steps ≢ limit
    → play (Tick 1) limit (at who m) ≡ behind (step_by who m).records (reached (nothing (turn (step_by who m).machine)))
tick_one who limit m ready more =
    let one : 1 ≤ 1 = omega arith in
    tick_steps 1 limit (at who m) one (someone who m ready) more
    ∙ (ap (λ (s : Recorded). behind s.records (play (Tick 0) limit s.machine)) (step_at who m ready)
    ∙ ap (behind (step_by who m).records) (tick_zero limit (step_by who m).machine))

plain : (records : List Rec) (m : Machine) (next : Machine → History) → followed_by (behind records (reached (nothing (turn m)))) next ≡ behind records (next (turn m))
plain records m next = rw append-nil refl

turn_of : (who : ThreadId) (later : List ThreadId) (limit : ℕ) (m : Machine) → ready_at m who ≡ true → m.steps ≢ limit
    → history (picks_and_ticks (who ∷ later)) limit m ≡ behind (step_by who m).records (history (picks_and_ticks later) limit (after_step_of who m))
unfolding picks_and_ticks
turn_of who later limit m ready more =
    pick_first who (Tick 1 ∷ picks_and_ticks later) limit m ready
    ∙ (history_first (Tick 1) (picks_and_ticks later) limit (at who m)
    ∙ (ap (λ (h : History). followed_by h (history (picks_and_ticks later) limit)) (tick_one who limit m ready more)
    ∙ plain (step_by who m).records (step_by who m).machine (history (picks_and_ticks later) limit)))

-- where the limit is met at the turn of this thread
turn_met : (who : ThreadId) (later : List ThreadId) (limit : ℕ) (m : Machine) → ready_at m who ≡ true → m.steps ≡ limit
    → history (picks_and_ticks (who ∷ later)) limit m ≡ stopped (picked who m).machine
unfolding picks_and_ticks
turn_met who later limit m ready met =
    let one : 1 ≤ 1 = omega arith in
    let there : stopped (at who m) ≡ stopped (picked who m).machine = ap (λ (s : Recorded). stopped s.machine) (sym (pick_is who m ready)) in
    pick_first who (Tick 1 ∷ picks_and_ticks later) limit m ready
    ∙ (history_first (Tick 1) (picks_and_ticks later) limit (at who m)
    ∙ (ap (λ (h : History). followed_by h (history (picks_and_ticks later) limit)) (tick_met 1 limit (at who m) one (someone who m ready) met)
    ∙ there))

no_turns : (limit : ℕ) (m : Machine) → history (picks_and_ticks []) limit m ≡ reached (nothing m)
unfolding picks_and_ticks
no_turns limit m = history_none limit m

-- the limit isn't met
pub interleaving : (threads : List ThreadId) (limit : ℕ) (m : Machine) → AreReadyInTurn threads m
    → (history (picks_and_ticks threads) limit m).met ≡ false → history (picks_and_ticks threads) limit m ≡ reached (steps_in_turn threads m)
unfolding AreReadyInTurn steps_in_turn
interleaving [] limit m ready unmet = no_turns limit m
interleaving (who ∷ later) limit m ready unmet =
    go (m.steps == limit) refl (λ h. interleaving later limit (after_step_of who m) ready.1 h)
  where
    go : (b : Bool) → (m.steps == limit) ≡ b
        → ((history (picks_and_ticks later) limit (after_step_of who m)).met ≡ false
        → history (picks_and_ticks later) limit (after_step_of who m) ≡ reached (steps_in_turn later (after_step_of who m)))
        → history (picks_and_ticks (who ∷ later)) limit m ≡ reached (steps_in_turn (who ∷ later) m)
    go true test rest =
        let same : m.steps ≡ limit = grind (arith, nat_tests) in
        absurd (false≢true (sym unmet ∙ ap (λ (h : History). h.met) (turn_met who later limit m ready.0 same)))
    go false test rest =
        let more : m.steps ≢ limit = grind (arith, nat_tests) in
        let first : history (picks_and_ticks (who ∷ later)) limit m ≡ behind (step_by who m).records (history (picks_and_ticks later) limit (after_step_of who m)) = turn_of who later limit m ready.0 more in
        first ∙ ap (behind (step_by who m).records) (rest (sym (ap (λ (h : History). h.met) first) ∙ unmet))

-- so where the steps fit in the limit
pub unmet_within : (threads : List ThreadId) (limit : ℕ) (m : Machine) → AreReadyInTurn threads m
    → m.steps + length threads ≤ limit → (history (picks_and_ticks threads) limit m).met ≡ false
unfolding AreReadyInTurn
unmet_within [] limit m ready within = ap (λ (h : History). h.met) (no_turns limit m)
unmet_within (who ∷ later) limit m ready within =
    let more : m.steps ≢ limit = λ e. absurd (omega (arith, e)) in
    let rest : (after_step_of who m).steps + length later ≤ limit = omega (arith, step_by_steps who m) in
    ap (λ (h : History). h.met) (turn_of who later limit m ready.0 more) ∙ unmet_within later limit (after_step_of who m) ready.1 rest

-- ---- where the limit is met on the way

picks_append : (before after : List ThreadId) → picks_and_ticks (before ++ after) ≡ picks_and_ticks before ++ picks_and_ticks after
unfolding picks_and_ticks
picks_append [] after = refl
picks_append (who ∷ before) after = ap (λ (events : List Event). Pick who.pid who.tid ∷ Tick 1 ∷ events) (picks_append before after)

ready_before : (before after : List ThreadId) (m : Machine) → AreReadyInTurn (before ++ after) m → AreReadyInTurn before m
unfolding AreReadyInTurn
ready_before [] after m ready = tt
ready_before (who ∷ before) after m ready = (ready.0, ready_before before after (after_step_of who m) ready.1)

ready_after : (before after : List ThreadId) (m : Machine) → AreReadyInTurn (before ++ after) m → AreReadyInTurn after (steps_in_turn before m).machine
unfolding AreReadyInTurn steps_in_turn
ready_after [] after m ready = ready
ready_after (who ∷ before) after m ready = ready_after before after (after_step_of who m) ready.1

steps_of_turns : (threads : List ThreadId) (m : Machine) → (steps_in_turn threads m).machine.steps ≡ m.steps + length threads
unfolding steps_in_turn
steps_of_turns [] m = omega arith
steps_of_turns (who ∷ later) m = omega (arith, steps_of_turns later (after_step_of who m), step_by_steps who m)

first_ready : (who : ThreadId) (later : List ThreadId) (m : Machine) → AreReadyInTurn (who ∷ later) m → ready_at m who ≡ true
unfolding AreReadyInTurn
first_ready who later m ready = ready.0

pub interleaving_met : (before : List ThreadId) (who : ThreadId) (later : List ThreadId) (limit : ℕ) (m : Machine)
    → AreReadyInTurn (before ++ (who ∷ later)) m → m.steps + length before ≡ limit
    → history (picks_and_ticks (before ++ (who ∷ later))) limit m
    ≡ behind (steps_in_turn before m).records (stopped (picked who (steps_in_turn before m).machine).machine)
interleaving_met before who later limit m ready met =
    let within : m.steps + length before ≤ limit = omega arith in
    let ends : (steps_in_turn before m).machine.steps ≡ limit = steps_of_turns before m ∙ met in
    let front : AreReadyInTurn before m = ready_before before (who ∷ later) m ready in
    let first : history (picks_and_ticks before) limit m ≡ reached (steps_in_turn before m) = interleaving before limit m front (unmet_within before limit m front within) in
    let its_turn : ready_at (steps_in_turn before m).machine who ≡ true = first_ready who later (steps_in_turn before m).machine (ready_after before (who ∷ later) m ready) in
    ap (λ (events : List Event). history events limit m) (picks_append before (who ∷ later))
    ∙ (history_append (picks_and_ticks before) (picks_and_ticks (who ∷ later)) limit m
    ∙ (ap (λ (h : History). followed_by h (history (picks_and_ticks (who ∷ later)) limit)) first
    ∙ ap (behind (steps_in_turn before m).records) (turn_met who later limit (steps_in_turn before m).machine its_turn ends)))
