-- Where no thread is Ready nothing goes on.
use Rattle.std.proofs.Common.{◌≡◌, ℕ, zero, suc, ◌+◌, ◌≤◌, ◌==◌, Bool, true, false, List, [], ◌∷◌, ◌++◌, append-nil, is_some, Some, None, refl, sym, ap, ◌∙◌, arith, subst}
use Rattle.std.specs.Prelude.{if◌then◌else◌, unwrap_or}
use Rattle.std.specs.List.{list_all}
use Rattle.std.specs.Option.{option_map_or}
use Rattle.std.proofs.lemmas.Bool.{and_parts, eq-eqb, false≢true}
use Rattle.xk_base.specs.declared.events.Event.{Event}
use Rattle.xk_base.specs.declared.events.Event.TheVariants.{Tick, Pick, Irq, Kill}
use Rattle.xk_base.specs.declared.ids.ThreadId.{ThreadId}
use Rattle.xk_base.specs.Tables.Circle.{id_behind, is_thread_id}
use Rattle.xk_base.proofs.CircleLemmas.{next_id-None}
use Rattle.machine_laws.specs.History.{History, behind, followed_by, go_on, history, play, reached, stopped, ticks}
use Rattle.machine_laws.proofs.Histories.HistoryLemmas.{history_append, pick_unready, ready_has_actor, tick_idle}
use Rattle.machine_laws.proofs.Histories.LimitLemmas.{step_steps, turn_steps}
use Rattle.machine_laws.proofs.Threading.ThreadAnswerLemmas.{ready_thread}
use Rattle.machine_model.specs.Messaging.MessageCounts.{HasIf}
use Rattle.machine_model.specs.Runs.Matched.{Matched, is_sent_as, is_waiting_for}
use Rattle.machine_model.specs.State.Machine.{Idle, Joining, Machine, Ready, Receiving, ThreadState, Waiting}
use Rattle.machine_model.specs.State.Order.{actor, is_ready, next_ready, ready_at, turn}
use Rattle.machine_model.specs.Stepping.Events.{nothing}
use Rattle.machine_model.specs.Stepping.Step.{step}
use Rattle.transcript_laws.specs.Stuck.{DoesNoStep, EveryoneWaits, IsStuck, WaitsFor, is_from_inside}

-- ---- no step where no thread is Ready

module _ (m : Machine) (stuck : IsStuck m) where
  no_next : (c : ThreadId) → next_ready m c ≡ None
  unfolding next_ready
  no_next c = next_id-None m.processes (ready_at m) c (λ k l. stuck (id_behind m.processes c k))

  same_turn : turn m ≡ m
  unfolding turn
  same_turn = ap (λ o. record m { cursor = unwrap_or o m.cursor }) (no_next m.cursor)

  no_actor : is_some (actor m) ≡ false
  unfolding actor
  no_actor =
      ap (λ b. is_some (if b then Some m.cursor else next_ready m m.cursor)) (stuck m.cursor)
      ∙ ap is_some (no_next m.cursor)

  pub stuck_tick : (n limit : ℕ) → play (Tick n) limit m ≡ reached (nothing m)
  stuck_tick n limit = tick_idle n limit m no_actor ∙ ap (λ x. reached (nothing x)) same_turn

  pub stuck_does_no_step : (n limit : ℕ) → DoesNoStep n limit m
  stuck_does_no_step n limit = record {
    unmet = ap (λ (h : History). h.met) (stuck_tick n limit);
    same = ap (λ (h : History). h.machine.steps) (stuck_tick n limit);
  }

  stuck_event : (event : Event) (limit : ℕ) → is_from_inside event ≡ true → play event limit m ≡ reached (nothing m)
  stuck_event (Tick n) limit inside = stuck_tick n limit
  stuck_event (Pick pid tid) limit inside = pick_unready pid tid limit m (stuck (record { pid = pid; tid = tid }))
  stuck_event (Irq k) limit inside = absurd (false≢true inside)
  stuck_event (Kill pid) limit inside = absurd (false≢true inside)

  pub stuck_history : (events : List Event) (limit : ℕ) → list_all is_from_inside events ≡ true → history events limit m ≡ reached (nothing m)
  unfolding history
  stuck_history [] limit inside = refl
  stuck_history (event ∷ events) limit inside =
      let parts = and_parts (is_from_inside event) (list_all is_from_inside events) inside in
      ap (λ h. followed_by h (history events limit)) (stuck_event event limit parts.0) ∙ stuck_history events limit parts.1

pub stuck_histories : (before later : List Event) (limit : ℕ) (start : Machine) → IsStuck (history before limit start).machine
    → list_all is_from_inside later ≡ true → history (before ++ later) limit start ≡ history before limit start
stuck_histories before later limit start stuck inside =
    history_append before later limit start ∙ go (history before limit start) stuck
  where
    go : (h : History) → IsStuck h.machine → followed_by h (history later limit) ≡ h
    go h still = by_met h.met refl
      where
        by_met : (b : Bool) → h.met ≡ b → go_on b h (history later limit) ≡ h
        by_met true e = refl
        by_met false e =
            ap (behind h.records) (stuck_history h.machine still later limit inside)
            ∙ ap (λ rs. record { records = rs; machine = h.machine; met = false }) (append-nil h.records)
            ∙ ap (λ b. record { records = h.records; machine = h.machine; met = b }) (sym e)

-- ---- a step where one is

ticks_climb : (n limit : ℕ) (m : Machine) → m.steps ≤ (ticks n limit m).machine.steps
unfolding ticks
ticks_climb zero limit m = let same : (turn m).steps ≡ m.steps = turn_steps m in omega arith
ticks_climb (suc n) limit m = go (is_some (actor m)) (m.steps == limit) refl (ticks_climb n limit (step m).machine)
  where
    go : (a b : Bool) → is_some (actor m) ≡ a → (step m).machine.steps ≤ (ticks n limit (step m).machine).machine.steps
        → m.steps ≤ (if a then (if b then stopped m else behind (step m).records (ticks n limit (step m).machine)) else reached (nothing (turn m))).machine.steps
    go false b e later = let same : (turn m).steps ≡ m.steps = turn_steps m in omega arith
    go true true e later = omega arith
    go true false e later = let one : (step m).machine.steps ≡ m.steps + 1 = step_steps m e in omega arith

moving : (n limit : ℕ) (m : Machine) → 1 ≤ n → is_some (actor m) ≡ true → DoesNoStep n limit m → ⊥
unfolding play ticks
moving zero limit m some acts none = absurd (omega arith)
moving (suc n) limit m some acts none = go (is_some (actor m)) (m.steps == limit) acts none.unmet none.same
  where
    go : (a b : Bool) → a ≡ true
        → (if a then (if b then stopped m else behind (step m).records (ticks n limit (step m).machine)) else reached (nothing (turn m))).met ≡ false
        → (if a then (if b then stopped m else behind (step m).records (ticks n limit (step m).machine)) else reached (nothing (turn m))).machine.steps ≡ m.steps
        → ⊥
    go false b e unmet same = absurd (false≢true e)
    go true true e unmet same = absurd (false≢true (sym unmet))
    go true false e unmet same =
        let one : (step m).machine.steps ≡ m.steps + 1 = step_steps m acts in
        let more : (step m).machine.steps ≤ (ticks n limit (step m).machine).machine.steps = ticks_climb n limit (step m).machine in
        omega arith

known : (m : Machine) → Matched m → (who : ThreadId) → ready_at m who ≡ true → is_thread_id m.processes who ≡ true
known m h who ready = let r = ready_thread m who ready in h.body.ids.known who r.thread r.there

pub nobody_ready : (n limit : ℕ) (m : Machine) → Matched m → is_thread_id m.processes m.cursor ≡ true → 1 ≤ n → DoesNoStep n limit m → IsStuck m
nobody_ready n limit m h cursor some none who = go (ready_at m who) refl
  where
    go : (b : Bool) → ready_at m who ≡ b → ready_at m who ≡ false
    go false e = e
    go true e =
        absurd (moving n limit m some
        (ready_has_actor m who (and_parts _ _ cursor).0 (known m h who e) e) none)

-- ---- what each waits for

pub everyone_waits : (m : Machine) → Matched m → IsStuck m → EveryoneWaits m
everyone_waits m h stuck who t there = go t.state refl
  where
    go : (s : ThreadState) → t.state ≡ s → WaitsFor m who s
    go Ready e = absurd (false≢true (sym (stuck who) ∙ ap (λ o. option_map_or (λ x. is_ready x.state) o false) there ∙ ap is_ready e))
    go (Receiving serial) e = h.body.receivers who t serial there e
    go (Waiting number) e =
        subst (λ b. HasIf b m.servers (is_sent_as who number))
        (ap (λ o. option_map_or (λ x. is_waiting_for number x.state) o false) there
        ∙ (ap (is_waiting_for number) e ∙ eq-eqb number.0 number.0 refl))
        (h.body.senders.senders who number)
    go (Joining tid) e = h.body.joiners who t tid there e
    go Idle e = (h.body.threads.idle who t there e).0
