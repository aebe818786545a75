-- By what keeps the order of turns, the cursor comes nearer to each thread that is Ready, or stays.
use Rattle.std.proofs.Common.{◌≡◌, ◌≢◌, ℕ, ◌<◌, ◌≤◌, ◌⊎◌, inl, inr, Bool, true, false, List, [], ◌∷◌, ◌++◌, map, Option, Some, None, refl, sym, ap, ◌∙◌, arith}
use Rattle.std.specs.Prelude.{◌==◌, if◌then◌else◌, nat_eq, unwrap_or}
use Rattle.std.proofs.lemmas.Bool.{eq-eqb, eqb-true, false≢true}
use Rattle.std.proofs.lemmas.Option.{same_Some}
use Rattle.xk_base.specs.declared.ids.Pid.{Pid}
use Rattle.xk_base.specs.declared.ids.ThreadId.{ThreadId}
use Rattle.xk_base.specs.declared.records.Rec.{Rec}
use Rattle.xk_base.specs.declared.records.What.{What}
use Rattle.xk_base.specs.declared.records.What.TheVariants.{Irq}
use Rattle.xk_base.specs.Tables.Circle.{is_thread_id}
use Rattle.xk_base.specs.Tables.Counting.{put_at}
use Rattle.xk_base.proofs.CircleLemmas.{same_ids}
use Rattle.machine_model.specs.Ending.Closing.{closed, senders_held_gone, senders_queued_gone, servers_closed}
use Rattle.machine_model.specs.Ending.Ends.{death, forgotten}
use Rattle.machine_model.specs.Runs.Matched.{Matched}
use Rattle.machine_model.specs.Runs.Moments.{Cause, ByStep, ByPick, ByIrq, ByKill, ByTurn, caused}
use Rattle.machine_model.specs.State.Changes.{Change, Delivery, death_told, delivery_told, replies, settled}
use Rattle.machine_model.specs.State.Machine.{Claim, Machine}
use Rattle.machine_model.specs.State.Order.{actor, next_ready, ready_at, turn}
use Rattle.machine_model.specs.Stepping.Events.{killed, killed_if, raised, raised_if}
use Rattle.machine_model.specs.Stepping.Interrupts.{cursor_after, delivered}
use Rattle.machine_model.specs.Stepping.Reservations.{unreserved}
use Rattle.machine_model.specs.Stepping.Step.{Recorded, counted, record_of, step}
use Rattle.machine_model.proofs.Runs.TimerLemmas.{pended_raised, timed_raised}
use Rattle.machine_model.proofs.StepLemmas.{no_step}
use Rattle.machine_laws.proofs.Threading.ThreadAnswerLemmas.{ready_thread}
use Rattle.machine_laws.proofs.Threading.ThreadStepLemmas.{actor_ready, turned_to}
use Rattle.transcript_laws.specs.Turns.{KeepsOrder}
use Rattle.transcript_laws.proofs.Turning.GoingLemmas.{acted_goes_on, delivered_stays, step_goes_on}
use Rattle.transcript_laws.proofs.Turning.RoundLemmas.{far, next_nearer}
use Rattle.machine_laws.proofs.Stepping.CauseCaseLemmas.{CauseCase, Kills, Raises, Rests, Steps, case_of}
use Rattle.machine_laws.specs.Records.{records_by}
use Rattle.machine_model.specs.Stepping.Step.{acted}

-- two ids are one, or they aren't
pub one_or_other : (a b : ThreadId) → (a ≡ b) ⊎ (a ≢ b)
one_or_other a b = go (a.pid.0 == b.pid.0) (a.tid.0 == b.tid.0) refl refl
  where
    go : (p q : Bool) → (a.pid.0 == b.pid.0) ≡ p → (a.tid.0 == b.tid.0) ≡ q → (a ≡ b) ⊎ (a ≢ b)
    go true true x y = inl (same_ids a b (eqb-true a.pid.0 b.pid.0 x) (eqb-true a.tid.0 b.tid.0 y))
    go false q x y = inr (λ e. false≢true (sym x ∙ (ap (λ (c : ThreadId). c.pid.0 == b.pid.0) e ∙ eq-eqb b.pid.0 b.pid.0 refl)))
    go true false x y = inr (λ e. false≢true (sym y ∙ (ap (λ (c : ThreadId). c.tid.0 == b.tid.0) e ∙ eq-eqb b.tid.0 b.tid.0 refl)))

-- a Ready thread has a known id
pub ready_known : (m : Machine) → Matched m → (who : ThreadId) → ready_at m who ≡ true → is_thread_id m.processes who ≡ true
ready_known m h who ready = let r = ready_thread m who ready in h.body.ids.known who r.thread r.there

-- a Ready thread at the cursor has the turn
pub cursor_acts : (m : Machine) (d : ThreadId) → ready_at m d ≡ true → m.cursor ≡ d → actor m ≡ Some d
unfolding actor
cursor_acts m d ready e =
    ap (λ b. if b then Some m.cursor else next_ready m m.cursor) (ap (ready_at m) e ∙ ready) ∙ ap (λ c. Some c) e

-- ---- who has the turn is no farther than the cursor

module _ (m : Machine) (d : ThreadId) (h : Matched m) (cursor : is_thread_id m.processes m.cursor ≡ true) (ready : ready_at m d ≡ true) where
  there : is_thread_id m.processes d ≡ true
  there = ready_known m h d ready

  pub actor_nearer : (who : ThreadId) → actor m ≡ Some who → m.cursor ≢ d → far m.processes d who ≤ far m.processes d m.cursor
  unfolding actor
  actor_nearer who acts apart = go (ready_at m m.cursor) acts
    where
      less : far m.processes d (unwrap_or (next_ready m m.cursor) m.cursor) < far m.processes d m.cursor
      less = next_nearer m m.cursor d cursor there ready apart

      go : (b : Bool) → (if b then Some m.cursor else next_ready m m.cursor) ≡ Some who → far m.processes d who ≤ far m.processes d m.cursor
      go true e = let same : far m.processes d m.cursor ≡ far m.processes d who = ap (far m.processes d) (same_Some m.cursor who e) in omega arith
      go false e =
          let same : far m.processes d (unwrap_or (next_ready m m.cursor) m.cursor) ≡ far m.processes d who =
          ap (λ o. far m.processes d (unwrap_or o m.cursor)) e in
          let near : far m.processes d (unwrap_or (next_ready m m.cursor) m.cursor) < far m.processes d m.cursor = less in
          omega arith

  turn_nearer : m.cursor ≢ d → far m.processes d (turn m).cursor ≤ far m.processes d m.cursor
  unfolding turn
  turn_nearer apart =
      let less : far m.processes d (unwrap_or (next_ready m m.cursor) m.cursor) < far m.processes d m.cursor = next_nearer m m.cursor d cursor there ready apart in
      omega arith

  -- the step of another thread leaves the cursor no farther than that thread
  pub step_nearer : (who : ThreadId) → actor m ≡ Some who → who ≢ d → KeepsOrder ByStep m → far m.processes d (step m).machine.cursor ≤ far m.processes d who
  unfolding turn
  step_nearer who acts apart order = go (step_goes_on m who acts order).cursor
    where
      known : is_thread_id m.processes who ≡ true
      known = ready_known m h who (actor_ready m who acts)

      less : far m.processes d (unwrap_or (next_ready (turned_to who m) who) who) < far m.processes d who
      less = next_nearer (turned_to who m) who d known there ready apart

      go : ((step m).machine.cursor ≡ who) ⊎ ((step m).machine.cursor ≡ unwrap_or (next_ready (turned_to who m) who) who)
          → far m.processes d (step m).machine.cursor ≤ far m.processes d who
      go (inl e) = let same : far m.processes d (step m).machine.cursor ≡ far m.processes d who = ap (far m.processes d) e in omega arith
      go (inr e) =
          let same : far m.processes d (step m).machine.cursor ≡ far m.processes d (unwrap_or (next_ready (turned_to who m) who) who) = ap (far m.processes d) e in
          let near : far m.processes d (unwrap_or (next_ready (turned_to who m) who) who) < far m.processes d who = less in
          omega arith

-- ---- events keep the cursor

some_told : (f : What → Rec) (before : List What) (what : What) (later : List What) → map f (before ++ (what ∷ later)) ≡ [] → ⊥
some_told f [] what later e = let d : f what ∷ map f later ≡ [] = e in cc
some_told f (one ∷ before) what later e = let d : f one ∷ map f (before ++ (what ∷ later)) ≡ [] = e in cc

irq_stays : (k : ℕ) (m : Machine) → (raised k m).records ≡ [] → (raised k m).machine.cursor ≡ m.cursor
unfolding raised settled
irq_stays k m none = go (m.claims k) none
  where
    go : (o : Option Claim) → (raised_if k o (unreserved m)).records ≡ [] → (raised_if k o (unreserved m)).machine.cursor ≡ m.cursor
    go None e = refl
    go (Some claim) e = by_delivery change.delivery e ∙ stays.1
      where
        next : Machine
        next = record (unreserved m) { pending = put_at nat_eq m.pending k true }

        change : Change
        change = delivered claim.pid next

        stays : (change.machine.processes ≡ m.processes) × (change.machine.cursor ≡ m.cursor)
        stays = delivered_stays next claim.pid

        by_delivery : (o : Option Delivery)
            → map (record_of m.steps) (replies change.machine.processes change.answers ++ (delivery_told o ++ death_told change.gone)) ≡ []
            → cursor_after o change.machine.cursor ≡ change.machine.cursor
        by_delivery None none = refl
        by_delivery (Some d) none =
            absurd (some_told (record_of m.steps) (replies change.machine.processes change.answers) (Irq d.pid d.number) (death_told change.gone) none)

kill_stays : (pid : Pid) (m : Machine) → (killed pid m).machine.cursor ≡ m.cursor
unfolding killed settled death servers_closed closed senders_queued_gone senders_held_gone forgotten
kill_stays pid m = go (m.process pid.0).alive
  where
    go : (b : Bool) → (killed_if b pid (unreserved m)).machine.cursor ≡ m.cursor
    go true = refl
    go false = refl

-- ---- any cause

-- it is no step of the thread
abbrev pub IsOfAnother : ThreadId → Machine → Cause → Type 0
IsOfAnother d m cause = cause ≡ ByStep → (who : ThreadId) → actor m ≡ Some who → who ≢ d

pub cause_nears : (cause : Cause) (m : Machine) (d : ThreadId) → Matched m → is_thread_id m.processes m.cursor ≡ true → ready_at m d ≡ true
    → KeepsOrder cause m → m.cursor ≢ d → IsOfAnother d m cause
    → far m.processes d (caused cause m).cursor ≤ far m.processes d m.cursor
cause_nears ByStep m d h cursor ready order apart other = go (actor m) refl
  where
    go : (o : Option ThreadId) → actor m ≡ o → far m.processes d (step m).machine.cursor ≤ far m.processes d m.cursor
    go None e =
        let same : far m.processes d (step m).machine.cursor ≡ far m.processes d m.cursor =
        ap (λ (s : Recorded). far m.processes d s.machine.cursor) (no_step m e) in
        omega arith
    go (Some who) e =
        let near : far m.processes d who ≤ far m.processes d m.cursor = actor_nearer m d h cursor ready who e apart in
        let nearer : far m.processes d (step m).machine.cursor ≤ far m.processes d who = step_nearer m d h cursor ready who e (other refl who e) order in
        omega arith
cause_nears (ByPick who) m d h cursor ready order apart other =
    let same : far m.processes d (caused (ByPick who) m).cursor ≡ far m.processes d m.cursor = ap (far m.processes d) order in
    omega arith
cause_nears (ByIrq k) m d h cursor ready order apart other =
    let same : far m.processes d (raised k m).machine.cursor ≡ far m.processes d m.cursor = ap (far m.processes d) (irq_stays k m order) in
    omega arith
cause_nears (ByKill pid) m d h cursor ready order apart other =
    let same : far m.processes d (killed pid m).machine.cursor ≡ far m.processes d m.cursor = ap (far m.processes d) (kill_stays pid m) in
    omega arith
cause_nears ByTurn m d h cursor ready order apart other = turn_nearer m d h cursor ready apart

-- what is no step and no end of a turn leaves the cursor
pub cursor_stays : (cause : Cause) (m : Machine) → KeepsOrder cause m → cause ≢ ByStep → cause ≢ ByTurn → (caused cause m).cursor ≡ m.cursor
cursor_stays ByStep m order step turn = absurd (step refl)
cursor_stays (ByPick who) m order step turn = order
cursor_stays (ByIrq k) m order step turn = irq_stays k m order
cursor_stays (ByKill pid) m order step turn = kill_stays pid m
cursor_stays ByTurn m order step turn = absurd (turn refl)

-- ---- there are as many processes

death_processes : (pid : Pid) (m : Machine) → (settled (death pid m)).machine.processes ≡ m.processes
unfolding settled death servers_closed closed senders_queued_gone senders_held_gone forgotten
death_processes pid m = refl

pub processes_stay : (cause : Cause) (m : Machine) → (caused cause m).processes ≡ m.processes
processes_stay cause m = by cause (record { machine = caused cause m; records = records_by cause m }) (case_of cause m)
  where
    by : (cause : Cause) (next : Recorded) → CauseCase m cause next → next.machine.processes ≡ m.processes
    by _ _ (Rests cause cursor reserved rest) = refl
    by _ _ (Steps who t acts is_there case) =
        let done = counted (turned_to who m) (Some t) (acted (turned_to who m) t) in
        ap (λ (x : Machine). x.processes) (timed_raised done).is ∙ (acted_goes_on (turned_to who m) (Some t)).processes
    by _ _ (Raises k claim e) = ap (λ (x : Machine). x.processes) (pended_raised k claim (unreserved m)).is
    by _ _ (Kills pid e) = death_processes pid (unreserved m)
