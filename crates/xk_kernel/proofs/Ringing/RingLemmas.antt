-- The timer raises its interrupt, or doesn't, as the machine's does.
use Rattle.std.proofs.Common.{◌≡◌, ℕ, ◌+◌, ◌≤◌, Bool, true, false, List, [], ◌∷◌, ◌++◌, map, All, length, Option, Some, None, refl, sym, ap, subst, ◌∙◌, arith, nat_eq, append-nil}
use Rattle.std.specs.Prelude.{◌&&◌, is_some, if◌then◌else◌}
use Rattle.std.specs.Option.{option_map}
use Rattle.std.proofs.lemmas.Bool.{false≢true}
use Rattle.std.proofs.lemmas.List.{map-append}
use Rattle.std.proofs.lemmas.List.Elements.{All-append, All-map}
use Rattle.irq_claims.specs.ClaimMap.{pend, with_pending}
use Rattle.irq_claims.specs.ClaimsOf.{claims_of}
use Rattle.irq_claims.specs.declared.claims.Claim.{Claim as TableClaim}
use Rattle.irq_claims.specs.declared.claims.Claims.{Claims}
use Rattle.machine_model.specs.State.Changes.{Change, Delivery, Told, death_told, delivery_told, replies, settled}
use Rattle.machine_model.specs.State.Machine.{Claim, Machine}
use Rattle.machine_model.specs.State.Threads.{no_answers, thread_id}
use Rattle.machine_model.specs.Stepping.Interrupts.{cursor_after, delivered, delivered_lowest, handler_started, is_free_for_interrupt, lowest_pending}
use Rattle.machine_model.specs.Stepping.Step.{record_of}
use Rattle.machine_model.specs.Stepping.Timer.{is_due, raised_by_timer, timed, timed_if, with_irq, with_irq_if}
use Rattle.sv32_space.specs.Tie.{Held}
use Rattle.xk_base.specs.Log.{LogState}
use Rattle.vm_memory.specs.Memory.{processes}
use Rattle.xk_base.specs.Tables.Circle.{is_pid, is_thread_id}
use Rattle.xk_base.specs.Tables.Counting.{put_at}
use Rattle.xk_base.specs.declared.ids.Pid.{Pid}
use Rattle.xk_base.specs.declared.ids.ThreadId.{ThreadId}
use Rattle.xk_base.specs.declared.limits.TheConstants.{TIMER_INTERRUPT}
use Rattle.xk_base.specs.declared.records.Rec.{Rec}
use Rattle.xk_base.specs.declared.records.What.{What}
use Rattle.xk_base.specs.declared.records.What.TheVariants.{Irq}
use Rattle.xk_kernel.specs.Ringing.{IsTimersClaimThere, LogTells, Rings, log_of, so_far}
use Rattle.xk_kernel.specs.State.{claim_of, machine_of}
use Rattle.xk_kernel.specs.Telling.{log_with}
use Rattle.xk_kernel.specs.declared.kernel.Kernel.{Kernel}
use Rattle.xk_kernel.proofs.Calling.ReplyLemmas.{nobody_answered, nobody_told}
use Rattle.xk_kernel.proofs.Calling.TellingLemmas.{told_length, told_nothing}
use Rattle.xk_kernel.proofs.Interrupting.ClaimLemmas.{pending_put}
use Rattle.xk_kernel.proofs.Interrupting.DeliveryLemmas.{Delivers}
use Rattle.xk_kernel.proofs.Interrupting.RaiseLemmas.{claim_found, cursor_moves, delivery_pid, moved, settled_next}

-- ---- what a delivery tells

-- nobody is answered by it, and nobody dies
record IsDelivery (change : Change) : Type 0 where
  answers : change.answers ≡ no_answers
  gone : change.gone ≡ None

started_so : (m : Machine) (pid : Pid) (k : ℕ) (o : Option Claim) → IsDelivery (handler_started m pid k o)
started_so m pid k None = record { answers = refl; gone = refl }
started_so m pid k (Some claim) = record { answers = refl; gone = refl }

lowest_so : (m : Machine) (pid : Pid) (o : Option ℕ) → IsDelivery (delivered_lowest m pid o)
lowest_so m pid None = record { answers = refl; gone = refl }
lowest_so m pid (Some k) = started_so m pid k (m.claims k)

delivered_so : (m : Machine) (pid : Pid) → IsDelivery (delivered pid m)
unfolding delivered
delivered_so m pid = lowest_so m pid (if is_free_for_interrupt m pid then lowest_pending m pid else None)

change_tells : (change : Change) → IsDelivery change → (settled change).told ≡ delivery_told change.delivery
unfolding settled
change_tells change h =
    (λ i. replies change.machine.processes (h.answers i) ++ (delivery_told change.delivery ++ death_told (h.gone i)))
    ∙ ap (λ xs. xs ++ (delivery_told change.delivery ++ [])) (nobody_told change.machine.processes)
    ∙ append-nil (delivery_told change.delivery)

pub delivery_tells : (m : Machine) (pid : Pid) → (settled (delivered pid m)).told ≡ delivery_told (delivered pid m).delivery
delivery_tells m pid = change_tells (delivered pid m) (delivered_so m pid)

-- ---- the timer

no_delivery : (o : Option Delivery) → false ≡ is_some o → o ≡ None
no_delivery None e = refl
no_delivery (Some d) e = absurd (false≢true e)

a_delivery : (o : Option Delivery) → true ≡ is_some o → (d : Delivery) × (o ≡ Some d)
a_delivery None e = absurd (false≢true (sym e))
a_delivery (Some d) e = (d, refl)

module _ {W : Type 0} (held : W → Held) (old : Kernel W) (told : List What) (tells : LogTells old.log told) where
  abbrev m : Machine
  m = machine_of held old

  abbrev disarmed : Machine
  disarmed = record m { compare = None }

  abbrev due : Bool
  due = is_due old.timer old.steps

  log_stays : log_of told old.log ≡ old.log
  log_stays = λ i. record old.log { records = sym tells i }

  timed_is : (b : Bool) → due ≡ b → timed (so_far m told) ≡ timed_if b (so_far m told)
  unfolding machine_of
  timed_is b e = ap (λ c. timed_if c (so_far m told)) e

  -- it isn't due
  pub rings_not : due ≡ false → (new : Kernel W) → machine_of held new ≡ m → new.log ≡ old.log → Rings held old new told
  rings_not e new machine log = record {
    machine = machine ∙ sym (ap (λ (t : Told). t.machine) (timed_is false e));
    log = log ∙ sym log_stays ∙ sym (ap (λ (t : Told). log_of t.told old.log) (timed_is false e));
  }

  -- what it makes of them where it is due
  abbrev by_claim : Option Claim → Told
  by_claim o = record {
    machine = (settled (raised_by_timer o disarmed)).machine;
    told = with_irq_if (raised_by_timer o disarmed).delivery told;
  }

  timed_due : (o : Option Claim) → due ≡ true → m.claims TIMER_INTERRUPT ≡ o → timed (so_far m told) ≡ by_claim o
  timed_due o e claim = timed_is true e ∙ ap by_claim claim

  -- nobody has claimed its interrupt
  pub rings_unclaimed : due ≡ true → m.claims TIMER_INTERRUPT ≡ None → (new : Kernel W) → machine_of held new ≡ disarmed → new.log ≡ old.log
      → Rings held old new told
  unfolding settled
  rings_unclaimed e none new machine log = record {
    machine = machine ∙ sym (nobody_answered disarmed) ∙ sym (ap (λ (t : Told). t.machine) (timed_due None e none));
    log = log ∙ sym log_stays ∙ sym (ap (λ (t : Told). log_of t.told old.log) (timed_due None e none));
  }

  module _ (e : due ≡ true) (claim : TableClaim) (there : claims_of old.claims TIMER_INTERRUPT ≡ Some claim) (pends : Claims)
      (after : claims_of pends ≡ pend TIMER_INTERRUPT (claims_of old.claims)) (new : Kernel W) (starts : Bool)
      (delivers : Delivers held (record old { timer = None; claims = pends }) claim.pid new starts) where
    abbrev pending : Machine
    pending = machine_of held (record old { timer = None; claims = pends })

    abbrev change : Change
    change = delivered claim.pid pending

    puts : claims_of pends ≡ put_at nat_eq (claims_of old.claims) TIMER_INTERRUPT (Some (with_pending true claim))
    puts = after ∙ ap (λ o. put_at nat_eq (claims_of old.claims) TIMER_INTERRUPT (option_map (with_pending true) o)) there

    pending_is : pending ≡ record disarmed { pending = put_at nat_eq m.pending TIMER_INTERRUPT true }
    unfolding machine_of
    pending_is = pending_put held (record old { timer = None }) pends TIMER_INTERRUPT claim true there puts

    became : timed (so_far m told) ≡ record { machine = (moved change).machine; told = with_irq_if change.delivery told }
    unfolding machine_of
    became =
        timed_due (Some (claim_of claim)) e (ap (option_map claim_of) there)
        ∙ ap (λ (t : Told). record { machine = t.machine; told = with_irq_if (raised_by_timer (Some (claim_of claim)) disarmed).delivery told })
        (settled_next (delivered claim.pid (record disarmed { pending = put_at nat_eq m.pending TIMER_INTERRUPT true })))
        ∙ ap (λ (x : Machine). record { machine = (moved (delivered claim.pid x)).machine; told = with_irq_if (delivered claim.pid x).delivery told }) (sym pending_is)

    -- the machine, by where the cursor goes
    machine_rings : (cursor : ThreadId) (log : LogState) → cursor ≡ (if starts then thread_id claim.pid 1 else new.cursor)
        → machine_of held (record new { cursor = cursor; log = log }) ≡ (timed (so_far m told)).machine
    unfolding machine_of
    machine_rings cursor log goes =
        let stays : new.cursor ≡ (settled change).machine.cursor = ap (λ (x : Machine). x.cursor) delivers.tells.machine in
        let ends : cursor ≡ cursor_after change.delivery (settled change).machine.cursor =
        goes ∙ cursor_moves pending claim.pid new.cursor starts delivers.starts ∙ ap (cursor_after change.delivery) stays in
        (λ i. record (delivers.tells.machine i) { cursor = ends i }) ∙ sym (ap (λ (t : Told). t.machine) became)

    log_after : (o : Option Delivery) → change.delivery ≡ o → new.log ≡ log_with (delivery_told o) old.log
    unfolding machine_of
    log_after o q = delivers.tells.log ∙ ap (λ xs. log_with xs old.log) (delivery_tells pending claim.pid ∙ ap delivery_told q)

    told_after : (o : Option Delivery) → change.delivery ≡ o → log_of (timed (so_far m told)).told old.log ≡ log_of (with_irq_if o told) old.log
    told_after o q = ap (λ (t : Told). log_of t.told old.log) became ∙ ap (λ o. log_of (with_irq_if o told) old.log) q

    -- its interrupt is pending, and no handler starts
    pends_only : starts ≡ false → Rings held old new told
    pends_only idle =
        let none : change.delivery ≡ None = no_delivery change.delivery (sym idle ∙ delivers.starts) in
        record {
          machine = machine_rings new.cursor new.log (sym (ap (λ b. if b then thread_id claim.pid 1 else new.cursor) idle));
          log = log_after None none ∙ told_nothing old.log ∙ sym log_stays ∙ sym (told_after None none);
        }

    -- the handler starts, and its record goes to its place
    starts_handler : starts ≡ true → (cursor : ThreadId) → cursor ≡ thread_id claim.pid 1 → (log : LogState)
        → ((before : List What) (k : ℕ) → LogTells new.log (before ++ Irq claim.pid k ∷ []) → log ≡ log_of (with_irq (record { pid = claim.pid; number = k }) before) new.log)
        → Rings held old (record new { cursor = cursor; log = log }) told
    starts_handler running cursor goes log placed =
        let delivery : (d : Delivery) × (change.delivery ≡ Some d) = a_delivery change.delivery (sym running ∙ delivers.starts) in
        let n : ℕ = delivery.0.number in
        let logged : new.log ≡ log_with (Irq delivery.0.pid n ∷ []) old.log = log_after (Some delivery.0) delivery.1 in
        let its : claim.pid ≡ delivery.0.pid = sym (delivery_pid pending claim.pid delivery.0 delivery.1) in
        let last : LogTells (log_with (Irq delivery.0.pid n ∷ []) old.log) (told ++ Irq claim.pid n ∷ []) =
        ap (λ xs. xs ++ record_of old.log.step (Irq delivery.0.pid n) ∷ []) tells
        ∙ sym (map-append (record_of old.log.step) told (Irq delivery.0.pid n ∷ []))
        ∙ ap (λ p. map (record_of old.log.step) (told ++ Irq p n ∷ [])) (sym its) in
        record {
          machine = machine_rings cursor log (goes ∙ sym (ap (λ b. if b then thread_id claim.pid 1 else new.cursor) running));
          log =
              placed told n (subst (λ (l : LogState). LogTells l (told ++ Irq claim.pid n ∷ [])) (sym logged) last)
              ∙ (λ i. log_of (with_irq (record { pid = its i; number = n }) told) (logged i))
              ∙ sym (told_after (Some delivery.0) delivery.1);
        }

  -- the process that the table answers has claimed it
  module _ (e : due ≡ true) (pid : Pid) (answers : Some pid ≡ option_map (λ (c : TableClaim). c.pid) (claims_of old.claims TIMER_INTERRUPT)) (pends : Claims)
      (after : claims_of pends ≡ pend TIMER_INTERRUPT (claims_of old.claims)) (timer : Option ℕ) (off : timer ≡ None) (new : Kernel W) (answer : Bool)
      (delivers : Delivers held (record old { timer = timer; claims = pends }) pid new answer) where
    of_claim : (claim : TableClaim) × (claims_of old.claims TIMER_INTERRUPT ≡ Some claim) × (claim.pid ≡ pid)
    of_claim = claim_found (claims_of old.claims TIMER_INTERRUPT) pid answers

    for_claim : Delivers held (record old { timer = None; claims = pends }) of_claim.0.pid new answer
    for_claim =
        subst (λ p. Delivers held (record old { timer = None; claims = pends }) p new answer) (sym of_claim.2)
        (subst (λ t. Delivers held (record old { timer = t; claims = pends }) pid new answer) off delivers)

    pub ring_pends : answer ≡ false → Rings held old new told
    ring_pends idle = pends_only e of_claim.0 of_claim.1 pends after new answer for_claim idle

    pub ring_starts : answer ≡ true → (cursor : ThreadId) → cursor ≡ thread_id pid 1 → (log : LogState)
        → ((before : List What) (k : ℕ) → LogTells new.log (before ++ Irq pid k ∷ []) → log ≡ log_of (with_irq (record { pid = pid; number = k }) before) new.log)
        → Rings held old (record new { cursor = cursor; log = log }) told
    ring_starts running cursor goes log placed =
        starts_handler e of_claim.0 of_claim.1 pends after new answer for_claim running cursor (goes ∙ ap (λ p. thread_id p 1) (sym of_claim.2)) log
        (subst (λ p. (before : List What) (k : ℕ) → LogTells new.log (before ++ Irq p k ∷ []) → log ≡ log_of (with_irq (record { pid = p; number = k }) before) new.log)
        (sym of_claim.2) placed)

-- its compare value, where it isn't due, and where it is
pub timer_stays : {W : Type 0} (held : W → Held) (k : Kernel W) (timer : Option ℕ) → timer ≡ k.timer → machine_of held (record k { timer = timer }) ≡ machine_of held k
unfolding machine_of
timer_stays held k timer e = λ i. record (machine_of held k) { compare = e i }

pub timer_off : {W : Type 0} (held : W → Held) (k : Kernel W) (timer : Option ℕ) → timer ≡ None
    → machine_of held (record k { timer = timer }) ≡ record (machine_of held k) { compare = None }
unfolding machine_of
timer_off held k timer e = λ i. record (machine_of held k) { compare = e i }

-- the interrupt thread of who has claimed it is a thread of a process that exists
pub handler_valid : {W : Type 0} (held : W → Held) (k : Kernel W) (pid : Pid) → Some pid ≡ option_map (λ (c : TableClaim). c.pid) (claims_of k.claims TIMER_INTERRUPT)
    → IsTimersClaimThere (machine_of held k) → is_thread_id (processes k.mem) (thread_id pid 1) ≡ true
unfolding machine_of
handler_valid held k pid answers there =
    let claim = claim_found (claims_of k.claims TIMER_INTERRUPT) pid answers in
    ap (λ b. b && true) (ap (λ (p : Pid). is_pid (processes k.mem) p.0) (sym claim.2) ∙ there (claim_of claim.0) (ap (option_map claim_of) claim.1))

-- ---- the log, with a record more

-- all records of a log are of its step
abbrev pub AreOfItsStep : LogState → Type 0
AreOfItsStep log = All (λ (rec : Rec). rec.step ≡ log.step) log.records

-- records that are given the number of a step are of that step
pub all_of_step : (step : ℕ) (told : List What) → All (λ (rec : Rec). rec.step ≡ step) (map (record_of step) told)
all_of_step step told = All-map (λ (rec : Rec). rec.step ≡ step) (record_of step) told (λ k d low. refl)

-- a delivery tells one more at most
module _ {W : Type 0} (held : W → Held) (old : LogState) (pending : Machine) (pid : Pid) (new : LogState) (tells : new ≡ log_with (settled (delivered pid pending)).told old) where
  is_with : new ≡ log_with (delivery_told (delivered pid pending).delivery) old
  is_with = tells ∙ ap (λ xs. log_with xs old) (delivery_tells pending pid)

  one_told : (o : Option Delivery) → length (delivery_told o) ≤ 1
  one_told None = omega arith
  one_told (Some d) = omega arith

  pub few_told : length new.records ≤ length old.records + 1
  few_told =
      let long : length new.records ≡ length old.records + length (delivery_told (delivered pid pending).delivery) =
      told_length old new (delivery_told (delivered pid pending).delivery) is_with in
      let one : length (delivery_told (delivered pid pending).delivery) ≤ 1 = one_told (delivered pid pending).delivery in
      omega (arith, long, one)

  pub same_room : new.room ≡ old.room
  same_room = ap (λ (l : LogState). l.room) tells

  told_step : (o : Option Delivery) → AreOfItsStep old → AreOfItsStep (log_with (delivery_told o) old)
  told_step o h = All-append (λ (rec : Rec). rec.step ≡ old.step) old.records (map (record_of old.step) (delivery_told o)) h (all_of_step old.step (delivery_told o))

  pub step_told : AreOfItsStep old → AreOfItsStep new
  step_told h = subst AreOfItsStep (sym is_with) (told_step (delivered pid pending).delivery h)
