-- The wait of a thread for an answer ends with a reply to it, or with its process.
use Rattle.std.proofs.Common.{◌≡◌, ℕ, zero, suc, ◌+◌, ◌<◌, ◌⊎◌, inl, inr, Bool, true, false, List, [], ◌∷◌, ◌++◌, map, length, Option, Some, None, is_some, refl, sym, ap, ◌∙◌, subst, arith}
use Rattle.std.specs.Prelude.{◌==◌, if◌then◌else◌, nat_eq, slice_index_or, unwrap_or}
use Rattle.std.specs.List.{Contains}
use Rattle.std.specs.Option.{option_map, option_map_or}
use Rattle.std.proofs.lemmas.Bool.{eqb-true, false≢true}
use Rattle.std.proofs.lemmas.List.Elements.{Contains-append_left, Contains-append_right, Contains-push}
use Rattle.std.proofs.lemmas.Option.{same_Some}
use Rattle.xk_base.specs.declared.ids.Number.{Number}
use Rattle.xk_base.specs.declared.ids.Pid.{Pid}
use Rattle.xk_base.specs.declared.ids.ThreadId.{ThreadId}
use Rattle.xk_base.specs.declared.limits.TheConstants.{TIMER_INTERRUPT}
use Rattle.xk_base.specs.declared.records.Rec.{Rec}
use Rattle.xk_base.specs.declared.records.What.{What}
use Rattle.xk_base.specs.declared.records.What.TheVariants.{Call, End, Fault, Gone, Reply}
use Rattle.xk_base.specs.Calls.Registers.{arguments_of, reg_at}
use Rattle.xk_base.specs.Tables.Circle.{is_thread_id, listed_ids, same_thread}
use Rattle.xk_base.specs.Tables.Counting.{put_at}
use Rattle.xk_base.proofs.CircleLemmas.{listed_ids-contains}
use Rattle.call_effects.proofs.FootprintLemmas.{calls_leave_the_rest}
use Rattle.machine_laws.proofs.Threading.ThreadAnswerLemmas.{ready_thread}
use Rattle.machine_laws.proofs.Threading.ThreadPutLemmas.{alike}
use Rattle.machine_laws.proofs.Threading.ThreadStepLemmas.{actor_ready, turned_to}
use Rattle.machine_model.specs.Calling.Calls.{call}
use Rattle.machine_model.specs.Ending.Closing.{closed, senders_held_gone, senders_queued_gone, servers_closed}
use Rattle.machine_model.specs.Ending.Ends.{death, end_with_last_thread, forgotten, handler_ended, has_threads, joiners_answered, thread_ended}
use Rattle.machine_model.specs.Hart.Instructions.{CallsKernel, Executed, Next, Stores, StoresToConsole, StoresToTimer, Traps}
use Rattle.machine_model.specs.Runs.Matched.{HasHandlerThread, Matched, is_waiting_for, waits_for}
use Rattle.machine_model.specs.Runs.Moments.{Cause, ByStep, caused}
use Rattle.machine_model.specs.State.Changes.{Change, Outcome, Refused, Retried, Served, Told, call_settled, death_told, delivery_told, replies, settled, with_refusal}
use Rattle.machine_model.specs.State.Machine.{Claim, Idle, Joining, Machine, Ready, Receiving, Thread, ThreadState, Waiting}
use Rattle.machine_model.specs.State.Order.{actor, is_ready, turn}
use Rattle.machine_model.specs.State.Threads.{Answers, both_answers, change_thread, handler_thread, passed, put_thread, thread_id, with_answer, with_registers, with_state}
use Rattle.machine_model.specs.State.Views.{stored, timer_set}
use Rattle.machine_model.specs.Stepping.Interrupts.{delivered, delivered_lowest, handler_started, is_free_for_interrupt, lowest_pending, pended}
use Rattle.machine_model.specs.Stepping.Reservations.{unreserved}
use Rattle.machine_model.specs.Stepping.Step.{Recorded, acted, counted, executed, record_of}
use Rattle.machine_model.specs.Stepping.Timer.{is_due, raised_by_timer, timed, timed_if}
use Rattle.machine_laws.specs.Records.{records_by}
use Rattle.machine_laws.proofs.Stepping.CauseCaseLemmas.{ActCase, CauseCase, EndsHandler, EndsThread, Instructs, Kills, Raises, Rests, Steps, case_of}
use Rattle.transcript_laws.specs.Answering.{awaits_reply, is_waiting}
use Rattle.transcript_laws.specs.Serving.{DiesIn, told_by}
use Rattle.transcript_laws.proofs.Following.StepLemmas.{numbered}
use Rattle.transcript_laws.proofs.Serving.ServedStepLemmas.{timed_tells}
use Rattle.lifetime_laws.proofs.Answering.FreedCallLemmas.{Leaves, call_leaves}

-- ---- threads that wait

for_one_waits : (number : Number) (s : ThreadState) → is_waiting_for number s ≡ true → awaits_reply s ≡ true
for_one_waits number Ready e = absurd (false≢true e)
for_one_waits number (Receiving serial) e = refl
for_one_waits number (Waiting other) e = refl
for_one_waits number (Joining tid) e = refl
for_one_waits number Idle e = absurd (false≢true e)

waits_waiting : (m : Machine) (id : ThreadId) (number : Number) → waits_for m.threads id number ≡ true → is_waiting (m.threads id) ≡ true
waits_waiting m id number e = go (m.threads id) e
  where
    go : (o : Option Thread) → option_map_or (λ (t : Thread). is_waiting_for number t.state) o false ≡ true → is_waiting o ≡ true
    go None e = absurd (false≢true e)
    go (Some t) e = for_one_waits number t.state e

-- one that is Ready or Idle doesn't
idle_not_waiting : (t : Thread) → (t.state ≡ Ready) ⊎ (t.state ≡ Idle) → awaits_reply t.state ≡ false
idle_not_waiting t (inl e) = ap awaits_reply e
idle_not_waiting t (inr e) = ap awaits_reply e

ready_not_waiting : (s : ThreadState) → is_ready s ≡ true → awaits_reply s ≡ false
ready_not_waiting Ready e = refl
ready_not_waiting (Receiving serial) e = absurd (false≢true e)
ready_not_waiting (Waiting number) e = absurd (false≢true e)
ready_not_waiting (Joining tid) e = absurd (false≢true e)
ready_not_waiting Idle e = absurd (false≢true e)

-- without an answer a thread stays
unanswered : (o : Option Thread) → option_map (with_answer None) o ≡ o
unanswered None = refl
unanswered (Some t) = refl

-- the thread that is answered has its record
answer_told : (change : Change) (who : ThreadId) (words : List ℕ) → is_thread_id change.machine.processes who ≡ true
    → change.answers who ≡ Some words → Contains (settled change).told (Reply who words)
unfolding settled
answer_told change who words known e =
    Contains-append_left (replies change.machine.processes change.answers) (delivery_told change.delivery ++ death_told change.gone) (Reply who words)
    (listed at.0 ids at.1 at.2)
  where
    reply : ThreadId → What
    reply id = Reply id (unwrap_or (change.answers id) [])

    ids : List ThreadId
    ids = listed_ids change.machine.processes (λ id. is_some (change.answers id))

    at : Contains ids who
    at = listed_ids-contains change.machine.processes (λ id. is_some (change.answers id)) who known (ap is_some e)

    listed : (k : ℕ) (xs : List ThreadId) → k < length xs → slice_index_or xs k who ≡ who → Contains (map reply xs) (Reply who words)
    listed k [] low is = absurd (omega arith)
    listed zero (x ∷ xs) low is = (0, omega arith, ap reply is ∙ ap (λ o. Reply who (unwrap_or o [])) e)
    listed (suc k) (x ∷ xs) low is = Contains-append_right (reply x ∷ []) (map reply xs) (Reply who words) (listed k xs (omega arith) is)

module _ (m : Machine) (h : Matched m) (id : ThreadId) (waits : is_waiting (m.threads id) ≡ true) where
  -- the thread is as it was, or a reply to it or the death of its process is told
  pub data Kept (next : Machine) (told : List What) : Type 0 where
    IsSame : next.threads id ≡ m.threads id → Kept next told
    IsReplied : (words : List ℕ) → Contains told (Reply id words) → Kept next told
    IsGone : Contains told (Gone id.pid) → Kept next told

  known : is_thread_id m.processes id ≡ true
  known = go (m.threads id) refl waits
    where
      go : (o : Option Thread) → m.threads id ≡ o → is_waiting o ≡ true → is_thread_id m.processes id ≡ true
      go None e w = absurd (false≢true w)
      go (Some t) e w = h.body.ids.known id t e

  -- it is no interrupt thread
  no_handler : (pid : Pid) → same_thread id (thread_id pid 1) ≡ false
  no_handler pid = go (same_thread id (thread_id pid 1)) refl
    where
      there : (o : Option Thread) → m.threads id ≡ o → is_waiting o ≡ true → id ≡ thread_id pid 1 → ⊥
      there None e w is = false≢true w
      there (Some t) e w is = by_handler (h.body.threads.handler pid (ap (λ (x : ThreadId). (m.process x.pid.0).alive) (sym is) ∙ h.body.ids.living id t e))
        where
          by_handler : HasHandlerThread m.threads pid → ⊥
          by_handler (u, at, state) =
              let same : t ≡ u = same_Some t u (sym e ∙ (ap m.threads is ∙ at)) in
              false≢true (sym (ap (λ (x : Thread). awaits_reply x.state) same ∙ idle_not_waiting u state) ∙ w)

      go : (b : Bool) → same_thread id (thread_id pid 1) ≡ b → b ≡ false
      go true e = absurd (there (m.threads id) refl waits (alike id (thread_id pid 1) e))
      go false e = refl

  -- ---- a change

  gone_told : (change : Change) → change.gone ≡ Some id.pid → Contains (settled change).told (Gone id.pid)
  unfolding settled
  gone_told change e =
      Contains-append_right (replies change.machine.processes change.answers) (delivery_told change.delivery ++ death_told change.gone) (Gone id.pid)
      (Contains-append_right (delivery_told change.delivery) (death_told change.gone) (Gone id.pid)
      (subst (λ o. Contains (death_told o) (Gone id.pid)) (sym e) (Contains-push [] (Gone id.pid))))

  change_keeps : (change : Change) → change.machine.processes ≡ m.processes
      → (change.machine.threads id ≡ m.threads id) ⊎ (change.gone ≡ Some id.pid) → Kept (settled change).machine (settled change).told
  unfolding settled
  change_keeps change count (inr gone) = IsGone (gone_told change gone)
  change_keeps change count (inl same) = go (change.answers id) refl
    where
      go : (o : Option (List ℕ)) → change.answers id ≡ o → Kept (settled change).machine (settled change).told
      go None e = IsSame (ap (λ a. option_map (with_answer a) (change.machine.threads id)) e ∙ (unanswered (change.machine.threads id) ∙ same))
      go (Some words) e = IsReplied words (answer_told change id words (subst (λ k. is_thread_id k id ≡ true) (sym count) known) e)

  with_more : (what : What) (next : Machine) (told : List What) → Kept next told → Kept next (what ∷ told)
  with_more what next told (IsSame e) = IsSame e
  with_more what next told (IsReplied words at) = IsReplied words (Contains-append_right (what ∷ []) told (Reply id words) at)
  with_more what next told (IsGone at) = IsGone (Contains-append_right (what ∷ []) told (Gone id.pid) at)

  -- ---- deaths and interrupts

  death_keeps : (pid : Pid) (x : Machine) (answers : Answers) → x.threads id ≡ m.threads id → x.processes ≡ m.processes
      → Kept (settled (record (death pid x) { answers = answers })).machine (settled (record (death pid x) { answers = answers })).told
  unfolding death servers_closed closed senders_queued_gone senders_held_gone forgotten
  death_keeps pid x answers same count = change_keeps (record (death pid x) { answers = answers }) count (leaves (id.pid.0 == pid.0) refl)
    where
      leaves : (b : Bool) → (id.pid.0 == pid.0) ≡ b → ((if b then None else x.threads id) ≡ m.threads id) ⊎ (Some pid ≡ Some id.pid)
      leaves true e = inr (λ i. Some (record { 0 = sym (eqb-true id.pid.0 pid.0 e) i }))
      leaves false e = inl same

  started_keeps : (x : Machine) (pid : Pid) (k : ℕ) (o : Option Claim) (cursor : ThreadId) → x.threads id ≡ m.threads id
      → (settled (record (handler_started x pid k o) { machine = record (handler_started x pid k o).machine { cursor = cursor } })).machine.threads id ≡ m.threads id
  unfolding settled
  started_keeps x pid k None cursor same = unanswered (x.threads id) ∙ same
  started_keeps x pid k (Some claim) cursor same =
      unanswered _
      ∙ (ap (λ b. if b then Some (handler_thread k claim) else x.threads id) (no_handler pid) ∙ same)

  lowest_keeps : (x : Machine) (pid : Pid) (o : Option ℕ) (cursor : ThreadId) → x.threads id ≡ m.threads id
      → (settled (record (delivered_lowest x pid o) { machine = record (delivered_lowest x pid o).machine { cursor = cursor } })).machine.threads id ≡ m.threads id
  lowest_keeps x pid None cursor same = started_keeps x pid 0 None cursor same
  lowest_keeps x pid (Some k) cursor same = started_keeps x pid k (x.claims k) cursor same

  delivered_keeps : (x : Machine) (pid : Pid) (cursor : ThreadId) → x.threads id ≡ m.threads id
      → (settled (record (delivered pid x) { machine = record (delivered pid x).machine { cursor = cursor } })).machine.threads id ≡ m.threads id
  unfolding delivered
  delivered_keeps x pid cursor same = lowest_keeps x pid (if is_free_for_interrupt x pid then lowest_pending x pid else None) cursor same

  pended_keeps : (k : ℕ) (claim : Claim) (x : Machine) → x.threads id ≡ m.threads id
      → (settled (pended k claim x)).machine.threads id ≡ m.threads id
  pended_keeps k claim x same = delivered_keeps (record x { pending = put_at nat_eq x.pending k true }) claim.pid _ same

  timed_keeps : (done : Told) → Kept done.machine done.told → Kept (timed done).machine (timed done).told
  unfolding settled
  timed_keeps done (IsReplied words at) = IsReplied words (timed_tells ByStep (Reply id words) done at)
  timed_keeps done (IsGone at) = IsGone (timed_tells ByStep (Gone id.pid) done at)
  timed_keeps done (IsSame same) = IsSame (go (is_due done.machine.compare done.machine.steps))
    where
      by_claim : (o : Option Claim)
          → (settled (raised_by_timer o (record done.machine { compare = None }))).machine.threads id ≡ m.threads id
      by_claim None = unanswered (done.machine.threads id) ∙ same
      by_claim (Some claim) = pended_keeps TIMER_INTERRUPT claim (record done.machine { compare = None }) same

      go : (b : Bool) → (timed_if b done).machine.threads id ≡ m.threads id
      go false = same
      go true = by_claim (done.machine.claims TIMER_INTERRUPT)

  -- ---- a step

  module _ (who : ThreadId) (acts : actor m ≡ Some who) where
    abbrev n : Machine
    n = turned_to who m

    apart : same_thread id who ≡ false
    apart = go (same_thread id who) refl
      where
        go : (b : Bool) → same_thread id who ≡ b → b ≡ false
        go true e =
            let r = ready_thread m who (actor_ready m who acts) in
            absurd (false≢true (sym (ap (λ (x : ThreadId). is_waiting (m.threads x)) (alike id who e)
            ∙ (ap is_waiting r.there ∙ ready_not_waiting r.thread.state (ap is_ready r.ready))) ∙ waits))
        go false e = refl

    -- the caller alone changes
    own_change : (change : Thread → Thread) (f : ThreadId → Option Thread) → f id ≡ m.threads id
        → (if same_thread id who then option_map change (f who) else f id) ≡ m.threads id
    own_change change f same = ap (λ b. if b then option_map change (f who) else f id) apart ∙ same

    call_keeps : (w : List ℕ) → Kept (call_settled n (call n w)).machine (call_settled n (call n w)).told
    unfolding call_settled turn
    call_keeps w = go (call n w) refl
      where
        go : (o : Outcome) → call n w ≡ o → Kept (call_settled n o).machine (call_settled n o).told
        go (Refused error) e = IsSame (own_change (with_refusal error) m.threads refl)
        go Retried e = IsSame refl
        go (Served change) e =
            change_keeps (record change { machine = change_thread who passed change.machine })
            (calls_leave_the_rest n w change e).processes (by_leaves (call_leaves n w id waits apart change e))
          where
            by_leaves : Leaves n w id waits apart change
                → ((change_thread who passed change.machine).threads id ≡ m.threads id) ⊎ (change.gone ≡ Some id.pid)
            by_leaves (inl same) = inl (own_change passed change.machine.threads same)
            by_leaves (inr gone) = inr gone

    executed_keeps : (t : Thread) (x : Executed) → Kept (executed n t x).machine (executed n t x).told
    unfolding stored timer_set
    executed_keeps t (Next regs pc) = IsSame (own_change (with_registers regs pc) m.threads refl)
    executed_keeps t (Stores address width value regs pc) = IsSame (own_change (with_registers regs pc) m.threads refl)
    executed_keeps t (StoresToConsole offset value regs pc) = IsSame (own_change (with_registers regs pc) m.threads refl)
    executed_keeps t (StoresToTimer offset width value regs pc) = IsSame (own_change (with_registers regs pc) m.threads refl)
    executed_keeps t CallsKernel = with_more (Call who (arguments_of t.regs)) _ _ (call_keeps (arguments_of t.regs))
    executed_keeps t (Traps cause value) = with_more (Fault who cause value) _ _ (death_keeps who.pid n (death who.pid n).answers refl refl)

    without : (put_thread who None n).threads id ≡ m.threads id
    without = ap (λ b. if b then None else m.threads id) apart

    thread_end_keeps : (a0 : ℕ) → Kept (settled (thread_ended who a0 n)).machine (settled (thread_ended who a0 n)).told
    unfolding thread_ended
    thread_end_keeps a0 = go (has_threads (put_thread who None n) who.pid)
      where
        left : Bool → Change
        left b = record (end_with_last_thread b who.pid (put_thread who None n)) {
          answers = both_answers (joiners_answered n who a0) (end_with_last_thread b who.pid (put_thread who None n)).answers;
        }

        go : (b : Bool) → Kept (settled (left b)).machine (settled (left b)).told
        go true = change_keeps (left true) refl (inl without)
        go false = death_keeps who.pid (put_thread who None n) (both_answers (joiners_answered n who a0) (death who.pid (put_thread who None n)).answers) without refl

    handler_end_keeps : Kept (settled (handler_ended who.pid n)).machine (settled (handler_ended who.pid n)).told
    unfolding handler_ended
    handler_end_keeps =
        IsSame (delivered_keeps (change_thread (thread_id who.pid 1) (with_state Idle) n) who.pid
        (delivered who.pid (change_thread (thread_id who.pid 1) (with_state Idle) n)).machine.cursor
        (ap (λ b. if b then option_map (with_state Idle) (m.threads (thread_id who.pid 1)) else m.threads id) (no_handler who.pid)))

    act_keeps : (t : Thread) (done : Told) → ActCase m who t done → Kept done.machine done.told
    act_keeps t _ (Instructs x e) = executed_keeps t x
    act_keeps t _ (EndsThread e) = with_more (End who) _ _ (thread_end_keeps (reg_at t.regs 10))
    act_keeps t _ (EndsHandler e) = with_more (End who) _ _ handler_end_keeps

    counted_keeps : (o : Option Thread) (done : Told) → Kept done.machine done.told
        → Kept (counted n o done).machine (counted n o done).told
    counted_keeps o done (IsSame e) = IsSame e
    counted_keeps o done (IsReplied words at) = IsReplied words at
    counted_keeps o done (IsGone at) = IsGone at

  -- ---- any cause

  recorded_keeps : (k : ℕ) (done : Told) → Kept done.machine done.told
      → Kept done.machine (map (λ (rec : Rec). rec.what) (map (record_of k) done.told))
  recorded_keeps k done kept = subst (Kept done.machine) (sym (numbered k done.told)) kept

  pub cause_keeps : (cause : Cause) → Kept (caused cause m) (told_by cause m)
  cause_keeps cause = by cause (record { machine = caused cause m; records = records_by cause m }) (case_of cause m)
    where
      by : (cause : Cause) (next : Recorded) → CauseCase m cause next → Kept next.machine (map (λ (rec : Rec). rec.what) next.records)
      by _ _ (Rests cause cursor reserved rest) = IsSame refl
      by _ _ (Steps who t acts there case) =
          let done : Told = acted (turned_to who m) t in
          let here : Told = counted (turned_to who m) (Some t) done in
          recorded_keeps (m.steps + 1) (timed here) (timed_keeps here (counted_keeps who acts (Some t) done (act_keeps who acts t done case)))
      by _ _ (Raises k claim e) = IsSame (pended_keeps k claim (unreserved m) refl)
      by _ _ (Kills pid e) =
          let change : Change = death pid (unreserved m) in
          recorded_keeps m.steps (settled change) (death_keeps pid (unreserved m) change.answers refl refl)

-- what ends its wait for an answer
pub freed_is_told : (cause : Cause) (m : Machine) → Matched m → (id : ThreadId) (number : Number) → waits_for m.threads id number ≡ true
    → waits_for (caused cause m).threads id number ≡ false
    → ((words : List ℕ) × Contains (told_by cause m) (Reply id words)) ⊎ DiesIn (told_by cause m) id.pid
freed_is_told cause m h id number waits freed = go (cause_keeps m h id (waits_waiting m id number waits) cause)
  where
    go : Kept m h id (waits_waiting m id number waits) (caused cause m) (told_by cause m)
        → ((words : List ℕ) × Contains (told_by cause m) (Reply id words)) ⊎ DiesIn (told_by cause m) id.pid
    go (IsSame e) =
        absurd (false≢true (sym freed
        ∙ (ap (λ o. option_map_or (λ (t : Thread). is_waiting_for number t.state) o false) e ∙ waits)))
    go (IsReplied words at) = inl (words, at)
    go (IsGone at) = inr at
