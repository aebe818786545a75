-- The thread that receives the oldest queued message is told it, in a record of its step.
use Rattle.std.proofs.Common.{◌≡◌, ℕ, zero, suc, ◌+◌, ◌<◌, true, List, [], ◌∷◌, ◌++◌, map, length, Option, Some, None, is_some, refl, sym, ap, ◌∙◌, subst, arith}
use Rattle.std.specs.Prelude.{if◌then◌else◌, slice_get, slice_index_or, unwrap_or}
use Rattle.std.specs.List.{Contains}
use Rattle.std.specs.Option.{option_and_then}
use Rattle.std.proofs.lemmas.List.Elements.{Contains-append_left, Contains-append_right}
use Rattle.std.proofs.lemmas.Option.{none-some, same_Some}
use Rattle.xk_base.specs.declared.ids.Sid.{Sid}
use Rattle.xk_base.specs.declared.ids.ThreadId.{ThreadId}
use Rattle.xk_base.specs.declared.messages.Message.{Message}
use Rattle.xk_base.specs.declared.records.Rec.{Rec}
use Rattle.xk_base.specs.declared.records.What.{What}
use Rattle.xk_base.specs.declared.records.What.TheVariants.{Call, Reply}
use Rattle.syscall_codec.specs.CallWords.{call_number}
use Rattle.xk_base.specs.Calls.Registers.{arguments_of}
use Rattle.syscall_codec.specs.ReplyWords.{message_words}
use Rattle.xk_base.specs.Tables.Circle.{is_thread_id, listed_ids}
use Rattle.xk_base.proofs.CircleLemmas.{listed_ids-contains}
use Rattle.machine_model.specs.Calling.Calls.{call}
use Rattle.machine_model.specs.Calling.ServerCalls.{named_server, named_sid}
use Rattle.machine_model.specs.Hart.Instructions.{CallsKernel, Executed, Next, Stores, StoresToConsole, StoresToTimer, Traps}
use Rattle.machine_model.specs.Messaging.Messages.{oldest}
use Rattle.machine_model.specs.Messaging.ReceiveCalls.{oldest_queued}
use Rattle.machine_model.specs.Runs.Matched.{Matched}
use Rattle.machine_model.specs.Runs.Moments.{ByStep, Cause}
use Rattle.machine_model.specs.State.Changes.{Change, Served, Told, call_settled, death_told, delivery_told, replies, settled}
use Rattle.machine_model.specs.State.Machine.{Machine, Server, Thread}
use Rattle.machine_model.specs.State.Order.{actor}
use Rattle.machine_model.specs.State.Servers.{with_sid}
use Rattle.machine_model.specs.State.Threads.{answer_to, change_thread, passed}
use Rattle.machine_model.specs.Stepping.Acts.{call_by, executes, is_call_served, words_if_call}
use Rattle.machine_model.specs.Stepping.Step.{Recorded, acted, counted, ends_handler, executed, performed}
use Rattle.machine_model.specs.Stepping.Timer.{timed}
use Rattle.machine_laws.proofs.Stepping.StepKindLemmas.{Executes, HandlerEnds, StepKind, ThreadEnds, acted_as_executed, kind_of}
use Rattle.machine_laws.proofs.Threading.ThreadAnswerLemmas.{same_thread-self}
use Rattle.machine_laws.proofs.Threading.ThreadStepLemmas.{turned_to}
use Rattle.call_effects.specs.Deciding.{decide, rows, unhandled_row}
use Rattle.call_effects.specs.Rows.MessageRows.{taken_or}
use Rattle.call_effects.specs.Verdicts.{Does, Plan, RefusedIf, Refuses, RetriedIf, Row, Verdict}
use Rattle.call_effects.proofs.FootprintLemmas.{calls_leave_the_rest}
use Rattle.call_effects.proofs.MeantLemmas.{calls_meant}
use Rattle.machine_model.proofs.Calling.TableLemmas.{OfRows, ◌also◌, of_row}
use Rattle.call_effects.proofs.ServedLemmas.{OfPlan, OfServed, done, of_plan}
use Rattle.machine_laws.proofs.Stepping.CauseCaseLemmas.{step_is}
use Rattle.transcript_laws.specs.Serving.{IsReceiver, is_receive, told_by}
use Rattle.transcript_laws.proofs.AtServers.GivenUpLemmas.{of_served, served_turned}
use Rattle.transcript_laws.proofs.Following.StepLemmas.{numbered}
use Rattle.transcript_laws.proofs.Serving.ServedStepLemmas.{timed_tells}

-- ---- what a receive answers

-- what holds of every plan holds of a verdict
of_all : (P : Plan → Type 0) → ((plan : Plan) → P plan) → (verdict : Verdict) → OfPlan P verdict
of_all P all (Refuses error) = tt
of_all P all (Does plan) = all plan
of_all P all (RefusedIf refusals verdict) = λ none. of_all P all verdict
of_all P all (RetriedIf retried verdict) = λ again. of_all P all verdict

module _ (m : Machine) (w : List ℕ) where
  -- the caller is answered the oldest message that is queued at the server that it names
  abbrev GetsOldest : Change → Type 0
  GetsOldest change =
      (x : Message) → oldest_queued m (named_server m (named_sid w)) ≡ Some x → change.answers m.cursor ≡ Some (message_words x)

  abbrev OfCall : ℕ → Row → Type 0
  OfCall k row = OfPlan (λ plan. GetsOldest (done m plan)) (row m w)

  caller_gets : (words : List ℕ) → answer_to m.cursor words m.cursor ≡ Some words
  caller_gets words = ap (λ b. if b then Some words else None) (same_thread-self m.cursor)

  taken_gets : (verdict : Verdict)
      → OfPlan (λ plan. GetsOldest (done m plan)) (taken_or m (named_server m (named_sid w)) (oldest_queued m (named_server m (named_sid w))) verdict)
  taken_gets verdict = go (oldest_queued m (named_server m (named_sid w))) refl
    where
      go : (o : Option Message) → oldest_queued m (named_server m (named_sid w)) ≡ o
          → OfPlan (λ plan. GetsOldest (done m plan)) (taken_or m (named_server m (named_sid w)) o verdict)
      go None e = of_all (λ plan. GetsOldest (done m plan)) (λ plan x f. absurd (none-some x (sym e ∙ f))) verdict
      go (Some y) e = λ x f. caller_gets (message_words y) ∙ ap (λ z. Some (message_words z)) (same_Some y x (sym e ∙ f))

  each : OfRows is_receive OfCall rows
  each =
      (λ none. taken_gets _)
      also (λ none. taken_gets _)
      also tt

  received_gets : is_receive (call_number w) ≡ true → OfServed GetsOldest (call m w)
  unfolding decide
  received_gets is =
      subst (OfServed GetsOldest) (sym (calls_meant m w))
      (of_plan GetsOldest m (decide m w) (λ none. of_row is_receive OfCall (call_number w) is unhandled_row tt rows each))

-- ---- what is told of a change

-- the thread that is answered has its record
answer_told : (change : Change) (who : ThreadId) (words : List ℕ) → is_thread_id change.machine.processes who ≡ true
    → change.answers who ≡ Some words → Contains (settled change).told (Reply who words)
unfolding settled
answer_told change who words known e =
    Contains-append_left (replies change.machine.processes change.answers) (delivery_told change.delivery ++ death_told change.gone) (Reply who words)
    (listed at.0 ids at.1 at.2)
  where
    reply : ThreadId → What
    reply id = Reply id (unwrap_or (change.answers id) [])

    ids : List ThreadId
    ids = listed_ids change.machine.processes (λ id. is_some (change.answers id))

    at : Contains ids who
    at = listed_ids-contains change.machine.processes (λ id. is_some (change.answers id)) who known (ap is_some e)

    listed : (k : ℕ) (xs : List ThreadId) → k < length xs → slice_index_or xs k who ≡ who → Contains (map reply xs) (Reply who words)
    listed k [] low is = absurd (omega arith)
    listed zero (x ∷ xs) low is = (0, omega arith, ap reply is ∙ ap (λ o. Reply who (unwrap_or o [])) e)
    listed (suc k) (x ∷ xs) low is = Contains-append_right (reply x ∷ []) (map reply xs) (Reply who words) (listed k xs (omega arith) is)

-- ---- the step

named_turned : (m : Machine) (who : ThreadId) (sid : Sid) → named_server (turned_to who m) sid ≡ named_server m sid
unfolding with_sid
named_turned m who sid = refl

module _ (m : Machine) (h : Matched m) (who : ThreadId) (w : List ℕ) (acts : actor m ≡ Some who) (calls : call_by m who ≡ Some w)
    (went : is_call_served m who w ≡ true) (is : is_receive (call_number w) ≡ true) (x : Message)
    (first : oldest_queued m (named_server m (named_sid w)) ≡ Some x) where
  abbrev n : Machine
  n = turned_to who m

  -- what the call tells
  settled_tells : is_thread_id m.processes who ≡ true → Contains (call_settled n (call n w)).told (Reply who (message_words x))
  unfolding call_settled
  settled_tells known =
      subst (λ o. Contains (call_settled n o).told (Reply who (message_words x))) (sym served.1)
      (answer_told (record served.0 { machine = change_thread who passed served.0.machine }) who (message_words x)
      (subst (λ k. is_thread_id k who ≡ true) (sym (calls_leave_the_rest n w served.0 served.1).processes) known)
      (served.2 x (ap (oldest_queued m) (named_turned m who (named_sid w)) ∙ first)))
    where
      served : (change : Change) × (call n w ≡ Served change) × GetsOldest n w change
      served = of_served (GetsOldest n w) (call n w) (received_gets n w is) (served_turned m who w went)

  -- the step is that of the call
  words_are : (t : Thread) (y : Executed) → m.threads who ≡ Some t → executes m who t ≡ Some y → words_if_call t y ≡ Some w
  unfolding call_by
  words_are t y there e =
      sym (ap (λ o. option_and_then (λ thread. option_and_then (words_if_call thread) (executes m who thread)) o) there
      ∙ ap (option_and_then (words_if_call t)) e) ∙ calls

  ends_not : (t : Thread) → m.threads who ≡ Some t → executes m who t ≡ None → ⊥
  unfolding call_by
  ends_not t there e =
      none-some w (sym (ap (λ o. option_and_then (λ thread. option_and_then (words_if_call thread) (executes m who thread)) o) there
      ∙ ap (option_and_then (words_if_call t)) e) ∙ calls)

  acted_tells : (t : Thread) (y : Executed) → m.threads who ≡ Some t → executes m who t ≡ Some y
      → Contains (acted n t).told (Reply who (message_words x))
  acted_tells t y there e =
      subst (λ (told : Told). Contains told.told (Reply who (message_words x))) (sym (acted_as_executed m who t y e)) (by y (words_are t y there e))
    where
      by : (z : Executed) → words_if_call t z ≡ Some w → Contains (executed n t z).told (Reply who (message_words x))
      by (Next regs pc) q = absurd (none-some w q)
      by (Stores address width value regs pc) q = absurd (none-some w q)
      by (StoresToConsole offset value regs pc) q = absurd (none-some w q)
      by (StoresToTimer offset width value regs pc) q = absurd (none-some w q)
      by (Traps cause value) q = absurd (none-some w q)
      by CallsKernel q =
          subst (λ v. Contains (Call who v ∷ (call_settled n (call n v)).told) (Reply who (message_words x))) (sym (same_Some (arguments_of t.regs) w q))
          (Contains-append_right (Call who w ∷ []) (call_settled n (call n w)).told (Reply who (message_words x)) (settled_tells (h.body.ids.known who t there)))

  step_told : (t : Thread) → m.threads who ≡ Some t → told_by ByStep m ≡ (timed (counted n (Some t) (acted n t))).told
  step_told t there =
      ap (λ (r : Recorded). map (λ (rec : Rec). rec.what) r.records) (step_is m who t acts there)
      ∙ numbered (m.steps + 1) (timed (counted n (Some t) (acted n t))).told

  step_tells : Contains (told_by ByStep m) (Reply who (message_words x))
  step_tells = go (kind_of m who acts)
    where
      go : StepKind m who → Contains (told_by ByStep m) (Reply who (message_words x))
      go (Executes t y there e) =
          subst (λ told. Contains told (Reply who (message_words x))) (sym (step_told t there))
          (timed_tells ByStep (Reply who (message_words x)) (counted n (Some t) (acted n t)) (acted_tells t y there e))
      go (ThreadEnds t there ends) =
          absurd (ends_not t there (ap (λ a. if a then None else (if ends_handler who t.pc then None else Some (performed m who t).executed)) ends))
      go (HandlerEnds t there low ends) =
          absurd (ends_not t there (ap (λ a. if a then None else (if ends_handler who t.pc then None else Some (performed m who t).executed)) low
          ∙ ap (λ b. if b then None else Some (performed m who t).executed) ends))

-- who receives at a server is told the oldest message that is queued there
pub received_told : (n : ℕ) (cause : Cause) (m : Machine) → Matched m → (who : ThreadId) → IsReceiver n who cause m → (server : Server)
    → m.servers n ≡ Some server → (x : Message) → oldest server.queued ≡ Some x → Contains (told_by cause m) (Reply who (message_words x))
received_told n cause m h who r server there x first =
    subst (λ c. Contains (told_by c m) (Reply who (message_words x))) (sym r.served.step)
    (subst (λ (id : ThreadId). Contains (told_by ByStep m) (Reply id (message_words x))) r.caller
    (step_tells m h r.served.who r.words r.served.by_who r.served.call r.served.served r.receives x
    (ap (oldest_queued m) r.names ∙ (ap (λ o. option_and_then (λ (s : Server). oldest s.queued) o) there ∙ first))))

-- a record that is told stands among those of the moment
pub told_record : (records : List Rec) (what : What) → Contains (map (λ (rec : Rec). rec.what) records) what
    → (k : ℕ) × (rec : Rec) × (slice_get records k ≡ Some rec) × (rec.what ≡ what)
told_record records what at = go records at.0 at.1 at.2
  where
    go : (recs : List Rec) (k : ℕ) → k < length (map (λ (rec : Rec). rec.what) recs) → slice_index_or (map (λ (rec : Rec). rec.what) recs) k what ≡ what
        → (j : ℕ) × (rec : Rec) × (slice_get recs j ≡ Some rec) × (rec.what ≡ what)
    go [] k low is = absurd (omega arith)
    go (rec ∷ recs) zero low is = (0, rec, refl, is)
    go (rec ∷ recs) (suc k) low is = let later = go recs k (omega arith) is in (suc later.0, later.1, later.2, later.3)
