-- What each step, event and end of a turn does at each server, and which messages its replies deliver.
use Rattle.std.proofs.Common.{◌≡◌, ℕ, ◌+◌, ◌<◌, ◌⊎◌, inl, inr, Bool, true, false, List, [], ◌∷◌, ◌++◌, map, Option, Some, None, refl, sym, ap, ◌∙◌, subst, arith}
use Rattle.std.specs.Prelude.{◌==◌, ◌%◌, if◌then◌else◌, is_some, nat_eq, slice_index_or, unwrap_or}
use Rattle.std.specs.Bool.{⊤}
use Rattle.std.specs.List.{All, Contains}
use Rattle.std.specs.Option.{option_map, option_map_or}
use Rattle.std.proofs.lemmas.Bool.{and_parts, false≢true}
use Rattle.std.proofs.lemmas.List.Elements.{All-append, All-cons, All-map, All-nil, Contains-append_cases, Contains-append_left, Contains-append_right, Contains-push}
use Rattle.std.proofs.lemmas.Option.{none-some, same_Some}
use Rattle.xk_base.specs.declared.ids.Number.{Number}
use Rattle.xk_base.specs.declared.ids.Pid.{Pid}
use Rattle.xk_base.specs.declared.ids.ThreadId.{ThreadId}
use Rattle.xk_base.specs.declared.records.Rec.{Rec}
use Rattle.xk_base.specs.declared.records.What.{What}
use Rattle.xk_base.specs.declared.records.What.TheVariants.{Byte, Call, End, Fault, Gone, Irq, Reply, Retry}
use Rattle.xk_base.specs.Calls.Registers.{arguments_of, reg_at}
use Rattle.syscall_codec.specs.ReplyWords.{refused_words, scalar1_words}
use Rattle.xk_base.specs.Tables.Circle.{listed_ids}
use Rattle.xk_base.specs.Tables.Counting.{put_at}
use Rattle.xk_base.proofs.CircleLemmas.{listed_ids-passes}
use Rattle.machine_laws.specs.Records.{records_by}
use Rattle.machine_model.specs.Calling.Calls.{call}
use Rattle.machine_model.specs.Ending.Closing.{closed, is_sender_at, senders_held_gone, senders_queued_gone, servers_closed, with_senderless_from, without_queued_from}
use Rattle.machine_model.specs.Ending.Ends.{death, forgotten, handler_ended, is_joining, joiners_answered, thread_ended, waits_for_end}
use Rattle.machine_model.specs.Hart.Instructions.{CallsKernel, Executed, Next, Stores, StoresToConsole, StoresToTimer, Traps}
use Rattle.machine_model.specs.Runs.Matched.{Matched, is_waiting_for}
use Rattle.machine_model.specs.Runs.Moments.{ByIrq, ByKill, ByStep, Cause, caused}
use Rattle.machine_model.specs.State.Changes.{Change, Delivery, Outcome, Refused, Retried, Served, Told, call_settled, death_told, delivery_told, only, replies, settled}
use Rattle.machine_model.specs.State.Machine.{Claim, Idle, Joining, Machine, Ready, Receiving, Server, Thread, ThreadState, Waiting}
use Rattle.machine_model.specs.State.Order.{actor, ready_at, turn}
use Rattle.machine_model.specs.State.Servers.{is_server_of}
use Rattle.machine_model.specs.State.Threads.{Answers, both_answers, change_thread, no_answers, passed, put_thread, thread_id, with_registers, with_state}
use Rattle.machine_model.specs.State.Views.{stored, timer_set}
use Rattle.machine_model.specs.Stepping.Acts.{call_by, executes, is_call_served, is_served}
use Rattle.machine_model.specs.Stepping.Interrupts.{cursor_after, delivered, handler_started, pended}
use Rattle.machine_model.specs.Stepping.Reservations.{unreserved}
use Rattle.machine_model.specs.Stepping.Step.{Recorded, acted, after, console_told, counted, executed, record_of, step}
use Rattle.machine_model.specs.Stepping.Timer.{is_due, stands_after_irq, timed, timed_if, timer_change, with_irq, with_irq_if}
use Rattle.machine_model.proofs.Runs.KeptLemmas.{matched_at}
use Rattle.machine_model.proofs.Runs.TimerLemmas.{timed_raised}
use Rattle.machine_laws.proofs.Stepping.StepKindLemmas.{is_call}
use Rattle.machine_laws.proofs.Threading.ThreadStepLemmas.{actor_ready, turned_to}
use Rattle.call_effects.proofs.ServedLemmas.{OfServed}
use Rattle.machine_laws.proofs.Stepping.CauseCaseLemmas.{ActCase, CauseCase, EndCase, EndsHandler, EndsThread, Instructs, IsLast, Kills, LeavesOthers, Raises, Rests, StartCase, Starts}
use Rattle.machine_laws.proofs.Stepping.CauseCaseLemmas.{StartsNone, Steps, case_of, end_of, start_of}
use Rattle.transcript_laws.proofs.Answering.DueLemmas.{timed_holds}
use Rattle.transcript_laws.specs.Answered.{IsAnswerTo, IsSenderAnswered, IsUnserved, SendersAreAnswered}
use Rattle.transcript_laws.specs.Following.{keeping}
use Rattle.transcript_laws.specs.Serving.{AllAreServed, DiesIn, Ends, Founded, IsDelivery, IsDestroyed, Lists, ServerStep, Stays, told_by}
use Rattle.transcript_laws.proofs.Following.StepLemmas.{numbered}
use Rattle.transcript_laws.proofs.Serving.AtServerLemmas.{AreMeant, IsAnswerBy, IsSendersAnswer, IsTold, LosesServer, Serves, answer_like}
use Rattle.transcript_laws.proofs.Serving.AtServerLemmas.{both_meant, call_turned, meant_like, none_meant, refused_meant, step_like}
use Rattle.transcript_laws.proofs.Serving.AtServerLemmas.{step_to}
use Rattle.transcript_laws.proofs.Serving.ArrivalLemmas.{death_ends, death_serves, senders_lose}
use Rattle.transcript_laws.proofs.Serving.RowLemmas.{not_cursor, served_serves}
use Rattle.call_effects.proofs.ServedLemmas.{done}

-- ---- what is told

-- a reply to a thread that waits for an answer is that answer; `servers` are those then
abbrev pub IsReplied : Machine → (ℕ → Option Server) → What → Type 0
IsReplied m servers (Call who words) = ⊤
IsReplied m servers (Reply who words) = IsSendersAnswer m servers who words
IsReplied m servers (Retry who) = ⊤
IsReplied m servers (Byte who byte) = ⊤
IsReplied m servers (Fault who code value) = ⊤
IsReplied m servers (End who) = ⊤
IsReplied m servers (Irq pid k) = ⊤
IsReplied m servers (Gone pid) = ⊤

-- what a record says of deliveries and of answers
abbrev pub IsRecordTold : Cause → Machine → (ℕ → Option Server) → What → Type 0
IsRecordTold cause m servers what = IsDelivery cause m what × IsReplied m servers what

pub record Does (cause : Cause) (m : Machine) (done : Told) : Type 0 where
  pub servers : (n : ℕ) → ServerStep n cause m done.machine (DiesIn done.told)
  pub told : All (IsRecordTold cause m done.machine.servers) done.told

module _ (cause : Cause) where
  -- a record that is no reply
  first_does : (m : Machine) (what : What) (done : Told) → IsRecordTold cause m done.machine.servers what → Does cause m done → Does cause m (after what done)
  first_does m what done is does = record {
    servers = λ n. step_to cause m done.machine done.machine refl (DiesIn done.told) (DiesIn (what ∷ done.told))
        (λ pid dies. Contains-append_right (what ∷ []) done.told (Gone pid) dies) n (does.servers n);
    told = All-cons (IsRecordTold cause m done.machine.servers) what done.told is does.told;
  }

  none_does : (m next : Machine) → next.servers ≡ m.servers → Does cause m (record { machine = next; told = [] })
  none_does m next same = record { servers = λ n. Stays (ap (λ (s : ℕ → Option Server). s n) same); told = All-nil (IsRecordTold cause m next.servers) }

  -- ---- a change

  module _ (m : Machine) (change : Change) (servers : (n : ℕ) → ServerStep n cause m change.machine (λ pid. change.gone ≡ Some pid))
      (meant : AreMeant cause m change.machine.servers change.answers) where
    abbrev IsOne : What → Type 0
    IsOne what = IsRecordTold cause m change.machine.servers what

    each_reply : (id : ThreadId) → is_some (change.answers id) ≡ true → IsTold cause m change.machine.servers id (unwrap_or (change.answers id) [])
    each_reply id some = go (change.answers id) refl some
      where
        go : (o : Option (List ℕ)) → change.answers id ≡ o → is_some o ≡ true → IsTold cause m change.machine.servers id (unwrap_or o [])
        go None e s = absurd (false≢true s)
        go (Some words) e s = meant id words e

    all_replies : All IsOne (replies change.machine.processes change.answers)
    all_replies =
        All-map IsOne (λ id. Reply id (unwrap_or (change.answers id) [])) (listed_ids change.machine.processes (λ id. is_some (change.answers id)))
        (λ k d low. each_reply (slice_index_or (listed_ids change.machine.processes (λ id. is_some (change.answers id))) k d)
        (listed_ids-passes change.machine.processes (λ id. is_some (change.answers id)) k d low).1)

    deliveries : (o : Option Delivery) → All IsOne (delivery_told o)
    deliveries None = All-nil IsOne
    deliveries (Some d) = All-cons IsOne (Irq d.pid d.number) [] (tt, tt) (All-nil IsOne)

    deaths : (o : Option Pid) → All IsOne (death_told o)
    deaths None = All-nil IsOne
    deaths (Some pid) = All-cons IsOne (Gone pid) [] (tt, tt) (All-nil IsOne)

    settled_told : All IsOne (settled change).told
    unfolding settled
    settled_told =
        All-append IsOne (replies change.machine.processes change.answers) (delivery_told change.delivery ++ death_told change.gone) all_replies
        (All-append IsOne (delivery_told change.delivery) (death_told change.gone) (deliveries change.delivery) (deaths change.gone))

    settled_servers : (settled change).machine.servers ≡ change.machine.servers
    unfolding settled
    settled_servers = refl

    dies : (pid : Pid) → change.gone ≡ Some pid → DiesIn (settled change).told pid
    unfolding settled
    dies pid e =
        Contains-append_right (replies change.machine.processes change.answers) (delivery_told change.delivery ++ death_told change.gone) (Gone pid)
        (Contains-append_right (delivery_told change.delivery) (death_told change.gone) (Gone pid)
        (subst (λ o. Contains (death_told o) (Gone pid)) (sym e) (Contains-push [] (Gone pid))))

    pub change_does : Does cause m (settled change)
    change_does = record {
      servers = λ n. step_to cause m change.machine (settled change).machine settled_servers (λ pid. change.gone ≡ Some pid) (DiesIn (settled change).told) dies n (servers n);
      told = subst (λ left. All (IsRecordTold cause m left) (settled change).told) (sym settled_servers) settled_told;
    }

  -- ---- calls

  module _ (m : Machine) (h : Matched m) (ready : ready_at m m.cursor ≡ true) (w : List ℕ) (acts : actor m ≡ Some m.cursor)
      (calls : call_by m m.cursor ≡ Some w) (by_step : cause ≡ ByStep) where
    went : (change : Change) → call m w ≡ Served change → is_call_served m m.cursor w ≡ true
    unfolding is_call_served
    went change e = ap is_served e

    outcome_does : (o : Outcome) → call m w ≡ o → Does cause m (call_settled m o)
    unfolding call_settled turn
    outcome_does (Refused error) e = record {
      servers = λ n. Stays refl;
      told = All-cons (IsRecordTold cause m m.servers) (Reply m.cursor (refused_words error)) [] (inl refl, not_cursor m ready m.servers (refused_words error)) (All-nil (IsRecordTold cause m m.servers));
    }
    outcome_does Retried e = record {
      servers = λ n. Stays refl;
      told = All-cons (IsRecordTold cause m m.servers) (Retry m.cursor) [] (tt, tt) (All-nil (IsRecordTold cause m m.servers));
    }
    outcome_does (Served change) e =
        let of : Serves cause m change = subst (OfServed (Serves cause m)) e (served_serves cause by_step m h ready w acts calls (went change e)) in
        change_does m (record change { machine = change_thread m.cursor passed change.machine })
        (λ n. step_to cause m change.machine (change_thread m.cursor passed change.machine) refl (λ pid. change.gone ≡ Some pid) (λ pid. change.gone ≡ Some pid)
        (λ pid dies. dies) n (of.servers n)) of.answers

    pub call_does : Does cause m (after (Call m.cursor w) (call_settled m (call m w)))
    call_does = first_does m (Call m.cursor w) (call_settled m (call m w)) (tt, tt) (outcome_does (call m w) refl)

  -- ---- deaths and interrupts

  -- in a machine with the same servers
  death_servers : (m n : Machine) (pid : Pid) → n.servers ≡ m.servers → (death pid n).machine.servers ≡ (death pid m).machine.servers
  unfolding death servers_closed closed senders_queued_gone senders_held_gone forgotten
  death_servers m n pid e =
      ap (λ (s : ℕ → Option Server). λ k. option_map (with_senderless_from pid) (option_map (without_queued_from pid) (if is_server_of pid (s k) then None else s k))) e

  death_answers_meant : (m : Machine) → Matched m → (n : Machine) (pid : Pid) → n.servers ≡ m.servers → AreMeant cause m (death pid n).machine.servers (death pid n).answers
  unfolding death servers_closed closed
  death_answers_meant m h n pid e =
      refused_meant cause m (death pid n).machine.servers (is_sender_at (λ k. is_server_of pid (n.servers k)) n)
      (senders_lose m h n e (λ k. is_server_of pid (n.servers k)) (death pid n).machine.servers (death_ends cause n pid))

  pub death_does : (m n : Machine) (pid : Pid) (answers : Answers) → n.servers ≡ m.servers → AreMeant cause m (death pid n).machine.servers answers
      → Does cause m (settled (record (death pid n) { answers = answers }))
  death_does m n pid answers e meant =
      change_does m (record (death pid n) { answers = answers })
      (λ k. step_to cause m (death pid m).machine (death pid n).machine (death_servers m n pid e) (λ other. Some pid ≡ Some other) (λ other. (death pid n).gone ≡ Some other)
      (λ other dies. unfold death in dies) k (death_serves cause m pid k)) meant

  dies_does : (m : Machine) → Matched m → (n : Machine) (pid : Pid) → n.servers ≡ m.servers → Does cause m (settled (death pid n))
  dies_does m h n pid e = death_does m n pid (death pid n).answers e (death_answers_meant m h n pid e)

  started_does : (m n : Machine) → n.servers ≡ m.servers → (pid : Pid) (change : Change) → StartCase pid n change → (cursor : ThreadId)
      → Does cause m (settled (record change { machine = record change.machine { cursor = cursor } }))
  started_does m n e pid _ StartsNone cursor =
      change_does m (record (only n) { machine = record n { cursor = cursor } }) (λ j. Stays (ap (λ (s : ℕ → Option Server). s j) e)) (none_meant cause m n.servers)
  started_does m n e pid _ (Starts k claim q) cursor =
      let change = handler_started n pid k (Some claim) in
      change_does m (record change { machine = record change.machine { cursor = cursor } }) (λ j. Stays (ap (λ (s : ℕ → Option Server). s j) e)) (none_meant cause m n.servers)

  delivered_does : (m n : Machine) → n.servers ≡ m.servers → (pid : Pid) → Does cause m (settled (delivered pid n))
  delivered_does m n e pid = started_does m n e pid (delivered pid n) (start_of pid n) (delivered pid n).machine.cursor

  pended_does : (m n : Machine) → n.servers ≡ m.servers → (k : ℕ) (claim : Claim) → Does cause m (settled (pended k claim n))
  pended_does m n e k claim =
      let change = delivered claim.pid (record n { pending = put_at nat_eq n.pending k true }) in
      started_does m (record n { pending = put_at nat_eq n.pending k true }) e claim.pid change
      (start_of claim.pid (record n { pending = put_at nat_eq n.pending k true })) (cursor_after change.delivery change.machine.cursor)

  -- ---- a step

  -- from the state that is turned to the thread to the one before
  back : (m : Machine) (who : ThreadId) → actor m ≡ Some who → actor (turned_to who m) ≡ Some who → (done : Told) → Does cause (turned_to who m) done → Does cause m done
  back m who acts turned done does = record {
    servers = λ n. step_like cause m who acts turned done.machine (DiesIn done.told) n (does.servers n);
    told = told;
  }
    where
      of : (what : What) → IsRecordTold cause (turned_to who m) done.machine.servers what → IsRecordTold cause m done.machine.servers what
      of (Call other words) d = (tt, tt)
      of (Reply other words) d = (meant_like cause m who acts turned other words d.0, λ number waits. answer_like cause m who acts turned done.machine.servers number words (d.1 number waits))
      of (Retry other) d = (tt, tt)
      of (Byte other byte) d = (tt, tt)
      of (Fault other code value) d = (tt, tt)
      of (End other) d = (tt, tt)
      of (Irq pid k) d = (tt, tt)
      of (Gone pid) d = (tt, tt)

      told : All (IsRecordTold cause m done.machine.servers) done.told
      told k d low = of (slice_index_or done.told k d) (does.told k d low)

  module _ (by_step : cause ≡ ByStep) (m : Machine) (h : Matched m) (who : ThreadId) (acts : actor m ≡ Some who) where
    abbrev n : Machine
    n = turned_to who m

    byte_does : (offset value : ℕ) (next : Machine) → next.servers ≡ m.servers → Does cause m (record { machine = next; told = console_told who offset value })
    byte_does offset value next same = go (offset == 0)
      where
        go : (b : Bool) → Does cause m (record { machine = next; told = if b then Byte who (value % 256) ∷ [] else [] })
        go false = none_does m next same
        go true = first_does m (Byte who (value % 256)) (record { machine = next; told = [] }) (tt, tt) (none_does m next same)

    turned_acts : actor n ≡ Some who
    unfolding actor
    turned_acts = rw (actor_ready m who acts) refl

    executed_does : (t : Thread) → m.threads who ≡ Some t → (x : Executed) → executes m who t ≡ Some x → Does cause m (executed n t x)
    unfolding stored timer_set
    executed_does t there (Next regs pc) e = none_does m (change_thread who (with_registers regs pc) n) refl
    executed_does t there (Stores address width value regs pc) e = none_does m (change_thread who (with_registers regs pc) (stored who.pid address width value n)) refl
    executed_does t there (StoresToConsole offset value regs pc) e = byte_does offset value (change_thread who (with_registers regs pc) n) refl
    executed_does t there (StoresToTimer offset width value regs pc) e = none_does m (change_thread who (with_registers regs pc) (timer_set offset width value n)) refl
    executed_does t there CallsKernel e =
        back m who acts turned_acts _
        (call_does n (matched_at who m h) (actor_ready m who acts) (arguments_of t.regs) turned_acts (call_turned m who ∙ is_call m who t there e) by_step)
    executed_does t there (Traps code value) e = first_does m (Fault who code value) (settled (death who.pid n)) (tt, tt) (dies_does m h n who.pid refl)

    joiners_meant : (a0 : ℕ) (servers : ℕ → Option Server) → AreMeant cause m servers (joiners_answered n who a0)
    joiners_meant a0 servers id words e = go (waits_for_end who id (n.threads id)) refl e
      where
        joins : (o : Option Thread) → waits_for_end who id o ≡ true → (number : Number)
            → option_map_or (λ (x : Thread). is_waiting_for number x.state) o false ≡ true → ⊥
        joins None p number waits = false≢true p
        joins (Some t) p number waits = by t.state (and_parts (id.pid.0 == who.pid.0) (is_joining who.tid t.state) p).1 waits
          where
            by : (s : ThreadState) → is_joining who.tid s ≡ true → is_waiting_for number s ≡ true → ⊥
            by Ready q r = false≢true q
            by (Receiving serial) q r = false≢true q
            by (Waiting other) q r = false≢true q
            by (Joining tid) q r = false≢true r
            by Idle q r = false≢true q

        go : (b : Bool) → waits_for_end who id (n.threads id) ≡ b → (if b then Some (scalar1_words a0) else None) ≡ Some words → IsTold cause m servers id words
        go true p q =
            subst (IsTold cause m servers id) (same_Some (scalar1_words a0) words q)
            (inl refl, λ number waits. absurd (joins (m.threads id) p number waits))
        go false p q = absurd (none-some words q)

    thread_end_does : (a0 : ℕ) → Does cause m (after (End who) (settled (thread_ended who a0 n)))
    thread_end_does a0 = first_does m (End who) (settled (thread_ended who a0 n)) (tt, tt) (by (thread_ended who a0 n) (end_of who a0 n))
      where
        by : (change : Change) → EndCase who a0 n change → Does cause m (settled change)
        by _ LeavesOthers =
            change_does m (record (only (put_thread who None n)) { answers = both_answers (joiners_answered n who a0) no_answers }) (λ k. Stays refl)
            (both_meant cause m m.servers (joiners_answered n who a0) no_answers (joiners_meant a0 m.servers) (none_meant cause m m.servers))
        by _ IsLast =
            death_does m (put_thread who None n) who.pid (both_answers (joiners_answered n who a0) (death who.pid (put_thread who None n)).answers) refl
            (both_meant cause m (death who.pid (put_thread who None n)).machine.servers (joiners_answered n who a0) (death who.pid (put_thread who None n)).answers
            (joiners_meant a0 (death who.pid (put_thread who None n)).machine.servers) (death_answers_meant m h (put_thread who None n) who.pid refl))

    handler_end_does : Does cause m (after (End who) (settled (handler_ended who.pid n)))
    unfolding handler_ended
    handler_end_does =
        first_does m (End who) (settled (delivered who.pid (change_thread (thread_id who.pid 1) (with_state Idle) n))) (tt, tt)
        (delivered_does m (change_thread (thread_id who.pid 1) (with_state Idle) n) refl who.pid)

    act_does : (t : Thread) → m.threads who ≡ Some t → (done : Told) → ActCase m who t done → Does cause m done
    act_does t there _ (Instructs x e) = executed_does t there x e
    act_does t there _ (EndsThread e) = thread_end_does (reg_at t.regs 10)
    act_does t there _ (EndsHandler e) = handler_end_does

  -- the timer takes no record away
  pub timed_tells : (what : What) (done : Told) → Contains done.told what → Contains (timed done).told what
  timed_tells what done there = go (is_due done.machine.compare done.machine.steps)
    where
      with_one : (d : Delivery) (told : List What) → Contains told what → Contains (with_irq d told) what
      with_one d [] at = absurd (let low : at.0 < 0 = at.1 in omega arith)
      with_one d (first ∷ told) at = by (λ later. with_one d told later) (stands_after_irq d.pid first) (Contains-append_cases (first ∷ []) told what at)
        where
          by : (Contains told what → Contains (with_irq d told) what) → (b : Bool) → Contains (first ∷ []) what ⊎ Contains told what
              → Contains (if b then Irq d.pid d.number ∷ first ∷ told else first ∷ with_irq d told) what
          by rest true either = Contains-append_right (Irq d.pid d.number ∷ []) (first ∷ told) what at
          by rest false (inl here) = Contains-append_left (first ∷ []) (with_irq d told) what here
          by rest false (inr later) = Contains-append_right (first ∷ []) (with_irq d told) what (rest later)

      by_delivery : (o : Option Delivery) → Contains (with_irq_if o done.told) what
      by_delivery None = there
      by_delivery (Some d) = with_one d done.told there

      go : (b : Bool) → Contains (timed_if b done).told what
      go false = there
      go true = by_delivery (timer_change done.machine).delivery

  timed_does : (m : Machine) (done : Told) → Does cause m done → Does cause m (timed done)
  timed_does m done does = record {
    servers = λ n. step_to cause m done.machine (timed done).machine (ap (λ (x : Machine). x.servers) (timed_raised done).is) (DiesIn done.told) (DiesIn (timed done).told)
        (λ pid dies. timed_tells (Gone pid) done dies) n (does.servers n);
    told = subst (λ servers. All (IsRecordTold cause m servers) (timed done).told) (sym (ap (λ (x : Machine). x.servers) (timed_raised done).is))
        (timed_holds (IsRecordTold cause m done.machine.servers) (λ pid k. (tt, tt)) (λ pid. (tt, tt)) done does.told);
  }

  -- ---- any cause

  pub record DoesSo (m : Machine) (next : Recorded) : Type 0 where
    pub servers : (n : ℕ) → ServerStep n cause m next.machine (DiesIn (map (λ (rec : Rec). rec.what) next.records))
    pub told : All (λ (rec : Rec). IsRecordTold cause m next.machine.servers rec.what) next.records

  recorded_so : (m : Machine) (k : ℕ) (done : Told) → Does cause m done → DoesSo m (record { machine = done.machine; records = map (record_of k) done.told })
  recorded_so m k done does = record {
    servers = λ n. subst (λ told. ServerStep n cause m done.machine (DiesIn told)) (sym (numbered k done.told)) (does.servers n);
    told = All-map (λ (rec : Rec). IsRecordTold cause m done.machine.servers rec.what) (record_of k) done.told does.told;
  }

  nothing_so : (m next : Machine) → next.servers ≡ m.servers → DoesSo m (record { machine = next; records = [] })
  nothing_so m next same = record {
    servers = λ n. Stays (ap (λ (s : ℕ → Option Server). s n) same);
    told = All-nil (λ (rec : Rec). IsRecordTold cause m next.servers rec.what);
  }

  counted_does : (m n : Machine) (t : Thread) (done : Told) → Does cause m done → Does cause m (counted n (Some t) done)
  counted_does m n t done does = record {
    servers = λ k. step_to cause m done.machine (counted n (Some t) done).machine refl (DiesIn done.told) (DiesIn done.told) (λ pid dies. dies) k (does.servers k);
    told = does.told;
  }

cause_so : (cause : Cause) (m : Machine) → Matched m → DoesSo cause m (record { machine = caused cause m; records = records_by cause m })
cause_so cause m h = by cause (record { machine = caused cause m; records = records_by cause m }) (case_of cause m)
  where
    by : (cause : Cause) (next : Recorded) → CauseCase m cause next → DoesSo cause m next
    by _ _ (Rests cause cursor reserved rest) = nothing_so cause m (record m { cursor = cursor; reserved = reserved }) refl
    by _ _ (Steps who t acts there case) =
        let done = acted (turned_to who m) t in
        let does = act_does ByStep refl m h who acts t there done case in
        recorded_so ByStep m (m.steps + 1) (timed (counted (turned_to who m) (Some t) done))
        (timed_does ByStep m (counted (turned_to who m) (Some t) done) (counted_does ByStep m (turned_to who m) t done does))
    by _ _ (Raises k claim e) =
        recorded_so (ByIrq k) m m.steps (settled (pended k claim (unreserved m))) (pended_does (ByIrq k) m (unreserved m) refl k claim)
    by _ _ (Kills pid e) =
        recorded_so (ByKill pid) m m.steps (settled (death pid (unreserved m))) (dies_does (ByKill pid) m h (unreserved m) pid refl)

pub all_served : AllAreServed
all_served cause m h =
    let so = cause_so cause m h in
    record { servers = so.servers; deliveries = λ k d low. (so.told k d low).0 }

-- a server that is gone ended in this moment
unserved_of : (cause : Cause) (m : Machine) → Matched m → (number : Number) → LosesServer number m (caused cause m).servers → IsUnserved number cause m
unserved_of cause m h number left = at (m.servers left.n) refl ((all_served cause m h).servers left.n)
  where
    at : (o : Option Server) → m.servers left.n ≡ o → ServerStep left.n cause m (caused cause m) (DiesIn (told_by cause m)) → IsUnserved number cause m
    at None there step = absurd (left.had (ap (keeping number) there))
    at (Some server) there step = record {
      n = left.n;
      server = server;
      there = there;
      had = λ lacks. left.had (ap (keeping number) there ∙ lacks);
      gone = left.gone;
      ends = by step;
    }
      where
        by : ServerStep left.n cause m (caused cause m) (DiesIn (told_by cause m)) → DiesIn (told_by cause m) server.pid ⊎ IsDestroyed left.n server cause m
        by (Stays e) = absurd (none-some server (sym left.gone ∙ (e ∙ there)))
        by (Founded new none now queued held) = absurd (none-some new (sym left.gone ∙ now))
        by (Ends old was gone why) =
            subst (λ (s : Server). DiesIn (told_by cause m) s.pid ⊎ IsDestroyed left.n s cause m) (same_Some old server (sym was ∙ there)) why
        by (Lists before after_it was now step) = absurd (none-some after_it (sym left.gone ∙ now))

answered_so : (cause : Cause) (m : Machine) → Matched m → (what : What) → IsReplied m (caused cause m).servers what → IsSenderAnswered cause m what
answered_so cause m h (Call who words) is = tt
answered_so cause m h (Reply who words) is = λ number waits. by number (is number waits)
  where
    by : (number : Number) → IsAnswerBy number words m (caused cause m).servers → IsAnswerTo number words cause m
    by number (inl returned) = inl returned
    by number (inr (refused, left)) = inr (refused, unserved_of cause m h number left)
answered_so cause m h (Retry who) is = tt
answered_so cause m h (Byte who byte) is = tt
answered_so cause m h (Fault who code value) is = tt
answered_so cause m h (End who) is = tt
answered_so cause m h (Irq pid k) is = tt
answered_so cause m h (Gone pid) is = tt

pub senders_answered : SendersAreAnswered
senders_answered cause m h k d low =
    answered_so cause m h (slice_index_or (records_by cause m) k d).what ((cause_so cause m h).told k d low).1
