-- What each step and event tells of a message, and so each run.
use Rattle.std.proofs.Common.{◌≡◌, ℕ, ◌+◌, ◌⊎◌, inl, inr, Bool, true, false, List, [], ◌∷◌, map, Option, Some, None, refl, sym, ap, ◌∙◌, subst}
use Rattle.std.specs.Prelude.{◌==◌, ◌%◌, ◌&&◌, ◌||◌, if◌then◌else◌, is_some, nat_eq}
use Rattle.std.specs.Option.{option_map, option_map_or, option_or}
use Rattle.std.proofs.lemmas.Bool.{false≢true}
use Rattle.std.proofs.lemmas.List.{map-append}
use Rattle.std.proofs.lemmas.Option.{none-some, same_Some}
use Rattle.xk_base.specs.declared.errors.XousError.{XousError}
use Rattle.xk_base.specs.declared.events.Event.{Event}
use Rattle.xk_base.specs.declared.ids.Number.{Number}
use Rattle.xk_base.specs.declared.ids.Pid.{Pid}
use Rattle.xk_base.specs.declared.ids.ThreadId.{ThreadId}
use Rattle.xk_base.specs.declared.records.Rec.{Rec}
use Rattle.xk_base.specs.declared.records.What.{What}
use Rattle.xk_base.specs.declared.records.What.TheVariants.{Call, Reply, Retry, Byte, Fault, End}
use Rattle.syscall_codec.specs.CallNumbers.{forward_message}
use Rattle.syscall_codec.specs.CallWords.{call_number, forward_token, return_token}
use Rattle.xk_base.specs.Calls.Registers.{arguments_of, reg_at}
use Rattle.syscall_codec.specs.ReplyWords.{plain_words, refused_words, scalar1_words}
use Rattle.xk_base.specs.Tables.Circle.{is_thread_id, same_thread}
use Rattle.xk_base.specs.Tables.Counting.{put_at}
use Rattle.machine_laws.specs.Records.{records_by, records_of}
use Rattle.machine_laws.specs.HistoryMoments.{moments_of}
use Rattle.machine_laws.proofs.Histories.MomentLemmas.{history_is_run}
use Rattle.machine_model.specs.Calling.Calls.{call}
use Rattle.machine_model.specs.Ending.Closing.{closed, is_sender_at, senders_held_gone, senders_queued_gone, servers_closed, with_senderless_from, without_queued_from}
use Rattle.machine_model.specs.Ending.Ends.{death, forgotten, handler_ended, joiners_answered, thread_ended, waits_for_end}
use Rattle.machine_model.specs.Hart.Instructions.{CallsKernel, Executed, Next, Stores, StoresToConsole, StoresToTimer, Traps}
use Rattle.machine_model.specs.Runs.Matched.{Matched}
use Rattle.machine_model.specs.Runs.Moments.{Cause, IsRun, Moment, caused, state_at}
use Rattle.machine_model.specs.State.Changes.{Change, only, Outcome, Refused, Retried, Served, Told, call_settled, settled}
use Rattle.machine_model.specs.State.Machine.{Claim, Idle, Machine, Server, Thread}
use Rattle.machine_model.specs.State.Order.{actor, ready_at, turn}
use Rattle.machine_model.specs.State.Servers.{is_server_of}
use Rattle.machine_model.specs.State.Threads.{Answers, both_answers, change_thread, no_answers, passed, put_thread, thread_id, with_registers, with_state}
use Rattle.machine_model.specs.State.Views.{stored, timer_set}
use Rattle.machine_model.specs.Stepping.Interrupts.{cursor_after, delivered, handler_started, pended}
use Rattle.machine_model.specs.Stepping.Reservations.{unreserved}
use Rattle.machine_model.specs.Stepping.Step.{Recorded, acted, after, console_told, counted, executed, record_of}
use Rattle.machine_model.specs.Stepping.Timer.{timed}
use Rattle.machine_model.proofs.Runs.KeptLemmas.{matched_at}
use Rattle.machine_laws.proofs.Stepping.EveryStepLemmas.{every_cause_keeps}
use Rattle.machine_laws.proofs.Threading.ThreadAnswerLemmas.{same_thread-self}
use Rattle.machine_laws.proofs.Threading.ThreadStepLemmas.{actor_ready, turned_to}
use Rattle.call_effects.proofs.ServedLemmas.{OfServed}
use Rattle.machine_laws.proofs.Stepping.CauseCaseLemmas.{ActCase, CauseCase, EndCase, EndsHandler, EndsThread, Instructs, IsLast, Kills, LeavesOthers, Raises, Rests, StartCase, Starts}
use Rattle.machine_laws.proofs.Stepping.CauseCaseLemmas.{StartsNone, Steps, case_of, end_of, start_of}
use Rattle.transcript_laws.specs.Following.{Lacks, MessagesFollow, Leads, LeadInTurn, Standing, Stands, Stays, is_message_of, is_plain}
use Rattle.transcript_laws.specs.Following.{is_return_call, is_served_by, keeping, next_answer}
use Rattle.transcript_laws.proofs.Following.EndLemmas.{death_keeps}
use Rattle.transcript_laws.proofs.Following.ReceiveLemmas.{cursor_known}
use Rattle.transcript_laws.proofs.Following.SayLemmas.{AreSettled, IsSettled, asks, say_append, say_first, say_none}
use Rattle.transcript_laws.proofs.Following.ServedLemmas.{AnswersSay, Follows, Quiet, ServedSays, both_quiet, none_quiet, refused_quiet}
use Rattle.transcript_laws.proofs.Following.StandLemmas.{MayLose, lost_stands, one_standing}
use Rattle.transcript_laws.proofs.Following.TableLemmas.{served_follows}
use Rattle.transcript_laws.proofs.Following.TellLemmas.{CallSays, Destroys, Forwards, IsQuiet, Leaves, Returns, Sends, answer_told}
use Rattle.transcript_laws.proofs.Following.TellLemmas.{call_say}
use Rattle.transcript_laws.proofs.Following.ToldLemmas.{MessageTold, Tells, change_tells, like_stands, nothing_told, quiet_first}
use Rattle.transcript_laws.proofs.Following.ToldLemmas.{timed_told}

and_none : (a b : Bool) → (a && (b && false)) ≡ false
and_none true true = refl
and_none true false = refl
and_none false b = refl

settled_first : (what : What) (told : List What) → IsSettled what told → AreSettled told → AreSettled (what ∷ told)
unfolding AreSettled
settled_first what told here later = (here, later)

-- ---- a call

module _ (number : Number) (m : Machine) (h : Matched m) (ready : ready_at m m.cursor ≡ true) (w : List ℕ) where
  -- a call that wasn't served moves nothing
  unserved : (later : List What) (a : Standing) → is_served_by m.cursor later ≡ false → Leads number (Call m.cursor w) later a a
  unserved later a none =
      Stays (Call m.cursor w) later a
      (λ i. false
      || (forward i || returned i))
    where
      forward : ((call_number w == forward_message) && ((forward_token w == number.0) && is_served_by m.cursor later)) ≡ false
      forward = ap (λ b. (call_number w == forward_message) && ((forward_token w == number.0) && b)) none
          ∙ and_none (call_number w == forward_message) (forward_token w == number.0)

      returned : (is_return_call (call_number w) && ((return_token w == number.0) && is_served_by m.cursor later)) ≡ false
      returned = ap (λ b. is_return_call (call_number w) && ((return_token w == number.0) && b)) none
          ∙ and_none (is_return_call (call_number w)) (return_token w == number.0)

  itself : same_thread m.cursor m.cursor ≡ true
  itself = same_thread-self m.cursor

  refused_answer : (error : XousError) → next_answer m.cursor (Reply m.cursor (refused_words error) ∷ []) ≡ Some (refused_words error)
  unfolding next_answer
  refused_answer error = ap (λ b. option_or (if b then Some (refused_words error) else None) None) itself

  retried_answer : next_answer m.cursor (Retry m.cursor ∷ []) ≡ Some []
  unfolding next_answer
  retried_answer = ap (λ b. option_or (if b then Some [] else None) None) itself

  -- the record of what comes of it, alone
  one_answer : (what : What) (next : Machine) → next.servers ≡ m.servers → next.next_number ≡ m.next_number
      → ((later : List What) (a : Standing) → Leads number what later a a) → is_served_by m.cursor (what ∷ []) ≡ false
      → is_some (next_answer m.cursor (what ∷ [])) ≡ true → AreSettled (what ∷ [])
      → (a : Standing) → Stands number m a → MessageTold number a (after (Call m.cursor w) (record { machine = next; told = what ∷ [] }))
  one_answer what next servers count quiet unserved_by some rest a stands = record {
    end = a;
    stands = like_stands number m next servers count a stands;
    says = say_first number (Call m.cursor w) (what ∷ []) a a a (unserved (what ∷ []) a unserved_by)
        (say_first number what [] a a a (quiet [] a) (say_none number a));
    settled = settled_first (Call m.cursor w) (what ∷ []) (inr some) rest;
  }

  module _ (change : Change) (a : Standing) (says : ServedSays number m w change a) where
    abbrev done : Change
    done = record change { machine = change_thread m.cursor passed change.machine }

    known : is_thread_id done.machine.processes m.cursor ≡ true
    known = subst (λ n. is_thread_id n m.cursor ≡ true) (sym says.processes) (cursor_known m h ready)

    -- what the change answers the caller is the next answer to it
    answered : (words : List ℕ) → change.answers m.cursor ≡ Some words → next_answer m.cursor (settled done).told ≡ Some words
    unfolding settled
    answered words e = answer_told change.answers done.machine.processes m.cursor words e known _

    call_leads : (x y : Standing) → CallSays number w (change.answers m.cursor ≡ Some plain_words) x y
        → CallSays number w (next_answer m.cursor (settled done).told ≡ Some plain_words) x y
    call_leads _ _ (Sends e) = Sends e
    call_leads _ _ (Forwards e token plain) = Forwards e token (answered plain_words plain)
    call_leads _ _ (Returns e token plain) = Returns e token (answered plain_words plain)
    call_leads _ _ (Destroys e plain x y lose) = Destroys e (answered plain_words plain) x y lose
    call_leads _ _ (Leaves forward returned x) = Leaves forward returned x

    is_settled : (asks (call_number w) ≡ false) ⊎ (is_some (next_answer m.cursor (settled done).told) ≡ true)
    is_settled = go says.settled
      where
        by_words : (o : Option (List ℕ)) → change.answers m.cursor ≡ o → is_some o ≡ true → is_some (next_answer m.cursor (settled done).told) ≡ true
        by_words None e some = absurd (false≢true some)
        by_words (Some words) e some = ap is_some (answered words e)

        go : (asks (call_number w) ≡ false) ⊎ (is_some (change.answers m.cursor) ≡ true)
            → (asks (call_number w) ≡ false) ⊎ (is_some (next_answer m.cursor (settled done).told) ≡ true)
        go (inl none) = inl none
        go (inr some) = inr (by_words (change.answers m.cursor) refl some)

    served_told : MessageTold number a (after (Call m.cursor w) (settled done))
    served_told =
        let told = change_tells number done says.mid says.last says.end
        (subst (λ n. AnswersSay number n change.answers says.mid says.last) (sym says.processes) says.told) says.lost
        (like_stands number change.machine done.machine refl refl says.end says.stands) in
        record {
          end = told.end;
          stands = told.stands;
          says = say_first number (Call m.cursor w) (settled done).told a says.mid told.end
              (call_say number m.cursor w (settled done).told a says.mid (call_leads a says.mid says.call)) told.says;
          settled = settled_first (Call m.cursor w) (settled done).told is_settled told.settled;
        }

  outcome_told : (o : Outcome) → OfServed (Follows number m w) o → Tells number m (after (Call m.cursor w) (call_settled m o))
  unfolding call_settled turn AreSettled
  outcome_told (Refused error) of a stands =
      one_answer (Reply m.cursor (refused_words error)) _ refl refl (λ later b. Stays (Reply m.cursor (refused_words error)) later b refl)
      (ap (λ o. option_map_or is_plain o false) (refused_answer error)) (ap is_some (refused_answer error)) (tt, tt) a stands
  outcome_told Retried of a stands =
      one_answer (Retry m.cursor) (turn m) refl refl (λ later b. Stays (Retry m.cursor) later b refl)
      (ap (λ o. option_map_or is_plain o false) retried_answer) (ap is_some retried_answer) (tt, tt) a stands
  outcome_told (Served change) of a stands = served_told change a (of a stands)

  pub call_told : Tells number m (after (Call m.cursor w) (call_settled m (call m w)))
  call_told = outcome_told (call m w) (served_follows number m h ready w)

-- ---- deaths

-- of the process in a machine that has the servers and the next number of a matched one
module _ (number : Number) (m : Machine) (h : Matched m) (pid : Pid) (n : Machine) (servers : n.servers ≡ m.servers) (count : n.next_number ≡ m.next_number) where
  death_count : (death pid n).machine.next_number ≡ n.next_number
  unfolding death servers_closed closed senders_queued_gone senders_held_gone forgotten
  death_count = refl

  death_servers : (death pid n).machine.servers ≡ (death pid m).machine.servers
  unfolding death servers_closed closed senders_queued_gone senders_held_gone forgotten
  death_servers =
      ap (λ (s : ℕ → Option Server). λ k. option_map (with_senderless_from pid) (option_map (without_queued_from pid) (if is_server_of pid (s k) then None else s k)))
      servers

  death_lost : (a : Standing) → Stands number m a → (b : Standing) × Stands number (death pid n).machine b × MayLose a b
  death_lost =
      lost_stands number m h (death pid n).machine
      (λ k. subst (λ (s : ℕ → Option Server). (keeping number (s k) ≡ keeping number (m.servers k)) ⊎ (keeping number (s k) ≡ Lacks)) (sym death_servers)
      (death_keeps number m h pid k))
      (death_count ∙ count)

  -- with these answers, of which none is a message
  pub death_told : (answers : Answers) → IsQuiet answers number (λ id. false) → Tells number m (settled (record (death pid n) { answers = answers }))
  unfolding death
  death_told answers quiet a stands =
      let lost = death_lost a stands in
      change_tells number (record (death pid n) { answers = answers }) a a lost.0 (Quiet quiet a) lost.2 lost.1

-- whom a death answers, it answers no message
pub death_quiet : (number : Number) (pid : Pid) (n : Machine) → IsQuiet (death pid n).answers number (λ id. false)
unfolding death servers_closed closed
death_quiet number pid n = refused_quiet number (λ id. false) (is_sender_at (λ k. is_server_of pid (n.servers k)) n)

pub dies_told : (number : Number) (m : Machine) → Matched m → (pid : Pid) (n : Machine) → n.servers ≡ m.servers → n.next_number ≡ m.next_number
    → Tells number m (settled (death pid n))
dies_told number m h pid n servers count = death_told number m h pid n servers count (death pid n).answers (death_quiet number pid n)

-- ---- interrupts

-- the delivery of one moves no message
module _ (number : Number) (m : Machine) where
  started_told : (n : Machine) → n.servers ≡ m.servers → n.next_number ≡ m.next_number → (pid : Pid) (change : Change) → StartCase pid n change → (cursor : ThreadId)
      → Tells number m (settled (record change { machine = record change.machine { cursor = cursor } }))
  started_told n servers count pid _ StartsNone cursor a stands =
      change_tells number (record (only n) { machine = record n { cursor = cursor } }) a a a (Quiet (none_quiet number (λ id. false)) a) refl
      (like_stands number m (record n { cursor = cursor }) servers count a stands)
  started_told n servers count pid _ (Starts k claim e) cursor a stands =
      let change = handler_started n pid k (Some claim) in
      change_tells number (record change { machine = record change.machine { cursor = cursor } }) a a a (Quiet (none_quiet number (λ id. false)) a) refl
      (like_stands number m (record change.machine { cursor = cursor }) servers count a stands)

  pub delivered_told : (pid : Pid) (n : Machine) → n.servers ≡ m.servers → n.next_number ≡ m.next_number → Tells number m (settled (delivered pid n))
  delivered_told pid n servers count = started_told n servers count pid (delivered pid n) (start_of pid n) (delivered pid n).machine.cursor

  pub pended_told : (k : ℕ) (claim : Claim) (n : Machine) → n.servers ≡ m.servers → n.next_number ≡ m.next_number → Tells number m (settled (pended k claim n))
  pended_told k claim n servers count =
      let change = delivered claim.pid (record n { pending = put_at nat_eq n.pending k true }) in
      started_told (record n { pending = put_at nat_eq n.pending k true }) servers count claim.pid change
      (start_of claim.pid (record n { pending = put_at nat_eq n.pending k true })) (cursor_after change.delivery change.machine.cursor)

-- ---- a step

module _ (number : Number) (m : Machine) (h : Matched m) (who : ThreadId) (acts : actor m ≡ Some who) where
  abbrev n : Machine
  n = turned_to who m

  turned_matched : Matched n
  turned_matched = matched_at who m h

  -- of the same servers and the same next number
  turned_stands : (a : Standing) → Stands number m a → Stands number n a
  turned_stands = like_stands number m n refl refl

  then_told : (what : What) (done : Told) → ((later : List What) (a : Standing) → Leads number what later a a) → ((later : List What) → IsSettled what later)
      → Tells number m done → Tells number m (after what done)
  then_told what done says settled tells a stands = quiet_first number a what done (λ later. says later a) settled (tells a stands)

  none_told : (next : Machine) → next.servers ≡ m.servers → next.next_number ≡ m.next_number → Tells number m (record { machine = next; told = [] })
  none_told next servers count a stands = nothing_told number next a (like_stands number m next servers count a stands)

  byte_told : (offset value : ℕ) (next : Machine) → next.servers ≡ m.servers → next.next_number ≡ m.next_number
      → Tells number m (record { machine = next; told = console_told who offset value })
  byte_told offset value next servers count a stands = go (offset == 0)
    where
      go : (b : Bool) → MessageTold number a (record { machine = next; told = if b then Byte who (value % 256) ∷ [] else [] })
      go false = none_told next servers count a stands
      go true =
          quiet_first number a (Byte who (value % 256)) (record { machine = next; told = [] }) (λ later. Stays (Byte who (value % 256)) later a refl) (λ later. tt)
          (none_told next servers count a stands)

  executed_told : (t : Thread) (x : Executed) → Tells number m (executed n t x)
  unfolding stored timer_set
  executed_told t (Next regs pc) = none_told (change_thread who (with_registers regs pc) n) refl refl
  executed_told t (Stores address width value regs pc) = none_told (change_thread who (with_registers regs pc) (stored who.pid address width value n)) refl refl
  executed_told t (StoresToConsole offset value regs pc) = byte_told offset value (change_thread who (with_registers regs pc) n) refl refl
  executed_told t (StoresToTimer offset width value regs pc) = none_told (change_thread who (with_registers regs pc) (timer_set offset width value n)) refl refl
  executed_told t CallsKernel = λ a stands. call_told number n turned_matched (actor_ready m who acts) (arguments_of t.regs) a (turned_stands a stands)
  executed_told t (Traps cause value) =
      then_told (Fault who cause value) (settled (death who.pid n)) (λ later a. Stays (Fault who cause value) later a refl) (λ later. tt)
      (dies_told number m h who.pid n refl refl)

  -- ---- ends

  joiners_quiet : (a0 : ℕ) → IsQuiet (joiners_answered n who a0) number (λ id. false)
  joiners_quiet a0 id words other e = go (waits_for_end who id (n.threads id)) e
    where
      go : (b : Bool) → (if b then Some (scalar1_words a0) else None) ≡ Some words → is_message_of number words ≡ false
      go true q = subst (λ x. is_message_of number x ≡ false) (same_Some (scalar1_words a0) words q) refl
      go false q = absurd (none-some words q)

  thread_end_told : (a0 : ℕ) → Tells number m (after (End who) (settled (thread_ended who a0 n)))
  thread_end_told a0 =
      then_told (End who) (settled (thread_ended who a0 n)) (λ later a. Stays (End who) later a refl) (λ later. tt)
      (by (thread_ended who a0 n) (end_of who a0 n))
    where
      by : (change : Change) → EndCase who a0 n change → Tells number m (settled change)
      by _ LeavesOthers = λ a stands.
          change_tells number (record (only (put_thread who None n)) { answers = both_answers (joiners_answered n who a0) no_answers }) a a a
          (Quiet (both_quiet number (λ id. false) (joiners_answered n who a0) no_answers (joiners_quiet a0) (none_quiet number (λ id. false))) a) refl
          (like_stands number m (put_thread who None n) refl refl a stands)
      by _ IsLast =
          death_told number m h who.pid (put_thread who None n) refl refl (both_answers (joiners_answered n who a0) (death who.pid (put_thread who None n)).answers)
          (both_quiet number (λ id. false) (joiners_answered n who a0) (death who.pid (put_thread who None n)).answers (joiners_quiet a0)
          (death_quiet number who.pid (put_thread who None n)))

  handler_end_told : Tells number m (after (End who) (settled (handler_ended who.pid n)))
  unfolding handler_ended
  handler_end_told =
      then_told (End who) (settled (delivered who.pid (change_thread (thread_id who.pid 1) (with_state Idle) n))) (λ later a. Stays (End who) later a refl) (λ later. tt)
      (delivered_told number m who.pid (change_thread (thread_id who.pid 1) (with_state Idle) n) refl refl)

  -- ---- all that a thread does

  act_told : (t : Thread) (done : Told) → ActCase m who t done → Tells number m done
  act_told t _ (Instructs x e) = executed_told t x
  act_told t _ (EndsThread e) = thread_end_told (reg_at t.regs 10)
  act_told t _ (EndsHandler e) = handler_end_told

-- ---- any cause

-- the records that lead to the next state lead the message from this standing to how it stands there
pub record LeadsTo (number : Number) (a : Standing) (next : Recorded) : Type 0 where
  pub end : Standing
  pub stands : Stands number next.machine end
  pub says : LeadInTurn number (map (λ (rec : Rec). rec.what) next.records) a end
  pub settled : AreSettled (map (λ (rec : Rec). rec.what) next.records)

abbrev pub LeadsOn : Number → Machine → Recorded → Type 0
LeadsOn number m next = (a : Standing) → Stands number m a → LeadsTo number a next

pub numbered : (k : ℕ) (told : List What) → map (λ (rec : Rec). rec.what) (map (record_of k) told) ≡ told
numbered k [] = refl
numbered k (what ∷ told) = ap (λ later. what ∷ later) (numbered k told)

told_leads : (number : Number) (a : Standing) (k : ℕ) (done : Told) → MessageTold number a done
    → LeadsTo number a (record { machine = done.machine; records = map (record_of k) done.told })
told_leads number a k done t = record {
  end = t.end;
  stands = t.stands;
  says = subst (λ told. LeadInTurn number told a t.end) (sym (numbered k done.told)) t.says;
  settled = subst AreSettled (sym (numbered k done.told)) t.settled;
}

nothing_leads : (number : Number) (m next : Machine) → next.servers ≡ m.servers → next.next_number ≡ m.next_number
    → LeadsOn number m (record { machine = next; records = [] })
nothing_leads number m next servers count a stands =
    told_leads number a 0 (record { machine = next; told = [] }) (nothing_told number next a (like_stands number m next servers count a stands))

counted_told : (number : Number) (m : Machine) (a : Standing) (t : Thread) (done : Told) → MessageTold number a done → MessageTold number a (counted m (Some t) done)
counted_told number m a t done told = record {
  end = told.end;
  stands = like_stands number done.machine (counted m (Some t) done).machine refl refl told.end told.stands;
  says = told.says;
  settled = told.settled;
}

pub cause_leads : (number : Number) (cause : Cause) (m : Machine) → Matched m → LeadsOn number m (record { machine = caused cause m; records = records_by cause m })
cause_leads number cause m h = by cause (record { machine = caused cause m; records = records_by cause m }) (case_of cause m)
  where
    by : (cause : Cause) (next : Recorded) → CauseCase m cause next → LeadsOn number m next
    by _ _ (Rests cause cursor reserved rest) = nothing_leads number m (record m { cursor = cursor; reserved = reserved }) refl refl
    by _ _ (Steps who t acts there case) = λ a stands.
        let done = acted (turned_to who m) t in
        told_leads number a (m.steps + 1) (timed (counted (turned_to who m) (Some t) done))
        (timed_told number a (counted (turned_to who m) (Some t) done)
        (counted_told number (turned_to who m) a t done (act_told number m h who acts t done case a stands)))
    by _ _ (Raises k claim e) = λ a stands.
        told_leads number a m.steps (settled (pended k claim (unreserved m))) (pended_told number m k claim (unreserved m) refl refl a stands)
    by _ _ (Kills pid e) = λ a stands.
        told_leads number a m.steps (settled (death pid (unreserved m))) (dies_told number m h pid (unreserved m) refl refl a stands)

-- ---- runs and histories

pub run_leads : (start : Machine) (moments : List Moment) → Matched start → IsRun start moments → MessagesFollow start moments
unfolding IsRun state_at records_of
run_leads start [] h run number a b first last =
    subst (LeadInTurn number [] a) (one_standing number start h a b first last) (say_none number a)
run_leads start (moment ∷ moments) h run number a b first last =
    let led = cause_leads number moment.cause start h a first in
    let here : Stands number moment.machine led.end = subst (λ next. Stands number next led.end) (sym run.0) led.stands in
    subst (λ told. LeadInTurn number told a b)
    (sym (map-append (λ (rec : Rec). rec.what) (records_by moment.cause start) (records_of moment.machine moments)))
    (say_append number (map (λ (rec : Rec). rec.what) (records_by moment.cause start)) (map (λ (rec : Rec). rec.what) (records_of moment.machine moments))
    a led.end b led.settled led.says
    (run_leads moment.machine moments (subst Matched (sym run.0) (every_cause_keeps moment.cause start h)) run.1 number led.end b here last))

pub history_leads : (events : List Event) (limit : ℕ) (start : Machine) → Matched start → MessagesFollow start (moments_of events limit start)
history_leads events limit start h = run_leads start (moments_of events limit start) h (history_is_run events limit start)
