-- The cursor stays the id of a thread of the processes by every call and every step.
use Rattle.std.proofs.Common.{◌≡◌, ℕ, Bool, true, false, List, [], ◌∷◌, ◌++◌, Option, Some, None, refl, sym, ap, ◌∙◌, subst}
use Rattle.std.specs.Prelude.{nat_eq, unwrap_or}
use Rattle.xk_base.specs.declared.errors.XousError.{XousError}
use Rattle.xk_base.specs.declared.errors.XousError.TheVariants.{ServerNotFound, ServerQueueFull, UnhandledSyscall}
use Rattle.xk_base.specs.declared.ids.Number.{Number}
use Rattle.xk_base.specs.declared.ids.Pid.{Pid}
use Rattle.xk_base.specs.declared.ids.Serial.{Serial}
use Rattle.xk_base.specs.declared.ids.ThreadId.{ThreadId}
use Rattle.xk_base.specs.declared.ids.Vpn.{Vpn}
use Rattle.xk_base.specs.declared.limits.TheConstants.{TIMER_INTERRUPT}
use Rattle.xk_base.specs.declared.messages.Message.{Message}
use Rattle.xk_base.specs.declared.messages.MsgKind.{MsgKind}
use Rattle.xk_base.specs.declared.messages.MsgKind.TheVariants.{Scalar}
use Rattle.syscall_codec.specs.CallWords.{call_number, forward_cid, heap_bytes, interrupt_argument, interrupt_handler, interrupt_number}
use Rattle.syscall_codec.specs.CallWords.{join_tid, map_flags, map_phys, map_size, map_virt, range_address, range_flags, range_size}
use Rattle.syscall_codec.specs.CallWords.{return_address, return_offset, return_size, return_valid, return_value1, return_value2}
use Rattle.syscall_codec.specs.CallWords.{send_address, thread_arguments, thread_entry, thread_sp}
use Rattle.xk_base.specs.Tables.Circle.{is_pid, is_thread_id}
use Rattle.xk_base.specs.Tables.Counting.{put_at}
use Rattle.xk_base.specs.Calls.Kinds.{is_answered}
use Rattle.xk_base.specs.Calls.Registers.{arguments_of, reg_at}
use Rattle.syscall_codec.specs.CallNumbers.{forward_message}
use Rattle.syscall_codec.specs.ReplyWords.{plain_words, scalar1_words, scalar2_words}
use Rattle.xk_base.specs.Tables.Sids.{serial_of}
use Rattle.xk_base.proofs.CircleLemmas.{next_id-valid}
use Rattle.ledger_model.specs.Steps.{pass}
use Rattle.machine_model.specs.Calling.Calls.{any_refusals, call, call_at, call_table}
use Rattle.machine_model.specs.Calling.Questions.{Question, asked, questions}
use Rattle.machine_model.proofs.Calling.TableLemmas.{OfRows, of_questions, of_row, ◌also◌}
use Rattle.machine_model.specs.Calling.Calls.{unhandled_call}
use Rattle.machine_model.specs.Calling.InterruptCalls.{claim_call, claim_refusals, claim_served, free_call, free_refusals, free_served}
use Rattle.machine_model.specs.Calling.MemoryCalls.{caller_place, decrease_call, decrease_refusals, decrease_served, increase_call, increase_refusals, increase_served, map_call, map_refusals, map_served, unmap_call, unmap_refusals, unmap_served, update_call, update_refusals, update_served}
use Rattle.machine_model.specs.Calling.ServerCalls.{connect_call, connect_refusals, connect_served, create_server_call, create_server_refusals, create_server_served, destroy_call, destroy_served, is_missing, named_server, named_sid, own_server_refusals, try_connect_call}
use Rattle.machine_model.specs.Calling.ThreadCalls.{create_call, create_refusals, create_served, join_call, join_refusals, join_served, terminate_call, yield_call}
use Rattle.machine_model.specs.Ending.Closing.{closed, destroyed, senders_held_gone, senders_queued_gone, servers_closed}
use Rattle.machine_model.specs.Ending.Ends.{death, end_with_last_thread, forgotten, handler_ended, has_threads, thread_ended}
use Rattle.machine_model.specs.Hart.Instructions.{Executed, Next, Stores, StoresToConsole, StoresToTimer, CallsKernel, Traps}
use Rattle.machine_model.specs.Messaging.ForwardCalls.{forward_call, forward_refusals, forward_served, forward_served_if, held_place, next_arrival, next_arrival_refusals, passable, passed_from, passed_number, passed_place, passed_to, with_first}
use Rattle.machine_model.specs.Messaging.Messages.{new_message, new_number, without_held}
use Rattle.machine_model.specs.Messaging.ReceiveCalls.{oldest_queued, receive_call, receive_served, received, try_receive_call, try_receive_served, waits_at}
use Rattle.machine_model.specs.Messaging.Receivers.{receiver}
use Rattle.machine_model.specs.Messaging.ReturnCalls.{named_number, return_memory_call, return_memory_refusals, return_memory_served, return_scalar1_call, return_scalar2_call, return_scalar_refusals, return_scalar_served}
use Rattle.machine_model.specs.Messaging.SendCalls.{arrival, arrival_refusals, arrived, is_full_for, named_kind, send_call, send_refusals, send_served, sender_left, sent, sent_pages, sent_place, sent_serial, sent_to, try_send_call, with_sent}
use Rattle.machine_model.specs.Runs.Kept.{AllKeepCursor, KeepsCursor}
use Rattle.machine_model.specs.Runs.Matched.{Matched}
use Rattle.machine_model.specs.Runs.Moments.{ByStep}
use Rattle.machine_model.specs.State.Changes.{Call, Change, Outcome, Refused, Retried, Served, Told, answering, call_settled, first_refusal, refused_or, settled, unless_refused, unless_retried}
use Rattle.machine_model.specs.State.Machine.{Claim, Idle, Machine, Thread}
use Rattle.machine_model.specs.State.Order.{actor, next_ready, ready_at, turn}
use Rattle.machine_model.specs.State.Servers.{change_server}
use Rattle.machine_model.specs.State.Threads.{answer_to, change_thread, put_thread, thread_id, with_state}
use Rattle.machine_model.specs.State.Views.{stored, timer_set}
use Rattle.machine_model.specs.Stepping.Interrupts.{delivered, with_handler_next}
use Rattle.machine_model.specs.Stepping.Step.{Recorded, acted, counted, executed, step}
use Rattle.machine_model.specs.Stepping.Timer.{is_due, raised_by_timer, timed, timed_if}
use Rattle.machine_model.proofs.State.CursorLemmas.{all_keep_cursor}
use Rattle.machine_model.proofs.StepLemmas.{no_step}
use Rattle.machine_model.proofs.Runs.TimerLemmas.{timed_raised}
use Rattle.machine_laws.proofs.Stepping.EveryStepLemmas.{every_step_keeps}
use Rattle.machine_laws.proofs.Stepping.CauseCaseLemmas.{ActCase, EndsHandler, EndsThread, Instructs, StartCase, Starts, StartsNone, act_of, start_of}
use Rattle.machine_laws.proofs.Threading.ThreadStepLemmas.{step_of_thread, turned_to}

-- the cursor of a machine is the id of a thread of its processes
abbrev Stands : Machine → Type 0
Stands m = is_thread_id m.processes m.cursor ≡ true

-- .. of what comes of a call
abbrev StandsBy : Machine → Outcome → Type 0
StandsBy m outcome = Stands (call_settled m outcome).machine

turn_stands : (m : Machine) → Stands m → Stands (turn m)
unfolding turn next_ready
turn_stands m c = go (next_ready m m.cursor) refl
  where
    go : (o : Option ThreadId) → next_ready m m.cursor ≡ o → is_thread_id m.processes (unwrap_or o m.cursor) ≡ true
    go None e = c
    go (Some d) e = next_id-valid m.processes (ready_at m) m.cursor d e

death_stands : (m : Machine) (pid : Pid) → Stands m → Stands (death pid m).machine
unfolding death servers_closed closed senders_queued_gone senders_held_gone forgotten
death_stands m pid c = c

settled_stands : (change : Change) → Stands change.machine → Stands (settled change).machine
unfolding settled
settled_stands change c = c

-- ---- what comes of a call

module _ (m : Machine) (c : Stands m) where
  served_stands : (change : Change) → Stands change.machine → StandsBy m (Served change)
  unfolding call_settled settled
  served_stands change e = e

  refused_stands : (error : XousError) → StandsBy m (Refused error)
  unfolding call_settled
  refused_stands error = c

  retried_stands : StandsBy m Retried
  unfolding call_settled
  retried_stands = turn_stands m c

  either_stands : (refusals : List (Bool × XousError)) (outcome : Outcome) → StandsBy m outcome → StandsBy m (unless_refused refusals outcome)
  either_stands refusals outcome e = go (first_refusal refusals)
    where
      go : (o : Option XousError) → StandsBy m (refused_or o outcome)
      go None = e
      go (Some error) = refused_stands error

  or_retried_stands : (test : Bool) (outcome : Outcome) → StandsBy m outcome → StandsBy m (unless_retried test outcome)
  or_retried_stands true outcome e = retried_stands
  or_retried_stands false outcome e = e

  -- refused, or served with a change that leaves the cursor
  plain_stands : (refusals : List (Bool × XousError)) (change : Change) → Stands change.machine → StandsBy m (unless_refused refusals (Served change))
  plain_stands refusals change e = either_stands refusals (Served change) (served_stands change e)

arrived_stands : (o : Option ThreadId) (serial : Serial) (message : Message) (m : Machine) → Stands m → Stands (arrived o serial message m).machine
arrived_stands None serial message m c = c
arrived_stands (Some who) serial message m c = c

left_stands : (b : Bool) (number : Number) (m : Machine) → Stands m → Stands (sender_left b number m)
left_stands true number m c = c
left_stands false number m c = c

received_stands : (m : Machine) (serial : Serial) (o : Option Message) (otherwise : Change) → Stands m → Stands otherwise.machine
    → Stands (received m serial o otherwise).machine
received_stands m serial None otherwise c e = e
received_stands m serial (Some message) otherwise c e = c

module _ (m : Machine) (c : Stands m) (w : List ℕ) where
  map_stands : StandsBy m (map_call m w)
  unfolding map_call
  map_stands = plain_stands m c (map_refusals m (map_phys w) (map_virt w) (map_size w) (map_flags w))
      (map_served m (map_phys w) (map_virt w) (map_size w) (map_flags w)) c

  unmap_stands : StandsBy m (unmap_call m w)
  unfolding unmap_call
  unmap_stands = plain_stands m c (unmap_refusals m (range_address w) (range_size w)) (unmap_served m (range_address w) (range_size w)) c

  update_stands : StandsBy m (update_call m w)
  unfolding update_call
  update_stands = plain_stands m c (update_refusals m (range_address w) (range_size w) (range_flags w))
      (update_served m (range_address w) (range_size w) (range_flags w)) c

  increase_stands : StandsBy m (increase_call m w)
  unfolding increase_call
  increase_stands = plain_stands m c (increase_refusals m (heap_bytes w)) (increase_served m (heap_bytes w)) c

  decrease_stands : StandsBy m (decrease_call m w)
  unfolding decrease_call
  decrease_stands = plain_stands m c (decrease_refusals m (heap_bytes w)) (decrease_served m (heap_bytes w)) c

  yield_stands : StandsBy m (yield_call m w)
  unfolding yield_call
  yield_stands = served_stands m c (answering (answer_to m.cursor plain_words) (turn m)) (turn_stands m c)

  question_stands : (question : Question) → StandsBy m (asked question m w)
  unfolding asked
  question_stands question = served_stands m c (answering (answer_to m.cursor (question m)) m) c

  create_stands : StandsBy m (create_call m w)
  unfolding create_call
  create_stands = plain_stands m c (create_refusals m (thread_entry w)) (create_served m (thread_entry w) (thread_sp w) (thread_arguments w)) c

  join_stands : StandsBy m (join_call m w)
  unfolding join_call
  join_stands = plain_stands m c (join_refusals m (join_tid w)) (join_served m (join_tid w)) c

  terminate_stands : StandsBy m (terminate_call m w)
  unfolding terminate_call
  terminate_stands = served_stands m c (death m.cursor.pid m) (death_stands m m.cursor.pid c)

  claim_stands : StandsBy m (claim_call m w)
  unfolding claim_call
  claim_stands = plain_stands m c (claim_refusals m (interrupt_number w) (interrupt_handler w))
      (claim_served m (interrupt_number w) (interrupt_handler w) (interrupt_argument w)) c

  free_stands : StandsBy m (free_call m w)
  unfolding free_call
  free_stands = plain_stands m c (free_refusals m (interrupt_number w)) (free_served m (interrupt_number w)) c

  -- ---- servers

  create_server_stands : StandsBy m (create_server_call m w)
  unfolding create_server_call
  create_server_stands = plain_stands m c (create_server_refusals m (named_sid w)) (create_server_served m (named_sid w)) c

  connect_stands : StandsBy m (connect_call m w)
  unfolding connect_call
  connect_stands =
      or_retried_stands m c (is_missing m (named_sid w)) (unless_refused (connect_refusals m (named_sid w)) (Served (connect_served m (named_sid w))))
      (plain_stands m c (connect_refusals m (named_sid w)) (connect_served m (named_sid w)) c)

  try_connect_stands : StandsBy m (try_connect_call m w)
  unfolding try_connect_call
  try_connect_stands =
      plain_stands m c ((is_missing m (named_sid w), ServerNotFound) ∷ connect_refusals m (named_sid w)) (connect_served m (named_sid w)) c

  destroy_stands : StandsBy m (destroy_call m w)
  unfolding destroy_call destroyed closed
  destroy_stands = plain_stands m c (own_server_refusals m (named_sid w)) (destroy_served m (named_sid w)) c

  -- ---- messages

  sent_stands : (first : Option Vpn) → StandsBy m (sent_to m w first)
  sent_stands o =
      plain_stands m c (arrival_refusals w o) (send_served m w o) (by_kind (unwrap_or (named_kind w) Scalar) (unwrap_or o (record { 0 = 0 })))
    where
      by_kind : (kind : MsgKind) (first : Vpn) → Stands (sent m kind w first).machine
      by_kind kind first =
          let paged : Machine = with_sent m kind (caller_place m (send_address w)) (sent_pages w) (sent_place m w first) in
          arrived_stands (receiver m (sent_serial m w)) (sent_serial m w) (new_message m kind w first)
          (sender_left (is_answered kind) (new_number m) paged) (left_stands (is_answered kind) (new_number m) paged c)

  send_stands : StandsBy m (send_call m w)
  unfolding send_call
  send_stands =
      either_stands m c (send_refusals m w) (unless_retried (is_full_for m w) (sent_to m w (arrival m w)))
      (or_retried_stands m c (is_full_for m w) (sent_to m w (arrival m w)) (sent_stands (arrival m w)))

  try_send_stands : StandsBy m (try_send_call m w)
  unfolding try_send_call
  try_send_stands =
      either_stands m c (send_refusals m w ++ (is_full_for m w, ServerQueueFull) ∷ []) (sent_to m w (arrival m w)) (sent_stands (arrival m w))

  receive_stands : StandsBy m (receive_call m w)
  unfolding receive_call
  receive_stands =
      plain_stands m c (own_server_refusals m (named_sid w)) (receive_served m (named_sid w))
      (received_stands m (named_server m (named_sid w)) (oldest_queued m (named_server m (named_sid w))) (waits_at (named_server m (named_sid w)) m) c c)

  try_receive_stands : StandsBy m (try_receive_call m w)
  unfolding try_receive_call
  try_receive_stands =
      plain_stands m c (own_server_refusals m (named_sid w)) (try_receive_served m (named_sid w))
      (received_stands m (named_server m (named_sid w)) (oldest_queued m (named_server m (named_sid w))) (answering (answer_to m.cursor plain_words) m) c c)

  return_memory_stands : StandsBy m (return_memory_call m w)
  unfolding return_memory_call
  return_memory_stands = plain_stands m c (return_memory_refusals m (named_number w) (return_address w) (return_size w))
      (return_memory_served m (named_number w) (return_offset w) (return_valid w)) c

  return_scalar1_stands : StandsBy m (return_scalar1_call m w)
  unfolding return_scalar1_call
  return_scalar1_stands =
      plain_stands m c (return_scalar_refusals m (named_number w)) (return_scalar_served m (named_number w) (scalar1_words (return_value1 w))) c

  return_scalar2_stands : StandsBy m (return_scalar2_call m w)
  unfolding return_scalar2_call
  return_scalar2_stands =
      plain_stands m c (return_scalar_refusals m (named_number w))
      (return_scalar_served m (named_number w) (scalar2_words (return_value1 w) (return_value2 w))) c

  passed_stands : (first : Vpn) (o : Option Message) → Stands (forward_served_if m (passed_number w) (forward_cid w) first o).machine
  passed_stands first None = c
  passed_stands first (Some message) =
      let from : Serial = unwrap_or (passed_from m (passed_number w)) (serial_of 0) in
      let to : Serial = unwrap_or (passed_to m (forward_cid w)) (serial_of 0) in
      let gone : Machine = change_server from (without_held message.number) m in
      arrived_stands (receiver m to) to (with_first first message)
      (record gone { ledger = pass message.number (held_place m message) (passed_place m (forward_cid w) first) m.ledger }) c

  forward_stands : StandsBy m (forward_call m w)
  unfolding forward_call
  forward_stands =
      either_stands m c (forward_refusals m (passed_number w) (forward_cid w))
      (unless_refused (next_arrival_refusals first) (Served (forward_served m (passed_number w) (forward_cid w) first)))
      (plain_stands m c (next_arrival_refusals first) (forward_served m (passed_number w) (forward_cid w) first)
      (passed_stands (unwrap_or first (record { 0 = 0 })) (passable m (passed_number w))))
    where
      first : Option Vpn
      first = next_arrival m (passed_number w) (forward_cid w)

  -- ---- any

  abbrev RowStands : ℕ → Call → Type 0
  RowStands n served = StandsBy m (served m w)

  every_row_stands : OfRows (λ n. true) RowStands call_table
  every_row_stands =
      map_stands
      also yield_stands
      also claim_stands
      also free_stands
      also increase_stands
      also decrease_stands
      also update_stands
      also create_server_stands
      also receive_stands
      also send_stands
      also connect_stands
      also create_stands
      also unmap_stands
      also return_memory_stands
      also terminate_stands
      also try_send_stands
      also try_connect_stands
      also return_scalar1_stands
      also return_scalar2_stands
      also try_receive_stands
      also join_stands
      also destroy_stands
      also of_questions (λ n. true) RowStands asked (λ n question. question_stands question) questions
      ((forward_message, forward_call) ∷ []) (forward_stands also tt)

  call_stands : StandsBy m (call m w)
  unfolding call
  call_stands =
      either_stands m c (any_refusals m w) (call_at (call_number w) call_table m w)
      (of_row (λ n. true) RowStands (call_number w) refl unhandled_call (refused_stands m c UnhandledSyscall) call_table every_row_stands)

-- ---- what comes of a step

module _ (m : Machine) (c : Stands m) where
  delivered_stands : (pid : Pid) → Stands (delivered pid m).machine
  delivered_stands pid = by (delivered pid m) (start_of pid m)
    where
      by : (change : Change) → StartCase pid m change → Stands change.machine
      by _ StartsNone = c
      by _ (Starts k claim e) = c

  -- .. also where the cursor goes to the handler's thread
  handled_stands : (pid : Pid) → is_pid m.processes pid.0 ≡ true → Stands (with_handler_next (delivered pid m)).machine
  handled_stands pid known = by (delivered pid m) (start_of pid m)
    where
      by : (change : Change) → StartCase pid m change → Stands (with_handler_next change).machine
      by _ StartsNone = c
      by _ (Starts k claim e) = rw known refl

  thread_ended_stands : (who : ThreadId) (a0 : ℕ) → Stands (settled (thread_ended who a0 m)).machine
  unfolding settled thread_ended
  thread_ended_stands who a0 = go (has_threads (put_thread who None m) who.pid)
    where
      go : (b : Bool) → Stands (end_with_last_thread b who.pid (put_thread who None m)).machine
      go true = c
      go false = death_stands (put_thread who None m) who.pid c

  executed_stands : (t : Thread) (x : Executed) → Stands (executed m t x).machine
  unfolding stored timer_set
  executed_stands t (Next regs pc) = c
  executed_stands t (Stores address width value regs pc) = c
  executed_stands t (StoresToConsole offset value regs pc) = c
  executed_stands t (StoresToTimer offset width value regs pc) = c
  executed_stands t CallsKernel = call_stands m c (arguments_of t.regs)
  executed_stands t (Traps cause value) = settled_stands (death m.cursor.pid m) (death_stands m m.cursor.pid c)

handler_ended_stands : (m : Machine) → Stands m → Stands (settled (handler_ended m.cursor.pid m)).machine
unfolding settled handler_ended
handler_ended_stands m c = delivered_stands (change_thread (thread_id m.cursor.pid 1) (with_state Idle) m) c m.cursor.pid

acted_stands : (m : Machine) (who : ThreadId) (t : Thread) → Stands (turned_to who m) → (done : Told) → ActCase m who t done → Stands done.machine
acted_stands m who t c _ (Instructs x e) = executed_stands (turned_to who m) c t x
acted_stands m who t c _ (EndsThread e) = thread_ended_stands (turned_to who m) c who (reg_at t.regs 10)
acted_stands m who t c _ (EndsHandler e) = handler_ended_stands (turned_to who m) c

-- the timer's interrupt starts a handler of a process that there is, where the machine is matched afterwards
timed_stands : (done : Told) → Stands done.machine → Matched (timed done).machine → Stands (timed done).machine
timed_stands done c h = go (is_due done.machine.compare done.machine.steps)
  where
    same : (timed done).machine ≡ record done.machine {
      cursor = (timed_raised done).cursor;
      threads = (timed_raised done).threads;
      pending = (timed_raised done).pending;
      compare = (timed_raised done).compare;
    }
    same = (timed_raised done).is

    known : (claim : Claim) → done.machine.claims TIMER_INTERRUPT ≡ Some claim → is_pid done.machine.processes claim.pid.0 ≡ true
    known claim e =
        sym (ap (λ (x : Machine). is_pid x.processes claim.pid.0) same)
        ∙ h.body.processes.pids claim.pid (h.rest.claims.living TIMER_INTERRUPT claim (ap (λ (x : Machine). x.claims TIMER_INTERRUPT) same ∙ e))

    raised : (o : Option Claim) → done.machine.claims TIMER_INTERRUPT ≡ o
        → Stands (settled (raised_by_timer o (record done.machine { compare = None }))).machine
    raised None e = settled_stands (raised_by_timer None (record done.machine { compare = None })) c
    raised (Some claim) e =
        settled_stands (raised_by_timer (Some claim) (record done.machine { compare = None }))
        (handled_stands (record done.machine { compare = None; pending = put_at nat_eq done.machine.pending TIMER_INTERRUPT true }) c
        claim.pid (known claim e))

    go : (b : Bool) → Stands (timed_if b done).machine
    go false = c
    go true = raised (done.machine.claims TIMER_INTERRUPT) refl

pub step_keeps_cursor : KeepsCursor ByStep
step_keeps_cursor m h c = go (actor m) refl
  where
    acts : (who : ThreadId) → actor m ≡ Some who → Stands (step m).machine
    acts who e =
        let act = act_of m who e in
        let there : Stands (turned_to who m) = h.body.ids.known who act.thread act.there in
        let done : Told = acted (turned_to who m) act.thread in
        let is = step_of_thread m who act.thread e act.there in
        subst Stands (sym is)
        (timed_stands (counted (turned_to who m) (Some act.thread) done) (acted_stands m who act.thread there done act.case)
        (subst Matched is (every_step_keeps m h)))

    go : (o : Option ThreadId) → actor m ≡ o → Stands (step m).machine
    go None e = subst (λ (s : Recorded). Stands s.machine) (sym (no_step m e)) c
    go (Some who) e = acts who e

-- whatever leads from a state to the next keeps the cursor so
pub every_cause_keeps_cursor : AllKeepCursor
every_cause_keeps_cursor = all_keep_cursor step_keeps_cursor
