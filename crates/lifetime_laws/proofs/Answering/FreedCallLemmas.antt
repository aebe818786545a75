-- A served call leaves each other thread that waits, before the answers are given, unless its process dies.
use Rattle.std.proofs.Common.{◌≡◌, ℕ, ◌+◌, ◌⊎◌, inl, inr, Bool, true, false, List, [], ◌∷◌, Option, Some, None, refl, sym, ap, ◌∙◌, subst}
use Rattle.std.specs.Prelude.{◌==◌, ◌&&◌, if◌then◌else◌, is_none, nat_le, unwrap_or}
use Rattle.std.specs.Option.{option_map}
use Rattle.std.proofs.lemmas.Bool.{and_parts, eqb-true, false≢true}
use Rattle.xk_base.proofs.CountingLemmas.{least_below-passes}
use Rattle.xk_base.specs.declared.errors.XousError.TheVariants.{BadAlignment, ThreadNotAvailable}
use Rattle.xk_base.specs.declared.ids.Number.{Number}
use Rattle.xk_base.specs.declared.ids.Pid.{Pid}
use Rattle.xk_base.specs.declared.ids.Serial.{Serial}
use Rattle.xk_base.specs.declared.ids.ThreadId.{ThreadId}
use Rattle.xk_base.specs.declared.limits.TheConstants.{TID_LIMIT}
use Rattle.xk_base.specs.declared.messages.Message.{Message}
use Rattle.xk_base.specs.declared.messages.MsgKind.TheVariants.{Scalar}
use Rattle.syscall_codec.specs.CallWords.{call_number, join_tid, thread_arguments, thread_entry, thread_sp}
use Rattle.xk_base.specs.Calls.Kinds.{is_answered}
use Rattle.xk_base.specs.Tables.Circle.{same_thread}
use Rattle.call_effects.specs.Deciding.{decide, rows, unhandled_row}
use Rattle.call_effects.specs.Effects.{Waits}
use Rattle.call_effects.specs.Footprints.{ThreadsPart, footprints}
use Rattle.call_effects.specs.Rows.MessageRows.{taken_or}
use Rattle.call_effects.specs.Rows.ThreadRows.{create_row, terminate_row}
use Rattle.call_effects.specs.Verdicts.{Row, answers_nobody}
use Rattle.call_effects.proofs.FootprintLemmas.{calls_leave_the_rest}
use Rattle.call_effects.proofs.MeantLemmas.{calls_meant}
use Rattle.machine_model.proofs.Calling.TableLemmas.{OfRows, of_row, ◌also◌}
use Rattle.call_effects.proofs.ServedLemmas.{OfPlan, OfServed, done, of_plan}
use Rattle.machine_laws.proofs.Calling.ThreadCallLemmas.{two_passed}
use Rattle.machine_laws.proofs.Threading.ThreadPutLemmas.{alike}
use Rattle.machine_model.specs.Calling.Calls.{call}
use Rattle.machine_model.specs.Calling.ServerCalls.{named_server, named_sid}
use Rattle.machine_model.specs.Calling.ThreadCalls.{free_tid}
use Rattle.machine_model.specs.Ending.Closing.{closed, senders_held_gone, senders_queued_gone}
use Rattle.machine_model.specs.Ending.Ends.{forgotten}
use Rattle.machine_model.specs.Messaging.Messages.{new_number}
use Rattle.machine_model.specs.Messaging.ReceiveCalls.{oldest_queued}
use Rattle.machine_model.specs.Messaging.SendCalls.{named_kind, sender_left}
use Rattle.machine_model.specs.State.Changes.{Change, Served}
use Rattle.machine_model.specs.State.Machine.{Joining, Machine, Receiving, Thread, ThreadState, Waiting}
use Rattle.machine_model.specs.State.Threads.{new_thread, thread_id, with_state}
use Rattle.transcript_laws.specs.Answering.{is_waiting}
use Rattle.transcript_laws.proofs.Turning.FootprintLemmas.{is_number_of, unnamed_by}

-- the calls that can change threads
abbrev is_threads : ℕ → Bool
is_threads number = is_number_of ThreadsPart number footprints

module _ (m : Machine) (w : List ℕ) (id : ThreadId) (waits : is_waiting (m.threads id) ≡ true) (apart : same_thread id m.cursor ≡ false) where
  abbrev pub Leaves : Change → Type 0
  Leaves change = (change.machine.threads id ≡ m.threads id) ⊎ (change.gone ≡ Some id.pid)

  abbrev OfCall : ℕ → Row → Type 0
  OfCall k row = OfPlan (λ plan. Leaves (done m plan)) (row m w)

  -- the caller alone waits
  caller_waits : (state : ThreadState)
      → (if same_thread id m.cursor then option_map (with_state state) (m.threads m.cursor) else m.threads id) ≡ m.threads id
  caller_waits state = ap (λ b. if b then option_map (with_state state) (m.threads m.cursor) else m.threads id) apart

  taken : (serial : Serial) (o : Option Message)
      → OfPlan (λ plan. Leaves (done m plan)) (taken_or m serial o (answers_nobody (Waits m.cursor (Receiving serial) ∷ [])))
  taken serial None = inl (caller_waits (Receiving serial))
  taken serial (Some message) = inl refl

  sender_waits : (b : Bool) (number : Number) (x : Machine) → x.threads ≡ m.threads → x.cursor ≡ m.cursor
      → (sender_left b number x).threads id ≡ m.threads id
  sender_waits true number x same cursor =
      (λ i. if same_thread id (cursor i) then option_map (with_state (Waiting number)) (same i (cursor i)) else same i id) ∙ caller_waits (Waiting number)
  sender_waits false number x same cursor = ap (λ (f : ThreadId → Option Thread). f id) same

  made : (tid : ℕ) (thread : Thread) → is_none (m.threads (thread_id m.cursor.pid tid)) ≡ true
      → (if same_thread id (thread_id m.cursor.pid tid) then Some thread else m.threads id) ≡ m.threads id
  made tid thread none = go (same_thread id (thread_id m.cursor.pid tid)) refl
    where
      free : (o : Option Thread) → is_none o ≡ true → is_waiting o ≡ false
      free None e = refl
      free (Some x) e = absurd (false≢true e)

      go : (b : Bool) → same_thread id (thread_id m.cursor.pid tid) ≡ b → (if b then Some thread else m.threads id) ≡ m.threads id
      go true e =
          absurd (false≢true (sym (ap (λ x. is_waiting (m.threads x)) (alike id (thread_id m.cursor.pid tid) e)
          ∙ free (m.threads (thread_id m.cursor.pid tid)) none) ∙ waits))
      go false e = refl

  created : OfPlan (λ plan. Leaves (done m plan)) (create_row m w)
  unfolding free_tid
  created none = inl (go (free_tid m m.cursor.pid) refl (two_passed _ (is_none (free_tid m m.cursor.pid)) BadAlignment ThreadNotAvailable none).1)
    where
      thread : Thread
      thread = new_thread (thread_entry w) (thread_sp w) (thread_arguments w)

      go : (o : Option ℕ) → free_tid m m.cursor.pid ≡ o → is_none o ≡ false
          → (if same_thread id (thread_id m.cursor.pid (unwrap_or o 0)) then Some thread else m.threads id) ≡ m.threads id
      go None e some = absurd (false≢true (sym some))
      go (Some tid) e some =
          made tid thread
          (and_parts (nat_le 2 tid) (is_none (m.threads (thread_id m.cursor.pid tid)))
          (least_below-passes (TID_LIMIT + 1) (λ k. nat_le 2 k && is_none (m.threads (thread_id m.cursor.pid k))) tid e)).1

  -- a death takes the threads of its process
  pub dead_leaves : (pid : Pid) (x : Machine) → x.threads id ≡ m.threads id
      → ((if id.pid.0 == pid.0 then None else x.threads id) ≡ m.threads id) ⊎ (Some pid ≡ Some id.pid)
  dead_leaves pid x same = go (id.pid.0 == pid.0) refl
    where
      go : (b : Bool) → (id.pid.0 == pid.0) ≡ b → ((if b then None else x.threads id) ≡ m.threads id) ⊎ (Some pid ≡ Some id.pid)
      go true e = inr (λ i. Some (record { 0 = sym (eqb-true id.pid.0 pid.0 e) i }))
      go false e = inl same

  terminated : OfPlan (λ plan. Leaves (done m plan)) (terminate_row m w)
  unfolding closed senders_queued_gone senders_held_gone forgotten
  terminated = dead_leaves m.cursor.pid m refl

  each : OfRows is_threads OfCall rows
  each =
      (λ none. taken (named_server m (named_sid w)) (oldest_queued m (named_server m (named_sid w))))
      also (λ none kept found. inl (sender_waits (is_answered (unwrap_or (named_kind w) Scalar)) (new_number m) _ refl refl))
      also created
      also terminated
      also (λ none found. inl (sender_waits (is_answered (unwrap_or (named_kind w) Scalar)) (new_number m) _ refl refl))
      also (λ none. inl (caller_waits (Joining (record { 0 = join_tid w }))))
      also tt

  by_row : is_threads (call_number w) ≡ true → OfServed Leaves (call m w)
  unfolding decide
  by_row is =
      subst (OfServed Leaves) (sym (calls_meant m w))
      (of_plan Leaves m (decide m w) (λ none. of_row is_threads OfCall (call_number w) is unhandled_row tt rows each))

  pub call_leaves : (change : Change) → call m w ≡ Served change → Leaves change
  call_leaves change e = go (is_threads (call_number w)) refl
    where
      go : (b : Bool) → is_threads (call_number w) ≡ b → Leaves change
      go true is = subst (OfServed Leaves) e (by_row is)
      go false other =
          inl (ap (λ (f : ThreadId → Option Thread). f id) ((calls_leave_the_rest m w change e).threads (unnamed_by ThreadsPart (call_number w) other)))
