-- A thread waits for a message at a server of its process, whose queue is empty.
use Rattle.std.proofs.Common.{◌≡◌, ◌+◌, Bool, true, false, inl, inr, Option, Some, None, refl, sym, ap, ◌∙◌, arith, subst}
use Rattle.std.specs.Prelude.{◌==◌, if◌then◌else◌}
use Rattle.std.specs.Option.{option_map, option_map_or}
use Rattle.xk_base.specs.declared.ids.Number.{Number}
use Rattle.xk_base.specs.declared.ids.Serial.{Serial}
use Rattle.xk_base.specs.declared.ids.ThreadId.{ThreadId}
use Rattle.xk_base.specs.Tables.Circle.{same_thread}
use Rattle.xk_base.specs.Tables.Counting.{put_at}
use Rattle.machine_model.specs.Messaging.ReceiveCalls.{waits_at}
use Rattle.machine_model.specs.Runs.Matched.{AreReceiversMatched, IsServerAwaited, Matched, is_waiting_for, waits_for}
use Rattle.machine_model.specs.State.Changes.{Served, call_settled, settled}
use Rattle.machine_model.specs.State.Machine.{Machine, Thread, ThreadState, Receiving}
use Rattle.machine_model.specs.State.Order.{ready_at}
use Rattle.machine_model.specs.State.Threads.{passed, with_answer, with_state}
use Rattle.machine_laws.proofs.Calling.AnsweredCallLemmas.{Keeps}
use Rattle.machine_laws.proofs.Messaging.PutThreadLemmas.{AreMatchedAlone, found, put, put_alone, put_or_was, put_waits}
use Rattle.machine_laws.proofs.Threading.ThreadAnswerLemmas.{IsReadyThread, following-aligned, ready_thread, same_thread-self}
use Rattle.machine_laws.proofs.Threading.ThreadMoveLemmas.{KeepsThreads, matched_moved}
use Rattle.machine_laws.proofs.Threading.ThreadPutLemmas.{alike}

module _ (m : Machine) (h : Matched m) (ready : ready_at m m.cursor ≡ true) (serial : Serial) (above : (m.cursor.tid.0 == 1) ≡ false)
    (w : IsServerAwaited m.servers m.cursor.pid serial) where
  r : IsReadyThread m m.cursor
  r = ready_thread m m.cursor ready

  abbrev next : Thread
  next = passed (with_state (Receiving serial) r.thread)

  abbrev waiting : ThreadId → Option Thread
  waiting = put m.threads m.cursor next

  alone : AreMatchedAlone m.processes m.process waiting
  alone =
      put_alone m.threads m.cursor next m.processes m.process r.thread r.there
      (following-aligned r.thread.pc (h.body.threads.pcs m.cursor r.thread r.there)) above
      (record { joiners = h.body.joiners; threads = h.body.threads; ids = h.body.ids })

  same_waits : (who : ThreadId) (number : Number) → waits_for m.threads who number ≡ waits_for waiting who number
  same_waits who number = go (same_thread who m.cursor) refl ∙ sym (put_waits m.threads m.cursor next who number)
    where
      go : (b : Bool) → same_thread who m.cursor ≡ b
          → waits_for m.threads who number
          ≡ (if same_thread who m.cursor then is_waiting_for number next.state else waits_for m.threads who number)
      go true q =
          ap (λ o. option_map_or (λ (t : Thread). is_waiting_for number t.state) o false) (ap m.threads (alike who m.cursor q) ∙ r.there)
          ∙ ap (is_waiting_for number) r.ready ∙ sym (ap (λ b. if b then false else waits_for m.threads who number) q)
      go false q = sym (ap (λ b. if b then false else waits_for m.threads who number) q)

  -- where a thread of that state is Receiving
  serial_in : ThreadState → Serial
  serial_in (Receiving at) = at
  serial_in _ = serial

  receivers_then : AreReceiversMatched waiting m.servers
  unfolding serial_in
  receivers_then id u at e s = elim (put_or_was m.threads m.cursor next id) [
    | inl f ↦
        subst (λ (q : Serial). IsServerAwaited m.servers id.pid q)
        (ap (λ (t : Thread). serial_in t.state) (found m.threads m.cursor next id u e f) ∙ ap serial_in s)
        (subst (λ (q : ThreadId). IsServerAwaited m.servers q.pid serial) (sym f) w)
    | inr f ↦ h.body.receivers id u at (sym f ∙ e) s
  ]

  keeps : KeepsThreads m waiting
  keeps = record {
    waits = same_waits;
    receivers = receivers_then;
    joiners = alone.joiners;
    threads = alone.threads;
    ids = alone.ids;
  }

  -- the caller's thread before it is past its call
  abbrev told : ThreadId → Option Thread
  told = put_at same_thread m.threads m.cursor (option_map (with_state (Receiving serial)) (m.threads m.cursor))

  same_threads : (id : ThreadId)
      → waiting id ≡ option_map (with_answer None) (put_at same_thread told m.cursor (option_map passed (told m.cursor)) id)
  same_threads id = go (same_thread id m.cursor)
    where
      here : option_map passed (told m.cursor) ≡ Some next
      here =
          ap (λ b. option_map passed (if b then option_map (with_state (Receiving serial)) (m.threads m.cursor) else m.threads m.cursor))
          (same_thread-self m.cursor)
          ∙ ap (λ o. option_map passed (option_map (with_state (Receiving serial)) o)) r.there

      unanswered : (o : Option Thread) → o ≡ option_map (with_answer None) o
      unanswered None = refl
      unanswered (Some t) = refl

      go : (q : Bool) → (if q then Some next else m.threads id)
          ≡ option_map (with_answer None) (if q then option_map passed (told m.cursor)
          else (if q then option_map (with_state (Receiving serial)) (m.threads m.cursor) else m.threads id))
      go true = sym (ap (option_map (with_answer None)) here)
      go false = unanswered (m.threads id)

  pub wait_keeps : Keeps m (Served (waits_at serial m))
  unfolding call_settled settled
  wait_keeps =
      subst (λ t. Matched (record m { threads = t; steps = m.steps + 1 })) (λ i id. same_threads id i)
      (matched_moved m h (m.steps + 1) m.cursor waiting (omega arith) keeps)
