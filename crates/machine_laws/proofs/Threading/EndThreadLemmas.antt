-- The end of a thread whose process has others keeps the machine matched: it goes, and who joined it is answered.
use Rattle.std.proofs.Common.{◌≡◌, ℕ, ◌+◌, ◌≤◌, Bool, true, false, inl, Option, Some, None, refl, sym, ap, ◌∙◌, arith, subst}
use Rattle.std.specs.Prelude.{◌%◌, ◌==◌, ◌&&◌, nat_le, is_some, if◌then◌else◌}
use Rattle.std.specs.Option.{option_map, option_or}
use Rattle.std.proofs.lemmas.Bool.{eqb-true, false≢true, and_from, and_left, and_parts}
use Rattle.std.proofs.lemmas.Bool.Decides.{nat_tests}
use Rattle.std.proofs.lemmas.Option.{none-some, same_Some}
use Rattle.xk_base.specs.declared.ids.Number.{Number}
use Rattle.xk_base.specs.declared.ids.Pid.{Pid}
use Rattle.xk_base.specs.declared.ids.Serial.{Serial}
use Rattle.xk_base.specs.declared.ids.ThreadId.{ThreadId}
use Rattle.xk_base.specs.declared.ids.Tid.{Tid}
use Rattle.xk_base.specs.declared.limits.TheConstants.{TID_LIMIT}
use Rattle.xk_base.specs.Tables.Circle.{same_thread, is_thread_id}
use Rattle.xk_base.specs.Tables.Counting.{put_at, least_below}
use Rattle.xk_base.specs.Calls.Registers.{with_arguments}
use Rattle.syscall_codec.specs.ReplyWords.{scalar1_words}
use Rattle.xk_base.proofs.CountingLemmas.{least_below-passes}
use Rattle.machine_model.specs.State.Changes.{Change, settled, only}
use Rattle.machine_model.specs.Runs.Kept.{Settles}
use Rattle.machine_model.specs.Ending.Ends.{is_joining, waits_for_end, joiners_answered, has_threads, end_with_last_thread, thread_ended}
use Rattle.machine_model.specs.State.Machine.{Machine, Thread, ThreadState, Ready, Receiving, Waiting, Joining, Idle}
use Rattle.machine_model.specs.Runs.Matched.{Matched, AreJoinersMatched, AreReceiversMatched, IsServerAwaited, IsThreadAwaited, HasHandlerThread, HasThreadAbove, is_living, is_waiting_for}
use Rattle.machine_model.specs.State.Order.{is_ready, ready_at}
use Rattle.machine_model.specs.State.Threads.{thread_id, put_thread, both_answers, with_answer}
use Rattle.machine_laws.proofs.Threading.ThreadAnswerLemmas.{IsReadyThread, ready_thread}
use Rattle.machine_laws.proofs.Threading.ThreadMoveLemmas.{KeepsThreads, matched_moved}
use Rattle.machine_laws.proofs.Threading.ThreadPutLemmas.{alike, waits_at}

joins : (tid : Tid) (s : ThreadState) → is_joining tid s ≡ true → s ≡ Joining tid
joins tid Ready e = absurd (false≢true e)
joins tid (Receiving serial) e = absurd (false≢true e)
joins tid (Waiting number) e = absurd (false≢true e)
joins tid (Joining other) e = let same : other.0 ≡ tid.0 = eqb-true other.0 tid.0 e in λ i. Joining (record { 0 = same i })
joins tid Idle e = absurd (false≢true e)

-- states that differ
not_receiving : {A : Type 0} → (serial : Serial) → Ready ≡ Receiving serial → A
not_receiving serial e = absurd (false≢true (sym (ap is_ready e)))

not_joining : {A : Type 0} → (tid : Tid) → Ready ≡ Joining tid → A
not_joining tid e = absurd (false≢true (sym (ap is_ready e)))

not_idle : {A : Type 0} → Ready ≡ Idle → A
not_idle e = absurd (false≢true (sym (ap is_ready e)))

module _ (m : Machine) (h : Matched m) (who : ThreadId) (a0 : ℕ) (ready : ready_at m who ≡ true) (low : 2 ≤ who.tid.0) where
  abbrev answer : Thread → Thread
  answer t = record t { regs = with_arguments (scalar1_words a0) t.regs; state = Ready }

  abbrev ended : Bool → Bool → Option Thread → Option Thread
  ended gone joined o = option_map (with_answer (option_or (if joined then Some (scalar1_words a0) else None) None)) (if gone then None else o)

  abbrev new : ThreadId → Option Thread
  new id = ended (same_thread id who) (waits_for_end who id (m.threads id)) (m.threads id)

  data AfterEnd (id : ThreadId) : Type 0 where
    Gone : id ≡ who → new id ≡ None → AfterEnd id
    Kept : new id ≡ m.threads id → waits_for_end who id (m.threads id) ≡ false → AfterEnd id
    Answered : (u : Thread) → m.threads id ≡ Some u → new id ≡ Some (answer u) → u.state ≡ Joining who.tid → AfterEnd id

  kept : (o : Option Thread) → ended false false o ≡ o
  kept None = refl
  kept (Some t) = refl

  split : (id : ThreadId) → AfterEnd id
  split id = go (same_thread id who) (waits_for_end who id (m.threads id)) refl refl
    where
      answered : (o : Option Thread) → m.threads id ≡ o → same_thread id who ≡ false → waits_for_end who id o ≡ true → AfterEnd id
      answered None e q w = absurd (false≢true w)
      answered (Some u) e q w =
          let parts : ((id.pid.0 == who.pid.0) ≡ true) × (is_joining who.tid u.state ≡ true) = and_parts (id.pid.0 == who.pid.0) (is_joining who.tid u.state) w in
          Answered u e (rw (q, e, w) refl) (joins who.tid u.state parts.1)

      go : (a b : Bool) → same_thread id who ≡ a → waits_for_end who id (m.threads id) ≡ b → AfterEnd id
      go true b p q = Gone (alike id who p) (rw p refl)
      go false false p q = Kept (rw (p, q) (kept (m.threads id))) q
      go false true p q = answered (m.threads id) refl p q

  r : IsReadyThread m who
  r = ready_thread m who ready

  waits : (id : ThreadId) (number : Number) → waits_at number (m.threads id) ≡ waits_at number (new id)
  waits id number = go (split id)
    where
      go : AfterEnd id → waits_at number (m.threads id) ≡ waits_at number (new id)
      go (Gone p n) =
          ap (λ q. waits_at number (m.threads q)) p ∙ ap (waits_at number) r.there ∙ ap (is_waiting_for number) r.ready
          ∙ sym (ap (waits_at number) n)
      go (Kept n w) = ap (waits_at number) (sym n)
      go (Answered u e n s) = ap (waits_at number) e ∙ ap (is_waiting_for number) s ∙ sym (ap (waits_at number) n)

  receivers : AreReceiversMatched new m.servers
  receivers id t serial e s = go (split id)
    where
      go : AfterEnd id → IsServerAwaited m.servers id.pid serial
      go (Gone p n) = absurd (none-some t (sym n ∙ e))
      go (Kept n w) = h.body.receivers id t serial (sym n ∙ e) s
      go (Answered u f n q) = not_receiving serial (ap (λ (x : Thread). x.state) (same_Some (answer u) t (sym n ∙ e)) ∙ s)

  stays : (id : ThreadId) → same_thread id who ≡ false → is_some (m.threads id) ≡ true → is_some (new id) ≡ true
  stays id p e = rw p (there (m.threads id) (waits_for_end who id (m.threads id)) e)
    where
      there : (o : Option Thread) (b : Bool) → is_some o ≡ true → is_some (ended false b o) ≡ true
      there None b q = q
      there (Some t) b q = refl

  joiners : AreJoinersMatched new
  joiners id t tid e s = go (split id)
    where
      go : AfterEnd id → IsThreadAwaited new id tid
      go (Gone p n) = absurd (none-some t (sym n ∙ e))
      go (Answered u f n q) = not_joining tid (ap (λ (x : Thread). x.state) (same_Some (answer u) t (sym n ∙ e)) ∙ s)
      go (Kept n w) =
          let there : m.threads id ≡ Some t = sym n ∙ e in
          let awaited : IsThreadAwaited m.threads id tid = h.body.joiners id t tid there s in
          let target : ThreadId = record { pid = id.pid; tid = tid } in
          let apart : same_thread target who ≡ false = other (same_thread target who) refl there w in
          record { live = stays target apart awaited.live; other = awaited.other; above = awaited.above }
        where
          other : (b : Bool) → same_thread (record { pid = id.pid; tid = tid }) who ≡ b → m.threads id ≡ Some t → waits_for_end who id (m.threads id) ≡ false → b ≡ false
          other false q there w = refl
          other true q there w =
              let parts : ((id.pid.0 == who.pid.0) ≡ true) × ((tid.0 == who.tid.0) ≡ true) = and_parts (id.pid.0 == who.pid.0) (tid.0 == who.tid.0) q in
              absurd (false≢true (sym w ∙ ap (waits_for_end who id) there
              ∙ and_from (id.pid.0 == who.pid.0) (is_joining who.tid t.state) parts.0 (ap (is_joining who.tid) s ∙ parts.1)))

  handler : (pid : Pid) → is_living m pid ≡ true → HasHandlerThread new pid
  handler pid l = go (split (thread_id pid 1)) (h.body.threads.handler pid l)
    where
      go : AfterEnd (thread_id pid 1) → HasHandlerThread m.threads pid → HasHandlerThread new pid
      go (Gone p n) old =
          let first : 1 ≡ who.tid.0 = ap (λ (x : ThreadId). x.tid.0) p in
          absurd (omega arith)
      go (Kept n w) old = (old.0, n ∙ old.1, old.2)
      go (Answered u f n q) old = (answer u, n, inl refl)

  idle : (id : ThreadId) (t : Thread) → new id ≡ Some t → t.state ≡ Idle → (id.tid.0 ≡ 1) × (is_living m id.pid ≡ true)
  idle id t e s = go (split id)
    where
      go : AfterEnd id → (id.tid.0 ≡ 1) × (is_living m id.pid ≡ true)
      go (Gone p n) = absurd (none-some t (sym n ∙ e))
      go (Kept n w) = h.body.threads.idle id t (sym n ∙ e) s
      go (Answered u f n q) = not_idle (ap (λ (x : Thread). x.state) (same_Some (answer u) t (sym n ∙ e)) ∙ s)

  pcs : (id : ThreadId) (t : Thread) → new id ≡ Some t → t.pc % 4 ≡ 0
  pcs id t e = go (split id)
    where
      go : AfterEnd id → t.pc % 4 ≡ 0
      go (Gone p n) = absurd (none-some t (sym n ∙ e))
      go (Kept n w) = h.body.threads.pcs id t (sym n ∙ e)
      go (Answered u f n q) = sym (ap (λ (x : Thread). x.pc % 4) (same_Some (answer u) t (sym n ∙ e))) ∙ h.body.threads.pcs id u f

  known : (id : ThreadId) (t : Thread) → new id ≡ Some t → is_thread_id m.processes id ≡ true
  known id t e = go (split id)
    where
      go : AfterEnd id → is_thread_id m.processes id ≡ true
      go (Gone p n) = absurd (none-some t (sym n ∙ e))
      go (Kept n w) = h.body.ids.known id t (sym n ∙ e)
      go (Answered u f n q) = h.body.ids.known id u f

  living : (id : ThreadId) (t : Thread) → new id ≡ Some t → is_living m id.pid ≡ true
  living id t e = go (split id)
    where
      go : AfterEnd id → is_living m id.pid ≡ true
      go (Gone p n) = absurd (none-some t (sym n ∙ e))
      go (Kept n w) = h.body.ids.living id t (sym n ∙ e)
      go (Answered u f n q) = h.body.ids.living id u f

  -- ---- where the process has another thread

  module _ (others : has_threads (put_thread who None m) who.pid ≡ true) where
    abbrev there_without : ℕ → Bool
    there_without tid = nat_le 2 tid && is_some (put_at same_thread m.threads who None (thread_id who.pid tid))

    above_own : HasThreadAbove new who.pid
    unfolding has_threads
    above_own = go (least_below (TID_LIMIT + 1) there_without) refl others
      where
        is_there : (b : Bool) (o : Option Thread) → is_some (if b then None else o) ≡ true → (b ≡ false) × (is_some o ≡ true)
        is_there true o e = absurd (false≢true e)
        is_there false o e = (refl, e)

        go : (o : Option ℕ) → least_below (TID_LIMIT + 1) there_without ≡ o → is_some o ≡ true → HasThreadAbove new who.pid
        go None e q = absurd (false≢true q)
        go (Some tid) e q =
            let parts : (nat_le 2 tid ≡ true) × (is_some (put_at same_thread m.threads who None (thread_id who.pid tid)) ≡ true) =
            and_parts (nat_le 2 tid) (is_some (put_at same_thread m.threads who None (thread_id who.pid tid)))
            (least_below-passes (TID_LIMIT + 1) there_without tid e) in
            let high : nat_le 2 tid ≡ true = parts.0 in
            let found : (same_thread (thread_id who.pid tid) who ≡ false) × (is_some (m.threads (thread_id who.pid tid)) ≡ true) =
            is_there (same_thread (thread_id who.pid tid) who) (m.threads (thread_id who.pid tid)) parts.1 in
            (tid, grind (arith, nat_tests), stays (thread_id who.pid tid) found.0 found.1)

    above : (pid : Pid) → is_living m pid ≡ true → HasThreadAbove new pid
    above pid l = go (pid.0 == who.pid.0) refl (h.body.threads.above pid l)
      where
        go : (b : Bool) → (pid.0 == who.pid.0) ≡ b → HasThreadAbove m.threads pid → HasThreadAbove new pid
        go true q old =
            let same : pid.0 ≡ who.pid.0 = eqb-true pid.0 who.pid.0 q in
            subst (HasThreadAbove new) (λ i. record { 0 = sym same i }) above_own
        go false q old = (old.0, old.1, stays (thread_id pid old.0) (and_left (pid.0 == who.pid.0) (old.0 == who.tid.0) q) old.2)

    threads_keep : KeepsThreads m new
    threads_keep = record {
      waits = waits;
      receivers = receivers;
      joiners = joiners;
      threads = record { handler = handler; above = above; idle = idle; pcs = pcs };
      ids = record { known = known; living = living };
    }

    abbrev next : Machine
    next = record m { threads = new }

    ended_settles : Settles m next
    ended_settles =
        let later : m.steps ≤ m.steps + 1 = omega arith in
        matched_moved m h (m.steps + 1) m.cursor new later threads_keep

    abbrev left_by : Change → Machine
    left_by left = (settled (record left { answers = both_answers (joiners_answered m who a0) left.answers })).machine

    is_ended : left_by (only (put_thread who None m)) ≡ next
    unfolding settled
    is_ended = refl

    pub thread_end_keeps : Settles m (settled (thread_ended who a0 m)).machine
    unfolding thread_ended
    thread_end_keeps =
        subst (λ b. Settles m (left_by (end_with_last_thread b who.pid (put_thread who None m)))) (sym others)
        (subst (Settles m) (sym is_ended) ended_settles)
