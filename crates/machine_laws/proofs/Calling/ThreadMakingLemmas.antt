-- CreateThread and JoinThread keep the machine matched.
use Rattle.std.proofs.Common.{◌≡◌, ℕ, ◌+◌, ◌≤◌, ◌<◌, Bool, true, false, List, Option, Some, None, refl, sym, ap, ◌∙◌, arith}
use Rattle.std.specs.Prelude.{◌%◌, ◌==◌, ◌&&◌, ◌||◌, not, nat_le, is_some, is_none, unwrap_or}
use Rattle.std.specs.Option.{option_map}
use Rattle.std.proofs.lemmas.Bool.{false≢true, and_from, and_parts, or_parts}
use Rattle.std.proofs.lemmas.Bool.Decides.{nat_tests}
use Rattle.std.proofs.lemmas.Option.{none-some}
use Rattle.xk_base.specs.declared.errors.XousError.TheVariants.{BadAlignment, ThreadNotAvailable, InvalidThread}
use Rattle.xk_base.specs.declared.ids.ThreadId.{ThreadId}
use Rattle.xk_base.specs.declared.limits.TheConstants.{TID_LIMIT}
use Rattle.syscall_codec.specs.CallWords.{call_number, thread_entry, thread_sp, thread_arguments, join_tid}
use Rattle.xk_base.specs.Tables.Circle.{same_thread, is_pid, is_tid, is_thread_id}
use Rattle.xk_base.specs.Tables.Counting.{put_at}
use Rattle.syscall_codec.specs.ReplyWords.{thread_words}
use Rattle.xk_base.proofs.CountingLemmas.{least_below-bound, least_below-passes}
use Rattle.machine_model.specs.Calling.Calls.{call}
use Rattle.machine_model.specs.State.Changes.{Served, call_settled, settled, answering, first_refusal}
use Rattle.machine_model.specs.State.Machine.{Machine, Thread, ThreadState, Joining}
use Rattle.machine_model.specs.Runs.Matched.{Matched, is_living}
use Rattle.machine_model.specs.State.Order.{ready_at}
use Rattle.machine_model.specs.Calling.ThreadCalls.{free_tid, create_call, create_refusals, create_served, has_thread, join_call, join_refusals, join_served}
use Rattle.machine_model.specs.State.Threads.{answer_to, thread_id, put_thread, with_answer, with_state, passed, new_thread}
use Rattle.machine_laws.proofs.Threading.ThreadAnswerLemmas.{IsReadyThread, ready_thread, ready_put_matched, following-aligned, same_thread-self, thread_living}
use Rattle.machine_laws.proofs.Threading.ThreadMoveLemmas.{matched_moved}
use Rattle.machine_laws.proofs.Threading.ThreadPutLemmas.{IsPut, IsFit, alike, waits_at, put_keeps}
use Rattle.machine_laws.proofs.Threading.ThreadStepLemmas.{settles}
use Rattle.machine_laws.proofs.Calling.AnsweredCallLemmas.{Keeps}
use Rattle.machine_laws.proofs.Calling.ThreadCallLemmas.{answered_keeps, call_keeps, not_handler, one_passed, two_passed, unless_refused_keeps}

is_none-None : {A : Type 0} → (o : Option A) → is_none o ≡ true → o ≡ None
is_none-None None e = refl
is_none-None (Some x) e = absurd (false≢true e)

not_false : (b : Bool) → not b ≡ false → b ≡ true
not_false true e = refl
not_false false e = absurd (false≢true (sym e))

module _ (m : Machine) (h : Matched m) (ready : ready_at m m.cursor ≡ true) (w : List ℕ) where
  r : IsReadyThread m m.cursor
  r = ready_thread m m.cursor ready

  caller_known : is_thread_id m.processes m.cursor ≡ true
  caller_known = h.body.ids.known m.cursor r.thread r.there

  caller_lives : is_living m m.cursor.pid ≡ true
  caller_lives = thread_living m h m.cursor r.thread r.there

  -- ---- CreateThread

  record IsFree (tid : ℕ) : Type 0 where
    low : 2 ≤ tid
    high : tid < TID_LIMIT + 1
    none : m.threads (thread_id m.cursor.pid tid) ≡ None

  free_is_free : (tid : ℕ) → free_tid m m.cursor.pid ≡ Some tid → IsFree tid
  unfolding free_tid
  free_is_free tid e =
      let test : ((nat_le 2 tid) && is_none (m.threads (thread_id m.cursor.pid tid))) ≡ true =
      least_below-passes (TID_LIMIT + 1) (λ n. nat_le 2 n && is_none (m.threads (thread_id m.cursor.pid n))) tid e in
      let parts : (nat_le 2 tid ≡ true) × (is_none (m.threads (thread_id m.cursor.pid tid)) ≡ true) = and_parts _ _ test in
      let above : nat_le 2 tid ≡ true = parts.0 in
      record {
        low = grind (arith, nat_tests);
        high = least_below-bound (TID_LIMIT + 1) (λ n. nat_le 2 n && is_none (m.threads (thread_id m.cursor.pid n))) tid e;
        none = is_none-None (m.threads (thread_id m.cursor.pid tid)) parts.1;
      }

  module _ (tid entry sp : ℕ) (arguments : List ℕ) (free : IsFree tid) (aligned : entry % 4 ≡ 0) where
    abbrev id : ThreadId
    id = thread_id m.cursor.pid tid

    abbrev with_new : ThreadId → Option Thread
    with_new = put_at same_thread m.threads id (Some (new_thread entry sp arguments))

    new_known : is_thread_id m.processes id ≡ true
    new_known =
        let parts : (is_pid m.processes m.cursor.pid.0 ≡ true) × (is_tid m.cursor.tid.0 ≡ true) = and_parts _ _ caller_known in
        let low : 2 ≤ tid = free.low in
        let high : tid < TID_LIMIT + 1 = free.high in
        and_from (is_pid m.processes m.cursor.pid.0) (is_tid tid) parts.0 (grind (arith, nat_tests))

    new_put : IsPut m with_new id (new_thread entry sp arguments)
    new_put = record {
      here = rw (same_thread-self id) refl;
      others = λ q e. rw e refl;
      fit = tt;
      aligned = aligned;
      known = new_known;
      living = caller_lives;
      before = λ number. ap (waits_at number) free.none;
    }

    new_matched : Matched (put_thread id (Some (new_thread entry sp arguments)) m)
    new_matched =
        let later : m.steps ≤ m.steps = omega arith in
        matched_moved m h m.steps m.cursor with_new later (put_keeps m h with_new id (new_thread entry sp arguments) new_put)

    not_caller : same_thread m.cursor id ≡ false
    not_caller = go (same_thread m.cursor id) refl
      where
        go : (b : Bool) → same_thread m.cursor id ≡ b → b ≡ false
        go false e = refl
        go true e = absurd (none-some r.thread (sym free.none ∙ sym (ap m.threads (alike m.cursor id e)) ∙ r.there))

    still_ready : ready_at (put_thread id (Some (new_thread entry sp arguments)) m) m.cursor ≡ true
    still_ready = rw not_caller ready

    created_keeps : (words : List ℕ) → Keeps m (Served (answering (answer_to m.cursor words) (put_thread id (Some (new_thread entry sp arguments)) m)))
    created_keeps words = answered_keeps m (put_thread id (Some (new_thread entry sp arguments)) m) words new_matched still_ready (omega arith)

  create_served_keeps : (entry sp : ℕ) (arguments : List ℕ) → first_refusal (create_refusals m entry) ≡ None
      → Keeps m (Served (create_served m entry sp arguments))
  create_served_keeps entry sp arguments none =
      let fit : (not (entry % 4 == 0) ≡ false) × (is_none (free_tid m m.cursor.pid) ≡ false) =
      two_passed (not (entry % 4 == 0)) (is_none (free_tid m m.cursor.pid)) BadAlignment ThreadNotAvailable none in
      let even : not (entry % 4 == 0) ≡ false = fit.0 in
      let aligned : entry % 4 ≡ 0 = grind (arith, nat_tests) in
      go (free_tid m m.cursor.pid) refl fit.1 aligned
    where
      go : (o : Option ℕ) → free_tid m m.cursor.pid ≡ o → is_none o ≡ false → entry % 4 ≡ 0
          → Keeps m (Served (answering (answer_to m.cursor (thread_words (unwrap_or o 0)))
          (put_thread (thread_id m.cursor.pid (unwrap_or o 0)) (Some (new_thread entry sp arguments)) m)))
      go None q n a = absurd (false≢true (sym n))
      go (Some tid) q n a = created_keeps tid entry sp arguments (free_is_free tid q) a (thread_words tid)

  create_keeps : Keeps m (create_call m w)
  unfolding create_call
  create_keeps = unless_refused_keeps m h (create_refusals m (thread_entry w))
      (Served (create_served m (thread_entry w) (thread_sp w) (thread_arguments w)))
      (create_served_keeps (thread_entry w) (thread_sp w) (thread_arguments w))

  pub create_number_keeps : call_number w ≡ 18 → Keeps m (call m w)
  create_number_keeps e = call_keeps m h ready w 18 e (λ none. create_keeps)

  -- ---- JoinThread

  module _ (tid : ℕ) (low : 2 ≤ tid) (there : is_some (m.threads (thread_id m.cursor.pid tid)) ≡ true) (other : (tid == m.cursor.tid.0) ≡ false)
      (above : (m.cursor.tid.0 == 1) ≡ false) where
    abbrev joining : ThreadState
    joining = Joining (record { 0 = tid })

    abbrev after_join : ThreadId → Option Thread
    after_join id =
        option_map (with_answer None)
        (put_at same_thread (put_at same_thread m.threads m.cursor (option_map (with_state joining) (m.threads m.cursor))) m.cursor
        (option_map passed (put_at same_thread m.threads m.cursor (option_map (with_state joining) (m.threads m.cursor)) m.cursor)) id)

    join_here : after_join m.cursor ≡ Some (passed (with_state joining r.thread))
    join_here = rw (same_thread-self m.cursor, r.there) refl

    answer_none : (o : Option Thread) → option_map (with_answer None) o ≡ o
    answer_none None = refl
    answer_none (Some t) = refl

    join_others : (q : ThreadId) → same_thread q m.cursor ≡ false → after_join q ≡ m.threads q
    join_others q e = rw e (answer_none (m.threads q))

    stays : (q : ThreadId) → is_some (m.threads q) ≡ true → is_some (after_join q) ≡ true
    stays q e = go (same_thread q m.cursor) refl
      where
        go : (b : Bool) → same_thread q m.cursor ≡ b → is_some (after_join q) ≡ true
        go true s = ap (λ x. is_some (after_join x)) (alike q m.cursor s) ∙ ap is_some join_here
        go false s = ap is_some (join_others q s) ∙ e

    join_fit : IsFit m after_join m.cursor joining
    join_fit = (above, record { live = stays (thread_id m.cursor.pid tid) there; other = other; above = low })

    joined_matched : Matched (record m { threads = after_join })
    joined_matched = ready_put_matched m h after_join m.cursor (passed (with_state joining r.thread)) r join_here join_others join_fit
        (following-aligned r.thread.pc (h.body.threads.pcs m.cursor r.thread r.there))

    joined_keeps : Keeps m (Served (join_served m tid))
    unfolding call_settled settled
    joined_keeps = settles m (record m { threads = after_join }) (omega arith) joined_matched

  join_served_keeps : (tid : ℕ) → (m.cursor.tid.0 == 1) ≡ false → first_refusal (join_refusals m tid) ≡ None → Keeps m (Served (join_served m tid))
  join_served_keeps tid above none =
      let fit : (not (has_thread m m.cursor.pid tid) || tid == m.cursor.tid.0) ≡ false =
      one_passed (not (has_thread m m.cursor.pid tid) || tid == m.cursor.tid.0) InvalidThread none in
      let parts : (not (has_thread m m.cursor.pid tid) ≡ false) × ((tid == m.cursor.tid.0) ≡ false) = or_parts _ _ fit in
      let has : has_thread m m.cursor.pid tid ≡ true = not_false (has_thread m m.cursor.pid tid) parts.0 in
      let outer : ((nat_le 2 tid && nat_le tid TID_LIMIT) ≡ true) × (is_some (m.threads (thread_id m.cursor.pid tid)) ≡ true) = and_parts _ _ has in
      let inner : (nat_le 2 tid ≡ true) × (nat_le tid TID_LIMIT ≡ true) = and_parts _ _ outer.0 in
      let low : nat_le 2 tid ≡ true = inner.0 in
      joined_keeps tid (grind (arith, nat_tests)) outer.1 parts.1 above

  join_keeps : (m.cursor.tid.0 == 1) ≡ false → Keeps m (join_call m w)
  unfolding join_call
  join_keeps above = unless_refused_keeps m h (join_refusals m (join_tid w)) (Served (join_served m (join_tid w)))
      (join_served_keeps (join_tid w) above)

  pub join_number_keeps : call_number w ≡ 36 → Keeps m (call m w)
  join_number_keeps e = call_keeps m h ready w 36 e (λ none. join_keeps (not_handler m w none (rw e refl)))
