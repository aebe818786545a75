-- A process dies by a call of it, and by the end of its last thread above tid 1: it dies as if the thread were still there, and
-- nobody had joined it.
use Rattle.std.proofs.Common.{◌≡◌, ℕ, ◌<◌, ◌≤◌, Bool, true, false, Option, Some, None, refl, sym, ap, ◌∙◌, arith, inl, inr, ◌⊎◌}
use Rattle.std.specs.Prelude.{◌==◌, ◌&&◌, nat_le, is_some, if◌then◌else◌}
use Rattle.std.proofs.lemmas.Bool.{eqb-true, false≢true, le-leb}
use Rattle.std.proofs.lemmas.Bool.Decides.{nat_tests}
use Rattle.std.proofs.lemmas.Option.{same_Some}
use Rattle.syscall_codec.specs.ReplyWords.{scalar1_words}
use Rattle.xk_base.specs.Tables.Circle.{is_thread_id, same_thread}
use Rattle.xk_base.specs.declared.ids.ThreadId.{ThreadId}
use Rattle.xk_base.proofs.CircleLemmas.{same_ids}
use Rattle.xk_base.proofs.CountingLemmas.{least_below-none}
use Rattle.machine_laws.proofs.Dying.DeathStepLemmas.{same_death}
use Rattle.machine_laws.proofs.Threading.ThreadAnswerLemmas.{IsReadyThread, ready_thread}
use Rattle.machine_laws.proofs.Threading.ThreadPutLemmas.{alike}
use Rattle.machine_model.specs.Ending.Ends.{death, end_with_last_thread, has_threads, is_joining, joiners_answered, thread_ended, waits_for_end}
use Rattle.machine_model.specs.Runs.Matched.{HasHandlerThread, Matched, is_living}
use Rattle.machine_model.specs.State.Changes.{Change, settled}
use Rattle.machine_model.specs.State.Machine.{Machine, Thread, ThreadState, Idle, Ready}
use Rattle.machine_model.specs.State.Order.{ready_at}
use Rattle.machine_model.specs.State.Threads.{Answers, both_answers, no_answers, put_thread, thread_id}

-- the process of a thread that is Ready lives
pub ready_lives : (m : Machine) → Matched m → (who : ThreadId) → ready_at m who ≡ true → is_living m who.pid ≡ true
ready_lives m h who ready = let r : IsReadyThread m who = ready_thread m who ready in h.body.ids.living who r.thread r.there

-- ---- the last thread

none_of : {A : Type 0} (o : Option A) → is_some o ≡ false → o ≡ None
none_of None e = refl
none_of (Some x) e = absurd (false≢true (sym e))

module _ (m : Machine) (h : Matched m) (who : ThreadId) (ready : ready_at m who ≡ true) (last : has_threads (put_thread who None m) who.pid ≡ false) where
  abbrev without : Machine
  without = put_thread who None m

  -- no thread above tid 1 is left
  none_above : (tid : ℕ) → 2 ≤ tid → tid < 32 → is_some (without.threads (thread_id who.pid tid)) ≡ false
  unfolding has_threads
  none_above tid low high =
      ap (λ b. b && is_some (without.threads (thread_id who.pid tid))) (sym (le-leb 2 tid low))
      ∙ least_below-none 32 (λ tid. nat_le 2 tid && is_some (without.threads (thread_id who.pid tid))) (none_of _ last) tid high

  not_joining : (s : ThreadState) → (s ≡ Ready) ⊎ (s ≡ Idle) → is_joining who.tid s ≡ false
  not_joining s (inl e) = ap (is_joining who.tid) e
  not_joining s (inr e) = ap (is_joining who.tid) e

  -- of its threads only tid 1 and the thread itself are there, and neither waits for an end
  own_waits_not : (id : ThreadId) (t : Thread) → m.threads id ≡ Some t → id.pid.0 ≡ who.pid.0 → is_joining who.tid t.state ≡ false
  own_waits_not id t e own = by_self (same_thread id who) refl
    where
      r : IsReadyThread m who
      r = ready_thread m who ready

      known : is_thread_id m.processes id ≡ true
      known = h.body.ids.known id t e

      handler : HasHandlerThread m.threads id.pid
      handler = h.body.threads.handler id.pid (h.body.ids.living id t e)

      by_tid : same_thread id who ≡ false → (id.tid.0 ≡ 1) ⊎ (2 ≤ id.tid.0) → is_joining who.tid t.state ≡ false
      by_tid other (inl one) =
          let same : thread_id id.pid 1 ≡ id = same_ids (thread_id id.pid 1) id refl (sym one) in
          let is : t ≡ handler.0 = same_Some t handler.0 (sym e ∙ sym (ap m.threads same) ∙ handler.1) in
          ap (λ (u : Thread). is_joining who.tid u.state) is ∙ not_joining handler.0.state handler.2
      by_tid other (inr high) =
          let within : id.tid.0 < 32 = grind (arith, nat_tests) in
          let same : thread_id who.pid id.tid.0 ≡ id = same_ids (thread_id who.pid id.tid.0) id (sym own) refl in
          let there : is_some (without.threads id) ≡ true = ap (λ b. is_some (if b then None else m.threads id)) other ∙ ap is_some e in
          absurd (false≢true (sym (none_above id.tid.0 high within) ∙ ap (λ q. is_some (without.threads q)) same ∙ there))

      one_or_more : (id.tid.0 ≡ 1) ⊎ (2 ≤ id.tid.0)
      one_or_more = by_one (id.tid.0 == 1) refl
        where
          by_one : (b : Bool) → (id.tid.0 == 1) ≡ b → (id.tid.0 ≡ 1) ⊎ (2 ≤ id.tid.0)
          by_one true q = inl (eqb-true id.tid.0 1 q)
          by_one false q = inr (grind (arith, nat_tests))

      by_self : (b : Bool) → same_thread id who ≡ b → is_joining who.tid t.state ≡ false
      by_self true q =
          let is : t ≡ r.thread = same_Some t r.thread (sym e ∙ ap m.threads (alike id who q) ∙ r.there) in
          ap (λ (u : Thread). is_joining who.tid u.state) is ∙ ap (is_joining who.tid) r.ready
      by_self false q = by_tid q one_or_more

  waits_not : (id : ThreadId) (o : Option Thread) → m.threads id ≡ o → waits_for_end who id o ≡ false
  waits_not id None e = refl
  waits_not id (Some t) e = by_pid (id.pid.0 == who.pid.0) refl
    where
      by_pid : (b : Bool) → (id.pid.0 == who.pid.0) ≡ b → ((id.pid.0 == who.pid.0) && is_joining who.tid t.state) ≡ false
      by_pid false q = ap (λ b. b && is_joining who.tid t.state) q
      by_pid true q = ap (λ b. b && is_joining who.tid t.state) q ∙ own_waits_not id t e (eqb-true id.pid.0 who.pid.0 q)

  nobody_joins : (a0 : ℕ) → joiners_answered m who a0 ≡ no_answers
  nobody_joins a0 = λ i id. if waits_not id (m.threads id) refl i then Some (scalar1_words a0) else None

  abbrev with_joiners : Answers → Change → Change
  with_joiners joiners left = record left { answers = both_answers joiners left.answers }

  -- THE END of the thread is the death of its process
  pub last_dies : (a0 : ℕ) → settled (thread_ended who a0 m) ≡ settled (death who.pid m)
  unfolding thread_ended
  last_dies a0 =
      ap (λ b. settled (with_joiners (joiners_answered m who a0) (end_with_last_thread b who.pid without))) last
      ∙ ap (λ joiners. settled (with_joiners joiners (death who.pid without))) (nobody_joins a0)
      ∙ ap settled (same_death who m)
