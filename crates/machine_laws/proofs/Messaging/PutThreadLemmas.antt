-- A Ready thread is put into the state in which it waits, or stays Ready: what is matched of the threads alone, whatever the servers
-- and messages are.
use Rattle.std.proofs.Common.{◌≡◌, ℕ, Bool, true, false, ◌⊎◌, inl, inr, Option, Some, refl, sym, ap, ◌∙◌, subst}
use Rattle.std.specs.Prelude.{◌%◌, ◌==◌, if◌then◌else◌, is_some}
use Rattle.std.specs.Bool.{⊤}
use Rattle.std.proofs.lemmas.Bool.{eq-eqb, false≢true}
use Rattle.std.proofs.lemmas.Option.{same_Some}
use Rattle.xk_base.specs.declared.ids.Number.{Number}
use Rattle.xk_base.specs.declared.ids.Pid.{Pid}
use Rattle.xk_base.specs.declared.ids.ThreadId.{ThreadId}
use Rattle.xk_base.specs.declared.ids.Tid.{Tid}
use Rattle.xk_base.specs.Tables.Circle.{same_thread}
use Rattle.xk_base.specs.Tables.Counting.{put_at}
use Rattle.machine_model.specs.Runs.Matched.{AreJoinersMatched, AreThreadIdsMatched, AreThreadsMatched, HasHandlerThread, HasThreadAbove, IsThreadAwaited, is_alive, is_waiting_for, waits_for}
use Rattle.machine_model.specs.State.Machine.{Process, Thread, ThreadState, Ready, Receiving, Waiting, Joining, Idle}
use Rattle.machine_model.specs.State.Threads.{Answers, thread_id}
use Rattle.machine_laws.proofs.Messaging.AnsweredThreadLemmas.{answered, answered_ids, answered_joiners, answered_threads}
use Rattle.machine_laws.proofs.Threading.ThreadAnswerLemmas.{same_thread-self}
use Rattle.machine_laws.proofs.Threading.ThreadPutLemmas.{alike}

-- what is matched of the threads alone
pub record AreMatchedAlone (n : ℕ) (p : ℕ → Process) (t : ThreadId → Option Thread) : Type 0 where
  pub joiners : AreJoinersMatched t
  pub threads : AreThreadsMatched p t
  pub ids : AreThreadIdsMatched n p t

pub answered_alone : (n : ℕ) (p : ℕ → Process) (t : ThreadId → Option Thread) (answers : Answers) → AreMatchedAlone n p t
    → AreMatchedAlone n p (answered t answers)
answered_alone n p t answers h = record {
  joiners = answered_joiners t answers h.joiners;
  threads = answered_threads t answers p h.threads;
  ids = answered_ids t answers n p h.ids;
}

-- the thread of this id may be in this state: tid 1 never waits
abbrev pub MayBe : ThreadId → ThreadState → Type 0
MayBe who Ready = ⊤
MayBe who (Receiving serial) = (who.tid.0 == 1) ≡ false
MayBe who (Waiting number) = (who.tid.0 == 1) ≡ false
MayBe who (Joining tid) = ⊥
MayBe who Idle = ⊥

first_ready : (who : ThreadId) (s : ThreadState) → who.tid.0 ≡ 1 → MayBe who s → (s ≡ Ready) ⊎ (s ≡ Idle)
first_ready who Ready e f = inl refl
first_ready who (Receiving serial) e f = absurd (false≢true (sym f ∙ eq-eqb who.tid.0 1 e))
first_ready who (Waiting number) e f = absurd (false≢true (sym f ∙ eq-eqb who.tid.0 1 e))
first_ready who (Joining tid) e f = absurd f
first_ready who Idle e f = absurd f

module _ (t : ThreadId → Option Thread) (who : ThreadId) (next : Thread) where
  abbrev pub put : ThreadId → Option Thread
  put = put_at same_thread t who (Some next)

  pub put_here : put who ≡ Some next
  put_here = ap (λ b. if b then Some next else t who) (same_thread-self who)

  pub put_or_was : (q : ThreadId) → (q ≡ who) ⊎ (put q ≡ t q)
  put_or_was q = go (same_thread q who) refl
    where
      go : (b : Bool) → same_thread q who ≡ b → (q ≡ who) ⊎ (put q ≡ t q)
      go true e = inl (alike q who e)
      go false e = inr (ap (λ b. if b then Some next else t q) e)

  -- the thread that is found at the id is the one that was put there
  pub found : (q : ThreadId) (u : Thread) → put q ≡ Some u → q ≡ who → next ≡ u
  found q u e p = same_Some next u (sym put_here ∙ sym (ap put p) ∙ e)

  -- the thread that is put waits for what its state says, and every other for what it did
  pub put_waits : (id : ThreadId) (number : Number)
      → waits_for put id number ≡ (if same_thread id who then is_waiting_for number next.state else waits_for t id number)
  put_waits id number = go (same_thread id who) refl
    where
      go : (b : Bool) → same_thread id who ≡ b
          → waits_for put id number ≡ (if b then is_waiting_for number next.state else waits_for t id number)
      go true e = ap (λ q. waits_for put q number) (alike id who e) ∙ (λ i. waits_for (λ q. put_here i) who number)
      go false e = λ i. waits_for (λ q. if e i then Some next else t id) id number

  module _ (n : ℕ) (p : ℕ → Process) (old : Thread) (there : t who ≡ Some old) (pc : next.pc % 4 ≡ 0) (fit : MayBe who next.state)
      (h : AreMatchedAlone n p t) where
    fit_of : (q : ThreadId) (u : Thread) (s : ThreadState) → put q ≡ Some u → q ≡ who → u.state ≡ s → MayBe who s
    fit_of q u s e f r = subst (MayBe who) (ap (λ (x : Thread). x.state) (found q u e f) ∙ r) fit

    stays : (q : ThreadId) → is_some (t q) ≡ true → is_some (put q) ≡ true
    stays q e = elim (put_or_was q) [
      | inl f ↦ ap (λ r. is_some (put r)) f ∙ ap is_some put_here
      | inr f ↦ ap is_some f ∙ e
    ]

    still : (q : ThreadId) (tid : Tid) → IsThreadAwaited t q tid → IsThreadAwaited put q tid
    still q tid w = record { live = stays (record { pid = q.pid; tid = tid }) w.live; other = w.other; above = w.above }

    handler : (pid : Pid) → HasHandlerThread t pid → HasHandlerThread put pid
    handler pid before = elim (put_or_was (thread_id pid 1)) [
      | inl f ↦
          (next, ap put f ∙ put_here, first_ready who next.state (sym (ap (λ (r : ThreadId). r.tid.0) f)) fit)
      | inr f ↦ (before.0, f ∙ before.1, before.2)
    ]

    idle : (q : ThreadId) (u : Thread) → put q ≡ Some u → u.state ≡ Idle → (q.tid.0 ≡ 1) × (is_alive p q.pid ≡ true)
    idle q u e s = elim (put_or_was q) [
      | inl f ↦ absurd (fit_of q u Idle e f s)
      | inr f ↦ h.threads.idle q u (sym f ∙ e) s
    ]

    pcs : (q : ThreadId) (u : Thread) → put q ≡ Some u → u.pc % 4 ≡ 0
    pcs q u e = elim (put_or_was q) [
      | inl f ↦ sym (ap (λ (x : Thread). x.pc % 4) (found q u e f)) ∙ pc
      | inr f ↦ h.threads.pcs q u (sym f ∙ e)
    ]

    -- the thread that was at the id
    before_there : (q : ThreadId) (u : Thread) → put q ≡ Some u → (v : Thread) × (t q ≡ Some v)
    before_there q u e = elim (put_or_was q) [
      | inl f ↦ (old, ap t f ∙ there)
      | inr f ↦ (u, sym f ∙ e)
    ]

    pub put_alone : AreMatchedAlone n p put
    put_alone = record {
      joiners = λ q u tid e s. elim (put_or_was q) [
        | inl f ↦ absurd (fit_of q u (Joining tid) e f s)
        | inr f ↦ still q tid (h.joiners q u tid (sym f ∙ e) s)
      ];
      threads = record {
        handler = λ pid l. handler pid (h.threads.handler pid l);
        above = λ pid l. let a : HasThreadAbove t pid = h.threads.above pid l in (a.0, a.1, stays (thread_id pid a.0) a.2);
        idle = idle;
        pcs = pcs;
      };
      ids = record {
        known = λ q u e. let v = before_there q u e in h.ids.known q v.0 v.1;
        living = λ q u e. let v = before_there q u e in h.ids.living q v.0 v.1;
      };
    }
