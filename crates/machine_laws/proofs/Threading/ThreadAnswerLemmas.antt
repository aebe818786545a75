-- One thread, Ready before, is put into the state that it is in after its step; and a caller is answered.
use Rattle.std.proofs.Common.{◌≡◌, ℕ, ◌+◌, ◌≤◌, true, false, List, Option, Some, None, refl, ap, ◌∙◌, arith}
use Rattle.std.specs.Prelude.{◌%◌, ◌==◌}
use Rattle.std.specs.Option.{option_map, option_map_or}
use Rattle.std.proofs.lemmas.Bool.{eq-eqb, false≢true, and_from}
use Rattle.xk_base.specs.declared.ids.Number.{Number}
use Rattle.xk_base.specs.declared.ids.ThreadId.{ThreadId}
use Rattle.xk_base.specs.Tables.Circle.{same_thread}
use Rattle.xk_base.specs.Tables.Counting.{put_at}
use Rattle.xk_base.specs.Calls.Registers.{with_arguments}
use Rattle.machine_model.specs.State.Changes.{Served, call_settled, answering, settled}
use Rattle.machine_model.specs.Hart.Instructions.{following}
use Rattle.machine_model.specs.State.Machine.{Machine, Thread, ThreadState, Ready, Receiving, Waiting, Joining, Idle}
use Rattle.machine_model.specs.Runs.Kept.{Settles}
use Rattle.machine_model.specs.Runs.Matched.{Matched, is_living, is_waiting_for}
use Rattle.machine_model.specs.State.Order.{is_ready, ready_at}
use Rattle.machine_model.specs.State.Threads.{answer_to, change_thread, give_answers, passed, with_answer}
use Rattle.machine_laws.proofs.Threading.ThreadMoveLemmas.{KeepsThreads, matched_moved}
use Rattle.machine_laws.proofs.Threading.ThreadPutLemmas.{IsFit, waits_at, put_keeps}

pub same_thread-self : (id : ThreadId) → same_thread id id ≡ true
same_thread-self id = and_from (id.pid.0 == id.pid.0) (id.tid.0 == id.tid.0) (eq-eqb id.pid.0 id.pid.0 refl) (eq-eqb id.tid.0 id.tid.0 refl)

-- a thread that is there is of a living process
pub thread_living : (m : Machine) → Matched m → (id : ThreadId) (t : Thread) → m.threads id ≡ Some t → is_living m id.pid ≡ true
thread_living m h id t e = h.body.ids.living id t e

-- a Ready thread is there
pub record IsReadyThread (m : Machine) (id : ThreadId) : Type 0 where
  pub thread : Thread
  pub there : m.threads id ≡ Some thread
  pub ready : thread.state ≡ Ready

state_ready : (s : ThreadState) → is_ready s ≡ true → s ≡ Ready
state_ready Ready e = refl
state_ready (Receiving serial) e = absurd (false≢true e)
state_ready (Waiting number) e = absurd (false≢true e)
state_ready (Joining tid) e = absurd (false≢true e)
state_ready Idle e = absurd (false≢true e)

pub ready_thread : (m : Machine) (id : ThreadId) → ready_at m id ≡ true → IsReadyThread m id
ready_thread m id e = go (m.threads id) refl e
  where
    go : (o : Option Thread) → m.threads id ≡ o → option_map_or (λ t. is_ready t.state) o false ≡ true → IsReadyThread m id
    go None q r = absurd (false≢true r)
    go (Some t) q r = record { thread = t; there = q; ready = state_ready t.state r }

-- .. so its process is alive
pub ready_lives : (m : Machine) → Matched m → (id : ThreadId) → ready_at m id ≡ true → is_living m id.pid ≡ true
ready_lives m h id e =
    let r : IsReadyThread m id = ready_thread m id e in
    h.body.ids.living id r.thread r.there

ready_waits_not : (number : Number) (s : ThreadState) → s ≡ Ready → is_waiting_for number s ≡ false
ready_waits_not number s e = ap (is_waiting_for number) e

-- a Ready thread is put into another state
pub ready_put : (m : Machine) → Matched m → (new : ThreadId → Option Thread) (id : ThreadId) (t : Thread) → IsReadyThread m id
    → new id ≡ Some t → ((q : ThreadId) → same_thread q id ≡ false → new q ≡ m.threads q) → IsFit m new id t.state → t.pc % 4 ≡ 0
    → KeepsThreads m new
ready_put m h new id t r here others fit aligned = put_keeps m h new id t (record {
  here = here;
  others = others;
  fit = fit;
  aligned = aligned;
  known = h.body.ids.known id r.thread r.there;
  living = thread_living m h id r.thread r.there;
  before = λ number. ap (waits_at number) r.there ∙ ready_waits_not number r.thread.state r.ready;
})

pub ready_put_matched : (m : Machine) → Matched m → (new : ThreadId → Option Thread) (id : ThreadId) (t : Thread) → IsReadyThread m id
    → new id ≡ Some t → ((q : ThreadId) → same_thread q id ≡ false → new q ≡ m.threads q) → IsFit m new id t.state → t.pc % 4 ≡ 0
    → Matched (record m { threads = new })
ready_put_matched m h new id t r here others fit aligned =
    let later : m.steps ≤ m.steps = omega arith in
    matched_moved m h m.steps m.cursor new later (ready_put m h new id t r here others fit aligned)

-- ---- the caller is past its call and answered

pub following-aligned : (pc : ℕ) → pc % 4 ≡ 0 → following pc % 4 ≡ 0
following-aligned pc e = omega arith

answered : List ℕ → Thread → Thread
answered words t = record t { pc = following t.pc; regs = with_arguments words t.regs; state = Ready }

abbrev after_answer : Machine → ThreadId → List ℕ → ThreadId → Option Thread
after_answer m who words id =
    option_map (with_answer (answer_to who words id)) (put_at same_thread m.threads who (option_map passed (m.threads who)) id)

pub answered_matched : (who : ThreadId) (words : List ℕ) (m : Machine) → Matched m → ready_at m who ≡ true
    → Matched (give_answers (answer_to who words) (change_thread who passed m))
unfolding answered
answered_matched who words m h ready =
    ready_put_matched m h (after_answer m who words) who (answered words r.thread) r here others tt
    (following-aligned r.thread.pc (h.body.threads.pcs who r.thread r.there))
  where
    r : IsReadyThread m who
    r = ready_thread m who ready

    here : after_answer m who words who ≡ Some (answered words r.thread)
    here = rw (same_thread-self who, r.there) refl

    others : (q : ThreadId) → same_thread q who ≡ false → after_answer m who words q ≡ m.threads q
    others q e = rw e (by_thread (m.threads q))
      where
        by_thread : (o : Option Thread) → option_map (with_answer None) o ≡ o
        by_thread None = refl
        by_thread (Some t) = refl

pub answered_call : (m left : Machine) (words : List ℕ) → Settles m left → ready_at left m.cursor ≡ true
    → Settles m (call_settled m (Served (answering (answer_to m.cursor words) left))).machine
unfolding call_settled settled
answered_call m left words h ready = answered_matched m.cursor words (record left { steps = m.steps + 1 }) h ready
