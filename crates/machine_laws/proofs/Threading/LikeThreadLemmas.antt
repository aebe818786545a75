-- Threads that are in the states in which they were: the machine that has these in the place of its own stays matched, wherever its
-- cursor goes and whatever steps are counted.
use Rattle.std.proofs.Common.{◌≡◌, ℕ, ◌≤◌, false, ◌⊎◌, Option, Some, None, refl, sym, ap, ◌∙◌, subst}
use Rattle.std.specs.Prelude.{◌%◌, is_some}
use Rattle.std.specs.Option.{option_map, option_map_or}
use Rattle.std.proofs.lemmas.Option.{none-some, same_Some}
use Rattle.xk_base.specs.declared.ids.Number.{Number}
use Rattle.xk_base.specs.declared.ids.Pid.{Pid}
use Rattle.xk_base.specs.declared.ids.ThreadId.{ThreadId}
use Rattle.machine_model.specs.State.Machine.{Machine, Thread, ThreadState, Ready, Idle}
use Rattle.machine_model.specs.Runs.Matched.{Matched, AreReceiversMatched, AreJoinersMatched, AreThreadsMatched, HasHandlerThread, is_waiting_for}
use Rattle.machine_model.specs.State.Threads.{thread_id}
use Rattle.machine_laws.proofs.Threading.ThreadMoveLemmas.{KeepsThreads, matched_moved}

abbrev pub state_of : Thread → ThreadState
state_of t = t.state

-- Threads that may stand in the place of the machine's: each is in the state in which it was, and its pc is aligned.
pub record AreLike (m : Machine) (threads : ThreadId → Option Thread) : Type 0 where
  pub states : (id : ThreadId) → option_map state_of (threads id) ≡ option_map state_of (m.threads id)
  pub pcs : (id : ThreadId) (t : Thread) → threads id ≡ Some t → t.pc % 4 ≡ 0

-- ---- one thread and its like

pub old_of : (a b : Option Thread) → option_map state_of a ≡ option_map state_of b → (t : Thread) → a ≡ Some t
    → (u : Thread) × (b ≡ Some u) × (u.state ≡ t.state)
old_of None b e t q = absurd (none-some t q)
old_of (Some v) None e t q = absurd (none-some v.state (sym e))
old_of (Some v) (Some u) e t q =
    (u, refl, sym (same_Some v.state u.state e) ∙ ap state_of (same_Some v t q))

some_of : (a b : Option Thread) → option_map state_of a ≡ option_map state_of b → is_some a ≡ is_some b
some_of None None e = refl
some_of None (Some u) e = absurd (none-some u.state e)
some_of (Some v) None e = absurd (none-some v.state (sym e))
some_of (Some v) (Some u) e = refl

waits_of : (number : Number) (a b : Option Thread) → option_map state_of a ≡ option_map state_of b
    → option_map_or (λ t. is_waiting_for number t.state) a false ≡ option_map_or (λ t. is_waiting_for number t.state) b false
waits_of number None None e = refl
waits_of number None (Some u) e = absurd (none-some u.state e)
waits_of number (Some v) None e = absurd (none-some v.state (sym e))
waits_of number (Some v) (Some u) e = ap (is_waiting_for number) (same_Some v.state u.state e)

-- ---- the machine with these threads

abbrev pub with_threads : ThreadId → ℕ → (ThreadId → Option Thread) → Machine → Machine
with_threads c s threads m = record m { cursor = c; steps = s; threads = threads }

module _ (threads : ThreadId → Option Thread) (m : Machine) (like : AreLike m threads) (h : Matched m) where
  receivers_like : AreReceiversMatched threads m.servers
  receivers_like id t serial e q =
      let old = old_of (threads id) (m.threads id) (like.states id) t e in
      h.body.receivers id old.0 serial old.1 (old.2 ∙ q)

  joiners_like : AreJoinersMatched threads
  joiners_like id t tid e q =
      let old = old_of (threads id) (m.threads id) (like.states id) t e in
      let w = h.body.joiners id old.0 tid old.1 (old.2 ∙ q) in
      let other : ThreadId = record { pid = id.pid; tid = tid } in
      record {
        live = some_of (threads other) (m.threads other) (like.states other) ∙ w.live;
        other = w.other;
        above = w.above;
      }

  handler_like : (pid : Pid) → HasHandlerThread m.threads pid → HasHandlerThread threads pid
  handler_like pid old =
      let id = thread_id pid 1 in
      let new = old_of (m.threads id) (threads id) (sym (like.states id)) old.0 old.1 in
      (new.0, new.1, subst (λ (q : ThreadState). (q ≡ Ready) ⊎ (q ≡ Idle)) (sym new.2) old.2)

  threads_like : AreThreadsMatched m.process threads
  threads_like = record {
    handler = λ pid e. handler_like pid (h.body.threads.handler pid e);
    above = λ pid e. let a = h.body.threads.above pid e in let id = thread_id pid a.0 in
        (a.0, a.1, some_of (threads id) (m.threads id) (like.states id) ∙ a.2);
    idle = λ id t e q. let old = old_of (threads id) (m.threads id) (like.states id) t e in
        h.body.threads.idle id old.0 old.1 (old.2 ∙ q);
    pcs = like.pcs;
  }

  like_keeps : KeepsThreads m threads
  like_keeps = record {
    waits = λ who number. sym (waits_of number (threads who) (m.threads who) (like.states who));
    receivers = receivers_like;
    joiners = joiners_like;
    threads = threads_like;
    ids = record {
      known = λ id t e. let old = old_of (threads id) (m.threads id) (like.states id) t e in h.body.ids.known id old.0 old.1;
      living = λ id t e. let old = old_of (threads id) (m.threads id) (like.states id) t e in h.body.ids.living id old.0 old.1;
    };
  }

  pub matched_with : (c : ThreadId) (s : ℕ) → m.steps ≤ s → Matched (with_threads c s threads m)
  matched_with c s later = matched_moved m h s c threads later like_keeps
