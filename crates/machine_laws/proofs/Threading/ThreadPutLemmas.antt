-- A machine with one thread put: it wasn't Waiting before, and isn't after.
use Rattle.std.proofs.Common.{◌≡◌, Bool, true, false, ◌⊎◌, inl, inr, Option, Some, refl, sym, ap, ◌∙◌, subst}
use Rattle.std.specs.Prelude.{◌%◌, ◌==◌, is_some}
use Rattle.std.specs.Bool.{⊤}
use Rattle.std.specs.Option.{option_map_or}
use Rattle.std.proofs.lemmas.Bool.{eqb-true, eq-eqb, false≢true, and_parts}
use Rattle.std.proofs.lemmas.Option.{same_Some}
use Rattle.xk_base.specs.declared.ids.Number.{Number}
use Rattle.xk_base.specs.declared.ids.Pid.{Pid}
use Rattle.xk_base.specs.declared.ids.ThreadId.{ThreadId}
use Rattle.xk_base.specs.declared.ids.Tid.{Tid}
use Rattle.xk_base.specs.Tables.Circle.{is_thread_id, same_thread}
use Rattle.xk_base.proofs.CircleLemmas.{same_ids}
use Rattle.machine_model.specs.State.Machine.{Machine, Thread, ThreadState, Ready, Receiving, Waiting, Joining, Idle}
use Rattle.machine_model.specs.Runs.Matched.{Matched, AreJoinersMatched, AreReceiversMatched, IsThreadAwaited, HasHandlerThread, HasThreadAbove, is_living, is_waiting_for}
use Rattle.machine_model.specs.State.Threads.{thread_id}
use Rattle.machine_laws.proofs.Threading.ThreadMoveLemmas.{KeepsThreads}

-- the thread at an id is Waiting for that number
abbrev pub waits_at : Number → Option Thread → Bool
waits_at number o = option_map_or (λ t. is_waiting_for number t.state) o false

-- the state that the thread of an id is put into
abbrev pub IsFit : Machine → (ThreadId → Option Thread) → ThreadId → ThreadState → Type 0
IsFit m new id Ready = ⊤
IsFit m new id (Receiving serial) = ⊥
IsFit m new id (Waiting number) = ⊥
IsFit m new id (Joining tid) = ((id.tid.0 == 1) ≡ false) × IsThreadAwaited new id tid
IsFit m new id Idle = id.tid.0 ≡ 1

pub record IsPut (m : Machine) (new : ThreadId → Option Thread) (id : ThreadId) (t : Thread) : Type 0 where
  pub here : new id ≡ Some t
  pub others : (q : ThreadId) → same_thread q id ≡ false → new q ≡ m.threads q
  pub fit : IsFit m new id t.state
  pub aligned : t.pc % 4 ≡ 0
  pub known : is_thread_id m.processes id ≡ true
  pub living : is_living m id.pid ≡ true
  pub before : (number : Number) → waits_at number (m.threads id) ≡ false

pub alike : (a b : ThreadId) → same_thread a b ≡ true → a ≡ b
alike a b e =
    let parts : ((a.pid.0 == b.pid.0) ≡ true) × ((a.tid.0 == b.tid.0) ≡ true) = and_parts (a.pid.0 == b.pid.0) (a.tid.0 == b.tid.0) e in
    same_ids a b (eqb-true a.pid.0 b.pid.0 parts.0) (eqb-true a.tid.0 b.tid.0 parts.1)

fit_waits_not : (m : Machine) (new : ThreadId → Option Thread) (id : ThreadId) (number : Number) (s : ThreadState)
    → IsFit m new id s → is_waiting_for number s ≡ false
fit_waits_not m new id number Ready f = refl
fit_waits_not m new id number (Receiving serial) f = refl
fit_waits_not m new id number (Waiting other) f = absurd f
fit_waits_not m new id number (Joining tid) f = refl
fit_waits_not m new id number Idle f = refl

fit_first : (m : Machine) (new : ThreadId → Option Thread) (id : ThreadId) (s : ThreadState) → id.tid.0 ≡ 1
    → IsFit m new id s → (s ≡ Ready) ⊎ (s ≡ Idle)
fit_first m new id Ready e f = inl refl
fit_first m new id (Receiving serial) e f = absurd f
fit_first m new id (Waiting other) e f = absurd f
fit_first m new id (Joining tid) e f = absurd (false≢true (sym f.0 ∙ eq-eqb id.tid.0 1 e))
fit_first m new id Idle e f = inr refl

module _ (m : Machine) (h : Matched m) (new : ThreadId → Option Thread) (id : ThreadId) (t : Thread) (put : IsPut m new id t) where
  split : (q : ThreadId) → (q ≡ id) ⊎ (new q ≡ m.threads q)
  split q = go (same_thread q id) refl
    where
      go : (b : Bool) → same_thread q id ≡ b → (q ≡ id) ⊎ (new q ≡ m.threads q)
      go true e = inl (alike q id e)
      go false e = inr (put.others q e)

  -- the thread that is found at the id is the one that was put there
  found : (q : ThreadId) (u : Thread) → new q ≡ Some u → q ≡ id → t ≡ u
  found q u e p = same_Some t u (sym put.here ∙ sym (ap new p) ∙ e)

  fit_of : (u : Thread) (s : ThreadState) → t ≡ u → u.state ≡ s → IsFit m new id s
  fit_of u s e q = subst (IsFit m new id) (ap (λ (x : Thread). x.state) e ∙ q) put.fit

  waits : (who : ThreadId) (number : Number) → waits_at number (m.threads who) ≡ waits_at number (new who)
  waits who number = elim (split who) [
    | inl p ↦
        ap (λ q. waits_at number (m.threads q)) p ∙ put.before number
        ∙ sym (fit_waits_not m new id number t.state put.fit)
        ∙ sym (ap (waits_at number) put.here)
        ∙ sym (ap (λ q. waits_at number (new q)) p)
    | inr e ↦ ap (waits_at number) (sym e)
  ]

  stays : (q : ThreadId) → is_some (m.threads q) ≡ true → is_some (new q) ≡ true
  stays q e = elim (split q) [
    | inl p ↦ ap (λ r. is_some (new r)) p ∙ ap is_some put.here
    | inr n ↦ ap is_some n ∙ e
  ]

  receivers : AreReceiversMatched new m.servers
  receivers q u serial e s = elim (split q) [
    | inl p ↦ absurd (fit_of u (Receiving serial) (found q u e p) s)
    | inr n ↦ h.body.receivers q u serial (sym n ∙ e) s
  ]

  still : (q : ThreadId) (tid : Tid) → IsThreadAwaited m.threads q tid → IsThreadAwaited new q tid
  still q tid w = record { live = stays (record { pid = q.pid; tid = tid }) w.live; other = w.other; above = w.above }

  joiners : AreJoinersMatched new
  joiners q u tid e s = elim (split q) [
    | inl p ↦ subst (λ r. IsThreadAwaited new r tid) (sym p) ((fit_of u (Joining tid) (found q u e p) s).1)
    | inr n ↦ still q tid (h.body.joiners q u tid (sym n ∙ e) s)
  ]

  handler : (pid : Pid) → is_living m pid ≡ true → HasHandlerThread new pid
  handler pid l = go (h.body.threads.handler pid l) (split (thread_id pid 1))
    where
      go : HasHandlerThread m.threads pid → ((thread_id pid 1 ≡ id) ⊎ (new (thread_id pid 1) ≡ m.threads (thread_id pid 1))) → HasHandlerThread new pid
      go old (inl p) = (t, ap new p ∙ put.here, fit_first m new id t.state (sym (ap (λ (r : ThreadId). r.tid.0) p)) put.fit)
      go old (inr n) = (old.0, n ∙ old.1, old.2)

  above : (pid : Pid) → is_living m pid ≡ true → HasThreadAbove new pid
  above pid l =
      let old : HasThreadAbove m.threads pid = h.body.threads.above pid l in
      (old.0, old.1, stays (thread_id pid old.0) old.2)

  idle : (q : ThreadId) (u : Thread) → new q ≡ Some u → u.state ≡ Idle → (q.tid.0 ≡ 1) × (is_living m q.pid ≡ true)
  idle q u e s = elim (split q) [
    | inl p ↦ (ap (λ (r : ThreadId). r.tid.0) p ∙ fit_of u Idle (found q u e p) s, ap (λ (r : ThreadId). is_living m r.pid) p ∙ put.living)
    | inr n ↦ h.body.threads.idle q u (sym n ∙ e) s
  ]

  pcs : (q : ThreadId) (u : Thread) → new q ≡ Some u → u.pc % 4 ≡ 0
  pcs q u e = elim (split q) [
    | inl p ↦ sym (ap (λ (x : Thread). x.pc % 4) (found q u e p)) ∙ put.aligned
    | inr n ↦ h.body.threads.pcs q u (sym n ∙ e)
  ]

  known : (q : ThreadId) (u : Thread) → new q ≡ Some u → is_thread_id m.processes q ≡ true
  known q u e = elim (split q) [
    | inl p ↦ ap (is_thread_id m.processes) p ∙ put.known
    | inr n ↦ h.body.ids.known q u (sym n ∙ e)
  ]

  living : (q : ThreadId) (u : Thread) → new q ≡ Some u → is_living m q.pid ≡ true
  living q u e = elim (split q) [
    | inl p ↦ ap (λ (r : ThreadId). is_living m r.pid) p ∙ put.living
    | inr n ↦ h.body.ids.living q u (sym n ∙ e)
  ]

  pub put_keeps : KeepsThreads m new
  put_keeps = record {
    waits = waits;
    receivers = receivers;
    joiners = joiners;
    threads = record { handler = handler; above = above; idle = idle; pcs = pcs };
    ids = record { known = known; living = living };
  }
