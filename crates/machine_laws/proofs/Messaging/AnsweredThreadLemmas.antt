-- Threads that are answered become Ready: whoever they are, the parts on threads alone stay, and no answered thread waits.
use Rattle.std.proofs.Common.{◌≡◌, ℕ, true, false, ◌⊎◌, inl, inr, List, Option, Some, None, refl, sym, ap, ◌∙◌}
use Rattle.std.specs.Prelude.{◌%◌, if◌then◌else◌, is_some}
use Rattle.std.specs.Option.{option_map, option_map_or}
use Rattle.std.proofs.lemmas.Bool.{false≢true}
use Rattle.std.proofs.lemmas.Option.{none-some, same_Some}
use Rattle.xk_base.specs.declared.ids.Number.{Number}
use Rattle.xk_base.specs.declared.ids.Pid.{Pid}
use Rattle.xk_base.specs.declared.ids.ThreadId.{ThreadId}
use Rattle.machine_model.specs.Runs.Matched.{AreJoinersMatched, AreThreadIdsMatched, AreThreadsMatched, HasHandlerThread, HasThreadAbove, is_waiting_for, waits_for}
use Rattle.machine_model.specs.State.Machine.{Process, Thread, ThreadState, Ready, Joining, Idle}
use Rattle.machine_model.specs.State.Order.{is_ready}
use Rattle.machine_model.specs.State.Threads.{Answers, thread_id, with_answer}

module _ (t : ThreadId → Option Thread) (answers : Answers) where
  abbrev pub answered : ThreadId → Option Thread
  answered id = option_map (with_answer (answers id)) (t id)

  -- the thread that it was: it is Ready now, or it was not answered and is in its state
  pub record WasThread (id : ThreadId) (now : Thread) : Type 0 where
    pub old : Thread
    pub there : t id ≡ Some old
    pub pc : now.pc ≡ old.pc
    pub about : (now.state ≡ Ready) ⊎ ((answers id ≡ None) × (now.state ≡ old.state))

  pub was : (id : ThreadId) (now : Thread) → answered id ≡ Some now → WasThread id now
  was id now e = go (answers id) (t id) refl refl e
    where
      go : (a : Option (List ℕ)) (o : Option Thread) → answers id ≡ a → t id ≡ o → option_map (with_answer a) o ≡ Some now → WasThread id now
      go a None p q r = absurd (none-some now r)
      go None (Some old) p q r =
          let same : old ≡ now = same_Some old now r in
          record { old = old; there = q; pc = ap (λ (x : Thread). x.pc) (sym same); about = inr (p, ap (λ (x : Thread). x.state) (sym same)) }
      go (Some words) (Some old) p q r =
          let same : with_answer (Some words) old ≡ now = same_Some (with_answer (Some words) old) now r in
          record { old = old; there = q; pc = ap (λ (x : Thread). x.pc) (sym same); about = inl (ap (λ (x : Thread). x.state) (sym same)) }

  -- a thread that isn't Ready now wasn't answered, and is in its state
  pub was_in : (id : ThreadId) (now : Thread) (s : ThreadState) → answered id ≡ Some now → now.state ≡ s → is_ready s ≡ false
      → (old : Thread) × (t id ≡ Some old) × (answers id ≡ None) × (old.state ≡ s)
  was_in id now s e q r = go (was id now e)
    where
      go : WasThread id now → (old : Thread) × (t id ≡ Some old) × (answers id ≡ None) × (old.state ≡ s)
      go w = elim (w.about) [
        | inl ready ↦ absurd (false≢true (sym r ∙ sym (ap is_ready q) ∙ ap is_ready ready))
        | inr same ↦ (w.old, w.there, same.0, sym same.1 ∙ q)
      ]

  pub still_there : (id : ThreadId) → is_some (t id) ≡ true → is_some (answered id) ≡ true
  still_there id e = go (t id) e
    where
      go : (o : Option Thread) → is_some o ≡ true → is_some (option_map (with_answer (answers id)) o) ≡ true
      go None e = e
      go (Some old) e = refl

  -- an answered thread waits for nothing
  pub waits_now : (id : ThreadId) (number : Number)
      → waits_for answered id number ≡ (if is_some (answers id) then false else waits_for t id number)
  waits_now id number = go (answers id) (t id)
    where
      go : (a : Option (List ℕ)) (o : Option Thread)
          → option_map_or (λ x. is_waiting_for number x.state) (option_map (with_answer a) o) false
          ≡ (if is_some a then false else option_map_or (λ x. is_waiting_for number x.state) o false)
      go None None = refl
      go None (Some old) = refl
      go (Some words) None = refl
      go (Some words) (Some old) = refl

  pub answered_joiners : AreJoinersMatched t → AreJoinersMatched answered
  answered_joiners h id now tid e s =
      let old = was_in id now (Joining tid) e s refl in
      let w = h id old.0 tid old.1 old.3 in
      record { live = still_there (record { pid = id.pid; tid = tid }) w.live; other = w.other; above = w.above }

  handler_now : (pid : Pid) → HasHandlerThread t pid → HasHandlerThread answered pid
  handler_now pid old = go (answers (thread_id pid 1)) refl
    where
      go : (a : Option (List ℕ)) → answers (thread_id pid 1) ≡ a → HasHandlerThread answered pid
      go None e = (old.0, (λ i. option_map (with_answer (e i)) (old.1 i)), old.2)
      go (Some words) e = (with_answer (Some words) old.0, (λ i. option_map (with_answer (e i)) (old.1 i)), inl refl)

  pub answered_threads : (p : ℕ → Process) → AreThreadsMatched p t → AreThreadsMatched p answered
  answered_threads p h = record {
    handler = λ pid l. handler_now pid (h.handler pid l);
    above = λ pid l. let a : HasThreadAbove t pid = h.above pid l in (a.0, a.1, still_there (thread_id pid a.0) a.2);
    idle = λ id now e s. let old = was_in id now Idle e s refl in h.idle id old.0 old.1 old.3;
    pcs = λ id now e. let w = was id now e in ap (λ pc. pc % 4) w.pc ∙ h.pcs id w.old w.there;
  }

  pub answered_ids : (n : ℕ) (p : ℕ → Process) → AreThreadIdsMatched n p t → AreThreadIdsMatched n p answered
  answered_ids n p h = record {
    known = λ id now e. let w = was id now e in h.known id w.old w.there;
    living = λ id now e. let w = was id now e in h.living id w.old w.there;
  }
