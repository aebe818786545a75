-- How threads stand in a matched state, and what leaves them so.
use Rattle.std.proofs.Common.{◌≡◌, ◌≢◌, ℕ, Bool, true, false, List, Option, Some, None, refl, sym, ap, ◌∙◌}
use Rattle.std.specs.Prelude.{◌==◌, is_some, if◌then◌else◌}
use Rattle.std.specs.Option.{option_map}
use Rattle.std.proofs.lemmas.Bool.{eq-eqb, eqb-true, false≢true}
use Rattle.xk_base.specs.declared.ids.ThreadId.{ThreadId}
use Rattle.xk_base.specs.Tables.Circle.{is_thread_id, same_thread}
use Rattle.machine_model.specs.Runs.Matched.{Matched}
use Rattle.machine_model.specs.State.Machine.{Machine, Thread}
use Rattle.machine_model.specs.State.Threads.{change_thread, put_thread, with_answer}
use Rattle.machine_laws.proofs.Threading.ThreadAnswerLemmas.{IsReadyThread, same_thread-self}
use Rattle.machine_laws.proofs.Threading.ThreadPutLemmas.{alike}
use Rattle.transcript_laws.specs.AnsweredOnce.{Dead, Free, Waits, standing, standing_by}
use Rattle.transcript_laws.specs.Answering.{awaits_reply, is_waiting}

-- ---- tests

pub not_equal : (a b : ℕ) → (a == b) ≡ false → (b == a) ≡ false
not_equal a b e = go (b == a) refl
  where
    go : (x : Bool) → (b == a) ≡ x → x ≡ false
    go false q = refl
    go true q = absurd (false≢true (sym e ∙ eq-eqb a b (sym (eqb-true b a q))))

pub turned_apart : (a b : ThreadId) → same_thread a b ≡ false → same_thread b a ≡ false
turned_apart a b e = go (same_thread b a) refl
  where
    go : (x : Bool) → same_thread b a ≡ x → x ≡ false
    go false q = refl
    go true q = absurd (false≢true (sym e ∙ (ap (λ y. same_thread y b) (sym (alike b a q)) ∙ same_thread-self b)))

-- ---- of a matched state

module _ (m : Machine) (h : Matched m) (id : ThreadId) where
  with_waiting : (P : Type 0) → ((t : Thread) → m.threads id ≡ Some t → P) → is_waiting (m.threads id) ≡ true → P
  with_waiting P of w = go (m.threads id) refl w
    where
      go : (o : Option Thread) → m.threads id ≡ o → is_waiting o ≡ true → P
      go None e q = absurd (false≢true q)
      go (Some t) e q = of t e

  -- a thread that waits is of a living process
  pub waiting_lives : is_waiting (m.threads id) ≡ true → (m.process id.pid.0).alive ≡ true
  waiting_lives w = with_waiting ((m.process id.pid.0).alive ≡ true) (λ t e. h.body.ids.living id t e) w

  pub waiting_known : is_waiting (m.threads id) ≡ true → is_thread_id m.processes id ≡ true
  waiting_known w = with_waiting (is_thread_id m.processes id ≡ true) (λ t e. h.body.ids.known id t e) w

  pub waiting_stands : is_waiting (m.threads id) ≡ true → standing m id ≡ Waits
  waiting_stands w = ap (λ b. standing_by b (is_waiting (m.threads id))) (waiting_lives w) ∙ ap (standing_by true) w

  -- a Ready thread is free
  pub ready_stands : IsReadyThread m id → standing m id ≡ Free
  ready_stands r =
      ap (λ b. standing_by b (is_waiting (m.threads id))) (h.body.ids.living id r.thread r.there)
      ∙ ap (standing_by true) (ap is_waiting r.there ∙ ap awaits_reply r.ready)

-- of a living process
pub living_stands : (alive waits : Bool) → alive ≡ true → standing_by alive waits ≢ Dead
living_stands true true e d = cc
living_stands true false e d = cc
living_stands false waits e d = absurd (false≢true e)

-- ---- what leaves a thread as it stands

pub moved_waits : (f : Thread → Thread) → ((t : Thread) → awaits_reply (f t).state ≡ awaits_reply t.state) → (o : Option Thread)
    → is_waiting (option_map f o) ≡ is_waiting o
moved_waits f same None = refl
moved_waits f same (Some t) = same t

-- a thread is changed, and waits as before
pub changed_waits : (m : Machine) (who : ThreadId) (f : Thread → Thread) → ((t : Thread) → awaits_reply (f t).state ≡ awaits_reply t.state) → (id : ThreadId)
    → is_waiting ((change_thread who f m).threads id) ≡ is_waiting (m.threads id)
changed_waits m who f same id = go (same_thread id who) refl
  where
    go : (b : Bool) → same_thread id who ≡ b → is_waiting (if b then option_map f (m.threads who) else m.threads id) ≡ is_waiting (m.threads id)
    go true e = moved_waits f same (m.threads who) ∙ ap (λ x. is_waiting (m.threads x)) (sym (alike id who e))
    go false e = refl

pub changed_stands : (m : Machine) (who : ThreadId) (f : Thread → Thread) → ((t : Thread) → awaits_reply (f t).state ≡ awaits_reply t.state) → (id : ThreadId)
    → standing (change_thread who f m) id ≡ standing m id
changed_stands m who f same id = ap (standing_by (m.process id.pid.0).alive) (changed_waits m who f same id)

-- another thread, or none, is put where none waits, and doesn't wait
pub put_stands : (m : Machine) (who : ThreadId) (o : Option Thread) → is_waiting (m.threads who) ≡ false → is_waiting o ≡ false → (id : ThreadId)
    → standing (put_thread who o m) id ≡ standing m id
put_stands m who o before after id = ap (standing_by (m.process id.pid.0).alive) (go (same_thread id who) refl)
  where
    go : (b : Bool) → same_thread id who ≡ b → is_waiting (if b then o else m.threads id) ≡ is_waiting (m.threads id)
    go true e = after ∙ sym (ap (λ x. is_waiting (m.threads x)) (alike id who e) ∙ before)
    go false e = refl

-- no answer is given
pub unanswered_stands : (m : Machine) (answers : ThreadId → Option (List ℕ)) (id : ThreadId) → is_some (answers id) ≡ false
    → is_waiting (option_map (with_answer (answers id)) (m.threads id)) ≡ is_waiting (m.threads id)
unanswered_stands m answers id none = go (answers id) (m.threads id) none
  where
    go : (o : Option (List ℕ)) (t : Option Thread) → is_some o ≡ false → is_waiting (option_map (with_answer o) t) ≡ is_waiting t
    go None None e = refl
    go None (Some t) e = refl
    go (Some words) t e = absurd (false≢true (sym e))
