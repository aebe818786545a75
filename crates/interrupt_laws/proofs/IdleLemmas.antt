-- What makes no interrupt thread Idle, and what leaves the claims of pending numbers.
use Rattle.std.proofs.Common.{◌≡◌, ◌≢◌, ℕ, Bool, true, false, List, Option, Some, None, nat_eq, refl, sym, ap, ◌∙◌}
use Rattle.std.specs.Prelude.{◌==◌, ◌&&◌, not, is_some, if◌then◌else◌}
use Rattle.std.specs.Option.{option_map, option_map_or}
use Rattle.std.proofs.lemmas.Bool.{and_parts, eqb-true, false_from_ne_true, false≢true}
use Rattle.std.proofs.lemmas.Option.{none-some}
use Rattle.xk_base.specs.declared.ids.Pid.{Pid}
use Rattle.xk_base.specs.declared.ids.ThreadId.{ThreadId}
use Rattle.xk_base.specs.Tables.Circle.{same_thread}
use Rattle.xk_base.specs.Tables.Counting.{put_at}
use Rattle.machine_model.specs.Ending.Closing.{closed, senders_held_gone, senders_queued_gone, servers_closed}
use Rattle.machine_model.specs.Ending.Ends.{death, end_with_last_thread, forgotten, has_threads, thread_ended}
use Rattle.machine_model.specs.State.Changes.{Change, settled}
use Rattle.machine_model.specs.State.Machine.{Claim, Machine, Thread}
use Rattle.machine_model.specs.State.Threads.{change_thread, put_thread, thread_id, with_answer}
use Rattle.machine_model.specs.Stepping.Interrupts.{is_claim_of, is_free_for_interrupt, is_idle}
use Rattle.machine_laws.proofs.Threading.ThreadPutLemmas.{alike}
use Rattle.interrupt_laws.specs.Busy.{PendingMeansBusy}
use Rattle.interrupt_laws.proofs.KeptPendingLemmas.{PendingIsClaimed}

-- the thread is there, and Idle
abbrev pub idle_at : Option Thread → Bool
idle_at o = option_map_or (λ t. is_idle t.state) o false

-- no interrupt thread is Idle that wasn't
abbrev pub IdlesNoMore : Machine → Machine → Type 0
IdlesNoMore m n = (pid : Pid) → is_free_for_interrupt n pid ≡ true → is_free_for_interrupt m pid ≡ true

-- a number is claimed and pending that was, by the same claim
abbrev pub Stood : Machine → Machine → Type 0
Stood m n = (k : ℕ) (claim : Claim) → n.claims k ≡ Some claim → n.pending k ≡ true → (m.claims k ≡ Some claim) × (m.pending k ≡ true)

pub record Calms (m n : Machine) : Type 0 where
  pub idles : IdlesNoMore m n
  pub stood : Stood m n

pub busy_kept : (m n : Machine) → Calms m n → PendingMeansBusy m → PendingMeansBusy n
busy_kept m n calms busy k claim c p =
    let before = calms.stood k claim c p in
    false_from_ne_true (is_free_for_interrupt n claim.pid)
    (λ free. false≢true (sym (busy k claim before.0 before.1) ∙ calms.idles claim.pid free))

-- ---- one thread

-- two processes have two interrupt threads
pub apart : (a b : Pid) → a ≢ b → same_thread (thread_id a 1) (thread_id b 1) ≡ false
apart a b other =
    false_from_ne_true (same_thread (thread_id a 1) (thread_id b 1))
    (λ e. other (ap (λ (id : ThreadId). id.pid) (alike (thread_id a 1) (thread_id b 1) e)))

module _ (m : Machine) (who : ThreadId) where
  pub put_idles : (o : Option Thread) → (idle_at o ≡ true → idle_at (m.threads who) ≡ true) → IdlesNoMore m (put_thread who o m)
  put_idles o h pid e = go (same_thread (thread_id pid 1) who) refl e
    where
      go : (b : Bool) → same_thread (thread_id pid 1) who ≡ b → idle_at (if b then o else m.threads (thread_id pid 1)) ≡ true
          → idle_at (m.threads (thread_id pid 1)) ≡ true
      go true q r = ap (λ id. idle_at (m.threads id)) (alike (thread_id pid 1) who q) ∙ h r
      go false q r = r

  pub changed_idles : (change : Thread → Thread) → ((t : Thread) → is_idle (change t).state ≡ true → is_idle t.state ≡ true)
      → IdlesNoMore m (change_thread who change m)
  changed_idles change h = put_idles (option_map change (m.threads who)) (go (m.threads who))
    where
      go : (o : Option Thread) → idle_at (option_map change o) ≡ true → idle_at o ≡ true
      go None r = r
      go (Some t) r = h t r

-- ---- answers

answered_idles : (o : Option Thread) (words : Option (List ℕ)) → idle_at (option_map (with_answer words) o) ≡ true → idle_at o ≡ true
answered_idles None words r = r
answered_idles (Some t) None r = r
answered_idles (Some t) (Some words) r = absurd (false≢true r)

pub settled_calms : (change : Change) → Calms change.machine (settled change).machine
unfolding settled
settled_calms change = record {
  idles = λ pid e. answered_idles (change.machine.threads (thread_id pid 1)) (change.answers (thread_id pid 1)) e;
  stood = λ k claim c p. (c, p);
}

pub then_calms : (m n o : Machine) → Calms m n → Calms n o → Calms m o
then_calms m n o first second = record {
  idles = λ pid e. first.idles pid (second.idles pid e);
  stood = λ k claim c p. let between = second.stood k claim c p in first.stood k claim between.0 between.1;
}

-- ---- claims

module _ (m : Machine) where
  -- a number that nobody had claimed isn't pending
  pub newly_stood : PendingIsClaimed m → (n : ℕ) (new : Claim) → is_some (m.claims n) ≡ false → (k : ℕ) (claim : Claim)
      → put_at nat_eq m.claims n (Some new) k ≡ Some claim → m.pending k ≡ true → (m.claims k ≡ Some claim) × (m.pending k ≡ true)
  newly_stood claimed n new free k claim c p = go (nat_eq k n) refl c
    where
      go : (b : Bool) → nat_eq k n ≡ b → (if b then Some new else m.claims k) ≡ Some claim → (m.claims k ≡ Some claim) × (m.pending k ≡ true)
      go true q e = absurd (false≢true (sym free ∙ (ap (λ j. is_some (m.claims j)) (sym (eqb-true k n q)) ∙ claimed k p)))
      go false q e = (e, p)

  pub freed_stood : (n k : ℕ) (claim : Claim) → put_at nat_eq m.claims n None k ≡ Some claim → put_at nat_eq m.pending n false k ≡ true
      → (m.claims k ≡ Some claim) × (m.pending k ≡ true)
  freed_stood n k claim c p = go (nat_eq k n) c p
    where
      go : (b : Bool) → (if b then None else m.claims k) ≡ Some claim → (if b then false else m.pending k) ≡ true
          → (m.claims k ≡ Some claim) × (m.pending k ≡ true)
      go true e r = absurd (none-some claim e)
      go false e r = (e, r)

  pub forgotten_stood : (pid : Pid) (k : ℕ) (claim : Claim) → (if is_claim_of pid (m.claims k) then None else m.claims k) ≡ Some claim
      → (m.pending k && not (is_claim_of pid (m.claims k))) ≡ true → (m.claims k ≡ Some claim) × (m.pending k ≡ true)
  forgotten_stood pid k claim c p =
      (go (is_claim_of pid (m.claims k)) c, (and_parts (m.pending k) (not (is_claim_of pid (m.claims k))) p).0)
    where
      go : (b : Bool) → (if b then None else m.claims k) ≡ Some claim → m.claims k ≡ Some claim
      go true e = absurd (none-some claim e)
      go false e = e

-- ---- deaths and ends

pub unforgotten : (o : Option Thread) (b : Bool) → idle_at (if b then None else o) ≡ true → idle_at o ≡ true
unforgotten o true r = absurd (false≢true r)
unforgotten o false r = r

pub death_calms : (pid : Pid) (m : Machine) → Calms m (death pid m).machine
unfolding death servers_closed closed senders_queued_gone senders_held_gone forgotten
death_calms pid m = record {
  idles = λ other e. unforgotten (m.threads (thread_id other 1)) (other.0 == pid.0) e;
  stood = forgotten_stood m pid;
}

without_calms : (m : Machine) (who : ThreadId) → Calms m (put_thread who None m)
without_calms m who = record {
  idles = put_idles m who None (λ r. absurd (false≢true r));
  stood = λ k claim c p. (c, p);
}

last_calms : (m : Machine) (who : ThreadId) (b : Bool) → Calms m (end_with_last_thread b who.pid (put_thread who None m)).machine
last_calms m who true = without_calms m who
last_calms m who false =
    then_calms m (put_thread who None m) (death who.pid (put_thread who None m)).machine (without_calms m who)
    (death_calms who.pid (put_thread who None m))

pub thread_end_calms : (who : ThreadId) (a0 : ℕ) (m : Machine) → Calms m (thread_ended who a0 m).machine
unfolding thread_ended
thread_end_calms who a0 m = last_calms m who (has_threads (put_thread who None m) who.pid)
