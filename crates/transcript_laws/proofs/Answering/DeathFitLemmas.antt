-- A death, and the end of a thread, fit: they answer threads that wait, and leave the others as they stand.
use Rattle.std.proofs.Common.{◌≡◌, ◌≢◌, ℕ, ◌⊎◌, inl, inr, Bool, true, false, Option, None, refl, sym, ap, ◌∙◌, subst}
use Rattle.std.specs.Prelude.{◌==◌, is_some, if◌then◌else◌}
use Rattle.std.proofs.lemmas.Bool.{eqb-true, false≢true}
use Rattle.xk_base.specs.declared.ids.Pid.{Pid}
use Rattle.xk_base.specs.declared.ids.ThreadId.{ThreadId}
use Rattle.xk_base.specs.Tables.Circle.{is_thread_id}
use Rattle.machine_model.specs.Ending.Closing.{closed, senders_held_gone, senders_queued_gone, servers_closed}
use Rattle.machine_model.specs.Ending.Ends.{dead_process, death, end_with_last_thread, forgotten, has_threads, joiners_answered, thread_ended}
use Rattle.machine_model.specs.Runs.Matched.{Matched}
use Rattle.machine_model.specs.State.Changes.{Change}
use Rattle.machine_model.specs.State.Machine.{Machine, Process, Thread}
use Rattle.machine_model.specs.State.Threads.{Answers, both_answers, put_thread}
use Rattle.transcript_laws.specs.AnsweredOnce.{Dead, Standing, Waits, standing, standing_by}
use Rattle.transcript_laws.specs.Answering.{is_waiting}
use Rattle.transcript_laws.proofs.Answering.DueLemmas.{death_waits, thread_end_waits}
use Rattle.transcript_laws.proofs.Answering.SayLemmas.{ChangeFits}
use Rattle.transcript_laws.proofs.Answering.StandLemmas.{living_stands, not_equal, put_stands, waiting_known, waiting_lives, waiting_stands}

-- how a thread stood: as in the state, or it is of the process and made the call
abbrev pub StoodAs : Machine → Pid → (ThreadId → Standing) → ThreadId → Type 0
StoodAs m pid before id = (before id ≡ standing m id) ⊎ ((before id ≡ Waits) × ((pid.0 == id.pid.0) ≡ true))

waits_not_dead : Waits ≢ Dead
waits_not_dead e = cc

-- what is left of the threads and processes
left_thread : (m : Machine) (pid : Pid) (id : ThreadId) → (id.pid.0 == pid.0) ≡ false → (death pid m).machine.threads id ≡ m.threads id
unfolding death forgotten senders_held_gone senders_queued_gone servers_closed closed
left_thread m pid id e = ap (λ (b : Bool). if b then None else m.threads id) e

left_process : (m : Machine) (pid : Pid) (n : ℕ) → (n == pid.0) ≡ false → (death pid m).machine.process n ≡ m.process n
unfolding death forgotten senders_held_gone senders_queued_gone servers_closed closed
left_process m pid n e = ap (λ (b : Bool). if b then dead_process else m.process n) e

dead_is : (m : Machine) (pid : Pid) (n : ℕ) → (n == pid.0) ≡ true → ((death pid m).machine.process n).alive ≡ false
unfolding death forgotten senders_held_gone senders_queued_gone servers_closed closed
dead_is m pid n e = ap (λ (b : Bool). (if b then dead_process else m.process n).alive) e

same_processes : (m : Machine) (pid : Pid) → (death pid m).machine.processes ≡ m.processes
unfolding death forgotten senders_held_gone senders_queued_gone servers_closed closed
same_processes m pid = refl

no_delivery : (m : Machine) (pid : Pid) → (death pid m).delivery ≡ None
unfolding death servers_closed closed
no_delivery m pid = refl

-- n is the state without a thread of the process, or the state itself
module _ (m : Machine) (h : Matched m) (pid : Pid) (lives : (m.process pid.0).alive ≡ true) (before : ThreadId → Standing)
    (stood : (id : ThreadId) → StoodAs m pid before id) (n : Machine) (processes : n.processes ≡ m.processes) (process : (k : ℕ) → n.process k ≡ m.process k)
    (others : (id : ThreadId) → (id.pid.0 == pid.0) ≡ false → standing n id ≡ standing m id) where
  module _ (answers : Answers) (due : (id : ThreadId) → is_some (answers id) ≡ true → is_waiting (m.threads id) ≡ true) where
    abbrev change : Change
    change = record (death pid n) { answers = answers }

    answered : (id : ThreadId) → is_some (answers id) ≡ true → (before id ≡ Waits) × (is_thread_id change.machine.processes id ≡ true)
    answered id some =
        (go (stood id), subst (λ k. is_thread_id k id ≡ true) (sym (same_processes n pid ∙ processes)) (waiting_known m h id (due id some)))
      where
        go : StoodAs m pid before id → before id ≡ Waits
        go (inl e) = e ∙ waiting_stands m h id (due id some)
        go (inr e) = e.0

    left : (id : ThreadId) → (pid.0 == id.pid.0) ≡ false → standing change.machine id ≡ before id
    left id apart =
        ap (λ (o : Option Thread). standing_by (change.machine.process id.pid.0).alive (is_waiting o)) (left_thread n pid id (not_equal pid.0 id.pid.0 apart))
        ∙ (ap (λ (p : Process). standing_by p.alive (is_waiting (n.threads id))) (left_process n pid id.pid.0 (not_equal pid.0 id.pid.0 apart))
        ∙ (others id (not_equal pid.0 id.pid.0 apart) ∙ sym (go (stood id))))
      where
        go : StoodAs m pid before id → before id ≡ standing m id
        go (inl e) = e
        go (inr e) = absurd (false≢true (sym apart ∙ e.1))

    freed : (id : ThreadId) → (pid.0 == id.pid.0) ≡ false → is_some (answers id) ≡ true → (change.machine.process id.pid.0).alive ≡ true
    freed id apart some =
        ap (λ (p : Process). p.alive) (left_process n pid id.pid.0 (not_equal pid.0 id.pid.0 apart) ∙ process id.pid.0)
        ∙ waiting_lives m h id (due id some)

    dead : (id : ThreadId) → (pid.0 == id.pid.0) ≡ true → (before id ≢ Dead) × ((change.machine.process id.pid.0).alive ≡ false)
    dead id same = (λ d. go (stood id) d, dead_is n pid id.pid.0 (ap (λ (k : ℕ). k == pid.0) (sym equal) ∙ (ap (λ (k : ℕ). pid.0 == k) equal ∙ same)))
      where
        equal : pid.0 ≡ id.pid.0
        equal = eqb-true pid.0 id.pid.0 same

        go : StoodAs m pid before id → before id ≡ Dead → ⊥
        go (inl e) d =
            living_stands (m.process id.pid.0).alive (is_waiting (m.threads id)) (ap (λ k. (m.process k).alive) (sym equal) ∙ lives) (sym e ∙ d)
        go (inr e) d = waits_not_dead (sym e.0 ∙ d)

    pub death_fits : ChangeFits before change
    unfolding death
    death_fits = record {
      delivery = no_delivery n pid;
      answered = answered;
      left = λ id apart none. left id apart;
      freed = freed;
      dead = dead;
    }

-- the death of a process in a matched state
pub death_itself_fits : (m : Machine) → Matched m → (pid : Pid) → (m.process pid.0).alive ≡ true → (before : ThreadId → Standing)
    → ((id : ThreadId) → StoodAs m pid before id) → ChangeFits before (death pid m)
unfolding death servers_closed closed
death_itself_fits m h pid lives before stood =
    subst (ChangeFits before) is
    (death_fits m h pid lives before stood m refl (λ k. refl) (λ id apart. refl) (death pid m).answers (λ id some. death_waits m h pid id some))
  where
    is : (record (death pid m) { answers = (death pid m).answers }) ≡ death pid m
    is = refl

-- ---- the end of a thread

module _ (m : Machine) (h : Matched m) (who : ThreadId) (a0 : ℕ) (lives : (m.process who.pid.0).alive ≡ true) (free : is_waiting (m.threads who) ≡ false) where
  abbrev ended_without : Answers → Change
  ended_without answers = record { machine = put_thread who None m; answers = answers; delivery = None; gone = None }

  stays_fits : (answers : Answers) → ((id : ThreadId) → is_some (answers id) ≡ true → is_waiting (m.threads id) ≡ true)
      → ChangeFits (standing m) (ended_without answers)
  stays_fits answers due = record {
    delivery = refl;
    answered = λ id some. (waiting_stands m h id (due id some), waiting_known m h id (due id some));
    left = λ id apart none. put_stands m who None free refl id;
    freed = λ id apart some. waiting_lives m h id (due id some);
    dead = λ id e. absurd (false≢true e);
  }

  -- by whether the process has another thread
  abbrev ends : Bool → Change
  ends b =
      record (end_with_last_thread b who.pid (put_thread who None m)) {
        answers = both_answers (joiners_answered m who a0) (end_with_last_thread b who.pid (put_thread who None m)).answers;
      }

  pub thread_end_fits : ChangeFits (standing m) (thread_ended who a0 m)
  unfolding thread_ended
  thread_end_fits = subst (ChangeFits (standing m)) (sym is) (go (has_threads (put_thread who None m) who.pid) due)
    where
      is : thread_ended who a0 m ≡ ends (has_threads (put_thread who None m) who.pid)
      is = refl

      due : (id : ThreadId) → is_some ((ends (has_threads (put_thread who None m) who.pid)).answers id) ≡ true → is_waiting (m.threads id) ≡ true
      due id some = thread_end_waits m h who a0 id (ap (λ (c : Change). is_some (c.answers id)) is ∙ some)

      go : (b : Bool) → ((id : ThreadId) → is_some ((ends b).answers id) ≡ true → is_waiting (m.threads id) ≡ true) → ChangeFits (standing m) (ends b)
      go true given = stays_fits (ends true).answers given
      go false given =
          death_fits m h who.pid lives (standing m) (λ id. inl refl) (put_thread who None m) refl (λ k. refl)
          (λ id apart. put_stands m who None free refl id) (ends false).answers given
