-- A process dies by TerminateProcess, or as its last thread above tid 1 ends. Where its death keeps the machine matched, they do.
use Rattle.std.proofs.Common.{◌≡◌, ℕ, Bool, true, false, Option, Some, None, refl, sym, ap, ◌∙◌, subst}
use Rattle.std.specs.Prelude.{◌==◌, if◌then◌else◌}
use Rattle.std.specs.Option.{option_map, option_or}
use Rattle.std.proofs.lemmas.Bool.{and_left, eq-eqb}
use Rattle.xk_base.specs.declared.ids.Pid.{Pid}
use Rattle.xk_base.specs.declared.ids.ThreadId.{ThreadId}
use Rattle.syscall_codec.specs.CallNumbers.{terminate_process}
use Rattle.xk_base.specs.Tables.Circle.{same_thread}
use Rattle.xk_base.specs.Tables.Counting.{put_at}
use Rattle.syscall_codec.specs.ReplyWords.{scalar1_words}
use Rattle.machine_model.specs.State.Changes.{Change, Served, Told, call_settled, settled}
use Rattle.machine_model.specs.Ending.Closing.{any_server, closed, servers_closed, senders_queued_gone, senders_held_gone}
use Rattle.machine_model.specs.Ending.Ends.{death, forgotten, thread_ended, has_threads, end_with_last_thread, joiners_answered, waits_for_end}
use Rattle.machine_model.specs.State.Machine.{Machine, Thread}
use Rattle.machine_model.specs.Runs.Kept.{Settles}
use Rattle.machine_model.specs.Calling.ThreadCalls.{terminate_call}
use Rattle.machine_model.specs.State.Threads.{Answers, put_thread, change_thread, passed, give_answers, both_answers, with_answer}
use Rattle.machine_laws.proofs.Dying.DeathLemmas.{death_keeps}
use Rattle.machine_laws.proofs.Calling.CallRowLemmas.{KeepsNumber}
use Rattle.machine_laws.proofs.Calling.ThreadCallLemmas.{call_keeps}
use Rattle.machine_laws.proofs.Threading.ThreadPutLemmas.{alike}

-- the death of the process keeps the machine matched
abbrev pub DeathKeeps : Pid → Machine → Type 0
DeathKeeps pid m = Settles m (settled (death pid m)).machine

-- no thread of the dead process is left
pub dead_threads : (pid : Pid) (m : Machine) (id : ThreadId) → (death pid m).machine.threads id ≡ (if id.pid.0 == pid.0 then None else m.threads id)
unfolding death servers_closed closed senders_queued_gone senders_held_gone forgotten
dead_threads pid m id = refl

-- ---- TerminateProcess

passes_nobody : (m : Machine) → change_thread m.cursor passed (death m.cursor.pid m).machine ≡ (death m.cursor.pid m).machine
passes_nobody m = λ i. record left { threads = λ id. same id (same_thread id m.cursor) refl i }
  where
    left : Machine
    left = (death m.cursor.pid m).machine

    gone : left.threads m.cursor ≡ None
    gone = dead_threads m.cursor.pid m m.cursor ∙ ap (λ b. if b then None else m.threads m.cursor) (eq-eqb m.cursor.pid.0 m.cursor.pid.0 refl)

    same : (id : ThreadId) (b : Bool) → same_thread id m.cursor ≡ b → (if b then option_map passed (left.threads m.cursor) else left.threads id) ≡ left.threads id
    same id false e = refl
    same id true e = ap (option_map passed) gone ∙ sym gone ∙ sym (ap left.threads (alike id m.cursor e))

-- what settles of the call is what settles of the death
pub terminate_settles : (m : Machine) → call_settled m (Served (death m.cursor.pid m)) ≡ settled (death m.cursor.pid m)
unfolding call_settled
terminate_settles m = ap (λ left. settled (record (death m.cursor.pid m) { machine = left })) (passes_nobody m)

pub terminate_number_keeps : KeepsNumber terminate_process
unfolding terminate_call
terminate_number_keeps m h ready w e =
    call_keeps m h ready w 22 e (λ none. subst (λ (t : Told). Settles m t.machine) (sym (terminate_settles m)) (death_keeps m h m.cursor.pid))

-- ---- the last thread

pub same_death : (who : ThreadId) (m : Machine) → death who.pid (put_thread who None m) ≡ death who.pid m
unfolding death any_server servers_closed closed senders_queued_gone senders_held_gone forgotten
same_death who m = λ i. record (death who.pid m) { machine = record (death who.pid m).machine { threads = λ id. same id (id.pid.0 == who.pid.0) refl i } }
  where
    same : (id : ThreadId) (b : Bool) → (id.pid.0 == who.pid.0) ≡ b
        → (if b then None else put_at same_thread m.threads who None id) ≡ (if b then None else m.threads id)
    same id true e = refl
    same id false e = ap (λ c. if c then None else m.threads id) (and_left (id.pid.0 == who.pid.0) (id.tid.0 == who.tid.0) e)

-- who joined the last thread died with it
nobody_joins : (m : Machine) (who : ThreadId) (a0 : ℕ) (others : Answers)
    → give_answers (both_answers (joiners_answered m who a0) others) (death who.pid m).machine ≡ give_answers others (death who.pid m).machine
nobody_joins m who a0 others = λ i. record left { threads = λ id. same id (id.pid.0 == who.pid.0) refl i }
  where
    left : Machine
    left = (death who.pid m).machine

    gone : (id : ThreadId) → (id.pid.0 == who.pid.0) ≡ true → left.threads id ≡ None
    gone id e = dead_threads who.pid m id ∙ ap (λ b. if b then None else m.threads id) e

    stranger : (id : ThreadId) (o : Option Thread) → (id.pid.0 == who.pid.0) ≡ false → waits_for_end who id o ≡ false
    stranger id None e = refl
    stranger id (Some t) e = and_left (id.pid.0 == who.pid.0) _ e

    same : (id : ThreadId) (b : Bool) → (id.pid.0 == who.pid.0) ≡ b
        → option_map (with_answer (both_answers (joiners_answered m who a0) others id)) (left.threads id)
        ≡ option_map (with_answer (others id)) (left.threads id)
    same id true e =
        ap (option_map (with_answer (both_answers (joiners_answered m who a0) others id))) (gone id e) ∙ sym (ap (option_map (with_answer (others id))) (gone id e))
    same id false e =
        ap (λ b. option_map (with_answer (option_or (if b then Some (scalar1_words a0) else None) (others id))) (left.threads id)) (stranger id (m.threads id) e)

pub last_keeps : (m : Machine) (who : ThreadId) (a0 : ℕ) → has_threads (put_thread who None m) who.pid ≡ false → DeathKeeps who.pid m
    → Settles m (settled (thread_ended who a0 m)).machine
unfolding thread_ended settled
last_keeps m who a0 last d =
    subst (λ b. Settles m (left_by (end_with_last_thread b who.pid (put_thread who None m)))) (sym last)
    (subst (λ (left : Change). Settles m (left_by left)) (sym (same_death who m))
    (subst (Settles m) (sym (nobody_joins m who a0 (death who.pid m).answers)) d))
  where
    left_by : Change → Machine
    left_by left = give_answers (both_answers (joiners_answered m who a0) left.answers) left.machine
