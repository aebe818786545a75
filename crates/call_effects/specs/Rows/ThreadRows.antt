-- The verdicts on the calls on threads and on the caller's process.
use Rattle.std.specs.Prelude.{ℕ, Bool, unwrap_or, [], ◌∷◌, Some}
use Rattle.xk_base.specs.declared.ids.Pid.{Pid}
use Rattle.syscall_codec.specs.CallWords.{join_tid, thread_arguments, thread_entry, thread_sp}
use Rattle.syscall_codec.specs.ReplyWords.{plain_words, thread_words}
use Rattle.machine_model.specs.Calling.ThreadCalls.{create_refusals, free_tid, join_refusals}
use Rattle.machine_model.specs.Ending.Closing.{is_sender_at, refused_server}
use Rattle.machine_model.specs.State.Machine.{Joining, Machine}
use Rattle.machine_model.specs.State.Servers.{is_server_of}
use Rattle.machine_model.specs.State.Threads.{new_thread, thread_id}
use Rattle.call_effects.specs.Effects.{ClosesServers, EndsTurn, Forgets, Orphans, Starts, Unqueues, Waits}
use Rattle.call_effects.specs.Verdicts.{Does, Plan, RefusedIf, Row, answers_caller, answers_nobody}

-- Yield: the turn ends
abbrev pub yield_row : Row
yield_row m w = answers_caller m plain_words (EndsTurn ∷ [])

-- CreateThread: a thread of the least free tid
abbrev pub create_row : Row
create_row m w =
    let tid = unwrap_or (free_tid m m.cursor.pid) 0 in
    RefusedIf (create_refusals m (thread_entry w))
    (answers_caller m (thread_words tid)
    (Starts (thread_id m.cursor.pid tid) (new_thread (thread_entry w) (thread_sp w) (thread_arguments w)) ∷ []))

-- JoinThread: the caller waits for the end of that thread
abbrev pub join_row : Row
join_row m w =
    RefusedIf (join_refusals m (join_tid w))
    (answers_nobody (Waits m.cursor (Joining (record { 0 = join_tid w })) ∷ []))

-- the death of a process: its servers close, and who waits for an answer there is answered; then its messages at other servers;
-- then all that it has
abbrev pub death_plan : Pid → Machine → Plan
death_plan pid m =
    let own : ℕ → Bool = λ n. is_server_of pid (m.servers n) in
    record {
      effects = ClosesServers own ∷ Unqueues pid ∷ Orphans pid ∷ Forgets pid ∷ [];
      answers = refused_server (is_sender_at own m);
      gone = Some pid;
    }

-- TerminateProcess: the caller's process dies
abbrev pub terminate_row : Row
terminate_row m w = Does (death_plan m.cursor.pid m)
