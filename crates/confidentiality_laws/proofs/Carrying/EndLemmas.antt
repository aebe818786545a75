-- Ends of servers, processes, threads and handlers carry bytes as they are.
use Rattle.confidentiality_laws.proofs.Ledgers.OtherBytesLemmas.{machine_through}
use Rattle.ledger_model.specs.Ledger.{Ledger}
use Rattle.std.proofs.Common.{◌≡◌, ℕ, Bool, true, false, refl, ap, ◌∙◌, Some, None, List}
use Rattle.xk_base.specs.declared.ids.Pid.{Pid}
use Rattle.xk_base.specs.declared.ids.ThreadId.{ThreadId}
use Rattle.machine_model.specs.Ending.Closing.{any_server, closed, is_held_from, is_message_at, is_queued_from, senders_held_gone, senders_queued_gone, servers_closed}
use Rattle.machine_model.specs.Ending.Ends.{death, end_with_last_thread, forgotten, handler_ended, has_threads, joiners_answered, thread_ended}
use Rattle.machine_model.specs.State.Changes.{Change}
use Rattle.machine_model.specs.State.Machine.{Idle, Machine}
use Rattle.machine_model.specs.State.Servers.{is_server_of}
use Rattle.machine_model.specs.State.Threads.{both_answers, change_thread, put_thread, thread_id, with_state}
use Rattle.confidentiality_laws.proofs.Carrying.ChangeLemmas.{change_through, with_left}
use Rattle.confidentiality_laws.proofs.Carrying.InterruptLemmas.{delivered_through}
use Rattle.confidentiality_laws.proofs.Ledgers.ThroughStepLemmas.{end_loans_through, forget_through, orphan_loans_through}

module _ (g : List ℕ → List ℕ) where
  -- ---- servers

  pub closed_through : (which : ℕ → Bool) (m : Machine) → change_through g (closed which m) ≡ closed which (machine_through g m)
  unfolding closed any_server
  closed_through which m = ap (with_left (closed which m)) (end_loans_through g (is_message_at which m) m.ledger)

  servers_closed_through : (pid : Pid) (m : Machine)
      → change_through g (servers_closed pid m) ≡ servers_closed pid (machine_through g m)
  unfolding servers_closed
  servers_closed_through pid m = closed_through (λ n. is_server_of pid (m.servers n)) m

  -- ---- processes

  abbrev with_ledger : Machine → Ledger → Machine
  with_ledger m ledger = record m { ledger = ledger }

  pub queued_through : (pid : Pid) (m : Machine)
      → machine_through g (senders_queued_gone pid m) ≡ senders_queued_gone pid (machine_through g m)
  unfolding senders_queued_gone any_server
  queued_through pid m = ap (with_ledger (senders_queued_gone pid m)) (end_loans_through g (is_queued_from pid m) m.ledger)

  pub held_through : (pid : Pid) (m : Machine)
      → machine_through g (senders_held_gone pid m) ≡ senders_held_gone pid (machine_through g m)
  unfolding senders_held_gone any_server
  held_through pid m =
      ap (with_ledger (senders_held_gone pid m)) (orphan_loans_through g m.processes (is_held_from pid m) m.ledger)

  pub forgotten_through : (pid : Pid) (m : Machine) → machine_through g (forgotten pid m) ≡ forgotten pid (machine_through g m)
  unfolding forgotten
  forgotten_through pid m = ap (with_ledger (forgotten pid m)) (forget_through g pid m.ledger)

  pub death_through : (pid : Pid) (m : Machine) → change_through g (death pid m) ≡ death pid (machine_through g m)
  unfolding death
  death_through pid m =
      (λ i. record (servers_closed pid m) { machine = gone i; gone = Some pid }) ∙ ap then_gone (servers_closed_through pid m)
    where
      then_gone : Change → Change
      then_gone left =
          record left { machine = forgotten pid (senders_held_gone pid (senders_queued_gone pid left.machine)); gone = Some pid }

      left : Machine
      left = (servers_closed pid m).machine

      gone : machine_through g (forgotten pid (senders_held_gone pid (senders_queued_gone pid left)))
          ≡ forgotten pid (senders_held_gone pid (senders_queued_gone pid (machine_through g left)))
      gone =
          forgotten_through pid (senders_held_gone pid (senders_queued_gone pid left))
          ∙ (ap (forgotten pid) (held_through pid (senders_queued_gone pid left))
          ∙ ap (λ x. forgotten pid (senders_held_gone pid x)) (queued_through pid left))

  -- ---- threads and handlers

  last_through : (others : Bool) (pid : Pid) (m : Machine)
      → change_through g (end_with_last_thread others pid m) ≡ end_with_last_thread others pid (machine_through g m)
  last_through true pid m = refl
  last_through false pid m = death_through pid m

  pub thread_ended_through : (who : ThreadId) (a0 : ℕ) (m : Machine)
      → change_through g (thread_ended who a0 m) ≡ thread_ended who a0 (machine_through g m)
  unfolding thread_ended has_threads
  thread_ended_through who a0 m =
      ap answered (last_through (has_threads (put_thread who None m) who.pid) who.pid (put_thread who None m))
    where
      answered : Change → Change
      answered left = record left { answers = both_answers (joiners_answered m who a0) left.answers }

  pub handler_ended_through : (pid : Pid) (m : Machine)
      → change_through g (handler_ended pid m) ≡ handler_ended pid (machine_through g m)
  unfolding handler_ended
  handler_ended_through pid m = delivered_through g pid (change_thread (thread_id pid 1) (with_state Idle) m)
