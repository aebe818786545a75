-- The death of a process changes no byte: loans end, orphans stay with their holders, and the pages of the process go.
use Rattle.xk_base.specs.declared.ids.Pid.{Pid}
use Rattle.ledger_model.specs.Lawful.{IsLawful}
use Rattle.machine_model.specs.Ending.Closing.{closed, is_held_from, is_message_at, is_queued_from, senders_held_gone, senders_queued_gone, servers_closed}
use Rattle.machine_model.specs.Ending.Ends.{death, forgotten}
use Rattle.confidentiality_laws.specs.EmptyPlaces.{MovesToEmptyPlaces}
use Rattle.machine_model.specs.State.Machine.{Machine}
use Rattle.machine_model.specs.State.Servers.{is_server_of}
use Rattle.confidentiality_laws.proofs.Keeping.OrphanedPageLemmas.{OnlyOrphans, end_loans_orphans, forget_orphans, orphan_loans_orphans}
use Rattle.confidentiality_laws.proofs.Keeping.OrphanedPageLemmas.{orphans_keep, orphans_then}

module _ (pid : Pid) (m : Machine) where
  abbrev shut : Machine
  shut = (servers_closed pid m).machine

  abbrev taken_out : Machine
  taken_out = senders_queued_gone pid shut

  abbrev senderless : Machine
  senderless = senders_held_gone pid taken_out

  pub death_orphans : OnlyOrphans m.ledger (death pid m).machine.ledger
  unfolding death servers_closed closed senders_queued_gone senders_held_gone forgotten
  death_orphans =
      orphans_then m.ledger shut.ledger (forgotten pid senderless).ledger
      (end_loans_orphans (is_message_at (λ n. is_server_of pid (m.servers n)) m) m.ledger)
      (orphans_then shut.ledger taken_out.ledger (forgotten pid senderless).ledger (end_loans_orphans (is_queued_from pid shut) shut.ledger)
      (orphans_then taken_out.ledger senderless.ledger (forgotten pid senderless).ledger
      (orphan_loans_orphans taken_out.processes (is_held_from pid taken_out) taken_out.ledger)
      (forget_orphans pid senderless.ledger)))

  pub death_keeps : IsLawful m.processes m.capacity m.ledger → MovesToEmptyPlaces m.ledger (death pid m).machine.ledger
  death_keeps lawful = orphans_keep m.processes m.capacity m.ledger (death pid m).machine.ledger lawful death_orphans
