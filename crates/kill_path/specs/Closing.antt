-- What the close of servers makes of the ledger, the servers with their messages, and the threads that are to be answered.
use Rattle.std.specs.Prelude.{◌≡◌, ℕ, Bool, ◌||◌, List, None, if◌then◌else◌}
use Rattle.ledger_model.specs.Ledger.{Ledger}
use Rattle.machine_model.specs.Ending.Closing.{is_message_at, is_sender_at}
use Rattle.machine_model.specs.Messaging.LoanSets.{end_loans}
use Rattle.machine_model.specs.State.Machine.{Machine}
use Rattle.msg_queue.specs.Seats.{Seat}
use Rattle.xk_parts.specs.Shown.{servers_shown}
use Rattle.server_table.specs.ServersOf.{servers_of}
use Rattle.server_table.specs.declared.table.Servers.{Servers}
use Rattle.xk_base.specs.declared.ids.ThreadId.{ThreadId}
use Rattle.kill_path.specs.ThreadSets.{ThreadSet}

-- the parts that a close changes
pub record Closable : Type 0 where
  pub ledger : Ledger
  pub servers : Servers
  pub seats : List Seat
  pub noted : ThreadSet

abbrev pub closable : Ledger → Servers → List Seat → ThreadSet → Closable
closable ledger servers seats noted = record { ledger = ledger; servers = servers; seats = seats; noted = noted }

-- a machine with these servers and messages
abbrev pub with_servers : Closable → Machine → Machine
with_servers parts m = record m { servers = servers_shown parts.servers parts.seats; next_serial = (servers_of parts.servers).next }

-- These servers closed: the loans of their messages ended, their senders are to be answered too, and the servers went.
pub record AreClosed (which : ℕ → Bool) (old new : Closable) : Type 0 where
  pub ledger : (m : Machine) → new.ledger ≡ end_loans (is_message_at which (with_servers old m)) old.ledger
  pub noted : (m : Machine) (id : ThreadId) → new.noted id ≡ (old.noted id || is_sender_at which (with_servers old m) id)
  pub servers : (n : ℕ) → servers_shown new.servers new.seats n ≡ (if which n then None else servers_shown old.servers old.seats n)
  pub next : (servers_of new.servers).next ≡ (servers_of old.servers).next
