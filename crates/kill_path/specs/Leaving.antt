-- What the death of a process does to its messages at the servers of others: a held one loses its sender, and its loan its lender.
use Rattle.std.specs.Prelude.{◌≡◌, ℕ, All, Bool, false, IsSome, is_some, List, [], ◌∷◌, Option, Some, None, if◌then◌else◌}
use Rattle.std.specs.Option.{option_map}
use Rattle.ledger_model.specs.Ledger.{Ledger}
use Rattle.ledger_model.specs.Loans.{IsFresh, LoanRun, Loans, Stands, without_lender}
use Rattle.machine_model.specs.Ending.Closing.{is_held_from, is_queued_from, with_senderless_from, without_queued_from}
use Rattle.machine_model.specs.Messaging.LoanSets.{end_loans, orphan_loans}
use Rattle.machine_model.specs.Messaging.Messages.{is_sent_from}
use Rattle.machine_model.specs.State.Machine.{Machine, Server}
use Rattle.msg_queue.specs.Seats.{Seat, is_of_number, of_number, without_queued}
use Rattle.msg_queue.specs.declared.held.Held.{Held}
use Rattle.xk_parts.specs.Shown.{servers_shown}
use Rattle.xk_parts.specs.Seats.{messages_at}
use Rattle.server_table.specs.declared.table.Servers.{Servers}
use Rattle.xk_base.specs.declared.ids.Number.{Number}
use Rattle.xk_base.specs.declared.ids.Pid.{Pid}
use Rattle.kill_path.specs.Closing.{Closable, closable, with_servers}
use Rattle.kill_path.specs.Ending.{IsEndable}
use Rattle.kill_path.specs.ThreadSets.{nobody}

-- The loan of a message of that number stands, is of that number, and has a lender. Where there is none, nothing is on loan by the
-- number.
abbrev pub IsLoanOrphanable : Loans → Number → Option LoanRun → Type 0
IsLoanOrphanable all number None = IsFresh all number
IsLoanOrphanable all number (Some run) = Stands all run × (run.number ≡ number) × IsSome run.lender

abbrev pub IsOrphanable : Loans → Held → Type 0
IsOrphanable all h = IsLoanOrphanable all h.msg.number h.loan

-- the message without a sender, and its loan without a lender
abbrev pub alone : Held → Held
alone h = record { msg = record h.msg { sender = None }; loan = option_map without_lender h.loan }

-- the first message of that number is left alone in its place
abbrev pub first_alone : Number → List Held → List Held
first_alone number [] = []
first_alone number (h ∷ hs) = if is_of_number number h then alone h ∷ hs else h ∷ first_alone number hs

abbrev pub with_alone : Number → Seat → Seat
with_alone number seat = record seat { held = first_alone number seat.held }

-- the message of that number is queued at the seat
abbrev pub is_queued : Number → Seat → Bool
is_queued number seat = is_some (of_number number seat.queued)

-- a queued message of that number is taken out, and a held one is left alone
abbrev pub without_message : Number → Seat → Seat
without_message number seat = if is_queued number seat then without_queued number seat else with_alone number seat

-- There is a message of that number at the seat. A queued one can end, and a held one be left alone.
pub record IsLeavable (all : Loans) (number : Number) (seat : Seat) : Type 0 where
  pub queued : (h : Held) → of_number number seat.queued ≡ Some h → IsEndable all h
  pub there : of_number number seat.queued ≡ None → IsSome (of_number number seat.held)
  pub held : of_number number seat.queued ≡ None → (h : Held) → of_number number seat.held ≡ Some h → IsOrphanable all h

-- ---- at all servers

-- the server without what the process waits for: queued messages are taken out, held ones have no sender
abbrev pub left_by : Pid → Server → Server
left_by pid server = with_senderless_from pid (without_queued_from pid server)

-- From the new parts the death of the process makes what it makes from the old ones: of the ledger, and of the servers.
pub record LeavesAlike (procs : ℕ) (pid : Pid) (old new : Closable) : Type 0 where
  pub ledger : (m : Machine)
      → orphan_loans procs (is_held_from pid (with_servers new m)) (end_loans (is_queued_from pid (with_servers new m)) new.ledger)
      ≡ orphan_loans procs (is_held_from pid (with_servers old m)) (end_loans (is_queued_from pid (with_servers old m)) old.ledger)
  pub servers : (n : ℕ) → option_map (left_by pid) (servers_shown new.servers new.seats n)
      ≡ option_map (left_by pid) (servers_shown old.servers old.seats n)

-- the parts that leaving changes: nobody is to be answered
abbrev pub standing : Ledger → Servers → List Seat → Closable
standing ledger servers seats = closable ledger servers seats nobody

-- no message at the seat is from the process
abbrev pub AreOfOthers : Pid → Seat → Type 0
AreOfOthers pid seat = All (λ h. is_sent_from pid h.msg ≡ false) (messages_at seat)

-- What the death of the process makes of the ledger and of the servers was made of them.
pub record HasLeft (procs : ℕ) (pid : Pid) (old new : Closable) : Type 0 where
  pub ledger : (m : Machine)
      → new.ledger
      ≡ orphan_loans procs (is_held_from pid (with_servers old m)) (end_loans (is_queued_from pid (with_servers old m)) old.ledger)
  pub servers : (n : ℕ) → servers_shown new.servers new.seats n ≡ option_map (left_by pid) (servers_shown old.servers old.seats n)
