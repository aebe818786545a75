-- The soundness of the parts: whatever the store did (`AreWhole`), and as those of a matched machine (`AreSound`).
use Rattle.std.specs.Prelude.{◌≡◌, ℕ, ◌<◌, ◌≤◌, true, All, IfSome, IsTrue, List, length, Option, Some, None}
use Rattle.ledger_model.specs.Loans.{IsFresh, LoanRun, Loans, Stands, loans}
use Rattle.machine_model.specs.Messaging.MessageCounts.{HasAtMostOne}
use Rattle.machine_model.specs.Messaging.Messages.{is_of_number, loan_kind}
use Rattle.machine_model.specs.Runs.Matched.{AreLoansMatched, Matched}
use Rattle.machine_model.specs.State.Machine.{Machine}
use Rattle.msg_queue.specs.Seats.{Seat, empty_seat, seat_of}
use Rattle.msg_queue.specs.declared.held.Held.{Held as HeldMessage}
use Rattle.process_table.specs.Shown.{process_count as made_for}
use Rattle.server_table.specs.ServerState.{Server, ServerState}
use Rattle.server_table.specs.ServersOf.{servers_of}
use Rattle.server_table.specs.declared.table.Servers.{Servers}
use Rattle.thread_table.specs.Shown.{process_count}
use Rattle.vm_memory.specs.Memory.{ledger, processes}
use Rattle.vm_memory.specs.Sound.{IsSound as IsMemorySound}
use Rattle.xk_ports.specs.declared.store.SwapStore.{Ghosts as SwapStore}
use Rattle.xk_base.specs.Calls.Kinds.{is_answered}
use Rattle.xk_base.specs.Tables.Circle.{is_pid, is_thread_id}
use Rattle.xk_base.specs.declared.ids.Number.{Number}
use Rattle.xk_base.specs.declared.ids.Pid.{Pid}
use Rattle.xk_base.specs.declared.ids.Place.{Place}
use Rattle.xk_base.specs.declared.ids.ThreadId.{ThreadId}
use Rattle.xk_base.specs.declared.limits.TheConstants.{PROCESS_LIMIT, RECORD_LIMIT, SERVER_LIMIT}
use Rattle.xk_base.specs.declared.messages.Message.{Message}
use Rattle.xk_parts.specs.Parts.{Parts, machine_at}
use Rattle.xk_parts.specs.Seats.{HasLoanIfLend, HasNoServer, messages_at}
use Rattle.xk_parts.specs.Shown.{servers_shown}

-- ---- seats

-- of the seats
pub record AreSeatsSound (servers : ServerState) (seats : List Seat) : Type 0 where
  pub all : length seats ≡ SERVER_LIMIT
  -- a seat without a live server is empty
  pub empty : (seat : ℕ) → seat < SERVER_LIMIT → HasNoServer servers seat → seat_of seats seat ≡ empty_seat
  -- a message has a loan exactly where it is a lend or mutable lend
  pub loans : (seat : ℕ) → All HasLoanIfLend (messages_at (seat_of seats seat))

-- ---- the loans of messages

-- the thread's place, or none for none
abbrev pub IsLenderOf : Option ThreadId → Option Place → Type 0
IsLenderOf None lender = lender ≡ None
IsLenderOf (Some sender) lender = (from : Place) × (lender ≡ Some from) × (from.pid ≡ sender.pid)

-- The loan of a message is one to the server of this process that stands. It has the message's number, kind, first place and
-- count. Its lender is in the sender's process, and there is none where the message has no sender.
pub record IsLoanOf (all : Loans) (pid : Pid) (message : Message) (run : LoanRun) : Type 0 where
  pub stands : Stands all run
  pub number : run.number ≡ message.number
  pub kind : loan_kind message.kind ≡ Some run.kind
  pub first : run.holder ≡ record { pid = pid; vpn = message.first }
  pub count : run.count ≡ message.count
  pub lender : IsLenderOf message.sender run.lender

-- each loan at a seat is that of its message
abbrev pub AreLoansAt : Loans → Pid → Seat → Type 0
AreLoansAt all pid seat = All (λ h. (run : LoanRun) → h.loan ≡ Some run → IsLoanOf all pid h.msg run) (messages_at seat)

-- .. at the seat of every live server
abbrev pub AreLoansSound : Loans → ServerState → List Seat → Type 0
AreLoansSound all servers seats =
    (serial : ℕ) (server : Server) → servers.live serial ≡ Some server → AreLoansAt all server.pid (seat_of seats server.seat)

-- ---- what holds of messages and loans whatever threads are about

-- the sender of the message, where it has one, can be a thread, and the message is to be answered
abbrev pub HasKnownSender : HeldMessage → Type 0
HasKnownSender h = IfSome h.msg.sender (λ id. (is_thread_id PROCESS_LIMIT id ≡ true) × (is_answered h.msg.kind ≡ true))

-- the loan of a message at a server of the process is its own, and where it has none, nothing is on loan by its number
abbrev pub IsLoanFitOf : Loans → Pid → Message → Option LoanRun → Type 0
IsLoanFitOf all pid message None = IsFresh all message.number
IsLoanFitOf all pid message (Some run) = IsLoanOf all pid message run

abbrev pub IsLoanFit : Loans → Pid → HeldMessage → Type 0
IsLoanFit all pid h = IsLoanFitOf all pid h.msg h.loan

-- of the messages of each live server, whatever its senders are about
pub record AreOpen (all : Loans) (t : Servers) (q : List Seat) : Type 0 where
  pub seats : AreSeatsSound (servers_of t) q
  pub fit : (n : ℕ) (server : Server) → (servers_of t).live n ≡ Some server
      → All (IsLoanFit all server.pid) (messages_at (seat_of q server.seat))
  pub senders : (n : ℕ) (server : Server) → (servers_of t).live n ≡ Some server
      → All HasKnownSender (messages_at (seat_of q server.seat))
  -- no two messages have one number
  pub numbers : (number : Number) → HasAtMostOne (servers_shown t q) (is_of_number number)

-- Of all servers, their messages and all loans of a memory that was made for so many processes. With this every loan can be spent,
-- whatever threads are about: each message ends with its own loan, and no loan is left then.
pub record AreServersSound (procs : ℕ) (all : Loans) (t : Servers) (q : List Seat) : Type 0 where
  pub messages : AreOpen all t q
  pub loans : AreLoansMatched all (servers_shown t q)
  -- each server is one of a process that there can be
  pub owners : (n : ℕ) (server : Server) → (servers_of t).live n ≡ Some server → IsTrue (is_pid procs server.pid.0)

-- ---- of the parts

-- Whatever the store did: the memory is sound, all parts were made for one number of processes, it can be the turn of the thread, the
-- log has room for a step, and every loan can be spent. It is asked of all parts; what speaks of one that isn't taken says nothing.
pub record AreWhole {W : Type 0} (S : SwapStore W) (who : ThreadId) (parts : Parts W) : Type 0 where
  pub mem : IfSome parts.mem (IsMemorySound S.slot_count)
  pub threads : IfSome parts.mem (λ mem. process_count parts.threads ≡ processes mem)
  pub procs : IfSome parts.mem (λ mem. IfSome parts.procs (λ procs. made_for procs ≡ processes mem))
  pub cursor : IfSome parts.mem (λ mem. IsTrue (is_thread_id (processes mem) who))
  pub room : RECORD_LIMIT ≤ parts.log.room
  pub servers : IfSome parts.mem (λ mem. AreServersSound (processes mem) (loans (ledger S.held mem)) parts.servers parts.queues)

-- And matched besides: at the turn of the thread they are those of a matched machine. What speaks of a part that a call doesn't take
-- isn't asked of that call.
pub record AreSound {W : Type 0} (S : SwapStore W) (who : ThreadId) (parts : Parts W) : Type 0 where
  pub machine : Machine
  pub matched : Matched (machine_at S.held who parts machine)
  pub mem : IfSome parts.mem (IsMemorySound S.slot_count)
  -- all were made for one number of processes
  pub processes : IfSome parts.mem (λ mem. process_count parts.threads ≡ processes mem)
  pub procs : IfSome parts.procs (λ procs. made_for procs ≡ process_count parts.threads)
  pub seats : AreSeatsSound (servers_of parts.servers) parts.queues
  pub loans : IfSome parts.mem (λ mem. AreLoansSound (loans (ledger S.held mem)) (servers_of parts.servers) parts.queues)
