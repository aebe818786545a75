-- The invariant of the whole machine: what every state keeps that a run from a lawful start can reach. It has nine parts. Each is
-- said of just the components that it speaks of, so that what a change leaves alone stays matched as it is.
use Rattle.std.specs.Prelude.{◌≡◌, ℕ, ◌+◌, ◌/◌, ◌%◌, ◌<◌, ◌≤◌, ◌⊎◌, ◌==◌, Bool, true, false, ◌&&◌, is_some, IsTrue, IsFalse, [], length}
use Rattle.std.specs.Prelude.{Option, Some, None}
use Rattle.std.specs.List.{All, AllPairs}
use Rattle.std.specs.Option.{option_map_or}
use Rattle.xk_base.specs.declared.ids.Number.{Number}
use Rattle.xk_base.specs.declared.ids.Place.{Place}
use Rattle.xk_base.specs.declared.ids.Serial.{Serial}
use Rattle.xk_base.specs.declared.ids.ThreadId.{ThreadId}
use Rattle.xk_base.specs.declared.ids.Tid.{Tid}
use Rattle.xk_base.specs.declared.ids.Pid.{Pid}
use Rattle.xk_base.specs.declared.limits.TheConstants.{PAGE_SIZE, PROCESS_LIMIT, SERVER_LIMIT, MESSAGE_LIMIT, CONNECTION_LIMIT}
use Rattle.xk_base.specs.declared.limits.TheConstants.{INTERRUPT_LIMIT, TIMER_INTERRUPT}
use Rattle.xk_base.specs.declared.messages.Message.{Message}
use Rattle.xk_base.specs.declared.pages.LoanKind.{LoanKind}
use Rattle.xk_base.specs.declared.windows.Window.TheVariants.{Heap}
use Rattle.xk_base.specs.Tables.Circle.{is_pid, is_thread_id}
use Rattle.xk_base.specs.Tables.Counting.{count_below}
use Rattle.xk_base.specs.Numbers.Windows.{first_page, in_window}
use Rattle.ledger_model.specs.Lawful.{IsLawful}
use Rattle.ledger_model.specs.Ledger.{Ledger, Page, PageLoan, Orphan, loan_at}
use Rattle.ledger_model.specs.Loans.{LoanRun, Loans, OrphanLoan, Stands, loans}
use Rattle.machine_model.specs.State.Machine.{Machine, Process, Thread, ThreadState, Server, Claim, Ready, Receiving, Waiting, Joining}
use Rattle.machine_model.specs.State.Machine.{Idle}
use Rattle.machine_model.specs.Calling.MemoryCalls.{heap_limit}
use Rattle.machine_model.specs.Messaging.MessageCounts.{HasOne, HasIf, HasAtMostOne}
use Rattle.machine_model.specs.Messaging.Messages.{carries_pages, loan_kind, is_of_number, is_lend_of, is_sent_by}
use Rattle.machine_model.specs.State.Servers.{messages_of, slots_used}
use Rattle.xk_base.specs.Calls.Kinds.{is_answered}
use Rattle.xk_base.specs.Tables.Sids.{same_sid}
use Rattle.machine_model.specs.State.Threads.{thread_id}

-- the process is alive
abbrev pub is_alive : (ℕ → Process) → Pid → Bool
is_alive process pid = (process pid.0).alive

abbrev pub is_living : Machine → Pid → Bool
is_living m pid = is_alive m.process pid

-- ---- 1. The ledger is lawful. Homes, holders and places of orphans have living pids.

abbrev pub AreHomesLiving : (ℕ → Process) → Ledger → Type 0
AreHomesLiving process ledger = (p : Place) (page : Page) → ledger.home p ≡ Some page → IsTrue (is_alive process p.pid)

pub record IsLedgerMatched (processes capacity : ℕ) (process : ℕ → Process) (ledger : Ledger) : Type 0 where
  pub lawful : IsLawful processes capacity ledger
  pub homes_live : AreHomesLiving process ledger
  pub holders_live : (p : Place) (loan : PageLoan) → loan_at ledger p ≡ Some loan → IsTrue (is_alive process loan.holder.pid)
  pub orphans_live : (p : Place) (orphan : Orphan) → ledger.orphan p ≡ Some orphan → IsTrue (is_alive process p.pid)

-- ---- 2. Each lend or mutable lend, queued or held, has its pages on loan. This speaks of the ledger's loans alone.

-- the loan of a lend at its server: from a lender's place, or of orphans
abbrev pub lend_run : Server → Message → LoanKind → Option Place → LoanRun
lend_run server message kind lender = record {
  lender = lender;
  holder = record { pid = server.pid; vpn = message.first };
  count = message.count;
  kind = kind;
  number = message.number;
}

-- Exactly the pages of a lend are on loan by its number: from places of its sender's process to those at its server; and where
-- it has no sender, they are orphans.
abbrev pub IsOnLoan : Loans → Server → Message → LoanKind → Option ThreadId → Type 0
IsOnLoan all server message kind None = Stands all (lend_run server message kind None)
IsOnLoan all server message kind (Some sender) =
    (lender : Place) × (lender.pid ≡ sender.pid) × Stands all (lend_run server message kind (Some lender))

pub record IsLendMatched (all : Loans) (server : Server) (message : Message) (kind : LoanKind) : Type 0 where
  pub count : 1 ≤ message.count
  pub loan : IsOnLoan all server message kind message.sender

-- of a lend or mutable lend; of any other message nothing is asked
abbrev pub IsMessageLent : Loans → Server → Message → Type 0
IsMessageLent all server message = (kind : LoanKind) → loan_kind message.kind ≡ Some kind → IsLendMatched all server message kind

pub record AreLoansMatched (all : Loans) (servers : ℕ → Option Server) : Type 0 where
  pub lends : (n : ℕ) (server : Server) → servers n ≡ Some server → All (IsMessageLent all server) (messages_of server)
  -- each number of a loan or an orphan is that of exactly one such message
  pub loans_sent : (p : Place) (loan : PageLoan) → all.home p ≡ Some loan → HasOne servers (is_lend_of loan.number)
  pub orphans_sent : (p : Place) (orphan : OrphanLoan) → all.orphan p ≡ Some orphan → HasOne servers (is_lend_of orphan.number)

-- ---- 3. Messages and the threads that wait for their answers are matched.

abbrev pub is_waiting_for : Number → ThreadState → Bool
is_waiting_for number (Waiting other) = other.0 == number.0
is_waiting_for number _ = false

-- there is a thread of this id, and it is Waiting for that number
abbrev pub waits_for : (ThreadId → Option Thread) → ThreadId → Number → Bool
waits_for threads who number = option_map_or (λ t. is_waiting_for number t.state) (threads who) false

-- the message of that number whose sender the thread is
abbrev pub is_sent_as : ThreadId → Number → Message → Bool
is_sent_as who number message = is_of_number number message && is_sent_by who message

-- what is queued has a sender exactly where it is to be answered
abbrev pub IsQueueable : Message → Type 0
IsQueueable message = is_some message.sender ≡ is_answered message.kind

-- what is held is to be answered
abbrev pub IsHoldable : Message → Type 0
IsHoldable message = is_answered message.kind ≡ true

-- a message without pages has no first page and no count
abbrev pub IsSized : Message → Type 0
IsSized message = carries_pages message.kind ≡ false → (message.first.0 ≡ 0) × (message.count ≡ 0)

pub record AreSendersMatched (threads : ThreadId → Option Thread) (servers : ℕ → Option Server) : Type 0 where
  -- a sender is a thread that is Waiting for that number, and each thread that is Waiting is the sender of exactly one message
  pub senders : (who : ThreadId) (number : Number) → HasIf (waits_for threads who number) servers (is_sent_as who number)
  -- a senderless message is held; no scalar or move is held, and none has a sender
  pub queued : (n : ℕ) (server : Server) → servers n ≡ Some server → All IsQueueable server.queued
  pub held : (n : ℕ) (server : Server) → servers n ≡ Some server → All IsHoldable server.held
  pub sized : (n : ℕ) (server : Server) → servers n ≡ Some server → All IsSized (messages_of server)

-- ---- 4. A thread that is Receiving is of the process of that live server, whose queue is empty.

pub record IsServerAwaited (servers : ℕ → Option Server) (pid : Pid) (serial : Serial) : Type 0 where
  pub server : Server
  pub live : servers serial.0 ≡ Some server
  pub own : server.pid ≡ pid
  pub empty : server.queued ≡ []

abbrev pub AreReceiversMatched : (ThreadId → Option Thread) → (ℕ → Option Server) → Type 0
AreReceiversMatched threads servers =
    (id : ThreadId) (t : Thread) (serial : Serial) → threads id ≡ Some t → t.state ≡ Receiving serial
    → IsServerAwaited servers id.pid serial

-- ---- 5. A thread that is Joining waits for another live thread of its process, above tid 1.

pub record IsThreadAwaited (threads : ThreadId → Option Thread) (id : ThreadId) (tid : Tid) : Type 0 where
  pub live : IsTrue (is_some (threads (record { pid = id.pid; tid = tid })))
  pub other : IsFalse (tid.0 == id.tid.0)
  pub above : 2 ≤ tid.0

abbrev pub AreJoinersMatched : (ThreadId → Option Thread) → Type 0
AreJoinersMatched threads =
    (id : ThreadId) (t : Thread) (tid : Tid) → threads id ≡ Some t → t.state ≡ Joining tid → IsThreadAwaited threads id tid

-- ---- 6. The threads of a living process, and where threads and handlers are.

abbrev pub HasHandlerThread : (ThreadId → Option Thread) → Pid → Type 0
HasHandlerThread threads pid = (t : Thread) × (threads (thread_id pid 1) ≡ Some t) × ((t.state ≡ Ready) ⊎ (t.state ≡ Idle))

abbrev pub HasThreadAbove : (ThreadId → Option Thread) → Pid → Type 0
HasThreadAbove threads pid = (tid : ℕ) × (2 ≤ tid) × IsTrue (is_some (threads (thread_id pid tid)))

pub record AreThreadsMatched (process : ℕ → Process) (threads : ThreadId → Option Thread) : Type 0 where
  -- it has tid 1, which is Ready or Idle, and a thread above
  pub handler : (pid : Pid) → IsTrue (is_alive process pid) → HasHandlerThread threads pid
  pub above : (pid : Pid) → IsTrue (is_alive process pid) → HasThreadAbove threads pid
  -- no other thread is Idle
  pub idle : (id : ThreadId) (t : Thread) → threads id ≡ Some t → t.state ≡ Idle
      → (id.tid.0 ≡ 1) × IsTrue (is_alive process id.pid)
  -- every pc is the address of an instruction
  pub pcs : (id : ThreadId) (t : Thread) → threads id ≡ Some t → t.pc % 4 ≡ 0

-- .. and so is every claimed handler
abbrev pub AreHandlersMatched : (ℕ → Option Claim) → Type 0
AreHandlersMatched claims = (k : ℕ) (claim : Claim) → claims k ≡ Some claim → claim.handler % 4 ≡ 0

-- ---- 7. Heaps are whole pages up to 16 MiB, and what stands in the Heap window lies below the heap's end.

pub record AreHeapsMatched (process : ℕ → Process) (ledger : Ledger) : Type 0 where
  pub whole : (pid : Pid) → (process pid.0).heap % PAGE_SIZE ≡ 0
  pub within : (pid : Pid) → (process pid.0).heap ≤ heap_limit
  pub below : (p : Place) (page : Page) → ledger.home p ≡ Some page → IsTrue (in_window Heap p.vpn.0)
      → p.vpn.0 < first_page Heap + (process p.pid.0).heap / PAGE_SIZE

-- ---- 8. Keys, limits, and the dead. Of a process that isn't alive there is no thread, page, server or claim, no connection and no
-- heap: what there is is of a living process.

pub record AreThreadIdsMatched (processes : ℕ) (process : ℕ → Process) (threads : ThreadId → Option Thread) : Type 0 where
  pub known : (id : ThreadId) (t : Thread) → threads id ≡ Some t → IsTrue (is_thread_id processes id)
  pub living : (id : ThreadId) (t : Thread) → threads id ≡ Some t → IsTrue (is_alive process id.pid)

pub record AreProcessesMatched (processes : ℕ) (process : ℕ → Process) : Type 0 where
  pub few : processes ≤ PROCESS_LIMIT
  pub pids : (pid : Pid) → IsTrue (is_alive process pid) → IsTrue (is_pid processes pid.0)
  -- no two connections of a process lead to one server
  pub apart : (pid : Pid) → AllPairs (λ a b. IsFalse (a.0 == b.0)) (process pid.0).connections
  pub connections : (pid : Pid) → length (process pid.0).connections ≤ CONNECTION_LIMIT
  pub no_connection : (pid : Pid) → IsFalse (is_alive process pid) → (process pid.0).connections ≡ []
  pub no_heap : (pid : Pid) → IsFalse (is_alive process pid) → (process pid.0).heap ≡ 0

pub record AreServersMatched (process : ℕ → Process) (servers : ℕ → Option Server) : Type 0 where
  pub living : (n : ℕ) (server : Server) → servers n ≡ Some server → IsTrue (is_alive process server.pid)
  -- no two servers have one identifier, and no two messages have one number
  pub sids : (a b : ℕ) (s t : Server) → servers a ≡ Some s → servers b ≡ Some t → IsTrue (same_sid s.sid t.sid) → a ≡ b
  pub numbers : (number : Number) → HasAtMostOne servers (is_of_number number)
  -- there are few servers, whatever serials are counted, and few messages at each
  pub few : (bound : ℕ) → count_below bound (λ n. is_some (servers n)) ≤ SERVER_LIMIT
  pub slots : (n : ℕ) (server : Server) → servers n ≡ Some server → slots_used server ≤ MESSAGE_LIMIT

pub record AreClaimsMatched (process : ℕ → Process) (claims : ℕ → Option Claim) (pending : ℕ → Bool) : Type 0 where
  pub living : (k : ℕ) (claim : Claim) → claims k ≡ Some claim → IsTrue (is_alive process claim.pid)
  pub numbers : (k : ℕ) (claim : Claim) → claims k ≡ Some claim → k < INTERRUPT_LIMIT
  -- pending numbers are claimed
  pub pending_claimed : (k : ℕ) → IsTrue (pending k) → IsTrue (is_some (claims k))

-- the next message number and the next serial are above all that there are
pub record AreNextAbove (number serial : ℕ) (process : ℕ → Process) (servers : ℕ → Option Server) : Type 0 where
  pub numbers : (n : ℕ) (server : Server) → servers n ≡ Some server
      → All (λ message. message.number.0 < number) (messages_of server)
  pub serials : (n : ℕ) (server : Server) → servers n ≡ Some server → n < serial
  pub connections : (pid : Pid) → All (λ connection. connection.0 < serial) (process pid.0).connections

-- .. and each that was given took a step
pub record AreNextStepped (number serial steps : ℕ) : Type 0 where
  pub number_steps : number ≤ steps + 1
  pub serial_steps : serial ≤ steps + 1

-- ---- 9. The timer is armed only while its interrupt is claimed.

abbrev pub IsTimerMatched : Option ℕ → (ℕ → Option Claim) → Type 0
IsTimerMatched compare claims = IsTrue (is_some compare) → IsTrue (is_some (claims TIMER_INTERRUPT))

-- ---- all

-- What is matched of the ledger, the threads, the processes, the servers and their messages: parts 1 to 8 without steps, cursor
-- and claims.
pub record IsBodyMatched (n capacity : ℕ) (l : Ledger) (t : ThreadId → Option Thread) (p : ℕ → Process) (s : ℕ → Option Server)
    : Type 0 where
  -- 1 to 5
  pub ledger : IsLedgerMatched n capacity p l
  pub loans : AreLoansMatched (loans l) s
  pub senders : AreSendersMatched t s
  pub receivers : AreReceiversMatched t s
  pub joiners : AreJoinersMatched t
  -- 6 and 7
  pub threads : AreThreadsMatched p t
  pub heaps : AreHeapsMatched p l
  -- 8
  pub ids : AreThreadIdsMatched n p t
  pub pages : AreHomesLiving p l
  pub processes : AreProcessesMatched n p
  pub servers : AreServersMatched p s

-- What is matched of the rest: of the claims, the pending interrupts and the timer, and of the next number and the next serial.
pub record IsRestMatched (m : Machine) : Type 0 where
  -- 6
  pub handlers : AreHandlersMatched m.claims
  -- 8
  pub claims : AreClaimsMatched m.process m.claims m.pending
  pub above : AreNextAbove m.next_number m.next_serial m.process m.servers
  pub stepped : AreNextStepped m.next_number m.next_serial m.steps
  -- 9
  pub timer : IsTimerMatched m.compare m.claims

pub record Matched (m : Machine) : Type 0 where
  pub body : IsBodyMatched m.processes m.capacity m.ledger m.threads m.process m.servers
  pub rest : IsRestMatched m
