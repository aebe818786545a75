-- The rows of a state of the machine: the words that what it has is spelled by. What has a key is told with its key.
use Rattle.std.specs.Prelude.{ℕ, ◌+◌, Bool, if◌then◌else◌, is_some, [], map, drop, Option, Some, None}
use Rattle.std.specs.Option.{unwrap_or}
use Rattle.xk_base.specs.declared.ids.Place.{Place}
use Rattle.xk_base.specs.declared.ids.ThreadId.{ThreadId}
use Rattle.xk_base.specs.declared.messages.Message.{Message}
use Rattle.xk_base.specs.declared.pages.LoanKind.{LoanKind}
use Rattle.xk_base.specs.declared.pages.LoanKind.TheVariants.{Shared, Exclusive}
use Rattle.xk_base.specs.declared.pages.Right.{Right}
use Rattle.xk_base.specs.Calls.Kinds.{kind_number}
use Rattle.ledger_model.specs.Ledger.{Contents, Console, Bytes, Page, PageLoan, Orphan}
use Rattle.machine_model.specs.State.Machine.{Machine, Process, Thread, ThreadState, Server, Claim, Reservation, Ready, Receiving, Waiting}
use Rattle.machine_model.specs.State.Machine.{Joining, Idle}
use Rattle.snapshot_rows.specs.declared.state.State.{State}
use Rattle.snapshot_rows.specs.declared.state.ProcRow.{ProcRow}
use Rattle.snapshot_rows.specs.declared.state.ThreadRow.{ThreadRow}
use Rattle.snapshot_rows.specs.declared.state.MessageRow.{MessageRow}
use Rattle.snapshot_rows.specs.declared.state.ServerRow.{ServerRow}
use Rattle.snapshot_rows.specs.declared.state.ClaimRow.{ClaimRow}
use Rattle.snapshot_rows.specs.declared.state.PageRow.{PageRow}
use Rattle.snapshot_rows.specs.declared.state.OrphanRow.{OrphanRow}
use Rattle.snapshot_rows.specs.declared.states.TheConstants.{READY, RECEIVING, WAITING, JOINING, IDLE}

-- a word that is 1 where something is so, else 0
abbrev pub flag : Bool → ℕ
flag is = if is then 1 else 0

-- ---- 1. the machine, without what it has by keys

abbrev pub reserved_pid : Option Reservation → ℕ
reserved_pid None = 0
reserved_pid (Some reservation) = reservation.who.pid.0

abbrev pub reserved_tid : Option Reservation → ℕ
reserved_tid None = 0
reserved_tid (Some reservation) = reservation.who.tid.0

abbrev pub reserved_address : Option Reservation → ℕ
reserved_address None = 0
reserved_address (Some reservation) = reservation.address

abbrev pub machine_row : Machine → State
machine_row m = record {
  cap = m.capacity;
  n = m.processes;
  steps = m.steps;
  cursor_pid = m.cursor.pid.0;
  cursor_tid = m.cursor.tid.0;
  next_number = m.next_number;
  next_serial = m.next_serial;
  armed = flag (is_some m.compare);
  compare = unwrap_or m.compare 0;
  reserved = flag (is_some m.reserved);
  reserved_pid = reserved_pid m.reserved;
  reserved_tid = reserved_tid m.reserved;
  reserved_address = reserved_address m.reserved;
  procs = [];
  threads = [];
  servers = [];
  claims = [];
  pages = [];
  orphans = [];
}

-- ---- 2. and 3. a process and a thread

abbrev pub proc_row : Process → ProcRow
proc_row p = record { alive = flag p.alive; heap = p.heap; serials = map (λ serial. serial.0) p.connections }

abbrev pub state_number : ThreadState → ℕ
state_number Ready = READY
state_number (Receiving serial) = RECEIVING
state_number (Waiting number) = WAITING
state_number (Joining tid) = JOINING
state_number Idle = IDLE

abbrev pub state_waits : ThreadState → ℕ
state_waits Ready = 0
state_waits (Receiving serial) = serial.0
state_waits (Waiting number) = number.0
state_waits (Joining tid) = tid.0
state_waits Idle = 0

-- register x0 isn't told
abbrev pub thread_row : ThreadId → Thread → ThreadRow
thread_row id t = record {
  pid = id.pid.0;
  tid = id.tid.0;
  pc = t.pc;
  state = state_number t.state;
  waits = state_waits t.state;
  regs = drop 1 t.regs;
}

-- ---- 4. and 5. a message, a server and a claim

abbrev pub sender_pid : Option ThreadId → ℕ
sender_pid None = 0
sender_pid (Some who) = who.pid.0

abbrev pub sender_tid : Option ThreadId → ℕ
sender_tid None = 0
sender_tid (Some who) = who.tid.0

abbrev pub message_row : Message → MessageRow
message_row m = record {
  number = m.number.0;
  sender_pid = sender_pid m.sender;
  sender_tid = sender_tid m.sender;
  kind = kind_number m.kind;
  id = m.id;
  words = m.words;
  first = m.first.0;
  count = m.count;
}

abbrev pub server_row : ℕ → Server → ServerRow
server_row serial s = record {
  sid = s.sid.0;
  serial = serial;
  pid = s.pid.0;
  queued = map message_row s.queued;
  held = map message_row s.held;
}

-- `pending` are the interrupts that were raised and not delivered
abbrev pub claim_row : (ℕ → Bool) → ℕ → Claim → ClaimRow
claim_row pending number c = record {
  number = number;
  pid = c.pid.0;
  handler = c.handler;
  arg = c.argument;
  pending = flag (pending number);
}

-- ---- 6. and 7. a page and an orphan, without their bytes

-- 1 for writable, 2 for executable and 4 for the console
abbrev pub right_number : Right → Contents → ℕ
right_number right Console = 4 + (if right.x then 2 else 0) + flag right.w
right_number right (Bytes bytes) = (if right.x then 2 else 0) + flag right.w

abbrev pub loan_number : LoanKind → ℕ
loan_number Shared = 1
loan_number Exclusive = 2

abbrev pub holder_pid : Option PageLoan → ℕ
holder_pid None = 0
holder_pid (Some loan) = loan.holder.pid.0

abbrev pub holder_page : Option PageLoan → ℕ
holder_page None = 0
holder_page (Some loan) = loan.holder.vpn.0

abbrev pub kind_of_loan : Option PageLoan → ℕ
kind_of_loan None = 0
kind_of_loan (Some loan) = loan_number loan.kind

abbrev pub number_of_loan : Option PageLoan → ℕ
number_of_loan None = 0
number_of_loan (Some loan) = loan.number.0

-- its bytes stand at an offset of the file
abbrev pub page_row : ℕ → Place → Page → PageRow
page_row from p page = record {
  pid = p.pid.0;
  page = p.vpn.0;
  right = right_number page.right page.contents;
  holder_pid = holder_pid page.loan;
  holder_page = holder_page page.loan;
  kind = kind_of_loan page.loan;
  number = number_of_loan page.loan;
  from = from;
}

abbrev pub orphan_row : ℕ → Place → Orphan → OrphanRow
orphan_row from p o = record { pid = p.pid.0; page = p.vpn.0; kind = loan_number o.kind; number = o.number.0; from = from }
