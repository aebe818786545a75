-- The state of the machine that rows stand for: what has a key is the row of that key. Pages have their bytes in `file`.
use Rattle.std.specs.Prelude.{ℕ, ◌-◌, ◌/◌, ◌%◌, ◌==◌, ◌&&◌, Bool, nat_lt, if◌then◌else◌, List, [], ◌∷◌, map, get_or, take, drop, Option}
use Rattle.std.specs.Prelude.{Some, None}
use Rattle.std.specs.List.{find, list_any}
use Rattle.std.specs.Option.{option_map, unwrap_or}
use Rattle.xk_base.specs.declared.ids.ThreadId.{ThreadId}
use Rattle.xk_base.specs.declared.ids.Place.{Place}
use Rattle.xk_base.specs.declared.messages.Message.{Message}
use Rattle.xk_base.specs.declared.messages.MsgKind.TheVariants.{Scalar}
use Rattle.xk_base.specs.declared.pages.LoanKind.{LoanKind}
use Rattle.xk_base.specs.declared.pages.LoanKind.TheVariants.{Shared, Exclusive}
use Rattle.xk_base.specs.Calls.Kinds.{kind_at}
use Rattle.ledger_model.specs.Ledger.{Console, Bytes, Page, PageLoan, Orphan, Ledger}
use Rattle.machine_model.specs.State.Machine.{Machine, Process, Thread, ThreadState, Server, Claim, Reservation, Ready, Receiving, Waiting}
use Rattle.machine_model.specs.State.Machine.{Joining, Idle}
use Rattle.snapshot_rows.specs.declared.state.State.{State}
use Rattle.snapshot_rows.specs.declared.state.ProcRow.{ProcRow}
use Rattle.snapshot_rows.specs.declared.state.ThreadRow.{ThreadRow}
use Rattle.snapshot_rows.specs.declared.state.MessageRow.{MessageRow}
use Rattle.snapshot_rows.specs.declared.state.ServerRow.{ServerRow}
use Rattle.snapshot_rows.specs.declared.state.ClaimRow.{ClaimRow}
use Rattle.snapshot_rows.specs.declared.state.PageRow.{PageRow}
use Rattle.snapshot_rows.specs.declared.state.OrphanRow.{OrphanRow}
use Rattle.snapshot_rows.specs.declared.states.TheConstants.{READY, RECEIVING, WAITING, JOINING}

-- a thread, and a place, of these numbers
abbrev pub thread_at_id : ℕ → ℕ → ThreadId
thread_at_id pid tid = record { pid = record { 0 = pid }; tid = record { 0 = tid } }

abbrev pub place_at : ℕ → ℕ → Place
place_at pid page = record { pid = record { 0 = pid }; vpn = record { 0 = page } }

-- ---- processes: the first has pid 2

abbrev pub process_of : ProcRow → Process
process_of p = record { alive = p.alive == 1; heap = p.heap; connections = map (λ serial. record { 0 = serial }) p.serials }

abbrev pub no_process : ProcRow
no_process = record { alive = 0; heap = 0; serials = [] }

abbrev pub processes_of : List ProcRow → ℕ → Process
processes_of rows pid = process_of (if nat_lt pid 2 then no_process else get_or rows (pid - 2) no_process)

-- ---- threads

abbrev pub thread_state : ℕ → ℕ → ThreadState
thread_state state waits =
    if state == READY then Ready else (
    if state == RECEIVING then Receiving (record { 0 = waits }) else (
    if state == WAITING then Waiting (record { 0 = waits }) else (
    if state == JOINING then Joining (record { 0 = waits }) else Idle)))

-- register x0 is 0
abbrev pub thread_of : ThreadRow → Thread
thread_of t = record { pc = t.pc; regs = 0 ∷ t.regs; state = thread_state t.state t.waits }

abbrev pub threads_of : List ThreadRow → ThreadId → Option Thread
threads_of rows id = option_map thread_of (find (λ t. t.pid == id.pid.0 && t.tid == id.tid.0) rows)

-- ---- servers and their messages

abbrev pub sender_of : MessageRow → Option ThreadId
sender_of m = if m.sender_pid == 0 then None else Some (thread_at_id m.sender_pid m.sender_tid)

abbrev pub message_of : MessageRow → Message
message_of m = record {
  number = record { 0 = m.number };
  sender = sender_of m;
  kind = unwrap_or (kind_at m.kind) Scalar;
  id = m.id;
  words = m.words;
  first = record { 0 = m.first };
  count = m.count;
}

abbrev pub server_of : ServerRow → Server
server_of s = record {
  sid = record { 0 = s.sid };
  pid = record { 0 = s.pid };
  queued = map message_of s.queued;
  held = map message_of s.held;
}

abbrev pub servers_of : List ServerRow → ℕ → Option Server
servers_of rows serial = option_map server_of (find (λ s. s.serial == serial) rows)

-- ---- claims

abbrev pub claim_of : ClaimRow → Claim
claim_of c = record { pid = record { 0 = c.pid }; handler = c.handler; argument = c.arg }

abbrev pub claims_of : List ClaimRow → ℕ → Option Claim
claims_of rows number = option_map claim_of (find (λ c. c.number == number) rows)

abbrev pub pending_of : List ClaimRow → ℕ → Bool
pending_of rows number = list_any (λ c. c.number == number && c.pending == 1) rows

-- ---- pages and orphans

-- the 4,096 bytes of a page, which begin at this offset
abbrev pub contents_at : List ℕ → ℕ → List ℕ
contents_at file from = take 4096 (drop from file)

abbrev pub loan_kind_of : ℕ → LoanKind
loan_kind_of kind = if kind == 1 then Shared else Exclusive

abbrev pub page_loan : PageRow → Option PageLoan
page_loan p =
    if p.kind == 0 then None else Some (record {
      holder = place_at p.holder_pid p.holder_page;
      kind = loan_kind_of p.kind;
      number = record { 0 = p.number };
    })

-- the right is the sum of 1 for writable, 2 for executable and 4 for the console
abbrev pub ledger_page : List ℕ → PageRow → Page
ledger_page file p = record {
  right = record { w = p.right % 2 == 1; x = p.right / 2 % 2 == 1 };
  contents = if nat_lt p.right 4 then Bytes (contents_at file p.from) else Console;
  loan = page_loan p;
}

abbrev pub ledger_orphan : List ℕ → OrphanRow → Orphan
ledger_orphan file o = record { kind = loan_kind_of o.kind; bytes = contents_at file o.from; number = record { 0 = o.number } }

abbrev pub ledger_of : List ℕ → List PageRow → List OrphanRow → Ledger
ledger_of file pages orphans = record {
  home = λ p. option_map (ledger_page file) (find (λ row. row.pid == p.pid.0 && row.page == p.vpn.0) pages);
  orphan = λ p. option_map (ledger_orphan file) (find (λ row. row.pid == p.pid.0 && row.page == p.vpn.0) orphans);
}

-- ---- the whole

abbrev pub compare_of : State → Option ℕ
compare_of s = if s.armed == 1 then Some s.compare else None

abbrev pub reservation_of : State → Option Reservation
reservation_of s =
    if s.reserved == 1 then Some (record { who = thread_at_id s.reserved_pid s.reserved_tid; address = s.reserved_address }) else None

abbrev pub machine_of : List ℕ → State → Machine
machine_of file s = record {
  capacity = s.cap;
  processes = s.n;
  ledger = ledger_of file s.pages s.orphans;
  steps = s.steps;
  cursor = thread_at_id s.cursor_pid s.cursor_tid;
  threads = threads_of s.threads;
  process = processes_of s.procs;
  servers = servers_of s.servers;
  claims = claims_of s.claims;
  pending = pending_of s.claims;
  next_number = s.next_number;
  next_serial = s.next_serial;
  compare = compare_of s;
  reserved = reservation_of s;
}
