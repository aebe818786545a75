-- SendMessage and TrySendMessage over the parts: what they ask for, how their pages go, and which row of the call table they are.
use Rattle.std.specs.Prelude.{◌≡◌, ◌≢◌, ℕ, ◌+◌, ◌/◌, ◌<◌, ◌≤◌, ◌&&◌, ◌==◌, false, All, List, ◌∷◌, if◌then◌else◌}
use Rattle.std.specs.Prelude.{Option, Some, None, Result, Ok, Err}
use Rattle.ledger_model.specs.Ledger.{Ledger}
use Rattle.ledger_model.specs.LeastRun.{least_run}
use Rattle.ledger_model.specs.Loans.{IsFresh, loans}
use Rattle.ledger_model.specs.RunTests.{any_free, any_not_sent}
use Rattle.machine_model.specs.Calling.MemoryCalls.{is_bad_range}
use Rattle.machine_model.specs.Messaging.Messages.{carries_pages}
use Rattle.machine_model.specs.Messaging.SendCalls.{is_lend_mut, send_call}
use Rattle.machine_model.specs.State.Changes.{Outcome, Refused, Retried}
use Rattle.machine_model.specs.State.Machine.{Machine, Server}
use Rattle.machine_model.specs.State.Servers.{messages_of}
use Rattle.msg_queue.specs.Seats.{Seat}
use Rattle.server_table.specs.declared.table.Servers.{Servers}
use Rattle.sv32_space.specs.Tie.{Held}
use Rattle.vm_memory.specs.Loaning.Sending.{IsFreeArrival}
use Rattle.syscall_codec.specs.CallNumbers.{try_send_message}
use Rattle.syscall_codec.specs.CallWords.{call_number, send_cid, send_id, send_kind, send_words}
use Rattle.xk_base.specs.Numbers.Windows.{page_of}
use Rattle.xk_base.specs.declared.errors.XousError.{XousError}
use Rattle.xk_base.specs.declared.errors.XousError.TheVariants.{BadAlignment, BadAddress, ServerQueueFull, ShareViolation}
use Rattle.xk_base.specs.declared.ids.Number.{Number}
use Rattle.xk_base.specs.declared.ids.Pid.{Pid}
use Rattle.xk_base.specs.declared.ids.Place.{Place}
use Rattle.xk_base.specs.declared.ids.ThreadId.{ThreadId}
use Rattle.xk_base.specs.declared.ids.Vpn.{Vpn}
use Rattle.xk_base.specs.declared.limits.TheConstants.{PAGE_SIZE}
use Rattle.xk_base.specs.declared.messages.MemKind.{MemKind}
use Rattle.xk_base.specs.declared.messages.MemKind.TheVariants as pages
use Rattle.xk_base.specs.declared.messages.MsgKind.{MsgKind}
use Rattle.xk_base.specs.declared.messages.MsgKind.TheVariants.{LendMut, Lend, Move, Scalar, BlockingScalar}
use Rattle.xk_base.specs.declared.windows.Window.TheVariants.{Message as MessageWindow}
use Rattle.xk_parts.specs.Parts.{Parts, machine_at}
use Rattle.xk_parts.specs.Shown.{servers_shown}
use Rattle.send_path.specs.Rows.{IsServed, table_row}
use Rattle.send_path.specs.declared.sending.Asked.{Asked}
use Rattle.send_path.specs.declared.sending.Sent.{Sent}
use Rattle.send_path.specs.declared.sending.Sent.TheVariants as sent

-- the words of a send ask for this
abbrev pub AreAsked : List ℕ → Asked → Type 0
AreAsked words asked =
    (send_cid words ≡ asked.cid.0) × (send_kind words ≡ asked.kind) × (send_id words ≡ asked.id) × (send_words words ≡ asked.words)

-- the words of a send that asks for this, but for the number of the call, which no test looks at
abbrev pub asked_words : Asked → List ℕ
asked_words asked = 0 ∷ asked.cid.0 ∷ asked.kind ∷ asked.id ∷ asked.words

-- ---- pages

-- the kind as that of a message with pages
abbrev pub mem_kind_of : MsgKind → Option MemKind
mem_kind_of LendMut = Some pages.LendMut
mem_kind_of Lend = Some pages.Lend
mem_kind_of Move = Some pages.Move
mem_kind_of Scalar = None
mem_kind_of BlockingScalar = None

-- what the tests of its pages answer, in their order; a kind without pages passes them
abbrev pub pages_answer : ℕ → Ledger → Pid → MsgKind → ℕ → ℕ → Result (Unit {0}) XousError
pages_answer procs ledger pid kind address length =
    let from = page_of pid address in
    let n = length / PAGE_SIZE in
    if carries_pages kind && is_bad_range address length then Err BadAlignment else (
    if carries_pages kind && any_free procs ledger from n then Err BadAddress else (
    if carries_pages kind && any_not_sent procs ledger from n (is_lend_mut kind) then Err ShareViolation else Ok tt))

-- the first page of a message at its receiver, where a run is free; 0 for a kind without pages
abbrev pub arrival_of : ℕ → Ledger → Pid → MsgKind → ℕ → Option Vpn
arrival_of procs ledger pid kind n =
    if carries_pages kind then least_run procs ledger pid MessageWindow n else Some (record { 0 = 0 })

-- the pages that go in a message of a kind and number: so many from a place of its sender on, to the places from another on
pub record Parcel : Type 0 where
  pub kind : MsgKind
  pub from : Place
  pub count : ℕ
  pub to : Place
  pub number : Number

-- They may go: they can be sent, they arrive at free places, and no loan has the number.
pub record MayGo (procs : ℕ) (ledger : Ledger) (sent : Parcel) : Type 0 where
  pub some : 1 ≤ sent.count
  pub there : any_free procs ledger sent.from sent.count ≡ false
  pub sendable : any_not_sent procs ledger sent.from sent.count (is_lend_mut sent.kind) ≡ false
  pub arrival : IsFreeArrival procs ledger sent.to sent.count
  pub fresh : IsFresh (loans ledger) sent.number

-- ---- the row

-- the machine whose next accepted message gets the number
abbrev pub with_number : ℕ → Machine → Machine
with_number number m = record m { next_number = number }

-- the number that a send takes where it is accepted, what comes of it, and what of that means that the server is full
pub record SendRow : Type 0 where
  pub number : Number
  pub call : Machine → Outcome
  pub full : Outcome

-- the row of the call with these words: to a full server SendMessage retries, and TrySendMessage is refused
abbrev pub send_row : Number → List ℕ → SendRow
send_row number words = record {
  number = number;
  call = table_row words;
  full = if call_number words == try_send_message then Refused ServerQueueFull else Retried;
}

-- SendMessage of what is asked for
abbrev pub asked_row : Number → Asked → SendRow
asked_row number asked = record { number = number; call = λ m. send_call m (asked_words asked); full = Retried }

-- A send of the thread is this row, whatever the rest of the machine is. An accepted one does all that comes of it, and takes the
-- number. Any other changes nothing: it is refused with the error of the row, or the server is full.
abbrev pub IsSendRow : {W : Type 0} → (W → Held) → SendRow → ThreadId → Parts W → Parts W → Sent → Type 0
IsSendRow held row who old new sent.Accepted =
    (m : Machine) →
    let before = machine_at held who old (with_number row.number.0 m) in
    let after = machine_at held who new (with_number (row.number.0 + 1) m) in
    IsServed (row.call before) before after old.log new.log
IsSendRow held row who old new sent.Full =
    (new ≡ old) × ((m : Machine) → row.call (machine_at held who old (with_number row.number.0 m)) ≡ row.full)
IsSendRow held row who old new (sent.Refused error) =
    (new ≡ old) × (error ≢ ServerQueueFull)
    × ((m : Machine) → row.call (machine_at held who old (with_number row.number.0 m)) ≡ Refused error)

-- the number is above those of all messages
abbrev pub IsAboveMessages : Number → Servers → List Seat → Type 0
IsAboveMessages number servers seats =
    (n : ℕ) (server : Server) → servers_shown servers seats n ≡ Some server
    → All (λ message. message.number.0 < number.0) (messages_of server)
