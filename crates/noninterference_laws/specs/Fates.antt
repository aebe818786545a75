-- What one process may make of what is another's: of a thread, of a server, of the page and of the orphan at a place.
use Rattle.std.specs.Prelude.{◌≡◌, ◌⊎◌, ℕ, ◌==◌, Bool, true, false, List, Option, Some, None, IfSome, if◌then◌else◌}
use Rattle.std.specs.List.{Contains}
use Rattle.xk_base.specs.declared.errors.XousError.TheVariants.{ServerNotFound}
use Rattle.xk_base.specs.declared.ids.Pid.{Pid}
use Rattle.xk_base.specs.declared.ids.Place.{Place}
use Rattle.xk_base.specs.declared.ids.Serial.{Serial}
use Rattle.xk_base.specs.declared.ids.ThreadId.{ThreadId}
use Rattle.xk_base.specs.declared.ids.Vpn.{Vpn}
use Rattle.xk_base.specs.declared.messages.Message.{Message}
use Rattle.xk_base.specs.declared.messages.MsgKind.{MsgKind}
use Rattle.syscall_codec.specs.CallNumbers.{forward_message, return_memory, return_scalar1, return_scalar2, send_message, try_send_message}
use Rattle.syscall_codec.specs.CallWords.{call_number, forward_cid, return_offset, return_valid, return_value1, return_value2, send_cid}
use Rattle.syscall_codec.specs.ReplyWords.{message_words, refused_words, returned_words, scalar1_words, scalar2_words}
use Rattle.xk_base.specs.Tables.Connections.{connected_to}
use Rattle.xk_base.specs.Tables.Sids.{serial_of}
use Rattle.ledger_model.specs.Ledger.{Ledger, Orphan, Page, PageLoan}
use Rattle.machine_model.specs.Ending.Closing.{with_senderless_from, without_queued_from}
use Rattle.machine_model.specs.Messaging.ForwardCalls.{passed_number, with_first}
use Rattle.machine_model.specs.Messaging.Messages.{new_message, with_queued, with_received}
use Rattle.machine_model.specs.Messaging.Receivers.{receiving_at}
use Rattle.machine_model.specs.Messaging.ReturnCalls.{named_number}
use Rattle.machine_model.specs.Messaging.SendCalls.{named_kind}
use Rattle.machine_model.specs.Runs.Isolation.{IsOrphaned}
use Rattle.machine_model.specs.State.Machine.{Machine, Server, Thread}
use Rattle.machine_model.specs.State.Servers.{messages_of}
use Rattle.machine_model.specs.State.Threads.{with_answer}

-- ---- what is done

-- a system call: the thread that makes it, and its eight words
pub record MadeCall : Type 0 where
  pub who : ThreadId
  pub words : List ℕ

-- what is done: by which process, by which call where it is one, and in which state
pub record Doing : Type 0 where
  pub pid : Pid
  pub call : Option MadeCall
  pub before : Machine

-- ---- messages

-- a server of the process has the message, in this one of its lists
pub record IsAtServerOf (pid : Pid) (m : Machine) (list : Server → List Message) (message : Message) : Type 0 where
  pub serial : ℕ
  pub server : Server
  pub live : m.servers serial ≡ Some server
  pub own : server.pid ≡ pid
  pub there : Contains (list server) message

-- the number is that of a call which sends
abbrev pub IsSend : ℕ → Type 0
IsSend number = (number ≡ send_message) ⊎ (number ≡ try_send_message)

-- the connection of the caller's process leads to the server of that serial
abbrev pub ConnectsTo : Machine → MadeCall → ℕ → Serial → Type 0
ConnectsTo m made cid serial = connected_to (m.process made.who.pid.0).connections cid ≡ Some serial

-- the message is the one that a call brings to the server of a serial
pub data IsBrought (m : Machine) (made : MadeCall) (serial : Serial) (message : Message) : Type 0 where
  -- it is sent: it is new, the caller's, and has the words of the call
  Sent : (kind : MsgKind) (first : Vpn) → IsSend (call_number made.words) → named_kind made.words ≡ Some kind
      → ConnectsTo m made (send_cid made.words) serial → message ≡ new_message (record m { cursor = made.who }) kind made.words first
      → IsBrought m made serial message
  -- it is passed on: a server of the caller's process held it, and only its first page is new
  Passed : (old : Message) (first : Vpn) → call_number made.words ≡ forward_message → old.number ≡ passed_number made.words
      → IsAtServerOf made.who.pid m (λ server. server.held) old → ConnectsTo m made (forward_cid made.words) serial
      → message ≡ with_first first old → IsBrought m made serial message

-- what a call that returns a message tells its sender, and none of any other call
abbrev pub returned_by : List ℕ → Option (List ℕ)
returned_by w =
    if call_number w == return_memory then Some (returned_words (return_offset w) (return_valid w)) else (
    if call_number w == return_scalar1 then Some (scalar1_words (return_value1 w)) else (
    if call_number w == return_scalar2 then Some (scalar2_words (return_value1 w) (return_value2 w)) else None))

-- ---- threads

-- why a thread is answered, and what; `servers` are those afterwards
pub data IsAnswered (doing : Doing) (servers : ℕ → Option Server) (id : ThreadId) (words : List ℕ) : Type 0 where
  -- it is Receiving at a server, and gets the message that the call brings there
  Receives : (made : MadeCall) (message : Message) (serial : Serial) → doing.call ≡ Some made → IsBrought doing.before made serial message
      → receiving_at doing.before serial id ≡ true → words ≡ message_words message → IsAnswered doing servers id words
  -- it waits for the answer to a message that a server of the process holds and whose number the call names, and gets what the call says
  Returned : (made : MadeCall) (message : Message) → doing.call ≡ Some made → message.number ≡ named_number made.words
      → IsAtServerOf doing.pid doing.before (λ server. server.held) message → message.sender ≡ Some id
      → returned_by made.words ≡ Some words → IsAnswered doing servers id words
  -- it waits for the answer to a message at a server of the process that is gone afterwards, and gets that there is no server
  Unserved : (message : Message) (at : IsAtServerOf doing.pid doing.before messages_of message) → message.sender ≡ Some id
      → servers at.serial ≡ None → words ≡ refused_words ServerNotFound → IsAnswered doing servers id words

-- a thread stays as it is, or is answered and else stays
pub data ThreadFate (doing : Doing) (servers : ℕ → Option Server) (id : ThreadId) (later : Option Thread) : Type 0 where
  ThreadStays : later ≡ doing.before.threads id → ThreadFate doing servers id later
  Answered : (thread : Thread) (words : List ℕ) → doing.before.threads id ≡ Some thread → IsAnswered doing servers id words
      → later ≡ Some (with_answer (Some words) thread) → ThreadFate doing servers id later

-- ---- servers

-- what becomes of the server of a serial; `lives` tells whether the process is alive afterwards
pub data ServerFate (doing : Doing) (lives : Bool) (n : ℕ) (later : Option Server) : Type 0 where
  -- before and after there is none but of the process itself
  Own : IfSome (doing.before.servers n) (λ server. server.pid ≡ doing.pid) → IfSome later (λ server. server.pid ≡ doing.pid)
      → ServerFate doing lives n later
  ServerStays : later ≡ doing.before.servers n → ServerFate doing lives n later
  -- it gets the message that the call brings: queued, or received at once
  Gains : (made : MadeCall) (message : Message) (server : Server) → doing.call ≡ Some made → IsBrought doing.before made (serial_of n) message
      → doing.before.servers n ≡ Some server
      → (later ≡ Some (with_queued message server)) ⊎ (later ≡ Some (with_received message server)) → ServerFate doing lives n later
  -- the process is dead: what its threads sent is queued no more, or is held without a sender
  Loses : (server : Server) → lives ≡ false → doing.before.servers n ≡ Some server
      → later ≡ Some (with_senderless_from doing.pid (without_queued_from doing.pid server)) → ServerFate doing lives n later

-- ---- pages

-- what becomes of the page at a place of another process
pub data HomeFate (pid : Pid) (before after : Ledger) (p : Place) : Type 0 where
  -- it stays, or there is still none
  PageStays : after.home p ≡ before.home p → HomeFate pid before after p
  -- its loan to the process ends; its right and its bytes stay
  LoanEnds : (page : Page) (loan : PageLoan) → before.home p ≡ Some page → page.loan ≡ Some loan → loan.holder.pid ≡ pid
      → after.home p ≡ Some (record page { loan = None }) → HomeFate pid before after p
  -- its loan to the process goes on to another holder; its right and its bytes stay
  LoanPasses : (page : Page) (loan : PageLoan) (to : Place) → before.home p ≡ Some page → page.loan ≡ Some loan → loan.holder.pid ≡ pid
      → after.home p ≡ Some (record page { loan = Some (record loan { holder = to }) }) → HomeFate pid before after p
  -- none was there, and a page of the process is moved there
  Comes : (from : Place) (page : Page) → before.home p ≡ None → from.pid ≡ pid → before.home from ≡ Some page
      → after.home p ≡ Some page → HomeFate pid before after p

-- what becomes of the orphan at a place of another process
pub data OrphanFate (pid : Pid) (before after : Ledger) (q : Place) : Type 0 where
  -- it stays, or there is still none
  OrphanStays : after.orphan q ≡ before.orphan q → OrphanFate pid before after q
  -- none was there, and a page that the process had lent there becomes one
  Arises : (home : Place) (orphan : Orphan) → before.orphan q ≡ None → home.pid ≡ pid → after.orphan q ≡ Some orphan
      → IsOrphaned before after home q orphan → OrphanFate pid before after q
