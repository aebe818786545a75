-- What a step, an event or the end of a turn does at each server, and which message a reply delivers to whom.
use Rattle.std.specs.Prelude.{◌≡◌, ◌≢◌, ℕ, ◌≤◌, ◌⊎◌, ◌==◌, ◌||◌, Bool, true, false, List, [], map, slice_get, slice_index, Some, None}
use Rattle.std.specs.Bool.{⊤}
use Rattle.std.specs.List.{All, Contains, list_any}
use Rattle.xk_base.specs.declared.ids.Number.{Number}
use Rattle.xk_base.specs.declared.ids.Pid.{Pid}
use Rattle.xk_base.specs.declared.ids.ThreadId.{ThreadId}
use Rattle.xk_base.specs.declared.ids.Vpn.{Vpn}
use Rattle.xk_base.specs.declared.messages.Message.{Message}
use Rattle.xk_base.specs.declared.messages.MsgKind.{MsgKind}
use Rattle.xk_base.specs.declared.records.Rec.{Rec}
use Rattle.xk_base.specs.declared.records.What.{What}
use Rattle.xk_base.specs.declared.records.What.TheVariants.{Call, Reply, Retry, Byte, Fault, End, Irq, Gone}
use Rattle.syscall_codec.specs.CallNumbers.{destroy_server, forward_message, receive_message, reply_message, try_receive_message}
use Rattle.syscall_codec.specs.CallWords.{call_number, forward_cid, forward_token, return_token, send_cid}
use Rattle.syscall_codec.specs.ReplyWords.{message_words}
use Rattle.xk_base.specs.Tables.Connections.{connected_to}
use Rattle.xk_base.specs.Tables.Sids.{serial_of}
use Rattle.machine_laws.specs.Records.{records_by}
use Rattle.machine_model.specs.Calling.ServerCalls.{named_server, named_sid}
use Rattle.machine_model.specs.Ending.Closing.{with_senderless_from, without_queued_from}
use Rattle.machine_model.specs.Messaging.ForwardCalls.{with_first}
use Rattle.machine_model.specs.Messaging.Messages.{is_lend, is_of_number, new_message, oldest, with_queued, with_received}
use Rattle.machine_model.specs.Messaging.Messages.{without_held, without_oldest}
use Rattle.machine_model.specs.Messaging.Receivers.{receiving_at}
use Rattle.machine_model.specs.Messaging.SendCalls.{named_kind}
use Rattle.machine_model.specs.Runs.LoanSpan.{IsServedCallOf, is_send}
use Rattle.machine_model.specs.Runs.Matched.{Matched}
use Rattle.machine_model.specs.Runs.Moments.{Cause, caused, moment_of}
use Rattle.machine_model.specs.State.Machine.{Machine, Server}
use Rattle.transcript_laws.specs.Following.{Lacks, is_return_call, keeping}

-- ---- the call of a step

-- a thread of the process makes this call, and it is served
abbrev pub IsServedBy : Pid → List ℕ → Cause → Machine → Type 0
IsServedBy pid words cause m = IsServedCallOf pid words m (moment_of cause m)

-- the process's connection of that number leads to server n
abbrev pub ConnectsTo : ℕ → ℕ → Pid → Machine → Type 0
ConnectsTo n cid pid m = connected_to (m.process pid.0).connections cid ≡ Some (serial_of n)

abbrev pub is_receive : ℕ → Bool
is_receive call = (call == receive_message) || (call == try_receive_message)

-- the thread receives at server n by the call
pub record IsReceiver (n : ℕ) (who : ThreadId) (cause : Cause) (m : Machine) : Type 0 where
  pub words : List ℕ
  pub served : IsServedBy who.pid words cause m
  pub caller : served.who ≡ who
  pub receives : is_receive (call_number words) ≡ true
  pub names : named_server m (named_sid words) ≡ serial_of n

-- a thread of the server's process returns the message of the number, which the server holds
pub record IsReturned (number : Number) (server : Server) (cause : Cause) (m : Machine) : Type 0 where
  pub words : List ℕ
  pub served : IsServedBy server.pid words cause m
  pub returns : is_return_call (call_number words) ≡ true
  pub token : return_token words ≡ number.0
  pub held : list_any (is_of_number number) server.held ≡ true

-- a thread of the server's process destroys it
pub record IsDestroyed (n : ℕ) (server : Server) (cause : Cause) (m : Machine) : Type 0 where
  pub words : List ℕ
  pub served : IsServedBy server.pid words cause m
  pub destroys : call_number words ≡ destroy_server
  pub names : named_server m (named_sid words) ≡ serial_of n

-- of the threads that wait for a message at server n the thread is the one of the least tid
abbrev pub IsFirstWaiting : ℕ → ThreadId → Machine → Type 0
IsFirstWaiting n who m =
    (receiving_at m (serial_of n) who ≡ true)
    × ((other : ThreadId) → receiving_at m (serial_of n) other ≡ true → who.tid.0 ≤ other.tid.0)

-- ---- what arrives

-- the message is sent to server n
pub record IsSentTo (n : ℕ) (message : Message) (cause : Cause) (m : Machine) : Type 0 where
  pub pid : Pid
  pub words : List ℕ
  pub served : IsServedBy pid words cause m
  pub sends : is_send (call_number words) ≡ true
  pub leads : ConnectsTo n (send_cid words) pid m
  pub kind : MsgKind
  pub named : named_kind words ≡ Some kind
  pub first : Vpn
  pub is : message ≡ new_message (record m { cursor = served.who }) kind words first

-- the message, a lend, is forwarded to server n by the process of another server, which holds it
pub record IsForwardedTo (n : ℕ) (message : Message) (cause : Cause) (m : Machine) : Type 0 where
  pub from : ℕ
  pub server : Server
  pub there : m.servers from ≡ Some server
  pub words : List ℕ
  pub served : IsServedBy server.pid words cause m
  pub forwards : call_number words ≡ forward_message
  pub leads : ConnectsTo n (forward_cid words) server.pid m
  pub apart : n ≢ from
  pub place : ℕ
  pub held : Message
  pub held_there : slice_get server.held place ≡ Some held
  pub token : forward_token words ≡ held.number.0
  pub lends : is_lend held.kind ≡ true
  pub first : Vpn
  pub is : message ≡ with_first first held

-- a message comes to server n
pub data Arrives (n : ℕ) (message : Message) (cause : Cause) (m : Machine) : Type 0 where
  IsSent : IsSentTo n message cause m → Arrives n message cause m
  IsForwarded : IsForwardedTo n message cause m → Arrives n message cause m

-- ---- what happens to the lists of a server

-- at server n; `Dies` tells which processes die
pub data ListStep (n : ℕ) (cause : Cause) (m next : Machine) (Dies : Pid → Type 0) (before after : Server) : Type 0 where
  -- a message is the newest queued
  Queues : (message : Message) → Arrives n message cause m → after ≡ with_queued message before → ListStep n cause m next Dies before after
  -- none is queued, and of the threads of its process that wait the one of the least tid receives the message at once
  Receives : (message : Message) (who : ThreadId) → Arrives n message cause m → before.queued ≡ [] → before.pid ≡ who.pid
      → IsFirstWaiting n who m → after ≡ with_received message before → ListStep n cause m next Dies before after
  -- a thread of its process receives the oldest queued message
  Takes : (message : Message) (who : ThreadId) → oldest before.queued ≡ Some message → before.pid ≡ who.pid → IsReceiver n who cause m
      → after ≡ with_received message (without_oldest before) → ListStep n cause m next Dies before after
  -- a thread of its process returns a held message
  Returns : (number : Number) → IsReturned number before cause m → after ≡ without_held number before
      → ListStep n cause m next Dies before after
  -- or forwards it, and it is at the other server then
  Forwards : (to : ℕ) (message : Message) (passed : IsForwardedTo to message cause m) → passed.from ≡ n
      → keeping message.number (next.servers to) ≢ Lacks → after ≡ without_held message.number before
      → ListStep n cause m next Dies before after
  -- a process dies: what it has queued goes, and what it waits for has no sender
  LosesSender : (pid : Pid) → Dies pid → after ≡ with_senderless_from pid (without_queued_from pid before)
      → ListStep n cause m next Dies before after

-- .. and to a server: it stays as it is, is founded without a message, ends with its process or is destroyed, or its lists do a step
pub data ServerStep (n : ℕ) (cause : Cause) (m next : Machine) (Dies : Pid → Type 0) : Type 0 where
  Stays : next.servers n ≡ m.servers n → ServerStep n cause m next Dies
  Founded : (server : Server) → m.servers n ≡ None → next.servers n ≡ Some server → server.queued ≡ [] → server.held ≡ []
      → ServerStep n cause m next Dies
  Ends : (server : Server) → m.servers n ≡ Some server → next.servers n ≡ None → Dies server.pid ⊎ IsDestroyed n server cause m
      → ServerStep n cause m next Dies
  Lists : (before after : Server) → m.servers n ≡ Some before → next.servers n ≡ Some after
      → ListStep n cause m next Dies before after → ServerStep n cause m next Dies

-- ---- deliveries

-- the message gets from server n to the thread: it was the oldest queued there, and the thread receives it; or it arrives where none
-- is queued, and of the threads that wait for one this is the one of the least tid
pub data Reaches (n : ℕ) (server : Server) (who : ThreadId) (message : Message) (cause : Cause) (m : Machine) : Type 0 where
  FromQueue : oldest server.queued ≡ Some message → IsReceiver n who cause m → Reaches n server who message cause m
  AtOnce : server.queued ≡ [] → Arrives n message cause m → IsFirstWaiting n who m → Reaches n server who message cause m

-- a server of the thread's process delivers it
pub record IsDelivered (who : ThreadId) (message : Message) (cause : Cause) (m : Machine) : Type 0 where
  pub n : ℕ
  pub server : Server
  pub there : m.servers n ≡ Some server
  pub own : server.pid ≡ who.pid
  pub reaches : Reaches n server who message cause m

-- the words of a reply to the thread aren't those of a message, or are those of one that is delivered to it
abbrev pub IsMeant : ThreadId → List ℕ → Cause → Machine → Type 0
IsMeant who words cause m =
    ((slice_index words 0 == reply_message) ≡ false)
    ⊎ ((message : Message) × IsDelivered who message cause m × (words ≡ message_words message))

-- of other records nothing is asked
abbrev pub IsDelivery : Cause → Machine → What → Type 0
IsDelivery cause m (Call who words) = ⊤
IsDelivery cause m (Reply who words) = IsMeant who words cause m
IsDelivery cause m (Retry who) = ⊤
IsDelivery cause m (Byte who byte) = ⊤
IsDelivery cause m (Fault who cause_number value) = ⊤
IsDelivery cause m (End who) = ⊤
IsDelivery cause m (Irq pid k) = ⊤
IsDelivery cause m (Gone pid) = ⊤

-- ---- the law

-- the records tell that the process dies
abbrev pub DiesIn : List What → Pid → Type 0
DiesIn told pid = Contains told (Gone pid)

-- what leads to the next state by the cause tells
abbrev pub told_by : Cause → Machine → List What
told_by cause m = map (λ (rec : Rec). rec.what) (records_by cause m)

pub record IsServed (cause : Cause) (m : Machine) : Type 0 where
  pub servers : (n : ℕ) → ServerStep n cause m (caused cause m) (DiesIn (told_by cause m))
  pub deliveries : All (λ (rec : Rec). IsDelivery cause m rec.what) (records_by cause m)

-- of whatever leads from a matched state to the next
abbrev pub AllAreServed : Type 0
AllAreServed = (cause : Cause) (m : Machine) → Matched m → IsServed cause m
