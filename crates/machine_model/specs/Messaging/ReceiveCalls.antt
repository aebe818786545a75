-- ReceiveMessage and TryReceiveMessage. The caller is the thread of the cursor.
use Rattle.std.specs.Prelude.{Option, Some, None}
use Rattle.std.specs.Option.{option_and_then}
use Rattle.xk_base.specs.declared.ids.Serial.{Serial}
use Rattle.xk_base.specs.declared.ids.Sid.{Sid}
use Rattle.xk_base.specs.declared.messages.Message.{Message}
use Rattle.syscall_codec.specs.ReplyWords.{plain_words, message_words}
use Rattle.machine_model.specs.State.Changes.{Change, Served, Call, only, answering, unless_refused}
use Rattle.machine_model.specs.State.Machine.{Machine, Receiving}
use Rattle.machine_model.specs.Messaging.Messages.{oldest, without_oldest, with_received}
use Rattle.machine_model.specs.Calling.ServerCalls.{named_sid, named_server, own_server_refusals}
use Rattle.machine_model.specs.State.Servers.{change_server}
use Rattle.machine_model.specs.State.Threads.{answer_to, change_thread, with_state}

-- the oldest queued message of a server
abbrev pub oldest_queued : Machine → Serial → Option Message
oldest_queued m serial = option_and_then (λ server. oldest server.queued) (m.servers serial.0)

-- the caller gets the oldest queued message; where none is queued the last is what comes
abbrev pub received : Machine → Serial → Option Message → Change → Change
received m serial None otherwise = otherwise
received m serial (Some message) otherwise =
    answering (answer_to m.cursor (message_words message))
    (change_server serial (λ server. with_received message (without_oldest server)) m)

-- the caller waits for a message
abbrev pub waits_at : Serial → Machine → Change
waits_at serial m = only (change_thread m.cursor (with_state (Receiving serial)) m)

-- without a queued message ReceiveMessage waits
abbrev pub receive_served : Machine → Sid → Change
receive_served m sid =
    let serial = named_server m sid in
    received m serial (oldest_queued m serial) (waits_at serial m)

unfoldable pub receive_call : Call
receive_call m w = unless_refused (own_server_refusals m (named_sid w)) (Served (receive_served m (named_sid w)))

-- .. and TryReceiveMessage answers that there is none
abbrev pub try_receive_served : Machine → Sid → Change
try_receive_served m sid =
    let serial = named_server m sid in
    received m serial (oldest_queued m serial) (answering (answer_to m.cursor plain_words) m)

unfoldable pub try_receive_call : Call
try_receive_call m w = unless_refused (own_server_refusals m (named_sid w)) (Served (try_receive_served m (named_sid w)))
