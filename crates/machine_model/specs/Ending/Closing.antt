-- How servers end, and what the servers of others see of the death of a process.
use Rattle.std.specs.Prelude.{ℕ, Bool, false, not, ◌&&◌, ◌==◌, filter, is_some, map, if◌then◌else◌, Option, Some, None}
use Rattle.std.specs.List.{list_any}
use Rattle.std.specs.Option.{option_map}
use Rattle.xk_base.specs.declared.errors.XousError.TheVariants.{ServerNotFound}
use Rattle.xk_base.specs.declared.ids.Number.{Number}
use Rattle.xk_base.specs.declared.ids.Pid.{Pid}
use Rattle.xk_base.specs.declared.ids.Serial.{Serial}
use Rattle.xk_base.specs.declared.ids.ThreadId.{ThreadId}
use Rattle.xk_base.specs.declared.messages.Message.{Message}
use Rattle.xk_base.specs.Tables.Counting.{least_below}
use Rattle.syscall_codec.specs.ReplyWords.{refused_words}
use Rattle.machine_model.specs.State.Changes.{Change, answering}
use Rattle.machine_model.specs.Messaging.LoanSets.{end_loans, orphan_loans}
use Rattle.machine_model.specs.State.Machine.{Machine, Server}
use Rattle.machine_model.specs.Messaging.Messages.{is_of_number, is_sent_by, is_sent_from}
use Rattle.machine_model.specs.Messaging.Receivers.{receiving_at}
use Rattle.machine_model.specs.State.Servers.{messages_of, is_server_of}
use Rattle.machine_model.specs.State.Threads.{Answers, both_answers}

-- ---- messages of all servers

-- there is such a server, and it passes the test
abbrev pub server_passes : (Server → Bool) → Option Server → Bool
server_passes test None = false
server_passes test (Some server) = test server

-- a live server, with its serial, passes the test
unfoldable pub any_server : Machine → (ℕ → Server → Bool) → Bool
any_server m test = is_some (least_below m.next_serial (λ n. server_passes (test n) (m.servers n)))

-- the number is that of a message at a server of these, queued or held
abbrev pub is_message_at : (ℕ → Bool) → Machine → Number → Bool
is_message_at which m number = any_server m (λ n server. which n && list_any (is_of_number number) (messages_of server))

-- the thread waits for the answer to a message at a server of these, queued or held
abbrev pub is_sender_at : (ℕ → Bool) → Machine → ThreadId → Bool
is_sender_at which m who = any_server m (λ n server. which n && list_any (is_sent_by who) (messages_of server))

-- ---- close

-- each of these threads is answered that there is no server
abbrev pub refused_server : (ThreadId → Bool) → Answers
refused_server test id = if test id then Some (refused_words ServerNotFound) else None

-- These servers close: the loans of their messages end and the orphans go, the senders of their queued and held messages are
-- answered that there is no server, and the servers go with their messages.
unfoldable pub closed : (ℕ → Bool) → Machine → Change
closed which m =
    answering (refused_server (is_sender_at which m))
    (record m {
      ledger = end_loans (is_message_at which m) m.ledger;
      servers = λ n. if which n then None else m.servers n;
    })

-- one server closes
abbrev pub close : Serial → Machine → Change
close serial m = closed (λ n. n == serial.0) m

-- a server is destroyed: it closes, and each thread that is Receiving there is answered that there is no server
unfoldable pub destroyed : Serial → Machine → Change
destroyed serial m =
    let left = close serial m in
    record left { answers = both_answers left.answers (refused_server (receiving_at m serial)) }

-- ---- what the servers see of a death

-- the servers of the process close
unfoldable pub servers_closed : Pid → Machine → Change
servers_closed pid m = closed (λ n. is_server_of pid (m.servers n)) m

-- the number is that of a queued message, or of a held one, whose sender is a thread of the process
abbrev pub is_queued_from : Pid → Machine → Number → Bool
is_queued_from pid m number = any_server m (λ n server. list_any (λ x. is_of_number number x && is_sent_from pid x) server.queued)

abbrev pub is_held_from : Pid → Machine → Number → Bool
is_held_from pid m number = any_server m (λ n server. list_any (λ x. is_of_number number x && is_sent_from pid x) server.held)

-- the server without the queued messages that the process waits for
abbrev pub without_queued_from : Pid → Server → Server
without_queued_from pid server = record server { queued = filter (λ x. not (is_sent_from pid x)) server.queued }

-- queued messages whose sender is of the process are taken out, and their loans end
unfoldable pub senders_queued_gone : Pid → Machine → Machine
senders_queued_gone pid m = record m {
  ledger = end_loans (is_queued_from pid m) m.ledger;
  servers = λ n. option_map (without_queued_from pid) (m.servers n);
}

-- a message whose sender is of the process has none from now on, and keeps its place
abbrev pub senderless_from : Pid → Message → Message
senderless_from pid message = record message { sender = if is_sent_from pid message then None else message.sender }

-- .. at a server that holds messages of the process
abbrev pub with_senderless_from : Pid → Server → Server
with_senderless_from pid server = record server { held = map (senderless_from pid) server.held }

-- held messages whose sender is of the process become senderless, and their loans become orphans
unfoldable pub senders_held_gone : Pid → Machine → Machine
senders_held_gone pid m = record m {
  ledger = orphan_loans m.processes (is_held_from pid m) m.ledger;
  servers = λ n. option_map (with_senderless_from pid) (m.servers n);
}
