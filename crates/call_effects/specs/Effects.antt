-- One change that a call makes to the machine, as data: what it names, and what it makes of a machine. An effect does one thing to
-- one part of the machine; what a call does is several of them in order.
use Rattle.std.specs.Prelude.{ℕ, ◌+◌, ◌==◌, Bool, false, nat_eq, List, [], ◌∷◌, Option, Some, None}
use Rattle.xk_base.specs.declared.ids.Number.{Number}
use Rattle.xk_base.specs.declared.ids.Pid.{Pid}
use Rattle.xk_base.specs.declared.ids.Place.{Place}
use Rattle.xk_base.specs.declared.ids.Serial.{Serial}
use Rattle.xk_base.specs.declared.ids.ThreadId.{ThreadId}
use Rattle.xk_base.specs.declared.limits.TheConstants.{TIMER_INTERRUPT}
use Rattle.xk_base.specs.declared.messages.Message.{Message}
use Rattle.xk_base.specs.declared.messages.MsgKind.{MsgKind}
use Rattle.xk_base.specs.declared.pages.Right.{Right}
use Rattle.xk_base.specs.Tables.Counting.{put_at}
use Rattle.ledger_model.specs.Ledger.{Ledger}
use Rattle.ledger_model.specs.Places.{in_run}
use Rattle.ledger_model.specs.Steps.{end_loan, pass, reduce, remove}
use Rattle.machine_model.specs.Calling.MemoryCalls.{mapped_ledger}
use Rattle.machine_model.specs.Calling.ServerCalls.{with_server}
use Rattle.machine_model.specs.Ending.Closing.{closed, senders_held_gone, senders_queued_gone}
use Rattle.machine_model.specs.Ending.Ends.{forgotten}
use Rattle.machine_model.specs.Messaging.Messages.{with_queued, with_received, without_held, without_oldest}
use Rattle.machine_model.specs.Messaging.SendCalls.{sender_left, sent_ledger}
use Rattle.machine_model.specs.State.Connections.{connect_caller}
use Rattle.machine_model.specs.State.Machine.{Claim, Machine, Server, Thread, ThreadState}
use Rattle.machine_model.specs.State.Order.{turn}
use Rattle.machine_model.specs.State.Servers.{change_server}
use Rattle.machine_model.specs.State.Threads.{change_thread, put_thread, with_state}
use Rattle.machine_model.specs.Stepping.Interrupts.{disarmed_if}

-- ---- pages

-- a step of the ledger
pub data PageStep : Type 0 where
  -- so many pages of zeros from a place on, with this right, or, where the test says so, the console there
  Maps : Bool → Place → ℕ → Right → PageStep
  -- so many pages from a place on go
  Removes : Place → ℕ → PageStep
  -- .. and these get a right
  Reduces : Place → ℕ → Right → PageStep
  -- so many pages from a place on are lent or moved to another place, by a message of this kind and number
  Sends : MsgKind → Place → ℕ → Place → Number → PageStep
  -- the loan of a number goes from its place at one holder to a place at another
  Passes : Number → Place → Place → PageStep
  -- the loan of a number ends
  Ends : Number → PageStep

abbrev pub paged : PageStep → Ledger → Ledger
paged (Maps console first n right) ledger = mapped_ledger console first n right ledger
paged (Removes first n) ledger = remove (in_run first n) ledger
paged (Reduces first n right) ledger = reduce (in_run first n) right ledger
paged (Sends kind from n to number) ledger = sent_ledger kind from n to number ledger
paged (Passes number from to) ledger = pass number from to ledger
paged (Ends number) ledger = end_loan number ledger

-- ---- messages

-- what a message does at its server
pub data MessageStep : Type 0 where
  -- it is the newest queued
  Queued : Message → MessageStep
  -- it comes, and a thread that waits receives it
  Received : Message → MessageStep
  -- it was the oldest queued, and is received
  Taken : Message → MessageStep
  -- it was held, has this number, and is returned
  Returned : Number → MessageStep

abbrev pub at_server : MessageStep → Server → Server
at_server (Queued message) server = with_queued message server
at_server (Received message) server = with_received message server
at_server (Taken message) server = with_received message (without_oldest server)
at_server (Returned number) server = without_held number server

-- a message that comes is received by the thread that waits, where there is one, and else queued
abbrev pub arriving : Option ThreadId → Message → MessageStep
arriving None message = Queued message
arriving (Some who) message = Received message

-- ---- effects

pub data Effect : Type 0 where
  -- the ledger does a step
  Pages : PageStep → Effect
  -- the caller's heap has this length
  HasHeap : ℕ → Effect
  -- there is a thread
  Starts : ThreadId → Thread → Effect
  -- a thread waits, in this state
  Waits : ThreadId → ThreadState → Effect
  -- where the test says so, the caller waits for the answer to the message of this number
  Awaits : Bool → Number → Effect
  -- the turn ends
  EndsTurn : Effect
  -- the next serial is that of a new server
  Founds : Server → Effect
  -- the caller's process is connected to a server
  Connects : Serial → Effect
  -- the next message number is used up
  TakesNumber : Effect
  -- a message does this at a server
  Serves : Serial → MessageStep → Effect
  -- these servers close: their loans end, and they go with their messages
  ClosesServers : (ℕ → Bool) → Effect
  -- the queued messages that threads of a process wait for go, and their loans end
  Unqueues : Pid → Effect
  -- the held ones have no sender from now on, and their loans become orphans
  Orphans : Pid → Effect
  -- all that a process has goes, and it is dead
  Forgets : Pid → Effect
  -- an interrupt is claimed so
  Claims : ℕ → Claim → Effect
  -- nobody has claimed an interrupt, and it isn't pending; where it is the timer's, the timer is disarmed
  Frees : ℕ → Effect

-- what an effect makes of a machine
abbrev pub apply : Effect → Machine → Machine
apply (Pages step) m = record m { ledger = paged step m.ledger }
apply (HasHeap n) m = record m { process = put_at nat_eq m.process m.cursor.pid.0 (record (m.process m.cursor.pid.0) { heap = n }) }
apply (Starts who thread) m = put_thread who (Some thread) m
apply (Waits who state) m = change_thread who (with_state state) m
apply (Awaits waits number) m = sender_left waits number m
apply EndsTurn m = turn m
apply (Founds server) m = with_server server m
apply (Connects serial) m = connect_caller serial m
apply TakesNumber m = record m { next_number = m.next_number + 1 }
apply (Serves serial step) m = change_server serial (at_server step) m
apply (ClosesServers which) m = (closed which m).machine
apply (Unqueues pid) m = senders_queued_gone pid m
apply (Orphans pid) m = senders_held_gone pid m
apply (Forgets pid) m = forgotten pid m
apply (Claims k claim) m = record m { claims = put_at nat_eq m.claims k (Some claim) }
apply (Frees k) m = record m {
  claims = put_at nat_eq m.claims k None;
  pending = put_at nat_eq m.pending k false;
  compare = disarmed_if (k == TIMER_INTERRUPT) m.compare;
}

-- .. and several in order
abbrev pub run : List Effect → Machine → Machine
run [] m = m
run (effect ∷ effects) m = run effects (apply effect m)
