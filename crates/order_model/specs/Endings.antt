-- Endings of orders, and what is seen of them.
use Rattle.std.specs.Prelude.{◌≡◌, ℕ, ◌+◌, ◌==◌, ◌&&◌, ◌||◌, Bool, true, false, is_some, List, [], ◌∷◌, map, if◌then◌else◌, Option, Some, None}
use Rattle.std.specs.List.{list_any}
use Rattle.std.specs.Option.{option_and_then, option_map, option_map_or}
use Rattle.order_model.specs.declared.exits.Exit.{Exit}
use Rattle.order_model.specs.declared.failing.Failing.{Failing}
use Rattle.xk_base.specs.declared.ids.Number.{Number}
use Rattle.xk_base.specs.declared.ids.Pid.{Pid}
use Rattle.xk_base.specs.declared.ids.Sid.{Sid}
use Rattle.xk_base.specs.declared.ids.ThreadId.{ThreadId}
use Rattle.xk_base.specs.declared.ids.Tid.{Tid}
use Rattle.xk_base.specs.Tables.Circle.{listed_ids}
use Rattle.xk_base.specs.Tables.Counting.{least_below, listed_below}
use Rattle.machine_model.specs.Messaging.Messages.{is_of_number}
use Rattle.machine_model.specs.State.Machine.{Idle, Joining, Machine, Ready, Receiving, Server, ThreadState, Waiting}
use Rattle.machine_model.specs.State.Order.{ready_at}
use Rattle.order_model.specs.Failing.{first_failing}
use Rattle.order_model.specs.Moves.{Asked, Point, is_at_bound}
use Rattle.order_model.specs.Nodes.{node_of}

-- the threads that are Ready, by pid and tid
unfoldable pub ready_ids : Machine → List ThreadId
ready_ids m = listed_ids m.processes (ready_at m)

abbrev pub are_none : List ThreadId → Bool
are_none [] = true
are_none (who ∷ others) = false

-- An order ends where no thread is Ready, or no step is left within its bound.
abbrev pub is_ending : Asked → Machine → Bool
is_ending asked m = are_none (ready_ids m) || is_at_bound asked.bound m

-- the threads that may have a slice
abbrev pub turns_at : Asked → Machine → List ThreadId
turns_at asked m = if is_at_bound asked.bound m then [] else ready_ids m

-- ---- what is seen

-- a server holds the message that is waited for, or has it queued
pub data Kept : Type 0 where
  Queued : Kept
  Held : Kept

-- what is seen of a thread: servers are told by their names
pub data ThreadSeen : Type 0 where
  IsReady : ThreadSeen
  -- it receives at this server
  ReceivesAt : Option Sid → ThreadSeen
  -- it waits for the answer to its message, which is kept so at this server; the message's number isn't seen
  Waits : Option (Sid × Kept) → ThreadSeen
  -- it joins this thread of its process
  Joins : Tid → ThreadSeen
  -- it is the interrupt thread and runs no handler
  IsIdle : ThreadSeen

-- what is seen of a process that lives: its threads but for an idle one; and of another: what it ended with, where that is kept
pub data Life : Type 0 where
  Lives : List (ThreadId × ThreadSeen) → Life
  IsGone : Option Exit → Life

pub record ProcessSeen : Type 0 where
  pub pid : Pid
  pub life : Life

pub record Seen : Type 0 where
  pub console : List ℕ
  pub processes : List ProcessSeen

-- how the server keeps the message of that number, if it does
abbrev pub kept_by : Number → Server → Option Kept
kept_by number server =
    if list_any (is_of_number number) server.queued then Some Queued else (
    if list_any (is_of_number number) server.held then Some Held else None)

-- at which server it is kept, and how
unfoldable pub kept_at : Machine → Number → Option (Sid × Kept)
kept_at m number =
    option_and_then (λ n. option_and_then (λ server. option_map (λ kept. (server.sid, kept)) (kept_by number server)) (m.servers n))
    (least_below m.next_serial (λ n. is_some (option_and_then (kept_by number) (m.servers n))))

abbrev pub state_seen : Machine → ThreadState → ThreadSeen
state_seen m Ready = IsReady
state_seen m (Receiving serial) = ReceivesAt (option_map (λ server. server.sid) (m.servers serial.0))
state_seen m (Waiting number) = Waits (kept_at m number)
state_seen m (Joining tid) = Joins tid
state_seen m Idle = IsIdle

abbrev pub thread_seen : Machine → ThreadId → ThreadId × ThreadSeen
thread_seen m who = (who, option_map_or (λ thread. state_seen m thread.state) (m.threads who) IsIdle)

abbrev pub is_busy : ThreadState → Bool
is_busy Idle = false
is_busy _ = true

-- it is a thread of the process, and not idle
abbrev pub is_busy_of : Machine → Pid → ThreadId → Bool
is_busy_of m pid who = (who.pid.0 == pid.0) && option_map_or (λ thread. is_busy thread.state) (m.threads who) false

-- what its threads are about
abbrev pub threads_seen : Machine → Pid → List (ThreadId × ThreadSeen)
threads_seen m pid = map (thread_seen m) (listed_ids m.processes (is_busy_of m pid))

abbrev pub process_seen : Machine → (ℕ → Option Exit) → Pid → ProcessSeen
process_seen m exits pid = record {
  pid = pid;
  life = if (m.process pid.0).alive then Lives (threads_seen m pid) else IsGone (exits pid.0);
}

-- what is seen of a point: the bytes of the console, what the threads of living processes are about, and what the others ended with
unfoldable pub seen_of : Point → Seen
seen_of p = record {
  console = p.console;
  processes = map (λ k. process_seen p.state p.exits (record { 0 = k + 2 })) (listed_below p.state.processes (λ k. true));
}

-- ---- laws

-- **All points of a node are seen alike**, fail alike, end orders alike, and have the same slices.
pub record AreSeenAlike (asked : Asked) (p : Point) : Type 0 where
  pub seen : seen_of (node_of asked p) ≡ seen_of p
  pub failing : (list : List Failing) → first_failing list (node_of asked p) ≡ first_failing list p
  pub ending : is_ending asked (node_of asked p).state ≡ is_ending asked p.state
  pub turns : turns_at asked (node_of asked p).state ≡ turns_at asked p.state

abbrev pub NodesAreSeenAlike : Type 0
NodesAreSeenAlike = (asked : Asked) (p : Point) → AreSeenAlike asked p
