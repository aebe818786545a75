-- The whole state of the machine. What has a key is a finite map, written as a function from the key: the
-- threads by id, the processes by pid, the servers by serial, the claims by interrupt number. What is in
-- order is a list: the connections of a process, the messages of a server.
use Rattle.std.specs.Prelude.{ℕ, List, Bool, Option}
use Rattle.xk_base.specs.declared.ids.Number.{Number}
use Rattle.xk_base.specs.declared.ids.Pid.{Pid}
use Rattle.xk_base.specs.declared.ids.Serial.{Serial}
use Rattle.xk_base.specs.declared.ids.Sid.{Sid}
use Rattle.xk_base.specs.declared.ids.ThreadId.{ThreadId}
use Rattle.xk_base.specs.declared.ids.Tid.{Tid}
use Rattle.xk_base.specs.declared.messages.Message.{Message}
use Rattle.ledger_model.specs.Ledger.{Ledger}

-- what a thread is about
pub data ThreadState : Type 0 where
  -- it can do a step
  Ready : ThreadState
  -- it waits for a message at the server of this serial
  Receiving : Serial → ThreadState
  -- it waits for the answer to the message of this number
  Waiting : Number → ThreadState
  -- it waits for the end of the thread of this id in its own process
  Joining : Tid → ThreadState
  -- the interrupt thread while no handler runs
  Idle : ThreadState

-- `regs` are the 32 registers x0 to x31
pub record Thread : Type 0 where
  pub pc : ℕ
  pub regs : List ℕ
  pub state : ThreadState

-- `heap` is the length of the heap in bytes. `connections` are the serials that the process is connected to,
-- also those of dead servers: the first has the connection number 2, the second 3, and so on.
pub record Process : Type 0 where
  pub alive : Bool
  pub heap : ℕ
  pub connections : List Serial

-- A live server: its identifier, its process, the messages that wait to be received and those that were received
-- and wait for their return, each the oldest first.
pub record Server : Type 0 where
  pub sid : Sid
  pub pid : Pid
  pub queued : List Message
  pub held : List Message

-- who claimed an interrupt, where its handler begins, and the word that the handler is given
pub record Claim : Type 0 where
  pub pid : Pid
  pub handler : ℕ
  pub argument : ℕ

-- a thread's reservation of an address, which its SC needs to succeed there
pub record Reservation : Type 0 where
  pub who : ThreadId
  pub address : ℕ

-- `capacity` is how many pages there may be at once. The pids of the `processes` processes are 2 to
-- processes + 1. `cursor` is the thread whose turn it is. `pending` are the interrupt numbers that were raised
-- and not yet delivered. `next_number` and `next_serial` are the numbers that the next accepted message and
-- the next server get; neither is ever used again. Servers stand below `next_serial`: only serials below
-- it ever have one. `compare` is the number of steps at which the timer raises its interrupt, where it is armed, and `reserved`
-- the reservation, where there is one.
pub record Machine : Type 0 where
  pub capacity : ℕ
  pub processes : ℕ
  pub ledger : Ledger
  pub steps : ℕ
  pub cursor : ThreadId
  pub threads : ThreadId → Option Thread
  pub process : ℕ → Process
  pub servers : ℕ → Option Server
  pub claims : ℕ → Option Claim
  pub pending : ℕ → Bool
  pub next_number : ℕ
  pub next_serial : ℕ
  pub compare : Option ℕ
  pub reserved : Option Reservation
