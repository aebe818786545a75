-- What each table of a kernel stands for in the machine.
use Rattle.std.specs.Prelude.{ℕ, Bool, false, List, map, Option, Some, None}
use Rattle.std.specs.Option.{option_map, option_map_or}
use Rattle.irq_claims.specs.ClaimsOf.{claims_of}
use Rattle.irq_claims.specs.declared.claims.Claim.{Claim as TableClaim}
use Rattle.irq_claims.specs.declared.claims.Claims.{Claims}
use Rattle.machine_model.specs.Ending.Ends.{dead_process}
use Rattle.machine_model.specs.State.Machine.{Claim, Process, Server, Thread, ThreadState, Ready, Receiving, Waiting, Joining, Idle}
use Rattle.msg_queue.specs.Seats.{Seat, message_of, seat_of}
use Rattle.process_table.specs.State.{ProcessState}
use Rattle.process_table.specs.Shown.{processes_of}
use Rattle.process_table.specs.declared.table.Processes.{Processes}
use Rattle.server_table.specs.ServersOf.{servers_of}
use Rattle.server_table.specs.ServerState.{Server as TableServer}
use Rattle.server_table.specs.declared.table.Servers.{Servers}
use Rattle.thread_table.specs.Shown.{threads_of}
use Rattle.thread_table.specs.declared.table.Threads.{Threads}
use Rattle.thread_table.specs.declared.thread.Thread.{Thread as TableThread}
use Rattle.thread_table.specs.declared.thread.ThreadState.{ThreadState as TableState}
use Rattle.thread_table.specs.declared.thread.ThreadState.TheVariants as table
use Rattle.xk_base.specs.declared.ids.ThreadId.{ThreadId}

-- ---- threads

-- what a thread of the table is about, and the thread
abbrev pub state_of : TableState → ThreadState
state_of table.Ready = Ready
state_of (table.Receiving serial) = Receiving serial
state_of (table.Waiting number) = Waiting number
state_of (table.Joining tid) = Joining tid
state_of table.Idle = Idle

abbrev pub thread_of : TableThread → Thread
thread_of t = record { pc = t.pc; regs = t.regs; state = state_of t.state }

abbrev pub threads_shown : Threads → ThreadId → Option Thread
threads_shown threads id = option_map thread_of (threads_of threads id)

-- ---- processes

-- a process of the table; one that isn't there is dead
abbrev pub process_of : Option ProcessState → Process
process_of None = dead_process
process_of (Some p) = record { alive = p.alive; heap = p.heap; connections = p.connections }

abbrev pub processes_shown : Processes → ℕ → Process
processes_shown processes pid = process_of (processes_of processes pid)

-- ---- servers and their messages

-- a server of the table with the messages of a seat
abbrev pub server_with : Seat → TableServer → Server
server_with seat s = record { sid = s.sid; pid = s.pid; queued = map message_of seat.queued; held = map message_of seat.held }

-- .. with those of its own seat
abbrev pub server_of : List Seat → TableServer → Server
server_of seats s = server_with (seat_of seats s.seat) s

abbrev pub servers_shown : Servers → List Seat → ℕ → Option Server
servers_shown servers seats n = option_map (server_of seats) ((servers_of servers).live n)

-- ---- claims: each claimed interrupt with its claim, and the numbers that are pending

abbrev pub claim_of : TableClaim → Claim
claim_of c = record { pid = c.pid; handler = c.handler; argument = c.arg }

abbrev pub claims_shown : Claims → ℕ → Option Claim
claims_shown claims n = option_map claim_of (claims_of claims n)

abbrev pub pending_shown : Claims → ℕ → Bool
pending_shown claims n = option_map_or (λ c. c.pending) (claims_of claims n) false
