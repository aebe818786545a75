use Rattle.std.proofs.Common.{ℕ, ◌<◌}
use Rattle.server_table.specs.ServersOf.{servers_of}
use Rattle.send_path.specs.Seats.{IsNotHeldAt}
use Rattle.send_path.proofs.holding.held_by.Given as goal

-- no server of the process at a seat before holds a message of that number
abbrev pub invariant-loop-seat : goal.invariant-loop-seat
invariant-loop-seat l = (j : ℕ) → j < l.seat → IsNotHeldAt l.pid l.number (servers_of l.servers) l.queues j
