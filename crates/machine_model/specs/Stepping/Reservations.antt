-- Reservations: LR sets one, and SC succeeds exactly where it is of its thread and its address. Each SC ends it, as each step of
-- another thread does, each trap, system call and end of its own thread or handler, and each interrupt and kill event. Picks, the
-- ends of turns and the timer's raise keep it.
use Rattle.std.specs.Prelude.{ℕ, if◌then◌else◌, Option, Some, None}
use Rattle.std.specs.Option.{option_map}
use Rattle.xk_base.specs.declared.ids.ThreadId.{ThreadId}
use Rattle.xk_base.specs.Tables.Circle.{same_thread}
use Rattle.machine_model.specs.State.Machine.{Machine, Reservation}

-- the address that the thread has reserved, if it has
abbrev pub reserved_by : ThreadId → Option Reservation → Option ℕ
reserved_by who None = None
reserved_by who (Some r) = if same_thread r.who who then Some r.address else None

-- the reservation of the thread, where it has reserved this address
abbrev pub reservation_of : ThreadId → Option ℕ → Option Reservation
reservation_of who reserved = option_map (λ address. record { who = who; address = address }) reserved

-- the machine without a reservation
abbrev pub unreserved : Machine → Machine
unreserved m = record m { reserved = None }
