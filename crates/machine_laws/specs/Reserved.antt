-- Whose a reservation may be.
use Rattle.std.specs.Prelude.{◌≡◌, IsTrue, Some}
use Rattle.machine_model.specs.State.Machine.{Machine, Reservation}
use Rattle.xk_base.specs.Tables.Circle.{is_thread_id}

-- the reservation, where there is one, is that of an id that a thread of the machine can have
abbrev pub IsReservedByThread : Machine → Type 0
IsReservedByThread m = (r : Reservation) → m.reserved ≡ Some r → IsTrue (is_thread_id m.processes r.who)
