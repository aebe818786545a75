-- The events of the machine beside `tick`: each is the next state and its records, which carry the steps done before. An event
-- that does nothing has no record.
use Rattle.std.specs.Prelude.{ℕ, Bool, true, false, [], map, if◌then◌else◌, Option, Some, None}
use Rattle.xk_base.specs.declared.ids.Pid.{Pid}
use Rattle.xk_base.specs.declared.ids.ThreadId.{ThreadId}
use Rattle.machine_model.specs.State.Changes.{Told, settled}
use Rattle.machine_model.specs.Ending.Ends.{death}
use Rattle.machine_model.specs.Stepping.Interrupts.{pended}
use Rattle.machine_model.specs.State.Machine.{Machine, Claim}
use Rattle.machine_model.specs.State.Order.{ready_at}
use Rattle.machine_model.specs.Stepping.Reservations.{unreserved}
use Rattle.machine_model.specs.Stepping.Step.{Recorded, record_of}

-- what an event tells, with the steps done before
abbrev pub at_event : ℕ → Told → Recorded
at_event steps done = record { machine = done.machine; records = map (record_of steps) done.told }

-- an event that does nothing
abbrev pub nothing : Machine → Recorded
nothing m = record { machine = m; records = [] }

-- ---- pick

-- the cursor becomes that thread, where it is Ready
unfoldable pub picked : ThreadId → Machine → Recorded
picked who m = nothing (record m { cursor = if ready_at m who then who else m.cursor })

-- ---- irq

-- interrupt k, which was claimed so, comes; without a claim nothing happens
abbrev pub raised_if : ℕ → Option Claim → Machine → Recorded
raised_if k None m = nothing m
raised_if k (Some claim) m = at_event m.steps (settled (pended k claim m))

-- interrupt k comes; it ends a reservation, and does nothing else where nobody claimed it
unfoldable pub raised : ℕ → Machine → Recorded
raised k m = raised_if k (m.claims k) (unreserved m)

-- ---- kill

-- the process dies, where it is alive
abbrev pub killed_if : Bool → Pid → Machine → Recorded
killed_if false pid m = nothing m
killed_if true pid m = at_event m.steps (settled (death pid m))

-- the process dies, where it lives; nothing else is a process, and pid 1 isn't one. A kill ends a reservation either way.
unfoldable pub killed : Pid → Machine → Recorded
killed pid m = killed_if (m.process pid.0).alive pid (unreserved m)
