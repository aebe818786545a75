-- What the thread whose step it is did, before the step is counted.
use Rattle.std.specs.Prelude.{◌≡◌, ◌+◌, ◌≤◌, ℕ, length, List, map, Option}
use Rattle.machine_model.specs.State.Changes.{Told}
use Rattle.machine_model.specs.State.Machine.{Machine, Reservation}
use Rattle.machine_model.specs.Stepping.Reservations.{reservation_of}
use Rattle.machine_model.specs.Stepping.Step.{acted_if_there, record_of, reservation_left_if_there}
use Rattle.sv32_space.specs.Tie.{Held}
use Rattle.vm_memory.specs.Memory.{processes}
use Rattle.xk_base.specs.Tables.Circle.{thread_ids}
use Rattle.xk_base.specs.declared.ids.ThreadId.{ThreadId}
use Rattle.xk_base.specs.declared.records.What.{What}
use Rattle.xk_kernel.specs.State.{machine_of}
use Rattle.xk_kernel.specs.declared.kernel.Kernel.{Kernel}

-- what the thread does, with the cursor at it
abbrev pub told_by : ThreadId → Machine → Told
told_by who m = acted_if_there (record m { cursor = who }) (m.threads who)

-- the reservation that its step leaves
abbrev pub reservation_by : ThreadId → Machine → Option Reservation
reservation_by who m = reservation_left_if_there (record m { cursor = who }) (m.threads who)

-- it was done, and exactly these records tell of it, with the step's number
pub record IsDone {W : Type 0} (held : W → Held) (old new : Kernel W) (told : Told) : Type 0 where
  pub machine : machine_of held new ≡ told.machine
  pub log : new.log ≡ record old.log { step = old.steps + 1; records = map (record_of (old.steps + 1)) told.told }

-- .. and the thread has this address reserved afterwards
pub record Acts {W : Type 0} (held : W → Held) (old new : Kernel W) (who : ThreadId) (reserved : Option ℕ) : Type 0 where
  pub done : IsDone held old new (told_by who (machine_of held old))
  pub leaves : reservation_of who reserved ≡ reservation_by who (machine_of held old)

-- whatever the store does, the log tells of this step alone, of each thread one answer at most, and three records more
pub record TellsFew {W : Type 0} (old new : Kernel W) : Type 0 where
  pub told : List What
  pub log : new.log ≡ record old.log { step = old.steps + 1; records = map (record_of (old.steps + 1)) told }
  pub few : length told ≤ thread_ids (processes old.mem) + 3
