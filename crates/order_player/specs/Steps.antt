-- Steps of a slice, as they lead from what a run shows to what it shows after them.
use Rattle.std.specs.Prelude.{◌≡◌, ◌+◌, ℕ, Bool, ◌++◌, List}
use Rattle.machine_model.specs.State.Machine.{Machine}
use Rattle.order_model.specs.Slices.{slice, steps_up_to, turned}
use Rattle.order_model.specs.declared.exits.Ended.{Ended}
use Rattle.order_model.specs.declared.orders.Trail.{Trail}
use Rattle.order_model.specs.Exits.{kept_ends}
use Rattle.order_model.specs.Moves.{bytes_of}
use Rattle.xk_base.specs.declared.ids.ThreadId.{ThreadId}
use Rattle.xk_base.specs.declared.records.Rec.{Rec}

-- what records told: the bytes that went to the console, and the processes that ended
pub record Told : Type 0 where
  pub console : List ℕ
  pub ends : List Ended

abbrev pub told_in : Trail → Told
told_in trail = record { console = trail.console.items; ends = trail.ends.items }

-- .. and these tell, where it is kept which processes end or not
abbrev pub told_on : Bool → Told → List Rec → Told
told_on keeps told records = record { console = told.console ++ bytes_of records; ends = told.ends ++ kept_ends keeps records }

-- which events came, and how many moves were preempted, stays
pub record KeepsMoves (old new : Trail) : Type 0 where
  pub came : new.came ≡ old.came
  pub preempted : new.preempted ≡ old.preempted

-- what a run shows: its state, and what its records told
pub record Shown : Type 0 where
  pub machine : Machine
  pub told : Told

module _ (keeps : Bool) where
  -- the steps up to the first with a record, so many at most, lead from one to another, and so many of them are left
  pub record AreSteps (most : ℕ) (old : Shown) (left : ℕ) (new : Shown) : Type 0 where
    pub machine : new.machine ≡ (steps_up_to most old.machine).machine
    pub done : left + (steps_up_to most old.machine).done ≡ most
    pub told : new.told ≡ told_on keeps old.told (steps_up_to most old.machine).records

  -- the slice of the thread leads from one to another, and has so many steps
  pub record IsSlice (quantum : ℕ) (who : ThreadId) (old : Shown) (steps : ℕ) (new : Shown) : Type 0 where
    pub machine : new.machine ≡ (turned (slice quantum who old.machine)).machine
    pub done : steps ≡ (slice quantum who old.machine).done
    pub told : new.told ≡ told_on keeps old.told (slice quantum who old.machine).records
