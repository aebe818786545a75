-- A pending interrupt waits for a handler that runs: no interrupt thread is Idle beside a pending number of its process.
use Rattle.std.specs.Prelude.{◌≡◌, ℕ, true, false, List, Some}
use Rattle.machine_model.specs.Runs.Matched.{Matched}
use Rattle.machine_model.specs.Runs.Moments.{Moment, IsRun, state_at}
use Rattle.machine_model.specs.State.Machine.{Claim, Machine}
use Rattle.machine_model.specs.State.Start.{IsStart}
use Rattle.machine_model.specs.Stepping.Interrupts.{is_free_for_interrupt}

-- the process that claimed a pending number has an interrupt thread that runs a handler
abbrev pub PendingMeansBusy : Machine → Type 0
PendingMeansBusy m =
    (k : ℕ) (claim : Claim) → m.claims k ≡ Some claim → m.pending k ≡ true → is_free_for_interrupt m claim.pid ≡ false

-- It is so at the start of a machine,
abbrev pub StartsBusy : Type 0
StartsBusy = (m : Machine) → IsStart m → PendingMeansBusy m

-- .. and stays so in each state of every run.
abbrev pub PendingStaysBusy : Type 0
PendingStaysBusy =
    (start : Machine) (moments : List Moment) → Matched start → PendingMeansBusy start → IsRun start moments → (i : ℕ)
    → PendingMeansBusy (state_at start moments i)
