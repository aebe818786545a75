-- Rows that were read.
use Rattle.std.specs.Prelude.{ℕ, List}
use Rattle.machine_model.specs.Runs.Matched.{Matched}
use Rattle.snapshot_rows.specs.declared.state.State.{State}
use Rattle.snapshot_rows.specs.Machines.{machine_of}
use Rattle.suspend_image.specs.Forms.{Spells}

-- some file spells these rows, and the machine that they say is matched
pub record IsRead (state : State) : Type 0 where
  pub file : List ℕ
  pub spelled : Spells file state
  pub matched : Matched (machine_of file state)
