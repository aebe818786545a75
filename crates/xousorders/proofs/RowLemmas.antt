-- Rows of a state that a file spells can be told.
use Rattle.std.proofs.Common.{ℕ, List}
use Rattle.machine_model.specs.Runs.Matched.{Matched}
use Rattle.order_text.specs.Rows.{AreTellable}
use Rattle.snapshot_rows.specs.declared.state.State.{State}
use Rattle.snapshot_rows.specs.Machines.{machine_of}
use Rattle.suspend_image.proofs.FaultLemmas.{rows_in_order}
use Rattle.suspend_image.specs.Forms.{Spells}

pub tellable : (state : State) (file : List ℕ) → Spells file state → Matched (machine_of file state) → AreTellable state
tellable state file spelled matched =
    let rows = rows_in_order file state spelled in
    record {
      few = rows.few;
      servers = rows.servers;
      below = matched.rest.above.serials;
    }
