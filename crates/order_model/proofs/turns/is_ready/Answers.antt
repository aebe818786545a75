use Rattle.std.proofs.Common.{◌∙◌, Bool, Option, false, sym, ap}
use Rattle.std.specs.Prelude.{◌==◌}
use Rattle.std.specs.Option.{option_map_or}
use Rattle.snapshot_rows.specs.declared.state.ThreadRow.{ThreadRow}
use Rattle.order_model.proofs.turns.is_ready.Goals as goal

abbrev tells : Option ThreadRow → Bool
tells o = option_map_or (λ (t : ThreadRow). t.state == 0) o false

pub returns-in-Some : goal.returns-in-Some
returns-in-Some c = ap tells (sym c.in-Some.is ∙ c.row_of.ensures)

pub returns-in-None : goal.returns-in-None
returns-in-None c = ap tells (sym c.in-None.is ∙ c.row_of.ensures)
