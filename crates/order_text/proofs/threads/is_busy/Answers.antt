use Rattle.std.proofs.Common.{◌∙◌, Bool, Option, false, sym, ap}
use Rattle.std.specs.Option.{option_map, option_map_or}
use Rattle.order_model.specs.Endings.{is_busy}
use Rattle.snapshot_rows.specs.declared.state.ThreadRow.{ThreadRow}
use Rattle.snapshot_rows.specs.Machines.{thread_of}
use Rattle.order_text.proofs.BusyLemmas.{busy_row}
use Rattle.order_text.proofs.threads.is_busy.Goals as goal

abbrev tells : Option ThreadRow → Bool
tells o = option_map_or (λ thread. is_busy thread.state) (option_map thread_of o) false

pub returns-in-Some : goal.returns-in-Some
returns-in-Some c = busy_row c.in-Some.row ∙ ap tells (sym c.in-Some.is ∙ c.row_of.ensures)

pub returns-in-None : goal.returns-in-None
returns-in-None c = ap tells (sym c.in-None.is ∙ c.row_of.ensures)
