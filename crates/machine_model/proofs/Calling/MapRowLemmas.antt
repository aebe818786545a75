-- The worked row of the ends of the Map window, by evaluation.
use Rattle.std.proofs.Common.{◌≡◌, refl}
use Rattle.xk_base.specs.Tables.Circle.{listed_ids}
use Rattle.xk_base.specs.Tables.Counting.{least_below, listed_below, count_below}
use Rattle.ledger_model.specs.Ledger.{pages}
use Rattle.ledger_model.specs.Places.{run, count_places, first_place, place_at}
use Rattle.ledger_model.specs.Reach.{is_free, role_at, lender_of}
use Rattle.ledger_model.specs.RunTests.{any_used}
use Rattle.ledger_model.specs.Steps.{make}
use Rattle.machine_model.specs.Calling.Calls.{call}
use Rattle.machine_model.specs.State.Changes.{settled, call_settled}
use Rattle.machine_model.specs.Worked.MapRows.{map_row, map_told}
use Rattle.machine_model.specs.Calling.MemoryCalls.{map_call}
use Rattle.machine_model.specs.Worked.Rows.{small_machine, told_all}

pub map_ends : told_all map_row (small_machine 1) ≡ map_told
unfolding told_all map_call any_used small_machine call call_settled settled least_below listed_below listed_ids count_below pages count_places place_at run is_free role_at lender_of first_place make
map_ends = refl
