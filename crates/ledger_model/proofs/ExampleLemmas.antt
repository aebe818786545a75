-- Small ledgers are counted by evaluation.
use Rattle.std.proofs.Common.{◌≡◌, true, false, refl}
use Rattle.xk_base.specs.Tables.Counting.{count_below}
use Rattle.ledger_model.specs.Ledger.{Ledger, pages, empty_ledger}
use Rattle.ledger_model.specs.Places.{place_at, count_places}
use Rattle.ledger_model.specs.Steps.{make, make_console}

-- two pages of the Heap window and the console
example : Ledger
unfolding make make_console
example = make_console (record { pid = record { 0 = 2 }; vpn = record { 0 = 0x6_0000 } }) true
    (make (record { pid = record { 0 = 3 }; vpn = record { 0 = 0x2_0000 } }) 2 (record { w = true; x = false }) empty_ledger)

counted : pages 2 example ≡ 2
unfolding pages count_places place_at count_below example make make_console
counted = refl
