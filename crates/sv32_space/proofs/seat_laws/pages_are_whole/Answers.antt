use Rattle.sv32_space.proofs.Ledgers.WholeSeatLemmas.{ledger_whole, slot_whole}
use Rattle.sv32_space.proofs.seat_laws.pages_are_whole.Goals as goal

pub returns-clause-ledger : goal.returns-clause-ledger
returns-clause-ledger c = ledger_whole

pub returns-clause-slots : goal.returns-clause-slots
returns-clause-slots c = slot_whole
