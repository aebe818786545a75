use Rattle.ledger_model.proofs.Stepping.LendingLemmas.{lend_lawful}
use Rattle.ledger_model.proofs.lawful_laws.lawful_after_lend.Goals as goal

pub returns : goal.returns
returns c = λ procs capacity from n to kind number ledger h can. lend_lawful procs from n to kind number ledger can capacity h
