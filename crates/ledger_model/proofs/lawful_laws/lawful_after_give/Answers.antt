use Rattle.ledger_model.proofs.Stepping.GivingLemmas.{give_lawful}
use Rattle.ledger_model.proofs.lawful_laws.lawful_after_give.Goals as goal

pub returns : goal.returns
returns c = λ procs capacity from n to ledger h can. give_lawful procs from n to ledger can capacity h
