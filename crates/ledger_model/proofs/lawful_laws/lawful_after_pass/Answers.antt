use Rattle.ledger_model.proofs.Stepping.PassingLemmas.{pass_lawful}
use Rattle.ledger_model.proofs.lawful_laws.lawful_after_pass.Goals as goal

pub returns : goal.returns
returns c = λ procs capacity loan to ledger h can. pass_lawful procs ledger loan to can capacity h
