use Rattle.ledger_model.proofs.Stepping.OrphaningLemmas.{orphan_loan_lawful}
use Rattle.ledger_model.proofs.lawful_laws.lawful_after_orphan.Goals as goal

pub returns : goal.returns
returns c = orphan_loan_lawful
