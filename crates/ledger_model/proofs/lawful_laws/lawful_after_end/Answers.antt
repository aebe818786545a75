use Rattle.ledger_model.proofs.Stepping.EndingLemmas.{end_loan_lawful}
use Rattle.ledger_model.proofs.lawful_laws.lawful_after_end.Goals as goal

pub returns : goal.returns
returns c = end_loan_lawful
