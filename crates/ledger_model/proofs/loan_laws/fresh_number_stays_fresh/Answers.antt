use Rattle.ledger_model.proofs.Stepping.EndingLemmas.{end_loan_fresh}
use Rattle.ledger_model.proofs.LivingLemmas.{step_fresh}
use Rattle.ledger_model.proofs.loan_laws.fresh_number_stays_fresh.Goals as goal

pub returns-clause-stays : goal.returns-clause-stays
returns-clause-stays c = step_fresh

pub returns-clause-ended : goal.returns-clause-ended
returns-clause-ended c = end_loan_fresh
