use Rattle.ledger_model.proofs.Pages.BareLemmas.{bare-can_give, bare-can_lend, bare-can_pass}
use Rattle.ledger_model.proofs.loan_laws.conditions_without_bytes.Goals as goal

pub returns-clause-lend : goal.returns-clause-lend
returns-clause-lend c = bare-can_lend

pub returns-clause-give : goal.returns-clause-give
returns-clause-give c = bare-can_give

pub returns-clause-pass : goal.returns-clause-pass
returns-clause-pass c = bare-can_pass
