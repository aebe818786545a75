use Rattle.ledger_model.proofs.Pages.WholePageLemmas.{end_loan_whole, give_whole, lend_whole, orphan_loan_whole, pass_whole}
use Rattle.ledger_model.proofs.whole_laws.lent_pages_stay_whole.Goals as goal

pub returns-clause-lent : goal.returns-clause-lent
returns-clause-lent c = lend_whole

pub returns-clause-ended : goal.returns-clause-ended
returns-clause-ended c = end_loan_whole

pub returns-clause-passed : goal.returns-clause-passed
returns-clause-passed c = pass_whole

pub returns-clause-given : goal.returns-clause-given
returns-clause-given c = give_whole

pub returns-clause-orphaned : goal.returns-clause-orphaned
returns-clause-orphaned c = orphan_loan_whole
