use Rattle.ledger_model.proofs.OwnerLemmas.{numbers_share_no_holder, numbers_share_no_home}
use Rattle.ledger_model.proofs.loan_laws.numbers_share_no_place.Goals as goal

pub returns-clause-holders : goal.returns-clause-holders
returns-clause-holders c = numbers_share_no_holder

pub returns-clause-lenders : goal.returns-clause-lenders
returns-clause-lenders c = numbers_share_no_home
