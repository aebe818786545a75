use Rattle.ledger_model.proofs.loan_laws.page_has_one_owner_and_one_loan.Goals as goal

pub returns-clause-one_page : goal.returns-clause-one_page
returns-clause-one_page c = λ procs capacity ledger h. h.holders_differ

pub returns-clause-no_home : goal.returns-clause-no_home
returns-clause-no_home c = λ procs capacity ledger h. h.holder_no_home

pub returns-clause-no_orphan : goal.returns-clause-no_orphan
returns-clause-no_orphan c = λ procs capacity ledger h. h.holder_no_orphan

pub returns-clause-kernel : goal.returns-clause-kernel
returns-clause-kernel c = λ procs capacity ledger h. h.orphan_no_home
