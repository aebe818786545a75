use Rattle.ledger_model.proofs.OwnerLemmas.{end_loan_frees}
use Rattle.ledger_model.proofs.ReachingLemmas.{reach-free}
use Rattle.ledger_model.specs.Places.{place_after}
use Rattle.ledger_model.specs.Steps.{end_loan}
use Rattle.ledger_model.proofs.loan_laws.end_frees_the_holder.Goals as goal

pub returns-clause-free : goal.returns-clause-free
returns-clause-free c = end_loan_frees

pub returns-clause-nobody : goal.returns-clause-nobody
returns-clause-nobody c = λ procs capacity ledger loan i access h stands b. reach-free procs (end_loan loan.number ledger) (place_after loan.holder i) access (end_loan_frees procs capacity ledger loan i h stands b)
