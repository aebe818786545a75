use Rattle.ledger_model.proofs.Loans.NumberingLemmas.{number_of, number_of-bound, place_at-lies, place_at-number_of, place_at-rises}
use Rattle.ledger_model.proofs.place_laws.places_are_numbered.Goals as goal

pub returns-clause-ascends : goal.returns-clause-ascends
returns-clause-ascends c = place_at-rises

pub returns-clause-lies : goal.returns-clause-lies
returns-clause-lies c = place_at-lies

pub returns-clause-reached : goal.returns-clause-reached
returns-clause-reached c = λ procs p h. (number_of p, number_of-bound procs p h, place_at-number_of procs p h)
