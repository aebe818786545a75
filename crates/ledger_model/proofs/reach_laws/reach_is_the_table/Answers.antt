use Rattle.ledger_model.proofs.ReachingLemmas.{reach-free, reach-holder, reach-home, reach-orphan}
use Rattle.ledger_model.proofs.reach_laws.reach_is_the_table.Goals as goal

pub returns-clause-home : goal.returns-clause-home
returns-clause-home c = reach-home

pub returns-clause-holder : goal.returns-clause-holder
returns-clause-holder c = reach-holder

pub returns-clause-orphan : goal.returns-clause-orphan
returns-clause-orphan c = reach-orphan

pub returns-clause-free : goal.returns-clause-free
returns-clause-free c = reach-free
