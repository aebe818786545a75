use Rattle.ledger_model.proofs.ReachingLemmas.{is_free-all, is_free-parts}
use Rattle.ledger_model.proofs.reach_laws.free_place_is_unused.Goals as goal

pub returns-clause-unused : goal.returns-clause-unused
returns-clause-unused c = is_free-parts

pub returns-clause-free : goal.returns-clause-free
returns-clause-free c = is_free-all
