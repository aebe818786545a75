use Rattle.ledger_model.proofs.Stepping.ConsoleLemmas.{console_fetch, console_load, console_store}
use Rattle.ledger_model.proofs.reach_laws.console_is_reached_by_its_owner.Goals as goal

pub returns-clause-load : goal.returns-clause-load
returns-clause-load c = console_load

pub returns-clause-store : goal.returns-clause-store
returns-clause-store c = console_store

pub returns-clause-fetch : goal.returns-clause-fetch
returns-clause-fetch c = console_fetch
