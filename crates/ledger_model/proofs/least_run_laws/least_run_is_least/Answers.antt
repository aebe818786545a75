use Rattle.ledger_model.proofs.Runs.LeastRunLemmas.{least_run-Some}
use Rattle.ledger_model.proofs.least_run_laws.least_run_is_least.Goals as goal

pub returns : goal.returns
returns c = least_run-Some
