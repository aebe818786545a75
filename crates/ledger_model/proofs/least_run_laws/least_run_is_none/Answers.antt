use Rattle.ledger_model.proofs.Runs.LeastRunLemmas.{least_run-None, least_run-none}
use Rattle.ledger_model.proofs.least_run_laws.least_run_is_none.Goals as goal

pub returns : goal.returns
returns c = λ procs ledger pid window n some. (least_run-none procs ledger pid window n some, least_run-None procs ledger pid window n)
