use Rattle.ledger_model.proofs.Loans.NumberingLemmas.{count_places-run}
use Rattle.ledger_model.proofs.place_laws.run_counts.Goals as goal

pub returns : goal.returns
returns c = count_places-run
