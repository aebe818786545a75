use Rattle.laws.proofs.HistoryLemmas.{history_spans, run_spans}
use Rattle.laws.proofs.each_loan_has_its_span.Goals as goal

-- src/lib.rt
pub returns-clause-runs : goal.returns-clause-runs
returns-clause-runs c = run_spans

pub returns-clause-histories : goal.returns-clause-histories
returns-clause-histories c = history_spans
