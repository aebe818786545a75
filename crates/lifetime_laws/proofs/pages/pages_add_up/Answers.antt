use Rattle.lifetime_laws.proofs.Lives.BalanceLemmas.{every_history_balances, every_run_balances}
use Rattle.lifetime_laws.proofs.pages.pages_add_up.Goals as goal

-- src/pages.rt
pub returns-clause-runs : goal.returns-clause-runs
returns-clause-runs c = every_run_balances

pub returns-clause-histories : goal.returns-clause-histories
returns-clause-histories c = every_history_balances
