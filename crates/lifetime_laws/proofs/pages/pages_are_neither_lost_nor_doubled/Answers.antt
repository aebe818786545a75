use Rattle.lifetime_laws.proofs.Lives.RunLemmas.{every_history_lives, every_page_lives, every_run_lives}
use Rattle.lifetime_laws.proofs.Lives.StepLemmas.{every_moment_lives}
use Rattle.lifetime_laws.proofs.pages.pages_are_neither_lost_nor_doubled.Goals as goal

-- src/pages.rt
pub returns-clause-moments : goal.returns-clause-moments
returns-clause-moments c = every_moment_lives

pub returns-clause-runs : goal.returns-clause-runs
returns-clause-runs c = every_run_lives

pub returns-clause-pages : goal.returns-clause-pages
returns-clause-pages c = every_page_lives

pub returns-clause-histories : goal.returns-clause-histories
returns-clause-histories c = every_history_lives
