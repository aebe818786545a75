use Rattle.boot_plan.proofs.ContentLemmas.{process_vpns, process_holds}
use Rattle.boot_plan.proofs.laws.sections_stand_in_pages.Goals as goal

pub returns-clause-pages : goal.returns-clause-pages
returns-clause-pages c = process_vpns

pub returns-clause-bytes : goal.returns-clause-bytes
returns-clause-bytes c = process_holds
