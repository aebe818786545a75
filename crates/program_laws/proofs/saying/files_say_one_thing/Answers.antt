use Rattle.program_laws.proofs.Files.OnceLemmas.{faults_same, given_once, never_both}
use Rattle.program_laws.proofs.saying.files_say_one_thing.Goals as goal

pub returns-clause-task : goal.returns-clause-task
returns-clause-task c = given_once

pub returns-clause-fault : goal.returns-clause-fault
returns-clause-fault c = faults_same

pub returns-clause-either : goal.returns-clause-either
returns-clause-either c = never_both
