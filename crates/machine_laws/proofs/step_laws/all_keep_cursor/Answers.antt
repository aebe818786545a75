use Rattle.machine_laws.proofs.Stepping.CursorStepLemmas.{every_cause_keeps_cursor}
use Rattle.machine_laws.proofs.step_laws.all_keep_cursor.Goals as goal

-- src/step_laws.rt
pub returns : goal.returns
returns c = every_cause_keeps_cursor
