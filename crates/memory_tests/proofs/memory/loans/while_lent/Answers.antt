use Rattle.std.proofs.Common.{◌∙◌}
use Rattle.vm_memory.proofs.Booting.ProcessPlacedLemmas.{on_ok_then}
use Rattle.memory_tests.proofs.memory.loans.while_lent.Goals as goal

pub returns-clause-usable : goal.returns-clause-usable
returns-clause-usable g c = on_ok_then c.both-done.result _ _ c.both-done.ensures.usable (λ usable. c.end_loan.ensures.keeps.failed ∙ usable)
