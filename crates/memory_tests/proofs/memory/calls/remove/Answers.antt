use Rattle.std.proofs.Common.{sym, subst}
use Rattle.vm_memory.specs.Memory.{ledger}
use Rattle.vm_memory.specs.Starting.{IsUnlent}
use Rattle.memory_tests.proofs.UnlentLemmas.{remove_unlent}
use Rattle.memory_tests.proofs.memory.calls.remove.Goals as goal

pub returns-clause-unlent : goal.returns-clause-unlent
returns-clause-unlent g c = subst IsUnlent (sym c.remove_run.ensures.ledger)
    (remove_unlent c.remove_run.result c.at.result c.args.n (ledger g.W.SwapStore.held c.args.memory.now) c.requires.unlent)
