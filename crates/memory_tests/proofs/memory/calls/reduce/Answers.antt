use Rattle.std.proofs.Common.{sym, subst}
use Rattle.vm_memory.specs.Memory.{ledger}
use Rattle.vm_memory.specs.Starting.{IsUnlent}
use Rattle.memory_tests.proofs.UnlentLemmas.{reduce_unlent}
use Rattle.memory_tests.proofs.memory.calls.reduce.Goals as goal

pub returns-clause-unlent : goal.returns-clause-unlent
returns-clause-unlent g c = subst IsUnlent (sym c.reduce_run.ensures.ledger)
    (reduce_unlent c.reduce_run.result c.at.result c.args.n c.args.right (ledger g.W.SwapStore.held c.args.memory.now) c.requires.unlent)
