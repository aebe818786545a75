use Rattle.vm_memory.specs.Memory.{ledger}
use Rattle.memory_tests.proofs.UnlentLemmas.{made_unlent}
use Rattle.memory_tests.proofs.memory.calls.make.Goals as goal

pub returns-clause-unlent : goal.returns-clause-unlent
returns-clause-unlent g c = made_unlent c.make.result _ _ (record { 0 = 2 }) c.args.n _
    (ledger g.W.SwapStore.held c.args.memory.now) (ledger g.W.SwapStore.held c.make.new.self)
    c.requires.unlent c.make.ensures.rights c.make.ensures.partial
