use Rattle.std.proofs.Common.{sym, subst}
use Rattle.vm_memory.specs.Memory.{ledger}
use Rattle.vm_memory.specs.Starting.{IsUnlent}
use Rattle.memory_tests.proofs.UnlentLemmas.{console_unlent}
use Rattle.memory_tests.proofs.memory.calls.make_console.Goals as goal

pub returns-clause-unlent : goal.returns-clause-unlent
returns-clause-unlent g c = subst IsUnlent (sym c.make_console.ensures.ledger)
    (console_unlent (record { 0 = 2 }) c.args.w c.make_console.result (ledger g.W.SwapStore.held c.args.memory.now) c.requires.unlent)
