use Rattle.std.proofs.Common.{arith}
use Rattle.ledger_model.specs.Places.{place_after}
use Rattle.vm_memory.proofs.Using.NowhereLemmas.{nowhere_here}
use Rattle.vm_memory.proofs.memory.Memory.here_above.Goals as goal

pub returns-in-None : goal.returns-in-None
returns-in-None g c = nowhere_here g.W.SwapStore c.args.self.now c.requires.sound (place_after c.args.first c.args.i) (omega (arith, c.in-None.ensures))
