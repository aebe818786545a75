use Rattle.vm_memory.proofs.Using.WalkReachLemmas.{walk_is_reach}
use Rattle.vm_memory.proofs.laws.walk_is_reach.Goals as goal

pub returns : goal.returns
returns g c = λ m pid address access sound process fits. walk_is_reach g.W.SwapStore m sound pid address access process fits
