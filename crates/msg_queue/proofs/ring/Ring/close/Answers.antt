use Rattle.std.proofs.Common.{ap, ◌∙◌}
use Rattle.msg_queue.specs.Seats.{used_of}
use Rattle.msg_queue.specs.Shown.{links_of}
use Rattle.msg_queue.proofs.CallLemmas.{all_empty}
use Rattle.msg_queue.proofs.ring.Ring.close.Goals as goal

pub loop-slot-init : goal.loop-slot-init
loop-slot-init c = all_empty c.self.inside.slots.items (links_of c.self.inside) c.self.invariant (ap used_of c.self.view_is ∙ c.requires)
