use Rattle.std.proofs.Common.{◌≡◌, sym, ap, ◌∙◌, arith}
use Rattle.std.proofs.lemmas.Bool.Decides.{nat_tests}
use Rattle.msg_queue.specs.Seats.{used_of}
use Rattle.msg_queue.specs.Shown.{links_of}
use Rattle.msg_queue.proofs.Seats.SeatLemmas.{used_is_few, full_from_free, free_from_full}
use Rattle.msg_queue.proofs.ring.Ring.is_full.Goals as goal

pub returns-clause-full : goal.returns-clause-full
returns-clause-full c = (
  λ t. sym (ap used_of c.self.view_is) ∙ full_from_free c.self.inside.slots.items (links_of c.self.inside) c.self.invariant (grind (arith, nat_tests)),
  λ full. let none : c.self.inside.free ≡ 128 = free_from_full c.self.inside.slots.items (links_of c.self.inside) c.self.invariant (ap used_of c.self.view_is ∙ full) in
      grind (arith, nat_tests),
)

pub returns-clause-few : goal.returns-clause-few
returns-clause-few c =
    omega (arith, used_is_few c.self.inside.slots.items (links_of c.self.inside) c.self.invariant, ap used_of c.self.view_is)
