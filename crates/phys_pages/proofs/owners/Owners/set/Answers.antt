use Rattle.phys_pages.specs.Owners.{extent}
use Rattle.phys_pages.proofs.OwnerLemmas.{infos-set_frame, infos-set_slot}
use Rattle.phys_pages.proofs.owners.Owners.set.Goals as goal

pub returns-in-Frame-clause-infos : goal.returns-in-Frame-clause-infos
unfolding extent
returns-in-Frame-clause-infos c =
    let seat = rw (c.in-Frame.is, ← c.self.view_is) at c.requires in
    rw (c.in-Frame.is, ← c.self.view_is)
    (infos-set_frame c.self.inside.first.0 c.self.inside.frames.items c.self.inside.slots.items c.in-Frame.f c.args.info seat.0 seat.1)

pub returns-in-Slot-clause-infos : goal.returns-in-Slot-clause-infos
unfolding extent
returns-in-Slot-clause-infos c =
    let seat = rw (c.in-Slot.is, ← c.self.view_is) at c.requires in
    rw (c.in-Slot.is, ← c.self.view_is)
    (infos-set_slot c.self.inside.first.0 c.self.inside.frames.items c.self.inside.slots.items c.in-Slot.s c.args.info seat)
