use Rattle.std.proofs.Common.{◌<◌, rules, refl, sym, ap, subst, ◌∙◌}
use Rattle.phys_pages.specs.declared.infos.Seat.TheVariants.{Slot}
use Rattle.phys_pages.specs.Ram.{Area}
use Rattle.vm_memory.specs.Memory.{processes}
use Rattle.vm_memory.proofs.Changing.PageStepLemmas.{cleared_made, frame_behind, free_entry, placed_step, user_process}
use Rattle.vm_memory.proofs.memory.Memory.place_page.Goals as goal

pub set_entry-requires-clause-made : goal.set_entry-requires-clause-made
set_entry-requires-clause-made g c =
    let process = user_process (processes c.args.self.now) c.args.at c.requires.place in
    cleared_made g.W.SwapStore c.args.self.now c.requires.sound c.args.at c.clear.new.ram c.args.f c.requires.frame
    c.clear.ensures.pages c.clear.ensures.area c.args.at.pid.0 process (c.requires.sound.agree.made c.args.at.pid.0 process)

pub set_entry-requires-clause-entry : goal.set_entry-requires-clause-entry
set_entry-requires-clause-entry g c =
    subst (λ (a : Area). c.args.f.0 < a.frames) (sym c.clear.ensures.area)
    (frame_behind g.W.SwapStore c.args.self.now c.requires.sound c.args.at c.args.f.0 c.requires.frame).1

pub returns : goal.returns
returns g c =
    let step = placed_step g.W.SwapStore c.args.self.now c.requires.sound c.args.at c.clear.new.ram c.args.f c.requires.frame
    c.clear.ensures.pages c.clear.ensures.area c.set_entry.new.ram c.set.new.self c.args.right c.requires.place
    (free_entry g.W.SwapStore c.args.self.now c.requires.sound c.args.at c.requires.place c.requires.free)
    c.requires.room c.requires.left c.requires.hand
    (record { entries = c.set_entry.ensures.entries; pages = c.set_entry.ensures.pages; made = c.set_entry.ensures.made; area = c.set_entry.ensures.area })
    c.set.ensures.infos c.set.ensures.extent in
    record { sound = step.sound; ledger = step.ledger; owners = c.set.ensures.infos; pages = search rules; rest = record { size = search rules; store = refl; failed = refl; slots = λ s free. ap (λ I. I (Slot s)) c.set.ensures.infos ∙ free } }
