use Rattle.std.proofs.Common.{sym, ◌∙◌}
use Rattle.phys_pages.specs.Owners.{extent, infos}
use Rattle.vm_memory.proofs.Changing.LastFrameLemmas.{all_full}
use Rattle.vm_memory.proofs.Changing.ShiftedLemmas.{none_all_used, some_room}
use Rattle.vm_memory.proofs.memory.Memory.is_frame_free.Goals as goal

pub returns-then-full-clause-no : goal.returns-then-full-clause-no
returns-then-full-clause-no g c = λ none. all_full g.W.SwapStore.slot_count c.args.self.now c.requires.sound (c.requires.full c.if-full.true)

pub returns-clause-yes : goal.returns-clause-yes
returns-clause-yes g c = λ some. some_room (extent c.args.self.now.owners) (infos c.args.self.now.owners) c.next_frame.result
    c.next_frame.ensures.within c.next_frame.ensures.found (sym c.is_some.ensures ∙ some)

pub returns-clause-no : goal.returns-clause-no
returns-clause-no g c = λ none. none_all_used (extent c.args.self.now.owners) c.args.self.now.owners c.next_frame.result c.next_frame.ensures.none
    (sym c.is_some.ensures ∙ none)
