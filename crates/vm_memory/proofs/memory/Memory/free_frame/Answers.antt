use Rattle.std.proofs.Common.{◌≡◌, ap, subst, ◌∙◌}
use Rattle.std.specs.Prelude.{is_some}
use Rattle.phys_pages.specs.Owners.{extent}
use Rattle.vm_memory.specs.Pages.Changing.{IsFreeFrame}
use Rattle.vm_memory.proofs.Changing.LastFrameLemmas.{not_full, some_free, some_there}
use Rattle.vm_memory.proofs.Changing.ShiftedLemmas.{none_all_used}
use Rattle.vm_memory.proofs.memory.Memory.free_frame.Goals as goal

pub returns-clause-free : goal.returns-clause-free
returns-clause-free g c = some_free c.args.self.now.owners c.next_frame.result c.next_frame.ensures.within c.next_frame.ensures.found c.in-Some.f c.in-Some.is

pub returns-clause-hand : goal.returns-clause-hand
returns-clause-hand g c = λ f at free.
    let same : f ≡ c.search_start-from.result.0 = c.search_start-from.ensures.hand f at free.within in
    same ∙ some_there c.search_start-from.result.0 c.next_frame.result
    (c.next_frame.ensures.here (subst (λ k. IsFreeFrame c.args.self.now.owners k) same free)) c.in-Some.f c.in-Some.is

pub unreachable-requires : goal.unreachable-requires
unreachable-requires g c = not_full c.args.self.now.owners (c.requires.sound.room c.requires.usable)
    (none_all_used (extent c.args.self.now.owners) c.args.self.now.owners c.next_frame.result c.next_frame.ensures.none (ap is_some c.in-None.is))
