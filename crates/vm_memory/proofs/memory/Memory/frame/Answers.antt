use Rattle.std.proofs.Common.{Some, sym, ap, ◌∙◌}
use Rattle.std.proofs.lemmas.Bool.{false≢true}
use Rattle.sv32_space.specs.declared.sides.Entry.TheVariants.{At}
use Rattle.phys_pages.specs.declared.infos.Seat.{Seat}
use Rattle.vm_memory.specs.Bytes.{names_frame}
use Rattle.vm_memory.proofs.Using.ReachedLemmas.{near-named, near-place}
use Rattle.vm_memory.proofs.Using.WalkTargetLemmas.{page_frame}
use Rattle.vm_memory.proofs.memory.Memory.frame.Goals as goal

pub entry-requires-clause-place : goal.entry-requires-clause-place
entry-requires-clause-place g c = near-place g.W.SwapStore.slot_count c.args.self.now c.args.at c.requires.sound c.requires.near

pub unreachable-requires : goal.unreachable-requires
unreachable-requires g c = false≢true (sym (ap names_frame (c.entry.ensures ∙ ap (λ e. Some e) c.in-At.is ∙ ap (λ (s : Seat). Some (At c.in-At.side s)) c.in-Slot.is))
    ∙ near-named c.args.self.now c.args.at c.requires.near)

pub unreachable-requires-in-Free : goal.unreachable-requires-in-Free
unreachable-requires-in-Free g c = false≢true (sym (ap names_frame (c.entry.ensures ∙ ap (λ e. Some e) c.in-Free.is)) ∙ near-named c.args.self.now c.args.at c.requires.near)

pub unreachable-requires-in-OnConsole : goal.unreachable-requires-in-OnConsole
unreachable-requires-in-OnConsole g c = false≢true (sym (ap names_frame (c.entry.ensures ∙ ap (λ e. Some e) c.in-OnConsole.is)) ∙ near-named c.args.self.now c.args.at c.requires.near)

pub returns-clause-inside : goal.returns-clause-inside
returns-clause-inside g c =
    let f = page_frame g.W.SwapStore.slot_count c.args.self.now c.requires.sound c.args.at c.in-At.side c.in-Frame.f
    (c.entry.ensures ∙ ap (λ e. Some e) c.in-At.is ∙ ap (λ (s : Seat). Some (At c.in-At.side s)) c.in-Frame.is) in
    f.inside
