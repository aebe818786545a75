use Rattle.std.proofs.Common.{sym, ◌∙◌}
use Rattle.xk_base.specs.declared.pages.Access.TheVariants.{Store}
use Rattle.sv32_space.specs.SpelledEntries.{entries}
use Rattle.xk_base.specs.Numbers.Windows.{page_of}
use Rattle.vm_memory.specs.Memory.{processes}
use Rattle.vm_memory.proofs.Using.UserLemmas.{page_target}
use Rattle.vm_memory.proofs.Using.WalkTargetLemmas.{page_frame}
use Rattle.vm_memory.proofs.memory.Memory.store_at.Goals as goal

pub page_mut-requires : goal.page_mut-requires
page_mut-requires g c =
    let t = page_target (entries (processes c.args.self.now) c.args.self.now.ram (page_of c.args.pid c.args.va)) Store c.in-Page.f (sym c.requires.target ∙ c.in-Page.is) in
    let inside = page_frame g.W.SwapStore.slot_count c.args.self.now c.requires.sound (page_of c.args.pid c.args.va) t.side c.in-Page.f t.entry in
    inside.inside
