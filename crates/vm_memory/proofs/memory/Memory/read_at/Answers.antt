use Rattle.std.proofs.Common.{◌%◌, sym, ap, ◌∙◌}
use Rattle.std.specs.Prelude.{slice_index}
use Rattle.xk_base.specs.UserMemory.{number_at}
use Rattle.sv32_space.specs.SpelledEntries.{entries}
use Rattle.xk_base.specs.Numbers.Windows.{page_of}
use Rattle.vm_memory.specs.Memory.{processes}
use Rattle.page_views.specs.EntryAccess.{is_given_target}
use Rattle.vm_memory.proofs.Using.UserLemmas.{page_gives, console_gives, nothing_given, page_target}
use Rattle.vm_memory.proofs.Using.WalkTargetLemmas.{page_frame}
use Rattle.vm_memory.proofs.memory.Memory.read_at.Goals as goal

pub page-requires : goal.page-requires
page-requires g c =
    let t = page_target (entries (processes c.args.self.now) c.args.self.now.ram (page_of c.args.pid c.args.va)) c.args.access c.in-Page.f (sym c.requires.target ∙ c.in-Page.is) in
    let inside = page_frame g.W.SwapStore.slot_count c.args.self.now c.requires.sound (page_of c.args.pid c.args.va) t.side c.in-Page.f t.entry in
    inside.inside

pub returns-in-Page : goal.returns-in-Page
returns-in-Page g c =
    let gives = page_gives g.W.SwapStore c.args.self.now c.requires.sound c.args.pid c.args.va c.args.access c.in-Page.f c.args.width c.requires.aligned (sym c.requires.target ∙ c.in-Page.is) in
    (gives.0, c.read_number.ensures ∙ ap (λ page. number_at (λ i. slice_index page i) (c.args.va % 4096) c.args.width) c.page.ensures.value ∙ gives.1)

pub returns-in-Console : goal.returns-in-Console
returns-in-Console g c = console_gives g.W.SwapStore c.args.self.now c.requires.sound c.args.pid c.args.va c.args.access c.args.width c.requires.aligned (sym c.requires.target ∙ c.in-Console.is)

pub returns-in-Nothing : goal.returns-in-Nothing
returns-in-Nothing g c = nothing_given g.W.SwapStore c.args.self.now c.requires.sound c.args.pid c.args.va c.args.access
    (ap is_given_target (sym c.requires.target) ∙ c.requires.given) (sym c.requires.target ∙ c.in-Nothing.is)
