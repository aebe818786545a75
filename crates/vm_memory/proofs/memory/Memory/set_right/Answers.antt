use Rattle.std.proofs.Common.{rules, refl, sym, ◌∙◌}
use Rattle.sv32_space.specs.declared.sides.Entry.TheVariants.{At, OnConsole}
use Rattle.sv32_space.specs.SpelledEntries.{entries}
use Rattle.sv32_space.specs.declared.sides.Side.TheVariants.{Own}
use Rattle.vm_memory.specs.Memory.{processes}
use Rattle.vm_memory.proofs.Changing.PageStepLemmas.{page_entry, console_entry, own_entry, entry_made, nothing_reduced, reduced_step}
use Rattle.vm_memory.proofs.Changing.ConsoleStepLemmas.{console_reduced_step}
use Rattle.vm_memory.proofs.memory.Memory.set_right.Goals as goal

pub set_entry-requires-clause-entry : goal.set_entry-requires-clause-entry
set_entry-requires-clause-entry g c = own_entry g.W.SwapStore c.args.self.now c.requires.sound c.args.at c.in-Page.field-0 c.args.right c.in-Page.seat
    (page_entry (entries (processes c.args.self.now) c.args.self.now.ram c.args.at) c.in-Page.field-0 c.in-Page.seat (sym c.owned.ensures ∙ c.in-Page.is))

pub set_entry-requires-clause-made : goal.set_entry-requires-clause-made
set_entry-requires-clause-made g c = entry_made g.W.SwapStore c.args.self.now c.requires.sound c.args.at (At (Own c.in-Page.field-0) c.in-Page.seat)
    (page_entry (entries (processes c.args.self.now) c.args.self.now.ram c.args.at) c.in-Page.field-0 c.in-Page.seat (sym c.owned.ensures ∙ c.in-Page.is))

pub set_entry-requires-in-Console-clause-made : goal.set_entry-requires-in-Console-clause-made
set_entry-requires-in-Console-clause-made g c = entry_made g.W.SwapStore c.args.self.now c.requires.sound c.args.at (OnConsole c.in-Console.field-0)
    (console_entry (entries (processes c.args.self.now) c.args.self.now.ram c.args.at) c.in-Console.field-0 (sym c.owned.ensures ∙ c.in-Console.is))

pub returns-in-Nothing-clause-ledger : goal.returns-in-Nothing-clause-ledger
returns-in-Nothing-clause-ledger g c = nothing_reduced g.W.SwapStore c.args.self.now c.requires.sound c.args.at c.args.right c.requires.not_lent
    (sym c.owned.ensures ∙ c.in-Nothing.is)

pub returns-in-Page : goal.returns-in-Page
returns-in-Page g c =
    let step = reduced_step g.W.SwapStore c.args.self.now c.requires.sound c.args.at c.set_entry.new.ram
    c.in-Page.field-0 c.args.right c.in-Page.seat
    (page_entry (entries (processes c.args.self.now) c.args.self.now.ram c.args.at) c.in-Page.field-0 c.in-Page.seat (sym c.owned.ensures ∙ c.in-Page.is))
    c.requires.within
    (record { entries = c.set_entry.ensures.entries; pages = c.set_entry.ensures.pages; made = c.set_entry.ensures.made; area = c.set_entry.ensures.area }) in
    record { sound = step.sound; ledger = step.ledger; rest = record { size = search rules; store = refl; failed = refl; slots = λ s free. free }; seats = λ s free. free }

pub returns-in-Console : goal.returns-in-Console
returns-in-Console g c =
    let step = console_reduced_step g.W.SwapStore c.args.self.now c.requires.sound c.args.at c.set_entry-in-Console.new.ram
    c.in-Console.field-0 c.args.right
    (console_entry (entries (processes c.args.self.now) c.args.self.now.ram c.args.at) c.in-Console.field-0 (sym c.owned.ensures ∙ c.in-Console.is))
    c.requires.within
    (record { entries = c.set_entry-in-Console.ensures.entries; pages = c.set_entry-in-Console.ensures.pages; made = c.set_entry-in-Console.ensures.made; area = c.set_entry-in-Console.ensures.area }) in
    record { sound = step.sound; ledger = step.ledger; rest = record { size = search rules; store = refl; failed = refl; slots = λ s free. free }; seats = λ s free. free }
