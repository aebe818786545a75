use Rattle.std.proofs.Common.{rules, refl}
use Rattle.vm_memory.proofs.Changing.ConsoleStepLemmas.{console_made_step}
use Rattle.vm_memory.proofs.memory.Memory.place_console.Goals as goal

pub returns : goal.returns
returns g c =
    let step = console_made_step g.W.SwapStore c.args.self.now c.requires.sound c.args.at c.set_entry.new.ram c.args.w
    c.requires.can
    (record { entries = c.set_entry.ensures.entries; pages = c.set_entry.ensures.pages; made = c.set_entry.ensures.made; area = c.set_entry.ensures.area }) in
    record { sound = step.sound; ledger = step.ledger; rest = record { size = search rules; store = refl; failed = refl; slots = λ s free. free }; seats = λ s free. free }
