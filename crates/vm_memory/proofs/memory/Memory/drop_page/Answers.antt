use Rattle.std.proofs.Common.{rules, refl, sym, ap, ◌∙◌, arith}
use Rattle.phys_pages.specs.Owners.{infos}
use Rattle.phys_pages.specs.declared.infos.Seat.TheVariants.{Slot}
use Rattle.vm_memory.proofs.Changing.ConsoleStepLemmas.{console_gone_step}
use Rattle.vm_memory.proofs.Changing.PageStepLemmas.{page_entry, console_entry, own_seat, some_page, gone_step, nothing_gone, seat_freed}
use Rattle.vm_memory.specs.Memory.{processes}
use Rattle.sv32_space.specs.SpelledEntries.{entries}
use Rattle.vm_memory.proofs.memory.Memory.drop_page.Goals as goal

pub set-requires : goal.set-requires
set-requires g c = own_seat g.W.SwapStore c.args.self.now c.requires.sound c.args.at c.in-Page.field-0 c.in-Page.seat
    (page_entry (entries (processes c.args.self.now) c.args.self.now.ram c.args.at) c.in-Page.field-0 c.in-Page.seat (sym c.owned.ensures ∙ c.in-Page.is))

pub overflow_sub-self : goal.overflow_sub-self
overflow_sub-self g c = some_page g.W.SwapStore c.args.self.now c.requires.sound c.args.at c.in-Page.field-0 c.in-Page.seat
    (page_entry (entries (processes c.args.self.now) c.args.self.now.ram c.args.at) c.in-Page.field-0 c.in-Page.seat (sym c.owned.ensures ∙ c.in-Page.is))

pub returns-in-Nothing-clause-ledger : goal.returns-in-Nothing-clause-ledger
returns-in-Nothing-clause-ledger g c = nothing_gone g.W.SwapStore c.args.self.now c.requires.sound c.args.at c.requires.not_lent
    (sym c.owned.ensures ∙ c.in-Nothing.is)

pub returns-in-Page : goal.returns-in-Page
returns-in-Page g c =
    let step = gone_step g.W.SwapStore c.args.self.now c.requires.sound c.args.at c.set_entry.new.ram c.set.new.self
    c.hand_left-self.result c.in-Page.field-0 c.in-Page.seat
    (page_entry (entries (processes c.args.self.now) c.args.self.now.ram c.args.at) c.in-Page.field-0 c.in-Page.seat (sym c.owned.ensures ∙ c.in-Page.is))
    (record { entries = c.set_entry.ensures.entries; pages = c.set_entry.ensures.pages; made = c.set_entry.ensures.made; area = c.set_entry.ensures.area })
    c.set.ensures.infos c.set.ensures.extent
    (λ over. c.hand_left-self.ensures.anew (omega arith) (omega (arith, over, c.page_frames-frames.ensures))) in
    record {
      sound = step.sound;
      ledger = step.ledger;
      rest = record {
        size = search rules;
        store = refl;
        failed = refl;
        slots = λ s free. ap (λ I. I (Slot s)) c.set.ensures.infos ∙ seat_freed (infos c.args.self.now.owners) c.in-Page.seat (Slot s) free;
      };
      seats = λ s free. ap (λ I. I s) c.set.ensures.infos ∙ seat_freed (infos c.args.self.now.owners) c.in-Page.seat s free;
    }

pub returns-in-Console : goal.returns-in-Console
returns-in-Console g c =
    let step = console_gone_step g.W.SwapStore c.args.self.now c.requires.sound c.args.at c.set_entry-in-Console.new.ram
    c.in-Console.field-0
    (console_entry (entries (processes c.args.self.now) c.args.self.now.ram c.args.at) c.in-Console.field-0 (sym c.owned.ensures ∙ c.in-Console.is))
    (record { entries = c.set_entry-in-Console.ensures.entries; pages = c.set_entry-in-Console.ensures.pages; made = c.set_entry-in-Console.ensures.made; area = c.set_entry-in-Console.ensures.area }) in
    record { sound = step.sound; ledger = step.ledger; rest = record { size = search rules; store = refl; failed = refl; slots = λ s free. free }; seats = λ s free. free }
