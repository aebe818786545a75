use Rattle.std.proofs.Common.{ap, ◌∙◌, length}
use Rattle.ledger_model.specs.Ledger.{Bytes}
use Rattle.ledger_model.specs.Steps.{new_page}
use Rattle.sv32_space.specs.PageSteps.{place_page}
use Rattle.vm_memory.specs.Memory.{ledger}
use Rattle.vm_memory.proofs.Booting.PlacedPageLemmas.{made_frame, filled_sound, filled_size, filled_ledger, length-page_bytes}
use Rattle.vm_memory.proofs.memory.Memory.place_in.Goals as goal

pub page_mut-requires : goal.page_mut-requires
page_mut-requires g c =
    let there = made_frame g.W.SwapStore c.args.self.now c.place_page.new.self c.place_page.ensures.sound c.args.at c.args.page.now.right c.args.f
    c.place_page.ensures.ledger c.place_page.ensures.owners in
    there.inside

pub returns-clause-sound : goal.returns-clause-sound
returns-clause-sound g c = filled_sound g.W.SwapStore c.args.self.now c.place_page.new.self c.place_page.ensures.sound c.args.at c.args.page.now.right c.args.f
    c.place_page.ensures.ledger c.place_page.ensures.owners c.fill.new.page (ap length c.fill.ensures ∙ length-page_bytes c.args.file.now c.args.page.now)

pub returns-clause-ledger : goal.returns-clause-ledger
returns-clause-ledger g c = filled_ledger g.W.SwapStore c.args.self.now c.place_page.new.self c.place_page.ensures.sound c.args.at c.args.page.now.right c.args.f
    c.place_page.ensures.ledger c.place_page.ensures.owners c.fill.new.page (ap length c.fill.ensures ∙ length-page_bytes c.args.file.now c.args.page.now)
    ∙ ap (λ b. place_page c.args.at (new_page c.args.page.now.right (Bytes b)) (ledger g.W.SwapStore.held c.args.self.now)) c.fill.ensures

pub returns-clause-rest : goal.returns-clause-rest
returns-clause-rest g c = record {
  size = filled_size g.W.SwapStore c.args.self.now c.place_page.new.self c.place_page.ensures.sound c.args.at c.args.page.now.right c.args.f
      c.place_page.ensures.ledger c.place_page.ensures.owners c.fill.new.page (ap length c.fill.ensures ∙ length-page_bytes c.args.file.now c.args.page.now) ∙ c.place_page.ensures.rest.size;
  store = c.place_page.ensures.rest.store;
  failed = c.place_page.ensures.rest.failed;
  slots = c.place_page.ensures.rest.slots;
}
