use Rattle.std.proofs.Common.{sym, ap, ◌∙◌, Some}
use Rattle.ledger_model.specs.Ledger.{Bytes}
use Rattle.phys_pages.specs.Ram.{pages}
use Rattle.xk_base.specs.declared.pages.Access.TheVariants.{Load}
use Rattle.vm_memory.proofs.Using.ReachedLemmas.{near_contents}
use Rattle.vm_memory.proofs.memory.Memory.bytes.Goals as goal

pub returns-clause-value : goal.returns-clause-value
returns-clause-value g c =
    near_contents g.W.SwapStore c.args.self.now c.requires.sound c.args.at Load c.requires.near c.requires.may
    ∙ sym (ap (λ f. Some (Bytes (pages c.args.self.now.ram f))) c.frame.ensures.named)
    ∙ ap (λ b. Some (Bytes b)) (sym c.page.ensures.value)
