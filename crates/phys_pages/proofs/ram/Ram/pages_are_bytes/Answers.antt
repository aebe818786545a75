use Rattle.std.proofs.Common.{◌<◌, List, ℕ, ap, subst, ◌∙◌}
use Rattle.std.specs.List.{All}
use Rattle.phys_pages.specs.Ram.{RamBytes}
use Rattle.phys_pages.proofs.PageLemmas.{All-pages}
use Rattle.phys_pages.proofs.ram.Ram.pages_are_bytes.Goals as goal

pub returns : goal.returns
returns c = All-pages (λ b. b < 256) c.args.self.now
    (subst (λ (bytes : List ℕ). All (λ b. b < 256) bytes) (c.as_slice.ensures.value ∙ ap (λ (r : RamBytes). r.bytes) c.self.view_is) c.are_bytes.ensures)
