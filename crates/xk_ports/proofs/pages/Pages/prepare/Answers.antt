use Rattle.std.proofs.Common.{[], ap, refl, rules, ◌∙◌, ℕ, length, List, arith, slice_index}
use Rattle.xk_ports.specs.PagesView.{all_bytes}
use Rattle.xk_ports.proofs.PageLemmas.{all_bytes-zero, length-all_bytes}
use Rattle.xk_ports.proofs.pages.Pages.prepare.Goals as goal

-- src/pages.rt
pub returns-clause-ok : goal.returns-clause-ok
returns-clause-ok c =
    record {
      count = refl;
      whole = ap (λ (bytes : List ℕ). length (all_bytes bytes c.args.slots)) c.in-Ok.ensures.items ∙ length-all_bytes [] c.args.slots (omega arith);
      zero = λ i. ap (λ (bytes : List ℕ). slice_index (all_bytes bytes c.args.slots) i) c.in-Ok.ensures.items ∙ all_bytes-zero c.args.slots i;
      asked = search rules;
    }
