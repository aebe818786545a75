use Rattle.std.proofs.Common.{◌≡◌, ap, arith, rules, sym, ◌∙◌, List, ℕ}
use Rattle.xk_ports.specs.Pages.{PagesState, contents_of}
use Rattle.xk_ports.specs.PagesView.{all_bytes, bytes_in}
use Rattle.xk_ports.specs.Store.{with_page}
use Rattle.xk_ports.proofs.PageLemmas.{contents_of-put}
use Rattle.xk_ports.proofs.pages.Pages.put.Goals as goal

-- src/pages.rt
pub returns : goal.returns
returns c =
    let slots : ℕ = c.self.inside.slots in
    let kept = rw c.in-Some.is at c.self.invariant.0 in
    let slots_are : slots ≡ c.args.self.now.slots = search rules in
    let bytes_are : all_bytes c.in-Some.bytes.items slots ≡ c.args.self.now.bytes =
    ap (λ kept. all_bytes (bytes_in kept) slots) (sym c.in-Some.is) ∙ ap (λ (pages : PagesState). pages.bytes) c.self.view_is in
    record {
      contents = contents_of-put c.in-Some.bytes.items c.fill_up_to.new.bytes.items c.write_at.new.bytes.items c.args.page.now slots c.args.s.0
          c.fill_up_to.ensures.items c.write_at.ensures.items c.requires.whole (omega (arith, c.requires.slot, slots_are)) kept.within
          ∙ ap (λ (bytes : List ℕ). with_page (contents_of bytes) c.args.s.0 c.args.page.now) bytes_are;
      slots = search rules;
      asked = search rules;
    }
