use Rattle.std.proofs.Common.{◌≡◌, List, ℕ, length, Some, refl, sym, ap, ◌∙◌}
use Rattle.ledger_model.specs.Ledger.{Bytes}
use Rattle.phys_pages.specs.Ram.{pages, with_page}
use Rattle.xk_base.specs.declared.pages.Access.TheVariants.{Store}
use Rattle.vm_memory.specs.Bytes.{none_out}
use Rattle.vm_memory.specs.Loaning.Lending.{with_bytes_at}
use Rattle.vm_memory.proofs.Bytes.PageWriteLemmas.{near_entry, lent_sound, lent_ledger, lent_size}
use Rattle.vm_memory.proofs.Using.ReachedLemmas.{near_contents}
use Rattle.vm_memory.proofs.Changing.SoundMemoryLemmas.{sound-tied}
use Rattle.vm_memory.proofs.memory.Memory.bytes_mut.Goals as goal

lends : (g : _) (c : goal.After-page_mut g) (w : List ℕ)
    → record c.args.self.now { ram = with_page c.args.self.now.ram c.frame-f.result.0 w } ≡ with_bytes_at c.args.self.now c.args.at w
unfolding with_bytes_at none_out
lends g c w = ap (λ f. record c.args.self.now { ram = with_page c.args.self.now.ram f w }) c.frame-f.ensures.named

pub returns : goal.returns
unfolding with_bytes_at none_out
returns g c =
    let m = c.args.self.now in
    let there = near_entry c.args.self.now c.args.at c.requires.near in
    let sound : (w : List ℕ) → length w ≡ 4096 → _ = λ w whole. lent_sound g.W.SwapStore c.args.self.now c.requires.sound c.args.at there.0 there.1 there.2 w whole in (
      (refl, λ w. lends g c w),
      record {
        lends = tt;
        value = near_contents g.W.SwapStore c.args.self.now c.requires.sound c.args.at Store c.requires.near c.requires.may
            ∙ sym (ap (λ f. Some (Bytes (pages c.args.self.now.ram f))) c.frame-f.ensures.named)
            ∙ ap (λ b. Some (Bytes b)) (sym c.page_mut.ensures.value);
        len = c.page_mut.ensures.len;
        writes = λ w whole. lent_ledger g.W.SwapStore c.args.self.now c.requires.sound c.args.at there.0 there.1 there.2 w Store c.requires.may whole;
        sound = sound;
        tie = λ w whole. sound-tied g.W.SwapStore (with_bytes_at c.args.self.now c.args.at w) (sound w whole);
        size = λ w. lent_size c.args.self.now c.args.at w;
        store = λ w. refl;
        usable = λ w. c.requires.usable;
        none = λ w. refl;
        no_more = λ w. refl;
        means = λ w h. h;
      },
    )
