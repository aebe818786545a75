-- Registers, pcs and bytes of own pages are inside.
use Rattle.std.proofs.Common.{◌≡◌, ℕ, Bool, true, false, List, Some, None, refl, sym, ap, ◌∙◌}
use Rattle.std.specs.Prelude.{not}
use Rattle.std.proofs.lemmas.Bool.{false≢true}
use Rattle.xk_base.specs.declared.ids.Place.{Place}
use Rattle.ledger_model.specs.Ledger.{Homed, Page, PageName, contents_of}
use Rattle.ledger_model.specs.Steps.{write}
use Rattle.ledger_model.proofs.ReachingLemmas.{write_others}
use Rattle.ledger_model.proofs.Stepping.WritingLemmas.{write_bare}
use Rattle.machine_model.specs.State.Machine.{Machine}
use Rattle.machine_model.specs.State.Threads.{with_registers}
use Rattle.noninterference_laws.proofs.InstructionLemmas.{same_page, same_page_at, same_page_true}
use Rattle.noninterference_laws.specs.Inside.{Group, InsideIsThere, IsSeenByOther, outside}
use Rattle.noninterference_laws.proofs.Seeing.ShownLemmas.{seen_shows, shows_home, shows_page}
use Rattle.noninterference_laws.proofs.Veiling.VeilLemmas.{own_change}

module _ (group : Group) (m : Machine) (home : Place) (page : Page) (offset : ℕ) (bytes : List ℕ) (own : group home.pid.0 ≡ true)
    (there : m.ledger.home home ≡ Some page) (unlent : page.loan ≡ None) where
  -- nobody else can load the page
  unseen : IsSeenByOther group m (Homed home) → ⊥
  unseen seen =
      false≢true
      (sym (ap (shows_page group home) there ∙ (ap (shows_home group home) unlent ∙ ap not own)) ∙ seen_shows group m (Homed home) seen)

  others_hold : (name : PageName) → IsSeenByOther group m name
      → contents_of m.ledger name ≡ contents_of (write (Homed home) offset bytes m.ledger) name
  others_hold name seen = go (same_page name (Homed home)) refl
    where
      moved : (x : PageName) → name ≡ x → IsSeenByOther group m x
      moved x e = record { place = seen.place; other = seen.other; reached = seen.reached ∙ ap (λ k. Some k) e }

      go : (b : Bool) → same_page name (Homed home) ≡ b
          → contents_of m.ledger name ≡ contents_of (write (Homed home) offset bytes m.ledger) name
      go true q = absurd (unseen (moved (Homed home) (same_page_true name (Homed home) q)))
      go false q =
          sym (write_others (Homed home) name offset bytes m.ledger (λ same. false≢true (sym q ∙ same_page_at name (Homed home) same)))

pub inside_there : InsideIsThere
inside_there = record {
  registers = λ group m who regs pc own. record {
    outside = λ i. record (outside group m) { threads = sym (own_change group (with_registers regs pc) (λ t. refl) m.threads who own) i };
    seen = λ page seen. refl;
  };
  bytes = λ group m home page offset bytes own there unlent. record {
    outside = λ i. record (outside group m) { ledger = sym (write_bare (Homed home) offset bytes m.ledger) i };
    seen = others_hold group m home page offset bytes own there unlent;
  };
}
