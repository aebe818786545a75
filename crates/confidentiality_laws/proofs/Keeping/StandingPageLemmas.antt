-- Pages that stand where they stood, with their bytes, or go: nothing is new, and nothing moves.
use Rattle.std.proofs.Common.{◌≡◌, true, false, Some, refl, sym, ap, ◌∙◌, inl, inr, Bool}
use Rattle.std.proofs.lemmas.Bool.{false≢true}
use Rattle.std.proofs.lemmas.Option.{same_Some}
use Rattle.xk_base.specs.declared.ids.Place.{Place}
use Rattle.ledger_model.specs.Ledger.{Ledger, Page, Orphan, PageName, Homed, Orphaned}
use Rattle.confidentiality_laws.specs.EmptyPlaces.{MovesToEmptyPlaces}

-- ---- names of pages

is_homed : PageName → Bool
is_homed (Homed p) = true
is_homed (Orphaned p) = false

place_named : PageName → Place
place_named (Homed p) = p
place_named (Orphaned p) = p

pub homed_once : (p q : Place) → Homed p ≡ Homed q → p ≡ q
unfolding place_named
homed_once p q e = ap place_named e

pub not_both : (p q : Place) → Homed p ≡ Orphaned q → ⊥
unfolding is_homed
not_both p q e = false≢true (sym (ap is_homed e))

-- ---- what stood

-- a page stood there with the same bytes
pub record StoodAt (before : Ledger) (p : Place) (page : Page) : Type 0 where
  pub old : Page
  pub stood : before.home p ≡ Some old
  pub same : page.contents ≡ old.contents

-- each page that stands stood there before
pub record OnlyGoes (before after : Ledger) : Type 0 where
  pub homes : (p : Place) (page : Page) → after.home p ≡ Some page → StoodAt before p page
  pub orphans : (q : Place) (orphan : Orphan) → after.orphan q ≡ Some orphan → before.orphan q ≡ Some orphan

-- .. and then no byte is changed and no page moves, since each comes from itself
pub goes_keep : (before after : Ledger) → OnlyGoes before after → MovesToEmptyPlaces before after
goes_keep before after only = record {
  bytes = record {
    from = λ name. Some name;
    one_to_one = λ a b old e f. same_Some a old e ∙ sym (same_Some b old f);
    homes = λ p page e.
        let was = only.homes p page e in
        inr (p, refl, record { old = was.old; stood = was.stood; same = was.same; moved = inl refl });
    orphans = λ q orphan e. inl (refl, only.orphans q orphan e);
  };
  standing = λ p old e. inr refl;
}

pub stays : (l : Ledger) → MovesToEmptyPlaces l l
stays l =
    goes_keep l l (record { homes = λ p page e. record { old = page; stood = e; same = refl }; orphans = λ q orphan e. e })
