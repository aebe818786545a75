-- Pages that are made where none was, of zeros or the console: no byte is changed.
use Rattle.ledger_model.proofs.PlaceLemmas.{same_place-true}
use Rattle.std.proofs.Common.{◌≡◌, ℕ, Bool, true, false, Option, Some, None, refl, sym, ap, ◌∙◌, inl, inr, ◌⊎◌, subst}
use Rattle.std.specs.Prelude.{if◌then◌else◌}
use Rattle.std.proofs.lemmas.Option.{none-some, same_Some}
use Rattle.xk_base.specs.declared.ids.Place.{Place}
use Rattle.xk_base.specs.declared.pages.Right.{Right}
use Rattle.ledger_model.specs.Ledger.{Ledger, Bytes, Console, Page, PageName, Homed, Orphaned}
use Rattle.ledger_model.specs.Places.{in_run, same_place}
use Rattle.ledger_model.specs.Steps.{make, make_console, new_page, zero_page}
use Rattle.machine_model.specs.Runs.Isolation.{IsNewPage, IsOldPage}
use Rattle.confidentiality_laws.specs.EmptyPlaces.{MovesToEmptyPlaces}

module _ (l : Ledger) (places : Place → Bool) (new : Page) (is_new : IsNewPage new)
    (free : (p : Place) → places p ≡ true → l.home p ≡ None) where
  abbrev made : Ledger
  made = record l { home = λ p. if places p then Some new else l.home p }

  -- a page comes from itself, but for the new ones
  abbrev source : PageName → Option PageName
  source (Homed p) = if places p then None else Some (Homed p)
  source (Orphaned q) = Some (Orphaned q)

  source_is : (name old : PageName) → source name ≡ Some old → name ≡ old
  source_is (Homed p) old e = go (places p) e
    where
      go : (b : Bool) → (if b then None else Some (Homed p)) ≡ Some old → Homed p ≡ old
      go true q = absurd (none-some old q)
      go false q = same_Some (Homed p) old q
  source_is (Orphaned q) old e = same_Some (Orphaned q) old e

  abbrev New : Place → Page → Type 0
  New p page = (source (Homed p) ≡ None) × (l.home p ≡ None) × IsNewPage page

  abbrev Old : Place → Page → Type 0
  Old p page = (home : Place) × (source (Homed p) ≡ Some (Homed home)) × IsOldPage l made home p page

  home_kept : (p : Place) (page : Page) → made.home p ≡ Some page → New p page ⊎ Old p page
  home_kept p page e = go (places p) refl e
    where
      go : (b : Bool) → places p ≡ b → (if b then Some new else l.home p) ≡ Some page → New p page ⊎ Old p page
      go true q r =
          inl (ap (λ b. if b then None else Some (Homed p)) q, free p q, subst IsNewPage (same_Some new page r) is_new)
      go false q r =
          inr (p, ap (λ b. if b then None else Some (Homed p)) q, record { old = page; stood = r; same = refl; moved = inl refl })

  -- where a page stood none is made
  stays_itself : (p : Place) (old : Page) → l.home p ≡ Some old → (b : Bool) → places p ≡ b → source (Homed p) ≡ Some (Homed p)
  stays_itself p old e true q = absurd (none-some old (sym (free p q) ∙ e))
  stays_itself p old e false q = ap (λ b. if b then None else Some (Homed p)) q

  pub made_keeps : MovesToEmptyPlaces l made
  made_keeps = record {
    bytes = record {
      from = source;
      one_to_one = λ a b old e f. source_is a old e ∙ sym (source_is b old f);
      homes = home_kept;
      orphans = λ q orphan e. inl (refl, e);
    };
    standing = λ p old e. inr (stays_itself p old e (places p) refl);
  }

pub make_keeps : (first : Place) (n : ℕ) (right : Right) (l : Ledger)
    → ((p : Place) → in_run first n p ≡ true → l.home p ≡ None)
    → MovesToEmptyPlaces l (make first n right l)
unfolding make
make_keeps first n right l free = made_keeps l (in_run first n) (new_page right (Bytes zero_page)) (inl refl) free

pub make_console_keeps : (place : Place) (w : Bool) (l : Ledger) → l.home place ≡ None
    → MovesToEmptyPlaces l (make_console place w l)
unfolding make_console
make_console_keeps place w l free =
    made_keeps l (λ p. same_place p place) (new_page (record { w = w; x = false }) Console) (inr refl)
    (λ p e. ap l.home (same_place-true p place e) ∙ free)
