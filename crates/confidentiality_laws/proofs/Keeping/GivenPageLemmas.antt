-- Pages that move to other homes, where no page stood, keep their bytes.
use Rattle.std.proofs.Common.{◌≡◌, ℕ, Bool, true, false, ◌⊎◌, Option, Some, None, refl, sym, ap, ◌∙◌, inl, inr}
use Rattle.std.specs.Prelude.{if◌then◌else◌}
use Rattle.std.proofs.lemmas.Bool.{false≢true}
use Rattle.std.proofs.lemmas.Option.{none-some, same_Some}
use Rattle.xk_base.specs.declared.ids.Place.{Place}
use Rattle.ledger_model.specs.Ledger.{Ledger, Page, PageName, Homed, Orphaned}
use Rattle.ledger_model.specs.Places.{in_run, moved}
use Rattle.ledger_model.specs.Steps.{give}
use Rattle.ledger_model.proofs.PlaceLemmas.{moved-apart, moved-in_run}
use Rattle.ledger_model.proofs.Stepping.GivingLemmas.{give_left}
use Rattle.machine_model.specs.Runs.Isolation.{IsNewPage, IsOldPage}
use Rattle.confidentiality_laws.specs.EmptyPlaces.{MovesToEmptyPlaces}
use Rattle.confidentiality_laws.proofs.Keeping.StandingPageLemmas.{homed_once, not_both}

module _ (from : Place) (n : ℕ) (to : Place) (l : Ledger) (free : (p : Place) → in_run to n p ≡ true → l.home p ≡ None) where
  -- a page at a new home comes from its old one, and at an old home that isn't left from itself
  abbrev source_at : Bool → Bool → Place → Option PageName
  source_at new left p = if new then Some (Homed (moved to from p)) else (if left then None else Some (Homed p))

  abbrev source : PageName → Option PageName
  source (Homed p) = source_at (in_run to n p) (in_run from n p) p
  source (Orphaned q) = Some (Orphaned q)

  -- what a home comes from
  data Came (p : Place) (old : PageName) : Type 0 where
    Moved : in_run to n p ≡ true → Homed (moved to from p) ≡ old → Came p old
    Stayed : in_run from n p ≡ false → Homed p ≡ old → Came p old

  came : (p : Place) (old : PageName) → source (Homed p) ≡ Some old → Came p old
  came p old e = go (in_run to n p) (in_run from n p) refl refl e
    where
      go : (a b : Bool) → in_run to n p ≡ a → in_run from n p ≡ b → source_at a b p ≡ Some old → Came p old
      go true b s t q = Moved s (same_Some (Homed (moved to from p)) old q)
      go false true s t q = absurd (none-some old q)
      go false false s t q = Stayed t (same_Some (Homed p) old q)

  -- the places that pages came from are all of the run that they left
  was_left : (p : Place) → in_run to n p ≡ true → in_run from n (moved to from p) ≡ true
  was_left p e = moved-in_run to from p n e

  homes_once : (p q : Place) (old : PageName) → Came p old → Came q old → p ≡ q
  homes_once p q old (Moved a e) (Moved b f) =
      moved-apart to from p q n a b (homed_once (moved to from p) (moved to from q) (e ∙ sym f))
  homes_once p q old (Moved a e) (Stayed b f) =
      absurd (false≢true (sym b ∙ (ap (in_run from n) (sym (homed_once (moved to from p) q (e ∙ sym f))) ∙ was_left p a)))
  homes_once p q old (Stayed a e) (Moved b f) =
      absurd (false≢true (sym a ∙ (ap (in_run from n) (homed_once p (moved to from q) (e ∙ sym f)) ∙ was_left q b)))
  homes_once p q old (Stayed a e) (Stayed b f) = homed_once p q (e ∙ sym f)

  no_orphan : (p q : Place) (old : PageName) → Came p old → Orphaned q ≡ old → ⊥
  no_orphan p q old (Moved a e) f = not_both (moved to from p) q (e ∙ sym f)
  no_orphan p q old (Stayed a e) f = not_both p q (e ∙ sym f)

  once : (a b old : PageName) → source a ≡ Some old → source b ≡ Some old → a ≡ b
  once (Homed p) (Homed q) old e f = ap (λ x. Homed x) (homes_once p q old (came p old e) (came q old f))
  once (Homed p) (Orphaned q) old e f = absurd (no_orphan p q old (came p old e) (same_Some (Orphaned q) old f))
  once (Orphaned p) (Homed q) old e f = absurd (no_orphan q p old (came q old f) (same_Some (Orphaned p) old e))
  once (Orphaned p) (Orphaned q) old e f = same_Some (Orphaned p) old e ∙ sym (same_Some (Orphaned q) old f)

  -- where a page stood it is no new home
  not_new : (p : Place) (page : Page) → l.home p ≡ Some page → (b : Bool) → in_run to n p ≡ b → in_run to n p ≡ false
  not_new p page e true q = absurd (none-some page (sym (free p q) ∙ e))
  not_new p page e false q = q

  abbrev New : Place → Page → Type 0
  New p page = (source (Homed p) ≡ None) × (l.home p ≡ None) × IsNewPage page

  abbrev Old : Place → Page → Type 0
  Old p page = (home : Place) × (source (Homed p) ≡ Some (Homed home)) × IsOldPage l (give from n to l) home p page

  home_kept : (p : Place) (page : Page) → (give from n to l).home p ≡ Some page → New p page ⊎ Old p page
  unfolding give
  home_kept p page e = go (in_run to n p) (in_run from n p) refl refl e
    where
      go : (a b : Bool) → in_run to n p ≡ a → in_run from n p ≡ b
          → (if a then l.home (moved to from p) else (if b then None else l.home p)) ≡ Some page → New p page ⊎ Old p page
      go true b s t q =
          let old : Place = moved to from p in
          inr (
            old,
            ap (λ a. source_at a (in_run from n p) p) s,
            record {
              old = page;
              stood = q;
              same = refl;
              moved = inr (give_left from n to l old (not_new old page q (in_run to n old) refl) (was_left p s));
            },
          )
      go false true s t q = absurd (none-some page q)
      go false false s t q =
          inr (
            p,
            ap (λ a. source_at a (in_run from n p) p) s ∙ ap (λ b. source_at false b p) t,
            record {
              old = page;
              stood = q;
              same = refl;
              moved = inl refl;
            },
          )

  -- a page that stood stays, or leaves its home: no page comes there
  stays_or_leaves : (p : Place) (old : Page) → l.home p ≡ Some old
      → ((give from n to l).home p ≡ None) ⊎ (source (Homed p) ≡ Some (Homed p))
  stays_or_leaves p old e = go (in_run from n p) refl
    where
      apart : in_run to n p ≡ false
      apart = not_new p old e (in_run to n p) refl

      go : (b : Bool) → in_run from n p ≡ b → ((give from n to l).home p ≡ None) ⊎ (source (Homed p) ≡ Some (Homed p))
      go true q = inl (give_left from n to l p apart q)
      go false q = inr (ap (λ a. source_at a (in_run from n p) p) apart ∙ ap (λ b. source_at false b p) q)

  pub give_keeps : MovesToEmptyPlaces l (give from n to l)
  unfolding give
  give_keeps = record {
    bytes = record {
      from = source;
      one_to_one = once;
      homes = home_kept;
      orphans = λ q orphan e. inl (refl, e);
    };
    standing = stays_or_leaves;
  }
