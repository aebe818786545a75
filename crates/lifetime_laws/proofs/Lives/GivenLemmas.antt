-- A run of pages that moves to where no page stood: each is the page of one new home, with all that it has.
use Rattle.std.proofs.Common.{◌≡◌, ◌⊎◌, ℕ, Bool, true, false, Option, Some, None, refl, sym, ap, ◌∙◌, inl, is_some, subst}
use Rattle.std.specs.Prelude.{if◌then◌else◌}
use Rattle.std.proofs.lemmas.Bool.{false≢true}
use Rattle.std.proofs.lemmas.Option.{none-some}
use Rattle.xk_base.specs.declared.ids.Number.{Number}
use Rattle.xk_base.specs.declared.ids.Place.{Place}
use Rattle.xk_base.specs.declared.messages.MsgKind.TheVariants.{Move}
use Rattle.ledger_model.specs.Ledger.{Homed, Ledger, Orphan, Orphaned, Page, PageName}
use Rattle.ledger_model.specs.Places.{in_run, moved}
use Rattle.ledger_model.specs.Steps.{give}
use Rattle.ledger_model.proofs.PlaceLemmas.{in_run-true, moved-back, moved-in_run}
use Rattle.ledger_model.proofs.Stepping.GivingLemmas.{give_inside, give_left, give_orphan, give_outside}
use Rattle.machine_model.specs.Runs.Moments.{Moment}
use Rattle.machine_model.specs.State.Machine.{Machine}
use Rattle.lifetime_laws.specs.Causes.{IsSentBy}
use Rattle.lifetime_laws.specs.Deeds.{Allocated, Moved, Moving, Nothing, Released, Stays, StaysOrphan, stands}
use Rattle.lifetime_laws.specs.Lives.{LivesThrough, PagesLive}
use Rattle.lifetime_laws.specs.Tracing.{AreOne}

module _ (m : Machine) (moment : Moment) (from : Place) (n : ℕ) (to : Place) (number : Number) (is : moment.machine.ledger ≡ give from n to m.ledger)
    (free : (p : Place) → in_run to n p ≡ true → m.ledger.home p ≡ None)
    (unlent : (p : Place) (page : Page) → in_run from n p ≡ true → m.ledger.home p ≡ Some page → page.loan ≡ None)
    (sent : (p q : Place) → p.pid.0 ≡ from.pid.0 → q.pid.0 ≡ to.pid.0 → IsSentBy p.pid q.pid Move number m moment) where
  abbrev after : Ledger
  after = moment.machine.ledger

  -- a page of a new home comes from the place of the old run, and any other from its own
  abbrev back_at : Bool → Place → PageName
  back_at new p = if new then Homed (moved to from p) else Homed p

  abbrev back : PageName → Option PageName
  back (Homed p) = Some (back_at (in_run to n p) p)
  back (Orphaned q) = Some (Orphaned q)

  abbrev forth_at : Bool → Place → PageName
  forth_at old p = if old then Homed (moved from to p) else Homed p

  abbrev forth : PageName → Option PageName
  forth (Homed p) = Some (forth_at (in_run from n p) p)
  forth (Orphaned q) = Some (Orphaned q)

  abbrev Same : PageName → PageName → Type 0
  Same old new = AreOne back forth (LivesThrough m moment) old new

  home_now : (p : Place) → after.home p ≡ (give from n to m.ledger).home p
  home_now p = ap (λ (l : Ledger). l.home p) is

  orphan_now : (q : Place) → after.orphan q ≡ m.ledger.orphan q
  orphan_now q = ap (λ (l : Ledger). l.orphan q) is ∙ give_orphan from n to m.ledger q

  -- where a page stands is no new home
  not_new : (p : Place) (page : Page) → m.ledger.home p ≡ Some page → in_run to n p ≡ false
  not_new p page there = go (in_run to n p) refl
    where
      go : (b : Bool) → in_run to n p ≡ b → b ≡ false
      go true e = absurd (none-some page (sym (free p e) ∙ there))
      go false e = refl

  -- a page that moves
  new_home : (p : Place) → in_run from n p ≡ true → after.home (moved from to p) ≡ m.ledger.home p
  new_home p inside =
      home_now (moved from to p)
      ∙ (give_inside from n to m.ledger (moved from to p) (moved-in_run from to p n inside) ∙ ap m.ledger.home (moved-back from to p n inside))

  moves : (p : Place) (page : Page) → in_run from n p ≡ true → m.ledger.home p ≡ Some page → Same (Homed p) (Homed (moved from to p))
  moves p page inside there =
      let new : in_run to n (moved from to p) ≡ true = moved-in_run from to p n inside in
      record {
        back = ap (λ b. Some (back_at b (moved from to p))) new ∙ ap (λ x. Some (Homed x)) (moved-back from to p n inside);
        forth = ap (λ b. Some (forth_at b p)) inside;
        lives = (
          Moving number,
          Moved p (moved from to p) page number there (unlent p page inside there) (free (moved from to p) new) (new_home p inside ∙ there)
              (home_now p ∙ give_left from n to m.ledger p (not_new p page there) inside)
              (sent p (moved from to p) (in_run-true from n p inside).pid refl),
        );
      }

  -- a page that stays
  old_home : (p : Place) → in_run to n p ≡ false → in_run from n p ≡ false → after.home p ≡ m.ledger.home p
  old_home p a b = home_now p ∙ give_outside from n to m.ledger p a b

  stays : (p : Place) (page : Page) → in_run to n p ≡ false → in_run from n p ≡ false → m.ledger.home p ≡ Some page → Same (Homed p) (Homed p)
  stays p page a b there = record {
    back = ap (λ c. Some (back_at c p)) a;
    forth = ap (λ c. Some (forth_at c p)) b;
    lives = (Nothing, Stays p page there (old_home p a b ∙ there));
  }

  orphan_stays : (q : Place) (orphan : Orphan) → m.ledger.orphan q ≡ Some orphan → Same (Orphaned q) (Orphaned q)
  orphan_stays q orphan there = record { back = refl; forth = refl; lives = (Nothing, StaysOrphan q orphan there (orphan_now q ∙ there)) }

  abbrev Comes : PageName → Type 0
  Comes new =
      ((old : PageName) × (stands m.ledger old ≡ true) × Same old new) ⊎ ((back new ≡ None) × Allocated m moment new)

  abbrev Goes : PageName → Type 0
  Goes old =
      ((new : PageName) × (stands after new ≡ true) × Same old new) ⊎ ((forth old ≡ None) × Released m moment old)

  comes : (new : PageName) → stands after new ≡ true → Comes new
  comes (Homed p) there = go (in_run to n p) (in_run from n p) refl refl
    where
      came : in_run to n p ≡ true → (o : Option Page) → m.ledger.home (moved to from p) ≡ o → is_some o ≡ true → Comes (Homed p)
      came new None e f = absurd (false≢true f)
      came new (Some page) e f =
          inl (
            Homed (moved to from p),
            ap is_some e,
            subst (λ x. Same (Homed (moved to from p)) (Homed x)) (moved-back to from p n new)
                (moves (moved to from p) page (moved-in_run to from p n new) e),
          )

      stayed : in_run to n p ≡ false → in_run from n p ≡ false → (o : Option Page) → m.ledger.home p ≡ o → is_some o ≡ true → Comes (Homed p)
      stayed a b None e f = absurd (false≢true f)
      stayed a b (Some page) e f = inl (Homed p, ap is_some e, stays p page a b e)

      go : (a b : Bool) → in_run to n p ≡ a → in_run from n p ≡ b → Comes (Homed p)
      go true b e f =
          came e (m.ledger.home (moved to from p)) refl (sym (ap is_some (home_now p ∙ give_inside from n to m.ledger p e)) ∙ there)
      go false true e f = absurd (false≢true (sym (ap is_some (home_now p ∙ give_left from n to m.ledger p e f)) ∙ there))
      go false false e f = stayed e f (m.ledger.home p) refl (sym (ap is_some (old_home p e f)) ∙ there)
  comes (Orphaned q) there = go (m.ledger.orphan q) refl (sym (ap is_some (orphan_now q)) ∙ there)
    where
      go : (o : Option Orphan) → m.ledger.orphan q ≡ o → is_some o ≡ true → Comes (Orphaned q)
      go None e f = absurd (false≢true f)
      go (Some orphan) e f = inl (Orphaned q, ap is_some e, orphan_stays q orphan e)

  goes : (old : PageName) → stands m.ledger old ≡ true → Goes old
  goes (Homed p) there = go (m.ledger.home p) refl there
    where
      of_page : (page : Page) → m.ledger.home p ≡ Some page → (b : Bool) → in_run from n p ≡ b → Goes (Homed p)
      of_page page e true f = inl (Homed (moved from to p), ap is_some (new_home p f ∙ e), moves p page f e)
      of_page page e false f =
          let outside : in_run to n p ≡ false = not_new p page e in
          inl (Homed p, ap is_some (old_home p outside f ∙ e), stays p page outside f e)

      go : (o : Option Page) → m.ledger.home p ≡ o → is_some o ≡ true → Goes (Homed p)
      go None e f = absurd (false≢true f)
      go (Some page) e f = of_page page e (in_run from n p) refl
  goes (Orphaned q) there = go (m.ledger.orphan q) refl there
    where
      go : (o : Option Orphan) → m.ledger.orphan q ≡ o → is_some o ≡ true → Goes (Orphaned q)
      go None e f = absurd (false≢true f)
      go (Some orphan) e f = inl (Orphaned q, ap is_some (orphan_now q ∙ e), orphan_stays q orphan e)

  pub given_lives : PagesLive m moment
  given_lives = record { from = back; to = forth; comes = comes; goes = goes }
