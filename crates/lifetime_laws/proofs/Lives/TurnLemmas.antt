-- Where no page goes to another name, it is enough to say of each name what becomes of what stands there.
use Rattle.std.proofs.Common.{◌≡◌, ◌⊎◌, true, false, Option, Some, None, refl, sym, ap, ◌∙◌, inl, inr, is_some}
use Rattle.std.specs.Prelude.{if◌then◌else◌}
use Rattle.std.proofs.lemmas.Bool.{false≢true}
use Rattle.xk_base.specs.declared.ids.Place.{Place}
use Rattle.ledger_model.specs.Ledger.{Homed, Ledger, Orphan, Orphaned, Page, PageName}
use Rattle.machine_model.specs.Runs.Moments.{Moment}
use Rattle.machine_model.specs.State.Machine.{Machine}
use Rattle.lifetime_laws.specs.Deeds.{Allocated, Deed, LivesOn, Nothing, Released, Stays, StaysOrphan, stands}
use Rattle.lifetime_laws.specs.Lives.{LivesThrough, PagesLive}
use Rattle.lifetime_laws.specs.Tracing.{AreOne}

-- what becomes of what stands at a name
pub data Turns (before : Machine) (moment : Moment) (name : PageName) : Type 0 where
  Empty : stands before.ledger name ≡ false → stands moment.machine.ledger name ≡ false → Turns before moment name
  Lives : stands before.ledger name ≡ true → stands moment.machine.ledger name ≡ true → (deed : Deed)
      → LivesOn before moment name deed name → Turns before moment name
  Comes : stands before.ledger name ≡ false → stands moment.machine.ledger name ≡ true → Allocated before moment name
      → Turns before moment name
  Goes : stands before.ledger name ≡ true → stands moment.machine.ledger name ≡ false → Released before moment name
      → Turns before moment name

module _ (before : Machine) (moment : Moment) where
  -- each name leads to itself, where a page stands
  abbrev back : PageName → Option PageName
  back name = if stands before.ledger name then Some name else None

  abbrev forth : PageName → Option PageName
  forth name = if stands moment.machine.ledger name then Some name else None

  itself : (name : PageName) → stands before.ledger name ≡ true → stands moment.machine.ledger name ≡ true → (deed : Deed)
      → LivesOn before moment name deed name → AreOne back forth (LivesThrough before moment) name name
  itself name e f deed lives = record {
    back = ap (λ b. if b then Some name else None) e;
    forth = ap (λ b. if b then Some name else None) f;
    lives = (deed, lives);
  }

  comes_at : (new : PageName) → stands moment.machine.ledger new ≡ true → Turns before moment new
      → ((old : PageName) × (stands before.ledger old ≡ true) × AreOne back forth (LivesThrough before moment) old new)
      ⊎ ((back new ≡ None) × Allocated before moment new)
  comes_at new there (Empty e f) = absurd (false≢true (sym f ∙ there))
  comes_at new there (Lives e f deed lives) = inl (new, e, itself new e f deed lives)
  comes_at new there (Comes e f made) = inr (ap (λ b. if b then Some new else None) e, made)
  comes_at new there (Goes e f gone) = absurd (false≢true (sym f ∙ there))

  goes_at : (old : PageName) → stands before.ledger old ≡ true → Turns before moment old
      → ((new : PageName) × (stands moment.machine.ledger new ≡ true) × AreOne back forth (LivesThrough before moment) old new)
      ⊎ ((forth old ≡ None) × Released before moment old)
  goes_at old there (Empty e f) = absurd (false≢true (sym e ∙ there))
  goes_at old there (Lives e f deed lives) = inl (old, f, itself old e f deed lives)
  goes_at old there (Comes e f made) = absurd (false≢true (sym e ∙ there))
  goes_at old there (Goes e f gone) = inr (ap (λ b. if b then Some old else None) f, gone)

  pub turn_lives : ((name : PageName) → Turns before moment name) → PagesLive before moment
  turn_lives turns = record {
    from = back;
    to = forth;
    comes = λ new there. comes_at new there (turns new);
    goes = λ old there. goes_at old there (turns old);
  }

  -- ---- what stays

  pub home_stays : (p : Place) → moment.machine.ledger.home p ≡ before.ledger.home p → Turns before moment (Homed p)
  home_stays p same = go (before.ledger.home p) refl
    where
      go : (o : Option Page) → before.ledger.home p ≡ o → Turns before moment (Homed p)
      go None e = Empty (ap is_some e) (ap is_some (same ∙ e))
      go (Some page) e = Lives (ap is_some e) (ap is_some (same ∙ e)) Nothing (Stays p page e (same ∙ e))

  pub orphan_stays : (q : Place) → moment.machine.ledger.orphan q ≡ before.ledger.orphan q → Turns before moment (Orphaned q)
  orphan_stays q same = go (before.ledger.orphan q) refl
    where
      go : (o : Option Orphan) → before.ledger.orphan q ≡ o → Turns before moment (Orphaned q)
      go None e = Empty (ap is_some e) (ap is_some (same ∙ e))
      go (Some orphan) e = Lives (ap is_some e) (ap is_some (same ∙ e)) Nothing (StaysOrphan q orphan e (same ∙ e))

  -- where the ledger stays, all does
  pub left_lives : moment.machine.ledger ≡ before.ledger → PagesLive before moment
  left_lives same = turn_lives at
    where
      at : (name : PageName) → Turns before moment name
      at (Homed p) = home_stays p (ap (λ (l : Ledger). l.home p) same)
      at (Orphaned q) = orphan_stays q (ap (λ (l : Ledger). l.orphan q) same)

  -- .. and where the orphans stay, it is enough to say it of homes
  pub homes_live : ((q : Place) → moment.machine.ledger.orphan q ≡ before.ledger.orphan q) → ((p : Place) → Turns before moment (Homed p))
      → PagesLive before moment
  homes_live orphans homes = turn_lives at
    where
      at : (name : PageName) → Turns before moment name
      at (Homed p) = homes p
      at (Orphaned q) = orphan_stays q (orphans q)
