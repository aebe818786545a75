-- What a store of an instruction does to pages: bytes of one are written, and all others stay.
use Rattle.std.proofs.Common.{◌≡◌, Bool, true, false, Option, Some, None, refl, sym, ap, ◌∙◌, is_some}
use Rattle.std.specs.Prelude.{if◌then◌else◌}
use Rattle.std.specs.Option.{option_map}
use Rattle.xk_base.specs.declared.ids.Pid.{Pid}
use Rattle.xk_base.specs.declared.ids.Place.{Place}
use Rattle.ledger_model.specs.Ledger.{Homed, Ledger, Orphan, Orphaned, Page, PageName}
use Rattle.ledger_model.specs.Places.{same_place}
use Rattle.ledger_model.specs.Steps.{write, written_orphan, written_page}
use Rattle.ledger_model.proofs.PlaceLemmas.{same_place-true}
use Rattle.machine_model.specs.Runs.Isolation.{IsOneStore}
use Rattle.machine_model.specs.Runs.LoanSpan.{IsInstructionOf}
use Rattle.machine_model.specs.Runs.Moments.{Moment}
use Rattle.machine_model.specs.State.Machine.{Machine}
use Rattle.lifetime_laws.specs.Deeds.{Stored, Storing}
use Rattle.lifetime_laws.specs.Lives.{PagesLive}
use Rattle.lifetime_laws.proofs.Lives.TurnLemmas.{Empty, Lives, Turns, home_stays, orphan_stays, turn_lives}

module _ (m : Machine) (moment : Moment) (pid : Pid) (instruction : IsInstructionOf pid m moment) (store : IsOneStore pid m moment.machine.ledger) where
  abbrev after : Ledger
  after = moment.machine.ledger

  module _ (place : Place) (e : store.page ≡ Homed place) where
    home_now : (p : Place)
        → after.home p ≡ (if same_place p place then option_map (written_page store.offset store.bytes) (m.ledger.home p) else m.ledger.home p)
    unfolding write
    home_now p = ap (λ (l : Ledger). l.home p) (store.written ∙ ap (λ name. write name store.offset store.bytes m.ledger) e)

    orphan_now : (q : Place) → after.orphan q ≡ m.ledger.orphan q
    unfolding write
    orphan_now q = ap (λ (l : Ledger). l.orphan q) (store.written ∙ ap (λ name. write name store.offset store.bytes m.ledger) e)

    page_turns : (name : PageName) → Turns m moment name
    page_turns (Homed p) = go (same_place p place) refl
      where
        written : same_place p place ≡ true → (o : Option Page) → m.ledger.home p ≡ o → Turns m moment (Homed p)
        written same None q =
            Empty (ap is_some q)
            (ap is_some (home_now p
            ∙ (ap (λ b. if b then option_map (written_page store.offset store.bytes) (m.ledger.home p) else m.ledger.home p) same
            ∙ ap (option_map (written_page store.offset store.bytes)) q)))
        written same (Some page) q =
            Lives (ap is_some q)
            (ap is_some (home_now p
            ∙ (ap (λ b. if b then option_map (written_page store.offset store.bytes) (m.ledger.home p) else m.ledger.home p) same
            ∙ ap (option_map (written_page store.offset store.bytes)) q)))
            Storing
            (Stored (Homed p) pid instruction store (e ∙ ap (λ x. Homed x) (sym (same_place-true p place same))))

        go : (b : Bool) → same_place p place ≡ b → Turns m moment (Homed p)
        go true same = written same (m.ledger.home p) refl
        go false same =
            home_stays m moment p
            (home_now p ∙ ap (λ b. if b then option_map (written_page store.offset store.bytes) (m.ledger.home p) else m.ledger.home p) same)
    page_turns (Orphaned q) = orphan_stays m moment q (orphan_now q)

  module _ (place : Place) (e : store.page ≡ Orphaned place) where
    left_home : (p : Place) → after.home p ≡ m.ledger.home p
    unfolding write
    left_home p = ap (λ (l : Ledger). l.home p) (store.written ∙ ap (λ name. write name store.offset store.bytes m.ledger) e)

    left_orphan : (q : Place)
        → after.orphan q
        ≡ (if same_place q place then option_map (written_orphan store.offset store.bytes) (m.ledger.orphan q) else m.ledger.orphan q)
    unfolding write
    left_orphan q = ap (λ (l : Ledger). l.orphan q) (store.written ∙ ap (λ name. write name store.offset store.bytes m.ledger) e)

    orphan_turns : (name : PageName) → Turns m moment name
    orphan_turns (Homed p) = home_stays m moment p (left_home p)
    orphan_turns (Orphaned q) = go (same_place q place) refl
      where
        written : same_place q place ≡ true → (o : Option Orphan) → m.ledger.orphan q ≡ o → Turns m moment (Orphaned q)
        written same None f =
            Empty (ap is_some f)
            (ap is_some (left_orphan q
            ∙ (ap (λ b. if b then option_map (written_orphan store.offset store.bytes) (m.ledger.orphan q) else m.ledger.orphan q) same
            ∙ ap (option_map (written_orphan store.offset store.bytes)) f)))
        written same (Some orphan) f =
            Lives (ap is_some f)
            (ap is_some (left_orphan q
            ∙ (ap (λ b. if b then option_map (written_orphan store.offset store.bytes) (m.ledger.orphan q) else m.ledger.orphan q) same
            ∙ ap (option_map (written_orphan store.offset store.bytes)) f)))
            Storing
            (Stored (Orphaned q) pid instruction store (e ∙ ap (λ x. Orphaned x) (sym (same_place-true q place same))))

        go : (b : Bool) → same_place q place ≡ b → Turns m moment (Orphaned q)
        go true same = written same (m.ledger.orphan q) refl
        go false same =
            orphan_stays m moment q
            (left_orphan q ∙ ap (λ b. if b then option_map (written_orphan store.offset store.bytes) (m.ledger.orphan q) else m.ledger.orphan q) same)

  pub stored_lives : PagesLive m moment
  stored_lives = go store.page refl
    where
      go : (name : PageName) → store.page ≡ name → PagesLive m moment
      go (Homed place) e = turn_lives m moment (page_turns place e)
      go (Orphaned place) e = turn_lives m moment (orphan_turns place e)
