-- Whether a process that isn't of a group can load a page, by the page's home and its loan.
use Rattle.std.proofs.Common.{◌≡◌, Bool, ◌||◌, true, false, ◌⊎◌, inl, inr, Option, Some, None, refl, ap, ◌∙◌}
use Rattle.std.specs.Prelude.{if◌then◌else◌, not}
use Rattle.std.proofs.lemmas.Bool.{false≢true}
use Rattle.std.proofs.lemmas.Option.{none-some}
use Rattle.xk_base.specs.declared.ids.Place.{Place}
use Rattle.xk_base.specs.declared.pages.Access.TheVariants.{Load}
use Rattle.xk_base.specs.declared.pages.LoanKind.{LoanKind}
use Rattle.xk_base.specs.declared.pages.LoanKind.TheVariants.{Exclusive, Shared}
use Rattle.xk_base.specs.declared.pages.Right.{Right}
use Rattle.ledger_model.specs.Lawful.{IsLawful}
use Rattle.ledger_model.specs.Ledger.{Homed, Ledger, Orphan, Orphaned, Page, PageLoan, PageName, loan_at, loan_of}
use Rattle.ledger_model.specs.Reach.{holder_may, home_may, lender_may}
use Rattle.ledger_model.proofs.ReachingLemmas.{reach-holder, reach-home, reach-orphan}
use Rattle.machine_model.specs.State.Machine.{Machine}
use Rattle.noninterference_laws.proofs.ReachedPageLemmas.{AtHolder, AtHome, AtOrphan, ReachedAs, reached_as}
use Rattle.noninterference_laws.specs.Inside.{Group, IsSeenByOther}

abbrev pub shows_lent : Group → LoanKind → Place → Place → Bool
shows_lent group Shared home holder = not (group home.pid.0) || not (group holder.pid.0)
shows_lent group Exclusive home holder = not (group holder.pid.0)

abbrev pub shows_home : Group → Place → Option PageLoan → Bool
shows_home group home None = not (group home.pid.0)
shows_home group home (Some loan) = shows_lent group loan.kind home loan.holder

abbrev pub shows_page : Group → Place → Option Page → Bool
shows_page group home None = false
shows_page group home (Some page) = shows_home group home page.loan

abbrev pub shows_orphan : Group → Place → Option Orphan → Bool
shows_orphan group place None = false
shows_orphan group place (Some orphan) = not (group place.pid.0)

abbrev pub shows : Group → Ledger → PageName → Bool
shows group ledger (Homed p) = shows_page group p (ledger.home p)
shows group ledger (Orphaned p) = shows_orphan group p (ledger.orphan p)

or_true : (b : Bool) → (b || true) ≡ true
or_true true = refl
or_true false = refl

pub holder_shows : (group : Group) (kind : LoanKind) (home holder : Place) → group holder.pid.0 ≡ false
    → shows_lent group kind home holder ≡ true
holder_shows group Shared home holder other =
    ap (λ b. not (group home.pid.0) || not b) other ∙ or_true (not (group home.pid.0))
holder_shows group Exclusive home holder other = ap not other

-- a page on loan to a holder of another shows
pub loan_shows : (group : Group) (home : Place) (o : Option Page) (loan : PageLoan) → loan_of o ≡ Some loan
    → group loan.holder.pid.0 ≡ false → shows_page group home o ≡ true
loan_shows group home None loan e other = absurd (none-some loan e)
loan_shows group home (Some page) loan e other = ap (shows_home group home) e ∙ holder_shows group loan.kind home loan.holder other

-- ---- what is seen shows

module _ (group : Group) where
  lender_shows : (right : Right) (kind : LoanKind) (home holder : Place) → lender_may kind right Load ≡ true → group home.pid.0 ≡ false
      → shows_lent group kind home holder ≡ true
  lender_shows right Shared home holder may other = ap (λ b. not b || not (group holder.pid.0)) other
  lender_shows right Exclusive home holder may other = absurd (false≢true may)

  home_shows : (right : Right) (home : Place) (o : Option PageLoan) → home_may right o Load ≡ true → group home.pid.0 ≡ false
      → shows_home group home o ≡ true
  home_shows right home None may other = ap not other
  home_shows right home (Some loan) may other = lender_shows right loan.kind home loan.holder may other

  reached_shows : (l : Ledger) (place : Place) (name : PageName) → group place.pid.0 ≡ false → ReachedAs l place Load name
      → shows group l name ≡ true
  reached_shows l place name other (AtHome page there is may) =
      ap (shows group l) is ∙ (ap (shows_page group place) there ∙ home_shows page.right place page.loan may other)
  reached_shows l place name other (AtHolder home loan lent held is may) =
      ap (shows group l) is ∙ loan_shows group home (l.home home) loan lent (ap (λ (p : Place). group p.pid.0) held ∙ other)
  reached_shows l place name other (AtOrphan orphan there is may) =
      ap (shows group l) is ∙ (ap (shows_orphan group place) there ∙ ap not other)

  pub seen_shows : (m : Machine) (page : PageName) → IsSeenByOther group m page → shows group m.ledger page ≡ true
  seen_shows m page seen =
      reached_shows m.ledger seen.place page seen.other (reached_as m.processes m.ledger seen.place Load page seen.reached)

  -- ---- what shows is seen

  not_true : (b : Bool) → not b ≡ true → b ≡ false
  not_true false e = refl
  not_true true e = absurd (false≢true e)

  module _ (m : Machine) (lawful : IsLawful m.processes m.capacity m.ledger) where
    by_home : (p : Place) (page : Page) → m.ledger.home p ≡ Some page → home_may page.right page.loan Load ≡ true → not (group p.pid.0) ≡ true
        → IsSeenByOther group m (Homed p)
    by_home p page there may other = record {
      place = p;
      other = not_true (group p.pid.0) other;
      reached = reach-home m.processes m.ledger p page Load there ∙ ap (λ b. if b then Some (Homed p) else None) may;
    }

    loads : (kind : LoanKind) → holder_may kind Load ≡ true
    loads Shared = refl
    loads Exclusive = refl

    by_holder : (p : Place) (loan : PageLoan) → loan_at m.ledger p ≡ Some loan → not (group loan.holder.pid.0) ≡ true
        → IsSeenByOther group m (Homed p)
    by_holder p loan lent other = record {
      place = loan.holder;
      other = not_true (group loan.holder.pid.0) other;
      reached =
          reach-holder m.processes m.capacity m.ledger p loan Load lawful lent
          ∙ ap (λ b. if b then Some (Homed p) else None) (loads loan.kind);
    }

    either : (a b : Bool) → (a || b) ≡ true → (a ≡ true) ⊎ (b ≡ true)
    either true b e = inl refl
    either false b e = inr e

    of_loan : (p : Place) (page : Page) (loan : PageLoan) → m.ledger.home p ≡ Some page → page.loan ≡ Some loan → (kind : LoanKind)
        → loan.kind ≡ kind → shows_lent group kind p loan.holder ≡ true → IsSeenByOther group m (Homed p)
    of_loan p page loan there lent Shared is s = elim (either (not (group p.pid.0)) (not (group loan.holder.pid.0)) s) [
      | inl own ↦
          by_home p page there
          (ap (λ o. home_may page.right o Load) lent ∙ ap (λ k. lender_may k page.right Load) is) own
      | inr held ↦ by_holder p loan (ap loan_of there ∙ lent) held
    ]
    of_loan p page loan there lent Exclusive is s = by_holder p loan (ap loan_of there ∙ lent) s

    of_page : (p : Place) (page : Page) → m.ledger.home p ≡ Some page → (o : Option PageLoan) → page.loan ≡ o
        → shows_home group p o ≡ true → IsSeenByOther group m (Homed p)
    of_page p page there None lent s = by_home p page there (ap (λ o. home_may page.right o Load) lent) s
    of_page p page there (Some loan) lent s = of_loan p page loan there lent loan.kind refl s

    pub shows_seen : (page : PageName) → shows group m.ledger page ≡ true → IsSeenByOther group m page
    shows_seen (Homed p) s = go (m.ledger.home p) refl s
      where
        go : (o : Option Page) → m.ledger.home p ≡ o → shows_page group p o ≡ true → IsSeenByOther group m (Homed p)
        go None there r = absurd (false≢true r)
        go (Some page) there r = of_page p page there page.loan refl r
    shows_seen (Orphaned p) s = go (m.ledger.orphan p) refl s
      where
        go : (o : Option Orphan) → m.ledger.orphan p ≡ o → shows_orphan group p o ≡ true → IsSeenByOther group m (Orphaned p)
        go None there r = absurd (false≢true r)
        go (Some orphan) there r = record {
          place = p;
          other = not_true (group p.pid.0) r;
          reached =
              reach-orphan m.processes m.capacity m.ledger p orphan Load lawful there
              ∙ ap (λ b. if b then Some (Orphaned p) else None) (loads orphan.kind);
        }
