-- The same bytes written to a page that is the same in two ledgers make no difference.
use Rattle.std.proofs.Common.{◌≡◌, ℕ, Bool, true, false, List, Option, Some, None, refl, sym, ap, ◌∙◌, inl, inr, ◌⊎◌}
use Rattle.std.specs.Prelude.{if◌then◌else◌}
use Rattle.std.specs.Option.{option_map}
use Rattle.std.proofs.lemmas.Bool.{false≢true}
use Rattle.std.proofs.lemmas.Option.{none-some}
use Rattle.xk_base.specs.declared.ids.Place.{Place}
use Rattle.xk_base.specs.declared.pages.Access.TheVariants.{Load, Store}
use Rattle.xk_base.specs.declared.pages.LoanKind.{LoanKind}
use Rattle.xk_base.specs.declared.pages.LoanKind.TheVariants.{Shared, Exclusive}
use Rattle.xk_base.specs.declared.pages.Right.{Right}
use Rattle.ledger_model.specs.Ledger.{Ledger, Contents, Bytes, Orphan, Page, PageLoan, PageName, Homed, Orphaned, contents_of}
use Rattle.ledger_model.specs.Places.{same_place}
use Rattle.ledger_model.specs.Reach.{Role, FreePlace, HomePlace, HolderPlace, OrphanPlace, holder_may, home_may, may, page_at_role, reach, role_at, lender_may}
use Rattle.ledger_model.specs.Steps.{write, written_contents, written_orphan, written_page}
use Rattle.ledger_model.proofs.PlaceLemmas.{same_place-true}
use Rattle.confidentiality_laws.specs.Differences.{HoldsWhat, OnlyMovesDifferences}

-- ---- where a process may store it may load

holder_loads : (kind : LoanKind) → holder_may kind Store ≡ true → holder_may kind Load ≡ true
holder_loads Shared e = absurd (false≢true e)
holder_loads Exclusive e = refl

lender_loads : (kind : LoanKind) (right : Right) (loan : PageLoan) → loan.kind ≡ kind → home_may right (Some loan) Store ≡ true
    → home_may right (Some loan) Load ≡ true
lender_loads Shared right loan q e = ap (λ k. lender_may k right Load) q
lender_loads Exclusive right loan q e = absurd (false≢true (ap (λ k. lender_may k right Store) (sym q) ∙ e))

home_loads : (right : Right) (o : Option PageLoan) → home_may right o Store ≡ true → home_may right o Load ≡ true
home_loads right None e = refl
home_loads right (Some loan) e = lender_loads loan.kind right loan refl e

role_loads : (role : Role) → may role Store ≡ true → may role Load ≡ true
role_loads FreePlace e = absurd (false≢true e)
role_loads (HomePlace page) e = home_loads page.right page.loan e
role_loads (HolderPlace home loan) e = holder_loads loan.kind e
role_loads (OrphanPlace orphan) e = holder_loads orphan.kind e

pub stored_is_loaded : (procs : ℕ) (l : Ledger) (place : Place) (page : PageName) → reach procs l place Store ≡ Some page
    → reach procs l place Load ≡ Some page
unfolding reach
stored_is_loaded procs l place page e = go (may role Store) refl e
  where
    role : Role
    role = role_at procs l place

    go : (b : Bool) → may role Store ≡ b → (if b then page_at_role place role else None) ≡ Some page
        → (if may role Load then page_at_role place role else None) ≡ Some page
    go true q r = ap (λ b. if b then page_at_role place role else None) (role_loads role q) ∙ r
    go false q r = absurd (none-some page r)

-- ---- one page is written

hits : PageName → PageName → Bool
hits (Homed place) (Homed p) = same_place p place
hits (Homed place) (Orphaned p) = false
hits (Orphaned place) (Homed p) = false
hits (Orphaned place) (Orphaned p) = same_place p place

hit_is : (name page : PageName) → hits name page ≡ true → page ≡ name
unfolding hits
hit_is (Homed place) (Homed p) e = ap (λ q. Homed q) (same_place-true p place e)
hit_is (Homed place) (Orphaned p) e = absurd (false≢true e)
hit_is (Orphaned place) (Homed p) e = absurd (false≢true e)
hit_is (Orphaned place) (Orphaned p) e = ap (λ q. Orphaned q) (same_place-true p place e)

module _ (offset : ℕ) (bytes : List ℕ) where
  home_written : (b : Bool) (o : Option Page)
      → option_map (λ (x : Page). x.contents) (if b then option_map (written_page offset bytes) o else o)
      ≡ (if b then option_map (written_contents offset bytes) (option_map (λ (x : Page). x.contents) o) else option_map (λ (x : Page). x.contents) o)
  home_written true None = refl
  home_written true (Some page) = refl
  home_written false o = refl

  orphan_written : (b : Bool) (o : Option Orphan)
      → option_map (λ (x : Orphan). Bytes x.bytes) (if b then option_map (written_orphan offset bytes) o else o)
      ≡ (if b then option_map (written_contents offset bytes) (option_map (λ (x : Orphan). Bytes x.bytes) o) else option_map (λ (x : Orphan). Bytes x.bytes) o)
  orphan_written true None = refl
  orphan_written true (Some orphan) = refl
  orphan_written false o = refl

  written_at : (name page : PageName) (l : Ledger)
      → contents_of (write name offset bytes l) page
      ≡ (if hits name page then option_map (written_contents offset bytes) (contents_of l page) else contents_of l page)
  unfolding write hits
  written_at (Homed place) (Homed p) l = home_written (same_place p place) (l.home p)
  written_at (Homed place) (Orphaned p) l = refl
  written_at (Orphaned place) (Homed p) l = refl
  written_at (Orphaned place) (Orphaned p) l = orphan_written (same_place p place) (l.orphan p)

  pub write_moves : (name : PageName) (a b : Ledger) → contents_of a name ≡ contents_of b name
      → OnlyMovesDifferences a b (write name offset bytes a) (write name offset bytes b)
  write_moves name a b same page = go (hits name page) refl
    where
      after : Bool → Ledger → Option Contents
      after h l = if h then option_map (written_contents offset bytes) (contents_of l page) else contents_of l page

      at : (h : Bool) → hits name page ≡ h → (l : Ledger) → contents_of (write name offset bytes l) page ≡ after h l
      at h q l = written_at name page l ∙ ap (λ x. after x l) q

      alike : page ≡ name → contents_of a page ≡ contents_of b page
      alike q = ap (contents_of a) q ∙ (same ∙ ap (contents_of b) (sym q))

      go : (h : Bool) → hits name page ≡ h
          → (contents_of (write name offset bytes a) page ≡ contents_of (write name offset bytes b) page)
          ⊎ ((old : PageName) × HoldsWhat a b (write name offset bytes a) (write name offset bytes b) page old)
      go true q =
          inl (at true q a ∙ (ap (option_map (written_contents offset bytes)) (alike (hit_is name page q)) ∙ sym (at true q b)))
      go false q = inr (page, record { here = at false q a; there = at false q b })
