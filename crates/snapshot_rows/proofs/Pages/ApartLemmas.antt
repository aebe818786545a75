-- Homes, holders' places and places of orphans are apart exactly where tests of the rows hold.
use Rattle.std.proofs.Common.{◌≡◌, ℕ, Bool, true, false, not, List, Option, Some, None, refl, sym, ap, ◌∙◌, ◌↔◌}
use Rattle.std.specs.Prelude.{◌&&◌, IsTrue, is_some}
use Rattle.std.specs.List.{list_all, list_any, find}
use Rattle.std.specs.Option.{option_map}
use Rattle.std.proofs.lemmas.Bool.{and_parts}
use Rattle.xk_base.specs.declared.ids.Place.{Place}
use Rattle.ledger_model.specs.Ledger.{Ledger, Page, PageLoan, Orphan, loan_of, loan_at}
use Rattle.snapshot_rows.specs.declared.state.OrphanRow.{OrphanRow}
use Rattle.snapshot_rows.specs.declared.state.PageRow.{PageRow}
use Rattle.snapshot_rows.specs.Order.{page_key, orphan_key, AscendInTwo}
use Rattle.snapshot_rows.specs.Machines.{place_at, ledger_page, ledger_orphan, ledger_of}
use Rattle.snapshot_rows.specs.PageParts.{has_no_home, has_no_orphan, is_holder_apart, is_orphan_apart}
use Rattle.snapshot_rows.proofs.KeyLemmas.{found_any}
use Rattle.snapshot_rows.proofs.Pages.HolderLemmas.{loan_row, loaned}
use Rattle.snapshot_rows.proofs.Pages.OrphanLemmas.{orphans_told, is_orphan}
use Rattle.snapshot_rows.proofs.Pages.PageLemmas.{pages_told, is_page}
use Rattle.snapshot_rows.proofs.Pages.PlacedLemmas.{OnLoan, on_loan, both}

-- part 1 of places: homes, holders' places and those of orphans are apart
pub record ArePlacesApart (ledger : Ledger) : Type 0 where
  pub holder_no_home : (p : Place) (loan : PageLoan) → loan_at ledger p ≡ Some loan → ledger.home loan.holder ≡ None
  pub holder_no_orphan : (p : Place) (loan : PageLoan) → loan_at ledger p ≡ Some loan → ledger.orphan loan.holder ≡ None
  pub orphan_no_home : (p : Place) (orphan : Orphan) → ledger.orphan p ≡ Some orphan → ledger.home p ≡ None

abbrev no_value : {A : Type 0} → Option A
no_value = None

-- none was found where there is none
none_told : {A B : Type 0} (f : A → B) (test : A → Bool) (rows : List A) → IsTrue (not (list_any test rows)) ↔ option_map f (find test rows) ≡ no_value
none_told {A = A} {B = B} f test rows = go (option_map f (find test rows)) (list_any test rows) (found_any f test rows)
  where
    go : (o : Option B) (b : Bool) → is_some o ≡ b → IsTrue (not b) ↔ o ≡ no_value
    go None true e = absurd cc
    go None false e = (λ holds. refl, λ none. refl)
    go (Some x) true e = (λ holds. absurd cc, λ none. absurd cc)
    go (Some x) false e = absurd cc

-- ---- holders

IsApart : Ledger → PageLoan → Type 0
IsApart ledger loan = (ledger.home loan.holder ≡ no_value) × (ledger.orphan loan.holder ≡ no_value)

OnApart : Ledger → Place → Page → Type 0
OnApart ledger at page = OnLoan (IsApart ledger) page

apart_told : (file : List ℕ) (pages : List PageRow) (orphans : List OrphanRow) (p : PageRow)
    → IsTrue (has_no_home pages p.holder_pid p.holder_page && has_no_orphan orphans p.holder_pid p.holder_page) ↔ IsApart (ledger_of file pages orphans) (loan_row p)
unfolding IsApart
apart_told file pages orphans p =
    both _ _ (none_told (ledger_page file) (is_page (p.holder_pid, p.holder_page)) pages) (none_told (ledger_orphan file) (is_orphan (p.holder_pid, p.holder_page)) orphans)

holder_told : (file : List ℕ) (pages : List PageRow) (orphans : List OrphanRow) (p : PageRow)
    → IsTrue (is_holder_apart pages orphans p) ↔ OnApart (ledger_of file pages orphans) (place_at p.pid p.page) (ledger_page file p)
unfolding OnApart
holder_told file pages orphans p = on_loan file (IsApart (ledger_of file pages orphans)) p _ (apart_told file pages orphans p)

-- ---- all

IsHomeless : Ledger → Place → Orphan → Type 0
IsHomeless ledger at orphan = ledger.home at ≡ no_value

homeless_told : (file : List ℕ) (pages : List PageRow) (orphans : List OrphanRow) (o : OrphanRow)
    → IsTrue (is_orphan_apart pages o) ↔ IsHomeless (ledger_of file pages orphans) (place_at o.pid o.page) (ledger_orphan file o)
unfolding IsHomeless
homeless_told file pages orphans o = none_told (ledger_page file) (is_page (o.pid, o.page)) pages

pub places_apart_told : (file : List ℕ) (pages : List PageRow) (orphans : List OrphanRow) (told : Bool) → AscendInTwo page_key pages → AscendInTwo orphan_key orphans
    → told ≡ (list_all (is_holder_apart pages orphans) pages && list_all (is_orphan_apart pages) orphans)
    → IsTrue told ↔ ArePlacesApart (ledger_of file pages orphans)
unfolding OnApart IsApart IsHomeless OnLoan
places_apart_told file pages orphans told pages_ascend orphans_ascend is =
    let ledger = ledger_of file pages orphans in
    let holders = pages_told file orphans (is_holder_apart pages orphans) (OnApart ledger) (holder_told file pages orphans) pages pages_ascend in
    let homeless = orphans_told file pages (is_orphan_apart pages) (IsHomeless ledger) (homeless_told file pages orphans) orphans orphans_ascend in (
      λ holds. (
          let two = and_parts (list_all (is_holder_apart pages orphans) pages) _ (sym is ∙ holds) in
          record {
            holder_no_home = λ at loan e. (let page = loaned (ledger.home at) loan e in (holders.0 two.0 at page.0 page.1 loan page.2).0);
            holder_no_orphan = λ at loan e. (let page = loaned (ledger.home at) loan e in (holders.0 two.0 at page.0 page.1 loan page.2).1);
            orphan_no_home = λ at orphan e. homeless.0 two.1 at orphan e;
          }
          ),
      λ apart. (
          let first : list_all (is_holder_apart pages orphans) pages ≡ true =
          holders.1 (λ at page e loan on. (apart.holder_no_home at loan (ap loan_of e ∙ on), apart.holder_no_orphan at loan (ap loan_of e ∙ on))) in
          let second : list_all (is_orphan_apart pages) orphans ≡ true = homeless.1 (λ at orphan e. apart.orphan_no_home at orphan e) in
          is ∙ rw (first, second) refl
          ),
    )
