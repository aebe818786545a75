-- Pages by their places, told from the rows: homes are living.
use Rattle.std.proofs.Common.{◌≡◌, ℕ, ◌≤◌, Bool, true, cond, eqb, List, [], ◌∷◌, Option, Some, None, sym, ap, subst, ◌∙◌, inl, inr, ◌↔◌}
use Rattle.std.specs.Prelude.{◌&&◌, IsTrue}
use Rattle.std.specs.List.{find, list_all}
use Rattle.std.specs.Option.{option_map}
use Rattle.std.proofs.lemmas.Bool.{cases_Bool}
use Rattle.xk_base.specs.declared.ids.Place.{Place}
use Rattle.ledger_model.specs.Ledger.{Page}
use Rattle.machine_model.specs.Runs.Matched.{AreHomesLiving}
use Rattle.snapshot_rows.specs.declared.state.OrphanRow.{OrphanRow}
use Rattle.snapshot_rows.specs.declared.state.PageRow.{PageRow}
use Rattle.snapshot_rows.specs.declared.state.ProcRow.{ProcRow}
use Rattle.snapshot_rows.specs.Order.{least_first, least_second, page_key, AscendInTwo}
use Rattle.snapshot_rows.specs.Machines.{place_at, processes_of, ledger_page, ledger_of}
use Rattle.snapshot_rows.specs.PageParts.{is_home_living}
use Rattle.snapshot_rows.proofs.KeyLemmas.{some, some_same, mapped, found_passes, all_pass, Less, pair_is, pair_own, less_apart}
use Rattle.snapshot_rows.proofs.KeyLemmas.{less_through, less_behind}

abbrev pub PageForm : Option (ℕ × ℕ) → PageRow → Type 0
PageForm before p = (least_first 0 before ≤ (page_key p).0) × (least_second 0 before (page_key p).0 ≤ (page_key p).1)

abbrev pub is_page : ℕ × ℕ → PageRow → Bool
is_page k p = eqb (page_key p).0 k.0 && eqb (page_key p).1 k.1

-- where the page of each place passes a test, all pages do
pages_pass : (good : PageRow → Bool) (rows : List PageRow) → AscendInTwo page_key rows
    → ((k : ℕ × ℕ) (p : PageRow) → find (is_page k) rows ≡ Some p → good p ≡ true) → list_all good rows ≡ true
pages_pass good rows ascend each =
    all_pass page_key is_page Less PageForm (λ before p low. less_behind 0 0 before (page_key p) low.0 low.1) (pair_is page_key) (pair_own page_key)
    less_apart less_through good None rows ascend each

-- a page that was found has the place
found_place : (k : ℕ × ℕ) (rows : List PageRow) (p : PageRow) → find (is_page k) rows ≡ Some p → page_key p ≡ k
found_place k [] p e = absurd cc
found_place k (y ∷ rows) p e =
    elim (cases_Bool (is_page k y)) [
      | inl does ↦ (
          let here : some y ≡ some p = sym (ap (λ (b : Bool). cond b (some y) (find (is_page k) rows)) does) ∙ e in
          subst (λ (z : PageRow). page_key z ≡ k) (some_same y p here) (pair_is page_key k y does)
          )
      | inr doesnt ↦ found_place k rows p (sym (ap (λ (b : Bool). cond b (some y) (find (is_page k) rows)) doesnt) ∙ e)
    ]

-- What a test of each row tells of each page that there is.
pub pages_told : (file : List ℕ) (orphans : List OrphanRow) (good : PageRow → Bool) (P : Place → Page → Type 0)
    → ((p : PageRow) → IsTrue (good p) ↔ P (place_at p.pid p.page) (ledger_page file p)) → (rows : List PageRow) → AscendInTwo page_key rows
    → IsTrue (list_all good rows) ↔ ((at : Place) (page : Page) → (ledger_of file rows orphans).home at ≡ Some page → P at page)
pages_told file orphans good P tells rows ascend = (
  λ all at page e. (
      let k : ℕ × ℕ = (at.pid.0, at.vpn.0) in
      let m = mapped (ledger_page file) (find (is_page k) rows) page e in
      let key = found_place k rows m.0 m.1 in
      let row = (tells m.0).0 (found_passes (is_page k) good rows m.0 all m.1) in
      subst (λ (u : Page). P at u) m.2 (subst (λ (z : ℕ × ℕ). P (place_at z.0 z.1) (ledger_page file m.0)) key row)
      ),
  λ each.
      pages_pass good rows ascend (λ (k : ℕ × ℕ) (p : PageRow) (e : find (is_page k) rows ≡ Some p). (
      let own : find (is_page (page_key p)) rows ≡ Some p = subst (λ (z : ℕ × ℕ). find (is_page z) rows ≡ Some p) (sym (found_place k rows p e)) e in
      (tells p).1 (each (place_at p.pid p.page) (ledger_page file p) (ap (option_map (ledger_page file)) own))
      )),
)

-- ---- homes

pub homes_told : (file : List ℕ) (orphans : List OrphanRow) (procs : List ProcRow) (rows : List PageRow) (told : Bool) → AscendInTwo page_key rows
    → told ≡ list_all (is_home_living procs) rows → IsTrue told ↔ AreHomesLiving (processes_of procs) (ledger_of file rows orphans)
homes_told file orphans procs rows told ascend is =
    let each = pages_told file orphans (is_home_living procs) (λ at page. IsTrue (processes_of procs at.pid.0).alive) (λ p. (λ x. x, λ x. x)) rows ascend in
    (λ holds. each.0 (sym is ∙ holds), λ living. is ∙ each.1 living)
