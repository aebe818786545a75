-- Heaps are matched exactly where tests of the rows hold: pages of the Heap window lie below the heap's end.
use Rattle.std.proofs.Common.{◌≡◌, ℕ, ◌+◌, ◌/◌, ◌<◌, Bool, true, false, not, leb, List, refl, sym, ◌∙◌, inl, inr, ◌↔◌}
use Rattle.std.specs.Prelude.{◌&&◌, ◌||◌, IsTrue}
use Rattle.std.specs.List.{list_all}
use Rattle.std.proofs.lemmas.Bool.{cases_Bool, and_parts, ltb-true, lt-ltb}
use Rattle.xk_base.specs.declared.ids.Place.{Place}
use Rattle.ledger_model.specs.Ledger.{Page}
use Rattle.machine_model.specs.Runs.Matched.{AreHeapsMatched}
use Rattle.snapshot_rows.specs.declared.state.OrphanRow.{OrphanRow}
use Rattle.snapshot_rows.specs.declared.state.PageRow.{PageRow}
use Rattle.snapshot_rows.specs.declared.state.ProcRow.{ProcRow}
use Rattle.snapshot_rows.specs.Order.{page_key, AscendInTwo}
use Rattle.snapshot_rows.specs.Machines.{place_at, processes_of, ledger_page, ledger_of}
use Rattle.snapshot_matching.specs.ProcessParts.{is_heap_whole, is_heap_page, is_below_heap}
use Rattle.snapshot_matching.proofs.ProcessRows.ProcessLemmas.{heaps_told}
use Rattle.snapshot_matching.proofs.ThreadRows.ThreadLemmas.{second_holds}
use Rattle.snapshot_rows.proofs.Pages.PageLemmas.{pages_told}

IsBelow : List ProcRow → Place → Page → Type 0
IsBelow procs at page = IsTrue (leb 0x20000 at.vpn.0 && leb at.vpn.0 0x20fff) → at.vpn.0 < 0x20000 + (processes_of procs at.pid.0).heap / 4096

below_told : (file : List ℕ) (procs : List ProcRow) (p : PageRow) → IsTrue (is_below_heap procs p) ↔ IsBelow procs (place_at p.pid p.page) (ledger_page file p)
unfolding IsBelow
below_told file procs p = (
  λ holds inside. ltb-true _ _ (second_holds (is_heap_page p) _ inside holds),
  λ below. (
      elim (cases_Bool (is_heap_page p)) [
        | inl inside ↦ either_way (not (is_heap_page p)) _ (lt-ltb _ _ (below inside))
        | inr outside ↦ first_way (is_heap_page p) _ outside
      ]
      ),
)
  where
    either_way : (a b : Bool) → b ≡ true → (a || b) ≡ true
    either_way true b e = refl
    either_way false b e = e

    first_way : (a b : Bool) → a ≡ false → (not a || b) ≡ true
    first_way true b e = absurd cc
    first_way false b e = refl

pub heaps_matched_told : (file : List ℕ) (orphans : List OrphanRow) (procs : List ProcRow) (rows : List PageRow) (told : Bool) → AscendInTwo page_key rows
    → told ≡ (list_all is_heap_whole procs && list_all (is_below_heap procs) rows) → IsTrue told ↔ AreHeapsMatched (processes_of procs) (ledger_of file rows orphans)
unfolding IsBelow
heaps_matched_told file orphans procs rows told ascend is =
    let heaps = heaps_told procs (list_all is_heap_whole procs) refl in
    let below = pages_told file orphans (is_below_heap procs) (IsBelow procs) (below_told file procs) rows ascend in (
      λ holds. (
          let both = and_parts (list_all is_heap_whole procs) _ (sym is ∙ holds) in
          let whole = heaps.0 both.0 in
          record { whole = whole.whole; within = whole.within; below = below.0 both.1 }
          ),
      λ matched. (
          let whole : list_all is_heap_whole procs ≡ true = heaps.1 (record { whole = matched.whole; within = matched.within }) in
          let low : list_all (is_below_heap procs) rows ≡ true = below.1 matched.below in
          is ∙ rw (whole, low) refl
          ),
    )
