-- The calls on memory change no byte: pages are made where none was, change their right, or go.
use Rattle.ledger_model.specs.Steps.{remove, reduce}
use Rattle.syscall_codec.specs.Flags.{right_of, has_flag, flag_execute}
use Rattle.syscall_codec.specs.CallWords.{heap_bytes, range_address, map_phys, range_size, map_virt, map_size, range_flags, map_flags}
use Rattle.machine_model.specs.Runs.Matched.{Matched}
use Rattle.confidentiality_laws.specs.EmptyPlaces.{MovesToEmptyPlaces}
use Rattle.machine_model.specs.State.Machine.{Machine}
use Rattle.ledger_model.specs.Reach.{is_free}
use Rattle.machine_model.specs.Calling.MemoryCalls.{caller_place, mapped_ledger, map_refusals, heap_start, heap_of, increase_refusals, heap_limit, map_address}
use Rattle.std.proofs.Common.{◌≡◌, ℕ, List, ◌+◌, ◌*◌, ◌/◌, ◌<◌, ◌≤◌, Bool, true, false, Option, Some, None, refl, sym, ap, ◌∙◌, arith, subst}
use Rattle.std.specs.Prelude.{◌-◌, ◌==◌, ◌&&◌, ◌||◌, if◌then◌else◌, is_none, nat_le, not, unwrap_or}
use Rattle.std.proofs.lemmas.Bool.{and_from, eqb-true, false≢true, le-leb, ltb-false, or_parts}
use Rattle.xk_base.specs.declared.ids.Pid.{Pid}
use Rattle.xk_base.specs.declared.ids.Place.{Place}
use Rattle.xk_base.specs.declared.ids.Vpn.{Vpn}
use Rattle.xk_base.specs.declared.limits.TheConstants.{CONSOLE_ADDRESS, PAGE_SIZE}
use Rattle.xk_base.specs.declared.pages.Right.{Right}
use Rattle.xk_base.specs.declared.windows.Window.{Window}
use Rattle.xk_base.specs.declared.windows.Window.TheVariants.{Heap, Map}
use Rattle.xk_base.specs.Numbers.Windows.{in_window}
use Rattle.ledger_model.specs.Ledger.{Ledger, Page}
use Rattle.ledger_model.specs.LeastRun.{least_run}
use Rattle.ledger_model.specs.Places.{in_run}
use Rattle.ledger_model.specs.RunTests.{any_used}
use Rattle.ledger_model.proofs.Runs.LeastRunLemmas.{is_free_run-each, least_run-Some}
use Rattle.ledger_model.proofs.LedgerLemmas.{is_free-true}
use Rattle.ledger_model.proofs.PlaceLemmas.{in_run-from, in_run-index, in_run-true, place_from}
use Rattle.machine_laws.proofs.Calling.RunRefusalLemmas.{not_false, run_free}
use Rattle.call_effects.specs.Rows.MemoryRows.{decrease_row, increase_row, map_row, unmap_row, update_row}
use Rattle.call_effects.proofs.ServedLemmas.{OfPlan}
use Rattle.confidentiality_laws.proofs.Keeping.CallLemmas.{PlanKeeps, RowKeeps, none_hold}
use Rattle.confidentiality_laws.proofs.Keeping.LedgerStepLemmas.{reduce_only, remove_only}
use Rattle.confidentiality_laws.proofs.Keeping.MadePageLemmas.{make_console_keeps, make_keeps}
use Rattle.confidentiality_laws.proofs.Keeping.StandingPageLemmas.{goes_keep}

-- ---- pages that go or change their right

pub unmap_keeps : RowKeeps unmap_row
unmap_keeps m w =
    let places = in_run (caller_place m (range_address w)) (range_size w / PAGE_SIZE) in
    λ none. goes_keep m.ledger (remove places m.ledger) (remove_only places m.ledger)

pub update_keeps : RowKeeps update_row
update_keeps m w =
    let places = in_run (caller_place m (range_address w)) (range_size w / PAGE_SIZE) in
    let right = right_of (range_flags w) in
    λ none. goes_keep m.ledger (reduce places right m.ledger) (reduce_only places right m.ledger)

pub decrease_keeps : RowKeeps decrease_row
decrease_keeps m w =
    let places = in_run (caller_place m (heap_start + (heap_of m - heap_bytes w))) (heap_bytes w / PAGE_SIZE) in
    λ none. goes_keep m.ledger (remove places m.ledger) (remove_only places m.ledger)

-- ---- free runs

-- no page has its home in a run
abbrev pub HasNoHome : Ledger → Place → ℕ → Type 0
HasNoHome l first n = (p : Place) → in_run first n p ≡ true → l.home p ≡ None

-- the least run has none
pub found_free : (procs : ℕ) (l : Ledger) (pid : Pid) (window : Window) (n : ℕ) (v : Vpn)
    → least_run procs l pid window n ≡ Some v
    → HasNoHome l (record { pid = pid; vpn = v }) n
found_free procs l pid window n v e p inside =
    let first : Place = record { pid = pid; vpn = v } in
    let at = in_run-index first n p inside in
    (is_free-true procs l p
    (ap (is_free procs l) at.1
    ∙ is_free_run-each procs l first n (least_run-Some procs l pid window n v e).free (p.vpn.0 - v.0) at.0)).home

-- ---- MapMemory

page_of_start : (v : ℕ) → v ≡ 4096 * v / 4096
page_of_start v = omega arith

pub map_free : (m : Machine) (virt n : ℕ) (b : Bool) (o : Option Vpn) → least_run m.processes m.ledger m.cursor.pid Map n ≡ o
    → not b && any_used m.processes m.ledger (caller_place m virt) n ≡ false → b && is_none o ≡ false
    → HasNoHome m.ledger (caller_place m (if b then PAGE_SIZE * (unwrap_or o (record { 0 = 0 })).0 else virt)) n
map_free m virt n true None e used found = absurd (false≢true (sym found))
map_free m virt n true (Some v) e used found =
    let first : Place = record { pid = m.cursor.pid; vpn = v } in
    subst (λ at. HasNoHome m.ledger at n) (place_from first (caller_place m (4096 * v.0)) refl (page_of_start v.0))
    (found_free m.processes m.ledger m.cursor.pid Map n v e)
map_free m virt n false o e used found =
    λ p inside. (is_free-true m.processes m.ledger p (run_free m.processes m.ledger (caller_place m virt) n used p inside)).home

one_page : (size : ℕ) → size ≡ 4096 → size / 4096 ≡ 1
one_page size e = omega arith

-- the console takes one page
first_in : (x : Bool) (first : Place) (size : ℕ) → not (size == PAGE_SIZE) || x ≡ false
    → in_run first (size / PAGE_SIZE) first ≡ true
first_in x first size e =
    let one : size / 4096 ≡ 1 =
    one_page size (eqb-true size PAGE_SIZE (not_false (size == PAGE_SIZE) (or_parts (not (size == PAGE_SIZE)) x e).0)) in
    in_run-from first (size / PAGE_SIZE) first (record { pid = refl; from = omega arith; to = omega arith })

mapped_keeps : (l : Ledger) (console x : Bool) (first : Place) (size : ℕ) (right : Right)
    → console && (not (size == PAGE_SIZE) || x) ≡ false
    → HasNoHome l first (size / PAGE_SIZE) → MovesToEmptyPlaces l (mapped_ledger console first (size / PAGE_SIZE) right l)
mapped_keeps l false x first size right e free = make_keeps first (size / PAGE_SIZE) right l free
mapped_keeps l true x first size right e free = make_console_keeps first right.w l (free first (first_in x first size e))

pub map_keeps : RowKeeps map_row
map_keeps m w = λ none.
    let passed = none_hold (map_refusals m (map_phys w) (map_virt w) (map_size w) (map_flags w)) none in
    mapped_keeps m.ledger (map_phys w == CONSOLE_ADDRESS) (has_flag (map_flags w) flag_execute)
    (caller_place m (map_address m (map_virt w) (map_size w))) (map_size w) (right_of (map_flags w)) passed.1.1.1.0
    (map_free m (map_virt w) (map_size w / PAGE_SIZE) (map_virt w == 0)
    (least_run m.processes m.ledger m.cursor.pid Map (map_size w / PAGE_SIZE)) refl passed.1.1.1.1.1.1.0 passed.1.1.1.1.1.1.1.0)

-- ---- IncreaseHeap

-- a page number of the heap is in its window
heap_window : (v : ℕ) → 131072 ≤ v → v < 135168 → in_window Heap v ≡ true
heap_window v low high = and_from (nat_le 131072 v) (nat_le v 135167) (le-leb 131072 v low) (le-leb v 135167 (omega arith))

start_page : (h : ℕ) → (536870912 + h) / 4096 ≡ 131072 + h / 4096
start_page h = omega arith

most_pages : (h b : ℕ) → h + b ≤ 16777216 → h / 4096 + b / 4096 ≤ 4096
most_pages h b le = omega arith

-- the pages of the heap stand below its end, and the new ones above
pub grown_free : (m : Machine) (bytes : ℕ) → Matched m → heap_of m + bytes ≤ 16777216
    → HasNoHome m.ledger (caller_place m (heap_start + heap_of m)) (bytes / PAGE_SIZE)
grown_free m bytes h le p inside = go (m.ledger.home p) refl
  where
    go : (o : Option Page) → m.ledger.home p ≡ o → m.ledger.home p ≡ None
    go None e = e
    go (Some page) e =
        let run = in_run-true (caller_place m (heap_start + heap_of m)) (bytes / PAGE_SIZE) p inside in
        let low : (536870912 + heap_of m) / 4096 ≤ p.vpn.0 = run.from in
        let high : p.vpn.0 < (536870912 + heap_of m) / 4096 + bytes / 4096 = run.to in
        let at : (536870912 + heap_of m) / 4096 ≡ 131072 + heap_of m / 4096 = start_page (heap_of m) in
        let most : heap_of m / 4096 + bytes / 4096 ≤ 4096 = most_pages (heap_of m) bytes le in
        let below : p.vpn.0 < 131072 + heap_of m / 4096 =
        subst (λ k. p.vpn.0 < 131072 + (m.process k).heap / 4096) run.pid
        (h.body.heaps.below p page e (heap_window p.vpn.0 (omega arith) (omega arith))) in
        absurd (omega arith)

pub increase_keeps : (m : Machine) (w : List ℕ) → Matched m → OfPlan (PlanKeeps m) (increase_row m w)
increase_keeps m w h = λ none.
    let bytes = heap_bytes w in
    let passed = none_hold (increase_refusals m bytes) none in
    make_keeps (caller_place m (heap_start + heap_of m)) (bytes / PAGE_SIZE) (record { w = true; x = false }) m.ledger
    (grown_free m bytes h (ltb-false heap_limit (heap_of m + bytes) passed.1.0))
