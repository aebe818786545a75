-- IncreaseHeap: the pages above the heap are free, so that the capacity alone refuses it.
use Rattle.xk_ports.specs.declared.store.SwapStore.{Ghosts as SwapStore}
use Rattle.std.proofs.Common.{◌≡◌, ℕ, ◌+◌, ◌/◌, ◌<◌, ◌≤◌, if◌then◌else◌, Bool, true, false, not, Option, Some, None, refl, sym, ap, subst, ◌∙◌, arith, length, nat_eq, nat_le, nat_lt}
use Rattle.std.specs.Prelude.{◌%◌, Result, Ok, Err}
use Rattle.std.proofs.lemmas.Bool.{false≢true, and_from, eqb-true, le-leb, lt-ltb}
use Rattle.std.proofs.lemmas.List.Folds.{list_any_none}
use Rattle.xk_base.specs.declared.errors.XousError.{XousError}
use Rattle.xk_base.specs.declared.errors.XousError.TheVariants.{BadAlignment, BadAddress, InvalidLimit, MemoryInUse, OutOfMemory}
use Rattle.xk_base.specs.declared.ids.Place.{Place}
use Rattle.xk_base.specs.declared.ids.Vpn.{Vpn}
use Rattle.xk_base.specs.declared.limits.TheConstants.{PAGE_SIZE}
use Rattle.xk_base.specs.declared.pages.Right.{Right}
use Rattle.xk_base.specs.declared.windows.Window.TheVariants.{Heap}
use Rattle.xk_base.specs.Numbers.Windows.{in_window, page_of}
use Rattle.ledger_model.specs.Ledger.{Bytes, Ledger, Page, pages}
use Rattle.ledger_model.specs.Loans.{bare}
use Rattle.ledger_model.specs.Places.{in_run, place_after, run}
use Rattle.ledger_model.specs.Reach.{is_free}
use Rattle.ledger_model.specs.RunTests.{any_used, fits_window}
use Rattle.ledger_model.specs.Steps.{make, new_page, zero_page}
use Rattle.ledger_model.proofs.PlaceLemmas.{IsInRun, in_run-true, length-run, run-at}
use Rattle.machine_model.specs.State.Changes.{Outcome, Refused, Served, unless_refused}
use Rattle.machine_model.specs.State.Machine.{Machine}
use Rattle.machine_model.specs.Runs.Matched.{AreHeapsMatched}
use Rattle.machine_model.specs.Calling.MemoryCalls.{are_too_many, heap_limit, heap_of, increase_refusals, increase_served, is_aligned}
use Rattle.process_table.specs.Shown.{processes_of}
use Rattle.process_table.specs.ProcessMap.{change}
use Rattle.process_table.specs.State.{with_heap as heap_set}
use Rattle.process_table.specs.declared.table.Processes.{Processes}
use Rattle.syscall_codec.specs.declared.replies.Reply.TheVariants.{Range}
use Rattle.vm_memory.specs.declared.memory.Memory.{Memory}
use Rattle.vm_memory.specs.Pages.Making.{if_room, make_answer, page_place, run_place}
use Rattle.vm_memory.specs.Memory.{capacity_of, frames_for_pages, ledger, processes, room_in, size}
use Rattle.vm_memory.proofs.Changing.SoundMemoryLemmas.{pages-ledger}
use Rattle.xk_base.specs.Tables.Circle.{is_pid}
use Rattle.xk_kernel.specs.Calling.{CrowdsBy, ServesAs, outcome_of}
use Rattle.xk_kernel.specs.Sound.{IsWhole}
use Rattle.xk_kernel.specs.State.{machine_of}
use Rattle.xk_kernel.specs.declared.kernel.Kernel.{Kernel}
use Rattle.xk_kernel.specs.declared.kernel.calls.CallerFate.TheVariants.{Answered}
use Rattle.xk_parts.proofs.LawfulLemmas.{sound_lawful}
use Rattle.xk_kernel.proofs.Memory.KeptLoanLemmas.{free_below_messages}
use Rattle.xk_kernel.proofs.Memory.MadeLemmas.{crowds_by, grown_comes, made_crowded}
use Rattle.xk_kernel.proofs.Memory.HeapLemmas.{aligned, none_of_three, not_above, on_heap, second_of_three, third_of_three, with_parts}

abbrev pub heap_right : Right
heap_right = record { w = true; x = false }

-- ---- numbers

start_page : (h : ℕ) → (536870912 + h) / 4096 ≡ 131072 + h / 4096
start_page h = omega arith

pages_more : (h b : ℕ) → h % 4096 ≡ 0 → b % 4096 ≡ 0 → (h + b) / 4096 ≡ h / 4096 + b / 4096
pages_more h b eh eb = omega arith

most_pages : (s : ℕ) → s ≤ 16777216 → s / 4096 ≤ 4096
most_pages s le = omega arith

heap_window : (v : ℕ) → 131072 ≤ v → v < 135168 → in_window Heap v ≡ true
heap_window v low high = and_from (nat_le 131072 v) (nat_le v 135167) (le-leb 131072 v low) (le-leb v 135167 (omega arith))

-- ---- the places above the heap

placed : (f u : Bool) (v : Vpn) → f ≡ true → u ≡ false
    → ◌≡◌ {A = Result Vpn XousError} (if not f then Err BadAddress else (if u then Err MemoryInUse else Ok v)) (Ok v)
placed false u v e g = absurd (false≢true e)
placed true true v e g = absurd (false≢true (sym g))
placed true false v e g = refl

none_used : (procs : ℕ) (l : Ledger) (first : Place) (n : ℕ) → ((i : ℕ) → i < n → is_free procs l (place_after first i) ≡ true) → any_used procs l first n ≡ false
unfolding any_used
none_used procs l first n free =
    list_any_none (λ p. not (is_free procs l p)) (run first n) (λ i d low.
    let size : length (run first n) ≡ n = length-run first n in
    let inside : i < n = omega (arith, low, size) in
    ap (λ p. not (is_free procs l p)) (run-at first n i d inside) ∙ ap not (free i inside))

module _ {W : Type 0} (S : SwapStore W) (k : Kernel W) (whole : IsWhole S k) (heaps : AreHeapsMatched (machine_of S.held k).process (machine_of S.held k).ledger)
    (bytes : ℕ) (al : bytes % 4096 ≡ 0) (heap : ℕ) (told : heap ≡ heap_of (machine_of S.held k)) where
  abbrev m : Machine
  m = machine_of S.held k

  abbrev row : Outcome
  row = unless_refused (increase_refusals m bytes) (Served (increase_served m bytes))

  abbrev first : Vpn
  first = record { 0 = (536870912 + heap) / 4096 }

  pub increase_past : 16777216 < heap + bytes → Refused InvalidLimit ≡ row
  increase_past lt =
      second_of_three (not (is_aligned bytes)) (nat_lt heap_limit (heap_of m + bytes)) (are_too_many m (bytes / PAGE_SIZE)) BadAlignment InvalidLimit OutOfMemory
      (Served (increase_served m bytes)) (aligned bytes al) (lt-ltb heap_limit (heap_of m + bytes) (omega (arith, lt, told)))

  module _ (le : heap + bytes ≤ 16777216) where
    heap_whole : heap % 4096 ≡ 0
    unfolding machine_of
    heap_whole = let w : heap_of m % 4096 ≡ 0 = heaps.whole k.cursor.pid in ap (λ h. h % 4096) told ∙ w

    record IsAbove (v : ℕ) : Type 0 where
      from : 131072 + heap / 4096 ≤ v
      to : v < 135168

    above : (i : ℕ) → i < bytes / 4096 → IsAbove (first.0 + i)
    above i low =
        let at : (536870912 + heap) / 4096 ≡ 131072 + heap / 4096 = start_page heap in
        let sum : (heap + bytes) / 4096 ≡ heap / 4096 + bytes / 4096 = pages_more heap bytes heap_whole al in
        let most : (heap + bytes) / 4096 ≤ 4096 = most_pages (heap + bytes) le in
        record { from = omega (arith, at); to = omega (arith, low, at, sum, most) }

    no_home : (v : ℕ) → IsAbove v → (o : Option Page) → (ledger S.held k.mem).home (record { pid = k.cursor.pid; vpn = record { 0 = v } }) ≡ o → o ≡ None
    unfolding machine_of
    no_home v h None e = refl
    no_home v h (Some page) e =
        let low : v < 131072 + heap_of m / 4096 = heaps.below (record { pid = k.cursor.pid; vpn = record { 0 = v } }) page e (heap_window v (omega (arith, h.from)) h.to) in
        let same : heap / 4096 ≡ heap_of m / 4096 = ap (λ x. x / 4096) told in
        absurd (omega (arith, low, same, h.from))

    free_above : (i : ℕ) → i < bytes / 4096 → is_free (processes k.mem) (ledger S.held k.mem) (place_after (page_place k.cursor.pid first) i) ≡ true
    free_above i low =
        let p = place_after (page_place k.cursor.pid first) i in
        let below : first.0 + i < 262144 = omega (arith, (above i low).to) in
        free_below_messages (processes k.mem) (capacity_of k.mem) (ledger S.held k.mem) p (sound_lawful S k.mem whole.mem) below
        (no_home (first.0 + i) (above i low) ((ledger S.held k.mem).home p) refl)

    fits : fits_window Heap first.0 (bytes / 4096) ≡ true
    fits =
        let at : (536870912 + heap) / 4096 ≡ 131072 + heap / 4096 = start_page heap in
        let sum : (heap + bytes) / 4096 ≡ heap / 4096 + bytes / 4096 = pages_more heap bytes heap_whole al in
        let most : (heap + bytes) / 4096 ≤ 4096 = most_pages (heap + bytes) le in
        and_from (nat_le 131072 first.0) (nat_le (first.0 + bytes / 4096) 135168) (le-leb 131072 first.0 (omega (arith, at)))
        (le-leb (first.0 + bytes / 4096) 135168 (omega (arith, at, sum, most)))

    run_above : run_place (processes k.mem) (ledger S.held k.mem) k.cursor.pid Heap (Some first) (bytes / 4096) ≡ Ok first
    run_above =
        placed (fits_window Heap first.0 (bytes / 4096)) (any_used (processes k.mem) (ledger S.held k.mem) (page_place k.cursor.pid first) (bytes / 4096)) first fits
        (none_used (processes k.mem) (ledger S.held k.mem) (page_place k.cursor.pid first) (bytes / 4096) free_above)

    abbrev over : Bool
    over = nat_lt (capacity_of k.mem) (pages (processes k.mem) (ledger S.held k.mem) + bytes / 4096)

    abbrev answer : Result Vpn XousError
    answer = make_answer (room_in k.mem) (ledger S.held k.mem) k.cursor.pid Heap (Some first) (bytes / 4096)

    answered : answer ≡ (if over then Err OutOfMemory else Ok first)
    answered = ap (if_room over) run_above

    -- ---- refused, or done

    err_told : (b : Bool) (error : XousError) → ◌≡◌ {A = Result Vpn XousError} (Err error) (if b then Err OutOfMemory else Ok first) → (b ≡ true) × (error ≡ OutOfMemory)
    err_told true error e = (refl, cc)
    err_told false error e = cc

    ok_told : (b : Bool) (v : Vpn) → ◌≡◌ {A = Result Vpn XousError} (Ok v) (if b then Err OutOfMemory else Ok first) → (b ≡ false) × (v ≡ first)
    ok_told true v e = cc
    ok_told false v e = (refl, cc)

    pub increase_refused : (error : XousError) → Err error ≡ answer → Refused error ≡ row
    unfolding machine_of
    increase_refused error e =
        let why = err_told over error (e ∙ answered) in
        ap Refused why.1
        ∙ third_of_three (not (is_aligned bytes)) (nat_lt heap_limit (heap_of m + bytes)) (are_too_many m (bytes / PAGE_SIZE)) BadAlignment InvalidLimit OutOfMemory
        (Served (increase_served m bytes)) (aligned bytes al) (not_above heap_limit (heap_of m + bytes) (omega (arith, le, told))) why.0

    served : over ≡ false → outcome_of k.cursor
        (on_heap (heap + bytes) (make (page_of k.cursor.pid (536870912 + heap)) (bytes / 4096) heap_right (ledger S.held k.mem)) m) (Ok (Answered (Range (536870912 + heap) bytes))) ≡ row
    unfolding machine_of
    served room =
        ap (λ h. outcome_of k.cursor (on_heap (h + bytes) (make (page_of k.cursor.pid (536870912 + h)) (bytes / 4096) heap_right (ledger S.held k.mem)) m) (Ok (Answered (Range (536870912 + h) bytes)))) told
        ∙ none_of_three (not (is_aligned bytes)) (nat_lt heap_limit (heap_of m + bytes)) (are_too_many m (bytes / PAGE_SIZE)) BadAlignment InvalidLimit OutOfMemory
        (Served (increase_served m bytes)) (aligned bytes al) (not_above heap_limit (heap_of m + bytes) (omega (arith, le, told))) room

    -- with the pages that are made
    abbrev made : Vpn → Ledger
    made v = make (page_place k.cursor.pid v) (bytes / 4096) heap_right (ledger S.held k.mem)

    served_by : (v : Vpn) → Ok v ≡ answer
        → outcome_of k.cursor (on_heap (heap + bytes) (made v) m) (Ok (Answered (Range (536870912 + heap) bytes))) ≡ row
    served_by v a =
        let done = ok_told over v (a ∙ answered) in
        ap (λ x. outcome_of k.cursor (on_heap (heap + bytes) (made x) m) (Ok (Answered (Range (536870912 + heap) bytes)))) done.1
        ∙ served done.0

    pub increase_done : {known : Type 0} (mem : Memory W) (procs : Processes) (v : Vpn) → size mem ≡ size k.mem → Ok v ≡ answer
        → bare (ledger S.held mem) ≡ bare (made v) → (known → ledger S.held mem ≡ made v)
        → processes_of procs ≡ change k.cursor.pid.0 (heap_set (heap + bytes)) (processes_of k.procs)
        → ServesAs known k.cursor (machine_of S.held (with_parts mem procs k)) row (Ok (Answered (Range (536870912 + heap) bytes)))
    increase_done mem procs v s a rights known p = record {
      target = on_heap (heap + bytes) (made v) m;
      is = served_by v a;
      comes = grown_comes S k mem (made v) s rights whole procs (heap + bytes) p known;
    }

    pub increase_crowds : (v : Vpn) → is_pid (processes k.mem) k.cursor.pid.0 ≡ true → Ok v ≡ answer
        → frames_for_pages k.mem < pages (processes k.mem) (ledger S.held k.mem) + bytes / 4096 → CrowdsBy S.held k row
    increase_crowds v process a more =
        crowds_by S.held k (on_heap (heap + bytes) (made v) m) (Range (536870912 + heap) bytes) row (served_by v a)
        (made_crowded S.held k Heap (Some first) (bytes / 4096) heap_right process v (sym a) more)

    -- ---- nothing

    none_made : (p : Place) (b : Bool) (o : Option Page) → in_run (page_of k.cursor.pid (536870912 + heap)) 0 p ≡ b → (if b then Some (new_page heap_right (Bytes zero_page)) else o) ≡ o
    none_made p false o e = refl
    none_made p true o e =
        let r : IsInRun (page_of k.cursor.pid (536870912 + heap)) 0 p = in_run-true (page_of k.cursor.pid (536870912 + heap)) 0 p e in
        let from : first.0 ≤ p.vpn.0 = r.from in
        let to : p.vpn.0 < first.0 + 0 = r.to in
        absurd (omega (arith, from, to))

    ledger_stays : make (page_of k.cursor.pid (536870912 + heap)) 0 heap_right (ledger S.held k.mem) ≡ ledger S.held k.mem
    unfolding make
    ledger_stays = λ i. record (ledger S.held k.mem) {
      home = λ p. none_made p (in_run (page_of k.cursor.pid (536870912 + heap)) 0 p) ((ledger S.held k.mem).home p) refl i;
    }

    same_process : (q : ℕ) (b : Bool) (h : ℕ) → nat_eq q k.cursor.pid.0 ≡ b → h ≡ heap_of m → (if b then record (m.process k.cursor.pid.0) { heap = h } else m.process q) ≡ m.process q
    unfolding machine_of
    same_process q false h e f = refl
    same_process q true h e f = ap (λ x. record (m.process k.cursor.pid.0) { heap = x }) f ∙ ap m.process (sym (eqb-true q k.cursor.pid.0 e))

    stays : (h : ℕ) → h ≡ heap_of m → on_heap h (ledger S.held k.mem) m ≡ m
    unfolding machine_of
    stays h e = λ i. record m { process = λ q. same_process q (nat_eq q k.cursor.pid.0) h refl e i }

    has_room : bytes ≡ 0 → over ≡ false
    has_room none =
        let within : pages (processes k.mem) (ledger S.held k.mem) ≤ capacity_of k.mem = subst (λ n. n ≤ capacity_of k.mem) (sym (pages-ledger S.held k.mem)) whole.mem.lawful.within in
        let zero : bytes / 4096 ≡ 0 = omega (arith, none) in
        not_above (capacity_of k.mem) (pages (processes k.mem) (ledger S.held k.mem) + bytes / 4096) (omega (arith, within, zero))

    pub increase_by_none : bytes ≡ 0 → outcome_of k.cursor m (Ok (Answered (Range (536870912 + heap) bytes))) ≡ row
    increase_by_none none =
        let zero : 0 ≡ bytes / 4096 = omega (arith, none) in
        let sum : heap + bytes ≡ heap_of m = omega (arith, none, told) in
        ap (λ n. outcome_of k.cursor n (Ok (Answered (Range (536870912 + heap) bytes))))
        (sym (stays (heap + bytes) sum)
        ∙ ap (λ l. on_heap (heap + bytes) l m) (sym ledger_stays ∙ ap (λ n. make (page_of k.cursor.pid (536870912 + heap)) n heap_right (ledger S.held k.mem)) zero))
        ∙ served (has_room none)
