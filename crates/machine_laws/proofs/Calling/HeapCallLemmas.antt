-- The calls on the heap keep the machine matched.
use Rattle.std.proofs.Common.{◌≡◌, ℕ, ◌+◌, ◌-◌, ◌/◌, ◌<◌, ◌≤◌, Bool, true, false, List, [], ◌∷◌, Option, Some, None, refl, sym, ap, ◌∙◌, inl, inr, arith, subst}
use Rattle.std.specs.Prelude.{◌%◌, ◌&&◌, if◌then◌else◌, nat_le, nat_lt, not}
use Rattle.std.proofs.lemmas.Bool.{false≢true, and_from, cases_lt, eq-eqb, eqb-true, le-leb, lt-leb, ltb-false}
use Rattle.std.proofs.lemmas.Option.{none-some}
use Rattle.xk_base.specs.declared.errors.XousError.TheVariants.{BadAlignment, InvalidLimit, OutOfMemory, ShareViolation}
use Rattle.xk_base.specs.declared.ids.Place.{Place}
use Rattle.xk_base.specs.declared.limits.TheConstants.{PAGE_SIZE}
use Rattle.xk_base.specs.declared.windows.Window.TheVariants.{Heap, Message}
use Rattle.syscall_codec.specs.CallWords.{heap_bytes}
use Rattle.syscall_codec.specs.ReplyWords.{plain_words, range_words}
use Rattle.xk_base.specs.Numbers.Windows.{in_window}
use Rattle.xk_base.specs.Tables.Circle.{is_pid}
use Rattle.ledger_model.specs.Conditions.{CanMake}
use Rattle.ledger_model.specs.Ledger.{Ledger, Page, pages}
use Rattle.ledger_model.specs.Places.{in_run, is_place_in}
use Rattle.ledger_model.specs.RunTests.{any_on_loan}
use Rattle.ledger_model.specs.Steps.{make, remove}
use Rattle.ledger_model.proofs.Stepping.MakingLemmas.{make_lawful, make_loans}
use Rattle.ledger_model.proofs.Loans.NumberingLemmas.{is_place_in-user}
use Rattle.ledger_model.proofs.PlaceLemmas.{IsInRun, in_run-from, in_run-true}
use Rattle.machine_model.specs.State.Changes.{Served, first_refusal}
use Rattle.machine_model.specs.State.Machine.{Machine}
use Rattle.machine_model.specs.Runs.Matched.{Matched, is_living}
use Rattle.machine_model.specs.Calling.MemoryCalls.{are_too_many, caller_place, decrease_call, decrease_refusals, decrease_served, heap_limit, heap_of, heap_start, increase_call, increase_refusals, increase_served, is_aligned}
use Rattle.machine_model.specs.State.Order.{ready_at}
use Rattle.machine_laws.proofs.Calling.AnsweredCallLemmas.{Keeps}
use Rattle.machine_laws.proofs.Calling.PageChangeLemmas.{IsLikeLedger, MayHeap, MayStandBelow, heap_at, heap_served, one_heap, stands_at}
use Rattle.machine_laws.proofs.Calling.MadePageLemmas.{free_outside, made_stands}
use Rattle.machine_laws.proofs.Calling.MemoryCallStepLemmas.{like_removed}
use Rattle.machine_laws.proofs.Calling.ThreadCallLemmas.{unless_refused_keeps}
use Rattle.machine_laws.proofs.Threading.ThreadAnswerLemmas.{ready_lives}
use Rattle.machine_laws.proofs.Calling.RunRefusalLemmas.{can_remove, none_holds, not_false}

-- ---- addresses of the heap

start_page : (h : ℕ) → (536870912 + h) / 4096 ≡ 131072 + h / 4096
start_page h = omega arith

aligned_less : (h b : ℕ) → h % 4096 ≡ 0 → b % 4096 ≡ 0 → b ≤ h → (h - b) % 4096 ≡ 0
aligned_less h b eh eb le = omega arith

pages_less : (h b : ℕ) → h % 4096 ≡ 0 → b % 4096 ≡ 0 → b ≤ h → (h - b) / 4096 + b / 4096 ≡ h / 4096
pages_less h b eh eb le = omega arith

-- ---- DecreaseHeap

module _ (m : Machine) (h : Matched m) (r : ready_at m m.cursor ≡ true) (bytes : ℕ) (al : bytes % 4096 ≡ 0) (le : bytes ≤ heap_of m)
    (loan : any_on_loan m.processes m.ledger (caller_place m (heap_start + (heap_of m - bytes))) (bytes / PAGE_SIZE) ≡ false) where
  abbrev freed_run : Place → Bool
  freed_run p = in_run (caller_place m (heap_start + (heap_of m - bytes))) (bytes / PAGE_SIZE) p

  abbrev freed_ledger : Ledger
  freed_ledger = remove (in_run (caller_place m (heap_start + (heap_of m - bytes))) (bytes / PAGE_SIZE)) m.ledger

  freed_like : IsLikeLedger m freed_ledger
  freed_like = like_removed m (in_run (caller_place m (heap_start + (heap_of m - bytes))) (bytes / PAGE_SIZE)) h
      (can_remove m.processes m.ledger (caller_place m (heap_start + (heap_of m - bytes))) (bytes / PAGE_SIZE) loan)

  whole_now : heap_of m % 4096 ≡ 0
  whole_now = h.body.heaps.whole m.cursor.pid

  within_now : heap_of m ≤ 16777216
  within_now = h.body.heaps.within m.cursor.pid

  kept_below : (p : Place) (page : Page) → (b : Bool) → freed_run p ≡ b → (if b then None else m.ledger.home p) ≡ Some page
      → p.pid.0 ≡ m.cursor.pid.0 → in_window Heap p.vpn.0 ≡ true → p.vpn.0 < 131072 + (heap_of m - bytes) / 4096
  kept_below p page true q e same inside = absurd (none-some page e)
  kept_below p page false q e same inside =
      let low : p.vpn.0 < 131072 + heap_of m / 4096 =
      subst (λ k. p.vpn.0 < 131072 + (m.process k).heap / 4096) same (h.body.heaps.below p page e inside) in
      elim (cases_lt p.vpn.0 (131072 + (heap_of m - bytes) / 4096)) [
        | inl lt ↦ lt
        | inr ge ↦
            let at : (536870912 + (heap_of m - bytes)) / 4096 ≡ 131072 + (heap_of m - bytes) / 4096 = start_page (heap_of m - bytes) in
            let sum : (heap_of m - bytes) / 4096 + bytes / 4096 ≡ heap_of m / 4096 = pages_less (heap_of m) bytes whole_now al le in
            let run : IsInRun (caller_place m (heap_start + (heap_of m - bytes))) (bytes / PAGE_SIZE) p =
            record { pid = same; from = omega arith; to = omega arith } in
            absurd (false≢true (sym q ∙ in_run-from (caller_place m (heap_start + (heap_of m - bytes))) (bytes / PAGE_SIZE) p run))
      ]

  freed_heap : MayHeap m m.cursor.pid (heap_of m - bytes)
  freed_heap = record {
    whole = aligned_less (heap_of m) bytes whole_now al le;
    within = let now : heap_of m ≤ 16777216 = within_now in omega arith;
    lives = ready_lives m h m.cursor r;
  }

  freed_stands : (p : Place) (page : Page) → freed_ledger.home p ≡ Some page → MayStandBelow m (heap_at m m.cursor.pid (heap_of m - bytes)) p
  unfolding remove
  freed_stands p page e =
      let stood = freed_like.stand p page e in
      stands_at m m.cursor.pid (heap_of m - bytes) p stood.lives (kept_below p page (freed_run p) refl e) (λ other. stood.below)

  decreased_keeps : Keeps m (Served (decrease_served m bytes))
  decreased_keeps =
      heap_served m (heap_of m - bytes) freed_ledger plain_words h r
      (one_heap m freed_ledger m.cursor.pid (heap_of m - bytes) h freed_heap freed_like.lawful freed_like.same freed_stands)

decrease_served_keeps : (m : Machine) (bytes : ℕ) → Matched m → ready_at m m.cursor ≡ true
    → first_refusal (decrease_refusals m bytes) ≡ None → Keeps m (Served (decrease_served m bytes))
decrease_served_keeps m bytes h r e =
    let loan = any_on_loan m.processes m.ledger (caller_place m (heap_start + (heap_of m - bytes))) (bytes / PAGE_SIZE) in
    let third = (loan, ShareViolation) ∷ [] in
    let second = (nat_lt (heap_of m) bytes, InvalidLimit) ∷ third in
    let e1 = none_holds (not (is_aligned bytes)) BadAlignment second e in
    let e2 = none_holds (nat_lt (heap_of m) bytes) InvalidLimit third e1.1 in
    let e3 = none_holds loan ShareViolation [] e2.1 in
    decreased_keeps m h r bytes (eqb-true (bytes % PAGE_SIZE) 0 (not_false (is_aligned bytes) e1.0))
    (ltb-false (heap_of m) bytes e2.0) e3.0

pub decrease_keeps : (m : Machine) (w : List ℕ) → Matched m → ready_at m m.cursor ≡ true → Keeps m (decrease_call m w)
unfolding decrease_call
decrease_keeps m w h r =
    unless_refused_keeps m h (decrease_refusals m (heap_bytes w)) (Served (decrease_served m (heap_bytes w)))
    (decrease_served_keeps m (heap_bytes w) h r)

-- ---- IncreaseHeap

aligned_more : (h b : ℕ) → h % 4096 ≡ 0 → b % 4096 ≡ 0 → (h + b) % 4096 ≡ 0
aligned_more h b eh eb = omega arith

pages_more : (h b : ℕ) → h % 4096 ≡ 0 → b % 4096 ≡ 0 → (h + b) / 4096 ≡ h / 4096 + b / 4096
pages_more h b eh eb = omega arith

most_pages : (s : ℕ) → s ≤ 16777216 → s / 4096 ≤ 4096
most_pages s le = omega arith

-- a page number of the heap is in its window alone
heap_window : (v : ℕ) → 131072 ≤ v → v < 135168 → (in_window Heap v ≡ true) × (in_window Message v ≡ false)
heap_window v low high = (
  and_from (nat_le 131072 v) (nat_le v 135167) (le-leb 131072 v low) (le-leb v 135167 (omega arith)),
  ap (λ b. b && nat_le v 266239) (lt-leb 262144 v (omega arith)),
)

module _ (m : Machine) (h : Matched m) (r : ready_at m m.cursor ≡ true) (bytes : ℕ) (al : bytes % 4096 ≡ 0)
    (le : heap_of m + bytes ≤ 16777216) (room : pages m.processes m.ledger + bytes / PAGE_SIZE ≤ m.capacity) where
  heap_whole : heap_of m % 4096 ≡ 0
  heap_whole = h.body.heaps.whole m.cursor.pid

  -- what a place of the new run is
  record IsNew (p : Place) : Type 0 where
    own : p.pid.0 ≡ m.cursor.pid.0
    from : 131072 + heap_of m / 4096 ≤ p.vpn.0
    to : p.vpn.0 < 131072 + (heap_of m + bytes) / 4096
    inside : in_window Heap p.vpn.0 ≡ true
    outside : in_window Message p.vpn.0 ≡ false

  new_place : (p : Place) → in_run (caller_place m (heap_start + heap_of m)) (bytes / PAGE_SIZE) p ≡ true → IsNew p
  new_place p e =
      let run = in_run-true (caller_place m (heap_start + heap_of m)) (bytes / PAGE_SIZE) p e in
      let low : (536870912 + heap_of m) / 4096 ≤ p.vpn.0 = run.from in
      let high : p.vpn.0 < (536870912 + heap_of m) / 4096 + bytes / 4096 = run.to in
      let at : (536870912 + heap_of m) / 4096 ≡ 131072 + heap_of m / 4096 = start_page (heap_of m) in
      let sum : (heap_of m + bytes) / 4096 ≡ heap_of m / 4096 + bytes / 4096 = pages_more (heap_of m) bytes heap_whole al in
      let most : (heap_of m + bytes) / 4096 ≤ 4096 = most_pages (heap_of m + bytes) le in
      let from : 131072 + heap_of m / 4096 ≤ p.vpn.0 = omega arith in
      let to : p.vpn.0 < 131072 + (heap_of m + bytes) / 4096 = omega arith in
      let window = heap_window p.vpn.0 (omega arith) (omega arith) in
      record { own = run.pid; from = from; to = to; inside = window.0; outside = window.1 }

  alive_now : is_living m m.cursor.pid ≡ true
  alive_now = ready_lives m h m.cursor r

  new_lives : (p : Place) → IsNew p → is_living m p.pid ≡ true
  new_lives p new = ap (λ k. (m.process k).alive) new.own ∙ alive_now

  -- no page has its home there, since those of the heap stand below
  new_no_home : (p : Place) → IsNew p → (o : Option Page) → m.ledger.home p ≡ o → o ≡ None
  new_no_home p new None e = refl
  new_no_home p new (Some page) e =
      let low : p.vpn.0 < 131072 + heap_of m / 4096 =
      subst (λ k. p.vpn.0 < 131072 + (m.process k).heap / 4096) new.own (h.body.heaps.below p page e new.inside) in
      let from : 131072 + heap_of m / 4096 ≤ p.vpn.0 = new.from in
      absurd (omega arith)

  new_lies : (p : Place) → IsNew p → is_place_in m.processes Heap p ≡ true
  new_lies p new =
      and_from (is_pid m.processes p.pid.0) (in_window Heap p.vpn.0)
      (ap (is_pid m.processes) new.own ∙ h.body.processes.pids m.cursor.pid alive_now) new.inside

  pub can_grow : CanMake m.processes m.capacity m.ledger (caller_place m (heap_start + heap_of m)) (bytes / PAGE_SIZE)
  can_grow = record {
    lies = λ p e. is_place_in-user m.processes Heap p (new_lies p (new_place p e));
    free = λ p e. let new = new_place p e in
        free_outside m p h (new_no_home p new (m.ledger.home p) refl) new.outside;
    room = room;
  }

  grown_heap : MayHeap m m.cursor.pid (heap_of m + bytes)
  grown_heap = record { whole = aligned_more (heap_of m) bytes heap_whole al; within = le; lives = alive_now }

  abbrev grown_ledger : Ledger
  grown_ledger = make (caller_place m (heap_start + heap_of m)) (bytes / PAGE_SIZE) (record { w = true; x = false }) m.ledger

  -- those that stood before stand below the old end, and so below the new one
  old_below : (p : Place) (page : Page) → m.ledger.home p ≡ Some page → p.pid.0 ≡ m.cursor.pid.0 → in_window Heap p.vpn.0 ≡ true
      → p.vpn.0 < 131072 + (heap_of m + bytes) / 4096
  old_below p page e same inside =
      let low : p.vpn.0 < 131072 + heap_of m / 4096 =
      subst (λ k. p.vpn.0 < 131072 + (m.process k).heap / 4096) same (h.body.heaps.below p page e inside) in
      let sum : (heap_of m + bytes) / 4096 ≡ heap_of m / 4096 + bytes / 4096 = pages_more (heap_of m) bytes heap_whole al in
      omega arith

  grown_stands : (p : Place) (page : Page) → grown_ledger.home p ≡ Some page → MayStandBelow m (heap_at m m.cursor.pid (heap_of m + bytes)) p
  grown_stands p page e = made_stands m (caller_place m (heap_start + heap_of m)) (bytes / PAGE_SIZE) (record { w = true; x = false })
      (MayStandBelow m (heap_at m m.cursor.pid (heap_of m + bytes))) new old p page e
    where
      new : (q : Place) → in_run (caller_place m (heap_start + heap_of m)) (bytes / PAGE_SIZE) q ≡ true
          → MayStandBelow m (heap_at m m.cursor.pid (heap_of m + bytes)) q
      new q inside =
          let here = new_place q inside in
          stands_at m m.cursor.pid (heap_of m + bytes) q (new_lives q here) (λ same window. here.to)
          (λ other window. absurd (false≢true (sym other ∙ eq-eqb q.pid.0 m.cursor.pid.0 here.own)))

      old : (q : Place) (there : Page) → m.ledger.home q ≡ Some there → MayStandBelow m (heap_at m m.cursor.pid (heap_of m + bytes)) q
      old q there stood =
          stands_at m m.cursor.pid (heap_of m + bytes) q (h.body.ledger.homes_live q there stood) (old_below q there stood)
          (λ other. h.body.heaps.below q there stood)

  increased_keeps : Keeps m (Served (increase_served m bytes))
  increased_keeps =
      heap_served m (heap_of m + bytes) grown_ledger (range_words (heap_start + heap_of m) bytes) h r
      (one_heap m grown_ledger m.cursor.pid (heap_of m + bytes) h grown_heap
      (make_lawful m.processes m.capacity (caller_place m (heap_start + heap_of m)) (bytes / PAGE_SIZE) (record { w = true; x = false }) m.ledger
      h.body.ledger.lawful can_grow)
      (make_loans m.processes m.capacity (caller_place m (heap_start + heap_of m)) (bytes / PAGE_SIZE) (record { w = true; x = false }) m.ledger can_grow)
      grown_stands)

increase_served_keeps : (m : Machine) (bytes : ℕ) → Matched m → ready_at m m.cursor ≡ true
    → first_refusal (increase_refusals m bytes) ≡ None → Keeps m (Served (increase_served m bytes))
increase_served_keeps m bytes h r e =
    let third = (are_too_many m (bytes / PAGE_SIZE), OutOfMemory) ∷ [] in
    let second = (nat_lt heap_limit (heap_of m + bytes), InvalidLimit) ∷ third in
    let e1 = none_holds (not (is_aligned bytes)) BadAlignment second e in
    let e2 = none_holds (nat_lt heap_limit (heap_of m + bytes)) InvalidLimit third e1.1 in
    let e3 = none_holds (are_too_many m (bytes / PAGE_SIZE)) OutOfMemory [] e2.1 in
    increased_keeps m h r bytes (eqb-true (bytes % PAGE_SIZE) 0 (not_false (is_aligned bytes) e1.0))
    (ltb-false heap_limit (heap_of m + bytes) e2.0) (ltb-false m.capacity (pages m.processes m.ledger + bytes / PAGE_SIZE) e3.0)

pub increase_keeps : (m : Machine) (w : List ℕ) → Matched m → ready_at m m.cursor ≡ true → Keeps m (increase_call m w)
unfolding increase_call
increase_keeps m w h r =
    unless_refused_keeps m h (increase_refusals m (heap_bytes w)) (Served (increase_served m (heap_bytes w)))
    (increase_served_keeps m (heap_bytes w) h r)
