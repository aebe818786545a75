-- MapMemory keeps the machine matched.
use Rattle.std.proofs.Common.{◌≡◌, ℕ, ◌+◌, ◌*◌, ◌/◌, ◌<◌, ◌≤◌, Bool, true, false, List, [], ◌∷◌, Option, Some, None, refl, sym, ap, ◌∙◌, arith, subst}
use Rattle.std.specs.Prelude.{◌-◌, ◌==◌, ◌&&◌, ◌||◌, if◌then◌else◌, is_none, is_some, nat_le, not, unwrap_or}
use Rattle.std.proofs.lemmas.Bool.{false≢true, and_from, and_parts, eqb-true, le-leb, leb-true, lt-leb, ltb-false, or_parts}
use Rattle.xk_base.specs.declared.errors.XousError.TheVariants.{BadAlignment, BadAddress, OutOfMemory, MemoryInUse, InvalidSyscall}
use Rattle.xk_base.specs.declared.ids.Place.{Place}
use Rattle.xk_base.specs.declared.ids.Vpn.{Vpn}
use Rattle.xk_base.specs.declared.limits.TheConstants.{PAGE_SIZE, CONSOLE_ADDRESS}
use Rattle.xk_base.specs.declared.pages.Right.{Right}
use Rattle.xk_base.specs.declared.windows.Window.TheVariants.{Heap, Map}
use Rattle.syscall_codec.specs.CallWords.{map_phys, map_virt, map_size, map_flags}
use Rattle.syscall_codec.specs.Flags.{flag_execute, has_flag, right_of}
use Rattle.syscall_codec.specs.ReplyWords.{range_words}
use Rattle.xk_base.specs.Numbers.Windows.{in_window}
use Rattle.xk_base.specs.Tables.Circle.{is_pid}
use Rattle.ledger_model.specs.Conditions.{CanMakeConsole, is_console}
use Rattle.ledger_model.specs.Ledger.{Console, Page, pages}
use Rattle.ledger_model.specs.LeastRun.{least_run}
use Rattle.ledger_model.specs.Places.{first_place, in_run, is_place_in, same_place}
use Rattle.ledger_model.specs.Reach.{is_free}
use Rattle.ledger_model.specs.RunTests.{any_used, console_mapped, fits_window}
use Rattle.ledger_model.specs.Steps.{make_console, new_page}
use Rattle.ledger_model.proofs.Runs.LeastRunLemmas.{is_free_run-each, least_run-Some}
use Rattle.ledger_model.proofs.Stepping.MakingLemmas.{make_console_lawful, make_console_loans}
use Rattle.ledger_model.proofs.Loans.NumberingLemmas.{first_place-none, is_place_in-user}
use Rattle.ledger_model.proofs.PlaceLemmas.{in_run-from, in_run-index, in_run-true, place_from, same_place-true}
use Rattle.machine_model.specs.State.Changes.{Served, first_refusal}
use Rattle.machine_model.specs.State.Machine.{Machine}
use Rattle.machine_model.specs.Runs.Matched.{Matched, is_living}
use Rattle.machine_model.specs.Calling.MemoryCalls.{are_bad_flags, are_too_many, caller_place, is_bad_range, map_address, map_call, map_refusals, map_served, mapped_ledger}
use Rattle.machine_model.specs.State.Order.{ready_at}
use Rattle.machine_laws.proofs.Calling.AnsweredCallLemmas.{Keeps}
use Rattle.machine_laws.proofs.Calling.PageChangeLemmas.{IsLikeLedger, MayStand, ledger_served, stands_now}
use Rattle.machine_laws.proofs.Calling.MadePageLemmas.{like_made}
use Rattle.machine_laws.proofs.Calling.ThreadCallLemmas.{unless_refused_keeps}
use Rattle.machine_laws.proofs.Threading.ThreadAnswerLemmas.{ready_lives}
use Rattle.machine_laws.proofs.Calling.RunRefusalLemmas.{none_holds, not_false, run_free}

-- ---- where the pages go

-- n free places of the caller's Map window
pub record IsFreeRun (m : Machine) (n : ℕ) (first : Place) : Type 0 where
  pub own : first.pid.0 ≡ m.cursor.pid.0
  pub low : 393216 ≤ first.vpn.0
  pub high : first.vpn.0 + n ≤ 397312
  pub free : (p : Place) → in_run first n p ≡ true → is_free m.processes m.ledger p ≡ true

least_free : (m : Machine) (n : ℕ) (v : Vpn) → least_run m.processes m.ledger m.cursor.pid Map n ≡ Some v
    → IsFreeRun m n (record { pid = m.cursor.pid; vpn = v })
least_free m n v e =
    let run = least_run-Some m.processes m.ledger m.cursor.pid Map n v e in
    let first : Place = record { pid = m.cursor.pid; vpn = v } in
    record {
      own = refl;
      low = run.low;
      high = run.high;
      free = λ p inside.
          let at = in_run-index first n p inside in
          ap (is_free m.processes m.ledger) at.1 ∙ is_free_run-each m.processes m.ledger first n run.free (p.vpn.0 - first.vpn.0) at.0;
    }

page_of_start : (v : ℕ) → v ≡ 4096 * v / 4096
page_of_start v = omega arith

pub map_run : (m : Machine) (virt n : ℕ) (b : Bool) (o : Option Vpn) → least_run m.processes m.ledger m.cursor.pid Map n ≡ o
    → not b && not (fits_window Map (virt / PAGE_SIZE) n) ≡ false
    → not b && any_used m.processes m.ledger (caller_place m virt) n ≡ false
    → b && is_none o ≡ false
    → IsFreeRun m n (caller_place m (if b then PAGE_SIZE * (unwrap_or o (record { 0 = 0 })).0 else virt))
map_run m virt n true None e fits used found = absurd (false≢true (sym found))
map_run m virt n true (Some v) e fits used found =
    let first : Place = record { pid = m.cursor.pid; vpn = v } in
    subst (IsFreeRun m n) (place_from first (caller_place m (4096 * v.0)) refl (page_of_start v.0)) (least_free m n v e)
map_run m virt n false o e fits used found =
    let fit : nat_le 393216 (virt / 4096) && nat_le (virt / 4096 + n) 397312 ≡ true = not_false (fits_window Map (virt / PAGE_SIZE) n) fits in
    let parts = and_parts (nat_le 393216 (virt / 4096)) (nat_le (virt / 4096 + n) 397312) fit in
    record {
      own = refl;
      low = leb-true 393216 (virt / 4096) parts.0;
      high = leb-true (virt / 4096 + n) 397312 parts.1;
      free = run_free m.processes m.ledger (caller_place m virt) n used;
    }

-- ---- the pages

map_window : (v : ℕ) → 393216 ≤ v → v < 397312 → (in_window Map v ≡ true) × (in_window Heap v ≡ false)
map_window v low high = (
  and_from (nat_le 393216 v) (nat_le v 397311) (le-leb 393216 v low) (le-leb v 397311 (omega arith)),
  ap (λ b. b && nat_le v 135167) (le-leb 131072 v (omega arith)) ∙ lt-leb v 135167 (omega arith),
)

module _ (m : Machine) (h : Matched m) (r : ready_at m m.cursor ≡ true) (n : ℕ) (first : Place) (run : IsFreeRun m n first) where
  alive_now : is_living m m.cursor.pid ≡ true
  alive_now = ready_lives m h m.cursor r

  record IsMapped (p : Place) : Type 0 where
    own : p.pid.0 ≡ m.cursor.pid.0
    inside : in_window Map p.vpn.0 ≡ true
    outside : in_window Heap p.vpn.0 ≡ false

  mapped_place : (p : Place) → in_run first n p ≡ true → IsMapped p
  mapped_place p e =
      let at = in_run-true first n p e in
      let from : first.vpn.0 ≤ p.vpn.0 = at.from in
      let to : p.vpn.0 < first.vpn.0 + n = at.to in
      let low : 393216 ≤ first.vpn.0 = run.low in
      let high : first.vpn.0 + n ≤ 397312 = run.high in
      let window = map_window p.vpn.0 (omega arith) (omega arith) in
      record { own = at.pid ∙ run.own; inside = window.0; outside = window.1 }

  mapped_lies : (p : Place) → in_run first n p ≡ true → is_place_in m.processes Map p ≡ true
  mapped_lies p e =
      let new = mapped_place p e in
      and_from (is_pid m.processes p.pid.0) (in_window Map p.vpn.0)
      (ap (is_pid m.processes) new.own ∙ h.body.processes.pids m.cursor.pid alive_now) new.inside

  mapped_stands : (p : Place) → in_run first n p ≡ true → MayStand m p
  mapped_stands p e = let new = mapped_place p e in record {
    lives = ap (λ k. (m.process k).alive) new.own ∙ alive_now;
    below = λ inside. absurd (false≢true (sym new.outside ∙ inside));
  }

  -- no page is the console where none is found
  none_console : console_mapped m.processes m.ledger ≡ false → (p : Place) → is_console (m.ledger.home p) ≡ false
  unfolding console_mapped
  none_console e p = go (m.ledger.home p) refl
    where
      no_place : (o : Option Place) → is_some o ≡ false → o ≡ None
      no_place None q = refl
      no_place (Some q) s = absurd (false≢true (sym s))

      go : (o : Option Page) → m.ledger.home p ≡ o → is_console o ≡ false
      go None q = refl
      go (Some page) q =
          ap is_console (sym q)
          ∙ first_place-none m.processes (λ p. is_console (m.ledger.home p))
          (no_place (first_place m.processes (λ p. is_console (m.ledger.home p))) e) p (h.body.ledger.lawful.home_lies p page q)

  like_console : (w : Bool) → in_run first n first ≡ true → console_mapped m.processes m.ledger ≡ false
      → IsLikeLedger m (make_console first w m.ledger)
  unfolding make_console
  like_console w e none =
      let can : CanMakeConsole m.processes m.ledger first =
      record { lies = mapped_lies first e; free = run.free first e; first = none_console none } in
      record {
        lawful = make_console_lawful m.processes m.capacity first w m.ledger h.body.ledger.lawful can;
        same = make_console_loans m.processes first w m.ledger can;
        stand = λ p page q. go p page (same_place p first) refl q;
      }
    where
      go : (p : Place) (page : Page) (b : Bool) → same_place p first ≡ b
          → (if b then Some (new_page (record { w = w; x = false }) Console) else m.ledger.home p) ≡ Some page → MayStand m p
      go p page true s q = subst (MayStand m) (sym (same_place-true p first s)) (mapped_stands first e)
      go p page false s q = stands_now m h p page q

  like_mapped : (console : Bool) (right : Right) → (console ≡ true → in_run first n first ≡ true)
      → console && console_mapped m.processes m.ledger ≡ false → not console && are_too_many m n ≡ false
      → IsLikeLedger m (mapped_ledger console first n right m.ledger)
  like_mapped true right one none room = like_console right.w (one refl) none
  like_mapped false right one none room =
      like_made m first n right h (record {
        lies = λ p e. is_place_in-user m.processes Map p (mapped_lies p e);
        free = run.free;
        room = ltb-false m.capacity (pages m.processes m.ledger + n) room;
      }) mapped_stands

-- ---- the call

-- what the refusals leave true
pub record IsMappable (m : Machine) (phys virt size flags : ℕ) : Type 0 where
  pub one : (phys == CONSOLE_ADDRESS) && (not (size == PAGE_SIZE) || has_flag flags flag_execute) ≡ false
  pub none : (phys == CONSOLE_ADDRESS) && console_mapped m.processes m.ledger ≡ false
  pub fits : not (virt == 0) && not (fits_window Map (virt / PAGE_SIZE) (size / PAGE_SIZE)) ≡ false
  pub unused : not (virt == 0) && any_used m.processes m.ledger (caller_place m virt) (size / PAGE_SIZE) ≡ false
  pub found : (virt == 0) && is_none (least_run m.processes m.ledger m.cursor.pid Map (size / PAGE_SIZE)) ≡ false
  pub room : not (phys == CONSOLE_ADDRESS) && are_too_many m (size / PAGE_SIZE) ≡ false

pub mappable : (m : Machine) (phys virt size flags : ℕ) → first_refusal (map_refusals m phys virt size flags) ≡ None
    → IsMappable m phys virt size flags
mappable m phys virt size flags e =
    let console = phys == CONSOLE_ADDRESS in
    let n = size / PAGE_SIZE in
    let b4 = console && (not (size == PAGE_SIZE) || has_flag flags flag_execute) in
    let b5 = console && console_mapped m.processes m.ledger in
    let b6 = not (virt == 0) && not (fits_window Map (virt / PAGE_SIZE) n) in
    let b7 = not (virt == 0) && any_used m.processes m.ledger (caller_place m virt) n in
    let b8 = (virt == 0) && is_none (least_run m.processes m.ledger m.cursor.pid Map n) in
    let b9 = not console && are_too_many m n in
    let r9 = (b9, OutOfMemory) ∷ [] in
    let r8 = (b8, MemoryInUse) ∷ r9 in
    let r7 = (b7, MemoryInUse) ∷ r8 in
    let r6 = (b6, BadAddress) ∷ r7 in
    let r5 = (b5, MemoryInUse) ∷ r6 in
    let r4 = (b4, BadAddress) ∷ r5 in
    let r3 = (not (phys == 0) && not console, BadAddress) ∷ r4 in
    let r2 = (are_bad_flags flags, InvalidSyscall) ∷ r3 in
    let e1 = none_holds (is_bad_range virt size) BadAlignment r2 e in
    let e2 = none_holds (are_bad_flags flags) InvalidSyscall r3 e1.1 in
    let e3 = none_holds (not (phys == 0) && not console) BadAddress r4 e2.1 in
    let e4 = none_holds b4 BadAddress r5 e3.1 in
    let e5 = none_holds b5 MemoryInUse r6 e4.1 in
    let e6 = none_holds b6 BadAddress r7 e5.1 in
    let e7 = none_holds b7 MemoryInUse r8 e6.1 in
    let e8 = none_holds b8 MemoryInUse r9 e7.1 in
    let e9 = none_holds b9 OutOfMemory [] e8.1 in
    record { one = e4.0; none = e5.0; fits = e6.0; unused = e7.0; found = e8.0; room = e9.0 }

one_page : (size : ℕ) → size ≡ 4096 → size / 4096 ≡ 1
one_page size e = omega arith

-- a run of one page has its first place
first_in : (first : Place) (size : ℕ) → size ≡ 4096 → in_run first (size / PAGE_SIZE) first ≡ true
first_in first size e =
    let one : size / 4096 ≡ 1 = one_page size e in
    in_run-from first (size / PAGE_SIZE) first (record { pid = refl; from = omega arith; to = omega arith })

pub console_one : (console x : Bool) (first : Place) (size : ℕ) → console && (not (size == PAGE_SIZE) || x) ≡ false → console ≡ true
    → in_run first (size / PAGE_SIZE) first ≡ true
console_one true x first size e q =
    first_in first size (eqb-true size PAGE_SIZE (not_false (size == PAGE_SIZE) (or_parts (not (size == PAGE_SIZE)) x e).0))
console_one false x first size e q = absurd (false≢true q)

map_served_keeps : (m : Machine) (phys virt size flags : ℕ) → Matched m → ready_at m m.cursor ≡ true
    → first_refusal (map_refusals m phys virt size flags) ≡ None
    → Keeps m (Served (map_served m phys virt size flags))
map_served_keeps m phys virt size flags h r e =
    let can = mappable m phys virt size flags e in
    let first = caller_place m (map_address m virt size) in
    let run : IsFreeRun m (size / PAGE_SIZE) first =
    map_run m virt (size / PAGE_SIZE) (virt == 0) (least_run m.processes m.ledger m.cursor.pid Map (size / PAGE_SIZE)) refl can.fits can.unused can.found in
    ledger_served m (mapped_ledger (phys == CONSOLE_ADDRESS) first (size / PAGE_SIZE) (right_of flags) m.ledger)
    (range_words (map_address m virt size) size) h r
    (like_mapped m h r (size / PAGE_SIZE) first run (phys == CONSOLE_ADDRESS) (right_of flags)
    (console_one (phys == CONSOLE_ADDRESS) (has_flag flags flag_execute) first size can.one) can.none can.room)

pub map_keeps : (m : Machine) (w : List ℕ) → Matched m → ready_at m m.cursor ≡ true → Keeps m (map_call m w)
unfolding map_call
map_keeps m w h r =
    unless_refused_keeps m h (map_refusals m (map_phys w) (map_virt w) (map_size w) (map_flags w))
    (Served (map_served m (map_phys w) (map_virt w) (map_size w) (map_flags w)))
    (map_served_keeps m (map_phys w) (map_virt w) (map_size w) (map_flags w) h r)
