-- MapMemory: where its pages go, and what the answers of the memory are to its caller.
use Rattle.std.proofs.Common.{◌≡◌, ◌≢◌, ℕ, ◌+◌, ◌*◌, ◌/◌, ◌<◌, ◌≤◌, if◌then◌else◌, Bool, true, false, not, List, [], ◌∷◌, Option, Some, None, refl, sym, ap, ◌∙◌, arith, nat_lt}
use Rattle.std.specs.Prelude.{◌%◌, ◌==◌, ◌&&◌, ◌||◌, Result, Ok, Err, is_none, unwrap_or}
use Rattle.std.proofs.lemmas.Bool.{false≢true, eq-eqb, eqb-true, eqb-false, ne_eqb, or_right}
use Rattle.xk_base.specs.declared.errors.XousError.{XousError}
use Rattle.xk_base.specs.declared.errors.XousError.TheVariants.{BadAlignment, BadAddress, OutOfMemory, MemoryInUse, InvalidSyscall}
use Rattle.xk_base.specs.declared.ids.Pid.{Pid}
use Rattle.xk_base.specs.declared.ids.Place.{Place}
use Rattle.xk_base.specs.declared.ids.Vpn.{Vpn}
use Rattle.xk_base.specs.declared.limits.TheConstants.{PAGE_SIZE, CONSOLE_ADDRESS}
use Rattle.xk_base.specs.declared.pages.Right.{Right}
use Rattle.xk_base.specs.declared.windows.Window.TheVariants.{Map}
use Rattle.syscall_codec.specs.Flags.{flag_execute, has_flag, right_of}
use Rattle.syscall_codec.specs.ReplyWords.{range_words}
use Rattle.ledger_model.specs.Ledger.{Ledger, pages}
use Rattle.ledger_model.specs.LeastRun.{least_run}
use Rattle.ledger_model.specs.Loans.{bare}
use Rattle.ledger_model.specs.RunTests.{any_used, console_mapped, fits_window}
use Rattle.ledger_model.specs.Steps.{make, make_console}
use Rattle.machine_model.specs.State.Changes.{Outcome, Refused, Served, unless_refused}
use Rattle.machine_model.specs.State.Machine.{Machine}
use Rattle.machine_model.specs.Calling.MemoryCalls.{are_bad_flags, are_too_many, caller_place, is_bad_range, map_refusals, map_served, mapped_ledger, with_ledger}
use Rattle.sv32_space.specs.Tie.{Held}
use Rattle.syscall_codec.specs.declared.replies.Reply.TheVariants.{Range}
use Rattle.vm_memory.specs.declared.memory.Memory.{Memory}
use Rattle.vm_memory.specs.Pages.Making.{console_answer, if_room, make_answer, page_place, run_found, run_place}
use Rattle.vm_memory.specs.Memory.{frames_for_pages, ledger, processes, room_in, size}
use Rattle.vm_memory.proofs.Changing.AnsweringLemmas.{run_answered}
use Rattle.xk_base.specs.Tables.Circle.{is_pid}
use Rattle.xk_kernel.specs.Calling.{CrowdsBy, ServesAs, outcome_of}
use Rattle.xk_kernel.specs.State.{machine_of}
use Rattle.xk_kernel.specs.declared.kernel.Kernel.{Kernel}
use Rattle.xk_kernel.specs.declared.kernel.calls.CallerFate.TheVariants.{Answered}
use Rattle.xk_kernel.proofs.Memory.MadeLemmas.{crowds_by, made_comes, made_crowded}
use Rattle.xk_kernel.proofs.Memory.MemoryCallLemmas.{machine_with_mem, on_ledger, with_mem}

-- ---- ranges

good_parts : (a b c : Bool) → (a || not b || not c) ≡ false → (a ≡ false) × (b ≡ true) × (c ≡ true)
good_parts false true true e = (refl, refl, refl)
good_parts false true false e = absurd (false≢true (sym e))
good_parts false false c e = absurd (false≢true (sym e))
good_parts true true true e = absurd (false≢true (sym e))
good_parts true true false e = absurd (false≢true (sym e))
good_parts true false c e = absurd (false≢true (sym e))

-- a range has a page at least, and begins with one
pub record IsRange (address bytes : ℕ) : Type 0 where
  pub some : 1 ≤ bytes / 4096
  pub begins : address % 4096 ≡ 0

pub good_range : (address bytes : ℕ) → is_bad_range address bytes ≡ false → IsRange address bytes
good_range address bytes e =
    let parts = good_parts (bytes == 0) (bytes % 4096 == 0) (address % 4096 == 0) e in
    let apart = eqb-false bytes 0 parts.0 in
    let whole : bytes % 4096 ≡ 0 = eqb-true (bytes % 4096) 0 parts.1 in
    record { some = omega (arith, apart, whole); begins = eqb-true (address % 4096) 0 parts.2 }

-- ---- the run, by the tests of its places

abbrev run_by : Bool → Bool → Bool → Option Vpn → Vpn → Result Vpn XousError
run_by true fits used least v = run_found least
run_by false fits used least v = if not fits then Err BadAddress else (if used then Err MemoryInUse else Ok v)

run_asked : (procs : ℕ) (l : Ledger) (pid : Pid) (n : ℕ) (v : Vpn) (b : Bool)
    → run_place procs l pid Map (if b then None else Some v) n
    ≡ run_by b (fits_window Map v.0 n) (any_used procs l (page_place pid v) n) (least_run procs l pid Map n) v
run_asked procs l pid n v true = refl
run_asked procs l pid n v false = refl

-- the address of the run that was answered
address_is : (b fits used : Bool) (least : Option Vpn) (virt : ℕ) (first : Vpn) → Ok first ≡ run_by b fits used least (record { 0 = virt / 4096 })
    → virt % 4096 ≡ 0 → (if b then PAGE_SIZE * (unwrap_or least (record { 0 = 0 })).0 else virt) ≡ 4096 * first.0
address_is true fits used None virt first e al = cc
address_is true fits used (Some v) virt first e al = let same : v ≡ first = cc in ap (λ (x : Vpn). 4096 * x.0) same
address_is false false used least virt first e al = cc
address_is false true true least virt first e al = cc
address_is false true false least virt first e al =
    let same : record { 0 = virt / 4096 } ≡ first = cc in
    let here : virt / 4096 ≡ first.0 = ap (λ (x : Vpn). x.0) same in
    omega (arith, here, al)

-- ---- what an answer is to the caller

abbrev told : Result Vpn XousError → Outcome → Outcome
told (Err error) o = Refused error
told (Ok first) o = o

abbrev refusals_by : Bool → Bool → Bool → Bool → Bool → Bool → Bool → Bool → Bool → Bool → Bool → List (Bool × XousError)
refusals_by bad unknown zero console wide mapped b fits used none over =
    (bad, BadAlignment) ∷ (unknown, InvalidSyscall) ∷ (not zero && not console, BadAddress) ∷ (console && wide, BadAddress) ∷ (console && mapped, MemoryInUse)
    ∷ (not b && not fits, BadAddress) ∷ (not b && used, MemoryInUse) ∷ (b && none, MemoryInUse) ∷ (not console && over, OutOfMemory) ∷ []

pages_told : (bad unknown wide mapped b fits used over : Bool) (least : Option Vpn) (v : Vpn) (o : Outcome) → bad ≡ false → unknown ≡ false
    → told (if_room over (run_by b fits used least v)) o ≡ unless_refused (refusals_by bad unknown true false wide mapped b fits used (is_none least) over) o
pages_told true unknown wide mapped b fits used over least v o e f = absurd (false≢true (sym e))
pages_told false true wide mapped b fits used over least v o e f = absurd (false≢true (sym f))
pages_told false false wide mapped true fits used over None v o e f = refl
pages_told false false wide mapped true fits used true (Some x) v o e f = refl
pages_told false false wide mapped true fits used false (Some x) v o e f = refl
pages_told false false wide mapped false false used over least v o e f = refl
pages_told false false wide mapped false true true over least v o e f = refl
pages_told false false wide mapped false true false true least v o e f = refl
pages_told false false wide mapped false true false false least v o e f = refl

console_told : (bad unknown zero wide mapped b fits used over : Bool) (least : Option Vpn) (v : Vpn) (o : Outcome) → bad ≡ false → unknown ≡ false → wide ≡ false
    → told (if mapped then Err MemoryInUse else run_by b fits used least v) o ≡ unless_refused (refusals_by bad unknown zero true wide mapped b fits used (is_none least) over) o
console_told true unknown zero wide mapped b fits used over least v o e f g = absurd (false≢true (sym e))
console_told false true zero wide mapped b fits used over least v o e f g = absurd (false≢true (sym f))
console_told false false zero true mapped b fits used over least v o e f g = absurd (false≢true (sym g))
console_told false false true false true b fits used over least v o e f g = refl
console_told false false false false true b fits used over least v o e f g = refl
console_told false false true false false true fits used over None v o e f g = refl
console_told false false false false false true fits used over None v o e f g = refl
console_told false false true false false true fits used over (Some x) v o e f g = refl
console_told false false false false false true fits used over (Some x) v o e f g = refl
console_told false false true false false false false used over least v o e f g = refl
console_told false false false false false false false used over least v o e f g = refl
console_told false false true false false false true true over least v o e f g = refl
console_told false false false false false false true true over least v o e f g = refl
console_told false false true false false false true false over least v o e f g = refl
console_told false false false false false false true false over least v o e f g = refl

-- ---- the call

page_of_start : (v : ℕ) → v ≡ 4096 * v / 4096
page_of_start v = omega arith

not_room : (over : Bool) (r : Result Vpn XousError) (first : Vpn) → Ok first ≡ if_room over r → Ok first ≡ r
not_room true (Ok v) first e = cc
not_room false (Ok v) first e = e
not_room over (Err x) first e = cc

module _ {W : Type 0} (held : W → Held) (k : Kernel W) (phys virt bytes flags : ℕ) (right : Right)
    (range : is_bad_range virt bytes ≡ false) (asked : (are_bad_flags flags ≡ false) × (right ≡ right_of flags)) where
  abbrev m : Machine
  m = machine_of held k

  abbrev served : Outcome
  served = Served (map_served m phys virt bytes flags)

  abbrev row : Outcome
  row = unless_refused (map_refusals m phys virt bytes flags) served

  abbrev at : Option Vpn
  at = if virt == 0 then None else Some (record { 0 = virt / 4096 })

  abbrev wide : Bool
  wide = not (bytes == PAGE_SIZE) || has_flag flags flag_execute

  abbrev mapped : Bool
  mapped = console_mapped m.processes m.ledger

  abbrev fits : Bool
  fits = fits_window Map (virt / 4096) (bytes / 4096)

  abbrev used : Bool
  used = any_used m.processes m.ledger (caller_place m virt) (bytes / 4096)

  abbrev least : Option Vpn
  least = least_run m.processes m.ledger m.cursor.pid Map (bytes / 4096)

  -- the row, by whether the memory or the console is asked for
  row_by : Bool → Bool → Outcome
  row_by zero console = unless_refused (refusals_by (is_bad_range virt bytes) (are_bad_flags flags) zero console wide mapped (virt == 0) fits used (is_none least) (are_too_many m (bytes / 4096))) served

  row_is : (zero console : Bool) → (phys == 0) ≡ zero → (phys == CONSOLE_ADDRESS) ≡ console → row ≡ row_by zero console
  unfolding row_by
  row_is zero console e f = λ i. unless_refused (refusals_by (is_bad_range virt bytes) (are_bad_flags flags) (e i) (f i) wide mapped (virt == 0) fits used (is_none least) (are_too_many m (bytes / 4096))) served

  -- neither the memory nor the console is asked for
  pub elsewhere_refused : (phys == 0) ≡ false → (phys == CONSOLE_ADDRESS) ≡ false → Refused BadAddress ≡ row
  unfolding row_by
  elsewhere_refused e f =
      sym (row_is false false e f
      ∙ (λ i. unless_refused (refusals_by (range i) (asked.0 i) false false wide mapped (virt == 0) fits used (is_none least) (are_too_many m (bytes / 4096))) served))

  -- the console has one page, and isn't executed
  pub wide_refused : (phys == CONSOLE_ADDRESS) ≡ true → wide ≡ true → Refused BadAddress ≡ row
  unfolding row_by
  wide_refused f e =
      sym (row_is (phys == 0) true refl f
      ∙ (λ i. unless_refused (refusals_by (range i) (asked.0 i) (phys == 0) true (e i) mapped (virt == 0) fits used (is_none least) (are_too_many m (bytes / 4096))) served)
      ∙ by_memory (phys == 0))
    where
      by_memory : (zero : Bool)
          → unless_refused (refusals_by false false zero true true mapped (virt == 0) fits used (is_none least) (are_too_many m (bytes / 4096))) served ≡ Refused BadAddress
      by_memory true = refl
      by_memory false = refl

  pub wide_by_size : bytes ≢ 4096 → wide ≡ true
  wide_by_size e = ap (λ b. not b || has_flag flags flag_execute) (ne_eqb bytes 4096 e)

  pub wide_by_right : right.x ≡ true → wide ≡ true
  wide_by_right e = or_right (not (bytes == PAGE_SIZE)) (has_flag flags flag_execute) (sym (ap (λ (r : Right). r.x) asked.1) ∙ e)

  -- the machine that the caller is answered with
  abbrev done : Bool → ℕ → Place → Outcome
  done console address place = Served (with_ledger m (mapped_ledger console place (bytes / 4096) (right_of flags) m.ledger) (range_words address bytes))

  served_is : (console : Bool) (first : Vpn) → (phys == CONSOLE_ADDRESS) ≡ console → Ok first ≡ run_by (virt == 0) fits used least (record { 0 = virt / 4096 })
      → done console (4096 * first.0) (page_place k.cursor.pid first) ≡ served
  unfolding machine_of
  served_is console first f e =
      let address = address_is (virt == 0) fits used least virt first e (good_range virt bytes range).begins in
      ap (λ v. done console (4096 * first.0) (record { pid = k.cursor.pid; vpn = record { 0 = v } })) (page_of_start first.0)
      ∙ (λ i. done (sym f i) (sym address i) (caller_place m (sym address i)))

  -- the run that was found
  run_is : run_place (processes k.mem) (ledger held k.mem) k.cursor.pid Map at (bytes / 4096) ≡ run_by (virt == 0) fits used least (record { 0 = virt / 4096 })
  unfolding machine_of
  run_is = run_asked (processes k.mem) (ledger held k.mem) k.cursor.pid (bytes / 4096) (record { 0 = virt / 4096 }) (virt == 0)

  -- ---- pages

  module _ (zero : (phys == 0) ≡ true) (other : (phys == CONSOLE_ADDRESS) ≡ false) where
    abbrev answer : Result Vpn XousError
    answer = make_answer (room_in k.mem) (ledger held k.mem) k.cursor.pid Map at (bytes / 4096)

    pages_row : told answer served ≡ row
    unfolding machine_of row_by
    pages_row =
        ap (λ r. told (if_room (are_too_many m (bytes / 4096)) r) served) run_is
        ∙ pages_told (is_bad_range virt bytes) (are_bad_flags flags) wide mapped (virt == 0) fits used (are_too_many m (bytes / 4096)) least (record { 0 = virt / 4096 }) served range asked.0
        ∙ sym (row_is true false zero other)

    pub map_refused : (error : XousError) → Err error ≡ answer → Refused error ≡ row
    map_refused error e = ap (λ r. told r served) e ∙ pages_row

    -- with the pages that are made
    abbrev made : Vpn → Ledger
    made first = make (page_place k.cursor.pid first) (bytes / 4096) right (ledger held k.mem)

    map_served_by : (first : Vpn) → Ok first ≡ answer
        → outcome_of k.cursor (on_ledger (made first) (machine_of held k)) (Ok (Answered (Range (4096 * first.0) bytes))) ≡ row
    unfolding machine_of
    map_served_by first a =
        ap (λ r. outcome_of k.cursor (on_ledger (make (page_place k.cursor.pid first) (bytes / 4096) r (ledger held k.mem)) (machine_of held k))
        (Ok (Answered (Range (4096 * first.0) bytes)))) asked.1
        ∙ served_is false first other (not_room (are_too_many m (bytes / 4096)) (run_place (processes k.mem) (ledger held k.mem) k.cursor.pid Map at (bytes / 4096)) first a ∙ run_is)
        ∙ ap (λ r. told r served) a ∙ pages_row

    pub map_done : {known : Type 0} (mem : Memory W) (first : Vpn) → size mem ≡ size k.mem → Ok first ≡ answer
        → bare (ledger held mem) ≡ bare (made first) → (known → ledger held mem ≡ made first)
        → ServesAs known k.cursor (machine_of held (with_mem mem k)) row (Ok (Answered (Range (4096 * first.0) bytes)))
    map_done mem first s a rights whole = record {
      target = on_ledger (made first) (machine_of held k);
      is = map_served_by first a;
      comes = made_comes held k mem (made first) s rights whole;
    }

    pub map_crowds : (first : Vpn) → is_pid (processes k.mem) k.cursor.pid.0 ≡ true → Ok first ≡ answer
        → frames_for_pages k.mem < pages (processes k.mem) (ledger held k.mem) + bytes / 4096 → CrowdsBy held k row
    map_crowds first process a more =
        crowds_by held k (on_ledger (made first) (machine_of held k)) (Range (4096 * first.0) bytes) row (map_served_by first a)
        (made_crowded held k Map at (bytes / 4096) right process first (sym a) more)

  -- ---- the console

  module _ (other : (phys == CONSOLE_ADDRESS) ≡ true) where
    module _ (one : bytes ≡ 4096) (narrow : wide ≡ false) where
      abbrev console : Result Vpn XousError
      console = console_answer (processes k.mem) (ledger held k.mem) k.cursor.pid at

      one_page : 1 ≡ bytes / 4096
      one_page = omega (arith, one)

      console_run : console ≡ (if mapped then Err MemoryInUse else run_by (virt == 0) fits used least (record { 0 = virt / 4096 }))
      unfolding machine_of
      console_run =
          ap (λ n. if mapped then Err MemoryInUse else run_place (processes k.mem) (ledger held k.mem) k.cursor.pid Map at n) one_page
          ∙ ap (λ r. if mapped then Err MemoryInUse else r) run_is

      console_row : told console served ≡ row
      unfolding row_by
      console_row =
          ap (λ r. told r served) console_run
          ∙ console_told (is_bad_range virt bytes) (are_bad_flags flags) (phys == 0) wide mapped (virt == 0) fits used (are_too_many m (bytes / 4096)) least (record { 0 = virt / 4096 }) served range asked.0 narrow
          ∙ sym (row_is (phys == 0) true refl other)

      pub console_refused : (error : XousError) → Err error ≡ console → Refused error ≡ row
      console_refused error e = ap (λ r. told r served) e ∙ console_row

      not_mapped : (b : Bool) (r : Result Vpn XousError) (first : Vpn) → Ok first ≡ (if b then Err MemoryInUse else r) → Ok first ≡ r
      not_mapped true r first e = cc
      not_mapped false r first e = e

      pub console_done : (mem : Memory W) (first : Vpn) → size mem ≡ size k.mem → Ok first ≡ console
          → ledger held mem ≡ make_console (page_place k.cursor.pid first) right.w (ledger held k.mem)
          → outcome_of k.cursor (machine_of held (with_mem mem k)) (Ok (Answered (Range (4096 * first.0) bytes))) ≡ row
      unfolding machine_of
      console_done mem first s a e =
          ap (λ n. outcome_of k.cursor n (Ok (Answered (Range (4096 * first.0) bytes))))
          (machine_with_mem held k mem (make_console (page_place k.cursor.pid first) (right_of flags).w (ledger held k.mem)) s
          (e ∙ ap (λ (r : Right). make_console (page_place k.cursor.pid first) r.w (ledger held k.mem)) asked.1))
          ∙ served_is true first other (not_mapped mapped (run_by (virt == 0) fits used least (record { 0 = virt / 4096 })) first (a ∙ console_run))
          ∙ ap (λ r. told r served) a ∙ console_row

-- one page that isn't to be executed
pub narrow : (bytes flags : ℕ) (right : Right) → bytes ≡ 4096 → right ≡ right_of flags → right.x ≡ false
    → (not (bytes == PAGE_SIZE) || has_flag flags flag_execute) ≡ false
narrow bytes flags right one asked e =
    let x : has_flag flags flag_execute ≡ false = sym (ap (λ (r : Right). r.x) asked) ∙ e in
    λ i. not (eq-eqb bytes 4096 one i) || x i

-- ---- addresses fit

pub made_low : (procs capacity : ℕ) (l : Ledger) (pid : Pid) (at : Option Vpn) (n : ℕ) (first : Vpn) → Ok first ≡ make_answer (record { procs = procs; capacity = capacity }) l pid Map at n → first.0 ≤ 397312
made_low procs capacity l pid at n first e =
    let high : first.0 + n ≤ 397312 = (run_answered procs l pid Map at n first (sym (not_room (nat_lt capacity (pages procs l + n)) (run_place procs l pid Map at n) first e))).high in
    omega arith

pub console_low : (procs : ℕ) (l : Ledger) (pid : Pid) (at : Option Vpn) (first : Vpn) → Ok first ≡ console_answer procs l pid at → first.0 ≤ 397312
console_low procs l pid at first e = go (console_mapped procs l) e
  where
    go : (b : Bool) → Ok first ≡ (if b then Err MemoryInUse else run_place procs l pid Map at 1) → first.0 ≤ 397312
    go true e = cc
    go false e = let high : first.0 + 1 ≤ 397312 = (run_answered procs l pid Map at 1 first (sym e)).high in omega arith
