-- The calls on the heap: the memory and the length of the caller's heap change.
use Rattle.xk_ports.specs.declared.store.SwapStore.{Ghosts as SwapStore}
use Rattle.std.proofs.Common.{◌≡◌, ◌≢◌, ℕ, ◌+◌, ◌-◌, ◌/◌, ◌<◌, ◌≤◌, if◌then◌else◌, Bool, true, false, not, [], ◌∷◌, Option, Some, None, refl, sym, ap, ◌∙◌, arith, get_or, length, nat_eq, nat_le, nat_lt}
use Rattle.std.specs.Prelude.{◌%◌, Result, Ok, Err, slice_get}
use Rattle.std.specs.Option.{option_map}
use Rattle.std.proofs.lemmas.Bool.{false≢true, and_parts, cond-false, eq-eqb, leb-true, lt-ltb, ltb-true}
use Rattle.std.proofs.lemmas.Bool.Decides.{nat_tests}
use Rattle.std.proofs.lemmas.Option.{none-some, slice_get-get_or}
use Rattle.xk_base.specs.declared.errors.XousError.{XousError}
use Rattle.xk_base.specs.declared.errors.XousError.TheVariants.{BadAlignment, InvalidLimit, ShareViolation}
use Rattle.xk_base.specs.declared.ids.Place.{Place}
use Rattle.xk_base.specs.declared.limits.TheConstants.{PAGE_SIZE}
use Rattle.xk_base.specs.Tables.Circle.{IsPid, is_pid, is_tid, is_thread_id}
use Rattle.xk_base.specs.Tables.Counting.{put_at}
use Rattle.boot_plan.specs.Capacity.{capacity}
use Rattle.ledger_model.specs.Ledger.{Ledger}
use Rattle.ledger_model.specs.Loans.{bare, loans}
use Rattle.ledger_model.specs.Places.{in_run}
use Rattle.ledger_model.specs.RunTests.{any_on_loan}
use Rattle.ledger_model.specs.Steps.{remove}
use Rattle.machine_model.specs.State.Changes.{Outcome, Refused, Served, unless_refused}
use Rattle.machine_model.specs.State.Machine.{Machine}
use Rattle.machine_model.specs.Runs.Matched.{AreHeapsMatched}
use Rattle.machine_model.specs.Calling.MemoryCalls.{caller_place, decrease_refusals, decrease_served, heap_of, heap_start, is_aligned}
use Rattle.xk_base.specs.Numbers.Windows.{page_of}
use Rattle.process_table.specs.Shown.{process_count, processes_of}
use Rattle.process_table.specs.ProcessMap.{change, heap_of as heap_in}
use Rattle.process_table.specs.State.{ProcessState, new_process, with_heap as heap_set}
use Rattle.process_table.specs.declared.table.Processes.{Processes}
use Rattle.syscall_codec.specs.declared.replies.Reply.TheVariants.{Plain}
use Rattle.vm_memory.specs.declared.memory.Memory.{Memory}
use Rattle.vm_memory.specs.Memory.{ledger, processes, size}
use Rattle.vm_memory.specs.Pages.Removing.{clear_answer}
use Rattle.vm_memory.specs.Sound.{IsSound as IsMemorySound}
use Rattle.xk_kernel.specs.Calling.{outcome_of}
use Rattle.machine_model.specs.Runs.Isolation.{without_bytes}
use Rattle.xk_kernel.specs.Sound.{IsWhole}
use Rattle.xk_parts.specs.Shown.{process_of}
use Rattle.xk_kernel.specs.State.{machine_of}
use Rattle.xk_kernel.specs.declared.kernel.Kernel.{Kernel}
use Rattle.xk_kernel.specs.declared.kernel.calls.CallerFate.TheVariants.{Answered}
use Rattle.xk_kernel.proofs.Memory.KeptLoanLemmas.{servers_over}

-- ---- the caller's process

-- each pid of the table is that of a process
pub process_there : (t : Processes) (pid : ℕ) → is_pid (process_count t) pid ≡ true → (p : ProcessState) × (processes_of t pid ≡ Some p)
unfolding processes_of process_count
process_there t pid e =
    let parts = and_parts (nat_le 2 pid) (nat_lt pid (length t.by_pid.items + 2)) e in
    let low : 2 ≤ pid = leb-true 2 pid parts.0 in
    let high : pid < length t.by_pid.items + 2 = ltb-true pid (length t.by_pid.items + 2) parts.1 in (
      get_or t.by_pid.items (pid - 2) new_process,
      cond-false (nat_lt pid 2) None (slice_get t.by_pid.items (pid - 2)) (grind (arith, nat_tests))
          ∙ slice_get-get_or t.by_pid.items (pid - 2) new_process (omega arith),
    )

-- the length of its heap is that of the machine
heap_same : (o : Option ProcessState) → heap_in o ≡ (process_of o).heap
heap_same None = refl
heap_same (Some p) = refl

heap_changed : (b : Bool) (o other : Option ProcessState) (p : ProcessState) (heap : ℕ) → o ≡ Some p
    → process_of (if b then option_map (heap_set heap) o else other) ≡ (if b then record (process_of o) { heap = heap } else process_of other)
heap_changed b None other p heap e = absurd (none-some p e)
heap_changed true (Some q) other p heap e = refl
heap_changed false (Some q) other p heap e = refl

abbrev pub with_parts : {W : Type 0} → Memory W → Processes → Kernel W → Kernel W
with_parts mem procs k = record k { mem = mem; procs = procs }

-- the machine with that ledger and that length of the caller's heap
abbrev pub on_heap : ℕ → Ledger → Machine → Machine
on_heap heap l m = record m { ledger = l; process = put_at nat_eq m.process m.cursor.pid.0 (record (m.process m.cursor.pid.0) { heap = heap }) }

module _ {W : Type 0} (S : SwapStore W) (k : Kernel W) (whole : IsWhole S k) where
  pub caller : is_pid (process_count k.procs) k.cursor.pid.0 ≡ true
  caller = (and_parts (is_pid (process_count k.procs) k.cursor.pid.0) (is_tid k.cursor.tid.0) (ap (λ n. is_thread_id n k.cursor) whole.procs ∙ whole.cursor)).0

  pub caller_pid : IsPid (process_count k.procs) k.cursor.pid.0
  caller_pid =
      let parts = and_parts (nat_le 2 k.cursor.pid.0) (nat_lt k.cursor.pid.0 (process_count k.procs + 2)) caller in
      (leb-true 2 k.cursor.pid.0 parts.0, ltb-true k.cursor.pid.0 (process_count k.procs + 2) parts.1)

  pub heap_told : (heap : ℕ) → heap ≡ heap_in (processes_of k.procs k.cursor.pid.0) → heap ≡ heap_of (machine_of S.held k)
  unfolding machine_of
  heap_told heap e = e ∙ heap_same (processes_of k.procs k.cursor.pid.0)

  pub heap_within : (heap : ℕ) → heap ≡ heap_of (machine_of S.held k) → AreHeapsMatched (machine_of S.held k).process (machine_of S.held k).ledger → heap ≤ 16777216
  unfolding machine_of
  heap_within heap e h = let within : heap_of (machine_of S.held k) ≤ 16777216 = h.within k.cursor.pid in omega arith

  -- THE MACHINE has the memory's ledger and the new length
  pub machine_with_parts : (mem : Memory W) (procs : Processes) (l : Ledger) (heap : ℕ) → size mem ≡ size k.mem → ledger S.held mem ≡ l
      → processes_of procs ≡ change k.cursor.pid.0 (heap_set heap) (processes_of k.procs)
      → machine_of S.held (with_parts mem procs k) ≡ on_heap heap l (machine_of S.held k)
  unfolding machine_of
  machine_with_parts mem procs l heap s e p =
      let there = process_there k.procs k.cursor.pid.0 caller in
      λ i. record (machine_of S.held k) {
        capacity = capacity (s i).area.frames (s i).procs (s i).slots;
        processes = (s i).procs;
        ledger = e i;
        process = λ q. (ap (λ f. process_of (f q)) p
            ∙ heap_changed (nat_eq q k.cursor.pid.0) (processes_of k.procs k.cursor.pid.0) (processes_of k.procs q) there.0 heap there.1) i;
      }

  -- .. and without bytes, where the ledgers are the same without theirs
  pub parts_alike : (mem : Memory W) (procs : Processes) (l : Ledger) (heap : ℕ) → size mem ≡ size k.mem → bare (ledger S.held mem) ≡ bare l
      → processes_of procs ≡ change k.cursor.pid.0 (heap_set heap) (processes_of k.procs)
      → without_bytes (machine_of S.held (with_parts mem procs k)) ≡ without_bytes (on_heap heap l (machine_of S.held k))
  unfolding machine_of
  parts_alike mem procs l heap s e p =
      ap (λ (b : Ledger). record (machine_of S.held (with_parts mem procs k)) { ledger = b }) e
      ∙ ap (λ (m : Machine). record m { ledger = bare l }) (machine_with_parts mem procs (ledger S.held mem) heap s refl p)

  pub whole_with_parts : (mem : Memory W) (procs : Processes) → size mem ≡ size k.mem → IsMemorySound S.slot_count mem
      → loans (ledger S.held mem) ≡ loans (ledger S.held k.mem)
      → process_count procs ≡ process_count k.procs → IsWhole S (with_parts mem procs k)
  whole_with_parts mem procs s sound kept n =
      let same : processes mem ≡ processes k.mem = ap (λ z. z.procs) s in
      record {
        mem = sound;
        threads = whole.threads ∙ sym same;
        procs = n ∙ whole.procs ∙ sym same;
        cursor = ap (λ n. is_thread_id n k.cursor) same ∙ whole.cursor;
        room = whole.room;
        servers = servers_over k.servers k.queues (processes k.mem) (processes mem) (loans (ledger S.held k.mem)) (loans (ledger S.held mem)) same kept whole.servers;
      }

-- ---- lists of three refusals

pub first_of_three : (a b c : Bool) (x y z : XousError) (o : Outcome) → a ≡ true → Refused x ≡ unless_refused ((a, x) ∷ (b, y) ∷ (c, z) ∷ []) o
first_of_three true b c x y z o e = refl
first_of_three false b c x y z o e = absurd (false≢true e)

pub second_of_three : (a b c : Bool) (x y z : XousError) (o : Outcome) → a ≡ false → b ≡ true → Refused y ≡ unless_refused ((a, x) ∷ (b, y) ∷ (c, z) ∷ []) o
second_of_three true b c x y z o e f = absurd (false≢true (sym e))
second_of_three false true c x y z o e f = refl
second_of_three false false c x y z o e f = absurd (false≢true f)

pub third_of_three : (a b c : Bool) (x y z : XousError) (o : Outcome) → a ≡ false → b ≡ false → c ≡ true → Refused z ≡ unless_refused ((a, x) ∷ (b, y) ∷ (c, z) ∷ []) o
third_of_three true b c x y z o e f g = absurd (false≢true (sym e))
third_of_three false true c x y z o e f g = absurd (false≢true (sym f))
third_of_three false false true x y z o e f g = refl
third_of_three false false false x y z o e f g = absurd (false≢true g)

pub none_of_three : (a b c : Bool) (x y z : XousError) (o : Outcome) → a ≡ false → b ≡ false → c ≡ false → o ≡ unless_refused ((a, x) ∷ (b, y) ∷ (c, z) ∷ []) o
none_of_three true b c x y z o e f g = absurd (false≢true (sym e))
none_of_three false true c x y z o e f g = absurd (false≢true (sym f))
none_of_three false false true x y z o e f g = absurd (false≢true (sym g))
none_of_three false false false x y z o e f g = refl

pub aligned : (n : ℕ) → n % 4096 ≡ 0 → not (is_aligned n) ≡ false
aligned n e = ap not (eq-eqb (n % 4096) 0 e)

pub not_aligned : (n : ℕ) → n % 4096 ≢ 0 → not (is_aligned n) ≡ true
not_aligned n e = grind (arith, nat_tests)

pub not_above : (a b : ℕ) → b ≤ a → nat_lt a b ≡ false
not_above a b e = grind (arith, nat_tests)

-- ---- DecreaseHeap

loan_told : (loan : Bool) (error : XousError) → ◌≡◌ {A = Result (Unit {0}) XousError} (Err error) (if loan then Err ShareViolation else Ok tt) → (loan ≡ true) × (error ≡ ShareViolation)
loan_told true error e = (refl, cc)
loan_told false error e = cc

none_told : (loan : Bool) → ◌≡◌ {A = Result (Unit {0}) XousError} (Ok tt) (if loan then Err ShareViolation else Ok tt) → loan ≡ false
none_told true e = cc
none_told false e = refl

module _ {W : Type 0} (S : SwapStore W) (k : Kernel W) (whole : IsWhole S k) (bytes : ℕ) where
  abbrev m : Machine
  m = machine_of S.held k

  abbrev row : Outcome
  row = unless_refused (decrease_refusals m bytes) (Served (decrease_served m bytes))

  abbrev lent : Bool
  lent = any_on_loan m.processes m.ledger (caller_place m (heap_start + (heap_of m - bytes))) (bytes / PAGE_SIZE)

  pub decrease_misaligned : bytes % 4096 ≢ 0 → Refused BadAlignment ≡ row
  decrease_misaligned e = first_of_three (not (is_aligned bytes)) (nat_lt (heap_of m) bytes) lent BadAlignment InvalidLimit ShareViolation (Served (decrease_served m bytes)) (not_aligned bytes e)

  module _ (al : bytes % 4096 ≡ 0) (heap : ℕ) (told : heap ≡ heap_of m) where
    pub decrease_too_many : heap < bytes → Refused InvalidLimit ≡ row
    decrease_too_many lt = second_of_three (not (is_aligned bytes)) (nat_lt (heap_of m) bytes) lent BadAlignment InvalidLimit ShareViolation (Served (decrease_served m bytes))
        (aligned bytes al) (lt-ltb (heap_of m) bytes (omega (arith, lt, told)))

    abbrev first : Place
    first = page_of k.cursor.pid (536870912 + (heap - bytes))

    lent_same : any_on_loan (processes k.mem) (ledger S.held k.mem) first (bytes / 4096) ≡ lent
    unfolding machine_of
    lent_same = ap (λ h. any_on_loan (processes k.mem) (ledger S.held k.mem) (page_of k.cursor.pid (536870912 + (h - bytes))) (bytes / 4096)) told

    pub decrease_lent : (error : XousError) → bytes ≤ heap → Err error ≡ clear_answer (processes k.mem) (ledger S.held k.mem) first (bytes / 4096) → Refused error ≡ row
    decrease_lent error le a =
        let why = loan_told (any_on_loan (processes k.mem) (ledger S.held k.mem) first (bytes / 4096)) error a in
        ap Refused why.1
        ∙ third_of_three (not (is_aligned bytes)) (nat_lt (heap_of m) bytes) lent BadAlignment InvalidLimit ShareViolation (Served (decrease_served m bytes))
        (aligned bytes al) (not_above (heap_of m) bytes (omega (arith, le, told))) (sym lent_same ∙ why.0)

    pub decrease_done : (mem : Memory W) (procs : Processes) → bytes ≤ heap → size mem ≡ size k.mem
        → Ok tt ≡ clear_answer (processes k.mem) (ledger S.held k.mem) first (bytes / 4096)
        → ledger S.held mem ≡ remove (in_run first (bytes / 4096)) (ledger S.held k.mem)
        → processes_of procs ≡ change k.cursor.pid.0 (heap_set (heap - bytes)) (processes_of k.procs)
        → outcome_of k.cursor (machine_of S.held (with_parts mem procs k)) (Ok (Answered Plain)) ≡ row
    unfolding machine_of
    decrease_done mem procs le s a e p =
        ap (λ n. outcome_of k.cursor n (Ok (Answered Plain)))
        (machine_with_parts S k whole mem procs (remove (in_run first (bytes / 4096)) (ledger S.held k.mem)) (heap - bytes) s e p)
        ∙ ap (λ h. outcome_of k.cursor (on_heap (h - bytes) (remove (in_run (page_of k.cursor.pid (536870912 + (h - bytes))) (bytes / 4096)) (ledger S.held k.mem)) m) (Ok (Answered Plain))) told
        ∙ none_of_three (not (is_aligned bytes)) (nat_lt (heap_of m) bytes) lent BadAlignment InvalidLimit ShareViolation (Served (decrease_served m bytes))
        (aligned bytes al) (not_above (heap_of m) bytes (omega (arith, le, told)))
        (sym lent_same ∙ none_told (any_on_loan (processes k.mem) (ledger S.held k.mem) first (bytes / 4096)) a)
