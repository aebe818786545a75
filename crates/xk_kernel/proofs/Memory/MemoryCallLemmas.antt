-- A kernel whose memory alone changed: the machine that it stands for, and that it is whole; and the calls that remove and reduce
-- pages.
use Rattle.xk_ports.specs.declared.store.SwapStore.{Ghosts as SwapStore}
use Rattle.std.proofs.Common.{◌≡◌, ℕ, ◌/◌, if◌then◌else◌, Bool, true, false, [], ◌∷◌, Some, None, refl, sym, ap, ◌∙◌}
use Rattle.std.specs.Prelude.{Result, Ok, Err}
use Rattle.std.proofs.lemmas.Bool.{false≢true, and_parts}
use Rattle.std.proofs.lemmas.Option.{none-some, same_Some}
use Rattle.xk_base.specs.Tables.Circle.{is_pid, is_tid, is_thread_id}
use Rattle.xk_base.specs.declared.errors.XousError.{XousError}
use Rattle.xk_base.specs.declared.errors.XousError.TheVariants.{BadAlignment, BadAddress, ShareViolation, AccessDenied, InvalidSyscall}
use Rattle.xk_base.specs.declared.limits.TheConstants.{PAGE_SIZE}
use Rattle.xk_base.specs.declared.pages.Right.{Right}
use Rattle.syscall_codec.specs.Flags.{right_of}
use Rattle.boot_plan.specs.Capacity.{capacity}
use Rattle.ledger_model.specs.Ledger.{Ledger}
use Rattle.ledger_model.specs.Loans.{loans}
use Rattle.ledger_model.specs.RunTests.{any_free, any_lacks, any_on_loan}
use Rattle.machine_model.specs.State.Changes.{Served, unless_refused}
use Rattle.machine_model.specs.State.Machine.{Machine}
use Rattle.machine_model.specs.Calling.MemoryCalls.{are_bad_flags, caller_place, is_bad_range, unmap_refusals, unmap_served, update_refusals, update_served}
use Rattle.xk_base.specs.Numbers.Windows.{page_of}
use Rattle.sv32_space.specs.Tie.{Held}
use Rattle.syscall_codec.specs.declared.replies.Reply.TheVariants.{Plain}
use Rattle.vm_memory.specs.declared.memory.Memory.{Memory}
use Rattle.vm_memory.specs.Memory.{ledger, processes, size}
use Rattle.vm_memory.specs.Pages.Removing.{after_reduce, after_remove, reduce_answer, remove_answer}
use Rattle.vm_memory.specs.Sound.{IsSound as IsMemorySound}
use Rattle.xk_kernel.specs.Calling.{outcome_of}
use Rattle.xk_kernel.specs.Sound.{IsWhole}
use Rattle.xk_kernel.specs.State.{machine_of}
use Rattle.xk_kernel.specs.declared.kernel.Kernel.{Kernel}
use Rattle.xk_kernel.specs.declared.kernel.calls.CallerFate.{CallerFate}
use Rattle.xk_kernel.specs.declared.kernel.calls.CallerFate.TheVariants.{Answered}
use Rattle.xk_kernel.proofs.Memory.KeptLoanLemmas.{servers_over}

abbrev pub with_mem : {W : Type 0} → Memory W → Kernel W → Kernel W
with_mem mem k = record k { mem = mem }

abbrev pub on_ledger : Ledger → Machine → Machine
on_ledger l m = record m { ledger = l }

-- THE MACHINE is the one with the memory's ledger
pub machine_with_mem : {W : Type 0} (held : W → Held) (k : Kernel W) (mem : Memory W) (l : Ledger) → size mem ≡ size k.mem → ledger held mem ≡ l
    → machine_of held (with_mem mem k) ≡ on_ledger l (machine_of held k)
unfolding machine_of
machine_with_mem held k mem l s e = λ i. record (machine_of held k) {
  capacity = capacity (s i).area.frames (s i).procs (s i).slots;
  processes = (s i).procs;
  ledger = e i;
}

-- THE PARTS stay sound
pub whole_with_mem : {W : Type 0} (S : SwapStore W) (k : Kernel W) (mem : Memory W) → IsWhole S k
    → size mem ≡ size k.mem → IsMemorySound S.slot_count mem → loans (ledger S.held mem) ≡ loans (ledger S.held k.mem) → IsWhole S (with_mem mem k)
whole_with_mem S k mem whole s sound kept =
    let same : processes mem ≡ processes k.mem = ap (λ z. z.procs) s in
    record {
      mem = sound;
      threads = whole.threads ∙ sym same;
      procs = whole.procs ∙ sym same;
      cursor = ap (λ n. is_thread_id n k.cursor) same ∙ whole.cursor;
      room = whole.room;
      servers = servers_over k.servers k.queues (processes k.mem) (processes mem) (loans (ledger S.held k.mem)) (loans (ledger S.held mem)) same kept whole.servers;
    }

-- ---- the caller

pub caller_process : {W : Type 0} (S : SwapStore W) (k : Kernel W) → IsWhole S k → is_pid (processes k.mem) k.cursor.pid.0 ≡ true
caller_process S k whole = (and_parts (is_pid (processes k.mem) k.cursor.pid.0) (is_tid k.cursor.tid.0) whole.cursor).0

-- a call that is done is answered plainly
abbrev pub plain_or : Result (Unit {0}) XousError → Result CallerFate XousError
plain_or (Ok done) = Ok (Answered Plain)
plain_or (Err error) = Err error

-- ---- UnmapMemory

unmap_by : (m : Machine) (address size : ℕ) (bad free loan : Bool) → bad ≡ false
    → let r : Result (Unit {0}) XousError = if free then Err BadAddress else (if loan then Err ShareViolation else Ok tt) in
    outcome_of m.cursor (on_ledger (after_remove r (caller_place m address) (size / PAGE_SIZE) m.ledger) m) (plain_or r)
    ≡ unless_refused ((bad, BadAlignment) ∷ (free, BadAddress) ∷ (loan, ShareViolation) ∷ []) (Served (unmap_served m address size))
unmap_by m address size true free loan e = absurd (false≢true (sym e))
unmap_by m address size false true loan e = refl
unmap_by m address size false false true e = refl
unmap_by m address size false false false e = refl

pub unmap_outcome : {W : Type 0} (held : W → Held) (k : Kernel W) (mem : Memory W) (address bytes : ℕ) (r : Result (Unit {0}) XousError)
    → size mem ≡ size k.mem → is_bad_range address bytes ≡ false
    → r ≡ remove_answer (processes k.mem) (ledger held k.mem) (page_of k.cursor.pid address) (bytes / PAGE_SIZE)
    → ledger held mem ≡ after_remove r (page_of k.cursor.pid address) (bytes / PAGE_SIZE) (ledger held k.mem)
    → outcome_of k.cursor (machine_of held (with_mem mem k)) (plain_or r)
    ≡ unless_refused (unmap_refusals (machine_of held k) address bytes) (Served (unmap_served (machine_of held k) address bytes))
unfolding machine_of
unmap_outcome held k mem address bytes r s good a e =
    let place = page_of k.cursor.pid address in
    let n = bytes / PAGE_SIZE in
    ap (λ m. outcome_of k.cursor m (plain_or r)) (machine_with_mem held k mem (after_remove r place n (ledger held k.mem)) s e)
    ∙ ap (λ x. outcome_of k.cursor (on_ledger (after_remove x place n (ledger held k.mem)) (machine_of held k)) (plain_or x)) a
    ∙ unmap_by (machine_of held k) address bytes (is_bad_range address bytes)
    (any_free (processes k.mem) (ledger held k.mem) place n) (any_on_loan (processes k.mem) (ledger held k.mem) place n) good

-- ---- UpdateMemoryFlags

-- the right that known flags with R ask for
pub right_told : (bad : Bool) (asked right : Right) → Some right ≡ (if bad then None else Some asked) → (bad ≡ false) × (right ≡ asked)
right_told true asked right e = absurd (none-some right (sym e))
right_told false asked right e = (refl, same_Some right asked e)

update_by : (m : Machine) (address size flags : ℕ) (bad unknown free loan lacks : Bool) → bad ≡ false → unknown ≡ false
    → let r : Result (Unit {0}) XousError = if free then Err BadAddress else (if loan then Err ShareViolation else (if lacks then Err AccessDenied else Ok tt)) in
    outcome_of m.cursor (on_ledger (after_reduce r (caller_place m address) (size / PAGE_SIZE) (right_of flags) m.ledger) m) (plain_or r)
    ≡ unless_refused ((bad, BadAlignment) ∷ (unknown, InvalidSyscall) ∷ (free, BadAddress) ∷ (loan, ShareViolation) ∷ (lacks, AccessDenied) ∷ []) (Served (update_served m address size flags))
update_by m address size flags true unknown free loan lacks e u = absurd (false≢true (sym e))
update_by m address size flags false true free loan lacks e u = absurd (false≢true (sym u))
update_by m address size flags false false true loan lacks e u = refl
update_by m address size flags false false false true lacks e u = refl
update_by m address size flags false false false false true e u = refl
update_by m address size flags false false false false false e u = refl

pub update_outcome : {W : Type 0} (held : W → Held) (k : Kernel W) (mem : Memory W) (address bytes flags : ℕ) (right : Right) (r : Result (Unit {0}) XousError)
    → size mem ≡ size k.mem → is_bad_range address bytes ≡ false → (are_bad_flags flags ≡ false) × (right ≡ right_of flags)
    → r ≡ reduce_answer (processes k.mem) (ledger held k.mem) (page_of k.cursor.pid address) (bytes / PAGE_SIZE) right
    → ledger held mem ≡ after_reduce r (page_of k.cursor.pid address) (bytes / PAGE_SIZE) right (ledger held k.mem)
    → outcome_of k.cursor (machine_of held (with_mem mem k)) (plain_or r)
    ≡ unless_refused (update_refusals (machine_of held k) address bytes flags) (Served (update_served (machine_of held k) address bytes flags))
unfolding machine_of
update_outcome held k mem address bytes flags right r s good told a e =
    let place = page_of k.cursor.pid address in
    let n = bytes / PAGE_SIZE in
    ap (λ m. outcome_of k.cursor m (plain_or r)) (machine_with_mem held k mem (after_reduce r place n right (ledger held k.mem)) s e)
    ∙ ap (λ x. outcome_of k.cursor (on_ledger (after_reduce r place n x (ledger held k.mem)) (machine_of held k)) (plain_or r)) told.1
    ∙ ap (λ x. outcome_of k.cursor (on_ledger (after_reduce x place n (right_of flags) (ledger held k.mem)) (machine_of held k)) (plain_or x))
    (a ∙ ap (reduce_answer (processes k.mem) (ledger held k.mem) place n) told.1)
    ∙ update_by (machine_of held k) address bytes flags (is_bad_range address bytes) (are_bad_flags flags)
    (any_free (processes k.mem) (ledger held k.mem) place n) (any_on_loan (processes k.mem) (ledger held k.mem) place n)
    (any_lacks (right_of flags) (ledger held k.mem) place n) good told.0
