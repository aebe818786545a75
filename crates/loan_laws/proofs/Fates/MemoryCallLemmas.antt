-- The calls on memory leave every number: they make pages at free places, and change none that is on loan.
use Rattle.std.proofs.Common.{◌≡◌, ℕ, ◌+◌, ◌-◌, ◌/◌, ◌≤◌, Bool, true, false, [], ◌∷◌, None, refl, ap, ◌∙◌, arith}
use Rattle.std.specs.Prelude.{◌%◌, ◌==◌, nat_lt, not}
use Rattle.std.proofs.lemmas.Bool.{eqb-true, ltb-false}
use Rattle.xk_base.specs.declared.errors.XousError.TheVariants.{BadAlignment, InvalidLimit, OutOfMemory, ShareViolation}
use Rattle.xk_base.specs.declared.ids.Number.{Number}
use Rattle.xk_base.specs.declared.ids.Place.{Place}
use Rattle.xk_base.specs.declared.limits.TheConstants.{CONSOLE_ADDRESS, PAGE_SIZE}
use Rattle.xk_base.specs.declared.pages.Right.{Right}
use Rattle.xk_base.specs.declared.windows.Window.TheVariants.{Map}
use Rattle.syscall_codec.specs.Flags.{flag_execute, has_flag, right_of}
use Rattle.ledger_model.specs.Conditions.{is_lent}
use Rattle.ledger_model.specs.Ledger.{pages}
use Rattle.ledger_model.specs.LeastRun.{least_run}
use Rattle.ledger_model.specs.Places.{in_run}
use Rattle.ledger_model.specs.RunTests.{any_on_loan}
use Rattle.ledger_model.proofs.PlaceLemmas.{same_place-true}
use Rattle.machine_model.specs.Calling.MemoryCalls.{are_too_many, caller_place, decrease_refusals, decrease_served, heap_limit, heap_of, heap_start, increase_refusals, increase_served, is_aligned, map_address, map_refusals, map_served, mapped_ledger, unmap_refusals, unmap_served, update_refusals, update_served}
use Rattle.machine_model.specs.Runs.Matched.{Matched}
use Rattle.machine_model.specs.State.Changes.{first_refusal}
use Rattle.machine_model.specs.State.Machine.{Machine}
use Rattle.machine_model.specs.State.Order.{ready_at}
use Rattle.machine_laws.proofs.Calling.HeapCallLemmas.{can_grow}
use Rattle.machine_laws.proofs.Calling.MapCallLemmas.{IsFreeRun, console_one, map_run, mappable}
use Rattle.machine_laws.proofs.Calling.MemoryCallStepLemmas.{unmap_loan, update_allowed}
use Rattle.machine_laws.proofs.Calling.RunRefusalLemmas.{none_holds, not_false, run_not_lent}
use Rattle.loan_laws.specs.Leaving.{Leaves}
use Rattle.loan_laws.proofs.Fates.ServedFateLemmas.{LeavesAll}
use Rattle.loan_laws.proofs.Leaving.LedgerStepLemmas.{console_leaves, free_unlent, make_leaves, reduce_leaves, remove_leaves}

at_least : (a : ℕ) → a ≤ a
at_least a = omega arith

-- ---- MapMemory

mapped_leaves : (m : Machine) (console : Bool) (n : ℕ) (first : Place) (right : Right) → IsFreeRun m n first
    → (console ≡ true → in_run first n first ≡ true) → (number : Number)
    → Leaves number m.ledger (mapped_ledger console first n right m.ledger)
mapped_leaves m false n first right run one number =
    make_leaves number m.processes m.ledger first n right (λ p inside. free_unlent m.processes m.ledger p (run.free p inside))
mapped_leaves m true n first right run one number =
    console_leaves number m.processes m.ledger first right.w
    (λ p same. ap (λ q. is_lent (m.ledger.home q)) (same_place-true p first same) ∙ free_unlent m.processes m.ledger first (run.free first (one refl)))

pub mapping_leaves : (m : Machine) (phys virt size flags : ℕ) → first_refusal (map_refusals m phys virt size flags) ≡ None
    → LeavesAll m (map_served m phys virt size flags)
mapping_leaves m phys virt size flags none =
    let can = mappable m phys virt size flags none in
    let first = caller_place m (map_address m virt size) in
    let run : IsFreeRun m (size / PAGE_SIZE) first =
    map_run m virt (size / PAGE_SIZE) (virt == 0) (least_run m.processes m.ledger m.cursor.pid Map (size / PAGE_SIZE)) refl can.fits can.unused can.found in
    record {
      leaves = mapped_leaves m (phys == CONSOLE_ADDRESS) (size / PAGE_SIZE) first (right_of flags) run
          (console_one (phys == CONSOLE_ADDRESS) (has_flag flags flag_execute) first size can.one);
      climbs = at_least m.next_number;
    }

-- ---- the heap

pub growing_leaves : (m : Machine) (bytes : ℕ) → Matched m → ready_at m m.cursor ≡ true → first_refusal (increase_refusals m bytes) ≡ None
    → LeavesAll m (increase_served m bytes)
growing_leaves m bytes h r none =
    let third = (are_too_many m (bytes / PAGE_SIZE), OutOfMemory) ∷ [] in
    let second = (nat_lt heap_limit (heap_of m + bytes), InvalidLimit) ∷ third in
    let e1 = none_holds (not (is_aligned bytes)) BadAlignment second none in
    let e2 = none_holds (nat_lt heap_limit (heap_of m + bytes)) InvalidLimit third e1.1 in
    let e3 = none_holds (are_too_many m (bytes / PAGE_SIZE)) OutOfMemory [] e2.1 in
    let can = can_grow m h r bytes (eqb-true (bytes % PAGE_SIZE) 0 (not_false (is_aligned bytes) e1.0))
    (ltb-false heap_limit (heap_of m + bytes) e2.0) (ltb-false m.capacity (pages m.processes m.ledger + bytes / PAGE_SIZE) e3.0) in
    record {
      leaves = λ number. make_leaves number m.processes m.ledger (caller_place m (heap_start + heap_of m)) (bytes / PAGE_SIZE)
          (record { w = true; x = false }) (λ p inside. free_unlent m.processes m.ledger p (can.free p inside));
      climbs = at_least m.next_number;
    }

pub shrinking_leaves : (m : Machine) (bytes : ℕ) → first_refusal (decrease_refusals m bytes) ≡ None → LeavesAll m (decrease_served m bytes)
shrinking_leaves m bytes none =
    let first = caller_place m (heap_start + (heap_of m - bytes)) in
    let loan = any_on_loan m.processes m.ledger first (bytes / PAGE_SIZE) in
    let third = (loan, ShareViolation) ∷ [] in
    let second = (nat_lt (heap_of m) bytes, InvalidLimit) ∷ third in
    let e1 = none_holds (not (is_aligned bytes)) BadAlignment second none in
    let e2 = none_holds (nat_lt (heap_of m) bytes) InvalidLimit third e1.1 in
    let e3 = none_holds loan ShareViolation [] e2.1 in
    record {
      leaves = λ number. remove_leaves number m.processes m.ledger (in_run first (bytes / PAGE_SIZE))
          (run_not_lent m.processes m.ledger first (bytes / PAGE_SIZE) e3.0);
      climbs = at_least m.next_number;
    }

-- ---- UnmapMemory and UpdateMemoryFlags

pub unmapping_leaves : (m : Machine) (address size : ℕ) → first_refusal (unmap_refusals m address size) ≡ None
    → LeavesAll m (unmap_served m address size)
unmapping_leaves m address size none = record {
  leaves = λ number. remove_leaves number m.processes m.ledger (in_run (caller_place m address) (size / PAGE_SIZE))
      (run_not_lent m.processes m.ledger (caller_place m address) (size / PAGE_SIZE) (unmap_loan m address size none));
  climbs = at_least m.next_number;
}

pub updating_leaves : (m : Machine) (address size flags : ℕ) → first_refusal (update_refusals m address size flags) ≡ None
    → LeavesAll m (update_served m address size flags)
updating_leaves m address size flags none = record {
  leaves = λ number. reduce_leaves number m.processes m.ledger (in_run (caller_place m address) (size / PAGE_SIZE)) (right_of flags)
      (run_not_lent m.processes m.ledger (caller_place m address) (size / PAGE_SIZE) (update_allowed m address size flags none).0);
  climbs = at_least m.next_number;
}
