-- The step of a call: where what comes of the call of its number is matched, so is the state after the step. The calls on memory.
use Rattle.std.proofs.Common.{◌≡◌, ℕ, true, List, refl, sym, subst}
use Rattle.syscall_codec.specs.CallNumbers.{map_memory, increase_heap, decrease_heap, update_memory_flags, unmap_memory}
use Rattle.machine_model.specs.Calling.Calls.{call_at, call_table}
use Rattle.machine_model.specs.State.Changes.{Call}
use Rattle.machine_model.specs.State.Machine.{Machine}
use Rattle.machine_model.specs.Runs.Matched.{Matched}
use Rattle.machine_model.specs.Calling.MemoryCalls.{decrease_call, increase_call, map_call, unmap_call, update_call}
use Rattle.machine_model.specs.State.Order.{ready_at}
use Rattle.machine_laws.proofs.Calling.AnsweredCallLemmas.{Keeps}
use Rattle.machine_laws.proofs.Calling.HeapCallLemmas.{decrease_keeps, increase_keeps}
use Rattle.machine_laws.proofs.Calling.MapCallLemmas.{map_keeps}
use Rattle.machine_laws.proofs.Calling.MemoryCallStepLemmas.{unmap_keeps, update_keeps}
use Rattle.machine_laws.proofs.Calling.ThreadCallLemmas.{call_keeps}
use Rattle.machine_laws.proofs.Calling.CallRowLemmas.{KeepsNumber}

-- ---- the calls on memory

-- a call that keeps the machine matched keeps it so under its number
pub of_call : (k : ℕ) (served : Call) → ((m : Machine) (w : List ℕ) → call_at k call_table m w ≡ served m w)
    → ((m : Machine) (w : List ℕ) → Matched m → ready_at m m.cursor ≡ true → Keeps m (served m w)) → KeepsNumber k
of_call k served same keep m h ready w e = call_keeps m h ready w k e (λ none. subst (Keeps m) (sym (same m w)) (keep m w h ready))

pub map_number_keeps : KeepsNumber map_memory
map_number_keeps = of_call 2 map_call (λ m w. refl) map_keeps

pub increase_number_keeps : KeepsNumber increase_heap
increase_number_keeps = of_call 10 increase_call (λ m w. refl) increase_keeps

pub decrease_number_keeps : KeepsNumber decrease_heap
decrease_number_keeps = of_call 11 decrease_call (λ m w. refl) decrease_keeps

pub update_number_keeps : KeepsNumber update_memory_flags
update_number_keeps = of_call 12 update_call (λ m w. refl) update_keeps

pub unmap_number_keeps : KeepsNumber unmap_memory
unmap_number_keeps = of_call 19 unmap_call (λ m w. refl) unmap_keeps
