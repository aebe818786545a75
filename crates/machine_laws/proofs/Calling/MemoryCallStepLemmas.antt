-- The calls on memory that make no page keep the machine matched.
use Rattle.std.proofs.Common.{◌≡◌, ℕ, Bool, true, false, List, [], ◌∷◌, Option, Some, None, refl}
use Rattle.std.specs.Prelude.{◌/◌, if◌then◌else◌}
use Rattle.std.specs.Option.{option_map}
use Rattle.std.proofs.lemmas.Option.{none-some}
use Rattle.xk_base.specs.declared.errors.XousError.TheVariants.{BadAlignment, BadAddress, InvalidSyscall, ShareViolation, AccessDenied}
use Rattle.xk_base.specs.declared.ids.Place.{Place}
use Rattle.xk_base.specs.declared.limits.TheConstants.{PAGE_SIZE}
use Rattle.xk_base.specs.declared.pages.Right.{Right}
use Rattle.syscall_codec.specs.CallWords.{range_address, range_size, range_flags}
use Rattle.syscall_codec.specs.Flags.{right_of}
use Rattle.syscall_codec.specs.ReplyWords.{plain_words}
use Rattle.ledger_model.specs.Conditions.{CanReduce, CanRemove}
use Rattle.ledger_model.specs.Ledger.{Page}
use Rattle.ledger_model.specs.Places.{in_run}
use Rattle.ledger_model.specs.RunTests.{any_free, any_lacks, any_on_loan}
use Rattle.ledger_model.specs.Steps.{remove, reduce, with_right}
use Rattle.ledger_model.proofs.Stepping.RemovingLemmas.{remove_lawful, remove_loans, reduce_lawful, reduce_loans}
use Rattle.machine_model.specs.State.Changes.{Served, first_refusal}
use Rattle.machine_model.specs.State.Machine.{Machine}
use Rattle.machine_model.specs.Runs.Matched.{Matched}
use Rattle.machine_model.specs.Calling.MemoryCalls.{are_bad_flags, caller_place, is_bad_range, unmap_call, unmap_refusals, unmap_served, update_call, update_refusals, update_served}
use Rattle.machine_model.specs.State.Order.{ready_at}
use Rattle.machine_laws.proofs.Calling.AnsweredCallLemmas.{Keeps}
use Rattle.machine_laws.proofs.Calling.PageChangeLemmas.{IsLikeLedger, ledger_served, stands_now}
use Rattle.machine_laws.proofs.Calling.ThreadCallLemmas.{unless_refused_keeps}
use Rattle.machine_laws.proofs.Calling.RunRefusalLemmas.{none_holds, can_remove, can_reduce}

-- ---- UnmapMemory

pub removed_stood : (b : Bool) (o : Option Page) (page : Page) → (if b then None else o) ≡ Some page → o ≡ Some page
removed_stood true o page e = absurd (none-some page e)
removed_stood false o page e = e

pub like_removed : (m : Machine) (places : Place → Bool) → Matched m → CanRemove m.ledger places → IsLikeLedger m (remove places m.ledger)
unfolding remove
like_removed m places h can = record {
  lawful = remove_lawful m.processes m.capacity places m.ledger h.body.ledger.lawful can;
  same = remove_loans places m.ledger can;
  stand = λ p page e. stands_now m h p page (removed_stood (places p) (m.ledger.home p) page e);
}

pub unmap_loan : (m : Machine) (address size : ℕ) → first_refusal (unmap_refusals m address size) ≡ None
    → any_on_loan m.processes m.ledger (caller_place m address) (size / PAGE_SIZE) ≡ false
unmap_loan m address size e =
    let third = (any_on_loan m.processes m.ledger (caller_place m address) (size / PAGE_SIZE), ShareViolation) ∷ [] in
    let second = (any_free m.processes m.ledger (caller_place m address) (size / PAGE_SIZE), BadAddress) ∷ third in
    let e2 : first_refusal second ≡ None = (none_holds (is_bad_range address size) BadAlignment second e).1 in
    let e3 : first_refusal third ≡ None =
    (none_holds (any_free m.processes m.ledger (caller_place m address) (size / PAGE_SIZE)) BadAddress third e2).1 in
    (none_holds (any_on_loan m.processes m.ledger (caller_place m address) (size / PAGE_SIZE)) ShareViolation [] e3).0

unmap_served_keeps : (m : Machine) (address size : ℕ) → Matched m → ready_at m m.cursor ≡ true
    → first_refusal (unmap_refusals m address size) ≡ None → Keeps m (Served (unmap_served m address size))
unmap_served_keeps m address size h r e =
    ledger_served m (remove (in_run (caller_place m address) (size / PAGE_SIZE)) m.ledger) plain_words h r
    (like_removed m (in_run (caller_place m address) (size / PAGE_SIZE)) h
    (can_remove m.processes m.ledger (caller_place m address) (size / PAGE_SIZE) (unmap_loan m address size e)))

pub unmap_keeps : (m : Machine) (w : List ℕ) → Matched m → ready_at m m.cursor ≡ true → Keeps m (unmap_call m w)
unfolding unmap_call
unmap_keeps m w h r =
    unless_refused_keeps m h (unmap_refusals m (range_address w) (range_size w)) (Served (unmap_served m (range_address w) (range_size w)))
    (unmap_served_keeps m (range_address w) (range_size w) h r)

-- ---- UpdateMemoryFlags

reduced_stood : (right : Right) (b : Bool) (o : Option Page) (page : Page) → (if b then option_map (with_right right) o else o) ≡ Some page
    → (old : Page) × (o ≡ Some old)
reduced_stood right false o page e = (page, e)
reduced_stood right true None page e = absurd (none-some page e)
reduced_stood right true (Some old) page e = (old, refl)

pub like_reduced : (m : Machine) (places : Place → Bool) (right : Right) → Matched m → CanReduce m.ledger places right
    → IsLikeLedger m (reduce places right m.ledger)
unfolding reduce
like_reduced m places right h can = record {
  lawful = reduce_lawful m.processes m.capacity places right m.ledger h.body.ledger.lawful can;
  same = reduce_loans places right m.ledger;
  stand = λ p page e. let old = reduced_stood right (places p) (m.ledger.home p) page e in stands_now m h p old.0 old.1;
}

pub update_allowed : (m : Machine) (address size flags : ℕ) → first_refusal (update_refusals m address size flags) ≡ None
    → (any_on_loan m.processes m.ledger (caller_place m address) (size / PAGE_SIZE) ≡ false)
    × (any_lacks (right_of flags) m.ledger (caller_place m address) (size / PAGE_SIZE) ≡ false)
update_allowed m address size flags e =
    let first = caller_place m address in
    let n = size / PAGE_SIZE in
    let fifth = (any_lacks (right_of flags) m.ledger first n, AccessDenied) ∷ [] in
    let fourth = (any_on_loan m.processes m.ledger first n, ShareViolation) ∷ fifth in
    let third = (any_free m.processes m.ledger first n, BadAddress) ∷ fourth in
    let second = (are_bad_flags flags, InvalidSyscall) ∷ third in
    let e2 : first_refusal second ≡ None = (none_holds (is_bad_range address size) BadAlignment second e).1 in
    let e3 : first_refusal third ≡ None = (none_holds (are_bad_flags flags) InvalidSyscall third e2).1 in
    let e4 : first_refusal fourth ≡ None = (none_holds (any_free m.processes m.ledger first n) BadAddress fourth e3).1 in
    let e5 = none_holds (any_on_loan m.processes m.ledger first n) ShareViolation fifth e4 in
    (e5.0, (none_holds (any_lacks (right_of flags) m.ledger first n) AccessDenied [] e5.1).0)

update_served_keeps : (m : Machine) (address size flags : ℕ) → Matched m → ready_at m m.cursor ≡ true
    → first_refusal (update_refusals m address size flags) ≡ None → Keeps m (Served (update_served m address size flags))
update_served_keeps m address size flags h r e =
    let allowed = update_allowed m address size flags e in
    ledger_served m (reduce (in_run (caller_place m address) (size / PAGE_SIZE)) (right_of flags) m.ledger) plain_words h r
    (like_reduced m (in_run (caller_place m address) (size / PAGE_SIZE)) (right_of flags) h
    (can_reduce m.processes m.ledger (caller_place m address) (size / PAGE_SIZE) (right_of flags) allowed.0 allowed.1))

pub update_keeps : (m : Machine) (w : List ℕ) → Matched m → ready_at m m.cursor ≡ true → Keeps m (update_call m w)
unfolding update_call
update_keeps m w h r =
    unless_refused_keeps m h (update_refusals m (range_address w) (range_size w) (range_flags w))
    (Served (update_served m (range_address w) (range_size w) (range_flags w)))
    (update_served_keeps m (range_address w) (range_size w) (range_flags w) h r)
