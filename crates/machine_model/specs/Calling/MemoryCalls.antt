-- The five calls on memory. Each is its list of refusals in their order, then its change and its reply, and then the call
-- from its words. The caller is the thread of the cursor. A test of several pages is made of all of them before the next
-- test.
use Rattle.std.specs.Prelude.{ℕ, ◌+◌, ◌-◌, ◌*◌, ◌/◌, ◌%◌, Bool, true, false, not, ◌&&◌, ◌||◌, ◌==◌, nat_eq, nat_lt, is_none, unwrap_or}
use Rattle.std.specs.Prelude.{if◌then◌else◌, List, [], ◌∷◌}
use Rattle.xk_base.specs.declared.errors.XousError.{XousError}
use Rattle.xk_base.specs.declared.errors.XousError.TheVariants.{BadAlignment, BadAddress, OutOfMemory, MemoryInUse, InvalidSyscall}
use Rattle.xk_base.specs.declared.errors.XousError.TheVariants.{ShareViolation, AccessDenied, InvalidLimit}
use Rattle.xk_base.specs.declared.ids.Place.{Place}
use Rattle.xk_base.specs.declared.limits.TheConstants.{PAGE_SIZE, CONSOLE_ADDRESS}
use Rattle.xk_base.specs.declared.pages.Right.{Right}
use Rattle.xk_base.specs.declared.windows.Window.TheVariants.{Heap, Map}
use Rattle.syscall_codec.specs.CallWords.{map_phys, map_virt, map_size, map_flags, heap_bytes, range_address, range_size, range_flags}
use Rattle.xk_base.specs.Tables.Counting.{put_at}
use Rattle.syscall_codec.specs.Flags.{flag_read, flag_execute, are_known_flags, has_flag, right_of}
use Rattle.syscall_codec.specs.ReplyWords.{plain_words, range_words}
use Rattle.xk_base.specs.Numbers.Windows.{first_page, page_of}
use Rattle.ledger_model.specs.Ledger.{Ledger, pages}
use Rattle.ledger_model.specs.LeastRun.{least_run}
use Rattle.ledger_model.specs.Places.{in_run}
use Rattle.ledger_model.specs.RunTests.{fits_window, any_used, any_free, any_on_loan, any_lacks, console_mapped}
use Rattle.ledger_model.specs.Steps.{make, make_console, remove, reduce}
use Rattle.machine_model.specs.State.Changes.{Change, Served, Call, answering, unless_refused}
use Rattle.machine_model.specs.State.Machine.{Machine}
use Rattle.machine_model.specs.State.Threads.{answer_to}

-- ---- words of all five

-- a multiple of 4096
abbrev pub is_aligned : ℕ → Bool
is_aligned n = n % PAGE_SIZE == 0

-- not the address and size of a run of pages
abbrev pub is_bad_range : ℕ → ℕ → Bool
is_bad_range address size = size == 0 || not (is_aligned size) || not (is_aligned address)

-- an unknown bit is set, or R is not
abbrev pub are_bad_flags : ℕ → Bool
are_bad_flags flags = not (are_known_flags flags) || not (has_flag flags flag_read)

-- n more pages would be more than the capacity
abbrev pub are_too_many : Machine → ℕ → Bool
are_too_many m n = nat_lt m.capacity (pages m.processes m.ledger + n)

-- the place of an address in the caller's process
abbrev pub caller_place : Machine → ℕ → Place
caller_place m address = page_of m.cursor.pid address

-- the machine with that ledger, and these words for the caller
abbrev pub with_ledger : Machine → Ledger → List ℕ → Change
with_ledger m ledger words = answering (answer_to m.cursor words) (record m { ledger = ledger })

-- ---- MapMemory

abbrev pub map_refusals : Machine → ℕ → ℕ → ℕ → ℕ → List (Bool × XousError)
map_refusals m phys virt size flags =
    let console = phys == CONSOLE_ADDRESS in
    let n = size / PAGE_SIZE in
    (is_bad_range virt size, BadAlignment)
    ∷ (are_bad_flags flags, InvalidSyscall)
    ∷ (not (phys == 0) && not console, BadAddress)
    ∷ (console && (not (size == PAGE_SIZE) || has_flag flags flag_execute), BadAddress)
    ∷ (console && console_mapped m.processes m.ledger, MemoryInUse)
    ∷ (not (virt == 0) && not (fits_window Map (virt / PAGE_SIZE) n), BadAddress)
    ∷ (not (virt == 0) && any_used m.processes m.ledger (caller_place m virt) n, MemoryInUse)
    ∷ (virt == 0 && is_none (least_run m.processes m.ledger m.cursor.pid Map n), MemoryInUse)
    ∷ (not console && are_too_many m n, OutOfMemory)
    ∷ []

-- where the pages go: at `virt`, or where it is 0 at the least free run of the Map window, which there is
abbrev pub map_address : Machine → ℕ → ℕ → ℕ
map_address m virt size =
    if virt == 0
    then PAGE_SIZE * (unwrap_or (least_run m.processes m.ledger m.cursor.pid Map (size / PAGE_SIZE)) (record { 0 = 0 })).0
    else virt

-- pages of zeros, or the console
abbrev pub mapped_ledger : Bool → Place → ℕ → Right → Ledger → Ledger
mapped_ledger false first n right ledger = make first n right ledger
mapped_ledger true first n right ledger = make_console first right.w ledger

abbrev pub map_served : Machine → ℕ → ℕ → ℕ → ℕ → Change
map_served m phys virt size flags =
    let address = map_address m virt size in
    let console = phys == CONSOLE_ADDRESS in
    with_ledger m (mapped_ledger console (caller_place m address) (size / PAGE_SIZE) (right_of flags) m.ledger)
    (range_words address size)

unfoldable pub map_call : Call
map_call m w =
    unless_refused (map_refusals m (map_phys w) (map_virt w) (map_size w) (map_flags w))
    (Served (map_served m (map_phys w) (map_virt w) (map_size w) (map_flags w)))

-- ---- UnmapMemory

abbrev pub unmap_refusals : Machine → ℕ → ℕ → List (Bool × XousError)
unmap_refusals m address size =
    (is_bad_range address size, BadAlignment)
    ∷ (any_free m.processes m.ledger (caller_place m address) (size / PAGE_SIZE), BadAddress)
    ∷ (any_on_loan m.processes m.ledger (caller_place m address) (size / PAGE_SIZE), ShareViolation)
    ∷ []

-- the pages go, the console too
abbrev pub unmap_served : Machine → ℕ → ℕ → Change
unmap_served m address size =
    with_ledger m (remove (in_run (caller_place m address) (size / PAGE_SIZE)) m.ledger) plain_words

unfoldable pub unmap_call : Call
unmap_call m w =
    unless_refused (unmap_refusals m (range_address w) (range_size w))
    (Served (unmap_served m (range_address w) (range_size w)))

-- ---- UpdateMemoryFlags

abbrev pub update_refusals : Machine → ℕ → ℕ → ℕ → List (Bool × XousError)
update_refusals m address size flags =
    (is_bad_range address size, BadAlignment)
    ∷ (are_bad_flags flags, InvalidSyscall)
    ∷ (any_free m.processes m.ledger (caller_place m address) (size / PAGE_SIZE), BadAddress)
    ∷ (any_on_loan m.processes m.ledger (caller_place m address) (size / PAGE_SIZE), ShareViolation)
    ∷ (any_lacks (right_of flags) m.ledger (caller_place m address) (size / PAGE_SIZE), AccessDenied)
    ∷ []

-- the right becomes the one that is asked
abbrev pub update_served : Machine → ℕ → ℕ → ℕ → Change
update_served m address size flags =
    with_ledger m (reduce (in_run (caller_place m address) (size / PAGE_SIZE)) (right_of flags) m.ledger) plain_words

unfoldable pub update_call : Call
update_call m w =
    unless_refused (update_refusals m (range_address w) (range_size w) (range_flags w))
    (Served (update_served m (range_address w) (range_size w) (range_flags w)))

-- ---- IncreaseHeap

-- the first address of the Heap window
abbrev pub heap_start : ℕ
heap_start = PAGE_SIZE * first_page Heap

-- 16 MiB, the whole window
abbrev pub heap_limit : ℕ
heap_limit = 16777216

-- the length of the caller's heap
abbrev pub heap_of : Machine → ℕ
heap_of m = (m.process m.cursor.pid.0).heap

-- the machine with that ledger and that length of the caller's heap, and these words for the caller
abbrev pub with_heap : Machine → ℕ → Ledger → List ℕ → Change
with_heap m heap ledger words =
    let caller = m.cursor.pid.0 in
    answering (answer_to m.cursor words)
    (record m { ledger = ledger; process = put_at nat_eq m.process caller (record (m.process caller) { heap = heap }) })

abbrev pub increase_refusals : Machine → ℕ → List (Bool × XousError)
increase_refusals m bytes =
    (not (is_aligned bytes), BadAlignment)
    ∷ (nat_lt heap_limit (heap_of m + bytes), InvalidLimit)
    ∷ (are_too_many m (bytes / PAGE_SIZE), OutOfMemory)
    ∷ []

-- pages with R and W stand above the heap
abbrev pub increase_served : Machine → ℕ → Change
increase_served m bytes =
    let address = heap_start + heap_of m in
    with_heap m (heap_of m + bytes)
    (make (caller_place m address) (bytes / PAGE_SIZE) (record { w = true; x = false }) m.ledger)
    (range_words address bytes)

unfoldable pub increase_call : Call
increase_call m w = unless_refused (increase_refusals m (heap_bytes w)) (Served (increase_served m (heap_bytes w)))

-- ---- DecreaseHeap

abbrev pub decrease_refusals : Machine → ℕ → List (Bool × XousError)
decrease_refusals m bytes =
    (not (is_aligned bytes), BadAlignment)
    ∷ (nat_lt (heap_of m) bytes, InvalidLimit)
    ∷ (any_on_loan m.processes m.ledger (caller_place m (heap_start + (heap_of m - bytes))) (bytes / PAGE_SIZE), ShareViolation)
    ∷ []

-- the pages at the end of the heap go; places without a page are passed over
abbrev pub decrease_served : Machine → ℕ → Change
decrease_served m bytes =
    with_heap m (heap_of m - bytes)
    (remove (in_run (caller_place m (heap_start + (heap_of m - bytes))) (bytes / PAGE_SIZE)) m.ledger)
    plain_words

unfoldable pub decrease_call : Call
decrease_call m w = unless_refused (decrease_refusals m (heap_bytes w)) (Served (decrease_served m (heap_bytes w)))
