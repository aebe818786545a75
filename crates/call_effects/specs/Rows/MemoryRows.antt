-- The verdicts on the five calls on memory: the tests in their order, then the pages and the reply.
use Rattle.std.specs.Prelude.{◌+◌, ◌-◌, ◌/◌, ◌==◌, true, false, [], ◌∷◌}
use Rattle.xk_base.specs.declared.limits.TheConstants.{CONSOLE_ADDRESS, PAGE_SIZE}
use Rattle.syscall_codec.specs.CallWords.{heap_bytes, map_flags, map_phys, map_size, map_virt, range_address, range_flags, range_size}
use Rattle.syscall_codec.specs.Flags.{right_of}
use Rattle.syscall_codec.specs.ReplyWords.{plain_words, range_words}
use Rattle.machine_model.specs.Calling.MemoryCalls.{caller_place, decrease_refusals, heap_of, heap_start, increase_refusals, map_address}
use Rattle.machine_model.specs.Calling.MemoryCalls.{map_refusals, unmap_refusals, update_refusals}
use Rattle.call_effects.specs.Effects.{HasHeap, Maps, Pages, Reduces, Removes}
use Rattle.call_effects.specs.Verdicts.{RefusedIf, Row, answers_caller}

-- MapMemory: pages of zeros, or the console
abbrev pub map_row : Row
map_row m w =
    let address = map_address m (map_virt w) (map_size w) in
    let pages = Maps (map_phys w == CONSOLE_ADDRESS) (caller_place m address) (map_size w / PAGE_SIZE) (right_of (map_flags w)) in
    RefusedIf (map_refusals m (map_phys w) (map_virt w) (map_size w) (map_flags w))
    (answers_caller m (range_words address (map_size w)) (Pages pages ∷ []))

-- UnmapMemory: the pages go
abbrev pub unmap_row : Row
unmap_row m w =
    RefusedIf (unmap_refusals m (range_address w) (range_size w))
    (answers_caller m plain_words (Pages (Removes (caller_place m (range_address w)) (range_size w / PAGE_SIZE)) ∷ []))

-- UpdateMemoryFlags: the pages get the right
abbrev pub update_row : Row
update_row m w =
    let pages = Reduces (caller_place m (range_address w)) (range_size w / PAGE_SIZE) (right_of (range_flags w)) in
    RefusedIf (update_refusals m (range_address w) (range_size w) (range_flags w))
    (answers_caller m plain_words (Pages pages ∷ []))

-- IncreaseHeap: pages stand above the heap, which is longer by them
abbrev pub increase_row : Row
increase_row m w =
    let address = heap_start + heap_of m in
    let pages = Maps false (caller_place m address) (heap_bytes w / PAGE_SIZE) (record { w = true; x = false }) in
    RefusedIf (increase_refusals m (heap_bytes w))
    (answers_caller m (range_words address (heap_bytes w)) (Pages pages ∷ HasHeap (heap_of m + heap_bytes w) ∷ []))

-- DecreaseHeap: the pages at the end of the heap go, and it is shorter by them
abbrev pub decrease_row : Row
decrease_row m w =
    let left = heap_of m - heap_bytes w in
    RefusedIf (decrease_refusals m (heap_bytes w))
    (answers_caller m plain_words (Pages (Removes (caller_place m (heap_start + left)) (heap_bytes w / PAGE_SIZE)) ∷ HasHeap left ∷ []))
