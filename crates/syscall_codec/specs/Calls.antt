-- Which call eight words ask for.
use Rattle.std.specs.Prelude.{◌≡◌, ℕ, List}
use Rattle.syscall_codec.specs.CallNumbers.{map_memory, yield_turn, claim_interrupt, free_interrupt, increase_heap, decrease_heap}
use Rattle.syscall_codec.specs.CallNumbers.{update_memory_flags, create_server_with_address, receive_message, send_message, connect}
use Rattle.syscall_codec.specs.CallNumbers.{create_thread, unmap_memory, return_memory, terminate_process, try_send_message, try_connect}
use Rattle.syscall_codec.specs.CallNumbers.{return_scalar1, return_scalar2, try_receive_message, join_thread, destroy_server, get_thread_id}
use Rattle.syscall_codec.specs.CallNumbers.{get_process_id, forward_message}
use Rattle.syscall_codec.specs.CallWords.{call_number, map_phys, map_virt, map_size, map_flags, interrupt_number, interrupt_handler}
use Rattle.syscall_codec.specs.CallWords.{interrupt_argument, heap_bytes, range_address, range_size, range_flags, sid_words, send_cid}
use Rattle.syscall_codec.specs.CallWords.{send_kind, send_id, send_words, thread_entry, thread_sp, thread_arguments, return_token}
use Rattle.syscall_codec.specs.CallWords.{return_address, return_size, return_offset, return_valid, return_value1, return_value2}
use Rattle.syscall_codec.specs.CallWords.{forward_token, forward_cid, exit_word, join_tid}
use Rattle.syscall_codec.specs.declared.calls.Call.{Call}
use Rattle.syscall_codec.specs.declared.calls.Call.TheVariants.{MapMemory, Yield, ClaimInterrupt, FreeInterrupt, IncreaseHeap, DecreaseHeap}
use Rattle.syscall_codec.specs.declared.calls.Call.TheVariants.{UpdateMemoryFlags, CreateServerWithAddress, ReceiveMessage, SendMessage}
use Rattle.syscall_codec.specs.declared.calls.Call.TheVariants.{Connect, CreateThread, UnmapMemory, ReturnMemory, TerminateProcess}
use Rattle.syscall_codec.specs.declared.calls.Call.TheVariants.{TrySendMessage, TryConnect, ReturnScalar1, ReturnScalar2, TryReceiveMessage}
use Rattle.syscall_codec.specs.declared.calls.Call.TheVariants.{JoinThread, DestroyServer, GetThreadId, GetProcessId, ForwardMessage}

-- the words ask for the call: they have its number, and each of its fields at its place. Other words are ignored
abbrev pub Asks : List ℕ → Call → Type 0
Asks words (MapMemory phys virt size flags) =
    (call_number words ≡ map_memory) × (map_phys words ≡ phys) × (map_virt words ≡ virt) × (map_size words ≡ size)
    × (map_flags words ≡ flags)
Asks words Yield = call_number words ≡ yield_turn
Asks words (ClaimInterrupt number handler arg) =
    (call_number words ≡ claim_interrupt) × (interrupt_number words ≡ number) × (interrupt_handler words ≡ handler)
    × (interrupt_argument words ≡ arg)
Asks words (FreeInterrupt number) = (call_number words ≡ free_interrupt) × (interrupt_number words ≡ number)
Asks words (IncreaseHeap bytes) = (call_number words ≡ increase_heap) × (heap_bytes words ≡ bytes)
Asks words (DecreaseHeap bytes) = (call_number words ≡ decrease_heap) × (heap_bytes words ≡ bytes)
Asks words (UpdateMemoryFlags address size flags) =
    (call_number words ≡ update_memory_flags) × (range_address words ≡ address) × (range_size words ≡ size) × (range_flags words ≡ flags)
Asks words (CreateServerWithAddress sid) = (call_number words ≡ create_server_with_address) × (sid_words words ≡ sid.0)
Asks words (ReceiveMessage sid) = (call_number words ≡ receive_message) × (sid_words words ≡ sid.0)
Asks words (SendMessage cid kind id sent) =
    (call_number words ≡ send_message) × (send_cid words ≡ cid) × (send_kind words ≡ kind) × (send_id words ≡ id)
    × (send_words words ≡ sent)
Asks words (Connect sid) = (call_number words ≡ connect) × (sid_words words ≡ sid.0)
Asks words (CreateThread entry sp args) =
    (call_number words ≡ create_thread) × (thread_entry words ≡ entry) × (thread_sp words ≡ sp) × (thread_arguments words ≡ args)
Asks words (UnmapMemory address size) =
    (call_number words ≡ unmap_memory) × (range_address words ≡ address) × (range_size words ≡ size)
Asks words (ReturnMemory token address size offset valid) =
    (call_number words ≡ return_memory) × (return_token words ≡ token) × (return_address words ≡ address) × (return_size words ≡ size)
    × (return_offset words ≡ offset) × (return_valid words ≡ valid)
Asks words (TerminateProcess exit) = (call_number words ≡ terminate_process) × (exit_word words ≡ exit)
Asks words (TrySendMessage cid kind id sent) =
    (call_number words ≡ try_send_message) × (send_cid words ≡ cid) × (send_kind words ≡ kind) × (send_id words ≡ id)
    × (send_words words ≡ sent)
Asks words (TryConnect sid) = (call_number words ≡ try_connect) × (sid_words words ≡ sid.0)
Asks words (ReturnScalar1 token value) =
    (call_number words ≡ return_scalar1) × (return_token words ≡ token) × (return_value1 words ≡ value)
Asks words (ReturnScalar2 token value1 value2) =
    (call_number words ≡ return_scalar2) × (return_token words ≡ token) × (return_value1 words ≡ value1) × (return_value2 words ≡ value2)
Asks words (TryReceiveMessage sid) = (call_number words ≡ try_receive_message) × (sid_words words ≡ sid.0)
Asks words (JoinThread tid) = (call_number words ≡ join_thread) × (join_tid words ≡ tid)
Asks words (DestroyServer sid) = (call_number words ≡ destroy_server) × (sid_words words ≡ sid.0)
Asks words GetThreadId = call_number words ≡ get_thread_id
Asks words GetProcessId = call_number words ≡ get_process_id
Asks words (ForwardMessage token cid) =
    (call_number words ≡ forward_message) × (forward_token words ≡ token) × (forward_cid words ≡ cid)

-- how many words the call names, its number included
abbrev pub named_words : Call → ℕ
named_words (MapMemory phys virt size flags) = 5
named_words Yield = 1
named_words (ClaimInterrupt number handler arg) = 4
named_words (FreeInterrupt number) = 2
named_words (IncreaseHeap bytes) = 2
named_words (DecreaseHeap bytes) = 2
named_words (UpdateMemoryFlags address size flags) = 4
named_words (CreateServerWithAddress sid) = 5
named_words (ReceiveMessage sid) = 5
named_words (SendMessage cid kind id sent) = 8
named_words (Connect sid) = 5
named_words (CreateThread entry sp args) = 7
named_words (UnmapMemory address size) = 3
named_words (ReturnMemory token address size offset valid) = 6
named_words (TerminateProcess exit) = 2
named_words (TrySendMessage cid kind id sent) = 8
named_words (TryConnect sid) = 5
named_words (ReturnScalar1 token value) = 3
named_words (ReturnScalar2 token value1 value2) = 4
named_words (TryReceiveMessage sid) = 5
named_words (JoinThread tid) = 2
named_words (DestroyServer sid) = 5
named_words GetThreadId = 1
named_words GetProcessId = 1
named_words (ForwardMessage token cid) = 3
