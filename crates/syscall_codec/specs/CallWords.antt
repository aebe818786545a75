-- The words of a system call by name. A call is eight words, in a0 to a7: its number, and then what each call names, in
-- the order below. Words that a call does not name are ignored.
use Rattle.std.specs.Prelude.{ℕ, Bool, ◌==◌, ◌&&◌, ◌||◌, List, [], ◌∷◌, slice_index}
use Rattle.syscall_codec.specs.CallNumbers.{receive_message, send_message, connect, join_thread, try_send_message}
use Rattle.xk_base.specs.Calls.Kinds.{is_waiting_kind}

abbrev pub call_number : List ℕ → ℕ
call_number words = slice_index words 0

-- MapMemory: a physical address or 0, a virtual address or 0, a size in bytes, and flags
abbrev pub map_phys : List ℕ → ℕ
map_phys words = slice_index words 1

abbrev pub map_virt : List ℕ → ℕ
map_virt words = slice_index words 2

abbrev pub map_size : List ℕ → ℕ
map_size words = slice_index words 3

abbrev pub map_flags : List ℕ → ℕ
map_flags words = slice_index words 4

-- ClaimInterrupt: the interrupt's number, the handler's address, and the handler's argument. FreeInterrupt: the number
abbrev pub interrupt_number : List ℕ → ℕ
interrupt_number words = slice_index words 1

abbrev pub interrupt_handler : List ℕ → ℕ
interrupt_handler words = slice_index words 2

abbrev pub interrupt_argument : List ℕ → ℕ
interrupt_argument words = slice_index words 3

-- IncreaseHeap and DecreaseHeap: by how many bytes
abbrev pub heap_bytes : List ℕ → ℕ
heap_bytes words = slice_index words 1

-- UpdateMemoryFlags: an address, a size in bytes, and flags. UnmapMemory: the first two
abbrev pub range_address : List ℕ → ℕ
range_address words = slice_index words 1

abbrev pub range_size : List ℕ → ℕ
range_size words = slice_index words 2

abbrev pub range_flags : List ℕ → ℕ
range_flags words = slice_index words 3

-- CreateServerWithAddress, ReceiveMessage, Connect, TryConnect, TryReceiveMessage and DestroyServer: the server's identifier
abbrev pub sid_words : List ℕ → List ℕ
sid_words words = slice_index words 1 ∷ slice_index words 2 ∷ slice_index words 3 ∷ slice_index words 4 ∷ []

-- SendMessage and TrySendMessage: a connection, the number of a kind, the sender's id for the message, and four words
abbrev pub send_cid : List ℕ → ℕ
send_cid words = slice_index words 1

abbrev pub send_kind : List ℕ → ℕ
send_kind words = slice_index words 2

abbrev pub send_id : List ℕ → ℕ
send_id words = slice_index words 3

abbrev pub send_words : List ℕ → List ℕ
send_words words = slice_index words 4 ∷ slice_index words 5 ∷ slice_index words 6 ∷ slice_index words 7 ∷ []

-- the four words of a send with pages: an address, a length in bytes, offset and valid
abbrev pub send_address : List ℕ → ℕ
send_address words = slice_index words 4

abbrev pub send_length : List ℕ → ℕ
send_length words = slice_index words 5

abbrev pub send_offset : List ℕ → ℕ
send_offset words = slice_index words 6

abbrev pub send_valid : List ℕ → ℕ
send_valid words = slice_index words 7

-- CreateThread: where it begins, its stack pointer, and four arguments
abbrev pub thread_entry : List ℕ → ℕ
thread_entry words = slice_index words 1

abbrev pub thread_sp : List ℕ → ℕ
thread_sp words = slice_index words 2

abbrev pub thread_arguments : List ℕ → List ℕ
thread_arguments words = slice_index words 3 ∷ slice_index words 4 ∷ slice_index words 5 ∷ slice_index words 6 ∷ []

-- ReturnMemory: a token, an address, a size in bytes, offset and valid. ReturnScalar1 and ReturnScalar2: a token and one or
-- two values
abbrev pub return_token : List ℕ → ℕ
return_token words = slice_index words 1

abbrev pub return_address : List ℕ → ℕ
return_address words = slice_index words 2

abbrev pub return_size : List ℕ → ℕ
return_size words = slice_index words 3

abbrev pub return_offset : List ℕ → ℕ
return_offset words = slice_index words 4

abbrev pub return_valid : List ℕ → ℕ
return_valid words = slice_index words 5

abbrev pub return_value1 : List ℕ → ℕ
return_value1 words = slice_index words 2

abbrev pub return_value2 : List ℕ → ℕ
return_value2 words = slice_index words 3

-- ForwardMessage: a token, and a connection to the server that the message goes to
abbrev pub forward_token : List ℕ → ℕ
forward_token words = slice_index words 1

abbrev pub forward_cid : List ℕ → ℕ
forward_cid words = slice_index words 2

-- TerminateProcess: a word that nobody reads
abbrev pub exit_word : List ℕ → ℕ
exit_word words = slice_index words 1

-- JoinThread: a thread of the caller's process
abbrev pub join_tid : List ℕ → ℕ
join_tid words = slice_index words 1

-- the calls that are refused to an interrupt handler, since they can make it wait: ReceiveMessage, SendMessage, Connect and
-- JoinThread, and TrySendMessage of a kind that waits for its answer
abbrev pub is_refused_to_handler : List ℕ → Bool
is_refused_to_handler words =
    call_number words == receive_message || call_number words == send_message || call_number words == connect
    || call_number words == join_thread || (call_number words == try_send_message && is_waiting_kind (send_kind words))
