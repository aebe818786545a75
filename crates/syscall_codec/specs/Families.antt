-- The numbers of calls by what the calls are about, in which order `read_call` looks for them.
use Rattle.std.specs.Prelude.{ℕ, not, ◌==◌, List, [], ◌∷◌, ◌++◌, filter}
use Rattle.std.specs.List.{list_any}
use Rattle.syscall_codec.specs.CallNumbers.{map_memory, increase_heap, decrease_heap, update_memory_flags, create_server_with_address}
use Rattle.syscall_codec.specs.CallNumbers.{receive_message, send_message, connect, unmap_memory, return_memory, try_send_message}
use Rattle.syscall_codec.specs.CallNumbers.{try_connect, return_scalar1, return_scalar2, try_receive_message, destroy_server}
use Rattle.syscall_codec.specs.CallNumbers.{forward_message, call_numbers}

-- on the caller's memory
abbrev pub memory_numbers : List ℕ
memory_numbers = map_memory ∷ increase_heap ∷ decrease_heap ∷ update_memory_flags ∷ unmap_memory ∷ []

-- on a server by its identifier
abbrev pub server_numbers : List ℕ
server_numbers =
    create_server_with_address ∷ receive_message ∷ connect ∷ try_connect ∷ try_receive_message ∷ destroy_server ∷ []

-- on a message
abbrev pub message_numbers : List ℕ
message_numbers =
    send_message ∷ return_memory ∷ try_send_message ∷ return_scalar1 ∷ return_scalar2 ∷ forward_message ∷ []

-- on threads, processes and interrupts: all others
abbrev pub thread_numbers : List ℕ
thread_numbers = filter (λ k. not (list_any (λ n. k == n) (memory_numbers ++ server_numbers ++ message_numbers))) call_numbers
