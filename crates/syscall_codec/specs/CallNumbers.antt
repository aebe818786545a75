-- The numbers of system calls (a0 of a call) and the first words of replies (a0 of a reply).
use Rattle.std.specs.Prelude.{ℕ, Bool, ◌==◌, List, [], ◌∷◌}
use Rattle.std.specs.List.{list_any}

abbrev pub map_memory : ℕ
map_memory = 2

abbrev pub yield_turn : ℕ
yield_turn = 3

abbrev pub claim_interrupt : ℕ
claim_interrupt = 5

abbrev pub free_interrupt : ℕ
free_interrupt = 6

abbrev pub increase_heap : ℕ
increase_heap = 10

abbrev pub decrease_heap : ℕ
decrease_heap = 11

abbrev pub update_memory_flags : ℕ
update_memory_flags = 12

abbrev pub create_server_with_address : ℕ
create_server_with_address = 14

abbrev pub receive_message : ℕ
receive_message = 15

abbrev pub send_message : ℕ
send_message = 16

abbrev pub connect : ℕ
connect = 17

abbrev pub create_thread : ℕ
create_thread = 18

abbrev pub unmap_memory : ℕ
unmap_memory = 19

abbrev pub return_memory : ℕ
return_memory = 20

abbrev pub terminate_process : ℕ
terminate_process = 22

abbrev pub try_send_message : ℕ
try_send_message = 24

abbrev pub try_connect : ℕ
try_connect = 25

abbrev pub return_scalar1 : ℕ
return_scalar1 = 26

abbrev pub return_scalar2 : ℕ
return_scalar2 = 27

abbrev pub try_receive_message : ℕ
try_receive_message = 28

abbrev pub join_thread : ℕ
join_thread = 36

abbrev pub destroy_server : ℕ
destroy_server = 41

abbrev pub get_thread_id : ℕ
get_thread_id = 42

abbrev pub get_process_id : ℕ
get_process_id = 43

abbrev pub forward_message : ℕ
forward_message = 44

-- the numbers of all calls; a call with any other number is unhandled
abbrev pub call_numbers : List ℕ
call_numbers =
    map_memory ∷ yield_turn ∷ claim_interrupt ∷ free_interrupt ∷ increase_heap ∷ decrease_heap ∷ update_memory_flags
    ∷ create_server_with_address ∷ receive_message ∷ send_message ∷ connect ∷ create_thread ∷ unmap_memory ∷ return_memory
    ∷ terminate_process ∷ try_send_message ∷ try_connect ∷ return_scalar1 ∷ return_scalar2 ∷ try_receive_message
    ∷ join_thread ∷ destroy_server ∷ get_thread_id ∷ get_process_id ∷ forward_message ∷ []

abbrev pub is_call_number : ℕ → Bool
is_call_number n = list_any (λ k. n == k) call_numbers

-- the reply of a call that answers nothing but that it was served
abbrev pub reply_ok : ℕ
reply_ok = 0

-- a refusal; the second word is the number of the error
abbrev pub reply_error : ℕ
reply_error = 1

-- an address and a size
abbrev pub reply_memory_range : ℕ
reply_memory_range = 3

-- a connection
abbrev pub reply_connection_id : ℕ
reply_connection_id = 7

-- a message for the server that received it
abbrev pub reply_message : ℕ
reply_message = 9

-- a thread
abbrev pub reply_thread_id : ℕ
reply_thread_id = 10

-- one value
abbrev pub reply_scalar1 : ℕ
reply_scalar1 = 14

-- two values
abbrev pub reply_scalar2 : ℕ
reply_scalar2 = 15

-- the end of a lend: offset and valid, as the server left them
abbrev pub reply_memory_returned : ℕ
reply_memory_returned = 18

-- the identifier of a new server and the caller's connection to it
abbrev pub reply_new_server : ℕ
reply_new_server = 19
