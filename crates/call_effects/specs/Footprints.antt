-- Which parts of the machine each system call can change: the parts that each effect changes, and for each call those of all its
-- effects.
use Rattle.std.specs.Prelude.{◌≡◌, ℕ, Bool, false, ◌==◌, List, [], ◌∷◌}
use Rattle.std.specs.List.{list_all, list_any}
use Rattle.syscall_codec.specs.CallNumbers.{map_memory, yield_turn, claim_interrupt, free_interrupt, increase_heap, decrease_heap}
use Rattle.syscall_codec.specs.CallNumbers.{update_memory_flags, create_server_with_address, receive_message, send_message, connect}
use Rattle.syscall_codec.specs.CallNumbers.{create_thread, unmap_memory, return_memory, terminate_process, try_send_message, try_connect}
use Rattle.syscall_codec.specs.CallNumbers.{return_scalar1, return_scalar2, try_receive_message, join_thread, destroy_server, forward_message}
use Rattle.syscall_codec.specs.CallWords.{call_number}
use Rattle.machine_model.specs.Calling.Calls.{call}
use Rattle.machine_model.specs.Calling.Tables.{row_of}
use Rattle.machine_model.specs.State.Changes.{Change, Served}
use Rattle.machine_model.specs.State.Machine.{Machine}
use Rattle.call_effects.specs.Effects.{Effect, Pages, HasHeap, Starts, Waits, Awaits, EndsTurn, Founds, Connects, TakesNumber, Serves}
use Rattle.call_effects.specs.Effects.{ClosesServers, Unqueues, Orphans, Forgets, Claims, Frees}

-- ---- parts

-- a part of the machine that calls change
pub data Part : Type 0 where
  LedgerPart : Part
  ThreadsPart : Part
  ProcessesPart : Part
  ServersPart : Part
  ClaimsPart : Part
  PendingPart : Part
  ComparePart : Part
  CursorPart : Part
  NumberPart : Part
  SerialPart : Part

abbrev pub part_code : Part → ℕ
part_code LedgerPart = 0
part_code ThreadsPart = 1
part_code ProcessesPart = 2
part_code ServersPart = 3
part_code ClaimsPart = 4
part_code PendingPart = 5
part_code ComparePart = 6
part_code CursorPart = 7
part_code NumberPart = 8
part_code SerialPart = 9

-- the part is one of these
abbrev pub names : List Part → Part → Bool
names parts part = list_any (λ other. part_code part == part_code other) parts

-- each of the parts is one of the others
abbrev pub are_among : List Part → List Part → Bool
are_among others parts = list_all (names others) parts

-- each part but these is as before, and so is all that no call changes
pub record LeavesAllBut (parts : List Part) (m n : Machine) : Type 0 where
  pub ledger : names parts LedgerPart ≡ false → n.ledger ≡ m.ledger
  pub threads : names parts ThreadsPart ≡ false → n.threads ≡ m.threads
  pub process : names parts ProcessesPart ≡ false → n.process ≡ m.process
  pub servers : names parts ServersPart ≡ false → n.servers ≡ m.servers
  pub claims : names parts ClaimsPart ≡ false → n.claims ≡ m.claims
  pub pending : names parts PendingPart ≡ false → n.pending ≡ m.pending
  pub compare : names parts ComparePart ≡ false → n.compare ≡ m.compare
  pub cursor : names parts CursorPart ≡ false → n.cursor ≡ m.cursor
  pub next_number : names parts NumberPart ≡ false → n.next_number ≡ m.next_number
  pub next_serial : names parts SerialPart ≡ false → n.next_serial ≡ m.next_serial
  pub capacity : n.capacity ≡ m.capacity
  pub processes : n.processes ≡ m.processes
  pub steps : n.steps ≡ m.steps
  pub reserved : n.reserved ≡ m.reserved

-- ---- of effects

-- the parts that an effect changes
abbrev pub touched : Effect → List Part
touched (Pages step) = LedgerPart ∷ []
touched (HasHeap n) = ProcessesPart ∷ []
touched (Starts who thread) = ThreadsPart ∷ []
touched (Waits who state) = ThreadsPart ∷ []
touched (Awaits waits number) = ThreadsPart ∷ []
touched EndsTurn = CursorPart ∷ []
touched (Founds server) = ServersPart ∷ SerialPart ∷ []
touched (Connects serial) = ProcessesPart ∷ []
touched TakesNumber = NumberPart ∷ []
touched (Serves serial step) = ServersPart ∷ []
touched (ClosesServers which) = LedgerPart ∷ ServersPart ∷ []
touched (Unqueues pid) = LedgerPart ∷ ServersPart ∷ []
touched (Orphans pid) = LedgerPart ∷ ServersPart ∷ []
touched (Forgets pid) = LedgerPart ∷ ThreadsPart ∷ ProcessesPart ∷ ClaimsPart ∷ PendingPart ∷ ComparePart ∷ []
touched (Claims k claim) = ClaimsPart ∷ []
touched (Frees k) = ClaimsPart ∷ PendingPart ∷ ComparePart ∷ []

-- ---- of calls

-- the parts that a send changes
abbrev pub sending_parts : List Part
sending_parts = LedgerPart ∷ ThreadsPart ∷ ServersPart ∷ NumberPart ∷ []

-- .. and a death
abbrev pub dying_parts : List Part
dying_parts = LedgerPart ∷ ThreadsPart ∷ ProcessesPart ∷ ServersPart ∷ ClaimsPart ∷ PendingPart ∷ ComparePart ∷ []

-- the parts that each call can change, beside the registers, pc and state of those whom it answers; calls that only ask change none
abbrev pub footprints : List (ℕ × List Part)
footprints =
    (map_memory, LedgerPart ∷ [])
    ∷ (yield_turn, CursorPart ∷ [])
    ∷ (claim_interrupt, ClaimsPart ∷ [])
    ∷ (free_interrupt, ClaimsPart ∷ PendingPart ∷ ComparePart ∷ [])
    ∷ (increase_heap, LedgerPart ∷ ProcessesPart ∷ [])
    ∷ (decrease_heap, LedgerPart ∷ ProcessesPart ∷ [])
    ∷ (update_memory_flags, LedgerPart ∷ [])
    ∷ (create_server_with_address, ProcessesPart ∷ ServersPart ∷ SerialPart ∷ [])
    ∷ (receive_message, ThreadsPart ∷ ServersPart ∷ [])
    ∷ (send_message, sending_parts)
    ∷ (connect, ProcessesPart ∷ [])
    ∷ (create_thread, ThreadsPart ∷ [])
    ∷ (unmap_memory, LedgerPart ∷ [])
    ∷ (return_memory, LedgerPart ∷ ServersPart ∷ [])
    ∷ (terminate_process, dying_parts)
    ∷ (try_send_message, sending_parts)
    ∷ (try_connect, ProcessesPart ∷ [])
    ∷ (return_scalar1, ServersPart ∷ [])
    ∷ (return_scalar2, ServersPart ∷ [])
    ∷ (try_receive_message, ServersPart ∷ [])
    ∷ (join_thread, ThreadsPart ∷ [])
    ∷ (destroy_server, LedgerPart ∷ ServersPart ∷ [])
    ∷ (forward_message, LedgerPart ∷ ServersPart ∷ [])
    ∷ []

-- those of a number; a number that is not there changes nothing
abbrev pub footprint_at : ℕ → List (ℕ × List Part) → List Part
footprint_at = row_of []

abbrev pub footprint : ℕ → List Part
footprint number = footprint_at number footprints

-- ---- the law

-- A served call changes no part of the machine but those of its row. A refused call and one that is to be made again change none.
abbrev pub CallsLeaveTheRest : Type 0
CallsLeaveTheRest =
    (m : Machine) (words : List ℕ) (change : Change) → call m words ≡ Served change
    → LeavesAllBut (footprint (call_number words)) m change.machine
