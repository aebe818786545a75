-- What the records of a run tell of one message: when it is delivered, forwarded and returned, and when it is forgotten.
use Rattle.std.specs.Prelude.{◌≡◌, ℕ, ◌<◌, ◌≤◌, ◌==◌, Bool, true, false, ◌&&◌, ◌||◌, if◌then◌else◌, not, List, [], ◌∷◌, length, map}
use Rattle.std.specs.Prelude.{slice_index}
use Rattle.std.specs.Prelude.{Option, Some, None}
use Rattle.std.specs.List.{list_any}
use Rattle.std.specs.Option.{option_map_or, option_or}
use Rattle.xk_base.specs.declared.ids.Number.{Number}
use Rattle.xk_base.specs.declared.ids.ThreadId.{ThreadId}
use Rattle.xk_base.specs.declared.records.Rec.{Rec}
use Rattle.xk_base.specs.declared.records.What.{What}
use Rattle.xk_base.specs.declared.records.What.TheVariants.{Call, Reply, Retry, Byte, Fault, End, Irq, Gone}
use Rattle.syscall_codec.specs.CallNumbers.{destroy_server, forward_message, reply_message, reply_ok, return_memory, return_scalar1}
use Rattle.syscall_codec.specs.CallNumbers.{return_scalar2}
use Rattle.syscall_codec.specs.CallWords.{call_number, forward_token, return_token}
use Rattle.xk_base.specs.Calls.Kinds.{is_waiting_kind}
use Rattle.xk_base.specs.Tables.Circle.{same_thread}
use Rattle.machine_laws.specs.Records.{records_of}
use Rattle.machine_model.specs.Messaging.Messages.{is_of_number}
use Rattle.machine_model.specs.Runs.LoanSpan.{is_send}
use Rattle.machine_model.specs.Runs.Moments.{Moment, state_at}
use Rattle.machine_model.specs.State.Machine.{Machine, Server}

-- ---- how a message stands in a state

-- how a server keeps the message of a number: it lacks it, or queues it, or holds it
pub data Keeping : Type 0 where
  Lacks : Keeping
  Queues : Keeping
  Holds : Keeping

-- .. by whether it is among those queued, and among those held
abbrev pub keeping_by : Bool → Bool → Keeping
keeping_by true held = Queues
keeping_by false true = Holds
keeping_by false false = Lacks

abbrev pub keeping : Number → Option Server → Keeping
keeping number None = Lacks
keeping number (Some server) = keeping_by (list_any (is_of_number number) server.queued) (list_any (is_of_number number) server.held)

-- how a message stands: its number isn't given yet, it is queued, it is held, or it is over
pub data Standing : Type 0 where
  Unsent : Standing
  Queued : Standing
  Held : Standing
  Over : Standing

-- the message of the number stands so in the state: queued or held at a server, or, once it was sent, at none
abbrev pub Stands : Number → Machine → Standing → Type 0
Stands number m Unsent = m.next_number ≤ number.0
Stands number m Queued = (n : ℕ) × (keeping number (m.servers n) ≡ Queues)
Stands number m Held = (n : ℕ) × (keeping number (m.servers n) ≡ Holds)
Stands number m Over = (number.0 < m.next_number) × ((n : ℕ) → keeping number (m.servers n) ≡ Lacks)

-- ---- whether a call was served

-- the words by which the record answers a call of the thread; a retry has none
abbrev pub answer_in : ThreadId → What → Option (List ℕ)
answer_in who (Call other words) = None
answer_in who (Reply other words) = if same_thread other who then Some words else None
answer_in who (Retry other) = if same_thread other who then Some [] else None
answer_in who (Byte other byte) = None
answer_in who (Fault other cause value) = None
answer_in who (End other) = None
answer_in who (Irq pid k) = None
answer_in who (Gone pid) = None

-- those of the first record that does
unfoldable pub next_answer : ThreadId → List What → Option (List ℕ)
next_answer who [] = None
next_answer who (what ∷ told) = option_or (answer_in who what) (next_answer who told)

-- the words say that a call was served, and no more
abbrev pub is_plain : List ℕ → Bool
is_plain [] = false
is_plain (word ∷ words) = word == reply_ok

-- the call of the thread with these records behind it was served: the next answer to the thread says so
abbrev pub is_served_by : ThreadId → List What → Bool
is_served_by who later = option_map_or is_plain (next_answer who later) false

-- ---- what a record says of the message of a number

-- the words of a reply are those of a message
abbrev pub is_message_of : Number → List ℕ → Bool
is_message_of number words = (slice_index words 0 == reply_message) && (slice_index words 1 == number.0)

-- it is delivered to the thread of a server
abbrev pub is_delivery_of : Number → What → Bool
is_delivery_of number (Reply who words) = is_message_of number words
is_delivery_of number _ = false

-- .. and has no answer
abbrev pub is_last_delivery_of : Number → What → Bool
is_last_delivery_of number (Reply who words) = is_message_of number words && not (is_waiting_kind (slice_index words 2))
is_last_delivery_of number _ = false

-- how it stands then: a message that is to be answered is held, and any other is over
abbrev pub left_by : List ℕ → Standing
left_by words = if is_waiting_kind (slice_index words 2) then Held else Over

-- a server's thread forwards it
abbrev pub is_forward_of : Number → What → List What → Bool
is_forward_of number (Call who words) later =
    (call_number words == forward_message) && ((forward_token words == number.0) && is_served_by who later)
is_forward_of number _ later = false

abbrev pub is_return_call : ℕ → Bool
is_return_call call = (call == return_memory) || ((call == return_scalar1) || (call == return_scalar2))

-- a server's thread returns it
abbrev pub is_return_of : Number → What → List What → Bool
is_return_of number (Call who words) later =
    is_return_call (call_number words) && ((return_token words == number.0) && is_served_by who later)
is_return_of number _ later = false

-- a call that sends: it may be the one that is accepted with the number
abbrev pub is_send_in : What → Bool
is_send_in (Call who words) = is_send (call_number words)
is_send_in _ = false

-- a server ends, or a process dies: messages may be forgotten
abbrev pub is_end_in : What → List What → Bool
is_end_in (Call who words) later = (call_number words == destroy_server) && is_served_by who later
is_end_in (Gone pid) later = true
is_end_in _ later = false

-- it is delivered, forwarded or returned
abbrev pub moves : Number → What → List What → Bool
moves number what later = is_delivery_of number what || (is_forward_of number what later || is_return_of number what later)

-- A record, with those behind it, leads the message of the number from the first standing to the second.
pub data Leads (number : Number) : What → List What → Standing → Standing → Type 0 where
  -- a send is accepted with the number
  Accepted : (what : What) (later : List What) → is_send_in what ≡ true → Leads number what later Unsent Queued
  -- a queued message is delivered
  Delivered : (who : ThreadId) (words : List ℕ) (later : List What) → is_message_of number words ≡ true
      → Leads number (Reply who words) later Queued (left_by words)
  -- a held one is forwarded: it is queued at another server
  Forwarded : (what : What) (later : List What) → is_forward_of number what later ≡ true → Leads number what later Held Queued
  -- a held one is returned
  Returned : (what : What) (later : List What) → is_return_of number what later ≡ true → Leads number what later Held Over
  -- a server or a process ends, and the message with it
  LostQueued : (what : What) (later : List What) → is_end_in what later ≡ true → Leads number what later Queued Over
  LostHeld : (what : What) (later : List What) → is_end_in what later ≡ true → Leads number what later Held Over
  -- any other record leaves it
  Stays : (what : What) (later : List What) (a : Standing) → moves number what later ≡ false → Leads number what later a a

-- .. and several in order
unfoldable pub LeadInTurn : Number → List What → Standing → Standing → Type 0
LeadInTurn number [] a b = a ≡ b
LeadInTurn number (what ∷ told) a b = (c : Standing) × Leads number what told a c × LeadInTurn number told c b

-- ---- the law

-- the records of a run lead each message from how it stands at the start to how it stands at the end
abbrev pub MessagesFollow : Machine → List Moment → Type 0
MessagesFollow start moments =
    (number : Number) (a b : Standing) → Stands number start a → Stands number (state_at start moments (length moments)) b
    → LeadInTurn number (map (λ (rec : Rec). rec.what) (records_of start moments)) a b
