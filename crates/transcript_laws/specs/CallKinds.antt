-- What a served call does, exactly: it is of one of nine kinds. Each says what the call finds, then its effects in their order, and who
-- is answered with which words. The caller is the thread of the cursor. Behind the effects the caller's pc goes past its call, and who is
-- answered has the words and is Ready.
use Rattle.std.specs.Prelude.{◌≡◌, ◌≢◌, ℕ, ◌==◌, ◌||◌, Bool, true, false, if◌then◌else◌, slice_index, List, [], ◌∷◌, Some, None}
use Rattle.std.specs.Bool.{⊤}
use Rattle.xk_base.specs.declared.ids.Place.{Place}
use Rattle.xk_base.specs.declared.ids.Serial.{Serial}
use Rattle.xk_base.specs.declared.ids.ThreadId.{ThreadId}
use Rattle.xk_base.specs.declared.ids.Vpn.{Vpn}
use Rattle.xk_base.specs.declared.messages.Message.{Message}
use Rattle.xk_base.specs.declared.messages.MsgKind.{MsgKind}
use Rattle.xk_base.specs.Calls.Kinds.{is_answered}
use Rattle.xk_base.specs.Tables.Connections.{cid_for, connected_to}
use Rattle.syscall_codec.specs.CallNumbers.{create_server_with_address, destroy_server, forward_message, receive_message, reply_message}
use Rattle.syscall_codec.specs.CallNumbers.{return_memory, return_scalar1, terminate_process}
use Rattle.syscall_codec.specs.CallWords.{call_number, forward_cid, return_address, return_offset, return_size, return_valid, return_value1}
use Rattle.syscall_codec.specs.CallWords.{return_value2, send_address, send_cid}
use Rattle.syscall_codec.specs.ReplyWords.{message_words, new_server_words, plain_words, returned_words, scalar1_words, scalar2_words}
use Rattle.ledger_model.specs.Conditions.{is_lent}
use Rattle.ledger_model.specs.Places.{in_run}
use Rattle.machine_model.specs.Calling.Calls.{call}
use Rattle.machine_model.specs.Calling.MemoryCalls.{caller_place}
use Rattle.machine_model.specs.Calling.ServerCalls.{create_server_refusals, named_sid, new_serial, new_server}
use Rattle.machine_model.specs.Ending.Closing.{is_sender_at, refused_server}
use Rattle.machine_model.specs.Messaging.ForwardCalls.{held_place, is_passable_of, passed_number, with_first}
use Rattle.machine_model.specs.Messaging.Messages.{carries_pages, is_blocking_of, is_lend_of, new_message, new_number, oldest}
use Rattle.machine_model.specs.Messaging.Receivers.{receiver, receiving_at}
use Rattle.machine_model.specs.Messaging.ReturnCalls.{is_its_range, named_number, sender_gets}
use Rattle.machine_model.specs.Messaging.SendCalls.{message_run, named_kind, send_refusals, sender_answered, sent_pages}
use Rattle.machine_model.specs.Runs.LoanSpan.{is_send}
use Rattle.machine_model.specs.Runs.Matched.{Matched}
use Rattle.machine_model.specs.State.Changes.{Change, Served, first_refusal}
use Rattle.machine_model.specs.State.Connections.{own_connections}
use Rattle.machine_model.specs.State.Machine.{Claim, Idle, Joining, Machine, Ready, Receiving, Server, Thread, ThreadState, Waiting}
use Rattle.machine_model.specs.State.Servers.{is_full, with_sid}
use Rattle.machine_model.specs.Stepping.Interrupts.{is_claim_of}
use Rattle.machine_model.specs.State.Threads.{Answers, answer_to, both_answers, no_answers}
use Rattle.call_effects.specs.Effects.{Awaits, Claims, ClosesServers, Connects, Effect, Ends, EndsTurn, Forgets, Founds, Frees, HasHeap}
use Rattle.call_effects.specs.Effects.{Maps, Orphans, Pages, PageStep, Passes, Reduces, Removes, Returned, Sends, Serves, Starts, Taken}
use Rattle.call_effects.specs.Effects.{TakesNumber, Unqueues, Waits, arriving}
use Rattle.call_effects.specs.Held.{IsHeld}
use Rattle.call_effects.specs.Rows.MessageRows.{arrival_answers}
use Rattle.call_effects.specs.Rows.ThreadRows.{death_plan}
use Rattle.call_effects.specs.Verdicts.{Does, Plan, meant}
use Rattle.transcript_laws.specs.Following.{is_return_call}
use Rattle.transcript_laws.specs.Serving.{is_receive}

-- ---- calls by their number

-- a call that founds or ends a server, sends, returns or forwards a message, or ends its process
abbrev pub reaches_others : ℕ → Bool
reaches_others number =
    is_send number || (is_return_call number || ((number == forward_message) || ((number == create_server_with_address)
    || ((number == destroy_server) || (number == terminate_process)))))

-- ---- a call that keeps to its process

-- pages of the caller's process are made where none was
pub record AreMade (m : Machine) (first : Place) (n : ℕ) : Type 0 where
  pub own : first.pid ≡ m.cursor.pid
  pub empty : (p : Place) → in_run first n p ≡ true → m.ledger.home p ≡ None

-- pages of the caller's process go or get another right, and none of them is on loan
pub record AreUnlent (m : Machine) (first : Place) (n : ℕ) : Type 0 where
  pub own : first.pid ≡ m.cursor.pid
  pub unlent : (p : Place) → in_run first n p ≡ true → is_lent (m.ledger.home p) ≡ false

-- no page is lent, moved, forwarded or given back
abbrev pub IsOwnPages : Machine → PageStep → Type 0
IsOwnPages m (Maps console first n right) = AreMade m first n
IsOwnPages m (Removes first n) = AreUnlent m first n
IsOwnPages m (Reduces first n right) = AreUnlent m first n
IsOwnPages m (Sends kind from n to number) = ⊥
IsOwnPages m (Passes number from to) = ⊥
IsOwnPages m (Ends number) = ⊥

-- it waits for a message, or for the end of a thread
abbrev pub WaitsAlone : ThreadState → Type 0
WaitsAlone Ready = ⊥
WaitsAlone (Receiving serial) = ⊤
WaitsAlone (Waiting number) = ⊥
WaitsAlone (Joining tid) = ⊤
WaitsAlone Idle = ⊥

-- a thread of the caller's process begins, Ready, where none was
pub record IsBeginning (m : Machine) (who : ThreadId) (thread : Thread) : Type 0 where
  pub own : who.pid ≡ m.cursor.pid
  pub free : m.threads who ≡ None
  pub ready : thread.state ≡ Ready

-- the server is alive
pub record IsLive (m : Machine) (serial : Serial) : Type 0 where
  pub server : Server
  pub there : m.servers serial.0 ≡ Some server

-- an interrupt that nobody has claimed is the caller's process's
pub record IsClaiming (m : Machine) (k : ℕ) (claim : Claim) : Type 0 where
  pub free : m.claims k ≡ None
  pub own : claim.pid ≡ m.cursor.pid

-- the effect is on the caller's process alone, and on no server and no message
abbrev pub IsOwn : Machine → Effect → Type 0
IsOwn m (Pages step) = IsOwnPages m step
IsOwn m (HasHeap n) = ⊤
IsOwn m (Starts who thread) = IsBeginning m who thread
IsOwn m (Waits who state) = (who ≡ m.cursor) × WaitsAlone state
IsOwn m (Awaits waits number) = ⊥
IsOwn m EndsTurn = ⊤
IsOwn m (Founds server) = ⊥
IsOwn m (Connects serial) = IsLive m serial
IsOwn m TakesNumber = ⊥
IsOwn m (Serves serial step) = ⊥
IsOwn m (ClosesServers which) = ⊥
IsOwn m (Unqueues pid) = ⊥
IsOwn m (Orphans pid) = ⊥
IsOwn m (Forgets pid) = ⊥
IsOwn m (Claims k claim) = IsClaiming m k claim
IsOwn m (Frees k) = is_claim_of m.cursor.pid (m.claims k) ≡ true

-- .. and so is each of these
abbrev pub AreOwn : Machine → List Effect → Type 0
AreOwn m [] = ⊤
AreOwn m (effect ∷ effects) = IsOwn m effect × AreOwn m effects

-- the caller is answered, and not with a message; or it waits, and nobody is answered
pub data AnswersCaller (m : Machine) : List Effect → Answers → Type 0 where
  WithWords : (effects : List Effect) (words : List ℕ) → (slice_index words 0 == reply_message) ≡ false
      → AnswersCaller m effects (answer_to m.cursor words)
  ByWaiting : (state : ThreadState) → AnswersCaller m (Waits m.cursor state ∷ []) no_answers

pub record IsKeeping (m : Machine) (effects : List Effect) (answers : Answers) : Type 0 where
  pub own : AreOwn m effects
  pub answered : AnswersCaller m effects answers

-- ---- what a call finds

-- the identifier is that of a live server of the caller's process
pub record NamesOwn (m : Machine) (w : List ℕ) : Type 0 where
  pub serial : Serial
  pub names : with_sid m (named_sid w) ≡ Some serial
  pub server : Server
  pub there : m.servers serial.0 ≡ Some server
  pub own : server.pid ≡ m.cursor.pid

-- a connection of the caller's process leads to a live server, which has a free slot
pub record LeadsTo (m : Machine) (cid : ℕ) : Type 0 where
  pub serial : Serial
  pub leads : connected_to (own_connections m) cid ≡ Some serial
  pub server : Server
  pub there : m.servers serial.0 ≡ Some server
  pub room : is_full (Some server) ≡ false

-- ---- a server is founded

-- no server has the identifier or the next serial
pub record IsFounding (m : Machine) (w : List ℕ) : Type 0 where
  pub unused : with_sid m (named_sid w) ≡ None
  pub fresh : m.servers m.next_serial ≡ None
  pub tests : first_refusal (create_server_refusals m (named_sid w)) ≡ None

-- the server is there without a message, and the caller's process is connected to it
abbrev pub founding : Machine → List ℕ → Plan
founding m w = record {
  effects = Founds (new_server m (named_sid w)) ∷ Connects (new_serial m) ∷ [];
  answers = answer_to m.cursor (new_server_words (named_sid w) (cid_for (new_serial m) (own_connections m)));
  gone = None;
}

-- ---- a message is sent

-- The send has this kind and leads to that server. Its pages, if it has any, go from `first` on there.
pub record IsSending (m : Machine) (w : List ℕ) : Type 0 where
  pub kind : MsgKind
  pub named : named_kind w ≡ Some kind
  pub to : LeadsTo m (send_cid w)
  pub tests : first_refusal (send_refusals m w) ≡ None
  pub first : Vpn
  pub free : carries_pages kind ≡ true → message_run m (sent_pages w) to.server ≡ Some first

-- The pages go, the message takes the next number, the sender waits if there will be an answer, and the message is queued, or goes to
-- the thread of the least tid that waits there.
abbrev pub sending : (m : Machine) → List ℕ → MsgKind → Serial → Place → Plan
sending m w kind serial place =
    let message = new_message m kind w place.vpn in
    record {
      effects = Pages (Sends kind (caller_place m (send_address w)) (sent_pages w) place (new_number m))
          ∷ TakesNumber
          ∷ Awaits (is_answered kind) (new_number m)
          ∷ Serves serial (arriving (receiver m serial) message)
          ∷ [];
      answers = both_answers (arrival_answers (receiver m serial) message) (sender_answered (is_answered kind) m.cursor);
      gone = None;
    }

-- ---- a message is received

-- the oldest queued message of the server goes to the caller
abbrev pub taking : Machine → Serial → Message → Plan
taking m serial message = record {
  effects = Serves serial (Taken message) ∷ [];
  answers = answer_to m.cursor (message_words message);
  gone = None;
}

-- none is queued: ReceiveMessage waits for one, and TryReceiveMessage says so
abbrev pub finding_none : Machine → ℕ → Serial → Plan
finding_none m number serial = record {
  effects = if number == receive_message then Waits m.cursor (Receiving serial) ∷ [] else [];
  answers = if number == receive_message then no_answers else answer_to m.cursor plain_words;
  gone = None;
}

-- ---- a message is returned

-- ReturnMemory returns a lend, and the others a blocking scalar
abbrev pub is_returnable : ℕ → List ℕ → Message → Bool
is_returnable number w = if number == return_memory then is_lend_of (named_number w) else is_blocking_of (named_number w)

-- the words for its sender
abbrev pub words_back : ℕ → List ℕ → List ℕ
words_back number w =
    if number == return_memory then returned_words (return_offset w) (return_valid w) else (
    if number == return_scalar1 then scalar1_words (return_value1 w) else
    scalar2_words (return_value1 w) (return_value2 w))

-- the loan of a lend ends
abbrev pub loan_back : ℕ → List ℕ → List Effect
loan_back number w = if number == return_memory then Pages (Ends (named_number w)) ∷ [] else []

-- a server of the caller's process holds the message of that number, and it has that address and size, if it is a lend
pub record IsReturning (m : Machine) (number : ℕ) (w : List ℕ) : Type 0 where
  pub message : Message
  pub held : IsHeld m (is_returnable number w) message
  pub range : (number == return_memory) ≡ true → is_its_range (return_address w) (return_size w) message ≡ true

-- the message leaves its server, and its sender, if it has one, is answered
abbrev pub returning : (m : Machine) (number : ℕ) (w : List ℕ) → IsReturning m number w → Plan
returning m number w it = record {
  effects = Serves it.held.serial (Returned (named_number w)) ∷ loan_back number w;
  answers = both_answers (answer_to m.cursor plain_words) (sender_gets (words_back number w) it.message.sender);
  gone = None;
}

-- ---- a message is forwarded

-- a server of the caller's process holds the lend, and the connection leads to another one, with room for its pages
pub record IsPassing (m : Machine) (w : List ℕ) : Type 0 where
  pub message : Message
  pub held : IsHeld m (is_passable_of (passed_number w)) message
  pub to : LeadsTo m (forward_cid w)
  pub apart : to.serial.0 ≢ held.serial.0
  pub first : Vpn
  pub free : message_run m message.count to.server ≡ Some first

-- the message leaves the one server, its pages go to the other's process, and there it is queued or received as one that is sent
abbrev pub passing : (m : Machine) → Message → Serial → Serial → Place → Plan
passing m message from to place =
    let next = with_first place.vpn message in
    record {
      effects = Serves from (Returned message.number)
          ∷ Pages (Passes message.number (held_place m message) place)
          ∷ Serves to (arriving (receiver m to) next)
          ∷ [];
      answers = both_answers (arrival_answers (receiver m to) next) (answer_to m.cursor plain_words);
      gone = None;
    }

-- ---- a server is destroyed

-- it closes, and who waits there, for an answer or for a message, is answered that there is no server
abbrev pub destroying : Machine → Serial → Plan
destroying m serial =
    let this : ℕ → Bool = λ n. n == serial.0 in
    record {
      effects = ClosesServers this ∷ [];
      answers = both_answers (answer_to m.cursor plain_words)
          (both_answers (refused_server (is_sender_at this m)) (refused_server (receiving_at m serial)));
      gone = None;
    }

-- ---- the kinds

-- the place of a page at the server's process
abbrev pub place_at_server : Server → Vpn → Place
place_at_server server first = record { pid = server.pid; vpn = first }

pub data CallKind (m : Machine) (number : ℕ) (w : List ℕ) : Plan → Type 0 where
  -- it changes its own process alone, and no server and no message
  Keeps : (effects : List Effect) (answers : Answers) → reaches_others number ≡ false → is_receive number ≡ false
      → IsKeeping m effects answers → CallKind m number w (record { effects = effects; answers = answers; gone = None })
  -- it founds a server
  FoundsServer : number ≡ create_server_with_address → IsFounding m w → CallKind m number w (founding m w)
  -- it sends a message
  SendsMessage : is_send number ≡ true → (it : IsSending m w)
      → CallKind m number w (sending m w it.kind it.to.serial (place_at_server it.to.server it.first))
  -- it receives a message
  TakesMessage : is_receive number ≡ true → (its : NamesOwn m w) (message : Message) → oldest its.server.queued ≡ Some message
      → CallKind m number w (taking m its.serial message)
  -- it receives, and no message is queued
  FindsNone : is_receive number ≡ true → (its : NamesOwn m w) → its.server.queued ≡ []
      → CallKind m number w (finding_none m number its.serial)
  -- it returns a message
  ReturnsMessage : is_return_call number ≡ true → (it : IsReturning m number w) → CallKind m number w (returning m number w it)
  -- it forwards a message
  PassesMessage : number ≡ forward_message → (it : IsPassing m w)
      → CallKind m number w (passing m it.message it.held.serial it.to.serial (place_at_server it.to.server it.first))
  -- it destroys a server of its process
  DestroysServer : number ≡ destroy_server → (its : NamesOwn m w) → CallKind m number w (destroying m its.serial)
  -- it ends its process
  EndsProcess : number ≡ terminate_process → CallKind m number w (death_plan m.cursor.pid m)

-- ---- the law

-- the change is a plan of one of these kinds, done
pub record IsOfKind (m : Machine) (w : List ℕ) (change : Change) : Type 0 where
  pub plan : Plan
  pub is : Served change ≡ meant m (Does plan)
  pub kind : CallKind m (call_number w) w plan

-- so it is of each served call from a matched state
abbrev pub CallsAreOfKinds : Type 0
CallsAreOfKinds = (m : Machine) (w : List ℕ) (change : Change) → Matched m → call m w ≡ Served change → IsOfKind m w change
