-- What comes of each call, by the words that ask for it.
use Rattle.std.proofs.Common.{◌≡◌, ℕ, Bool, true, false, List, ◌∷◌, [], None, Some, refl, sym, ap, ◌∙◌}
use Rattle.std.specs.Prelude.{◌==◌, ◌&&◌, ◌||◌, ◌≢◌, not, if◌then◌else◌, Result, Ok, Err}
use Rattle.std.proofs.lemmas.Bool.{false≢true}
use Rattle.machine_laws.proofs.Stepping.CallNumberLemmas.{outside_refused}
use Rattle.machine_model.specs.Calling.Calls.{call, call_at, call_table}
use Rattle.machine_model.specs.Calling.InterruptCalls.{claim_call, claim_refusals, claim_served, free_call, free_refusals, free_served}
use Rattle.machine_model.specs.State.Changes.{Refused, Served, answering, refused_or, unless_refused, unless_retried}
use Rattle.machine_model.specs.Ending.Ends.{death}
use Rattle.machine_model.specs.State.Machine.{Machine}
use Rattle.machine_model.specs.Calling.MemoryCalls.{decrease_call, decrease_refusals, decrease_served, increase_call, increase_refusals, increase_served, map_call, map_refusals, map_served, unmap_call, unmap_refusals, unmap_served, update_call, update_refusals, update_served}
use Rattle.machine_model.specs.Messaging.ReceiveCalls.{receive_call, receive_served, try_receive_call, try_receive_served}
use Rattle.machine_model.specs.State.Order.{turn}
use Rattle.machine_model.specs.Calling.ServerCalls.{connect_call, connect_refusals, connect_served, create_server_call, create_server_refusals, create_server_served, destroy_call, destroy_served, is_missing, own_server_refusals, try_connect_call}
use Rattle.send_path.specs.Rows.{receive_row, table_row}
use Rattle.machine_model.specs.Calling.Questions.{asked}
use Rattle.machine_model.specs.Calling.ThreadCalls.{create_call, create_refusals, create_served, join_call, join_refusals, join_served, terminate_call, yield_call}
use Rattle.machine_model.specs.State.Threads.{answer_to}
use Rattle.syscall_codec.specs.Calls.{Asks}
use Rattle.syscall_codec.specs.declared.calls.Call.{Call}
use Rattle.syscall_codec.specs.declared.calls.Call.TheVariants.{MapMemory, Yield, ClaimInterrupt, FreeInterrupt, IncreaseHeap, DecreaseHeap, UpdateMemoryFlags, CreateServerWithAddress, ReceiveMessage, SendMessage, Connect, CreateThread, UnmapMemory, ReturnMemory, TerminateProcess, TrySendMessage, TryConnect}
use Rattle.syscall_codec.specs.declared.calls.Call.TheVariants.{ReturnScalar1, ReturnScalar2, TryReceiveMessage, JoinThread, DestroyServer, GetThreadId, GetProcessId, ForwardMessage}
use Rattle.syscall_codec.specs.CallNumbers.{connect, is_call_number, join_thread, receive_message, send_message, try_send_message}
use Rattle.syscall_codec.specs.CallWords.{call_number, is_refused_to_handler, send_kind}
use Rattle.xk_base.specs.Calls.Kinds.{is_waiting_kind}
use Rattle.syscall_codec.specs.ReplyWords.{plain_words, scalar1_words, thread_words}
use Rattle.xk_base.specs.declared.errors.XousError.{XousError}
use Rattle.xk_base.specs.declared.errors.XousError.TheVariants.{InvalidSyscall, ServerNotFound, UnhandledSyscall}
use Rattle.xk_base.specs.declared.ids.Sid.{Sid}
use Rattle.xk_kernel.specs.Calling.{is_plain_call, is_plain_number, is_refused_caller}

-- a call that its number has in the table, and that isn't refused to its caller, is that row
by_number : (m : Machine) (w : List ℕ) (k : ℕ) → call_number w ≡ k → is_call_number k ≡ true → is_refused_caller m w ≡ false
    → call m w ≡ call_at k call_table m w
unfolding call
by_number m w k n known free =
    ap (λ j. unless_refused ((not (is_call_number j), UnhandledSyscall) ∷ (is_refused_caller m w, InvalidSyscall) ∷ []) (call_at j call_table m w)) n
    ∙ (λ i. refused_or (if not (known i) then Some UnhandledSyscall else (if free i then Some InvalidSyscall else None)) (call_at k call_table m w))

-- each call that isn't refused to its caller
module _ (m : Machine) (w : List ℕ) (free : is_refused_caller m w ≡ false) where
  pub map_is : (phys virt size flags : ℕ) → Asks w (MapMemory phys virt size flags)
      → unless_refused (map_refusals m phys virt size flags) (Served (map_served m phys virt size flags)) ≡ call m w
  unfolding map_call
  map_is phys virt size flags (n, a, b, d, e) =
      sym (by_number m w 2 n refl free
      ∙ (λ i. unless_refused (map_refusals m (a i) (b i) (d i) (e i)) (Served (map_served m (a i) (b i) (d i) (e i)))))

  pub unmap_is : (address size : ℕ) → Asks w (UnmapMemory address size)
      → unless_refused (unmap_refusals m address size) (Served (unmap_served m address size)) ≡ call m w
  unfolding unmap_call
  unmap_is address size (n, a, b) =
      sym (by_number m w 19 n refl free ∙ (λ i. unless_refused (unmap_refusals m (a i) (b i)) (Served (unmap_served m (a i) (b i)))))

  pub update_is : (address size flags : ℕ) → Asks w (UpdateMemoryFlags address size flags)
      → unless_refused (update_refusals m address size flags) (Served (update_served m address size flags)) ≡ call m w
  unfolding update_call
  update_is address size flags (n, a, b, d) =
      sym (by_number m w 12 n refl free ∙ (λ i. unless_refused (update_refusals m (a i) (b i) (d i)) (Served (update_served m (a i) (b i) (d i)))))

  pub increase_is : (bytes : ℕ) → Asks w (IncreaseHeap bytes)
      → unless_refused (increase_refusals m bytes) (Served (increase_served m bytes)) ≡ call m w
  unfolding increase_call
  increase_is bytes (n, a) = sym (by_number m w 10 n refl free ∙ (λ i. unless_refused (increase_refusals m (a i)) (Served (increase_served m (a i)))))

  pub decrease_is : (bytes : ℕ) → Asks w (DecreaseHeap bytes)
      → unless_refused (decrease_refusals m bytes) (Served (decrease_served m bytes)) ≡ call m w
  unfolding decrease_call
  decrease_is bytes (n, a) = sym (by_number m w 11 n refl free ∙ (λ i. unless_refused (decrease_refusals m (a i)) (Served (decrease_served m (a i)))))

  pub create_is : (entry sp : ℕ) (args : List ℕ) → Asks w (CreateThread entry sp args)
      → unless_refused (create_refusals m entry) (Served (create_served m entry sp args)) ≡ call m w
  unfolding create_call
  create_is entry sp args (n, a, b, d) =
      sym (by_number m w 18 n refl free ∙ (λ i. unless_refused (create_refusals m (a i)) (Served (create_served m (a i) (b i) (d i)))))

  pub join_is : (tid : ℕ) → Asks w (JoinThread tid)
      → unless_refused (join_refusals m tid) (Served (join_served m tid)) ≡ call m w
  unfolding join_call
  join_is tid (n, a) = sym (by_number m w 36 n refl free ∙ (λ i. unless_refused (join_refusals m (a i)) (Served (join_served m (a i)))))

  pub yield_is : Asks w Yield → Served (answering (answer_to m.cursor plain_words) (turn m)) ≡ call m w
  unfolding yield_call
  yield_is n = sym (by_number m w 3 n refl free)

  pub thread_id_is : Asks w GetThreadId → Served (answering (answer_to m.cursor (thread_words m.cursor.tid.0)) m) ≡ call m w
  unfolding asked
  thread_id_is n = sym (by_number m w 42 n refl free)

  pub process_id_is : Asks w GetProcessId → Served (answering (answer_to m.cursor (scalar1_words m.cursor.pid.0)) m) ≡ call m w
  unfolding asked
  process_id_is n = sym (by_number m w 43 n refl free)

  pub claim_is : (number handler arg : ℕ) → Asks w (ClaimInterrupt number handler arg)
      → unless_refused (claim_refusals m number handler) (Served (claim_served m number handler arg)) ≡ call m w
  unfolding claim_call
  claim_is number handler arg (n, a, b, d) =
      sym (by_number m w 5 n refl free ∙ (λ i. unless_refused (claim_refusals m (a i) (b i)) (Served (claim_served m (a i) (b i) (d i)))))

  pub free_is : (number : ℕ) → Asks w (FreeInterrupt number)
      → unless_refused (free_refusals m number) (Served (free_served m number)) ≡ call m w
  unfolding free_call
  free_is number (n, a) = sym (by_number m w 6 n refl free ∙ (λ i. unless_refused (free_refusals m (a i)) (Served (free_served m (a i)))))

  pub terminate_is : (exit : ℕ) → Asks w (TerminateProcess exit) → Served (death m.cursor.pid m) ≡ call m w
  unfolding terminate_call
  terminate_is exit (n, a) = sym (by_number m w 22 n refl free)

  pub destroy_is : (sid : Sid) → Asks w (DestroyServer sid) → unless_refused (own_server_refusals m sid) (Served (destroy_served m sid)) ≡ call m w
  unfolding destroy_call
  destroy_is sid (n, a) =
      sym (by_number m w 41 n refl free
      ∙ (λ i. unless_refused (own_server_refusals m (record { 0 = a i })) (Served (destroy_served m (record { 0 = a i })))))

  pub create_server_is : (sid : Sid) → Asks w (CreateServerWithAddress sid)
      → unless_refused (create_server_refusals m sid) (Served (create_server_served m sid)) ≡ call m w
  unfolding create_server_call
  create_server_is sid (n, a) =
      sym (by_number m w 14 n refl free
      ∙ (λ i. unless_refused (create_server_refusals m (record { 0 = a i })) (Served (create_server_served m (record { 0 = a i })))))

  pub connect_is : (sid : Sid) → Asks w (Connect sid)
      → unless_retried (is_missing m sid) (unless_refused (connect_refusals m sid) (Served (connect_served m sid))) ≡ call m w
  unfolding connect_call
  connect_is sid (n, a) =
      sym (by_number m w 17 n refl free
      ∙ (λ i. unless_retried (is_missing m (record { 0 = a i })) (unless_refused (connect_refusals m (record { 0 = a i })) (Served (connect_served m (record { 0 = a i }))))))

  pub try_connect_is : (sid : Sid) → Asks w (TryConnect sid)
      → unless_refused ((is_missing m sid, ServerNotFound) ∷ connect_refusals m sid) (Served (connect_served m sid)) ≡ call m w
  unfolding try_connect_call
  try_connect_is sid (n, a) =
      sym (by_number m w 25 n refl free
      ∙ (λ i. unless_refused ((is_missing m (record { 0 = a i }), ServerNotFound) ∷ connect_refusals m (record { 0 = a i })) (Served (connect_served m (record { 0 = a i })))))

-- ---- which calls there are

-- the number of words that ask for a call is one of the table
known : (w : List ℕ) (asked : Call) → Asks w asked → is_call_number (call_number w) ≡ true
known w (MapMemory a b d e) h = ap is_call_number h.0
known w Yield h = ap is_call_number h
known w (ClaimInterrupt a b d) h = ap is_call_number h.0
known w (FreeInterrupt a) h = ap is_call_number h.0
known w (IncreaseHeap a) h = ap is_call_number h.0
known w (DecreaseHeap a) h = ap is_call_number h.0
known w (UpdateMemoryFlags a b d) h = ap is_call_number h.0
known w (CreateServerWithAddress a) h = ap is_call_number h.0
known w (ReceiveMessage a) h = ap is_call_number h.0
known w (SendMessage a b d e) h = ap is_call_number h.0
known w (Connect a) h = ap is_call_number h.0
known w (CreateThread a b d) h = ap is_call_number h.0
known w (UnmapMemory a b) h = ap is_call_number h.0
known w (ReturnMemory a b d e f) h = ap is_call_number h.0
known w (TerminateProcess a) h = ap is_call_number h.0
known w (TrySendMessage a b d e) h = ap is_call_number h.0
known w (TryConnect a) h = ap is_call_number h.0
known w (ReturnScalar1 a b) h = ap is_call_number h.0
known w (ReturnScalar2 a b d) h = ap is_call_number h.0
known w (TryReceiveMessage a) h = ap is_call_number h.0
known w (JoinThread a) h = ap is_call_number h.0
known w (DestroyServer a) h = ap is_call_number h.0
known w GetThreadId h = ap is_call_number h
known w GetProcessId h = ap is_call_number h
known w (ForwardMessage a b) h = ap is_call_number h.0

-- one that is refused to its caller, the interrupt thread
pub refused_to_handler : (m : Machine) (w : List ℕ) (asked : Call) → Asks w asked → is_refused_caller m w ≡ true → call m w ≡ Refused InvalidSyscall
unfolding call
refused_to_handler m w asked h refused = λ i.
    refused_or (if not (known w asked h i) then Some UnhandledSyscall else (if refused i then Some InvalidSyscall else None))
    (call_at (call_number w) call_table m w)

-- its caller is answered once it is served
abbrev pub is_plain_one : Call → Bool
is_plain_one (MapMemory a b d e) = true
is_plain_one Yield = true
is_plain_one (ClaimInterrupt a b d) = true
is_plain_one (FreeInterrupt a) = true
is_plain_one (IncreaseHeap a) = true
is_plain_one (DecreaseHeap a) = true
is_plain_one (UpdateMemoryFlags a b d) = true
is_plain_one (CreateServerWithAddress a) = true
is_plain_one (Connect a) = true
is_plain_one (CreateThread a b d) = true
is_plain_one (UnmapMemory a b) = true
is_plain_one (TryConnect a) = true
is_plain_one (JoinThread a) = true
is_plain_one GetThreadId = true
is_plain_one GetProcessId = true
is_plain_one _ = false

-- words of such a call ask for such a one
pub plain_asked : (w : List ℕ) (asked : Call) → Asks w asked → is_plain_call w ≡ true → is_plain_one asked ≡ true
plain_asked w (MapMemory a b d e) h plain = refl
plain_asked w Yield h plain = refl
plain_asked w (ClaimInterrupt a b d) h plain = refl
plain_asked w (FreeInterrupt a) h plain = refl
plain_asked w (IncreaseHeap a) h plain = refl
plain_asked w (DecreaseHeap a) h plain = refl
plain_asked w (UpdateMemoryFlags a b d) h plain = refl
plain_asked w (CreateServerWithAddress a) h plain = refl
plain_asked w (ReceiveMessage a) h plain = sym (ap is_plain_number h.0) ∙ plain
plain_asked w (SendMessage a b d e) h plain = sym (ap is_plain_number h.0) ∙ plain
plain_asked w (Connect a) h plain = refl
plain_asked w (CreateThread a b d) h plain = refl
plain_asked w (UnmapMemory a b) h plain = refl
plain_asked w (ReturnMemory a b d e f) h plain = sym (ap is_plain_number h.0) ∙ plain
plain_asked w (TerminateProcess a) h plain = sym (ap is_plain_number h.0) ∙ plain
plain_asked w (TrySendMessage a b d e) h plain = sym (ap is_plain_number h.0) ∙ plain
plain_asked w (TryConnect a) h plain = refl
plain_asked w (ReturnScalar1 a b) h plain = sym (ap is_plain_number h.0) ∙ plain
plain_asked w (ReturnScalar2 a b d) h plain = sym (ap is_plain_number h.0) ∙ plain
plain_asked w (TryReceiveMessage a) h plain = sym (ap is_plain_number h.0) ∙ plain
plain_asked w (JoinThread a) h plain = refl
plain_asked w (DestroyServer a) h plain = sym (ap is_plain_number h.0) ∙ plain
plain_asked w GetThreadId h plain = refl
plain_asked w GetProcessId h plain = refl
plain_asked w (ForwardMessage a b) h plain = sym (ap is_plain_number h.0) ∙ plain

-- it is one of these
pub record IsNoneOf (asked : Call) : Type 0 where
  pub map : (a b d e : ℕ) → asked ≢ MapMemory a b d e
  pub yield : asked ≢ Yield
  pub claim : (a b d : ℕ) → asked ≢ ClaimInterrupt a b d
  pub free : (a : ℕ) → asked ≢ FreeInterrupt a
  pub increase : (a : ℕ) → asked ≢ IncreaseHeap a
  pub decrease : (a : ℕ) → asked ≢ DecreaseHeap a
  pub update : (a b d : ℕ) → asked ≢ UpdateMemoryFlags a b d
  pub create_server : (sid : Sid) → asked ≢ CreateServerWithAddress sid
  pub connect : (sid : Sid) → asked ≢ Connect sid
  pub try_connect : (sid : Sid) → asked ≢ TryConnect sid
  pub create : (a b : ℕ) (d : List ℕ) → asked ≢ CreateThread a b d
  pub unmap : (a b : ℕ) → asked ≢ UnmapMemory a b
  pub join : (a : ℕ) → asked ≢ JoinThread a
  pub thread_id : asked ≢ GetThreadId
  pub process_id : asked ≢ GetProcessId

pub none_left : (asked : Call) → IsNoneOf asked → is_plain_one asked ≡ true → ⊥
none_left (MapMemory a b d e) none plain = none.map a b d e refl
none_left Yield none plain = none.yield refl
none_left (ClaimInterrupt a b d) none plain = none.claim a b d refl
none_left (FreeInterrupt a) none plain = none.free a refl
none_left (IncreaseHeap a) none plain = none.increase a refl
none_left (DecreaseHeap a) none plain = none.decrease a refl
none_left (UpdateMemoryFlags a b d) none plain = none.update a b d refl
none_left (CreateServerWithAddress a) none plain = none.create_server a refl
none_left (ReceiveMessage a) none plain = false≢true plain
none_left (SendMessage a b d e) none plain = false≢true plain
none_left (Connect a) none plain = none.connect a refl
none_left (CreateThread a b d) none plain = none.create a b d refl
none_left (UnmapMemory a b) none plain = none.unmap a b refl
none_left (ReturnMemory a b d e f) none plain = false≢true plain
none_left (TerminateProcess a) none plain = false≢true plain
none_left (TrySendMessage a b d e) none plain = false≢true plain
none_left (TryConnect a) none plain = none.try_connect a refl
none_left (ReturnScalar1 a b) none plain = false≢true plain
none_left (ReturnScalar2 a b d) none plain = false≢true plain
none_left (TryReceiveMessage a) none plain = false≢true plain
none_left (JoinThread a) none plain = none.join a refl
none_left (DestroyServer a) none plain = false≢true plain
none_left GetThreadId none plain = none.thread_id refl
none_left GetProcessId none plain = none.process_id refl
none_left (ForwardMessage a b) none plain = false≢true plain

-- ---- the other calls

-- it is none on messages, and none that ends a process or a server
pub record IsNoOther (asked : Call) : Type 0 where
  pub send : (cid kind id : ℕ) (words : List ℕ) → asked ≢ SendMessage cid kind id words
  pub try_send : (cid kind id : ℕ) (words : List ℕ) → asked ≢ TrySendMessage cid kind id words
  pub receive : (sid : Sid) → asked ≢ ReceiveMessage sid
  pub try_receive : (sid : Sid) → asked ≢ TryReceiveMessage sid
  pub return_memory : (a b d e f : ℕ) → asked ≢ ReturnMemory a b d e f
  pub return_scalar1 : (a b : ℕ) → asked ≢ ReturnScalar1 a b
  pub return_scalar2 : (a b d : ℕ) → asked ≢ ReturnScalar2 a b d
  pub forward : (a b : ℕ) → asked ≢ ForwardMessage a b
  pub terminate : (a : ℕ) → asked ≢ TerminateProcess a
  pub destroy : (sid : Sid) → asked ≢ DestroyServer sid

-- a call that is none of these is answered once it is served
pub others_plain : (w : List ℕ) (asked : Call) → Asks w asked → IsNoOther asked → is_plain_call w ≡ true
others_plain w (MapMemory a b d e) h none = ap is_plain_number h.0
others_plain w Yield h none = ap is_plain_number h
others_plain w (ClaimInterrupt a b d) h none = ap is_plain_number h.0
others_plain w (FreeInterrupt a) h none = ap is_plain_number h.0
others_plain w (IncreaseHeap a) h none = ap is_plain_number h.0
others_plain w (DecreaseHeap a) h none = ap is_plain_number h.0
others_plain w (UpdateMemoryFlags a b d) h none = ap is_plain_number h.0
others_plain w (CreateServerWithAddress a) h none = ap is_plain_number h.0
others_plain w (ReceiveMessage a) h none = absurd (none.receive a refl)
others_plain w (SendMessage a b d e) h none = absurd (none.send a b d e refl)
others_plain w (Connect a) h none = ap is_plain_number h.0
others_plain w (CreateThread a b d) h none = ap is_plain_number h.0
others_plain w (UnmapMemory a b) h none = ap is_plain_number h.0
others_plain w (ReturnMemory a b d e f) h none = absurd (none.return_memory a b d e f refl)
others_plain w (TerminateProcess a) h none = absurd (none.terminate a refl)
others_plain w (TrySendMessage a b d e) h none = absurd (none.try_send a b d e refl)
others_plain w (TryConnect a) h none = ap is_plain_number h.0
others_plain w (ReturnScalar1 a b) h none = absurd (none.return_scalar1 a b refl)
others_plain w (ReturnScalar2 a b d) h none = absurd (none.return_scalar2 a b d refl)
others_plain w (TryReceiveMessage a) h none = absurd (none.try_receive a refl)
others_plain w (JoinThread a) h none = ap is_plain_number h.0
others_plain w (DestroyServer a) h none = absurd (none.destroy a refl)
others_plain w GetThreadId h none = ap is_plain_number h
others_plain w GetProcessId h none = ap is_plain_number h
others_plain w (ForwardMessage a b) h none = absurd (none.forward a b refl)

-- the row of a call that isn't refused to its caller
module _ (m : Machine) (w : List ℕ) (free : is_refused_caller m w ≡ false) where
  pub row_is : (asked : Call) → Asks w asked → table_row w m ≡ call m w
  unfolding call
  row_is asked h =
      sym (λ i. refused_or (if not (known w asked h i) then Some UnhandledSyscall else (if free i then Some InvalidSyscall else None)) (table_row w m))

  pub receive_is : (sid : Sid) → Asks w (ReceiveMessage sid) → receive_row sid true m ≡ call m w
  unfolding receive_call
  receive_is sid (n, a) =
      sym (by_number m w 15 n refl free
      ∙ (λ i. unless_refused (own_server_refusals m (record { 0 = a i })) (Served (receive_served m (record { 0 = a i })))))

  -- the interrupt thread can't make that one
  pub receiver_waits : (sid : Sid) → Asks w (ReceiveMessage sid) → (m.cursor.tid.0 == 1) ≡ false
  receiver_waits sid (n, a) = go (m.cursor.tid.0 == 1) refl
    where
      waits : is_refused_to_handler w ≡ true
      waits =
          ap (λ k. k == receive_message || call_number w == send_message || call_number w == connect || call_number w == join_thread
          || (call_number w == try_send_message && is_waiting_kind (send_kind w))) n

      go : (b : Bool) → (m.cursor.tid.0 == 1) ≡ b → (m.cursor.tid.0 == 1) ≡ false
      go false e = e
      go true e = absurd (false≢true (sym free ∙ (λ i. e i && waits i)))

  pub try_receive_is : (sid : Sid) → Asks w (TryReceiveMessage sid) → receive_row sid false m ≡ call m w
  unfolding try_receive_call
  try_receive_is sid (n, a) =
      sym (by_number m w 28 n refl free
      ∙ (λ i. unless_refused (own_server_refusals m (record { 0 = a i })) (Served (try_receive_served m (record { 0 = a i })))))

-- ---- no call has the number

abbrev error_of : Result Call XousError → XousError
error_of (Ok asked) = UnhandledSyscall
error_of (Err error) = error

pub unhandled : (m : Machine) (w : List ℕ) (error : XousError) → ◌≡◌ {A = Result Call XousError} (Err error) (Err UnhandledSyscall) → is_call_number (call_number w) ≡ false
    → Refused error ≡ call m w
unhandled m w error e outside = ap (λ r. Refused (error_of r)) e ∙ sym (outside_refused m w outside)
