-- The calls that make a server and connect to one: what their parts hold is what the machine has.
use Rattle.xk_ports.specs.declared.store.SwapStore.{Ghosts as SwapStore}
use Rattle.std.proofs.Common.{◌≡◌, ℕ, ◌+◌, Bool, true, false, not, List, [], ◌∷◌, length, map, Option, Some, None, refl, sym, ap, ◌∙◌, arith, nat_eq, subst}
use Rattle.std.specs.Prelude.{◌<◌, ◌==◌, if◌then◌else◌, is_none, is_some, unwrap_or, Result, Ok, Err}
use Rattle.std.specs.Option.{option_map}
use Rattle.std.proofs.lemmas.Bool.{false≢true, ne_eqb}
use Rattle.std.proofs.lemmas.Option.{none-some, same_Some}
use Rattle.kill_path.proofs.FitLemmas.{open_loans, servers_of_matched}
use Rattle.ledger_model.specs.Loans.{loans}
use Rattle.xk_base.specs.declared.errors.XousError.{XousError}
use Rattle.xk_base.specs.declared.errors.XousError.TheVariants.{InvalidLimit, ServerExists, ServerNotFound}
use Rattle.xk_base.specs.declared.ids.Cid.{Cid}
use Rattle.xk_base.specs.declared.ids.Serial.{Serial}
use Rattle.xk_base.specs.declared.ids.Sid.{Sid}
use Rattle.xk_base.specs.declared.limits.TheConstants.{SERVER_LIMIT}
use Rattle.xk_base.specs.Tables.Connections.{cid_for, connected, has_room}
use Rattle.xk_base.specs.Tables.Counting.{count_below, least_below}
use Rattle.xk_base.specs.Tables.RowMap.{row_map}
use Rattle.xk_base.proofs.CountingLemmas.{least_below-bound, least_below-none, least_below-passes}
use Rattle.xk_base.specs.Tables.Sids.{serial_of, serial_with}
use Rattle.machine_model.specs.Calling.ServerCalls.{connect_refusals, connect_served, create_server_refusals, create_server_served, is_missing, new_serial, new_server, with_server as machine_with_server}
use Rattle.machine_laws.proofs.Serving.NewServerLemmas.{server_settles}
use Rattle.machine_laws.proofs.Threading.ThreadAnswerLemmas.{ready_lives}
use Rattle.machine_model.specs.Runs.Matched.{AreLoansMatched, Matched}
use Rattle.machine_model.specs.State.Changes.{Outcome, Refused, Retried, Served, answering, unless_refused, unless_retried}
use Rattle.machine_model.specs.State.Connections.{connect_caller, own_connections}
use Rattle.machine_model.specs.State.Machine.{Machine}
use Rattle.machine_model.specs.State.Order.{ready_at}
use Rattle.machine_model.specs.State.Servers.{live_servers, with_sid as machine_with_sid}
use Rattle.machine_model.specs.State.Threads.{answer_to}
use Rattle.msg_queue.specs.Seats.{Seat, empty_seat, message_of, seat_of}
use Rattle.process_table.specs.ProcessMap.{change, connections_of}
use Rattle.process_table.specs.Shown.{process_count, processes_of}
use Rattle.process_table.specs.State.{ProcessState, connection, with_connection}
use Rattle.process_table.specs.declared.table.Processes.{Processes}
use Rattle.send_path.proofs.Servers.SeatSearchLemmas.{seat_found}
use Rattle.xk_parts.specs.Shown.{process_of, server_of}
use Rattle.xk_parts.specs.Seats.{HasNoServer}
use Rattle.xk_parts.specs.Sound.{AreLoansAt, AreLoansSound, AreSeatsSound}
use Rattle.server_table.specs.ServersOf.{servers_of}
use Rattle.server_table.specs.ServerState.{Server as TableServer, ServerState, at_seat, free_seat, live_count, made_answer, with_server, with_sid}
use Rattle.server_table.specs.declared.table.Servers.{Servers}
use Rattle.server_table.proofs.AnsweredLemmas.{free_seat_is, full, state}
use Rattle.server_table.proofs.Lemmas.{live_below}
use Rattle.vm_memory.specs.Memory.{ledger}
use Rattle.sv32_space.specs.Tie.{Held}
use Rattle.syscall_codec.specs.ReplyWords.{connection_words, new_server_words}
use Rattle.xk_kernel.specs.Calling.{connected_outcome}
use Rattle.xk_kernel.specs.Sound.{IsWhole}
use Rattle.xk_kernel.specs.State.{machine_of}
use Rattle.xk_kernel.specs.declared.kernel.Kernel.{Kernel}
use Rattle.xk_kernel.proofs.Memory.HeapLemmas.{caller, first_of_three, none_of_three, process_there, second_of_three}

-- ---- connections

same_connections : (o : Option ProcessState) → connections_of o ≡ (process_of o).connections
same_connections None = refl
same_connections (Some p) = refl

process_connected : (b : Bool) (o other : Option ProcessState) (p : ProcessState) (serial : Serial) → o ≡ Some p
    → process_of (if b then option_map (with_connection serial) o else other)
    ≡ (if b then record (process_of o) { connections = connected serial (process_of o).connections } else process_of other)
process_connected b None other p serial e = absurd (none-some p e)
process_connected true (Some q) other p serial e = refl
process_connected false (Some q) other p serial e = refl

-- ---- servers

same_sids : (seats : List Seat) (o : Option TableServer) → option_map (λ server. server.sid) (option_map (server_of seats) o) ≡ option_map (λ server. server.sid) o
same_sids seats None = refl
same_sids seats (Some s) = refl

same_live : (seats : List Seat) (o : Option TableServer) → is_some (option_map (server_of seats) o) ≡ is_some o
same_live seats None = refl
same_live seats (Some s) = refl

module _ {W : Type 0} (held : W → Held) (k : Kernel W) where
  pub connections_told : connections_of (processes_of k.procs k.cursor.pid.0) ≡ own_connections (machine_of held k)
  unfolding machine_of
  connections_told = same_connections (processes_of k.procs k.cursor.pid.0)

  -- the server with an identifier, and how many there are
  pub named_told : (sid : Sid) → with_sid sid (servers_of k.servers) ≡ machine_with_sid (machine_of held k) sid
  unfolding machine_of machine_with_sid
  named_told sid = ap (serial_with sid (servers_of k.servers).next) (λ i n. sym (same_sids k.queues ((servers_of k.servers).live n)) i)

  pub count_told : live_count (servers_of k.servers) ≡ live_servers (machine_of held k)
  unfolding machine_of live_servers
  count_told = ap (count_below (servers_of k.servers).next) (λ i n. sym (same_live k.queues ((servers_of k.servers).live n)) i)

-- ---- in a whole kernel

module _ {W : Type 0} (S : SwapStore W) (k : Kernel W) (whole : IsWhole S k) where
  -- the caller's process is connected
  pub machine_connected : (procs : Processes) (serial : Serial) → processes_of procs ≡ change k.cursor.pid.0 (with_connection serial) (processes_of k.procs)
      → machine_of S.held (record k { procs = procs }) ≡ connect_caller serial (machine_of S.held k)
  unfolding machine_of
  machine_connected procs serial e =
      let there = process_there k.procs k.cursor.pid.0 (caller S k whole) in
      λ i. record (machine_of S.held k) {
        process = λ q. (ap (λ f. process_of (f q)) e
            ∙ process_connected (nat_eq q k.cursor.pid.0) (processes_of k.procs k.cursor.pid.0) (processes_of k.procs q) there.0 serial there.1) i;
      }

  pub connected_whole : (procs : Processes) → process_count procs ≡ process_count k.procs → IsWhole S (record k { procs = procs })
  connected_whole procs n = record {
    mem = whole.mem;
    threads = whole.threads;
    procs = n ∙ whole.procs;
    cursor = whole.cursor;
    room = whole.room;
    servers = whole.servers;
  }

  -- a free seat is that of no server, and has no message
  no_server : (seat : ℕ) → free_seat (servers_of k.servers) ≡ Some seat → HasNoServer (servers_of k.servers) seat
  no_server seat free serial server live same =
      let none : is_none (at_seat seat (servers_of k.servers)) ≡ true =
      least_below-passes SERVER_LIMIT (λ j. is_none (at_seat j (servers_of k.servers))) seat free in
      false≢true (sym (ap (λ j. is_none (at_seat j (servers_of k.servers))) (sym same) ∙ ap is_none (seat_found k.servers serial server live)) ∙ none)

  empty_there : (seat : ℕ) → free_seat (servers_of k.servers) ≡ Some seat → seat_of k.queues seat ≡ empty_seat
  empty_there seat free =
      whole.servers.messages.seats.empty seat (least_below-bound SERVER_LIMIT (λ j. is_none (at_seat j (servers_of k.servers))) seat free) (no_server seat free)

  shown_new : (sid : Sid) (seat : ℕ) → free_seat (servers_of k.servers) ≡ Some seat
      → server_of k.queues (record { sid = sid; pid = k.cursor.pid; seat = seat }) ≡ record { sid = sid; pid = k.cursor.pid; queued = []; held = [] }
  shown_new sid seat free = λ i.
      record { sid = sid; pid = k.cursor.pid; queued = map message_of (empty_there seat free i).queued; held = map message_of (empty_there seat free i).held }

  shown_at : (b : Bool) (new : TableServer) (o : Option TableServer) → option_map (server_of k.queues) (if b then Some new else o)
      ≡ (if b then Some (server_of k.queues new) else option_map (server_of k.queues) o)
  shown_at true new o = refl
  shown_at false new o = refl

  -- a server was made
  pub machine_served : (servers : Servers) (sid : Sid) (seat : ℕ) → free_seat (servers_of k.servers) ≡ Some seat
      → servers_of servers ≡ with_server sid k.cursor.pid (free_seat (servers_of k.servers)) (servers_of k.servers)
      → machine_of S.held (record k { servers = servers }) ≡ machine_with_server (new_server (machine_of S.held k) sid) (machine_of S.held k)
  unfolding machine_of
  machine_served servers sid seat f e =
      let made : servers_of servers ≡ with_server sid k.cursor.pid (Some seat) (servers_of k.servers) =
      e ∙ ap (λ o. with_server sid k.cursor.pid o (servers_of k.servers)) f in
      λ i. record (machine_of S.held k) {
        servers = λ n. (ap (λ (s : ServerState). option_map (server_of k.queues) (s.live n)) made
            ∙ shown_at (nat_eq n (servers_of k.servers).next) (record { sid = sid; pid = k.cursor.pid; seat = seat }) ((servers_of k.servers).live n)
            ∙ ap (λ s. if nat_eq n (servers_of k.servers).next then Some s else option_map (server_of k.queues) ((servers_of k.servers).live n)) (shown_new sid seat f)) i;
        next_serial = (made i).next;
      }

  module _ (servers : Servers) (sid : Sid) (seat : ℕ) (free : free_seat (servers_of k.servers) ≡ Some seat)
      (made : servers_of servers ≡ with_server sid k.cursor.pid (free_seat (servers_of k.servers)) (servers_of k.servers)) where
    abbrev the_new : TableServer
    the_new = record { sid = sid; pid = k.cursor.pid; seat = seat }

    made_at : servers_of servers ≡ with_server sid k.cursor.pid (Some seat) (servers_of k.servers)
    made_at = made ∙ ap (λ o. with_server sid k.cursor.pid o (servers_of k.servers)) free

    live_now : (n : ℕ) (b : Bool) → nat_eq n (servers_of k.servers).next ≡ b
        → (servers_of servers).live n ≡ (if b then Some the_new else (servers_of k.servers).live n)
    live_now n b e = ap (λ (s : ServerState). s.live n) made_at ∙ ap (λ c. if c then Some the_new else (servers_of k.servers).live n) e

    -- who was alive is
    still_live : (n : ℕ) (server : TableServer) → (servers_of k.servers).live n ≡ Some server → (servers_of servers).live n ≡ Some server
    still_live n server live =
        let below : n < (servers_of k.servers).next = live_below k.servers n server live in
        live_now n false (ne_eqb n (servers_of k.servers).next (λ same. absurd (omega arith))) ∙ live

    seats_made : AreSeatsSound (servers_of servers) k.queues
    seats_made =
        let old = whole.servers.messages.seats in
        record {
          all = old.all;
          empty = λ j low none. old.empty j low (λ n server live same. none n server (still_live n server live) same);
          loans = old.loans;
        }

    loans_made : AreLoansSound (loans (ledger S.held k.mem)) (servers_of servers) k.queues
    loans_made n server live = go (nat_eq n (servers_of k.servers).next) refl
      where
        go : (b : Bool) → nat_eq n (servers_of k.servers).next ≡ b → AreLoansAt (loans (ledger S.held k.mem)) server.pid (seat_of k.queues server.seat)
        go true e =
            subst (λ (s : TableServer). AreLoansAt (loans (ledger S.held k.mem)) s.pid (seat_of k.queues s.seat))
            (same_Some the_new server (sym (live_now n true e) ∙ live))
            (subst (AreLoansAt (loans (ledger S.held k.mem)) k.cursor.pid) (sym (empty_there seat free)) (λ j d low. absurd (omega arith)))
        go false e = open_loans (loans (ledger S.held k.mem)) k.servers k.queues whole.servers.messages n server (sym (live_now n false e) ∙ live)

    -- .. and the kernel is whole with it, as the machine with it is matched
    pub served_whole : Matched (machine_of S.held k) → ready_at (machine_of S.held k) k.cursor ≡ true → is_some (machine_with_sid (machine_of S.held k) sid) ≡ false
        → (live_servers (machine_of S.held k) == SERVER_LIMIT) ≡ false → IsWhole S (record k { servers = servers })
    unfolding machine_of
    served_whole matched ready fresh few =
        let m : Machine = machine_of S.held k in
        let settles = server_settles m matched sid (record { live = ready_lives m matched k.cursor ready; fresh = fresh; room = few }) in
        let shown : machine_with_server (new_server m sid) m ≡ machine_of S.held (record k { servers = servers }) = sym (machine_served servers sid seat free made) in
        record {
          mem = whole.mem;
          threads = whole.threads;
          procs = whole.procs;
          cursor = whole.cursor;
          room = whole.room;
          servers =
              servers_of_matched (record (machine_with_server (new_server m sid) m) { steps = m.steps + 1 }) settles servers k.queues
              (ap (λ (x : Machine). x.servers) shown) seats_made (loans (ledger S.held k.mem))
              (subst (λ (x : Machine). AreLoansMatched (loans (ledger S.held k.mem)) x.servers) shown settles.body.loans) loans_made;
        }

-- ---- lists of refusals

-- one of two tests with one error, after a first that fails
pub second_or_third : (a b c : Bool) (x y : XousError) (o : Outcome) → a ≡ false → c ≡ true
    → Refused y ≡ unless_refused ((a, x) ∷ (b, y) ∷ (c, y) ∷ []) o
second_or_third true b c x y o e f = absurd (false≢true (sym e))
second_or_third false true c x y o e f = refl
second_or_third false false true x y o e f = refl
second_or_third false false false x y o e f = absurd (false≢true f)

-- ---- the answer to a connection

module _ (serial : Serial) (connections : List Serial) where
  connection_made : has_room serial connections ≡ true → connection serial connections ≡ Ok (record { 0 = cid_for serial connections })
  connection_made room = ap (λ b. if b then Ok (record { 0 = cid_for serial connections }) else Err InvalidLimit) room

  abbrev number_of : Result Cid XousError → ℕ
  number_of (Ok cid) = cid.0
  number_of (Err error) = 0

  abbrev is_ok : Result Cid XousError → Bool
  is_ok (Ok cid) = true
  is_ok (Err error) = false

  pub connected_cid : (cid : Cid) → Ok cid ≡ connection serial connections → has_room serial connections ≡ true → cid.0 ≡ cid_for serial connections
  connected_cid cid e room = ap number_of (e ∙ connection_made room)

  pub not_unconnected : (error : XousError) → Err error ≡ connection serial connections → has_room serial connections ≡ true → ⊥
  not_unconnected error e room = false≢true (ap is_ok (e ∙ connection_made room))

module _ (m : Machine) (serial : Serial) where
  pub has_no_room : has_room serial (own_connections m) ≡ false → Refused InvalidLimit ≡ connected_outcome m serial
  has_no_room e =
      ap (λ b. unless_refused ((not b, InvalidLimit) ∷ []) (Served (answering (answer_to m.cursor (connection_words (cid_for serial (own_connections m)))) (connect_caller serial m))))
      (sym e)

  pub has_room_for : has_room serial (own_connections m) ≡ true
      → Served (answering (answer_to m.cursor (connection_words (cid_for serial (own_connections m)))) (connect_caller serial m)) ≡ connected_outcome m serial
  has_room_for e =
      ap (λ b. unless_refused ((not b, InvalidLimit) ∷ []) (Served (answering (answer_to m.cursor (connection_words (cid_for serial (own_connections m)))) (connect_caller serial m))))
      (sym e)

-- ---- a server that is found, or not

module _ (m : Machine) (sid : Sid) where
  abbrev connect_outcome : Option Serial → Outcome
  connect_outcome found =
      unless_retried (is_none found) (connected_outcome m (unwrap_or found (serial_of 0)))

  pub connects : (serial : Serial) → machine_with_sid m sid ≡ Some serial
      → connected_outcome m serial ≡ unless_retried (is_missing m sid) (unless_refused (connect_refusals m sid) (Served (connect_served m sid)))
  connects serial e = ap connect_outcome (sym e)

  pub retries : machine_with_sid m sid ≡ None
      → Retried ≡ unless_retried (is_missing m sid) (unless_refused (connect_refusals m sid) (Served (connect_served m sid)))
  retries e = ap connect_outcome (sym e)

  abbrev try_outcome : Option Serial → Outcome
  try_outcome found =
      unless_refused ((is_none found, ServerNotFound) ∷ (not (has_room (unwrap_or found (serial_of 0)) (own_connections m)), InvalidLimit) ∷ [])
      (Served (answering (answer_to m.cursor (connection_words (cid_for (unwrap_or found (serial_of 0)) (own_connections m)))) (connect_caller (unwrap_or found (serial_of 0)) m)))

  pub tries : (serial : Serial) → machine_with_sid m sid ≡ Some serial
      → connected_outcome m serial ≡ unless_refused ((is_missing m sid, ServerNotFound) ∷ connect_refusals m sid) (Served (connect_served m sid))
  tries serial e = ap try_outcome (sym e)

  pub tries_none : machine_with_sid m sid ≡ None
      → Refused ServerNotFound ≡ unless_refused ((is_missing m sid, ServerNotFound) ∷ connect_refusals m sid) (Served (connect_served m sid))
  tries_none e = ap try_outcome (sym e)

-- ---- the answer to a new server

module _ (sid : Sid) (s : ServerState) (new : is_some (with_sid sid s) ≡ false) where
  made_by : (b : Bool) → (live_count s == SERVER_LIMIT) ≡ b → made_answer sid s ≡ (if b then Err InvalidLimit else Ok (serial_of s.next))
  made_by b e = λ i. if new i then Err ServerExists else (if e i then Err InvalidLimit else Ok (serial_of s.next))

  abbrev is_made : Result Serial XousError → Bool
  is_made (Ok serial) = true
  is_made (Err error) = false

  abbrev serial_in : Result Serial XousError → Serial
  serial_in (Ok serial) = serial
  serial_in (Err error) = serial_of 0

  abbrev error_in : Result Serial XousError → XousError
  error_in (Ok serial) = ServerExists
  error_in (Err error) = error

  pub made_ok : (serial : Serial) → Ok serial ≡ made_answer sid s → ((live_count s == SERVER_LIMIT) ≡ false) × (serial ≡ serial_of s.next)
  made_ok serial e = go (live_count s == SERVER_LIMIT) refl
    where
      go : (b : Bool) → (live_count s == SERVER_LIMIT) ≡ b → ((live_count s == SERVER_LIMIT) ≡ false) × (serial ≡ serial_of s.next)
      go true q = absurd (false≢true (sym (ap is_made (e ∙ made_by true q))))
      go false q = (q, ap serial_in (e ∙ made_by false q))

  pub made_err : (error : XousError) → Err error ≡ made_answer sid s → ((live_count s == SERVER_LIMIT) ≡ true) × (error ≡ InvalidLimit)
  made_err error e = go (live_count s == SERVER_LIMIT) refl
    where
      go : (b : Bool) → (live_count s == SERVER_LIMIT) ≡ b → ((live_count s == SERVER_LIMIT) ≡ true) × (error ≡ InvalidLimit)
      go true q = (q, ap error_in (e ∙ made_by true q))
      go false q = absurd (false≢true (ap is_made (e ∙ made_by false q)))

-- where fewer servers than the limit are alive, a seat is free
pub seat_left : (t : Servers) → (live_count (servers_of t) == SERVER_LIMIT) ≡ false → (seat : ℕ) × (free_seat (servers_of t) ≡ Some seat)
unfolding servers_of
seat_left t few = go (free_seat (state t.seats.items t.next)) refl
  where
    go : (o : Option ℕ) → free_seat (state t.seats.items t.next) ≡ o → (seat : ℕ) × (free_seat (state t.seats.items t.next) ≡ Some seat)
    go (Some seat) e = (seat, e)
    go None e =
        let size : length t.seats.items ≡ SERVER_LIMIT = omega arith in
        let none : least_below SERVER_LIMIT (λ i. is_none (row_map t.seats.items i)) ≡ None =
        sym (free_seat_is t.seats.items t.next t.apart size) ∙ e in
        absurd (false≢true (sym few ∙ full t.seats.items t.next t.counted (least_below-none SERVER_LIMIT (λ i. is_none (row_map t.seats.items i)) none)))

-- ---- what comes of a new server

module _ (m : Machine) (sid : Sid) where
  abbrev create_outcome : Outcome
  create_outcome = unless_refused (create_server_refusals m sid) (Served (create_server_served m sid))

  pub exists_already : is_some (machine_with_sid m sid) ≡ true → Refused ServerExists ≡ create_outcome
  exists_already e =
      first_of_three (is_some (machine_with_sid m sid)) (live_servers m == SERVER_LIMIT) (not (has_room (new_serial m) (own_connections m)))
      ServerExists InvalidLimit InvalidLimit (Served (create_server_served m sid)) e

  module _ (new : is_some (machine_with_sid m sid) ≡ false) where
    pub unconnected : has_room (new_serial m) (own_connections m) ≡ false → Refused InvalidLimit ≡ create_outcome
    unconnected e =
        second_or_third (is_some (machine_with_sid m sid)) (live_servers m == SERVER_LIMIT) (not (has_room (new_serial m) (own_connections m)))
        ServerExists InvalidLimit (Served (create_server_served m sid)) new (ap not e)

    pub too_many : (live_servers m == SERVER_LIMIT) ≡ true → Refused InvalidLimit ≡ create_outcome
    too_many e =
        second_of_three (is_some (machine_with_sid m sid)) (live_servers m == SERVER_LIMIT) (not (has_room (new_serial m) (own_connections m)))
        ServerExists InvalidLimit InvalidLimit (Served (create_server_served m sid)) new e

    pub created : (live_servers m == SERVER_LIMIT) ≡ false → has_room (new_serial m) (own_connections m) ≡ true
        → Served (create_server_served m sid) ≡ create_outcome
    created few room =
        none_of_three (is_some (machine_with_sid m sid)) (live_servers m == SERVER_LIMIT) (not (has_room (new_serial m) (own_connections m)))
        ServerExists InvalidLimit InvalidLimit (Served (create_server_served m sid)) new few (ap not room)

-- the server was made, and the caller connected to it
pub created_is : (m mid after : Machine) (sid : Sid) (serial : Serial) (cid : ℕ) → mid ≡ machine_with_server (new_server m sid) m → serial ≡ new_serial m
    → cid ≡ cid_for serial (own_connections mid) → after ≡ connect_caller serial mid
    → Served (answering (answer_to m.cursor (new_server_words sid cid)) after) ≡ Served (create_server_served m sid)
created_is m mid after sid serial cid made e c a =
    (λ i. Served (answering (answer_to m.cursor (new_server_words sid (c i))) (a i)))
    ∙ (λ i. Served (answering (answer_to m.cursor (new_server_words sid (cid_for (e i) (own_connections (made i))))) (connect_caller (e i) (made i))))
