-- ForwardMessage by its row: each of its refusals, and what it does.
use Rattle.xk_ports.specs.declared.store.SwapStore.{Ghosts as SwapStore}
use Rattle.std.proofs.Common.{◌≡◌, ℕ, ◌<◌, Bool, true, false, List, length, map, Option, Some, None, refl, sym, ap, ◌∙◌, arith}
use Rattle.std.specs.Prelude.{◌==◌, ◌&&◌, is_none, is_some, nat_eq, unwrap_or, if◌then◌else◌}
use Rattle.std.specs.Option.{option_and_then, option_map, option_map_or}
use Rattle.std.proofs.lemmas.Bool.{eq-eqb, eqb-true, false≢true}
use Rattle.std.proofs.lemmas.List.{length-map}
use Rattle.ledger_model.specs.Ledger.{Ledger}
use Rattle.ledger_model.specs.LeastRun.{least_run}
use Rattle.ledger_model.specs.Steps.{pass}
use Rattle.machine_model.specs.Calling.Calls.{call_at, call_table}
use Rattle.machine_model.specs.Messaging.ForwardCalls.{are_one_server, forward_call, forward_served, forward_served_if, held_place, is_passable_of, next_arrival, next_arrival_refusals, passable, passed_from, passed_message, passed_place, passed_to, with_first}
use Rattle.machine_model.specs.Messaging.Messages.{is_lend, is_of_number, without_held}
use Rattle.machine_model.specs.Messaging.Receivers.{receiver}
use Rattle.machine_model.specs.Messaging.ReturnCalls.{held_by_caller, holder_of, sender_gets}
use Rattle.machine_model.specs.Messaging.SendCalls.{arrived, message_run}
use Rattle.machine_model.specs.State.Changes.{Change, Outcome, Refused, Served, answering, refused_or, replies, unless_refused}
use Rattle.machine_model.specs.State.Machine.{Machine, Server}
use Rattle.machine_model.specs.State.Servers.{change_server, is_full, server_at, slots_used}
use Rattle.machine_model.specs.State.Threads.{answer_to, both_answers, passed}
use Rattle.msg_queue.specs.Seats.{Seat, changed_at, message_of, seat_of, used_of, without_held as without_held_at}
use Rattle.msg_queue.specs.declared.held.Held.{Held}
use Rattle.process_table.specs.ProcessMap.{connections_of}
use Rattle.process_table.specs.Shown.{processes_of}
use Rattle.process_table.specs.State.{ProcessState}
use Rattle.process_table.specs.declared.table.Processes.{Processes}
use Rattle.server_table.specs.ServersOf.{servers_of}
use Rattle.syscall_codec.specs.Calls.{Asks}
use Rattle.syscall_codec.specs.declared.calls.Call.TheVariants.{ForwardMessage}
use Rattle.thread_table.specs.ThreadMap.{is_ready as is_table_ready, receiver as table_receiver}
use Rattle.thread_table.specs.Shown.{process_count, threads_of}
use Rattle.vm_memory.specs.Memory.{capacity_of, ledger, processes}
use Rattle.syscall_codec.specs.ReplyWords.{message_words, plain_words}
use Rattle.xk_base.specs.Tables.Connections.{connected_to}
use Rattle.xk_base.specs.Tables.Counting.{put_at}
use Rattle.xk_base.specs.Tables.Sids.{serial_of}
use Rattle.xk_base.specs.declared.errors.XousError.TheVariants.{DoubleFree, InvalidSyscall, MemoryInUse, ServerNotFound, ServerQueueFull}
use Rattle.xk_base.specs.declared.ids.Number.{Number}
use Rattle.xk_base.specs.declared.ids.Serial.{Serial}
use Rattle.xk_base.specs.declared.ids.ThreadId.{ThreadId}
use Rattle.xk_base.specs.declared.ids.Vpn.{Vpn}
use Rattle.xk_base.specs.declared.limits.TheConstants.{MESSAGE_LIMIT}
use Rattle.xk_base.specs.declared.messages.Message.{Message}
use Rattle.xk_base.specs.declared.windows.Window.TheVariants.{Message as MessageWindow}
use Rattle.send_path.specs.Arrivals.{IsReached, IsUnreached, arrival_answers, with_arrived}
use Rattle.send_path.specs.Forwarding.{forward_row}
use Rattle.send_path.proofs.Taken.{with_processes, CallParts, taken}
use Rattle.xk_parts.specs.Shown.{process_of, server_of, server_with, servers_shown, threads_shown}
use Rattle.send_path.specs.Rows.{IsServed, log_with, table_row}
use Rattle.send_path.specs.Seats.{IsHeldAt}
use Rattle.xk_parts.specs.Threads.{answered, changed_thread}
use Rattle.send_path.specs.declared.holding.HeldAt.{HeldAt}
use Rattle.send_path.specs.declared.seats.Reached.{Reached}
use Rattle.send_path.proofs.Sends.ArriveLemmas.{receiver_alike}
use Rattle.send_path.proofs.Receivers.ReturnLemmas.{held_alike, holder_alike, its_holder, its_kind, left_shown, message_number}
use Rattle.send_path.proofs.Rows.RowLemmas.{served_so}
use Rattle.send_path.proofs.Servers.SeatLemmas.{seats_counted, server_changed, server_there}
use Rattle.send_path.proofs.Sends.SendRowLemmas.{arrived_shown}
use Rattle.send_path.proofs.Sends.SentLemmas.{arrival_shown}
use Rattle.xk_parts.specs.Parts.{machine_at}
use Rattle.xk_parts.specs.Sound.{AreSound}

and_assoc : (a b c : Bool) → ((a && b) && c) ≡ (a && (b && c))
and_assoc true b c = refl
and_assoc false b c = refl

own_connections_are : (o : Option ProcessState) → (process_of o).connections ≡ connections_of o
own_connections_are None = refl
own_connections_are (Some p) = refl

-- it is a lend or mutable lend, and has a sender
abbrev pub goes_on : Message → Bool
goes_on x = is_lend x.kind && is_some x.sender

-- the refusals in their order, and what follows where none holds
abbrev refused_by : Bool → Bool → Bool → Bool → Outcome → Outcome
refused_by a b c d outcome =
    refused_or (if a then Some DoubleFree else (if b then Some ServerNotFound else (if c then Some InvalidSyscall else (if d then Some ServerQueueFull else None)))) outcome

module _ {W : Type 0} (S : SwapStore W) (procs : Processes) (who : ThreadId) (old : CallParts W)
    (sound : AreSound S who (taken old)) (ready : is_table_ready (threads_of old.tables.threads who) ≡ true) (number : Number) (cid : ℕ) where
  abbrev seats : List Seat
  seats = old.tables.queues

  abbrev m0 : Machine
  m0 = machine_at S.held who (taken old) sound.machine

  abbrev all : Machine → Machine
  all m = machine_at S.held who (taken old) (with_processes procs m)

  abbrev own : List Serial
  own = connections_of (processes_of procs who.pid.0)

  abbrev test : Message → Bool
  test x = is_of_number number x && goes_on x

  same_test : is_passable_of number ≡ test
  same_test = λ i x. and_assoc (is_of_number number x) (is_lend x.kind) (is_some x.sender) i

  -- what the words name is the same, whatever the rest of the machine is
  passable_is : (m : Machine) → passable (all m) number ≡ held_by_caller m0 test
  passable_is m = ap (held_by_caller (all m)) same_test ∙ held_alike S who old sound ready number (with_processes procs m) test

  from_is : (m : Machine) → passed_from (all m) number ≡ holder_of m0 test
  from_is m = ap (holder_of (all m)) same_test ∙ holder_alike S who old sound ready number (with_processes procs m) test

  to_is : (m : Machine) → passed_to (all m) cid ≡ connected_to own cid
  unfolding machine_at
  to_is m = ap (λ cs. connected_to cs cid) (own_connections_are (processes_of procs who.pid.0))

  abbrev rest : Machine → Outcome
  rest m = let first = next_arrival m number cid in unless_refused (next_arrival_refusals first) (Served (forward_served m number cid first))

  -- ---- no message goes on

  pub not_passable : held_by_caller m0 test ≡ None → (m : Machine) → forward_row number cid (all m) ≡ Refused DoubleFree
  not_passable none m =
      ap (λ a. refused_by a (is_none (server_at (all m) cid)) (are_one_server (passed_from (all m) number) (passed_to (all m) cid))
      (is_full (server_at (all m) cid)) (rest (all m))) (ap is_none (passable_is m ∙ none))

  -- ---- the connection leads to no live server

  unreached_at : IsUnreached own cid (servers_of old.tables.servers) → (m : Machine) → server_at (all m) cid ≡ None
  unfolding machine_at
  unreached_at none m = ap (option_and_then (λ (serial : Serial). (all m).servers serial.0)) (to_is m) ∙ go (connected_to own cid) refl
    where
      go : (o : Option Serial) → connected_to own cid ≡ o → option_and_then (λ (serial : Serial). servers_shown old.tables.servers seats serial.0) o ≡ None
      go None e = refl
      go (Some serial) e = ap (option_map (server_of seats)) (none serial e)

  pub not_reached : (x : Message) → held_by_caller m0 test ≡ Some x → IsUnreached own cid (servers_of old.tables.servers)
      → (m : Machine) → forward_row number cid (all m) ≡ Refused ServerNotFound
  not_reached x its none m =
      λ i. refused_by (is_none ((passable_is m ∙ its) i)) (is_none (unreached_at none m i)) (are_one_server (passed_from (all m) number) (passed_to (all m) cid))
      (is_full (server_at (all m) cid)) (rest (all m))

  module _ (at : HeldAt) (its : IsHeldAt who.pid number (servers_of old.tables.servers) seats at) (can : goes_on at.message ≡ true)
      (to : Reached) (there : IsReached own cid (servers_of old.tables.servers) to) where
    abbrev x : Message
    x = at.message

    abbrev b : Server
    b = server_with (seat_of seats to.seat) there.seat.server

    passable_there : (m : Machine) → passable (all m) number ≡ Some x
    passable_there m = passable_is m ∙ its_kind S who old sound ready number at its goes_on can

    from_there : (m : Machine) → passed_from (all m) number ≡ Some (serial_of at.serial.0)
    from_there m = from_is m ∙ its_holder S who old sound ready number at its goes_on can

    to_there : (m : Machine) → passed_to (all m) cid ≡ Some to.serial
    to_there m = to_is m ∙ there.connected

    server_is : (m : Machine) → server_at (all m) cid ≡ Some b
    unfolding machine_at
    server_is m =
        ap (option_and_then (λ (serial : Serial). (all m).servers serial.0)) (to_there m)
        ∙ server_there old.tables.servers seats to.serial.0 to.seat there.seat sound.seats.all

    slots_are : slots_used b ≡ used_of (seat_of seats to.seat)
    slots_are =
        let queued : length (map message_of (seat_of seats to.seat).queued) ≡ length (seat_of seats to.seat).queued = length-map (seat_of seats to.seat).queued message_of in
        let kept : length (map message_of (seat_of seats to.seat).held) ≡ length (seat_of seats to.seat).held = length-map (seat_of seats to.seat).held message_of in
        omega arith

    -- ---- the server is the holder, or is full

    pub to_holder : (to.serial.0 == at.serial.0) ≡ true → (m : Machine) → forward_row number cid (all m) ≡ Refused InvalidSyscall
    to_holder same m =
        λ i. refused_by (is_none (passable_there m i)) (is_none (server_is m i))
        (((λ j. are_one_server (from_there m j) (to_there m j)) ∙ eq-eqb at.serial.0 to.serial.0 (sym (eqb-true to.serial.0 at.serial.0 same))) i)
        (is_full (server_at (all m) cid)) (rest (all m))

    -- two servers
    module _ (apart : (to.serial.0 == at.serial.0) ≡ false) where
      are_two : (m : Machine) → are_one_server (passed_from (all m) number) (passed_to (all m) cid) ≡ false
      are_two m = (λ j. are_one_server (from_there m j) (to_there m j)) ∙ go (at.serial.0 == to.serial.0) refl
        where
          go : (t : Bool) → (at.serial.0 == to.serial.0) ≡ t → t ≡ false
          go false q = refl
          go true q = absurd (false≢true (sym apart ∙ eq-eqb to.serial.0 at.serial.0 (sym (eqb-true at.serial.0 to.serial.0 q))))

      pub to_full : used_of (seat_of seats to.seat) ≡ MESSAGE_LIMIT → (m : Machine) → forward_row number cid (all m) ≡ Refused ServerQueueFull
      to_full full m =
          λ i. refused_by (is_none (passable_there m i)) (is_none (server_is m i)) (are_two m i)
          ((ap is_full (server_is m) ∙ eq-eqb (slots_used b) MESSAGE_LIMIT (slots_are ∙ full)) i) (rest (all m))

      -- ---- it has room

      module _ (room : used_of (seat_of seats to.seat) < MESSAGE_LIMIT) where
        not_full : (slots_used b == MESSAGE_LIMIT) ≡ false
        not_full = go (slots_used b == MESSAGE_LIMIT) refl
          where
            go : (t : Bool) → (slots_used b == MESSAGE_LIMIT) ≡ t → t ≡ false
            go false q = refl
            go true q =
                let all_used : slots_used b ≡ MESSAGE_LIMIT = eqb-true (slots_used b) MESSAGE_LIMIT q in
                let same : slots_used b ≡ used_of (seat_of seats to.seat) = slots_are in
                let few : used_of (seat_of seats to.seat) < MESSAGE_LIMIT = room in
                absurd (omega arith)

        none_refused : (m : Machine) → forward_row number cid (all m) ≡ rest (all m)
        none_refused m =
            λ i. refused_by (is_none (passable_there m i)) (is_none (server_is m i)) (are_two m i) ((ap is_full (server_is m) ∙ not_full) i) (rest (all m))

        abbrev run_found : Option Vpn
        run_found = least_run (processes old.mem) (ledger S.held old.mem) to.pid MessageWindow x.count

        arrival_is : (m : Machine) → next_arrival (all m) number cid ≡ run_found
        unfolding next_arrival machine_at
        arrival_is m =
            (λ i. option_and_then (message_run (all m) (option_map_or (λ (message : Message). message.count) (passable_there m i) 0)) (server_is m i))
            ∙ (λ i. least_run (sound.processes i) (ledger S.held old.mem) (there.own i) MessageWindow x.count)

        pub no_run : run_found ≡ None → (m : Machine) → forward_row number cid (all m) ≡ Refused MemoryInUse
        no_run none m =
            none_refused m
            ∙ ap (λ o. unless_refused (next_arrival_refusals o) (Served (forward_served (all m) number cid o))) (arrival_is m ∙ none)

        module _ (first : Vpn) (run : run_found ≡ Some first) where
          row_served : (m : Machine) → forward_row number cid (all m) ≡ Served (forward_served (all m) number cid (Some first))
          row_served m =
              none_refused m
              ∙ ap (λ o. unless_refused (next_arrival_refusals o) (Served (forward_served (all m) number cid o))) (arrival_is m ∙ run)

          -- ---- what it does

          -- it gets to the thread that is Receiving there, if one is
          abbrev got : Option ThreadId
          got = table_receiver (process_count old.tables.threads) to.serial (threads_of old.tables.threads)

          receives : (m : Machine) → receiver (all m) to.serial ≡ got
          unfolding receiver machine_at
          receives m = receiver_alike who old.tables (with_processes procs m) to.serial

          abbrev pub y : Message
          y = with_first first x

          -- the pages go from their places at the holder to those at the other server
          abbrev pub l : Ledger
          l = pass number (record { pid = who.pid; vpn = x.first }) (record { pid = to.pid; vpn = first }) (ledger S.held old.mem)

          abbrev told : ThreadId → Option (List ℕ)
          told = both_answers (sender_gets (message_words y) got) (answer_to who plain_words)

          abbrev gone : Machine → Number → Ledger → Machine
          gone m n k = record (change_server (serial_of at.serial.0) (without_held n) (all m)) { ledger = k }

          abbrev next : Machine → Machine
          next m = change_server to.serial (arrived_shown got y) (gone m number l)

          abbrev answered_too : Change → Change
          answered_too left = record left { answers = both_answers left.answers (answer_to who plain_words) }

          its_number : x.number ≡ number
          its_number = message_number S who old sound ready number at its

          places_are : (m : Machine) → pass x.number (held_place (all m) x) (passed_place (all m) cid first) (all m).ledger ≡ l
          unfolding machine_at
          places_are m =
              λ i. pass (its_number i) (record { pid = who.pid; vpn = x.first })
              (record { pid = (ap (λ o. option_map_or (λ (server : Server). server.pid) o who.pid) (server_is m) ∙ there.own) i; vpn = first }) (ledger S.held old.mem)

          by_receiver : (o : Option ThreadId) (m : Machine)
              → answered_too (arrived o to.serial y m)
              ≡ answering (both_answers (sender_gets (message_words y) o) (answer_to who plain_words)) (change_server to.serial (arrived_shown o y) m)
          by_receiver None m = refl
          by_receiver (Some id) m = refl

          change_is : (m : Machine) → forward_served (all m) number cid (Some first) ≡ answering told (next m)
          unfolding machine_at
          change_is m =
              ap (forward_served_if (all m) number cid first) (passable_there m)
              ∙ (λ i. passed_message (all m) cid first (unwrap_or (from_there m i) (serial_of 0)) (unwrap_or (to_there m i) (serial_of 0)) x)
              ∙ (λ i. answered_too (arrived (receives m i) to.serial y (gone m (its_number i) (places_are m i))))
              ∙ by_receiver got (gone m number l)

          -- ---- the outcome

          -- the message was passed on
          pub record PassedOn (h : Held) (new : CallParts W) : Type 0 where
            pub message : h.msg ≡ y
            pub threads : threads_shown new.tables.threads
                ≡ answered (arrival_answers got h.msg None who) (changed_thread who passed (threads_shown old.tables.threads))
            pub log : new.tables.log ≡ log_with (replies (process_count old.tables.threads) (arrival_answers got h.msg None who)) old.tables.log
            pub counted : process_count new.tables.threads ≡ process_count old.tables.threads
            pub servers : new.tables.servers ≡ old.tables.servers
            pub queues : new.tables.queues ≡ changed_at to.seat (with_arrived got h) (changed_at at.seat (without_held_at number) seats)
            pub capacity : capacity_of new.mem ≡ capacity_of old.mem
            pub ledger : ledger S.held new.mem ≡ l

          module _ (h : Held) (new : CallParts W) (p : PassedOn h new) where
            abbrev between : List Seat
            between = changed_at at.seat (without_held_at number) seats

            abbrev left : ℕ → Option Server
            left = put_at nat_eq (servers_shown old.tables.servers seats) at.serial.0 (option_map (without_held number) (servers_shown old.tables.servers seats at.serial.0))

            left_is : servers_shown old.tables.servers between ≡ left
            left_is =
                server_changed old.tables.servers seats at.serial.0 at.seat its.seat sound.seats.all (without_held_at number) (without_held number)
                (left_shown S who old sound ready number at its)

            servers_are : servers_shown new.tables.servers new.tables.queues ≡ put_at nat_eq left to.serial.0 (option_map (arrived_shown got y) (left to.serial.0))
            servers_are =
                (λ i. servers_shown (p.servers i) (p.queues i))
                ∙ server_changed old.tables.servers between to.serial.0 to.seat there.seat (seats_counted seats at.seat (without_held_at number) ∙ sound.seats.all)
                (with_arrived got h) (arrived_shown got h.msg) (arrival_shown got h (seat_of between to.seat) there.seat.server)
                ∙ (λ i. put_at nat_eq (left_is i) to.serial.0 (option_map (arrived_shown got (p.message i)) (left_is i to.serial.0)))

            pub passed_on : (m : Machine)
                → IsServed (forward_row number cid (all m)) (all m) (machine_at S.held who (taken new) (with_processes procs m)) old.tables.log new.tables.log
            unfolding machine_at
            passed_on m =
                served_so (all m) (next m) (machine_at S.held who (taken new) (with_processes procs m)) told (forward_row number cid (all m)) old.tables.log new.tables.log
                (row_served m ∙ ap Served (change_is m))
                (λ i. record (with_processes procs m) {
                  processes = p.counted i;
                  cursor = who;
                  threads = (p.threads ∙ ap (λ msg. answered (arrival_answers got msg None who) (changed_thread who passed (threads_shown old.tables.threads))) p.message) i;
                  servers = servers_are i;
                  next_serial = (servers_of (p.servers i)).next;
                  capacity = p.capacity i;
                  ledger = p.ledger i;
                })
                (p.log ∙ ap (λ msg. log_with (replies (process_count old.tables.threads) (arrival_answers got msg None who)) old.tables.log) p.message)

-- ---- the row of the call table

pub forward_is : (w : List ℕ) (token cid : ℕ) → Asks w (ForwardMessage token cid) → (m : Machine)
    → forward_row (record { 0 = token }) cid m ≡ table_row w m
unfolding forward_call
forward_is w token cid asks m =
    (λ i. forward_row (record { 0 = sym asks.1 i }) (sym asks.2 i) m) ∙ sym (ap (λ n. call_at n call_table m w) asks.0)
