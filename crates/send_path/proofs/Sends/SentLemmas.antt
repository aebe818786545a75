-- An accepted send over the parts: what it leaves is what comes of it in the machine.
use Rattle.std.proofs.Common.{◌≡◌, ℕ, ◌+◌, Bool, true, false, List, [], ◌∷◌, ◌++◌, length, map, Option, Some, None, refl, sym, ap, subst, ◌∙◌}
use Rattle.std.specs.Prelude.{nat_eq, unwrap_or, if◌then◌else◌}
use Rattle.std.specs.Option.{option_and_then, option_map, option_map_or}
use Rattle.ledger_model.specs.Ledger.{Ledger}
use Rattle.machine_model.specs.Messaging.Messages.{new_message}
use Rattle.machine_model.specs.Messaging.Receivers.{receiver}
use Rattle.machine_model.specs.Messaging.ReturnCalls.{sender_gets as thread_gets}
use Rattle.machine_model.specs.Messaging.SendCalls.{sender_answered, sender_left, sent, sent_ledger, sent_pages, sent_place, sent_serial}
use Rattle.machine_model.specs.State.Changes.{Outcome, Served, answering, replies}
use Rattle.machine_model.specs.State.Connections.{own_connections}
use Rattle.machine_model.specs.State.Machine.{Machine, Server}
use Rattle.machine_model.specs.State.Servers.{change_server, server_at}
use Rattle.machine_model.specs.State.Threads.{both_answers, passed}
use Rattle.msg_queue.specs.Seats.{Seat, changed_at, message_of, seat_of}
use Rattle.msg_queue.specs.declared.held.Held.{Held}
use Rattle.process_table.specs.ProcessMap.{connections_of}
use Rattle.process_table.specs.Shown.{processes_of}
use Rattle.process_table.specs.State.{ProcessState}
use Rattle.process_table.specs.declared.table.Processes.{Processes}
use Rattle.server_table.specs.ServersOf.{servers_of}
use Rattle.server_table.specs.ServerState.{Server as TableServer}
use Rattle.sv32_space.specs.Tie.{Held as HeldBytes}
use Rattle.thread_table.specs.ThreadMap.{receiver as table_receiver}
use Rattle.thread_table.specs.Shown.{process_count, threads_of}
use Rattle.vm_memory.specs.Memory.{capacity_of, ledger}
use Rattle.syscall_codec.specs.CallWords.{send_address, send_cid}
use Rattle.xk_base.specs.Calls.Kinds.{is_answered}
use Rattle.syscall_codec.specs.ReplyWords.{message_words}
use Rattle.xk_base.specs.Numbers.Windows.{page_of}
use Rattle.xk_base.specs.Tables.Connections.{connected_to}
use Rattle.xk_base.specs.Tables.Counting.{put_at}
use Rattle.xk_base.specs.Tables.Sids.{serial_of}
use Rattle.xk_base.specs.declared.ids.Number.{Number}
use Rattle.xk_base.specs.declared.ids.Place.{Place}
use Rattle.xk_base.specs.declared.ids.Serial.{Serial}
use Rattle.xk_base.specs.declared.ids.ThreadId.{ThreadId}
use Rattle.xk_base.specs.declared.ids.Vpn.{Vpn}
use Rattle.xk_base.specs.declared.messages.Message.{Message}
use Rattle.xk_base.specs.declared.messages.MsgKind.{MsgKind}
use Rattle.send_path.specs.Arrivals.{IsReached, IsUnreached, arrival_answers, waiting_if, with_arrived}
use Rattle.send_path.proofs.Taken.{CallParts, with_next, taken}
use Rattle.xk_parts.specs.Shown.{process_of, processes_shown, server_of, server_with, servers_shown, threads_shown}
use Rattle.send_path.specs.Rows.{IsServed, log_with}
use Rattle.xk_parts.specs.Threads.{answered, changed_thread}
use Rattle.send_path.specs.declared.seats.Reached.{Reached}
use Rattle.send_path.proofs.Sends.ArriveLemmas.{receiver_alike}
use Rattle.send_path.proofs.Rows.RowLemmas.{served_so}
use Rattle.send_path.proofs.Servers.SeatLemmas.{one_more, server_changed, server_there}
use Rattle.send_path.proofs.Sends.SendRowLemmas.{arrived_shown, sent_is}
use Rattle.xk_parts.specs.Parts.{machine_at}

-- ---- at a seat

pub arrival_shown : (o : Option ThreadId) (h : Held) (seat : Seat) (v : TableServer)
    → server_with (with_arrived o h seat) v ≡ arrived_shown o h.msg (server_with seat v)
arrival_shown None h seat v = λ i. record { sid = v.sid; pid = v.pid; queued = one_more seat.queued h i; held = map message_of seat.held }
arrival_shown (Some who) h seat v = go (is_answered h.msg.kind)
  where
    go : (b : Bool) → server_with (record seat { held = if b then seat.held ++ h ∷ [] else seat.held }) v
        ≡ record (server_with seat v) { held = if b then map message_of seat.held ++ h.msg ∷ [] else map message_of seat.held }
    go true = λ i. record { sid = v.sid; pid = v.pid; queued = map message_of seat.queued; held = one_more seat.held h i }
    go false = refl

connections_alike : (o : Option ProcessState) → (process_of o).connections ≡ connections_of o
connections_alike None = refl
connections_alike (Some p) = refl

-- ---- the machine of a send

module _ {W : Type 0} (held : W → HeldBytes) (who : ThreadId) (procs : Processes) (number : Number) (old : CallParts W) where
  abbrev pub at_send : Machine → Machine
  at_send m = machine_at held who (taken old) (with_next procs number.0 m)

  abbrev own : List Serial
  own = connections_of (processes_of procs who.pid.0)

  connected_is : (m : Machine) (cid : ℕ) → connected_to (own_connections (at_send m)) cid ≡ connected_to own cid
  unfolding machine_at
  connected_is m cid = ap (λ connections. connected_to connections cid) (connections_alike (processes_of procs who.pid.0))

  live_is : (m : Machine) (n : ℕ) → (at_send m).servers n ≡ servers_shown old.tables.servers old.tables.queues n
  unfolding machine_at
  live_is m n = refl

  -- what a message of the caller is in every such machine
  pub message_at : (x : Message) (kind : MsgKind) (w : List ℕ) (first : Vpn)
      → ((m : Machine) → m.cursor ≡ who → m.next_number ≡ number.0 → x ≡ new_message m kind w first) → (m : Machine)
      → x ≡ new_message (at_send m) kind w first
  unfolding machine_at
  message_at x kind w first is m = is (at_send m) refl refl

  pub unreached : (cid : ℕ) → IsUnreached own cid (servers_of old.tables.servers) → (m : Machine) → server_at (at_send m) cid ≡ None
  unreached cid none m =
      ap (λ o. option_and_then (λ (serial : Serial). (at_send m).servers serial.0) o) (connected_is m cid) ∙ go (connected_to own cid) refl
    where
      go : (o : Option Serial) → connected_to own cid ≡ o → option_and_then (λ (serial : Serial). (at_send m).servers serial.0) o ≡ None
      go None e = refl
      go (Some serial) e =
          live_is m serial.0 ∙ ap (option_map (server_of old.tables.queues)) (none serial e)

  module _ (cid : ℕ) (to : Reached) (its : IsReached own cid (servers_of old.tables.servers) to) (count : length old.tables.queues ≡ 64) where
    abbrev k : ℕ
    k = to.serial.0

    abbrev pub server : Server
    server = server_with (seat_of old.tables.queues to.seat) its.seat.server

    pub reached_live : (m : Machine) → (at_send m).servers k ≡ Some server
    reached_live m = live_is m k ∙ server_there old.tables.servers old.tables.queues k to.seat its.seat count

    pub reached_there : (m : Machine) → server_at (at_send m) cid ≡ Some server
    reached_there m =
        ap (λ o. option_and_then (λ (serial : Serial). (at_send m).servers serial.0) o) (connected_is m cid ∙ its.connected)
        ∙ reached_live m

    pub reached_connected : (m : Machine) → connected_to (own_connections (at_send m)) cid ≡ Some to.serial
    reached_connected m = connected_is m cid ∙ its.connected

    module _ (w : List ℕ) (cid_is : send_cid w ≡ cid) (kind : MsgKind) (first : Vpn) (h : Held) (m : Machine)
        (msg : h.msg ≡ new_message (at_send m) kind w first) where
      abbrev got : Option ThreadId
      got = table_receiver (process_count old.tables.threads) to.serial (threads_of old.tables.threads)

      abbrev pub waits : Option Number
      waits = if is_answered kind then Some number else None

      serial_is : sent_serial (at_send m) w ≡ to.serial
      serial_is = ap (λ c. unwrap_or (connected_to (own_connections (at_send m)) c) (serial_of 0)) cid_is
          ∙ ap (λ o. unwrap_or o (serial_of 0)) (reached_connected m)

      place_is : sent_place (at_send m) w first ≡ record { pid = to.pid; vpn = first }
      place_is = λ i. record {
        pid = (ap (λ c. option_map_or (λ (s : Server). s.pid) (server_at (at_send m) c) (at_send m).cursor.pid) cid_is
            ∙ ap (λ o. option_map_or (λ (s : Server). s.pid) o (at_send m).cursor.pid) (reached_there m) ∙ its.own) i;
        vpn = first;
      }

      abbrev place : Place
      place = record { pid = to.pid; vpn = first }

      abbrev pub ledger_then : Ledger
      ledger_then =
          sent_ledger kind (page_of who.pid (send_address w)) (sent_pages w) place number (ledger held old.mem)

      -- what an accepted send leaves
      pub record Left (new : CallParts W) : Type 0 where
        pub threads : threads_shown new.tables.threads
            ≡ answered (arrival_answers got h.msg waits who) (changed_thread who passed (waiting_if waits who (threads_shown old.tables.threads)))
        pub log : new.tables.log ≡ log_with (replies (process_count old.tables.threads) (arrival_answers got h.msg waits who)) old.tables.log
        pub same_count : process_count new.tables.threads ≡ process_count old.tables.threads
        pub servers : new.tables.servers ≡ old.tables.servers
        pub queues : new.tables.queues ≡ changed_at to.seat (with_arrived got h) old.tables.queues
        pub capacity : capacity_of new.mem ≡ capacity_of old.mem
        pub ledger : ledger held new.mem ≡ ledger_then

      module _ (new : CallParts W) (g : Left new) where
        left : servers_shown new.tables.servers new.tables.queues
            ≡ put_at nat_eq (servers_shown old.tables.servers old.tables.queues) k
            (option_map (arrived_shown got h.msg) (servers_shown old.tables.servers old.tables.queues k))
        left =
            (λ i. servers_shown (g.servers i) (g.queues i))
            ∙ server_changed old.tables.servers old.tables.queues k to.seat its.seat count (with_arrived got h) (arrived_shown got h.msg)
            (arrival_shown got h (seat_of old.tables.queues to.seat) its.seat.server)

        -- the machine with the pages sent
        abbrev paged : Machine
        paged = record (at_send m) { ledger = ledger_then; next_number = number.0 + 1 }

        abbrev waits_so : Bool → Option Number
        waits_so b = if b then Some number else None

        abbrev outcome : Bool → Outcome
        outcome b =
            Served (answering (both_answers (thread_gets (message_words h.msg) got) (sender_answered b who))
            (change_server to.serial (arrived_shown got h.msg) (sender_left b number paged)))

        by_wait : (b : Bool)
            → threads_shown new.tables.threads
            ≡ answered (arrival_answers got h.msg (waits_so b) who) (changed_thread who passed (waiting_if (waits_so b) who (threads_shown old.tables.threads)))
            → new.tables.log ≡ log_with (replies (process_count old.tables.threads) (arrival_answers got h.msg (waits_so b) who)) old.tables.log
            → IsServed (outcome b) (at_send m) (machine_at held who (taken new) (with_next procs (number.0 + 1) m)) old.tables.log new.tables.log
        unfolding machine_at
        by_wait true threads log =
            served_so (at_send m) (change_server to.serial (arrived_shown got h.msg) (sender_left true number paged))
            (machine_at held who (taken new) (with_next procs (number.0 + 1) m)) (arrival_answers got h.msg (Some number) who) (outcome true) old.tables.log
            new.tables.log refl
            (λ i. record m {
              processes = g.same_count i;
              cursor = who;
              threads = threads i;
              process = processes_shown procs;
              servers = left i;
              next_serial = (servers_of (g.servers i)).next;
              capacity = g.capacity i;
              ledger = g.ledger i;
              next_number = number.0 + 1;
            })
            log
        by_wait false threads log =
            served_so (at_send m) (change_server to.serial (arrived_shown got h.msg) (sender_left false number paged))
            (machine_at held who (taken new) (with_next procs (number.0 + 1) m)) (arrival_answers got h.msg None who) (outcome false) old.tables.log
            new.tables.log refl
            (λ i. record m {
              processes = g.same_count i;
              cursor = who;
              threads = threads i;
              process = processes_shown procs;
              servers = left i;
              next_serial = (servers_of (g.servers i)).next;
              capacity = g.capacity i;
              ledger = g.ledger i;
              next_number = number.0 + 1;
            })
            log

        sent_so : Served (sent (at_send m) kind w first) ≡ outcome (is_answered kind)
        unfolding machine_at receiver
        sent_so =
            ap Served (sent_is (at_send m) w kind first got (ap (receiver (at_send m)) serial_is ∙ receiver_alike who old.tables (with_next procs number.0 m) to.serial))
            ∙ (λ i. Served (answering (both_answers (thread_gets (message_words (sym msg i)) got) (sender_answered (is_answered kind) who))
            (change_server (serial_is i) (arrived_shown got (sym msg i)) (sender_left (is_answered kind) number (record (at_send m) {
              ledger = sent_ledger kind (page_of who.pid (send_address w)) (sent_pages w) (place_is i) number (ledger held old.mem);
              next_number = number.0 + 1;
            })))))

        pub sent_row : (o : Outcome) → o ≡ Served (sent (at_send m) kind w first)
            → IsServed o (at_send m) (machine_at held who (taken new) (with_next procs (number.0 + 1) m)) old.tables.log new.tables.log
        sent_row o is =
            subst (λ x. IsServed x (at_send m) (machine_at held who (taken new) (with_next procs (number.0 + 1) m)) old.tables.log new.tables.log)
            (sym (is ∙ sent_so)) (by_wait (is_answered kind) g.threads g.log)
