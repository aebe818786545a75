-- ReceiveMessage and TryReceiveMessage by their rows.
use Rattle.std.proofs.Common.{◌≡◌, ℕ, ◌<◌, Bool, true, false, List, [], ◌∷◌, ◌++◌, length, map, Option, Some, None, refl, sym, ap, subst, ◌∙◌, append-nil, ◌+◌}
use Rattle.std.specs.Prelude.{◌==◌, ◌&&◌, nat_eq, not, slice_get, unwrap_or, if◌then◌else◌}
use Rattle.std.specs.Option.{option_and_then, option_map}
use Rattle.ledger_model.specs.Loans.{LoanRun, Loans}
use Rattle.machine_model.specs.Calling.ServerCalls.{named_server}
use Rattle.xk_base.specs.Calls.Kinds.{is_answered}
use Rattle.machine_model.specs.Messaging.Messages.{oldest, with_received, without_oldest}
use Rattle.machine_model.specs.Messaging.ReceiveCalls.{oldest_queued, receive_served, received, try_receive_served, waits_at}
use Rattle.machine_model.specs.State.Changes.{Change, Refused, Served, answering, only}
use Rattle.machine_model.specs.State.Machine.{Machine, Receiving, Server}
use Rattle.machine_laws.proofs.Calling.AnsweredCallLemmas.{Keeps}
use Rattle.machine_laws.proofs.Receiving.ReceiveStepLemmas.{receive_named_keeps, try_receive_named_keeps}
use Rattle.machine_model.specs.Runs.Matched.{Matched}
use Rattle.machine_model.specs.State.Order.{ready_at}
use Rattle.machine_model.specs.State.Servers.{change_server, is_own, with_sid}
use Rattle.machine_model.specs.State.Threads.{answer_to, change_thread, no_answers, passed, with_state}
use Rattle.msg_queue.specs.Seats.{Seat, changed_at, message_of, seat_of, with_held, without_queued_at}
use Rattle.msg_queue.specs.declared.held.Held.{Held}
use Rattle.server_table.specs.ServersOf.{servers_of}
use Rattle.server_table.specs.ServerState.{Server as TableServer}
use Rattle.server_table.specs.declared.table.Servers.{Servers}
use Rattle.thread_table.specs.ThreadMap.{is_ready as is_table_ready}
use Rattle.thread_table.specs.Shown.{process_count, threads_of}
use Rattle.xk_base.specs.Tables.Circle.{is_thread_id}
use Rattle.xk_base.specs.Tables.Counting.{put_at}
use Rattle.syscall_codec.specs.ReplyWords.{message_words, plain_words}
use Rattle.xk_base.specs.declared.errors.XousError.TheVariants.{ServerNotFound}
use Rattle.xk_base.specs.declared.ids.Serial.{Serial}
use Rattle.xk_base.specs.declared.ids.Sid.{Sid}
use Rattle.xk_base.specs.declared.ids.ThreadId.{ThreadId}
use Rattle.xk_base.specs.declared.messages.Message.{Message}
use Rattle.xk_base.specs.declared.records.What.TheVariants.{Reply}
use Rattle.send_path.proofs.Taken.{CallTables, without_memory}
use Rattle.xk_parts.specs.Shown.{server_with, servers_shown, threads_shown}
use Rattle.send_path.specs.Rows.{IsServed, log_with, receive_row}
use Rattle.xk_parts.specs.Seats.{HasLoanIfLend, IsSeatOf, own_serial}
use Rattle.xk_parts.specs.Sound.{AreLoansAt, AreLoansSound, AreSeatsSound, IsLoanOf, AreSound}
use Rattle.xk_parts.specs.Threads.{answered, changed_thread}
use Rattle.send_path.proofs.Servers.MachineLemmas.{IsOwn, not_own, own_found}
use Rattle.send_path.proofs.Rows.ReplyLemmas.{no_reply, one_reply}
use Rattle.send_path.proofs.Rows.RowLemmas.{first_passes, first_refuses, served_so}
use Rattle.send_path.proofs.Servers.SeatLemmas.{changed_twice, oldest_left, one_more, server_changed, server_there}
use Rattle.send_path.proofs.Sends.SentSoundLemmas.{loans_changed}
use Rattle.send_path.proofs.Servers.SoundLemmas.{seats_changed, taken, taken_all}
use Rattle.xk_parts.proofs.ThreadLemmas.{ready_there, unanswered}
use Rattle.xk_parts.specs.Parts.{machine_at, no_store}

-- ---- at a seat

oldest_shown : (xs : List Held) → oldest (map message_of xs) ≡ option_map message_of (slice_get xs 0)
oldest_shown [] = refl
oldest_shown (x ∷ xs) = refl

pub taken_shown : (h : Held) (seat : Seat) (v : TableServer) → server_with (taken h seat) v ≡ with_received h.msg (without_oldest (server_with seat v))
taken_shown h seat v = go (is_answered h.msg.kind)
  where
    go : (b : Bool) → server_with (if b then with_held h (without_queued_at 0 seat) else without_queued_at 0 seat) v
        ≡ record (without_oldest (server_with seat v)) { held = if b then map message_of seat.held ++ h.msg ∷ [] else map message_of seat.held }
    go true = λ i. record { sid = v.sid; pid = v.pid; queued = oldest_left seat.queued i; held = one_more seat.held h i }
    go false = λ i. record { sid = v.sid; pid = v.pid; queued = oldest_left seat.queued i; held = map message_of seat.held }

-- what the calls leave of the seats
pub taken_from : (seats mid new : List Seat) (k : ℕ) (h : Held) → k < length seats → mid ≡ changed_at k (without_queued_at 0) seats
    → new ≡ (if is_answered h.msg.kind then changed_at k (with_held h) mid else mid) → new ≡ changed_at k (taken h) seats
taken_from seats mid new k h low took kept = go (is_answered h.msg.kind) kept
  where
    go : (b : Bool) → new ≡ (if b then changed_at k (with_held h) mid else mid)
        → new ≡ changed_at k (λ seat. if b then with_held h (without_queued_at 0 seat) else without_queued_at 0 seat) seats
    go true e = e ∙ ap (changed_at k (with_held h)) took ∙ changed_twice seats k (without_queued_at 0) (with_held h) low
    go false e = e ∙ took

-- ---- the row

module _ (who : ThreadId) (old : CallTables) (sid : Sid) (wait : Bool) where
  module _ (none : own_serial who.pid sid (servers_of old.servers) ≡ None) where
    pub not_found : (m : Machine) → receive_row sid wait (machine_at no_store.held who (without_memory old) m) ≡ Refused ServerNotFound
    not_found m =
        let all : Machine = machine_at no_store.held who (without_memory old) m in
        first_refuses (not (is_own all (with_sid all sid))) ServerNotFound
        (Served (if wait then receive_served all sid else try_receive_served all sid))
        (ap not (not_own who old m sid none))

  module _ (serial : Serial) (k : ℕ) (found : own_serial who.pid sid (servers_of old.servers) ≡ Some serial)
      (its : IsSeatOf (servers_of old.servers) serial.0 k) (count : length old.queues ≡ 64) where
    module _ (m : Machine) where
      abbrev all : Machine
      all = machine_at no_store.held who (without_memory old) m

      own : IsOwn who old m sid serial
      own = own_found who old m sid serial found

      its_name : named_server all sid ≡ serial
      its_name = ap (λ o. unwrap_or o (record { 0 = 0 })) own.its

      row_is : (change : Change) → (if wait then receive_served all sid else try_receive_served all sid) ≡ change
          → receive_row sid wait all ≡ Served change
      row_is change e =
          first_passes (not (is_own all (with_sid all sid))) ServerNotFound
          (Served (if wait then receive_served all sid else try_receive_served all sid)) (ap not own.own)
          ∙ ap Served e

      its_oldest : oldest_queued all serial ≡ option_map message_of (slice_get (seat_of old.queues k).queued 0)
      unfolding machine_at
      its_oldest =
          ap (option_and_then (λ (server : Server). oldest server.queued)) (server_there old.servers old.queues serial.0 k its count)
          ∙ oldest_shown (seat_of old.queues k).queued

      abbrev otherwise : Change
      otherwise = if wait then waits_at serial all else answering (answer_to who plain_words) all

      -- both calls differ only where no message is queued
      served_is : (o : Option Message) → oldest_queued all serial ≡ o
          → (if wait then receive_served all sid else try_receive_served all sid) ≡ received all serial o otherwise
      unfolding machine_at
      served_is o e = go wait
        where
          go : (b : Bool) → (if b then receive_served all sid else try_receive_served all sid)
              ≡ received all serial o (if b then waits_at serial all else answering (answer_to who plain_words) all)
          go true =
              ap (λ s. received all s (oldest_queued all s) (waits_at s all)) its_name
              ∙ ap (λ x. received all serial x (waits_at serial all)) e
          go false =
              ap (λ s. received all s (oldest_queued all s) (answering (answer_to who plain_words) all)) its_name
              ∙ ap (λ x. received all serial x (answering (answer_to who plain_words) all)) e

    -- ---- a message is queued

    module _ (h : Held) (first : slice_get (seat_of old.queues k).queued 0 ≡ Some h) (new : CallTables) where
      pub record TookMessage : Type 0 where
        pub threads : threads_shown new.threads ≡ answered (answer_to who (message_words h.msg)) (changed_thread who passed (threads_shown old.threads))
        pub procs : process_count new.threads ≡ process_count old.threads
        pub servers : new.servers ≡ old.servers
        pub queues : new.queues ≡ changed_at k (taken h) old.queues
        pub log : new.log ≡ log_with (Reply who (message_words h.msg) ∷ []) old.log
        pub id : is_thread_id (process_count old.threads) who ≡ true

      pub message_got : TookMessage → (m : Machine)
          → IsServed (receive_row sid wait (machine_at no_store.held who (without_memory old) m)) (machine_at no_store.held who (without_memory old) m) (machine_at no_store.held who (without_memory new) m) old.log new.log
      unfolding machine_at
      message_got t m =
          served_so (all m) next (machine_at no_store.held who (without_memory new) m) (answer_to who (message_words h.msg)) (receive_row sid wait (all m)) old.log new.log
          (row_is m (answering (answer_to who (message_words h.msg)) next)
          (served_is m (Some h.msg) (its_oldest m ∙ ap (option_map message_of) first)))
          (λ i. record m {
            processes = t.procs i;
            cursor = who;
            threads = t.threads i;
            servers = left i;
            next_serial = (servers_of (t.servers i)).next;
          })
          (t.log ∙ ap (λ told. log_with told old.log) (sym (one_reply (process_count old.threads) who (message_words h.msg) t.id)))
        where
          its_change : Server → Server
          its_change server = with_received h.msg (without_oldest server)

          next : Machine
          next = change_server serial (λ server. with_received h.msg (without_oldest server)) (all m)

          left : servers_shown new.servers new.queues
              ≡ put_at nat_eq (servers_shown old.servers old.queues) serial.0
              (option_map (λ server. with_received h.msg (without_oldest server)) (servers_shown old.servers old.queues serial.0))
          left =
              (λ i. servers_shown (t.servers i) (t.queues i))
              ∙ server_changed old.servers old.queues serial.0 k its count (taken h) (λ server. with_received h.msg (without_oldest server))
              (taken_shown h (seat_of old.queues k) its.server)

    -- ---- none is queued

    module _ (none : slice_get (seat_of old.queues k).queued 0 ≡ None) (new : CallTables) (queues : new.queues ≡ old.queues)
        (servers : new.servers ≡ old.servers) (procs : process_count new.threads ≡ process_count old.threads) where
      pub waited : wait ≡ true
          → threads_shown new.threads ≡ changed_thread who passed (changed_thread who (with_state (Receiving serial)) (threads_shown old.threads))
          → new.log ≡ old.log → (m : Machine)
          → IsServed (receive_row sid wait (machine_at no_store.held who (without_memory old) m)) (machine_at no_store.held who (without_memory old) m) (machine_at no_store.held who (without_memory new) m) old.log new.log
      unfolding machine_at
      waited waits threads log m =
          served_so (all m) next (machine_at no_store.held who (without_memory new) m) no_answers (receive_row sid wait (all m)) old.log new.log
          (row_is m (only next)
          (served_is m None (its_oldest m ∙ ap (option_map message_of) none)
          ∙ ap (λ b. if b then waits_at serial (all m) else answering (answer_to who plain_words) (all m)) waits))
          (λ i. record m {
            processes = procs i;
            cursor = who;
            threads = (threads ∙ (λ j id. unanswered (changed_thread who passed (changed_thread who (with_state (Receiving serial)) (threads_shown old.threads)) id) j)) i;
            servers = servers_shown (servers i) (queues i);
            next_serial = (servers_of (servers i)).next;
          })
          (log ∙ sym (ap (λ told. log_with told old.log) (no_reply (process_count old.threads)) ∙ log_same))
        where
          next : Machine
          next = change_thread who (with_state (Receiving serial)) (all m)

          log_same : log_with [] old.log ≡ old.log
          log_same = λ i. record old.log { records = append-nil old.log.records i }

      pub told_none : wait ≡ false
          → threads_shown new.threads ≡ answered (answer_to who plain_words) (changed_thread who passed (threads_shown old.threads))
          → new.log ≡ log_with (Reply who plain_words ∷ []) old.log → is_thread_id (process_count old.threads) who ≡ true → (m : Machine)
          → IsServed (receive_row sid wait (machine_at no_store.held who (without_memory old) m)) (machine_at no_store.held who (without_memory old) m) (machine_at no_store.held who (without_memory new) m) old.log new.log
      unfolding machine_at
      told_none waits threads log id m =
          served_so (all m) (all m) (machine_at no_store.held who (without_memory new) m) (answer_to who plain_words) (receive_row sid wait (all m)) old.log new.log
          (row_is m (answering (answer_to who plain_words) (all m))
          (served_is m None (its_oldest m ∙ ap (option_map message_of) none)
          ∙ ap (λ b. if b then waits_at serial (all m) else answering (answer_to who plain_words) (all m)) waits))
          (λ i. record m {
            processes = procs i;
            cursor = who;
            threads = threads i;
            servers = servers_shown (servers i) (queues i);
            next_serial = (servers_of (servers i)).next;
          })
          (log ∙ ap (λ told. log_with told old.log) (sym (one_reply (process_count old.threads) who plain_words id)))

-- ---- the parts stay sound

-- the machine that the parts stand for afterwards is matched, where it is what comes of the call
pub still_matched : (who : ThreadId) (old new : CallTables) (sid : Sid) (wait : Bool) (m : Machine) → Matched (machine_at no_store.held who (without_memory old) m)
    → is_table_ready (threads_of old.threads who) ≡ true → (wait && (who.tid.0 == 1)) ≡ false
    → IsServed (receive_row sid wait (machine_at no_store.held who (without_memory old) m)) (machine_at no_store.held who (without_memory old) m) (machine_at no_store.held who (without_memory new) m) old.log new.log
    → Matched (machine_at no_store.held who (without_memory new) (record m { steps = m.steps + 1 }))
unfolding machine_at
still_matched who old new sid wait m h ready above served =
    subst (λ (x : Machine). Matched (record x { steps = m.steps + 1 })) (sym served.machine) (go wait above)
  where
    is_ready : ready_at (machine_at no_store.held who (without_memory old) m) who ≡ true
    is_ready = ready_there (threads_of old.threads who) ready

    go : (b : Bool) → (b && (who.tid.0 == 1)) ≡ false → Keeps (machine_at no_store.held who (without_memory old) m) (receive_row sid b (machine_at no_store.held who (without_memory old) m))
    go true e = receive_named_keeps (machine_at no_store.held who (without_memory old) m) h is_ready sid e
    go false e = try_receive_named_keeps (machine_at no_store.held who (without_memory old) m) h is_ready sid

-- .. and the seats are sound
pub taken_sound : (who : ThreadId) (old : CallTables) (serial k : ℕ) (h : Held) → AreSound no_store who (without_memory old) → IsSeatOf (servers_of old.servers) serial k
    → slice_get (seat_of old.queues k).queued 0 ≡ Some h → AreSeatsSound (servers_of old.servers) (changed_at k (taken h) old.queues)
taken_sound who old serial k h sound its first =
    seats_changed old.servers old.queues serial k sound.seats its (taken h)
    (taken_all HasLoanIfLend h (seat_of old.queues k) first (sound.seats.loans k))

-- .. with their loans, of which none changes
pub taken_loans : (servers : Servers) (seats : List Seat) (serial k : ℕ) (its : IsSeatOf (servers_of servers) serial k) → length seats ≡ 64
    → (h : Held) → slice_get (seat_of seats k).queued 0 ≡ Some h → (all : Loans) → AreLoansSound all (servers_of servers) seats
    → AreLoansSound all (servers_of servers) (changed_at k (taken h) seats)
taken_loans servers seats serial k its count h first all sound =
    loans_changed servers seats serial k its count all sound (taken h)
    (taken_all (λ x. (run : LoanRun) → x.loan ≡ Some run → IsLoanOf all its.server.pid x.msg run) h (seat_of seats k) first
    (subst (λ j. AreLoansAt all its.server.pid (seat_of seats j)) its.its (sound serial its.server its.live)))
