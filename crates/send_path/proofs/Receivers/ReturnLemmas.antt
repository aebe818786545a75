-- ReturnMemory, ReturnScalar1 and ReturnScalar2 by their rows, and what they leave sound.
use Rattle.xk_ports.specs.declared.store.SwapStore.{Ghosts as SwapStore}
use Rattle.std.proofs.Common.{◌≡◌, ℕ, zero, suc, ◌+◌, ◌<◌, ◌≤◌, Bool, true, false, List, [], ◌∷◌, ◌++◌, cond, drop, get_or, length, map, take, Option, Some, None, refl, sym, ap, subst, ◌∙◌, arith}
use Rattle.std.specs.Prelude.{◌≢◌, ◌==◌, ◌&&◌, All, IfSome, find, is_none, is_some, nat_eq, not, unwrap_or, if◌then◌else◌}
use Rattle.std.specs.List.{remove}
use Rattle.std.specs.Option.{option_map, option_map_or}
use Rattle.std.proofs.lemmas.Bool.{eq-eqb, eqb-true, false≢true}
use Rattle.std.proofs.lemmas.List.{map-append}
use Rattle.std.proofs.lemmas.List.Elements.{All-append, All-cons, All-drop, All-take}
use Rattle.std.proofs.lemmas.Option.{none-some, same_Some}
use Rattle.ledger_model.proofs.Loans.OfNumberLemmas.{stands_still}
use Rattle.ledger_model.proofs.Stepping.EndingLemmas.{end_loan_other}
use Rattle.ledger_model.specs.Ledger.{Ledger}
use Rattle.ledger_model.specs.Loans.{LoanRun, Stands, loans, same_number}
use Rattle.ledger_model.specs.Steps.{end_loan}
use Rattle.machine_laws.proofs.Calling.AnsweredCallLemmas.{Keeps}
use Rattle.machine_laws.proofs.Messaging.AnyServerLemmas.{held_apart, held_not_queued}
use Rattle.machine_laws.proofs.Returning.GivenBackLemmas.{found_at}
use Rattle.machine_laws.proofs.Returning.ReturnMemoryLemmas.{return_keeps}
use Rattle.machine_laws.proofs.Returning.ReturnScalarLemmas.{scalar_keeps}
use Rattle.machine_laws.proofs.Threading.ThreadAnswerLemmas.{IsReadyThread, ready_thread}
use Rattle.machine_laws.proofs.Threading.ThreadPutLemmas.{alike}
use Rattle.machine_model.proofs.Matching.CountLemmas.{all_right, none_pass}
use Rattle.machine_model.proofs.Matching.MatchedLemmas.{senders_wait, waiting_thread}
use Rattle.machine_model.specs.Calling.Calls.{call_at, call_table}
use Rattle.machine_model.specs.Messaging.MessageCounts.{count_at, count_in}
use Rattle.machine_model.specs.Messaging.Messages.{is_blocking_of, is_blocking_scalar, is_lend, is_lend_of, is_of_number, without_held}
use Rattle.machine_model.specs.Messaging.ReturnCalls.{given_back, held_by_caller, holder_of, is_its_range, return_memory_call, return_memory_served, return_scalar1_call, return_scalar2_call, return_scalar_served, sender_gets, sender_of_message}
use Rattle.machine_model.specs.Runs.Matched.{Matched, is_waiting_for, waits_for}
use Rattle.machine_model.specs.State.Changes.{Outcome, Refused, Served, answering, replies, refused_or}
use Rattle.machine_model.specs.State.Machine.{Machine, Server, Thread}
use Rattle.machine_model.specs.State.Order.{ready_at}
use Rattle.xk_base.specs.Tables.Sids.{serial_of}
use Rattle.machine_model.specs.State.Servers.{change_server, messages_of}
use Rattle.machine_model.specs.State.Threads.{answer_to, both_answers, passed}
use Rattle.msg_queue.specs.Seats.{Seat, changed_at, message_of, of_number, message_place, seat_of, without_held as without_held_at}
use Rattle.msg_queue.specs.declared.held.Held.{Held}
use Rattle.server_table.proofs.Lemmas.{seats_differ}
use Rattle.server_table.specs.ServersOf.{servers_of}
use Rattle.server_table.specs.ServerState.{Server as TableServer, seat_view}
use Rattle.sv32_space.specs.Tie.{Held as HeldBytes}
use Rattle.syscall_codec.specs.Calls.{Asks}
use Rattle.syscall_codec.specs.declared.calls.Call.TheVariants.{ReturnMemory, ReturnScalar1, ReturnScalar2}
use Rattle.thread_table.specs.ThreadMap.{is_ready as is_table_ready}
use Rattle.thread_table.specs.Shown.{process_count, threads_of}
use Rattle.vm_memory.specs.Memory.{capacity_of, ledger}
use Rattle.xk_base.specs.Tables.Circle.{is_thread_id, same_thread}
use Rattle.xk_base.specs.Tables.Counting.{put_at}
use Rattle.syscall_codec.specs.ReplyWords.{plain_words, returned_words, scalar1_words, scalar2_words}
use Rattle.xk_base.specs.declared.errors.XousError.TheVariants.{BadAddress, DoubleFree}
use Rattle.xk_base.specs.declared.ids.Number.{Number}
use Rattle.xk_base.specs.declared.ids.Pid.{Pid}
use Rattle.xk_base.specs.declared.ids.Serial.{Serial}
use Rattle.xk_base.specs.declared.ids.ThreadId.{ThreadId}
use Rattle.xk_base.specs.declared.messages.Message.{Message}
use Rattle.xk_base.specs.declared.messages.MsgKind.{MsgKind}
use Rattle.xk_base.specs.declared.messages.MsgKind.TheVariants.{LendMut, Lend, Move, Scalar, BlockingScalar}
use Rattle.send_path.proofs.Taken.{CallParts, taken}
use Rattle.xk_parts.specs.Shown.{server_with, servers_shown, threads_shown}
use Rattle.send_path.specs.Rows.{IsServed, log_with, memory_row, scalar_row, table_row}
use Rattle.xk_parts.specs.Seats.{HasLoanIfLend, messages_at}
use Rattle.send_path.specs.Seats.{IsHeldAt, IsNotHeldAt}
use Rattle.xk_parts.specs.Sound.{AreLoansAt, AreLoansSound, AreSeatsSound, IsLoanOf, AreSound}
use Rattle.xk_parts.specs.Threads.{answered, changed_thread}
use Rattle.send_path.specs.declared.holding.HeldAt.{HeldAt}
use Rattle.send_path.proofs.Servers.HeldListLemmas.{find_shown, of_shown, others_fail, removed_shown}
use Rattle.send_path.proofs.Servers.HolderLemmas.{held_nowhere, held_otherwise, holder_is, message_is, none_elsewhere}
use Rattle.send_path.proofs.Rows.RowLemmas.{first_refuses, first_passes, served_so}
use Rattle.send_path.proofs.Servers.SeatLemmas.{seat_changed, seat_is_there, seat_other, server_changed, server_there}
use Rattle.send_path.proofs.Servers.SeatSearchLemmas.{IsShown, seat_found, shown_message}
use Rattle.send_path.proofs.Servers.SoundLemmas.{seats_changed}
use Rattle.xk_parts.proofs.ThreadLemmas.{ready_there}
use Rattle.xk_parts.specs.Parts.{machine_at}

-- ---- lists without one of the second part

removed_all : (P : Held → Type 0) (xs ys : List Held) (place : ℕ) → All P (xs ++ ys) → All P (xs ++ remove ys place)
removed_all P [] ys place a = All-append P (take place ys) (drop (suc place) ys) (All-take P place ys a) (All-drop P (suc place) ys a)
removed_all P (x ∷ xs) ys place a =
    All-cons P x (xs ++ remove ys place) (a zero x (omega arith))
    (removed_all P xs ys place (λ k d l. let low : k < length (xs ++ ys) = l in a (suc k) d (omega arith)))

found_one : (P : Held → Type 0) (test : Held → Bool) (zs : List Held) (h : Held) → All P zs → find test zs ≡ Some h → P h
found_one P test [] h b f = absurd (none-some h f)
found_one P test (z ∷ zs) h b f =
    by (found_one P test zs h (λ k d l. let low : k < length zs = l in b (suc k) d (omega arith))) (test z) f
  where
    by : (find test zs ≡ Some h → P h) → (t : Bool) → cond t (Some z) (find test zs) ≡ Some h → P h
    by rest true q = subst P (same_Some z h q) (b zero z (omega arith))
    by rest false q = rest q

-- one that is found in the second part
found_all : (P : Held → Type 0) (test : Held → Bool) (xs ys : List Held) (h : Held) → All P (xs ++ ys) → find test ys ≡ Some h → P h
found_all P test [] ys h a e = found_one P test ys h a e
found_all P test (x ∷ xs) ys h a e = found_all P test xs ys h (λ k d l. let low : k < length (xs ++ ys) = l in a (suc k) d (omega arith)) e

module _ {W : Type 0} (S : SwapStore W) (who : ThreadId) (old : CallParts W) (sound : AreSound S who (taken old))
    (ready : is_table_ready (threads_of old.tables.threads who) ≡ true) (number : Number) where
  abbrev seats : List Seat
  seats = old.tables.queues

  abbrev m0 : Machine
  m0 = machine_at S.held who (taken old) sound.machine

  abbrev of_it : Message → Bool
  of_it = is_of_number number

  pub is_ready : ready_at m0 who ≡ true
  unfolding machine_at
  is_ready = ready_there (threads_of old.tables.threads who) ready

  pub caller_ready : ready_at m0 m0.cursor ≡ true
  unfolding machine_at
  caller_ready = ready_there (threads_of old.tables.threads who) ready

  -- what comes of the calls keeps the machine matched
  pub memory_keeps : (address size offset valid : ℕ) → Keeps m0 (memory_row number address size offset valid m0)
  unfolding return_memory_call
  memory_keeps address size offset valid =
      return_keeps m0 sound.matched caller_ready (0 ∷ number.0 ∷ address ∷ size ∷ offset ∷ valid ∷ [])

  pub row_keeps : (words : List ℕ) → Keeps m0 (scalar_row number words m0)
  row_keeps words = scalar_keeps m0 (0 ∷ number.0 ∷ []) sound.matched caller_ready words

  -- the same server holds it, whatever the rest of the machine is
  pub holder_alike : (m : Machine) (test : Message → Bool) → holder_of (machine_at S.held who (taken old) m) test ≡ holder_of m0 test
  unfolding machine_at holder_of
  holder_alike m test = refl

  pub held_alike : (m : Machine) (test : Message → Bool) → held_by_caller (machine_at S.held who (taken old) m) test ≡ held_by_caller m0 test
  unfolding machine_at holder_of
  held_alike m test = refl

  -- ---- none is held

  module _ (none : (seat : ℕ) → IsNotHeldAt who.pid number (servers_of old.tables.servers) seats seat) (kind : Message → Bool) where
    pub none_held : held_by_caller m0 (λ x. of_it x && kind x) ≡ None
    unfolding machine_at
    none_held = held_nowhere m0 sound.matched number kind (λ n other e own. at n other ((servers_of old.tables.servers).live n) refl e own)
      where
        at : (n : ℕ) (other : Server) (o : Option TableServer) → (servers_of old.tables.servers).live n ≡ o
            → option_map (λ v. server_with (seat_of seats v.seat) v) o ≡ Some other → (other.pid.0 == who.pid.0) ≡ true
            → find of_it other.held ≡ None
        at n other None p e own = absurd (none-some other e)
        at n other (Some v) p e own =
            let same : server_with (seat_of seats v.seat) v ≡ other = same_Some (server_with (seat_of seats v.seat) v) other e in
            ap (λ (s : Server). find of_it s.held) (sym same)
            ∙ find_shown of_it (seat_of seats v.seat).held
            ∙ ap (option_map message_of) (none v.seat (seat_view n v) (seat_found old.tables.servers n v p)
            (eqb-true v.pid.0 who.pid.0 (ap (λ (s : Server). s.pid.0 == who.pid.0) same ∙ own)))

  -- ---- one is held

  module _ (at : HeldAt) (its : IsHeldAt who.pid number (servers_of old.tables.servers) seats at) where
    abbrev k : ℕ
    k = at.serial.0

    abbrev seat : Seat
    seat = seat_of seats at.seat

    abbrev server : Server
    server = server_with seat its.seat.server

    live : m0.servers k ≡ Some server
    unfolding machine_at
    live = server_there old.tables.servers seats k at.seat its.seat sound.seats.all

    own : (server.pid.0 == m0.cursor.pid.0) ≡ true
    unfolding machine_at
    own = eq-eqb its.seat.server.pid.0 who.pid.0 its.own

    found : find of_it server.held ≡ Some at.message
    found = find_shown of_it seat.held ∙ its.message

    pub shown : IsShown (of_number number seat.held) at.message
    shown = shown_message (of_number number seat.held) at.message its.message

    module _ (kind : Message → Bool) where
      pub other_kind : kind at.message ≡ false → held_by_caller m0 (λ x. of_it x && kind x) ≡ None
      other_kind = held_otherwise m0 sound.matched number kind k server live own at.message found

      pub its_kind : kind at.message ≡ true → held_by_caller m0 (λ x. of_it x && kind x) ≡ Some at.message
      its_kind = message_is m0 sound.matched number kind k server live own at.message found

      pub its_holder : kind at.message ≡ true → holder_of m0 (λ x. of_it x && kind x) ≡ Some (serial_of k)
      its_holder = holder_is m0 sound.matched number kind k server live own at.message found

    place : (j : ℕ) × (d : Message) × (j < length server.held) × (get_or server.held j d ≡ at.message) × (of_it at.message ≡ true)
    place = found_at of_it server.held at.message found

    pub message_number : at.message.number ≡ number
    message_number = λ i. record { 0 = eqb-true at.message.number.0 number.0 place.4 i }

    its_number : (get_or server.held place.0 place.1).number ≡ number
    its_number = ap (λ (y : Message). y.number) place.3 ∙ message_number

    -- its sender is another thread
    pub sender_fits : (o : Option ThreadId) → at.message.sender ≡ o
        → IfSome o (λ id. (is_thread_id (process_count old.tables.threads) id ≡ true) × (same_thread who id ≡ false))
    unfolding machine_at
    sender_fits None e = tt
    sender_fits (Some id) e = (known, apart (same_thread who id) refl)
      where
        waits : waits_for m0.threads id (get_or server.held place.0 place.1).number ≡ true
        waits =
            all_right (λ y. (w : ThreadId) → y.sender ≡ Some w → waits_for m0.threads w y.number ≡ true) server.queued server.held
            (senders_wait m0 sound.matched k server live) place.0 place.1 place.2 id (ap (λ (y : Message). y.sender) place.3 ∙ e)

        there : (t : Thread) × (m0.threads id ≡ Some t) × (is_waiting_for (get_or server.held place.0 place.1).number t.state ≡ true)
        there = waiting_thread m0 sound.matched id (get_or server.held place.0 place.1).number waits

        known : is_thread_id (process_count old.tables.threads) id ≡ true
        known = sound.matched.body.ids.known id there.0 there.1

        caller : IsReadyThread m0 who
        caller = ready_thread m0 who is_ready

        apart : (b : Bool) → same_thread who id ≡ b → b ≡ false
        apart false q = refl
        apart true q =
            let same : caller.thread ≡ there.0 = same_Some caller.thread there.0 (sym caller.there ∙ ap m0.threads (alike who id q) ∙ there.1) in
            absurd (false≢true (sym (ap (is_waiting_for (get_or server.held place.0 place.1).number) (sym (ap (λ (t : Thread). t.state) same) ∙ caller.ready)) ∙ there.2))

    -- ---- what is left of the seat

    pub apart_held : count_in of_it (map message_of seat.held) ≤ 1
    apart_held = held_apart m0.servers sound.matched.body.servers.numbers k server live number

    pub left_shown : server_with (without_held_at number seat) its.seat.server ≡ without_held number (server_with seat its.seat.server)
    left_shown = λ i. record {
      sid = its.seat.server.sid;
      pid = its.seat.server.pid;
      queued = map message_of seat.queued;
      held = removed_shown of_it seat.held apart_held i;
    }

    pub seats_left : AreSeatsSound (servers_of old.tables.servers) (changed_at at.seat (without_held_at number) seats)
    seats_left =
        seats_changed old.tables.servers seats k at.seat sound.seats its.seat (without_held_at number)
        (removed_all HasLoanIfLend seat.queued seat.held (message_place number seat.held) (sound.seats.loans at.seat))

    -- ---- the outcome

    abbrev replied : List ℕ → ThreadId → Option (List ℕ)
    replied words = both_answers (answer_to who plain_words) (sender_gets words at.message.sender)

    -- the message was given back, with this ledger and these words
    pub record GaveBack (new : CallParts W) (l : Ledger) (words : List ℕ) : Type 0 where
      pub threads : threads_shown new.tables.threads ≡ answered (replied words) (changed_thread who passed (threads_shown old.tables.threads))
      pub log : new.tables.log ≡ log_with (replies (process_count old.tables.threads) (replied words)) old.tables.log
      pub procs : process_count new.tables.threads ≡ process_count old.tables.threads
      pub servers : new.tables.servers ≡ old.tables.servers
      pub queues : new.tables.queues ≡ changed_at at.seat (without_held_at number) seats
      pub capacity : capacity_of new.mem ≡ capacity_of old.mem
      pub ledger : ledger S.held new.mem ≡ l

    abbrev next : Machine → Ledger → Machine
    next m l = record (change_server (serial_of k) (without_held number) (machine_at S.held who (taken old) m)) { ledger = l }

    module _ (new : CallParts W) (l : Ledger) (words : List ℕ) (g : GaveBack new l words) where
      left : servers_shown new.tables.servers new.tables.queues
          ≡ put_at nat_eq (servers_shown old.tables.servers seats) k (option_map (without_held number) (servers_shown old.tables.servers seats k))
      left =
          (λ i. servers_shown (g.servers i) (g.queues i))
          ∙ server_changed old.tables.servers seats k at.seat its.seat sound.seats.all (without_held_at number) (without_held number) left_shown

      pub gave_back : (m : Machine) (row : Outcome) → row ≡ Served (answering (replied words) (next m l))
          → IsServed row (machine_at S.held who (taken old) m) (machine_at S.held who (taken new) m) old.tables.log new.tables.log
      unfolding machine_at
      gave_back m row is =
          served_so (machine_at S.held who (taken old) m) (next m l) (machine_at S.held who (taken new) m) (replied words) row old.tables.log new.tables.log is
          (λ i. record m {
            processes = g.procs i;
            cursor = who;
            threads = g.threads i;
            servers = left i;
            next_serial = (servers_of (g.servers i)).next;
            capacity = g.capacity i;
            ledger = g.ledger i;
          })
          g.log

    -- ---- the loans of the others

    abbrev Others : Held → Type 0
    Others h = of_it h.msg ≡ false

    others_here : All Others (messages_at (without_held_at number seat))
    others_here =
        All-append Others seat.queued (remove seat.held (message_place number seat.held))
        (of_shown (λ x. of_it x ≡ false) seat.queued (none_pass of_it (map message_of seat.queued) not_queued))
        (of_shown (λ x. of_it x ≡ false) (remove seat.held (message_place number seat.held)) (others_fail of_it seat.held apart_held))
      where
        not_queued : count_in of_it (map message_of seat.queued) ≡ 0
        not_queued =
            subst (λ (n : Number). count_in (is_of_number n) server.queued ≡ 0) its_number
            (held_not_queued m0.servers sound.matched.body.servers.numbers k server live place.0 place.1 place.2)

    others_there : (n : ℕ) (v : TableServer) → (servers_of old.tables.servers).live n ≡ Some v → n ≢ k → All Others (messages_at (seat_of seats v.seat))
    unfolding machine_at
    others_there n v e ne =
        of_shown (λ x. of_it x ≡ false) (messages_at (seat_of seats v.seat))
        (subst (All (λ x. of_it x ≡ false)) (sym (map-append message_of (seat_of seats v.seat).queued (seat_of seats v.seat).held))
        (none_pass of_it (messages_of (server_with (seat_of seats v.seat) v))
        (sym (ap (λ o. count_at of_it (option_map (λ (w : TableServer). server_with (seat_of seats w.seat) w) o)) e)
        ∙ none_elsewhere m0 sound.matched number (λ x. true) k server live own at.message found n ne)))

    loans_kept : (l : Ledger) → ((run : LoanRun) → same_number run.number number ≡ false → Stands (loans (ledger S.held old.mem)) run → Stands (loans l) run)
        → (pid : Pid) (hs : List Held) → All Others hs
        → All (λ h. (run : LoanRun) → h.loan ≡ Some run → IsLoanOf (loans (ledger S.held old.mem)) pid h.msg run) hs
        → All (λ h. (run : LoanRun) → h.loan ≡ Some run → IsLoanOf (loans l) pid h.msg run) hs
    loans_kept l keeps pid hs others all i d low run e =
        let was : IsLoanOf (loans (ledger S.held old.mem)) pid (get_or hs i d).msg run = all i d low run e in
        record {
          stands = keeps run (ap (λ (n : Number). same_number n number) was.number ∙ others i d low) was.stands;
          number = was.number;
          kind = was.kind;
          first = was.first;
          count = was.count;
          lender = was.lender;
        }

    pub loans_left : (l : Ledger) → ((run : LoanRun) → same_number run.number number ≡ false → Stands (loans (ledger S.held old.mem)) run → Stands (loans l) run)
        → AreLoansSound (loans l) (servers_of old.tables.servers) (changed_at at.seat (without_held_at number) seats)
    loans_left l keeps n v e = go (nat_eq n k) refl
      where
        here : n ≡ k → AreLoansAt (loans l) v.pid (seat_of (changed_at at.seat (without_held_at number) seats) v.seat)
        here same =
            let is : v ≡ its.seat.server = same_Some v its.seat.server (sym e ∙ ap (servers_of old.tables.servers).live same ∙ its.seat.live) in
            let at_its : v.seat ≡ at.seat = ap (λ (w : TableServer). w.seat) is ∙ its.seat.its in
            subst (λ s. AreLoansAt (loans l) v.pid s)
            (sym (ap (seat_of (changed_at at.seat (without_held_at number) seats)) at_its
            ∙ seat_changed seats at.seat (without_held_at number) (seat_is_there old.tables.servers seats k at.seat its.seat sound.seats.all)))
            (loans_kept l keeps v.pid (messages_at (without_held_at number seat)) others_here
            (removed_all (λ h. (run : LoanRun) → h.loan ≡ Some run → IsLoanOf (loans (ledger S.held old.mem)) v.pid h.msg run) seat.queued seat.held
            (message_place number seat.held)
            (subst (λ j. AreLoansAt (loans (ledger S.held old.mem)) v.pid (seat_of seats j)) at_its (sound.loans n v e))))

        there : n ≢ k → AreLoansAt (loans l) v.pid (seat_of (changed_at at.seat (without_held_at number) seats) v.seat)
        there ne =
            subst (λ s. AreLoansAt (loans l) v.pid s)
            (sym (seat_other seats at.seat v.seat (without_held_at number)
            (λ same. ne (seats_differ old.tables.servers n k v its.seat.server e its.seat.live (same ∙ sym its.seat.its)))))
            (loans_kept l keeps v.pid (messages_at (seat_of seats v.seat)) (others_there n v e ne) (sound.loans n v e))

        go : (b : Bool) → nat_eq n k ≡ b → AreLoansAt (loans l) v.pid (seat_of (changed_at at.seat (without_held_at number) seats) v.seat)
        go true q = here (eqb-true n k q)
        go false q = there (λ same. false≢true (sym q ∙ eq-eqb n k same))

    -- the loan of the message
    pub its_loan : (run : LoanRun) → shown.held.loan ≡ Some run → IsLoanOf (loans (ledger S.held old.mem)) its.seat.server.pid shown.held.msg run
    its_loan =
        found_all (λ h. (run : LoanRun) → h.loan ≡ Some run → IsLoanOf (loans (ledger S.held old.mem)) its.seat.server.pid h.msg run)
        (λ h. of_it h.msg) seat.queued seat.held shown.held
        (subst (λ j. AreLoansAt (loans (ledger S.held old.mem)) its.seat.server.pid (seat_of seats j)) its.seat.its (sound.loans k its.seat.server its.seat.live))
        shown.is

    pub has_loan : is_some shown.held.loan ≡ is_lend at.message.kind
    has_loan =
        found_all HasLoanIfLend (λ h. of_it h.msg) seat.queued seat.held shown.held (sound.seats.loans at.seat) shown.is
        ∙ ap (λ (x : Message). is_lend x.kind) shown.message

    pub loan_number : (run : LoanRun) → shown.held.loan ≡ Some run → run.number ≡ number
    loan_number run e = (its_loan run e).number ∙ ap (λ (x : Message). x.number) shown.message ∙ message_number

    -- ---- matched still

    pub still_matched : (new : CallParts W) (row : Outcome) → Keeps m0 row
        → IsServed row m0 (machine_at S.held who (taken new) sound.machine) old.tables.log new.tables.log
        → Matched (machine_at S.held who (taken new) (record sound.machine { steps = sound.machine.steps + 1 }))
    unfolding machine_at
    still_matched new row keeps served =
        subst (λ (x : Machine). Matched (record x { steps = sound.machine.steps + 1 })) (sym served.machine) keeps

-- ---- the rows

module _ {W : Type 0} (held : W → HeldBytes) (who : ThreadId) (old : CallParts W) (m0 : Machine) (number : Number)
    (alike : (m : Machine) (test : Message → Bool) → held_by_caller (machine_at held who (taken old) m) test ≡ held_by_caller m0 test) where
  pub scalar_refused : (words : List ℕ) (m : Machine) → held_by_caller m0 (is_blocking_of number) ≡ None
      → scalar_row number words (machine_at held who (taken old) m) ≡ Refused DoubleFree
  scalar_refused words m none =
      first_refuses (is_none (held_by_caller (machine_at held who (taken old) m) (is_blocking_of number))) DoubleFree
      (Served (return_scalar_served (machine_at held who (taken old) m) number words)) (ap is_none (alike m (is_blocking_of number) ∙ none))

  module _ (address size offset valid : ℕ) (m : Machine) where
    abbrev refused_so : Bool → Bool → Outcome
    refused_so a b =
        refused_or (if a then Some DoubleFree else (if b then Some BadAddress else None))
        (Served (return_memory_served (machine_at held who (taken old) m) number offset valid))

    pub memory_refused : held_by_caller m0 (is_lend_of number) ≡ None
        → memory_row number address size offset valid (machine_at held who (taken old) m) ≡ Refused DoubleFree
    memory_refused none =
        ap (λ a. refused_so a (not (option_map_or (is_its_range address size) (held_by_caller (machine_at held who (taken old) m) (is_lend_of number)) false)))
        (ap is_none (alike m (is_lend_of number) ∙ none))

    pub memory_elsewhere : (x : Message) → held_by_caller m0 (is_lend_of number) ≡ Some x → is_its_range address size x ≡ false
        → memory_row number address size offset valid (machine_at held who (taken old) m) ≡ Refused BadAddress
    memory_elsewhere x its far =
        λ i. refused_so (is_none ((alike m (is_lend_of number) ∙ its) i))
        (not ((ap (λ o. option_map_or (is_its_range address size) o false) (alike m (is_lend_of number) ∙ its) ∙ far) i))

    pub memory_served : (x : Message) → held_by_caller m0 (is_lend_of number) ≡ Some x → is_its_range address size x ≡ true
        → memory_row number address size offset valid (machine_at held who (taken old) m)
        ≡ Served (return_memory_served (machine_at held who (taken old) m) number offset valid)
    memory_served x its near =
        λ i. refused_so (is_none ((alike m (is_lend_of number) ∙ its) i))
        (not ((ap (λ o. option_map_or (is_its_range address size) o false) (alike m (is_lend_of number) ∙ its) ∙ near) i))

  pub scalar_served : (words : List ℕ) (m : Machine) (x : Message) → held_by_caller m0 (is_blocking_of number) ≡ Some x
      → scalar_row number words (machine_at held who (taken old) m) ≡ Served (return_scalar_served (machine_at held who (taken old) m) number words)
  scalar_served words m x its =
      first_passes (is_none (held_by_caller (machine_at held who (taken old) m) (is_blocking_of number))) DoubleFree
      (Served (return_scalar_served (machine_at held who (taken old) m) number words)) (ap is_none (alike m (is_blocking_of number) ∙ its))

-- the change by the message and the server that are found
module _ {W : Type 0} (held : W → HeldBytes) (who : ThreadId) (old : CallParts W) (number : Number) (test : Message → Bool) (m : Machine)
    (x : Message) (serial : Serial) (message : held_by_caller (machine_at held who (taken old) m) test ≡ Some x)
    (holder : holder_of (machine_at held who (taken old) m) test ≡ Some serial) (words : List ℕ) where
  abbrev all : Machine
  all = machine_at held who (taken old) m

  pub change_is : Served (given_back all number test words)
      ≡ Served (answering (both_answers (answer_to who plain_words) (sender_gets words x.sender)) (record (change_server serial (without_held number) all) { ledger = ledger held old.mem }))
  unfolding machine_at
  change_is = λ i. Served (answering (both_answers (answer_to who plain_words) (sender_gets words (sender_of_message (message i))))
      (change_server (unwrap_or (holder i) (serial_of 0)) (without_held number) all))

-- the loan of another number stands when this one ends
pub others_stand : (l : Ledger) (number : Number) (run : LoanRun) → same_number run.number number ≡ false → Stands (loans l) run
    → Stands (loans (end_loan number l)) run
others_stand l number run other h =
    stands_still (loans l) (loans (end_loan number l)) run
    (end_loan_other number run.number l (λ same. false≢true (sym other ∙ eq-eqb run.number.0 number.0 (ap (λ (n : Number). n.0) same)))) h

pub blocking_no_lend : (kind : MsgKind) → is_blocking_scalar kind ≡ true → is_lend kind ≡ false
blocking_no_lend LendMut e = absurd (false≢true e)
blocking_no_lend Lend e = absurd (false≢true e)
blocking_no_lend Move e = refl
blocking_no_lend Scalar e = refl
blocking_no_lend BlockingScalar e = refl

module _ {W : Type 0} (held : W → HeldBytes) (who : ThreadId) (old : CallParts W) (number : Number) (m : Machine)
    (x : Message) (serial : Serial) (message : held_by_caller (machine_at held who (taken old) m) (is_lend_of number) ≡ Some x)
    (holder : holder_of (machine_at held who (taken old) m) (is_lend_of number) ≡ Some serial) (offset valid : ℕ) where
  pub memory_change_is : Served (return_memory_served (machine_at held who (taken old) m) number offset valid)
      ≡ Served (answering (both_answers (answer_to who plain_words) (sender_gets (returned_words offset valid) x.sender))
      (record (change_server serial (without_held number) (machine_at held who (taken old) m)) { ledger = end_loan number (ledger held old.mem) }))
  unfolding machine_at
  memory_change_is = λ i. Served (answering (both_answers (answer_to who plain_words) (sender_gets (returned_words offset valid) (sender_of_message (message i))))
      (record (change_server (unwrap_or (holder i) (serial_of 0)) (without_held number) (machine_at held who (taken old) m)) { ledger = end_loan number (ledger held old.mem) }))

-- ---- the rows of the call table

pub memory_is : (w : List ℕ) (token address size offset valid : ℕ) → Asks w (ReturnMemory token address size offset valid) → (m : Machine)
    → memory_row (record { 0 = token }) address size offset valid m ≡ table_row w m
unfolding return_memory_call
memory_is w token address size offset valid asks m =
    (λ i. memory_row (record { 0 = sym asks.1 i }) (sym asks.2 i) (sym asks.3 i) (sym asks.4 i) (sym asks.5 i) m)
    ∙ sym (ap (λ n. call_at n call_table m w) asks.0)

pub scalar1_is : (w : List ℕ) (token value : ℕ) → Asks w (ReturnScalar1 token value) → (m : Machine)
    → scalar_row (record { 0 = token }) (scalar1_words value) m ≡ table_row w m
unfolding return_scalar1_call
scalar1_is w token value asks m =
    (λ i. scalar_row (record { 0 = sym asks.1 i }) (scalar1_words (sym asks.2 i)) m) ∙ sym (ap (λ n. call_at n call_table m w) asks.0)

pub scalar2_is : (w : List ℕ) (token value1 value2 : ℕ) → Asks w (ReturnScalar2 token value1 value2) → (m : Machine)
    → scalar_row (record { 0 = token }) (scalar2_words value1 value2) m ≡ table_row w m
unfolding return_scalar2_call
scalar2_is w token value1 value2 asks m =
    (λ i. scalar_row (record { 0 = sym asks.1 i }) (scalar2_words (sym asks.2 i) (sym asks.3 i)) m)
    ∙ sym (ap (λ n. call_at n call_table m w) asks.0)
