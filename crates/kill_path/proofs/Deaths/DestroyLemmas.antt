-- The end of a server by its row, and what it leaves sound.
use Rattle.xk_ports.specs.declared.store.SwapStore.{Ghosts as SwapStore}
use Rattle.std.proofs.Common.{◌≡◌, ℕ, ◌+◌, ◌<◌, Bool, true, false, get_or, length, Option, Some, None, refl, sym, ap, subst, ◌∙◌}
use Rattle.std.specs.Prelude.{◌==◌, ◌||◌, ◌&&◌, IsSome, if◌then◌else◌}
use Rattle.std.specs.List.{list_any}
use Rattle.std.specs.Option.{option_map, option_map_or, option_or}
use Rattle.std.proofs.lemmas.Bool.{and_parts, eq-eqb, eqb-true, false≢true}
use Rattle.std.proofs.lemmas.Option.{same_Some}
use Rattle.ledger_model.specs.Loans.{loans}
use Rattle.machine_laws.proofs.Messaging.ListedLemmas.{PassingServer, listed_at, passing_server}
use Rattle.machine_laws.proofs.Serving.DestroyCallLemmas.{destroyed_keeps}
use Rattle.machine_laws.proofs.Threading.ThreadPutLemmas.{alike}
use Rattle.machine_model.proofs.Matching.MatchedLemmas.{senders_known}
use Rattle.machine_model.specs.Ending.Closing.{any_server, closed, destroyed, is_message_at, is_sender_at, refused_server}
use Rattle.machine_model.specs.Messaging.LoanSets.{end_loans}
use Rattle.machine_model.specs.Messaging.Messages.{is_sent_by}
use Rattle.machine_model.specs.Messaging.Receivers.{is_receiving as is_machine_receiving, receiving_at}
use Rattle.machine_model.specs.Runs.Matched.{IsServerAwaited, Matched}
use Rattle.machine_model.specs.State.Changes.{Served, answering, replies}
use Rattle.machine_model.specs.State.Machine.{Machine, Server, Thread}
use Rattle.machine_model.specs.State.Order.{ready_at}
use Rattle.machine_model.specs.State.Servers.{messages_of}
use Rattle.machine_model.specs.State.Threads.{Answers, answer_to, both_answers, passed}
use Rattle.msg_queue.specs.Seats.{seat_of}
use Rattle.send_path.proofs.Rows.RowLemmas.{served_so}
use Rattle.xk_parts.proofs.ThreadLemmas.{ready_id, ready_there}
use Rattle.send_path.proofs.Taken.{CallParts, taken}
use Rattle.xk_parts.specs.Shown.{server_of, server_with, servers_shown, state_of, thread_of, threads_shown}
use Rattle.send_path.specs.Rows.{IsServed, log_with}
use Rattle.xk_parts.specs.Threads.{answered, changed_thread}
use Rattle.server_table.specs.ServersOf.{servers_of}
use Rattle.server_table.specs.ServerState.{Server as TableServer}
use Rattle.thread_table.specs.States.{is_receiving_state}
use Rattle.thread_table.specs.ThreadMap.{is_ready as is_table_ready, is_receiving}
use Rattle.thread_table.specs.Shown.{process_count, threads_of}
use Rattle.thread_table.specs.declared.thread.Thread.{Thread as TableThread}
use Rattle.thread_table.specs.declared.thread.ThreadState.{ThreadState as TableState}
use Rattle.thread_table.specs.declared.thread.ThreadState.TheVariants as table
use Rattle.vm_memory.specs.Memory.{Size, capacity_of, ledger}
use Rattle.boot_plan.specs.Capacity.{capacity}
use Rattle.syscall_codec.specs.ReplyWords.{plain_words, refused_words}
use Rattle.xk_base.specs.Tables.Circle.{is_pid, is_thread_id, is_tid, same_thread}
use Rattle.xk_base.specs.Tables.Counting.{put_at}
use Rattle.xk_base.specs.declared.errors.XousError.TheVariants.{ServerNotFound}
use Rattle.xk_base.specs.declared.ids.Pid.{Pid}
use Rattle.xk_base.specs.declared.ids.Serial.{Serial}
use Rattle.xk_base.specs.declared.ids.ThreadId.{ThreadId}
use Rattle.xk_base.specs.declared.messages.Message.{Message}
use Rattle.kill_path.specs.Closing.{AreClosed, closable}
use Rattle.kill_path.specs.Keeping.{Stays}
use Rattle.xk_parts.specs.Sound.{AreOpen, AreSound}
use Rattle.kill_path.specs.Rows.{destroy_row}
use Rattle.kill_path.specs.Telling.{is_receiver_of, told_to}
use Rattle.kill_path.specs.ThreadSets.{ThreadSet, nobody}
use Rattle.kill_path.proofs.FitLemmas.{few_processes, known_of_all, known_pid_of_all, open_loans}
use Rattle.xk_parts.specs.Parts.{machine_at}

-- ---- the change

abbrev destroy_answers : Serial → Machine → Answers
destroy_answers s m =
    both_answers (answer_to m.cursor plain_words) (both_answers (refused_server (is_sender_at (λ n. n == s.0) m)) (refused_server (receiving_at m s)))

abbrev without : Serial → Machine → Machine
without s m = record m {
  ledger = end_loans (is_message_at (λ n. n == s.0) m) m.ledger;
  servers = λ n. if n == s.0 then None else m.servers n;
}

destroy_is : (s : Serial) (m : Machine) → destroy_row s m ≡ Served (answering (destroy_answers s m) (without s m))
unfolding destroyed closed
destroy_is s m = refl

-- ---- receivers

record WaitsThere (serial : Serial) (state : TableState) : Type 0 where
  at : Serial
  state_is : state ≡ table.Receiving at
  same : at.0 ≡ serial.0

waits_there : (serial : Serial) (state : TableState) → is_receiving_state serial state ≡ true → WaitsThere serial state
waits_there serial table.Ready e = absurd (false≢true e)
waits_there serial (table.Receiving at) e = record { at = at; state_is = refl; same = eqb-true at.0 serial.0 e }
waits_there serial (table.Waiting number) e = absurd (false≢true e)
waits_there serial (table.Joining tid) e = absurd (false≢true e)
waits_there serial table.Idle e = absurd (false≢true e)

receiving_shown : (serial : Serial) (o : Option TableThread)
    → option_map_or (λ (t : Thread). is_machine_receiving serial t.state) (option_map thread_of o) false ≡ is_receiving serial o
receiving_shown serial None = refl
receiving_shown serial (Some t) = go t.state
  where
    go : (state : TableState) → is_machine_receiving serial (state_of state) ≡ is_receiving_state serial state
    go table.Ready = refl
    go (table.Receiving at) = refl
    go (table.Waiting number) = refl
    go (table.Joining tid) = refl
    go table.Idle = refl

-- ---- answers

told_at : (same receives sends : Bool)
    → (if ((if same then true else false) || receives) || sends then Some (if same then plain_words else refused_words ServerNotFound) else None)
    ≡ option_or (if same then Some plain_words else None)
    (option_or (if sends then Some (refused_words ServerNotFound) else None) (if receives then Some (refused_words ServerNotFound) else None))
told_at true true true = refl
told_at true true false = refl
told_at true false true = refl
told_at true false false = refl
told_at false true true = refl
told_at false true false = refl
told_at false false true = refl
told_at false false false = refl

module _ {W : Type 0} (S : SwapStore W) (who : ThreadId) (old : CallParts W) (sound : AreSound S who (taken old))
    (ready : is_table_ready (threads_of old.tables.threads who) ≡ true) (s : Serial) (v : TableServer)
    (live : (servers_of old.tables.servers).live s.0 ≡ Some v) where
  abbrev m0 : Machine
  m0 = machine_at S.held who (taken old) sound.machine

  abbrev n : ℕ
  n = process_count old.tables.threads

  caller_ready : ready_at m0 m0.cursor ≡ true
  unfolding machine_at
  caller_ready = ready_there (threads_of old.tables.threads who) ready

  pub caller_known : is_thread_id 64 who ≡ true
  caller_known = known_of_all n who (few_processes S who old sound) (ready_id old.tables.threads who ready)

  shown_live : m0.servers s.0 ≡ Some (server_with (seat_of old.tables.queues v.seat) v)
  unfolding machine_at
  shown_live = ap (option_map (server_of old.tables.queues)) live

  pub owner_known : is_pid 64 v.pid.0 ≡ true
  unfolding machine_at
  owner_known =
      known_pid_of_all n v.pid.0 (few_processes S who old sound)
      (sound.matched.body.processes.pids v.pid
      (sound.matched.body.servers.living s.0 (server_with (seat_of old.tables.queues v.seat) v) shown_live))

  -- ---- who receives there

  record Receives (id : ThreadId) : Type 0 where
    valid : is_thread_id n id ≡ true
    own : (id.pid.0 == v.pid.0) ≡ true

  receives : (id : ThreadId) → is_receiving s (threads_of old.tables.threads id) ≡ true → Receives id
  unfolding machine_at
  receives id e = go (threads_of old.tables.threads id) refl e
    where
      go : (o : Option TableThread) → threads_of old.tables.threads id ≡ o → is_receiving s o ≡ true → Receives id
      go None q r = absurd (false≢true r)
      go (Some t) q r =
          let w : WaitsThere s t.state = waits_there s t.state r in
          let there : threads_shown old.tables.threads id ≡ Some (thread_of t) = ap (option_map thread_of) q in
          let awaited : IsServerAwaited (servers_shown old.tables.servers old.tables.queues) id.pid w.at =
          sound.matched.body.receivers id (thread_of t) w.at there (ap state_of w.state_is) in
          let its : awaited.server ≡ server_with (seat_of old.tables.queues v.seat) v =
          same_Some awaited.server (server_with (seat_of old.tables.queues v.seat) v)
          (sym awaited.live ∙ ap (servers_shown old.tables.servers old.tables.queues) w.same ∙ shown_live) in
          record {
            valid = sound.matched.body.ids.known id (thread_of t) there;
            own = eq-eqb id.pid.0 v.pid.0 (ap (λ (p : Pid). p.0) (sym awaited.own) ∙ ap (λ (x : Server). x.pid.0) its);
          }

  receiver_is : (id : ThreadId) → is_receiver_of v.pid s (threads_of old.tables.threads) id ≡ is_receiving s (threads_of old.tables.threads id)
  receiver_is id = go (is_receiving s (threads_of old.tables.threads id)) refl
    where
      and_false : (b : Bool) → (b && false) ≡ false
      and_false true = refl
      and_false false = refl

      go : (b : Bool) → is_receiving s (threads_of old.tables.threads id) ≡ b → ((id.pid.0 == v.pid.0) && (is_tid id.tid.0 && b)) ≡ b
      go true e =
          let r : Receives id = receives id e in
          (λ i. r.own i && ((and_parts (is_pid n id.pid.0) (is_tid id.tid.0) r.valid).1 i && true))
      go false e = ap (λ b. (id.pid.0 == v.pid.0) && b) (and_false (is_tid id.tid.0)) ∙ and_false (id.pid.0 == v.pid.0)

  -- ---- who is noted

  abbrev first : ThreadSet
  first = put_at same_thread nobody who true

  abbrev second : ThreadSet
  second id = first id || is_receiver_of v.pid s (threads_of old.tables.threads) id

  -- the caller and the receivers, as the code notes them
  pub first_noted : (pid : Pid) (zero one two : ThreadSet) → option_map (λ (w : TableServer). w.pid) ((servers_of old.tables.servers).live s.0) ≡ Some pid
      → zero ≡ nobody → one ≡ put_at same_thread zero who true
      → two ≡ (λ id. one id || is_receiver_of pid s (threads_of old.tables.threads) id) → two ≡ second
  first_noted pid zero one two owner a b c =
      c ∙ (λ i id. (b ∙ ap (λ set. put_at same_thread set who true) a) i id || is_receiver_of (sym same i) s (threads_of old.tables.threads) id)
    where
      same : v.pid ≡ pid
      same = same_Some v.pid pid (sym (ap (option_map (λ (w : TableServer). w.pid)) live) ∙ owner)

  pub its_owner : (pid : Pid) → option_map (λ (w : TableServer). w.pid) ((servers_of old.tables.servers).live s.0) ≡ Some pid → is_pid 64 pid.0 ≡ true
  its_owner pid owner = subst (λ (p : Pid). is_pid 64 p.0 ≡ true) (same_Some v.pid pid (sym (ap (option_map (λ (w : TableServer). w.pid)) live) ∙ owner)) owner_known

  module _ (new : CallParts W) (noted : ThreadSet)
      (is_closed : AreClosed (λ k. k == s.0)
      (closable (ledger S.held old.mem) old.tables.servers old.tables.queues second)
      (closable (ledger S.held new.mem) new.tables.servers new.tables.queues noted)) where
    noted_is : (m : Machine) (id : ThreadId) → noted id ≡ (second id || is_sender_at (λ k. k == s.0) (machine_at S.held who (taken old) m) id)
    unfolding any_server machine_at
    noted_is m id = is_closed.noted m id

    -- a sender is a thread
    sender_known : (id : ThreadId) → is_sender_at (λ k. k == s.0) m0 id ≡ true → is_thread_id n id ≡ true
    unfolding machine_at
    sender_known id e = by_sender (get_or (messages_of at.server) place.0 place.1).sender refl place.3
      where
        at : PassingServer m0 (λ k server. (k == s.0) && list_any (is_sent_by id) (messages_of server))
        at = passing_server m0 _ e

        place : (j : ℕ) × (d : Message) × (j < length (messages_of at.server)) × (is_sent_by id (get_or (messages_of at.server) j d) ≡ true)
        place = listed_at (is_sent_by id) (messages_of at.server) (and_parts (at.serial == s.0) (list_any (is_sent_by id) (messages_of at.server)) at.passes).1

        by_sender : (o : Option ThreadId) → (get_or (messages_of at.server) place.0 place.1).sender ≡ o → option_map_or (same_thread id) o false ≡ true
            → is_thread_id n id ≡ true
        by_sender None q r = absurd (false≢true r)
        by_sender (Some w) q r =
            ap (is_thread_id n) (alike id w r)
            ∙ senders_known m0 sound.matched at.serial at.server at.live place.0 place.1 place.2 w q

    pub noted_known : (id : ThreadId) → noted id ≡ true → is_thread_id n id ≡ true
    noted_known id e = by_parts (same_thread id who) refl (is_receiver_of v.pid s (threads_of old.tables.threads) id) refl
        (is_sender_at (λ k. k == s.0) m0 id) refl (sym (noted_is sound.machine id) ∙ e)
      where
        by_parts : (a : Bool) → same_thread id who ≡ a → (b : Bool) → is_receiver_of v.pid s (threads_of old.tables.threads) id ≡ b
            → (c : Bool) → is_sender_at (λ k. k == s.0) m0 id ≡ c → (((if a then true else false) || b) || c) ≡ true → is_thread_id n id ≡ true
        by_parts true p b q c r x = ap (is_thread_id n) (alike id who p) ∙ ready_id old.tables.threads who ready
        by_parts false p true q c r x = (receives id (sym (receiver_is id) ∙ q)).valid
        by_parts false p false q true r x = sender_known id r
        by_parts false p false q false r x = absurd (false≢true x)

    -- .. and each is answered as by the row
    told_so : (m : Machine) → told_to (Some who) noted ≡ destroy_answers s (machine_at S.held who (taken old) m)
    unfolding machine_at
    told_so m = λ i id. (
        ap (λ b. if b then Some (if same_thread id who then plain_words else refused_words ServerNotFound) else None) (noted_is m id)
        ∙ told_at (same_thread id who) (is_receiver_of v.pid s (threads_of old.tables.threads) id) (is_sender_at (λ k. k == s.0) (machine_at S.held who (taken old) m) id)
        ∙ ap (λ b. option_or (if same_thread id who then Some plain_words else None)
        (option_or (if is_sender_at (λ k. k == s.0) (machine_at S.held who (taken old) m) id then Some (refused_words ServerNotFound) else None)
        (if b then Some (refused_words ServerNotFound) else None)))
        (receiver_is id ∙ sym (receiving_shown s (threads_of old.tables.threads id)))) i

    module _ (threads : threads_shown new.tables.threads ≡ answered (told_to (Some who) noted) (changed_thread who passed (threads_shown old.tables.threads)))
        (log : new.tables.log ≡ log_with (replies n (told_to (Some who) noted)) old.tables.log)
        (count : process_count new.tables.threads ≡ n)
        (stays : Stays S old.mem new.mem)
        (now_open : AreOpen (loans (ledger S.held new.mem)) new.tables.servers new.tables.queues) where
      ledger_left : (m : Machine) → ledger S.held new.mem ≡ end_loans (is_message_at (λ k. k == s.0) (machine_at S.held who (taken old) m)) (ledger S.held old.mem)
      unfolding any_server machine_at
      ledger_left m = is_closed.ledger m

      same_capacity : capacity_of new.mem ≡ capacity_of old.mem
      same_capacity = ap (λ (z : Size). capacity z.area.frames z.procs z.slots) stays.keeps.size

      pub destroyed_row : (m : Machine) → IsServed (destroy_row s (machine_at S.held who (taken old) m)) (machine_at S.held who (taken old) m) (machine_at S.held who (taken new) m)
          old.tables.log new.tables.log
      unfolding machine_at
      destroyed_row m =
          served_so (machine_at S.held who (taken old) m) (without s (machine_at S.held who (taken old) m)) (machine_at S.held who (taken new) m)
          (destroy_answers s (machine_at S.held who (taken old) m)) (destroy_row s (machine_at S.held who (taken old) m)) old.tables.log new.tables.log
          (destroy_is s (machine_at S.held who (taken old) m))
          (λ i. record m {
            processes = count i;
            cursor = who;
            threads = (threads ∙ ap (λ a. answered a (changed_thread who passed (threads_shown old.tables.threads))) (told_so m)) i;
            servers = λ k. is_closed.servers k i;
            next_serial = is_closed.next i;
            capacity = same_capacity i;
            ledger = ledger_left m i;
          })
          (log ∙ ap (λ a. log_with (replies n a) old.tables.log) (told_so m))

      pub destroyed_sound : AreSound S who (taken new)
      unfolding machine_at
      destroyed_sound = record {
        machine = record sound.machine { steps = sound.machine.steps + 1 };
        matched = still (destroyed_row sound.machine);
        mem = stays.sound;
        processes = count ∙ sound.processes ∙ sym (ap (λ (z : Size). z.procs) stays.keeps.size);
        procs = tt;
        seats = now_open.seats;
        loans = open_loans (loans (ledger S.held new.mem)) new.tables.servers new.tables.queues now_open;
      }
        where
          still : IsServed (destroy_row s m0) m0 (machine_at S.held who (taken new) sound.machine) old.tables.log new.tables.log
              → Matched (machine_at S.held who (taken new) (record sound.machine { steps = sound.machine.steps + 1 }))
          still served =
              subst (λ (x : Machine). Matched (record x { steps = sound.machine.steps + 1 })) (sym served.machine) (destroyed_keeps m0 sound.matched caller_ready s)

-- a live server is there
pub record IsThere (o : Option TableServer) : Type 0 where
  pub server : TableServer
  pub live : o ≡ Some server

pub live_there : (o : Option TableServer) → IsSome o → IsThere o
live_there None e = absurd (false≢true e)
live_there (Some v) e = record { server = v; live = refl }
