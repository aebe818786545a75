-- A process dies: what its death makes of the parts is what the machine makes, and they stay sound.
use Rattle.xk_ports.specs.declared.store.SwapStore.{Ghosts as SwapStore}
use Rattle.std.proofs.Common.{◌≡◌, ℕ, ◌≤◌, ◌<◌, Bool, true, false, List, get_or, length, nat_eq, Option, Some, None, refl, sym, ap, subst, ◌∙◌}
use Rattle.std.specs.Prelude.{◌==◌, ◌&&◌, IsTrue, if◌then◌else◌, is_some}
use Rattle.std.specs.List.{list_any}
use Rattle.std.specs.Option.{option_map, option_map_or}
use Rattle.std.proofs.lemmas.Bool.{and_parts, eq-eqb, false≢true}
use Rattle.boot_plan.specs.Capacity.{capacity}
use Rattle.irq_claims.specs.ClaimMap.{ClaimMap, end_claims}
use Rattle.irq_claims.specs.ClaimsOf.{claims_of}
use Rattle.irq_claims.specs.declared.claims.Claims.{Claims}
use Rattle.ledger_model.proofs.Stepping.RemovingLemmas.{forget_loans}
use Rattle.ledger_model.specs.Ledger.{Ledger, Orphan}
use Rattle.ledger_model.specs.Loans.{Loans, loans}
use Rattle.ledger_model.specs.Steps.{forget}
use Rattle.machine_laws.proofs.Dying.DeathForgetLemmas.{IsForgettable}
use Rattle.machine_laws.proofs.Dying.DeathLemmas.{death_matched, last_forgettable, second}
use Rattle.machine_laws.proofs.Messaging.ListedLemmas.{PassingServer, listed_at, passing_server}
use Rattle.machine_laws.proofs.Threading.ThreadPutLemmas.{alike}
use Rattle.machine_model.proofs.Matching.MatchedLemmas.{senders_known}
use Rattle.machine_model.specs.Ending.Closing.{any_server, closed, is_held_from, is_message_at, is_queued_from, is_sender_at, refused_server, senders_held_gone, senders_queued_gone, server_passes, servers_closed, with_senderless_from, without_queued_from}
use Rattle.machine_model.specs.Ending.Ends.{dead_process, death, forgotten}
use Rattle.machine_model.specs.Messaging.LoanSets.{end_loans, orphan_loans}
use Rattle.machine_model.specs.Messaging.Messages.{is_of_number, is_sent_by, is_sent_from}
use Rattle.machine_model.specs.Runs.Matched.{Matched}
use Rattle.machine_model.specs.State.Changes.{replies, settled}
use Rattle.machine_model.specs.State.Machine.{Machine, Server, Thread}
use Rattle.machine_model.specs.State.Servers.{is_server_of, messages_of}
use Rattle.machine_model.specs.State.Threads.{Answers, with_answer}
use Rattle.msg_queue.specs.Seats.{Seat}
use Rattle.process_table.specs.ProcessMap.{ProcessMap, change, is_alive}
use Rattle.process_table.specs.Shown.{process_count as made_for, processes_of}
use Rattle.process_table.specs.State.{dead_process as dead_state}
use Rattle.process_table.specs.declared.table.Processes.{Processes}
use Rattle.send_path.proofs.Taken.{CallParts}
use Rattle.xk_parts.specs.Shown.{processes_shown, process_of, servers_shown, thread_of, threads_shown, claim_of}
use Rattle.send_path.specs.Rows.{log_with}
use Rattle.xk_parts.specs.Sound.{AreSound, AreLoansSound, AreSeatsSound, AreOpen}
use Rattle.xk_parts.specs.Threads.{answered}
use Rattle.server_table.specs.ServersOf.{servers_of}
use Rattle.server_table.specs.declared.table.Servers.{Servers}
use Rattle.sv32_space.specs.Tie.{Held}
use Rattle.thread_table.specs.ThreadMap.{ThreadMap, without_process}
use Rattle.thread_table.specs.Shown.{process_count, threads_of}
use Rattle.thread_table.specs.declared.table.Threads.{Threads}
use Rattle.vm_memory.specs.Memory.{Size, ledger, processes, size}
use Rattle.vm_memory.specs.Pages.Removing.{HasNoLoan}
use Rattle.vm_memory.specs.Sound.{IsSound as IsMemorySound}
use Rattle.xk_base.specs.Tables.Circle.{is_pid, is_thread_id, same_thread}
use Rattle.xk_base.specs.Tables.Counting.{least_below, put_at}
use Rattle.xk_base.specs.declared.ids.Number.{Number}
use Rattle.xk_base.specs.declared.ids.Pid.{Pid}
use Rattle.xk_base.specs.declared.ids.Place.{Place}
use Rattle.xk_base.specs.declared.ids.ThreadId.{ThreadId}
use Rattle.xk_base.specs.declared.messages.Message.{Message}
use Rattle.kill_path.specs.Closing.{AreClosed, Closable, closable}
use Rattle.kill_path.proofs.TakenAll.{DeathParts, all_taken, at_its_turn}
use Rattle.kill_path.specs.Dying.{Dies, disarmed_with}
use Rattle.kill_path.specs.Leaving.{HasLeft, left_by, standing}
use Rattle.kill_path.specs.Telling.{told_to}
use Rattle.kill_path.specs.ThreadSets.{ThreadSet, nobody}
use Rattle.kill_path.proofs.FitLemmas.{matched_open, open_loans}
use Rattle.kill_path.proofs.Deaths.ForgottenLemmas.{alive_shown, claim_gone, pending_gone, pending_of, process_ended, thread_gone}
use Rattle.xk_parts.specs.Parts.{machine_at}

abbrev pub all_of : {W : Type 0} → CallParts W → Processes → Claims → DeathParts W
all_of parts procs claims = record { parts = parts; procs = procs; claims = claims }

-- ---- a process of which no page is on loan

no_loan_of : (m : Machine) (pid : Pid) → IsForgettable m pid → HasNoLoan m.ledger pid
no_loan_of m pid f = record {
  lender = λ p e. f.can.not_lent p e;
  holder = λ p loan e same. false≢true (sym (f.holders p loan e) ∙ eq-eqb loan.holder.pid.0 pid.0 same);
  orphan = λ p e. go p e (m.ledger.orphan p) refl;
}
  where
    go : (p : Place) → p.pid.0 ≡ pid.0 → (o : Option Orphan) → m.ledger.orphan p ≡ o → m.ledger.orphan p ≡ None
    go p e None q = q
    go p e (Some orphan) q = absurd (false≢true (sym (f.orphans p orphan q) ∙ eq-eqb p.pid.0 pid.0 e))

-- ---- servers that a death leaves

passes_so : (test : Server → Bool) (f : Server → Server) → ((server : Server) → test (f server) ≡ test server) → (o : Option Server)
    → server_passes test o ≡ server_passes test (option_map f o)
passes_so test f same None = refl
passes_so test f same (Some server) = sym (same server)

left_twice : (pid : Pid) (o : Option Server) → option_map (left_by pid) o ≡ option_map (with_senderless_from pid) (option_map (without_queued_from pid) o)
left_twice pid None = refl
left_twice pid (Some server) = refl

gone_answered : (b : Bool) (f : Thread → Thread) (o : Option Thread) → (if b then None else option_map f o) ≡ option_map f (if b then None else o)
gone_answered true f o = refl
gone_answered false f o = refl

-- what the parts are after the process is forgotten, where these answers were given before and the memory had this ledger
pub record HasForgotten {W : Type 0} (held : W → Held) (pid : Pid) (given : Answers) (before : Ledger) (old new : DeathParts W) : Type 0 where
  pub told : Threads
  pub answers : threads_shown told ≡ answered given (threads_shown old.parts.tables.threads)
  pub threads : threads_of new.parts.tables.threads ≡ without_process pid (threads_of told)
  pub count : process_count new.parts.tables.threads ≡ process_count old.parts.tables.threads
  pub log : new.parts.tables.log ≡ log_with (replies (process_count old.parts.tables.threads) given) old.parts.tables.log
  pub ledger : ledger held new.parts.mem ≡ forget pid before
  pub size : size new.parts.mem ≡ size old.parts.mem
  pub process : processes_of new.procs ≡ change pid.0 (λ _. dead_state) (processes_of old.procs)
  pub claims : claims_of new.claims ≡ end_claims pid (claims_of old.claims)

module _ {W : Type 0} (S : SwapStore W) (pid : Pid) (old : DeathParts W)
    (who : ThreadId) (sound : AreSound S who (all_taken old))
    (alive : is_alive (processes_of old.procs pid.0) ≡ true) where
  -- the machine at the turn of that thread
  abbrev rest : Machine
  rest = record sound.machine { cursor = who }

  abbrev m0 : Machine
  m0 = at_its_turn S.held (all_taken old) rest

  matched : Matched m0
  unfolding machine_at
  matched = sound.matched

  abbrev n : ℕ
  n = process_count old.parts.tables.threads

  pub pid_known : IsTrue (is_pid n pid.0)
  unfolding machine_at
  pid_known = matched.body.processes.pids pid (alive_shown (processes_of old.procs pid.0) alive)

  pub few : n ≤ 64
  unfolding machine_at
  few = matched.body.processes.few

  pub all_open : AreOpen (loans (ledger S.held old.parts.mem)) old.parts.tables.servers old.parts.tables.queues
  unfolding machine_at
  all_open =
      matched_open m0 matched old.parts.tables.servers old.parts.tables.queues refl sound.seats (loans (ledger S.held old.parts.mem))
      matched.body.loans sound.loans

  -- ---- its servers closed

  abbrev pub own : ℕ → Bool
  own k = is_server_of pid (servers_shown old.parts.tables.servers old.parts.tables.queues k)

  abbrev pub at_first : Closable
  at_first = closable (ledger S.held old.parts.mem) old.parts.tables.servers old.parts.tables.queues nobody

  pub closed_first : (start : ThreadSet) (after : Closable) → start ≡ nobody
      → AreClosed own (closable (ledger S.held old.parts.mem) old.parts.tables.servers old.parts.tables.queues start) after → AreClosed own at_first after
  closed_first start after none closed =
      subst (λ (set : ThreadSet). AreClosed own (closable (ledger S.held old.parts.mem) old.parts.tables.servers old.parts.tables.queues set) after) none closed

  module _ (after : Closable) (is_closed : AreClosed own at_first after) where
    noted_is : (m : Machine) (id : ThreadId) → after.noted id ≡ is_sender_at own (at_its_turn S.held (all_taken old) m) id
    unfolding any_server machine_at
    noted_is m id = is_closed.noted m id

    closed_ledger : (m : Machine) → after.ledger ≡ end_loans (is_message_at own (at_its_turn S.held (all_taken old) m)) (ledger S.held old.parts.mem)
    unfolding any_server machine_at
    closed_ledger m = is_closed.ledger m

    -- who is to be answered is a thread
    pub noted_known : (id : ThreadId) → after.noted id ≡ true → is_thread_id n id ≡ true
    unfolding machine_at
    noted_known id e = by_sender (get_or (messages_of at.server) place.0 place.1).sender refl place.3
      where
        at : PassingServer m0 (λ k server. own k && list_any (is_sent_by id) (messages_of server))
        at = passing_server m0 _ (sym (noted_is rest id) ∙ e)

        place : (j : ℕ) × (d : Message) × (j < length (messages_of at.server)) × (is_sent_by id (get_or (messages_of at.server) j d) ≡ true)
        place = listed_at (is_sent_by id) (messages_of at.server) (and_parts (own at.serial) (list_any (is_sent_by id) (messages_of at.server)) at.passes).1

        by_sender : (o : Option ThreadId) → (get_or (messages_of at.server) place.0 place.1).sender ≡ o → option_map_or (same_thread id) o false ≡ true
            → is_thread_id n id ≡ true
        by_sender None q r = absurd (false≢true r)
        by_sender (Some w) q r =
            ap (is_thread_id n) (alike id w r) ∙ senders_known m0 matched at.serial at.server at.live place.0 place.1 place.2 w q

    -- .. and gets the answer of the death
    told_so : (m : Machine) → told_to None after.noted ≡ (death pid (at_its_turn S.held (all_taken old) m)).answers
    unfolding death servers_closed closed machine_at
    told_so m = λ i. refused_server (λ id. noted_is m id i)

    -- ---- what it waits for left the servers of others

    module _ (procs : ℕ) (same_procs : procs ≡ n) (l : Ledger) (queues : List Seat)
        (left : HasLeft procs pid (standing after.ledger after.servers after.seats) (standing l after.servers queues)) where
      abbrev end : Machine → Machine
      end m = senders_held_gone pid (senders_queued_gone pid (servers_closed pid (at_its_turn S.held (all_taken old) m)).machine)

      -- what is held from it is so once what it had queued is gone
      held_still : (m : Machine) (number : Number) → is_held_from pid (servers_closed pid (at_its_turn S.held (all_taken old) m)).machine number
          ≡ is_held_from pid (senders_queued_gone pid (servers_closed pid (at_its_turn S.held (all_taken old) m)).machine) number
      unfolding senders_queued_gone servers_closed closed any_server machine_at
      held_still m number = λ i. is_some (least_below (servers_of old.parts.tables.servers).next
          (λ k. passes_so (λ server. list_any (λ x. is_of_number number x && is_sent_from pid x) server.held) (without_queued_from pid) (λ server. refl)
          (if own k then None else servers_shown old.parts.tables.servers old.parts.tables.queues k) i))

      pub left_ledger : (m : Machine) → l ≡ (end m).ledger
      unfolding senders_held_gone senders_queued_gone servers_closed closed any_server machine_at
      left_ledger m =
          left.ledger m
          ∙ (λ i. orphan_loans (same_procs i)
          (λ number. is_held_from pid (record m { servers = λ k. is_closed.servers k i; next_serial = is_closed.next i }) number)
          (end_loans (λ number. is_queued_from pid (record m { servers = λ k. is_closed.servers k i; next_serial = is_closed.next i }) number) (closed_ledger m i)))
          ∙ (λ i. orphan_loans n
          (λ number. held_still m number i)
          (end_loans (is_queued_from pid (servers_closed pid (at_its_turn S.held (all_taken old) m)).machine) (end_loans (is_message_at own (at_its_turn S.held (all_taken old) m)) (ledger S.held old.parts.mem))))

      pub left_servers : (m : Machine) (k : ℕ) → servers_shown after.servers queues k ≡ (end m).servers k
      unfolding senders_held_gone senders_queued_gone servers_closed closed machine_at
      left_servers m k =
          left.servers k ∙ ap (option_map (left_by pid)) (is_closed.servers k)
          ∙ left_twice pid (if own k then None else servers_shown old.parts.tables.servers old.parts.tables.queues k)

      -- .. so no page of it is on loan
      same_ledger : l ≡ (second m0 matched pid).ledger
      unfolding senders_held_gone senders_queued_gone servers_closed closed any_server machine_at
      same_ledger = left_ledger rest

      pub no_loan : HasNoLoan l pid
      no_loan = subst (λ (x : Ledger). HasNoLoan x pid) (sym same_ledger) (no_loan_of (second m0 matched pid) pid (last_forgettable m0 matched pid))

      -- ---- it is forgotten

      module _ (new : DeathParts W) (servers_are : new.parts.tables.servers ≡ after.servers) (queues_are : new.parts.tables.queues ≡ queues)
          (gone : HasForgotten S.held pid (told_to None after.noted) l old new) where
        processes_are : (m : Machine) (q : ℕ) → processes_shown new.procs q ≡ put_at nat_eq (processes_shown old.procs) pid.0 dead_process q
        processes_are m q =
            ap (λ (f : ProcessMap). process_of (f q)) gone.process
            ∙ process_ended (nat_eq q pid.0) (processes_of old.procs pid.0) (processes_of old.procs q)

        threads_are : (m : Machine) (id : ThreadId) → threads_shown new.parts.tables.threads id
            ≡ option_map (with_answer ((death pid (at_its_turn S.held (all_taken old) m)).answers id)) (if id.pid.0 == pid.0 then None else threads_shown old.parts.tables.threads id)
        threads_are m id =
            ap (λ (f : ThreadMap). option_map thread_of (f id)) gone.threads
            ∙ thread_gone (id.pid.0 == pid.0) (threads_of gone.told id)
            ∙ ap (λ (f : ThreadId → Option Thread). if id.pid.0 == pid.0 then None else f id) gone.answers
            ∙ (λ i. if id.pid.0 == pid.0 then None else answered (told_so m i) (threads_shown old.parts.tables.threads) id)
            ∙ gone_answered (id.pid.0 == pid.0) (with_answer ((death pid (at_its_turn S.held (all_taken old) m)).answers id)) (threads_shown old.parts.tables.threads id)

        servers_so : (m : Machine) (k : ℕ) → servers_shown new.parts.tables.servers new.parts.tables.queues k ≡ (end m).servers k
        servers_so m k = (λ i. servers_shown (servers_are i) (queues_are i) k) ∙ left_servers m k

        machine_so : (m : Machine) → at_its_turn S.held (all_taken new) (disarmed_with pid (Some old.claims) m) ≡ (settled (death pid (at_its_turn S.held (all_taken old) m))).machine
        unfolding settled death forgotten senders_held_gone senders_queued_gone servers_closed closed machine_at
        machine_so m = λ i. record (disarmed_with pid (Some old.claims) m) {
          capacity = ap (λ (z : Size). capacity z.area.frames z.procs z.slots) gone.size i;
          processes = gone.count i;
          ledger = (gone.ledger ∙ ap (forget pid) (left_ledger m)) i;
          threads = λ id. threads_are m id i;
          process = λ q. processes_are m q i;
          servers = λ k. servers_so m k i;
          next_serial = (ap (λ (t : Servers). (servers_of t).next) servers_are ∙ is_closed.next) i;
          claims = λ k. (ap (λ (f : ClaimMap). option_map claim_of (f k)) gone.claims ∙ claim_gone pid (claims_of old.claims k)) i;
          pending = λ k. (ap (λ (f : ClaimMap). pending_of (f k)) gone.claims ∙ pending_gone pid (claims_of old.claims k)) i;
        }

        replies_so : (m : Machine) → new.parts.tables.log
            ≡ log_with (replies (at_its_turn S.held (all_taken old) m).processes (death pid (at_its_turn S.held (all_taken old) m)).answers) old.parts.tables.log
        unfolding machine_at
        replies_so m = gone.log ∙ ap (λ answers. log_with (replies n answers) old.parts.tables.log) (told_so m)

        pub died : Dies S.held pid (all_taken old) (all_taken new)
        died m = record { machine = machine_so m; replies = replies_so m }

        pub died_sound : IsMemorySound S.slot_count new.parts.mem → made_for new.procs ≡ made_for old.procs → AreOpen (loans l) after.servers queues
            → AreSound S who (all_taken new)
        unfolding machine_at
        died_sound memory procs_same now_open = record {
          machine = disarmed_with pid (Some old.claims) rest;
          matched = subst Matched (sym (machine_so rest)) (death_matched m0 matched pid);
          mem = memory;
          processes = gone.count ∙ sound.processes ∙ sym same_size;
          procs = procs_same ∙ sound.procs ∙ sym gone.count;
          seats = subst (λ (t : Servers). AreSeatsSound (servers_of t) new.parts.tables.queues) (sym servers_are)
              (subst (AreSeatsSound (servers_of after.servers)) (sym queues_are) now_open.seats);
          loans = subst (λ (t : Servers). AreLoansSound (loans (ledger S.held new.parts.mem)) (servers_of t) new.parts.tables.queues) (sym servers_are)
              (subst (AreLoansSound (loans (ledger S.held new.parts.mem)) (servers_of after.servers)) (sym queues_are)
              (subst (λ (all : Loans). AreLoansSound all (servers_of after.servers) queues) (sym same_loans)
              (open_loans (loans l) after.servers queues now_open)));
        }
          where
            same_size : processes new.parts.mem ≡ processes old.parts.mem
            same_size = ap (λ (z : Size). z.procs) gone.size

            same_loans : loans (ledger S.held new.parts.mem) ≡ loans l
            same_loans = ap loans gone.ledger ∙ forget_loans pid l (record { not_lent = no_loan.lender })
