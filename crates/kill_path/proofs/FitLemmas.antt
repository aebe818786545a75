-- In a matched machine each message's loan is its own, and by the number of a message without one nothing is on loan. So sound parts
-- can lose messages, and all their servers can close.
use Rattle.xk_ports.specs.declared.store.SwapStore.{Ghosts as SwapStore}
use Rattle.std.proofs.Common.{◌≡◌, ℕ, ◌+◌, ◌<◌, ◌≤◌, Bool, true, false, List, get_or, length, inl, inr, Option, Some, None, refl, sym, ap, subst, ◌∙◌, arith}
use Rattle.std.specs.Prelude.{All, IfSome, if◌then◌else◌, is_some, nat_le, nat_lt}
use Rattle.std.specs.List.{list_any}
use Rattle.std.specs.Option.{option_map}
use Rattle.std.proofs.lemmas.Bool.{and_from, and_parts, eqb-true, false≢true, le-leb, lt-ltb}
use Rattle.std.proofs.lemmas.List.Elements.{All-append}
use Rattle.std.proofs.lemmas.Option.{same_Some}
use Rattle.ledger_model.specs.Ledger.{PageLoan}
use Rattle.ledger_model.specs.Loans.{IsFresh, LoanRun, Loans, OrphanLoan, loans, of_number, orphan_of_number, same_number}
use Rattle.machine_laws.proofs.Messaging.AnyServerLemmas.{messages_apart, number_counted, one_listed, only_at}
use Rattle.machine_laws.proofs.Messaging.ListedLemmas.{at_listed}
use Rattle.machine_model.proofs.Matching.CountLemmas.{first_in, none_pass}
use Rattle.machine_model.proofs.Matching.MatchedLemmas.{senders_known}
use Rattle.machine_model.proofs.Matching.OneMessageLemmas.{HasServer, one_server, same_or_not}
use Rattle.machine_model.specs.Messaging.MessageCounts.{HasAtMostOne, HasOne, count_at}
use Rattle.machine_model.specs.Messaging.Messages.{is_lend, is_lend_of, is_of_number}
use Rattle.machine_model.specs.Runs.Matched.{AreLoansMatched, Matched}
use Rattle.machine_model.specs.State.Machine.{Machine, Server}
use Rattle.machine_model.specs.State.Servers.{messages_of}
use Rattle.msg_queue.specs.Seats.{Seat, seat_of}
use Rattle.msg_queue.specs.declared.held.Held.{Held}
use Rattle.send_path.proofs.Servers.HeldListLemmas.{of_shown}
use Rattle.send_path.proofs.Taken.{CallParts, taken}
use Rattle.xk_parts.specs.Shown.{server_of, server_with, servers_shown}
use Rattle.xk_parts.specs.Seats.{messages_at}
use Rattle.xk_parts.specs.Sound.{AreLoansSound, AreSeatsSound, HasKnownSender, AreOpen, AreServersSound, IsLoanFitOf, AreSound}
use Rattle.server_table.specs.ServersOf.{servers_of}
use Rattle.server_table.specs.ServerState.{Server as TableServer}
use Rattle.server_table.specs.declared.table.Servers.{Servers}
use Rattle.thread_table.specs.Shown.{process_count}
use Rattle.vm_memory.specs.Memory.{ledger, processes}
use Rattle.xk_base.proofs.CircleLemmas.{is_pid-bounds}
use Rattle.xk_base.specs.Calls.Kinds.{is_answered}
use Rattle.xk_base.specs.Tables.Circle.{is_pid, is_thread_id, is_tid}
use Rattle.xk_base.specs.declared.ids.Number.{Number}
use Rattle.xk_base.specs.declared.ids.Place.{Place}
use Rattle.xk_base.specs.declared.ids.ThreadId.{ThreadId}
use Rattle.xk_base.specs.declared.messages.Message.{Message}
use Rattle.kill_path.proofs.Servers.OpenLemmas.{messages_shown}
use Rattle.xk_parts.specs.Parts.{machine_at}

module _ (s : ℕ → Option Server) (all : Loans) (lent : AreLoansMatched all s) (numbers : (number : Number) → HasAtMostOne s (is_of_number number))
    (n : ℕ) (server : Server) (e : s n ≡ Some server) where
  -- no lend has the number of a message that isn't one
  no_lend : (j : ℕ) (d : Message) → j < length (messages_of server) → is_lend (get_or (messages_of server) j d).kind ≡ false
      → HasOne s (is_lend_of (get_or (messages_of server) j d).number) → ⊥
  no_lend j d low other one = at_server (one_server s (is_lend_of number) one)
    where
      number : Number
      number = (get_or (messages_of server) j d).number

      some : 1 ≤ count_at (is_of_number number) (s n)
      some = subst (λ o. 1 ≤ count_at (is_of_number number) o) (sym e) (number_counted (messages_of server) j d low)

      listed : list_any (is_lend_of number) (messages_of server) ≡ false
      listed = one_listed (λ y. is_lend y.kind) (messages_of server) (messages_apart s numbers n server e) j d low ∙ other

      at_server : HasServer s (is_lend_of number) → ⊥
      at_server at = elim (same_or_not at.serial n) [
        | inl same ↦
            let its : at.server ≡ server = same_Some at.server server (sym at.live ∙ ap s same ∙ e) in
            false≢true (sym listed ∙ ap (λ (v : Server). list_any (is_lend_of number) (messages_of v)) (sym its)
            ∙ at_listed (is_lend_of number) (messages_of at.server) found.0 found.1 found.2 found.3)
        | inr apart ↦
            false≢true (sym (none_pass (is_of_number number) (messages_of at.server)
            (sym (ap (count_at (is_of_number number)) at.live) ∙ only_at s numbers number n some at.serial apart) found.0 found.1 found.2)
            ∙ (and_parts (is_of_number number (get_or (messages_of at.server) found.0 found.1)) (is_lend (get_or (messages_of at.server) found.0 found.1).kind) found.3).0)
      ]
        where
          found : (k : ℕ) × (c : Message) × (k < length (messages_of at.server)) × (is_lend_of number (get_or (messages_of at.server) k c) ≡ true)
          found = first_in (is_lend_of number) (messages_of at.server) at.some

  fresh_number : All (λ x. is_lend x.kind ≡ false → IsFresh all x.number) (messages_of server)
  fresh_number j d low other = record {
    homes = λ p. by_home p (all.home p) refl;
    orphans = λ p. by_orphan p (all.orphan p) refl;
  }
    where
      number : Number
      number = (get_or (messages_of server) j d).number

      strange : (found : Number) → HasOne s (is_lend_of found) → same_number found number ≡ false
      strange found one = go (same_number found number) refl
        where
          go : (b : Bool) → same_number found number ≡ b → b ≡ false
          go false q = refl
          go true q =
              absurd (no_lend j d low other (subst (λ (x : Number). HasOne s (is_lend_of x)) (λ i. record { 0 = eqb-true found.0 number.0 q i }) one))

      by_home : (p : Place) (o : Option PageLoan) → all.home p ≡ o → of_number number o ≡ None
      by_home p None q = refl
      by_home p (Some loan) q = ap (λ b. if b then Some loan else None) (strange loan.number (lent.loans_sent p loan q))

      by_orphan : (p : Place) (o : Option OrphanLoan) → all.orphan p ≡ o → orphan_of_number number o ≡ None
      by_orphan p None q = refl
      by_orphan p (Some orphan) q = ap (λ b. if b then Some orphan else None) (strange orphan.number (lent.orphans_sent p orphan q))

-- an id of some processes is one of as many as there can be
pub known_of_all : (n : ℕ) (id : ThreadId) → n ≤ 64 → is_thread_id n id ≡ true → is_thread_id 64 id ≡ true
known_of_all n id few e =
    let parts : (is_pid n id.pid.0 ≡ true) × (is_tid id.tid.0 ≡ true) = and_parts (is_pid n id.pid.0) (is_tid id.tid.0) e in
    and_from (is_pid 64 id.pid.0) (is_tid id.tid.0) (pid_of_all id.pid.0 parts.0) parts.1
  where
    pid_of_all : (p : ℕ) → is_pid n p ≡ true → is_pid 64 p ≡ true
    pid_of_all p q =
        let b : (2 ≤ p) × (p < n + 2) = is_pid-bounds n p q in
        let low : 2 ≤ p = b.0 in
        let high : p < n + 2 = b.1 in
        and_from (nat_le 2 p) (nat_lt p 66) (le-leb 2 p low) (lt-ltb p 66 (omega arith))

pub known_pid_of_all : (n p : ℕ) → n ≤ 64 → is_pid n p ≡ true → is_pid 64 p ≡ true
known_pid_of_all n p few q =
    let b : (2 ≤ p) × (p < n + 2) = is_pid-bounds n p q in
    let low : 2 ≤ p = b.0 in
    let high : p < n + 2 = b.1 in
    and_from (nat_le 2 p) (nat_lt p 66) (le-leb 2 p low) (lt-ltb p 66 (omega arith))

-- ---- servers of a matched machine

-- The servers are those of a matched machine, and these loans those of their messages. (The machine may have another ledger: a call
-- that moves no page doesn't speak of it.)
module _ (m : Machine) (matched : Matched m) (t : Servers) (q : List Seat) (same : m.servers ≡ servers_shown t q)
    (seats : AreSeatsSound (servers_of t) q) (all : Loans) (lent : AreLoansMatched all (servers_shown t q))
    (sound : AreLoansSound all (servers_of t) q) where
  abbrev shown : Machine
  shown = record m { servers = servers_shown t q }

  shown_matched : Matched shown
  shown_matched = subst Matched (λ i. record m { servers = same i }) matched

  server_live : (n : ℕ) (v : TableServer) → (servers_of t).live n ≡ Some v → servers_shown t q n ≡ Some (server_with (seat_of q v.seat) v)
  server_live n v e = ap (option_map (server_of q)) e

  -- what has a sender is to be answered
  abbrev HasAnswer : Message → Type 0
  HasAnswer x = is_some x.sender ≡ true → is_answered x.kind ≡ true

  answered : (n : ℕ) (server : Server) → servers_shown t q n ≡ Some server → All HasAnswer (messages_of server)
  answered n server e =
      All-append HasAnswer server.queued server.held (λ j d low sent. sym (shown_matched.body.senders.queued n server e j d low) ∙ sent)
      (λ j d low sent. shown_matched.body.senders.held n server e j d low)

  -- they can lose messages
  pub matched_open : AreOpen all t q
  matched_open = record {
    seats = seats;
    fit = λ n v e j d low. fits n v e j d low (get_or (messages_at (seat_of q v.seat)) j d).loan refl;
    senders = λ n v e j d low. known n v e j d low (get_or (messages_at (seat_of q v.seat)) j d).msg.sender refl;
    numbers = shown_matched.body.servers.numbers;
  }
    where
      fits : (n : ℕ) (v : TableServer) → (servers_of t).live n ≡ Some v → (j : ℕ) (d : Held) → j < length (messages_at (seat_of q v.seat))
          → (o : Option LoanRun) → (get_or (messages_at (seat_of q v.seat)) j d).loan ≡ o
          → IsLoanFitOf all v.pid (get_or (messages_at (seat_of q v.seat)) j d).msg (get_or (messages_at (seat_of q v.seat)) j d).loan
      fits n v e j d low (Some run) is =
          subst (IsLoanFitOf all v.pid (get_or (messages_at (seat_of q v.seat)) j d).msg) (sym is) (sound n v e j d low run is)
      fits n v e j d low None is =
          subst (IsLoanFitOf all v.pid (get_or (messages_at (seat_of q v.seat)) j d).msg) (sym is)
          (of_shown (λ (x : Message). is_lend x.kind ≡ false → IsFresh all x.number) (messages_at (seat_of q v.seat))
          (subst (All (λ (x : Message). is_lend x.kind ≡ false → IsFresh all x.number)) (messages_shown (seat_of q v.seat) v)
          (fresh_number (servers_shown t q) all lent shown_matched.body.servers.numbers n (server_with (seat_of q v.seat) v) (server_live n v e))) j d low
          (sym (seats.loans v.seat j d low) ∙ ap is_some is))

      known : (n : ℕ) (v : TableServer) → (servers_of t).live n ≡ Some v → (j : ℕ) (d : Held) → j < length (messages_at (seat_of q v.seat))
          → (o : Option ThreadId) → (get_or (messages_at (seat_of q v.seat)) j d).msg.sender ≡ o
          → HasKnownSender (get_or (messages_at (seat_of q v.seat)) j d)
      known n v e j d low None is =
          subst (λ (o : Option ThreadId). IfSome o (λ id. (is_thread_id 64 id ≡ true) × (is_answered (get_or (messages_at (seat_of q v.seat)) j d).msg.kind ≡ true)))
          (sym is) tt
      known n v e j d low (Some id) is =
          subst (λ (o : Option ThreadId). IfSome o (λ w. (is_thread_id 64 w ≡ true) × (is_answered (get_or (messages_at (seat_of q v.seat)) j d).msg.kind ≡ true)))
          (sym is) (
            known_of_all m.processes id shown_matched.body.processes.few
                (of_shown (λ (x : Message). (w : ThreadId) → x.sender ≡ Some w → is_thread_id m.processes w ≡ true) (messages_at (seat_of q v.seat))
                (subst (All (λ (x : Message). (w : ThreadId) → x.sender ≡ Some w → is_thread_id m.processes w ≡ true)) (messages_shown (seat_of q v.seat) v)
                (senders_known shown shown_matched n (server_with (seat_of q v.seat) v) (server_live n v e))) j d low id is),
            of_shown HasAnswer (messages_at (seat_of q v.seat))
                (subst (All HasAnswer) (messages_shown (seat_of q v.seat) v) (answered n (server_with (seat_of q v.seat) v) (server_live n v e))) j d low (ap is_some is),
          )

  -- .. and all be closed
  pub servers_of_matched : AreServersSound m.processes all t q
  servers_of_matched = record {
    messages = matched_open;
    loans = lent;
    owners = λ n v e.
        shown_matched.body.processes.pids v.pid (shown_matched.body.servers.living n (server_with (seat_of q v.seat) v) (server_live n v e));
  }

-- ---- sound parts

module _ {W : Type 0} (S : SwapStore W) (who : ThreadId) (old : CallParts W) (sound : AreSound S who (taken old)) where
  abbrev m0 : Machine
  m0 = machine_at S.held who (taken old) sound.machine

  pub few_processes : process_count old.tables.threads ≤ 64
  unfolding machine_at
  few_processes = sound.matched.body.processes.few

  -- sound parts can lose messages ..
  pub sound_open : AreOpen (loans (ledger S.held old.mem)) old.tables.servers old.tables.queues
  unfolding machine_at
  sound_open =
      matched_open m0 sound.matched old.tables.servers old.tables.queues refl sound.seats (loans (ledger S.held old.mem)) sound.matched.body.loans sound.loans

  -- .. and all their servers be closed
  pub sound_servers : AreServersSound (processes old.mem) (loans (ledger S.held old.mem)) old.tables.servers old.tables.queues
  unfolding machine_at
  sound_servers =
      subst (λ n. AreServersSound n (loans (ledger S.held old.mem)) old.tables.servers old.tables.queues) sound.processes
      (servers_of_matched m0 sound.matched old.tables.servers old.tables.queues refl sound.seats (loans (ledger S.held old.mem)) sound.matched.body.loans
      sound.loans)

-- what is left has sound loans
pub open_loans : (all : Loans) (servers : Servers) (seats : List Seat) → AreOpen all servers seats
    → AreLoansSound all (servers_of servers) seats
open_loans all servers seats so n v e j d low run q =
    subst (IsLoanFitOf all v.pid (get_or (messages_at (seat_of seats v.seat)) j d).msg) q (so.fit n v e j d low)
