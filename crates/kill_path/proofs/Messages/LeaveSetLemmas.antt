-- Whose numbers are queued or held from a process, once one message of a seat ended or was left alone.
use Rattle.std.proofs.Common.{◌≡◌, ℕ, suc, ◌+◌, ◌<◌, ◌≤◌, Bool, true, false, List, [], ◌∷◌, cond, filter, length, map, Option, Some, None, refl, sym, ap, subst, ◌∙◌, arith}
use Rattle.std.specs.Prelude.{◌≢◌, ◌||◌, ◌&&◌, if◌then◌else◌, is_some, nat_eq, not}
use Rattle.std.specs.List.{list_any, remove}
use Rattle.std.specs.Option.{option_map}
use Rattle.std.proofs.lemmas.Bool.{eq-eqb, eqb-true, false≢true}
use Rattle.std.proofs.lemmas.Option.{none-some, same_Some}
use Rattle.ledger_model.specs.Lawful.{IsLawful}
use Rattle.ledger_model.specs.Ledger.{Ledger}
use Rattle.ledger_model.specs.Loans.{loans, same_number}
use Rattle.ledger_model.specs.Steps.{end_loan, orphan_loan}
use Rattle.machine_laws.proofs.Messaging.AnyServerLemmas.{no_server, none_listed, only_at}
use Rattle.machine_model.proofs.Matching.CountLemmas.{count_in-append}
use Rattle.machine_model.proofs.Messaging.LoanSetLemmas.{both_end, only_one_ends, only_one_is_orphaned}
use Rattle.machine_model.specs.Ending.Closing.{any_server, is_held_from, is_queued_from, senderless_from, server_passes}
use Rattle.machine_model.specs.Messaging.LoanSets.{end_loans, orphan_loans}
use Rattle.machine_model.specs.Messaging.MessageCounts.{count_at, count_in}
use Rattle.machine_model.specs.Messaging.Messages.{is_of_number as is_message_of, is_sent_from}
use Rattle.machine_model.specs.State.Machine.{Machine, Server}
use Rattle.machine_model.specs.State.Servers.{messages_of}
use Rattle.msg_queue.specs.Seats.{Seat, changed_at, is_of_number, message_of, of_number, message_place, seat_of, without_queued}
use Rattle.msg_queue.specs.declared.held.Held.{Held}
use Rattle.send_path.proofs.Servers.SeatLemmas.{seat_changed, seat_is_there, seat_other, server_there}
use Rattle.xk_parts.specs.Shown.{server_of, server_with, servers_shown}
use Rattle.xk_parts.specs.Seats.{IsSeatOf, messages_at}
use Rattle.server_table.proofs.Lemmas.{live_below, seats_differ}
use Rattle.server_table.specs.ServersOf.{servers_of}
use Rattle.server_table.specs.ServerState.{Server as TableServer}
use Rattle.server_table.specs.declared.table.Servers.{Servers}
use Rattle.xk_base.proofs.CountingLemmas.{least_below-none, least_below-same}
use Rattle.xk_base.specs.Tables.Counting.{least_below}
use Rattle.xk_base.specs.declared.ids.Number.{Number}
use Rattle.xk_base.specs.declared.ids.Pid.{Pid}
use Rattle.xk_base.specs.declared.limits.TheConstants.{SERVER_LIMIT}
use Rattle.xk_base.specs.declared.messages.Message.{Message}
use Rattle.kill_path.specs.Closing.{Closable, closable, with_servers}
use Rattle.kill_path.specs.Leaving.{LeavesAlike, alone, first_alone, left_by, with_alone}
use Rattle.xk_parts.specs.Sound.{AreOpen}
use Rattle.kill_path.specs.ThreadSets.{ThreadSet}
use Rattle.kill_path.proofs.Servers.EndingLemmas.{same_back}
use Rattle.kill_path.proofs.Messages.LeaveStepLemmas.{count_both, found_counts, most, number_count}
use Rattle.kill_path.proofs.Servers.OpenLemmas.{messages_shown}
use Rattle.kill_path.proofs.Messages.OrphanLemmas.{both_orphaned, ended_apart, ends_after_orphan}

-- ---- a test that holds besides at one number

some_or : (next k : ℕ) (f g : ℕ → Bool) (c : Bool) → k < next → ((n : ℕ) → n ≢ k → f n ≡ g n) → f k ≡ (c || g k)
    → is_some (least_below next f) ≡ (c || is_some (least_below next g))
some_or next k f g true low others here = go (least_below next f) refl
  where
    go : (o : Option ℕ) → least_below next f ≡ o → is_some o ≡ true
    go None e = absurd (false≢true (sym (least_below-none next f e k low) ∙ here))
    go (Some n) e = refl
some_or next k f g false low others here = ap is_some (least_below-same next f g (λ n l. at n (nat_eq n k) refl))
  where
    at : (n : ℕ) (b : Bool) → nat_eq n k ≡ b → f n ≡ g n
    at n true e = ap f (eqb-true n k e) ∙ here ∙ ap g (sym (eqb-true n k e))
    at n false e = others n (λ same. false≢true (sym e ∙ eq-eqb n k same))

-- ---- lists without the first of a number

or_swap : (a b c : Bool) → (a || (b || c)) ≡ (b || (a || c))
or_swap true true c = refl
or_swap true false c = refl
or_swap false true c = refl
or_swap false false c = refl

pub any_removed : (test : Message → Bool) (number : Number) (hs : List Held) (h : Held) → of_number number hs ≡ Some h
    → list_any test (map message_of hs) ≡ (test h.msg || list_any test (map message_of (remove hs (message_place number hs))))
any_removed test number [] h e = absurd (none-some h e)
any_removed test number (x ∷ xs) h e = go (is_of_number number x) (λ later. any_removed test number xs h later) e
  where
    go : (b : Bool) → (of_number number xs ≡ Some h → list_any test (map message_of xs) ≡ (test h.msg || list_any test (map message_of (remove xs (message_place number xs)))))
        → cond b (Some x) (of_number number xs) ≡ Some h
        → (test x.msg || list_any test (map message_of xs))
        ≡ (test h.msg || list_any test (map message_of (remove (x ∷ xs) (cond (not b) (1 + message_place number xs) 0))))
    go true rest q = ap (λ (y : Held). test y.msg || list_any test (map message_of xs)) (same_Some x h q)
    go false rest q =
        let next : 1 + message_place number xs ≡ suc (message_place number xs) = omega arith in
        ap (λ b. test x.msg || b) (rest q)
        ∙ or_swap (test x.msg) (test h.msg) (list_any test (map message_of (remove xs (message_place number xs))))
        ∙ ap (λ k. test h.msg || list_any test (map message_of (remove (x ∷ xs) k))) (sym next)

-- what a filter drops may be taken out before
pub filter_removed : (keep : Message → Bool) (number : Number) (hs : List Held) (h : Held) → of_number number hs ≡ Some h → keep h.msg ≡ false
    → filter keep (map message_of (remove hs (message_place number hs))) ≡ filter keep (map message_of hs)
filter_removed keep number [] h e drops = absurd (none-some h e)
filter_removed keep number (x ∷ xs) h e drops = go (is_of_number number x) (λ later. filter_removed keep number xs h later drops) e
  where
    go : (b : Bool) → (of_number number xs ≡ Some h → filter keep (map message_of (remove xs (message_place number xs))) ≡ filter keep (map message_of xs))
        → cond b (Some x) (of_number number xs) ≡ Some h
        → filter keep (map message_of (remove (x ∷ xs) (cond (not b) (1 + message_place number xs) 0)))
        ≡ cond (keep x.msg) (x.msg ∷ filter keep (map message_of xs)) (filter keep (map message_of xs))
    go true rest q =
        sym (ap (λ b. cond b (x.msg ∷ filter keep (map message_of xs)) (filter keep (map message_of xs)))
        (ap (λ (y : Held). keep y.msg) (same_Some x h q) ∙ drops))
    go false rest q =
        let next : 1 + message_place number xs ≡ suc (message_place number xs) = omega arith in
        ap (λ k. filter keep (map message_of (remove (x ∷ xs) k))) next
        ∙ ap (λ ys. cond (keep x.msg) (x.msg ∷ ys) ys) (rest q)

-- ---- one seat changes

module _ (servers : Servers) (seats : List Seat) (s k : ℕ) (its : IsSeatOf (servers_of servers) s k) (all : length seats ≡ SERVER_LIMIT) (f : Seat → Seat) where
  abbrev new : List Seat
  new = changed_at k f seats

  there : k < length seats
  there = seat_is_there servers seats s k its all

  pub shown_old : servers_shown servers seats s ≡ Some (server_with (seat_of seats k) its.server)
  shown_old = server_there servers seats s k its all

  pub shown_new : servers_shown servers new s ≡ Some (server_with (f (seat_of seats k)) its.server)
  shown_new =
      ap (option_map (server_of new)) its.live ∙ ap (λ j. Some (server_with (seat_of new j) its.server)) its.its
      ∙ ap (λ seat. Some (server_with seat its.server)) (seat_changed seats k f there)

  pub shown_other : (n : ℕ) → n ≢ s → servers_shown servers new n ≡ servers_shown servers seats n
  shown_other n ne = go ((servers_of servers).live n) refl
    where
      go : (o : Option TableServer) → (servers_of servers).live n ≡ o → option_map (server_of new) o ≡ option_map (server_of seats) o
      go None e = refl
      go (Some v) e =
          ap (λ seat. Some (server_with seat v))
          (seat_other seats k v.seat f (λ same. ne (seats_differ servers n s v its.server e its.live (same ∙ sym its.its))))

  module _ (l m : Ledger) (noted after : ThreadSet) where
    abbrev before : Closable
    before = closable l servers seats noted

    abbrev later : Closable
    later = closable m servers new after

    -- a test of servers that holds besides, or just as before
    pub any_at : (x : Machine) (test : Server → Bool) (c : Bool)
        → test (server_with (seat_of seats k) its.server) ≡ (c || test (server_with (f (seat_of seats k)) its.server))
        → any_server (with_servers before x) (λ n server. test server) ≡ (c || any_server (with_servers later x) (λ n server. test server))
    unfolding any_server
    any_at x test c here =
        some_or (servers_of servers).next s (λ n. server_passes test (servers_shown servers seats n)) (λ n. server_passes test (servers_shown servers new n)) c
        (live_below servers s its.server its.live) (λ n ne. ap (server_passes test) (sym (shown_other n ne)))
        (ap (server_passes test) shown_old ∙ here ∙ ap (λ o. c || server_passes test o) (sym shown_new))

    pub servers_alike : (pid : Pid) → left_by pid (server_with (f (seat_of seats k)) its.server) ≡ left_by pid (server_with (seat_of seats k) its.server)
        → (n : ℕ) → option_map (left_by pid) (servers_shown servers new n) ≡ option_map (left_by pid) (servers_shown servers seats n)
    servers_alike pid same n = go (nat_eq n s) refl
      where
        go : (b : Bool) → nat_eq n s ≡ b → option_map (left_by pid) (servers_shown servers new n) ≡ option_map (left_by pid) (servers_shown servers seats n)
        go true e =
            ap (λ j. option_map (left_by pid) (servers_shown servers new j)) (eqb-true n s e) ∙ ap (option_map (left_by pid)) shown_new ∙ ap Some same
            ∙ sym (ap (option_map (left_by pid)) shown_old) ∙ sym (ap (λ j. option_map (left_by pid) (servers_shown servers seats j)) (eqb-true n s e))
        go false e = ap (option_map (left_by pid)) (shown_other n (λ eq. false≢true (sym e ∙ eq-eqb n s eq)))

-- ---- a queued message of the process ends

module _ (servers : Servers) (seats : List Seat) (s k : ℕ) (its : IsSeatOf (servers_of servers) s k) (all : length seats ≡ SERVER_LIMIT)
    (procs : ℕ) (pid : Pid) (number : Number) (h : Held) (found : of_number number (seat_of seats k).queued ≡ Some h)
    (its_number : h.msg.number ≡ number) (sent : is_sent_from pid h.msg ≡ true) (l : Ledger) (noted : ThreadSet) where
  abbrev old : Closable
  old = closable l servers seats noted

  abbrev left : Closable
  left = closable (end_loan number l) servers (changed_at k (without_queued number) seats) noted

  held_same : (x : Machine) (n : Number) → is_held_from pid (with_servers old x) n ≡ is_held_from pid (with_servers left x) n
  held_same x n =
      any_at servers seats s k its all (without_queued number) l (end_loan number l) noted noted x
      (λ server. list_any (λ y. is_message_of n y && is_sent_from pid y) server.held) false refl

  queued_more : (x : Machine) (n : Number) → is_queued_from pid (with_servers old x) n ≡ (same_number n number || is_queued_from pid (with_servers left x) n)
  queued_more x n =
      any_at servers seats s k its all (without_queued number) l (end_loan number l) noted noted x
      (λ server. list_any (λ y. is_message_of n y && is_sent_from pid y) server.queued) (same_number n number)
      (any_removed (λ y. is_message_of n y && is_sent_from pid y) number (seat_of seats k).queued h found
      ∙ ap (λ b. b || list_any (λ y. is_message_of n y && is_sent_from pid y) (map message_of (remove (seat_of seats k).queued (message_place number (seat_of seats k).queued))))
      (its_test n))
    where
      and_true : (b : Bool) → (b && true) ≡ b
      and_true true = refl
      and_true false = refl

      its_test : (q : Number) → (is_message_of q h.msg && is_sent_from pid h.msg) ≡ same_number q number
      its_test q =
          ap (λ b. is_message_of q h.msg && b) sent ∙ and_true (is_message_of q h.msg) ∙ ap (λ z. same_number z q) its_number ∙ same_back number q

  pub queued_alike : LeavesAlike procs pid old left
  queued_alike = record {
    ledger = λ x.
        (λ i. orphan_loans procs (λ n. sym (held_same x n) i) (end_loans (is_queued_from pid (with_servers left x)) (end_loan number l)))
        ∙ ap (orphan_loans procs (is_held_from pid (with_servers old x)))
        (ap (end_loans (is_queued_from pid (with_servers left x))) (sym (only_one_ends number l))
        ∙ both_end (λ n. same_number n number) (is_queued_from pid (with_servers left x)) l
        ∙ (λ i. end_loans (λ n. sym (queued_more x n) i) l));
    servers = servers_alike servers seats s k its all (without_queued number) l (end_loan number l) noted noted pid
        (λ i. record (left_by pid (server_with (seat_of seats k) its.server)) {
          queued = filter_removed (λ y. not (is_sent_from pid y)) number (seat_of seats k).queued h found (ap not sent) i;
        });
  }

-- ---- lists with the first of a number left alone

pub any_alone : (test : Message → Bool) (number : Number) (hs : List Held) (h : Held) → of_number number hs ≡ Some h → test (alone h).msg ≡ false
    → list_any test (map message_of hs) ≡ (test h.msg || list_any test (map message_of (first_alone number hs)))
any_alone test number [] h e fails = absurd (none-some h e)
any_alone test number (x ∷ xs) h e fails = go (is_of_number number x) (λ later. any_alone test number xs h later fails) e
  where
    go : (b : Bool) → (of_number number xs ≡ Some h → list_any test (map message_of xs) ≡ (test h.msg || list_any test (map message_of (first_alone number xs))))
        → cond b (Some x) (of_number number xs) ≡ Some h
        → (test x.msg || list_any test (map message_of xs))
        ≡ (test h.msg || list_any test (map message_of (if b then alone x ∷ xs else x ∷ first_alone number xs)))
    go true rest q =
        let same : x ≡ h = same_Some x h q in
        ap (λ (y : Held). test y.msg || list_any test (map message_of xs)) same
        ∙ ap (λ b. test h.msg || (b || list_any test (map message_of xs))) (sym (ap (λ (y : Held). test (alone y).msg) same ∙ fails))
    go false rest q = ap (λ b. test x.msg || b) (rest q) ∙ or_swap (test x.msg) (test h.msg) (list_any test (map message_of (first_alone number xs)))

-- what is without a sender from the process may be left alone before
pub senderless_alone : (pid : Pid) (number : Number) (hs : List Held) (h : Held) → of_number number hs ≡ Some h → is_sent_from pid h.msg ≡ true
    → map (senderless_from pid) (map message_of (first_alone number hs)) ≡ map (senderless_from pid) (map message_of hs)
senderless_alone pid number [] h e sent = absurd (none-some h e)
senderless_alone pid number (x ∷ xs) h e sent = go (is_of_number number x) (λ later. senderless_alone pid number xs h later sent) e
  where
    go : (b : Bool) → (of_number number xs ≡ Some h → map (senderless_from pid) (map message_of (first_alone number xs)) ≡ map (senderless_from pid) (map message_of xs))
        → cond b (Some x) (of_number number xs) ≡ Some h
        → map (senderless_from pid) (map message_of (if b then alone x ∷ xs else x ∷ first_alone number xs))
        ≡ senderless_from pid x.msg ∷ map (senderless_from pid) (map message_of xs)
    go true rest q =
        λ i. record x.msg { sender = if sym (ap (λ (y : Held). is_sent_from pid y.msg) (same_Some x h q) ∙ sent) i then None else x.msg.sender }
        ∷ map (senderless_from pid) (map message_of xs)
    go false rest q = ap (λ ys. senderless_from pid x.msg ∷ ys) (rest q)

-- ---- a held message of the process is left alone

module _ (servers : Servers) (seats : List Seat) (s k : ℕ) (its : IsSeatOf (servers_of servers) s k) (procs capacity : ℕ) (pid : Pid) (number : Number) (h : Held)
    (found : of_number number (seat_of seats k).held ≡ Some h) (its_number : h.msg.number ≡ number) (sent : is_sent_from pid h.msg ≡ true) (l : Ledger)
    (lawful : IsLawful procs capacity l) (was_open : AreOpen (loans l) servers seats) (noted : ThreadSet) where
  abbrev standing : Closable
  standing = closable l servers seats noted

  abbrev orphaned : Closable
  orphaned = closable (orphan_loan procs number l) servers (changed_at k (with_alone number) seats) noted

  queued_same : (x : Machine) (n : Number) → is_queued_from pid (with_servers standing x) n ≡ is_queued_from pid (with_servers orphaned x) n
  queued_same x n =
      any_at servers seats s k its was_open.seats.all (with_alone number) l (orphan_loan procs number l) noted noted x
      (λ server. list_any (λ y. is_message_of n y && is_sent_from pid y) server.queued) false refl

  held_more : (x : Machine) (n : Number) → is_held_from pid (with_servers standing x) n ≡ (same_number n number || is_held_from pid (with_servers orphaned x) n)
  held_more x n =
      any_at servers seats s k its was_open.seats.all (with_alone number) l (orphan_loan procs number l) noted noted x
      (λ server. list_any (λ y. is_message_of n y && is_sent_from pid y) server.held) (same_number n number)
      (any_alone (λ y. is_message_of n y && is_sent_from pid y) number (seat_of seats k).held h found (and_false (is_message_of n h.msg))
      ∙ ap (λ b. b || list_any (λ y. is_message_of n y && is_sent_from pid y) (map message_of (first_alone number (seat_of seats k).held))) (its_test n))
    where
      and_true : (b : Bool) → (b && true) ≡ b
      and_true true = refl
      and_true false = refl

      and_false : (b : Bool) → (b && false) ≡ false
      and_false true = refl
      and_false false = refl

      its_test : (q : Number) → (is_message_of q h.msg && is_sent_from pid h.msg) ≡ same_number q number
      its_test q =
          ap (λ b. is_message_of q h.msg && b) sent ∙ and_true (is_message_of q h.msg) ∙ ap (λ z. same_number z q) its_number ∙ same_back number q

  -- its number isn't queued
  not_queued : (x : Machine) → is_queued_from pid (with_servers standing x) number ≡ false
  not_queued x = no_server (with_servers standing x) (λ n server. list_any (λ y. is_message_of number y && is_sent_from pid y) server.queued) (λ n server e.
      none_listed number (is_sent_from pid) server.queued (at n server e (nat_eq n s) refl))
    where
      some : 1 ≤ number_count number (seat_of seats k).held
      some = found_counts number (seat_of seats k).held h found

      here : number_count number (seat_of seats k).queued ≡ 0
      here =
          let sum : number_count number (messages_at (seat_of seats k)) ≡ number_count number (seat_of seats k).queued + number_count number (seat_of seats k).held =
          count_both number (seat_of seats k).queued (seat_of seats k).held in
          let few : number_count number (messages_at (seat_of seats k)) ≤ 1 = most servers seats s k its l was_open number in
          let one : 1 ≤ number_count number (seat_of seats k).held = some in
          omega arith

      its_server : 1 ≤ count_at (is_message_of number) (servers_shown servers seats s)
      its_server =
          let sum : number_count number (messages_at (seat_of seats k)) ≡ number_count number (seat_of seats k).queued + number_count number (seat_of seats k).held =
          count_both number (seat_of seats k).queued (seat_of seats k).held in
          let one : 1 ≤ number_count number (seat_of seats k).held = some in
          subst (λ o. 1 ≤ count_at (is_message_of number) o) (sym (server_there servers seats s k its was_open.seats.all))
          (subst (λ (ms : List Message). 1 ≤ count_in (is_message_of number) ms) (sym (messages_shown (seat_of seats k) its.server)) (omega arith))

      at : (n : ℕ) (server : Server) → servers_shown servers seats n ≡ Some server → (b : Bool) → nat_eq n s ≡ b → count_in (is_message_of number) server.queued ≡ 0
      at n server e true q =
          ap (λ (v : Server). count_in (is_message_of number) v.queued)
          (same_Some server (server_with (seat_of seats k) its.server)
          (sym e ∙ ap (servers_shown servers seats) (eqb-true n s q) ∙ server_there servers seats s k its was_open.seats.all))
          ∙ here
      at n server e false q =
          let none : count_at (is_message_of number) (servers_shown servers seats n) ≡ 0 =
          only_at (servers_shown servers seats) was_open.numbers number s its_server n (λ same. false≢true (sym q ∙ eq-eqb n s same)) in
          let all : count_in (is_message_of number) (messages_of server) ≡ 0 = sym (ap (count_at (is_message_of number)) e) ∙ none in
          let sum : count_in (is_message_of number) (messages_of server) ≡ count_in (is_message_of number) server.queued + count_in (is_message_of number) server.held =
          count_in-append (is_message_of number) server.queued server.held in
          omega arith

  pub held_alike : LeavesAlike procs pid standing orphaned
  held_alike = record {
    ledger = λ x.
        let queued = is_queued_from pid (with_servers standing x) in
        let held = is_held_from pid (with_servers orphaned x) in
        (λ i. orphan_loans procs held (end_loans (λ n. sym (queued_same x n) i) (orphan_loan procs number l)))
        ∙ ap (orphan_loans procs held) (ends_after_orphan procs capacity queued number l lawful (not_queued x) ∙ sym (only_one_is_orphaned procs number (end_loans queued l)))
        ∙ both_orphaned procs (λ n. same_number n number) held (end_loans queued l) (ended_apart procs capacity queued l lawful)
        ∙ (λ i. orphan_loans procs (λ n. sym (held_more x n) i) (end_loans queued l));
    servers = servers_alike servers seats s k its was_open.seats.all (with_alone number) l (orphan_loan procs number l) noted noted pid
        (λ i. record (left_by pid (server_with (seat_of seats k) its.server)) { held = senderless_alone pid number (seat_of seats k).held h found sent i });
  }
