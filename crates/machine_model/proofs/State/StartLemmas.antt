-- The start of a run is matched; and the small machine of the worked rows is such a start.
use Rattle.std.proofs.Common.{◌≡◌, ℕ, ◌+◌, ◌≤◌, ◌<◌, Bool, true, false, ◌⊎◌, inl, inr, Option, Some, None, refl, sym, ap, ◌∙◌, arith, subst}
use Rattle.std.specs.Prelude.{◌%◌, ◌==◌, is_some, if◌then◌else◌, List, [], length}
use Rattle.std.specs.List.{All}
use Rattle.std.specs.Option.{option_map, option_map_or}
use Rattle.std.proofs.lemmas.Bool.{eqb-true, false≢true, and_parts}
use Rattle.std.proofs.lemmas.List.Elements.{All-nil}
use Rattle.std.proofs.lemmas.Option.{none-some, same_Some}
use Rattle.xk_base.specs.declared.ids.Number.{Number}
use Rattle.xk_base.specs.declared.ids.Pid.{Pid}
use Rattle.xk_base.specs.declared.ids.Place.{Place}
use Rattle.xk_base.specs.declared.ids.Serial.{Serial}
use Rattle.xk_base.specs.declared.ids.ThreadId.{ThreadId}
use Rattle.xk_base.specs.declared.messages.Message.{Message}
use Rattle.xk_base.specs.Tables.Circle.{is_pid, is_tid, is_thread_id}
use Rattle.xk_base.specs.Tables.Counting.{count_below}
use Rattle.xk_base.proofs.CountingLemmas.{count_below-none}
use Rattle.ledger_model.specs.Lawful.{IsLawful}
use Rattle.ledger_model.specs.Ledger.{Page, empty_ledger, pages}
use Rattle.ledger_model.specs.Loans.{loan_of_orphan, loans}
use Rattle.ledger_model.specs.Places.{count_places}
use Rattle.ledger_model.proofs.Loans.NumberingLemmas.{count_places-none}
use Rattle.machine_model.specs.State.Machine.{Machine, Process, Thread, ThreadState, Ready, Receiving, Waiting, Joining, Idle}
use Rattle.machine_model.specs.Runs.Matched.{Matched, IsLedgerMatched, AreLoansMatched, AreSendersMatched, AreReceiversMatched, AreJoinersMatched, AreThreadsMatched, AreHeapsMatched, AreProcessesMatched, AreServersMatched, AreNextAbove, is_living, is_waiting_for, is_sent_as}
use Rattle.machine_model.specs.Messaging.MessageCounts.{HasIf, HasNone, count_at}
use Rattle.machine_model.specs.Messaging.Messages.{is_of_number}
use Rattle.machine_model.specs.Worked.Rows.{small_machine, small_threads}
use Rattle.machine_model.specs.State.Start.{HasThread, IsStart}
use Rattle.machine_model.specs.State.Threads.{first_thread, first_handler_thread, thread_id}

-- a state in which a thread waits
abbrev waits : ThreadState → Bool
waits Ready = false
waits (Receiving serial) = true
waits (Waiting number) = true
waits (Joining tid) = true
waits Idle = false

abbrev is_idle_state : ThreadState → Bool
is_idle_state Ready = false
is_idle_state (Receiving serial) = false
is_idle_state (Waiting number) = false
is_idle_state (Joining tid) = false
is_idle_state Idle = true

waits_for_none : (number : Number) (s : ThreadState) → waits s ≡ false → is_waiting_for number s ≡ false
waits_for_none number Ready e = refl
waits_for_none number (Receiving serial) e = refl
waits_for_none number (Waiting other) e = absurd (false≢true (sym e))
waits_for_none number (Joining tid) e = refl
waits_for_none number Idle e = refl

module _ (m : Machine) (h : IsStart m) where
  -- ---- threads

  record IsStartThread (id : ThreadId) (t : Thread) : Type 0 where
    process : is_pid m.processes id.pid.0 ≡ true
    which : ((id.tid.0 ≡ 1) × (t.state ≡ Idle)) ⊎ ((id.tid.0 ≡ 2) × (t.state ≡ Ready))
    aligned : t.pc % 4 ≡ 0

  start_thread : (id : ThreadId) (t : Thread) → m.threads id ≡ Some t → IsStartThread id t
  start_thread id t e =
      let parts : (is_pid m.processes id.pid.0 ≡ true) × ((id.tid.0 ≡ 1) ⊎ (id.tid.0 ≡ 2)) = h.no_other id t e in
      elim (parts.1) [
        | inl one ↦
            let given : HasThread m (thread_id id.pid 1) Idle = h.handler id.pid parts.0 in
            let alike : given.thread ≡ t = same_Some given.thread t
            (sym given.there ∙ sym (λ i. m.threads (thread_id id.pid (one i))) ∙ e) in
            record { process = parts.0; which = inl (one, sym (ap (λ u. u.state) alike) ∙ given.about); aligned = sym (ap (λ u. u.pc % 4) alike) ∙ given.aligned }
        | inr two ↦
            let given : HasThread m (thread_id id.pid 2) Ready = h.first id.pid parts.0 in
            let alike : given.thread ≡ t = same_Some given.thread t
            (sym given.there ∙ sym (λ i. m.threads (thread_id id.pid (two i))) ∙ e) in
            record { process = parts.0; which = inr (two, sym (ap (λ u. u.state) alike) ∙ given.about); aligned = sym (ap (λ u. u.pc % 4) alike) ∙ given.aligned }
      ]

  none_waits : (id : ThreadId) (t : Thread) → m.threads id ≡ Some t → waits t.state ≡ false
  none_waits id t e = elim ((start_thread id t e).which) [
    | inl w ↦ ap waits w.1
    | inr w ↦ ap waits w.1
  ]

  idle_is_first : (id : ThreadId) (t : Thread) → m.threads id ≡ Some t → t.state ≡ Idle → id.tid.0 ≡ 1
  idle_is_first id t e s = elim ((start_thread id t e).which) [
    | inl w ↦ w.0
    | inr w ↦ absurd (false≢true (sym (ap is_idle_state w.1) ∙ ap is_idle_state s))
  ]

  id_known : (id : ThreadId) (t : Thread) → m.threads id ≡ Some t → is_thread_id m.processes id ≡ true
  id_known id t e =
      let start : IsStartThread id t = start_thread id t e in
      let tid : is_tid id.tid.0 ≡ true = elim (start.which) [
        | inl w ↦ ap is_tid w.0
        | inr w ↦ ap is_tid w.0
      ] in
      let pid : is_pid m.processes id.pid.0 ≡ true = start.process in
      rw (pid, tid) refl

  nobody_waits : (number : Number) (who : ThreadId) → option_map_or (λ t. is_waiting_for number t.state) (m.threads who) false ≡ false
  nobody_waits number who = go (m.threads who) refl
    where
      go : (o : Option Thread) → m.threads who ≡ o → option_map_or (λ t. is_waiting_for number t.state) o false ≡ false
      go None e = refl
      go (Some t) e = waits_for_none number t.state (none_waits who t e)

  -- ---- processes

  alive_is_pid : (pid : Pid) → is_living m pid ≡ is_pid m.processes pid.0
  alive_is_pid pid = ap (λ (x : Process). x.alive) (h.process pid.0)

  home_alive : (p : Place) (page : Page) → m.ledger.home p ≡ Some page → is_living m p.pid ≡ true
  home_alive p page e = alive_is_pid p.pid ∙ (and_parts (is_pid m.processes p.pid.0) _ (h.lawful.home_lies p page e)).0

  no_messages : (test : Message → Bool) → HasNone m.servers test
  no_messages test n = ap (count_at test) (h.servers n)

  no_connection : (pid : ℕ) → [] ≡ (m.process pid).connections
  no_connection pid = sym (ap (λ (x : Process). x.connections) (h.process pid))

  -- ---- the parts

  ledger : IsLedgerMatched m.processes m.capacity m.process m.ledger
  ledger = record {
    lawful = h.lawful;
    homes_live = home_alive;
    holders_live = λ p loan e. absurd (none-some loan (sym (h.no_loan p) ∙ e));
    orphans_live = λ p orphan e. absurd (none-some orphan (sym (h.no_orphan p) ∙ e));
  }

  sent : AreLoansMatched (loans m.ledger) m.servers
  unfolding loans
  sent = record {
    lends = λ k server e. absurd (none-some server (sym (h.servers k) ∙ e));
    loans_sent = λ p loan e. absurd (none-some loan (sym (h.no_loan p) ∙ e));
    orphans_sent = λ p orphan e. absurd (none-some orphan (sym (ap (option_map loan_of_orphan) (h.no_orphan p)) ∙ e));
  }

  senders : AreSendersMatched m.threads m.servers
  senders = record {
    senders = λ who number. subst (λ b. HasIf b m.servers (is_sent_as who number)) (sym (nobody_waits number who)) (no_messages _);
    queued = λ k server e. absurd (none-some server (sym (h.servers k) ∙ e));
    held = λ k server e. absurd (none-some server (sym (h.servers k) ∙ e));
    sized = λ k server e. absurd (none-some server (sym (h.servers k) ∙ e));
  }

  receivers : AreReceiversMatched m.threads m.servers
  receivers id t serial e s = absurd (false≢true (sym (none_waits id t e) ∙ ap waits s))

  joiners : AreJoinersMatched m.threads
  joiners id t tid e s = absurd (false≢true (sym (none_waits id t e) ∙ ap waits s))

  lives : (id : ThreadId) (t : Thread) → m.threads id ≡ Some t → is_living m id.pid ≡ true
  lives id t e = alive_is_pid id.pid ∙ (start_thread id t e).process

  threads : AreThreadsMatched m.process m.threads
  threads = record {
    handler = λ pid living.
        let given : HasThread m (thread_id pid 1) Idle = h.handler pid (sym (alive_is_pid pid) ∙ living) in
        (given.thread, given.there, inr given.about);
    above = λ pid living.
        let given : HasThread m (thread_id pid 2) Ready = h.first pid (sym (alive_is_pid pid) ∙ living) in
        (2, omega arith, ap is_some given.there);
    idle = λ id t e s. (idle_is_first id t e s, lives id t e);
    pcs = λ id t e. (start_thread id t e).aligned;
  }

  heaps : AreHeapsMatched m.process m.ledger
  heaps = record {
    whole = λ pid. ap (λ (x : Process). x.heap % 4096) (h.process pid.0);
    within = λ pid. let none : (m.process pid.0).heap ≡ 0 = ap (λ (x : Process). x.heap) (h.process pid.0) in omega arith;
    below = λ p page e w. absurd (false≢true (sym (h.no_heap p page e) ∙ w));
  }

  processes : AreProcessesMatched m.processes m.process
  processes = record {
    few = h.few;
    pids = λ pid living. sym (alive_is_pid pid) ∙ living;
    apart = λ pid i j d l below.
        let none : length (m.process pid.0).connections ≡ 0 = ap (λ (x : Process). length x.connections) (h.process pid.0) in
        absurd (omega arith);
    connections = λ pid.
        let none : length (m.process pid.0).connections ≡ 0 = ap (λ (x : Process). length x.connections) (h.process pid.0) in
        omega arith;
    no_connection = λ pid dead. sym (no_connection pid.0);
    no_heap = λ pid dead. ap (λ (x : Process). x.heap) (h.process pid.0);
  }

  servers : AreServersMatched m.process m.servers
  servers = record {
    living = λ k server e. absurd (none-some server (sym (h.servers k) ∙ e));
    sids = λ a b s t e f same. absurd (none-some s (sym (h.servers a) ∙ e));
    numbers = λ number. inl (no_messages (is_of_number number));
    few = λ bound.
        let none : count_below bound (λ n. is_some (m.servers n)) ≡ 0 =
        count_below-none bound (λ n. is_some (m.servers n)) (λ n l. ap is_some (h.servers n)) in
        omega arith;
    slots = λ k server e. absurd (none-some server (sym (h.servers k) ∙ e));
  }

  above : AreNextAbove m.next_number m.next_serial m.process m.servers
  above = record {
    numbers = λ k server e. absurd (none-some server (sym (h.servers k) ∙ e));
    serials = λ k server e. absurd (none-some server (sym (h.servers k) ∙ e));
    connections = λ pid. subst (λ (serials : List Serial). All (λ serial. serial.0 < m.next_serial) serials) (no_connection pid.0)
        (All-nil (λ serial. serial.0 < m.next_serial));
  }

  pub start_matched : Matched m
  start_matched = record {
    body = record {
      ledger = ledger;
      loans = sent;
      senders = senders;
      receivers = receivers;
      joiners = joiners;
      threads = threads;
      heaps = heaps;
      ids = record { known = id_known; living = lives };
      pages = home_alive;
      processes = processes;
      servers = servers;
    };
    rest = record {
      handlers = λ k claim e. absurd (none-some claim (sym (h.claims k) ∙ e));
      claims = record {
        living = λ k claim e. absurd (none-some claim (sym (h.claims k) ∙ e));
        numbers = λ k claim e. absurd (none-some claim (sym (h.claims k) ∙ e));
        pending_claimed = λ k e. absurd (false≢true (sym (h.pending k) ∙ e));
      };
      above = above;
      stepped = record {
        number_steps = let one : m.next_number ≡ 1 = h.next_number in omega arith;
        serial_steps = let one : m.next_serial ≡ 1 = h.next_serial in omega arith;
      };
      timer = λ e. absurd (false≢true (sym (ap is_some h.compare) ∙ e));
    };
  }

-- ---- the small machine

no_pages : (n : ℕ) → pages n empty_ledger ≡ 0
unfolding pages
no_pages n =
    let homes : count_places n (λ p. false) ≡ 0 = count_places-none n (λ p. false) (λ p. refl) in
    λ i. homes i + homes i

empty_lawful : (n : ℕ) → IsLawful n 16 empty_ledger
unfolding loans
empty_lawful n = record {
  home_lies = λ p page e. absurd (none-some page e);
  holder_lies = λ p loan e. absurd (none-some loan e);
  orphan_lies = λ p orphan e. absurd (none-some orphan e);
  holders_differ = λ p q a b e f s. absurd (none-some a e);
  holder_no_home = λ p loan e. refl;
  holder_no_orphan = λ p loan e. refl;
  orphan_no_home = λ p orphan e. refl;
  one_console = λ p q a b e f s t. absurd (none-some a e);
  console_lies = λ p page e s. absurd (none-some page e);
  console_no_loan = λ p page e s. absurd (none-some page e);
  console_no_fetch = λ p page e s. absurd (none-some page e);
  within = let none : pages n empty_ledger ≡ 0 = no_pages n in omega arith;
  one_run = λ number. inl (record { homes = λ p. refl; orphans = λ p. refl });
  exclusive_writable = λ p page loan e f s. absurd (none-some page e);
}

abbrev of_tids : Bool → Bool → Bool → Option Thread
of_tids process one two = if process then (if one then Some first_handler_thread else (if two then Some (first_thread 65536) else None)) else None

small_thread : (n : ℕ) (id : ThreadId) (t : Thread) → small_threads n id ≡ Some t
    → (is_pid n id.pid.0 ≡ true) × ((id.tid.0 ≡ 1) ⊎ (id.tid.0 ≡ 2))
small_thread n id t e = go (is_pid n id.pid.0) (id.tid.0 == 1) (id.tid.0 == 2) refl refl refl e
  where
    go : (a b c : Bool) → is_pid n id.pid.0 ≡ a → (id.tid.0 == 1) ≡ b → (id.tid.0 == 2) ≡ c → of_tids a b c ≡ Some t
        → (is_pid n id.pid.0 ≡ true) × ((id.tid.0 ≡ 1) ⊎ (id.tid.0 ≡ 2))
    go false b c p q r e = absurd (none-some t e)
    go true true c p q r e = (p, inl (eqb-true id.tid.0 1 q))
    go true false true p q r e = (p, inr (eqb-true id.tid.0 2 r))
    go true false false p q r e = absurd (none-some t e)

small_is_start : (n : ℕ) → n ≤ 64 → IsStart (small_machine n)
unfolding small_machine
small_is_start n few = record {
  few = few;
  lawful = empty_lawful n;
  no_loan = λ p. refl;
  no_orphan = λ p. refl;
  no_heap = λ p page e. absurd (none-some page e);
  process = λ pid. refl;
  handler = λ pid living. record {
    thread = first_handler_thread;
    there = ap (λ b. of_tids b true false) living;
    about = refl;
    aligned = refl;
  };
  first = λ pid living. record {
    thread = first_thread 65536;
    there = ap (λ b. of_tids b false true) living;
    about = refl;
    aligned = refl;
  };
  no_other = small_thread n;
  servers = λ k. refl;
  claims = λ k. refl;
  pending = λ k. refl;
  next_number = refl;
  next_serial = refl;
  steps = refl;
  compare = refl;
  reserved = refl;
}

pub small_matched : (n : ℕ) → n ≤ 64 → Matched (small_machine n)
small_matched n few = start_matched (small_machine n) (small_is_start n few)
