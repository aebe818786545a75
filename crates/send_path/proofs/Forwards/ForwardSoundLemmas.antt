-- What a forward asks of its parts, and what it leaves sound.
use Rattle.xk_ports.specs.declared.store.SwapStore.{Ghosts as SwapStore}
use Rattle.std.proofs.Common.{◌≡◌, ℕ, ◌+◌, ◌<◌, ◌≤◌, true, false, List, [], ◌∷◌, get_or, length, Option, Some, None, refl, sym, ap, subst, ◌∙◌}
use Rattle.std.specs.Prelude.{◌≢◌, ◌==◌, is_some}
use Rattle.std.proofs.lemmas.Bool.{and_parts, eq-eqb, false≢true}
use Rattle.std.proofs.lemmas.Option.{same_Some}
use Rattle.ledger_model.proofs.Loans.OfNumberLemmas.{stands_still}
use Rattle.ledger_model.proofs.Stepping.PassingLemmas.{pass_other}
use Rattle.ledger_model.specs.Ledger.{Ledger}
use Rattle.ledger_model.specs.Loans.{LoanRun, Stands, loans, same_number, with_holder}
use Rattle.ledger_model.specs.Steps.{pass}
use Rattle.machine_laws.proofs.Calling.AnsweredCallLemmas.{Keeps}
use Rattle.machine_laws.proofs.Forwarding.ForwardCallLemmas.{forward_keeps}
use Rattle.machine_laws.proofs.Returning.GivenBackLemmas.{found_at}
use Rattle.machine_model.proofs.Matching.CountLemmas.{all_right}
use Rattle.machine_model.specs.Messaging.ForwardCalls.{forward_call, with_first}
use Rattle.machine_model.specs.Messaging.Messages.{is_lend, is_of_number, loan_kind}
use Rattle.machine_model.specs.Runs.Matched.{IsMessageLent, Matched}
use Rattle.machine_model.specs.State.Machine.{Machine, Server}
use Rattle.msg_queue.specs.Seats.{Seat, changed_at, seat_of, used_of, without_held}
use Rattle.msg_queue.specs.declared.held.Held.{Held}
use Rattle.process_table.specs.ProcessMap.{connections_of}
use Rattle.process_table.specs.Shown.{processes_of}
use Rattle.process_table.specs.declared.table.Processes.{Processes}
use Rattle.server_table.proofs.Lemmas.{seats_differ}
use Rattle.server_table.specs.ServersOf.{servers_of}
use Rattle.thread_table.specs.ThreadMap.{is_ready as is_table_ready}
use Rattle.thread_table.specs.Shown.{threads_of}
use Rattle.vm_memory.specs.Memory.{ledger}
use Rattle.xk_base.specs.declared.ids.Number.{Number}
use Rattle.xk_base.specs.declared.ids.Place.{Place}
use Rattle.xk_base.specs.declared.ids.ThreadId.{ThreadId}
use Rattle.xk_base.specs.declared.ids.Vpn.{Vpn}
use Rattle.xk_base.specs.declared.limits.TheConstants.{MESSAGE_LIMIT, SERVER_LIMIT}
use Rattle.xk_base.specs.declared.messages.Message.{Message}
use Rattle.xk_base.specs.declared.pages.LoanKind.{LoanKind}
use Rattle.send_path.specs.Arrivals.{IsReached, with_arrived}
use Rattle.send_path.specs.Forwarding.{forward_row}
use Rattle.send_path.proofs.Taken.{CallParts, over, with_processes, taken}
use Rattle.xk_parts.specs.Shown.{server_with}
use Rattle.send_path.specs.Rows.{IsServed}
use Rattle.xk_parts.specs.Seats.{HasLoanIfLend}
use Rattle.send_path.specs.Seats.{IsHeldAt}
use Rattle.xk_parts.specs.Sound.{AreLoansSound, AreSeatsSound, AreSound, IsLenderOf, IsLoanOf}
use Rattle.send_path.specs.declared.holding.HeldAt.{HeldAt}
use Rattle.send_path.specs.declared.seats.Reached.{Reached}
use Rattle.send_path.proofs.Forwards.ForwardLemmas.{goes_on}
use Rattle.send_path.proofs.Servers.HeldListLemmas.{find_shown}
use Rattle.send_path.proofs.Receivers.ReturnLemmas.{its_loan, loan_number, loans_left, seats_left, shown}
use Rattle.send_path.proofs.Servers.SeatLemmas.{seat_other, seats_counted, server_there}
use Rattle.send_path.proofs.Sends.SentSoundLemmas.{arrived_seats, loans_arrived}
use Rattle.xk_parts.proofs.ThreadLemmas.{ready_there}
use Rattle.xk_parts.specs.Parts.{machine_at}

-- the loan of another number stands when this one is passed on
passed_stand : (l : Ledger) (number : Number) (from to : Place) (run : LoanRun) → same_number run.number number ≡ false → Stands (loans l) run
    → Stands (loans (pass number from to l)) run
passed_stand l number from to run other h =
    stands_still (loans l) (loans (pass number from to l)) run
    (pass_other number run.number from to l (λ same. false≢true (sym other ∙ eq-eqb run.number.0 number.0 (ap (λ (n : Number). n.0) same)))) h

-- a run that stands in the one ledger stands as it is called in the other
pub stood_on : {l m : Ledger} {r q : LoanRun} → l ≡ m → r ≡ q → Stands (loans l) r → Stands (loans m) q
stood_on {l} {m} {r} {q} e f h = subst (λ k. Stands (loans k) q) e (subst (Stands (loans l)) f h)

-- ---- matched still

module _ {W : Type 0} (S : SwapStore W) (who : ThreadId) (procs : Processes) (old : CallParts W)
    (sound : AreSound S who (over procs old)) (ready : is_table_ready (threads_of old.tables.threads who) ≡ true)
    (number : Number) (cid : ℕ) where
  abbrev m0 : Machine
  m0 = with_processes procs sound.machine

  matched_over : Matched (machine_at S.held who (taken old) (with_processes procs m0))
  unfolding machine_at
  matched_over = sound.matched

  forward_row_keeps : Keeps (machine_at S.held who (taken old) (with_processes procs m0)) (forward_row number cid (machine_at S.held who (taken old) (with_processes procs m0)))
  unfolding forward_call machine_at
  forward_row_keeps =
      forward_keeps (machine_at S.held who (taken old) (with_processes procs m0)) (0 ∷ number.0 ∷ cid ∷ []) matched_over (ready_there (threads_of old.tables.threads who) ready)

  pub still_matched : (new : CallParts W)
      → IsServed (forward_row number cid (machine_at S.held who (taken old) (with_processes procs m0))) (machine_at S.held who (taken old) (with_processes procs m0)) (machine_at S.held who (taken new) (with_processes procs m0)) old.tables.log new.tables.log
      → Matched (machine_at S.held who (taken new) (record (with_processes procs m0) { steps = m0.steps + 1 }))
  unfolding machine_at
  still_matched new served = subst (λ (x : Machine). Matched (record x { steps = m0.steps + 1 })) (sym served.machine) forward_row_keeps

-- ---- the message and the two servers

module _ {W : Type 0} (S : SwapStore W) (procs : Processes) (who : ThreadId) (old : CallParts W)
    (sound : AreSound S who (taken old)) (ready : is_table_ready (threads_of old.tables.threads who) ≡ true) (number : Number)
    (at : HeldAt) (its : IsHeldAt who.pid number (servers_of old.tables.servers) old.tables.queues at) (can : goes_on at.message ≡ true)
    (cid : ℕ) (to : Reached) (there : IsReached (connections_of (processes_of procs who.pid.0)) cid (servers_of old.tables.servers) to) where
  abbrev seats : List Seat
  seats = old.tables.queues

  abbrev all : Machine
  all = machine_at S.held who (taken old) sound.machine

  abbrev x : Message
  x = at.message

  abbrev a : Server
  a = server_with (seat_of seats at.seat) its.seat.server

  from_live : all.servers at.serial.0 ≡ Some a
  unfolding machine_at
  from_live = server_there old.tables.servers seats at.serial.0 at.seat its.seat sound.seats.all

  parts : (is_lend x.kind ≡ true) × (is_some x.sender ≡ true)
  parts = and_parts (is_lend x.kind) (is_some x.sender) can

  -- ---- the pages

  pub has_pages : 1 ≤ x.count
  has_pages = by_kind (loan_kind x.kind) refl parts.0
    where
      place : (j : ℕ) × (d : Message) × (j < length a.held) × (get_or a.held j d ≡ x) × (is_of_number number x ≡ true)
      place = found_at (is_of_number number) a.held x (find_shown (is_of_number number) (seat_of seats at.seat).held ∙ its.message)

      lent : IsMessageLent (loans all.ledger) a (get_or a.held place.0 place.1)
      lent = all_right (IsMessageLent (loans all.ledger) a) a.queued a.held (sound.matched.body.loans.lends at.serial.0 a from_live) place.0 place.1 place.2

      by_kind : (o : Option LoanKind) → loan_kind x.kind ≡ o → is_some o ≡ true → 1 ≤ x.count
      by_kind None e q = absurd (false≢true q)
      by_kind (Some kind) e q =
          subst (λ (z : Message). 1 ≤ z.count) place.3 (lent kind (ap (λ (z : Message). loan_kind z.kind) place.3 ∙ e)).count

  -- ---- the loan

  module _ (run : LoanRun) (is : (shown S who old sound ready number at its).held.loan ≡ Some run) where
    loan : IsLoanOf (loans (ledger S.held old.mem)) its.seat.server.pid x run
    loan =
        subst (λ message. IsLoanOf (loans (ledger S.held old.mem)) its.seat.server.pid message run)
        (shown S who old sound ready number at its).message
        (its_loan S who old sound ready number at its run is)

    pub its_run_stands : Stands (loans (ledger S.held old.mem)) run
    its_run_stands = loan.stands

    pub its_count : run.count ≡ x.count
    its_count = loan.count

    pub has_lender : is_some run.lender ≡ true
    has_lender = go x.sender parts.1 loan.lender
      where
        go : (o : Option ThreadId) → is_some o ≡ true → IsLenderOf o run.lender → is_some run.lender ≡ true
        go None q e = absurd (false≢true q)
        go (Some sender) q e = ap is_some e.1

    -- its step of the ledger is that of the row
    pub pass_is : (first : Vpn) → pass run.number run.holder (record { pid = to.pid; vpn = first }) (ledger S.held old.mem)
        ≡ pass number (record { pid = who.pid; vpn = x.first }) (record { pid = to.pid; vpn = first }) (ledger S.held old.mem)
    pass_is first =
        let own : its.seat.server.pid ≡ who.pid = λ i. record { 0 = its.own i } in
        λ i. pass (loan_number S who old sound ready number at its run is i)
        ((loan.first ∙ (λ j. record { pid = own j; vpn = x.first })) i) (record { pid = to.pid; vpn = first }) (ledger S.held old.mem)

    -- ---- what is sound afterwards

    module _ (apart : (to.serial.0 == at.serial.0) ≡ false) where
      seats_apart : to.seat ≢ at.seat
      seats_apart same =
          false≢true (sym apart
          ∙ eq-eqb to.serial.0 at.serial.0
          (seats_differ old.tables.servers to.serial.0 at.serial.0 there.seat.server its.seat.server there.seat.live its.seat.live
          (there.seat.its ∙ same ∙ sym its.seat.its)))

      abbrev between : List Seat
      between = changed_at at.seat (without_held number) seats

      counted : length between ≡ SERVER_LIMIT
      counted = seats_counted seats at.seat (without_held number) ∙ sound.seats.all

      pub has_room : used_of (seat_of seats to.seat) < MESSAGE_LIMIT → used_of (seat_of between to.seat) < MESSAGE_LIMIT
      has_room room =
          subst (λ seat. used_of seat < MESSAGE_LIMIT) (sym (seat_other seats at.seat to.seat (without_held number) seats_apart)) room

      module _ (first : Vpn) (h : Held) (message : h.msg ≡ with_first first x)
          (lent : h.loan ≡ Some (with_holder (record { pid = to.pid; vpn = first }) run)) (got : Option ThreadId) where
        abbrev place : Place
        place = record { pid = to.pid; vpn = first }

        abbrev after : Ledger
        after = pass number (record { pid = who.pid; vpn = x.first }) place (ledger S.held old.mem)

        pub has_loan_on : HasLoanIfLend h
        has_loan_on = ap is_some lent ∙ sym parts.0 ∙ ap (λ (z : Message). is_lend z.kind) (sym message)

        pub seats_on : AreSeatsSound (servers_of old.tables.servers) (changed_at to.seat (with_arrived got h) between)
        seats_on =
            arrived_seats old.tables.servers between to.serial.0 to.seat (seats_left S who old sound ready number at its) there.seat got h has_loan_on

        its_loan_on : Stands (loans after) (with_holder place run) → IsLoanOf (loans after) there.seat.server.pid (with_first first x) (with_holder place run)
        its_loan_on stands = record {
          stands = stands;
          number = loan.number;
          kind = loan.kind;
          first = λ i. record { pid = sym there.own i; vpn = first };
          count = loan.count;
          lender = loan.lender;
        }

        pub loans_on : Stands (loans after) (with_holder place run)
            → AreLoansSound (loans after) (servers_of old.tables.servers) (changed_at to.seat (with_arrived got h) between)
        loans_on stands =
            loans_arrived old.tables.servers between to.serial.0 to.seat there.seat counted (loans after)
            (loans_left S who old sound ready number at its after
            (passed_stand (ledger S.held old.mem) number (record { pid = who.pid; vpn = x.first }) place))
            got h
            (λ other e. subst (IsLoanOf (loans after) there.seat.server.pid h.msg) (same_Some (with_holder place run) other (sym lent ∙ e))
            (subst (λ z. IsLoanOf (loans after) there.seat.server.pid z (with_holder place run)) (sym message) (its_loan_on stands)))
