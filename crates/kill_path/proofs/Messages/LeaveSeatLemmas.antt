-- One message after another leaves a seat, and one seat after another.
use Rattle.std.proofs.Common.{◌≡◌, ℕ, ◌+◌, ◌<◌, ◌≤◌, true, false, List, length, set, get_or, Option, Some, None, refl, sym, ap, subst, ◌∙◌, arith, inl, inr}
use Rattle.std.specs.Prelude.{◌≢◌, All, if◌then◌else◌, is_some}
use Rattle.std.proofs.lemmas.Bool.{false≢true}
use Rattle.std.proofs.lemmas.List.Elements.{All-nil}
use Rattle.ledger_model.specs.Lawful.{IsLawful}
use Rattle.ledger_model.specs.Ledger.{Ledger}
use Rattle.ledger_model.specs.Loans.{loans}
use Rattle.ledger_model.specs.Steps.{end_loan, orphan_loan}
use Rattle.msg_queue.specs.Seats.{IsFirstOf, Seat, changed_at, is_of_number, of_number, seat_of, without_queued}
use Rattle.machine_model.proofs.Matching.OneMessageLemmas.{same_or_not}
use Rattle.machine_model.specs.Messaging.Messages.{is_sent_from}
use Rattle.msg_queue.specs.declared.held.Held.{Held}
use Rattle.send_path.proofs.Servers.SeatLemmas.{seat_changed, seat_is_there, seat_other}
use Rattle.send_path.proofs.Servers.SeatSearchLemmas.{found_seat, seat_found}
use Rattle.xk_parts.specs.Seats.{IsSeatOf, messages_at}
use Rattle.xk_parts.specs.Sound.{AreSeatsSound, HasKnownSender, AreOpen, IsLoanFit}
use Rattle.server_table.specs.ServersOf.{servers_of}
use Rattle.server_table.specs.ServerState.{Server as TableServer, at_seat}
use Rattle.server_table.specs.declared.table.ServerSeat.{ServerSeat}
use Rattle.server_table.specs.declared.table.Servers.{Servers}
use Rattle.xk_base.specs.declared.ids.Number.{Number}
use Rattle.xk_base.specs.declared.ids.Pid.{Pid}
use Rattle.xk_base.specs.declared.limits.TheConstants.{SERVER_LIMIT}
use Rattle.kill_path.specs.Closing.{Closable}
use Rattle.kill_path.specs.Leaving.{AreOfOthers, IsLeavable, LeavesAlike, is_queued, standing, with_alone, without_message}
use Rattle.kill_path.specs.ThreadSets.{nobody}
use Rattle.kill_path.proofs.Messages.LeaveFoundLemmas.{can_leave, each_sent, fewer_alone, fewer_queued, found_both, found_second, found_sent, sent_count, sent_is_some}
use Rattle.kill_path.proofs.Messages.LeaveSetLemmas.{held_alike, queued_alike}
use Rattle.kill_path.proofs.Messages.LeaveStepLemmas.{fit_here, held_left, known_here, most, number_count, queued_ended, right_all}
use Rattle.kill_path.proofs.Messages.LeavingLemmas.{found_number, placed}

-- ---- alike

pub alike_itself : (procs : ℕ) (pid : Pid) (a : Closable) → LeavesAlike procs pid a a
alike_itself procs pid a = record { ledger = λ m. refl; servers = λ n. refl }

pub alike_both : (procs : ℕ) (pid : Pid) (a b c : Closable) → LeavesAlike procs pid a b → LeavesAlike procs pid b c → LeavesAlike procs pid a c
alike_both procs pid a b c x y = record { ledger = λ m. y.ledger m ∙ x.ledger m; servers = λ n. y.servers n ∙ x.servers n }

-- ---- seats with a server, and without one

pub taken_seat : (servers : Servers) (k : ℕ) → is_some (at_seat k (servers_of servers)) ≡ true → (serial : ℕ) × IsSeatOf (servers_of servers) serial k
taken_seat servers k e = go (at_seat k (servers_of servers)) refl e
  where
    go : (o : Option ServerSeat) → at_seat k (servers_of servers) ≡ o → is_some o ≡ true → (serial : ℕ) × IsSeatOf (servers_of servers) serial k
    go None q f = absurd (false≢true f)
    go (Some at) q f =
        let found = found_seat servers k at q in
        (at.serial.0, record { server = found.server; live = found.live; its = found.its })

pub empty_of_others : (servers : Servers) (seats : List Seat) (k : ℕ) (pid : Pid) → AreSeatsSound (servers_of servers) seats → k < SERVER_LIMIT
    → is_some (at_seat k (servers_of servers)) ≡ false → AreOfOthers pid (seat_of seats k)
empty_of_others servers seats k pid sound low e =
    subst (AreOfOthers pid) (sym (sound.empty k low (λ n v live at. none n v live at))) (All-nil (λ h. is_sent_from pid h.msg ≡ false))
  where
    none : (n : ℕ) (v : TableServer) → (servers_of servers).live n ≡ Some v → v.seat ≢ k
    none n v live at =
        false≢true (sym e ∙ ap is_some (sym (ap (λ j. at_seat j (servers_of servers)) at) ∙ seat_found servers n v live))

-- ---- one message

module _ (servers : Servers) (seats : List Seat) (s k : ℕ) (its : IsSeatOf (servers_of servers) s k) (pid : Pid) (number : Number) (l : Ledger)
    (was_open : AreOpen (loans l) servers seats) (first : IsFirstOf pid (messages_at (seat_of seats k)) (Some number)) where
  abbrev seat : Seat
  seat = seat_of seats k

  few : number_count number (messages_at seat) ≤ 1
  few = most servers seats s k its l was_open number

  fits : All (IsLoanFit (loans l) its.server.pid) (messages_at seat)
  fits = fit_here servers seats s k its l was_open

  known : All HasKnownSender (messages_at seat)
  known = known_here servers seats s k its l was_open

  pub leaves : IsLeavable (loans l) number seat
  leaves = can_leave (loans l) its.server.pid pid number seat fits known few first

  its_sent : (h : Held) → of_number number (messages_at seat) ≡ Some h → is_sent_from pid h.msg ≡ true
  its_sent = found_sent (loans l) its.server.pid pid number seat fits known few first

  module _ (procs capacity : ℕ) (lawful : IsLawful procs capacity l) (m : Ledger) (new : List Seat)
      (changed : new ≡ changed_at k (without_message number) seats)
      (ledgers : m ≡ (if is_queued number seat then end_loan number l else orphan_loan procs number l)) where
    -- it was queued, or else it was held
    pub record HasLeftSeat : Type 0 where
      pub now_open : AreOpen (loans m) servers new
      pub alike : LeavesAlike procs pid (standing l servers seats) (standing m servers new)
      pub fewer : sent_count pid (messages_at (seat_of new k)) < sent_count pid (messages_at seat)

    there : k < length seats
    there = seat_is_there servers seats s k its was_open.seats.all

    so_left : (f : Seat → Seat) (x : Ledger) → new ≡ changed_at k f seats → m ≡ x → AreOpen (loans x) servers (changed_at k f seats)
        → LeavesAlike procs pid (standing l servers seats) (standing x servers (changed_at k f seats))
        → sent_count pid (messages_at (f seat)) < sent_count pid (messages_at seat) → HasLeftSeat
    so_left f x seats_are ledger_is now alike fewer = record {
      now_open = subst (λ (q : List Seat). AreOpen (loans m) servers q) (sym seats_are)
          (subst (λ (y : Ledger). AreOpen (loans y) servers (changed_at k f seats)) (sym ledger_is) now);
      alike = subst (λ (q : List Seat). LeavesAlike procs pid (standing l servers seats) (standing m servers q)) (sym seats_are)
          (subst (λ (y : Ledger). LeavesAlike procs pid (standing l servers seats) (standing y servers (changed_at k f seats))) (sym ledger_is) alike);
      fewer = subst (λ (y : Seat). sent_count pid (messages_at y) < sent_count pid (messages_at seat))
          (sym (ap (λ (q : List Seat). seat_of q k) seats_are ∙ seat_changed seats k f there)) fewer;
    }

    of_queued : (h : Held) → of_number number seat.queued ≡ Some h → HasLeftSeat
    of_queued h e =
        let queued : is_queued number seat ≡ true = ap is_some e in
        let sent : is_sent_from pid h.msg ≡ true = its_sent h (found_both number seat.queued seat.held h e) in
        so_left (without_queued number) (end_loan number l)
        (changed ∙ ap (λ b. set seats k (if b then without_queued number seat else with_alone number seat)) queued)
        (ledgers ∙ ap (λ b. if b then end_loan number l else orphan_loan procs number l) queued)
        (queued_ended servers seats s k its l was_open number h e)
        (queued_alike servers seats s k its was_open.seats.all procs pid number h e (found_number number seat.queued h e) sent l nobody)
        (fewer_queued pid number seat h e sent)

    of_held : of_number number seat.queued ≡ None → (h : Held) → of_number number seat.held ≡ Some h → HasLeftSeat
    of_held none h e =
        let queued : is_queued number seat ≡ false = ap is_some none in
        let sent : is_sent_from pid h.msg ≡ true = its_sent h (found_second number seat.queued seat.held none ∙ e) in
        so_left (with_alone number) (orphan_loan procs number l)
        (changed ∙ ap (λ b. set seats k (if b then without_queued number seat else with_alone number seat)) queued)
        (ledgers ∙ ap (λ b. if b then end_loan number l else orphan_loan procs number l) queued)
        (held_left servers seats s k its l was_open number h procs capacity lawful e senders)
        (held_alike servers seats s k its procs capacity pid number h e (found_number number seat.held h e) sent l lawful was_open nobody)
        (fewer_alone pid number seat h e sent)
      where
        senders : All (λ x. is_of_number number x ≡ true → is_some x.msg.sender ≡ true) seat.held
        senders =
            right_all (λ x. is_of_number number x ≡ true → is_some x.msg.sender ≡ true) seat.queued seat.held
            (λ j d low same. sent_is_some pid (get_or (messages_at seat) j d) (each_sent (loans l) its.server.pid pid number seat fits known few first j d low same))

    pub has_left : HasLeftSeat
    has_left = go (of_number number seat.queued) refl
      where
        go : (o : Option Held) → of_number number seat.queued ≡ o → HasLeftSeat
        go (Some h) e = of_queued h e
        go None e =
            let at = placed number seat.held (leaves.there e) in
            of_held e at.message at.found

    pub others_same : (other : ℕ) → other ≢ k → seat_of new other ≡ seat_of seats other
    others_same other ne = ap (λ (q : List Seat). seat_of q other) changed ∙ seat_other seats k other (without_message number) ne

-- ---- one seat more

pub seats_so_far : (pid : Pid) (old new : List Seat) (k next : ℕ) → next ≡ k + 1 → ((j : ℕ) → j < k → AreOfOthers pid (seat_of old j))
    → AreOfOthers pid (seat_of new k) → ((other : ℕ) → other ≢ k → seat_of new other ≡ seat_of old other) → (j : ℕ) → j < next → AreOfOthers pid (seat_of new j)
seats_so_far pid old new k next is so_far here others j low = elim (same_or_not j k) [
  | inl same ↦ subst (λ n. AreOfOthers pid (seat_of new n)) (sym same) here
  | inr ne ↦ subst (AreOfOthers pid) (sym (others j ne)) (so_far j (omega (arith, ne)))
]
