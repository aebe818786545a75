-- What an accepted send leaves of seats and loans is sound.
use Rattle.std.proofs.Common.{◌≡◌, ℕ, zero, suc, ◌<◌, Bool, true, false, List, [], ◌∷◌, ◌++◌, get_or, length, Option, Some, None, refl, sym, ap, subst, ◌∙◌, arith, append_assoc}
use Rattle.std.specs.Prelude.{◌≢◌, All, IfSome, is_some, nat_eq, if◌then◌else◌}
use Rattle.std.specs.Option.{option_map}
use Rattle.std.proofs.lemmas.Bool.{eq-eqb, eqb-true, false≢true}
use Rattle.std.proofs.lemmas.List.{map-append}
use Rattle.std.proofs.lemmas.List.Elements.{All-cons, All-push}
use Rattle.std.proofs.lemmas.Option.{none-some, same_Some}
use Rattle.ledger_model.proofs.Loans.OfNumberLemmas.{stands_still}
use Rattle.ledger_model.proofs.Runs.RunTestLemmas.{sent_may_lend, sent_may_move}
use Rattle.ledger_model.proofs.Stepping.GivingLemmas.{give_loans}
use Rattle.ledger_model.proofs.Stepping.LendingLemmas.{lend_other}
use Rattle.ledger_model.specs.Conditions.{CanGive, CanLend}
use Rattle.ledger_model.specs.Ledger.{Ledger}
use Rattle.ledger_model.specs.Loans.{LoanRun, Loans, Stands, loans}
use Rattle.ledger_model.specs.RunTests.{any_not_sent, is_exclusive}
use Rattle.machine_model.specs.Messaging.Messages.{carries_pages, is_lend, loan_kind, new_message}
use Rattle.machine_model.specs.Messaging.SendCalls.{is_lend_mut, sent_ledger, sent_pages}
use Rattle.machine_model.specs.State.Machine.{Machine}
use Rattle.msg_queue.specs.Seats.{Seat, changed_at, message_of, seat_of}
use Rattle.msg_queue.specs.declared.held.Held.{Held}
use Rattle.server_table.proofs.Lemmas.{seats_differ}
use Rattle.server_table.specs.ServersOf.{servers_of}
use Rattle.server_table.specs.ServerState.{Server as TableServer}
use Rattle.server_table.specs.declared.table.Servers.{Servers}
use Rattle.xk_base.specs.Calls.Kinds.{is_answered}
use Rattle.xk_base.specs.declared.ids.Number.{Number}
use Rattle.xk_base.specs.declared.ids.Pid.{Pid}
use Rattle.xk_base.specs.declared.ids.Place.{Place}
use Rattle.xk_base.specs.declared.ids.ThreadId.{ThreadId}
use Rattle.xk_base.specs.declared.messages.MsgKind.{MsgKind}
use Rattle.xk_base.specs.declared.messages.MsgKind.TheVariants.{LendMut, Lend, Move, Scalar, BlockingScalar}
use Rattle.xk_base.specs.declared.pages.LoanKind.{LoanKind}
use Rattle.xk_base.specs.declared.pages.LoanKind.TheVariants.{Shared, Exclusive}
use Rattle.send_path.specs.Arrivals.{with_arrived}
use Rattle.xk_parts.specs.Shown.{server_of, server_with}
use Rattle.xk_parts.specs.Seats.{HasLoanIfLend, IsSeatOf, messages_at}
use Rattle.send_path.specs.Sending.{MayGo, Parcel, IsAboveMessages}
use Rattle.xk_parts.specs.Sound.{AreLoansAt, AreLoansSound, AreSeatsSound, IsLoanOf}
use Rattle.send_path.proofs.Servers.HeldListLemmas.{of_shown}
use Rattle.send_path.proofs.Servers.SeatLemmas.{seat_changed, seat_is_there, seat_other}
use Rattle.send_path.proofs.Servers.SoundLemmas.{seats_changed}

-- ---- all messages of a seat, with one that arrives

queued_all : (P : Held → Type 0) (xs ys : List Held) (h : Held) → P h → All P (xs ++ ys) → All P ((xs ++ h ∷ []) ++ ys)
queued_all P [] ys h here all = All-cons P h ys here all
queued_all P (x ∷ xs) ys h here all =
    All-cons P x ((xs ++ h ∷ []) ++ ys) (all zero x (omega arith))
    (queued_all P xs ys h here (λ k d l. let low : k < length (xs ++ ys) = l in all (suc k) d (omega arith)))

pub arrived_all : (P : Held → Type 0) (o : Option ThreadId) (h : Held) (seat : Seat) → P h → All P (messages_at seat)
    → All P (messages_at (with_arrived o h seat))
arrived_all P None h seat here all = queued_all P seat.queued seat.held h here all
arrived_all P (Some who) h seat here all = go (is_answered h.msg.kind)
  where
    go : (b : Bool) → All P (seat.queued ++ (if b then seat.held ++ h ∷ [] else seat.held))
    go true = subst (All P) (append_assoc seat.queued seat.held (h ∷ [])) (All-push P (messages_at seat) h all here)
    go false = all

pub arrived_seats : (servers : Servers) (seats : List Seat) (serial k : ℕ) → AreSeatsSound (servers_of servers) seats
    → IsSeatOf (servers_of servers) serial k → (o : Option ThreadId) (h : Held) → HasLoanIfLend h
    → AreSeatsSound (servers_of servers) (changed_at k (with_arrived o h) seats)
arrived_seats servers seats serial k sound its o h here =
    seats_changed servers seats serial k sound its (with_arrived o h)
    (arrived_all HasLoanIfLend o h (seat_of seats k) here (sound.loans k))

-- ---- the ledger of a send

module _ (procs : ℕ) (l : Ledger) (from : Place) (n : ℕ) (to : Place) (number : Number) where
  abbrev pub as_sent : MsgKind → Parcel
  as_sent kind = record { kind = kind; from = from; count = n; to = to; number = number }

  can_lend : (kind : MsgKind) (loan : LoanKind) → is_lend_mut kind ≡ is_exclusive loan → MayGo procs l (as_sent kind)
      → CanLend procs l from n to loan number
  can_lend kind loan mutably may = record {
    pages = sent_may_lend procs l from n loan may.there (ap (any_not_sent procs l from n) (sym mutably) ∙ may.sendable);
    free = may.arrival.free;
    lies = may.arrival.lies;
    fresh = may.fresh;
  }

  can_give : MayGo procs l (as_sent Move) → CanGive procs l from n to
  can_give may = record {
    pages = sent_may_move procs l from n false may.there may.sendable;
    free = may.arrival.free;
    lies = may.arrival.lies;
  }

  -- the loans of other numbers stand
  pub others_stand_after : (kind : MsgKind) → (carries_pages kind ≡ true → MayGo procs l (as_sent kind)) → (run : LoanRun)
      → run.number ≢ number → Stands (loans l) run → Stands (loans (sent_ledger kind from n to number l)) run
  others_stand_after LendMut may run other stands =
      stands_still (loans l) (loans (sent_ledger LendMut from n to number l)) run
      (lend_other procs from n to Exclusive number l (can_lend LendMut Exclusive refl (may refl)) run.number other) stands
  others_stand_after Lend may run other stands =
      stands_still (loans l) (loans (sent_ledger Lend from n to number l)) run
      (lend_other procs from n to Shared number l (can_lend Lend Shared refl (may refl)) run.number other) stands
  others_stand_after Move may run other stands =
      subst (λ all. Stands all run) (sym (give_loans procs from n to l (can_give (may refl)))) stands
  others_stand_after Scalar may run other stands = stands
  others_stand_after BlockingScalar may run other stands = stands

-- ---- the message and its loan

-- the loan that a send of the kind makes
abbrev pub loan_made : MsgKind → Place → ℕ → Place → Number → Option LoanRun
loan_made kind from n to number =
    option_map (λ (loaned : LoanKind). record { lender = Some from; holder = to; count = n; kind = loaned; number = number }) (loan_kind kind)

pub made_if_lend : (h : Held) (kind : MsgKind) (from : Place) (n : ℕ) (to : Place) (number : Number) → h.msg.kind ≡ kind
    → h.loan ≡ loan_made kind from n to number → HasLoanIfLend h
made_if_lend h kind from n to number is made = ap is_some made ∙ go kind ∙ ap is_lend (sym is)
  where
    go : (k : MsgKind) → is_some (loan_made k from n to number) ≡ is_lend k
    go LendMut = refl
    go Lend = refl
    go Move = refl
    go Scalar = refl
    go BlockingScalar = refl

module _ (all : Loans) (m : Machine) (w : List ℕ) (from : Place) (to : Place) (number : Number) (own : from.pid ≡ m.cursor.pid)
    (numbered : m.next_number ≡ number.0) where
  abbrev made : MsgKind → Option LoanRun
  made kind = loan_made kind from (sent_pages w) to number

  lent_so : (kind : MsgKind) (loaned : LoanKind) → IsLoanOf all to.pid (new_message m kind w to.vpn) (record { lender = Some from; holder = to; count = sent_pages w; kind = loaned; number = number })
      → (run : LoanRun) → Some (record { lender = Some from; holder = to; count = sent_pages w; kind = loaned; number = number }) ≡ Some run
      → IsLoanOf all to.pid (new_message m kind w to.vpn) run
  lent_so kind loaned is run e =
      subst (λ r. IsLoanOf all to.pid (new_message m kind w to.vpn) r)
      (same_Some (record { lender = Some from; holder = to; count = sent_pages w; kind = loaned; number = number }) run e) is

  -- the loan that a send makes is that of its message
  pub made_is : (kind : MsgKind) → IfSome (made kind) (λ run. Stands all run) → (run : LoanRun) → made kind ≡ Some run
      → IsLoanOf all to.pid (new_message m kind w to.vpn) run
  made_is LendMut stands run e =
      lent_so LendMut Exclusive (record { stands = stands; number = λ i. record { 0 = sym numbered i }; kind = refl; first = refl; count = refl; lender = (from, refl, own) }) run e
  made_is Lend stands run e =
      lent_so Lend Shared (record { stands = stands; number = λ i. record { 0 = sym numbered i }; kind = refl; first = refl; count = refl; lender = (from, refl, own) }) run e
  made_is Move stands run e = absurd (none-some run e)
  made_is Scalar stands run e = absurd (none-some run e)
  made_is BlockingScalar stands run e = absurd (none-some run e)

-- ---- all loans

module _ (servers : Servers) (seats : List Seat) (serial k : ℕ) (its : IsSeatOf (servers_of servers) serial k) (count : length seats ≡ 64)
    (all : Loans) (sound : AreLoansSound all (servers_of servers) seats) where
  -- the loans of a seat that changes are sound
  pub loans_changed : (f : Seat → Seat) → AreLoansAt all its.server.pid (f (seat_of seats k))
      → AreLoansSound all (servers_of servers) (changed_at k f seats)
  loans_changed f changed n v e = go (nat_eq n serial) refl
    where
      here : n ≡ serial → AreLoansAt all v.pid (seat_of (changed_at k f seats) v.seat)
      here same =
          let is : its.server ≡ v = same_Some its.server v (sym its.live ∙ ap (servers_of servers).live (sym same) ∙ e) in
          let at_its : v.seat ≡ k = ap (λ (w : TableServer). w.seat) (sym is) ∙ its.its in
          subst (λ s. AreLoansAt all v.pid s)
          (sym (ap (seat_of (changed_at k f seats)) at_its ∙ seat_changed seats k f (seat_is_there servers seats serial k its count)))
          (subst (λ (w : TableServer). AreLoansAt all w.pid (f (seat_of seats k))) is changed)

      there : n ≢ serial → AreLoansAt all v.pid (seat_of (changed_at k f seats) v.seat)
      there ne =
          subst (λ s. AreLoansAt all v.pid s)
          (sym (seat_other seats k v.seat f (λ same. ne (seats_differ servers n serial v its.server e its.live (same ∙ sym its.its)))))
          (sound n v e)

      go : (b : Bool) → nat_eq n serial ≡ b → AreLoansAt all v.pid (seat_of (changed_at k f seats) v.seat)
      go true q = here (eqb-true n serial q)
      go false q = there (λ same. false≢true (sym q ∙ eq-eqb n serial same))

  -- .. and so they are where a message arrives with its loan
  pub loans_arrived : (got : Option ThreadId) (h : Held) → ((run : LoanRun) → h.loan ≡ Some run → IsLoanOf all its.server.pid h.msg run)
      → AreLoansSound all (servers_of servers) (changed_at k (with_arrived got h) seats)
  loans_arrived got h its_loan =
      loans_changed (with_arrived got h)
      (arrived_all (λ x. (run : LoanRun) → x.loan ≡ Some run → IsLoanOf all its.server.pid x.msg run) got h (seat_of seats k) its_loan
      (subst (λ j. AreLoansAt all its.server.pid (seat_of seats j)) its.its (sound serial its.server its.live)))

module _ (servers : Servers) (seats : List Seat) (number : Number) (above : IsAboveMessages number servers seats) (before after : Loans)
    (stand : (run : LoanRun) → run.number ≢ number → Stands before run → Stands after run) where
  abbrev Below : Held → Type 0
  Below h = h.msg.number.0 < number.0

  below : (n : ℕ) (v : TableServer) → (servers_of servers).live n ≡ Some v → All Below (messages_at (seat_of seats v.seat))
  below n v e =
      of_shown (λ x. x.number.0 < number.0) (messages_at (seat_of seats v.seat))
      (subst (All (λ x. x.number.0 < number.0)) (sym (map-append message_of (seat_of seats v.seat).queued (seat_of seats v.seat).held))
      (above n (server_with (seat_of seats v.seat) v) (ap (option_map (server_of seats)) e)))

  kept : (pid : Pid) (hs : List Held) → All Below hs → All (λ h. (run : LoanRun) → h.loan ≡ Some run → IsLoanOf before pid h.msg run) hs
      → All (λ h. (run : LoanRun) → h.loan ≡ Some run → IsLoanOf after pid h.msg run) hs
  kept pid hs low all i d l run e =
      let was : IsLoanOf before pid (get_or hs i d).msg run = all i d l run e in
      let less : (get_or hs i d).msg.number.0 < number.0 = low i d l in
      record {
        stands = stand run (λ same.
            let is : (get_or hs i d).msg.number.0 ≡ number.0 = ap (λ (q : Number). q.0) (sym was.number ∙ same) in absurd (omega arith)) was.stands;
        number = was.number;
        kind = was.kind;
        first = was.first;
        count = was.count;
        lender = was.lender;
      }

  pub arrived_loans : AreLoansSound before (servers_of servers) seats → (serial k : ℕ) (its : IsSeatOf (servers_of servers) serial k)
      → length seats ≡ 64 → (o : Option ThreadId) (h : Held)
      → ((run : LoanRun) → h.loan ≡ Some run → IsLoanOf after its.server.pid h.msg run)
      → AreLoansSound after (servers_of servers) (changed_at k (with_arrived o h) seats)
  arrived_loans sound serial k its count o h here =
      loans_arrived servers seats serial k its count after (λ n v e. kept v.pid (messages_at (seat_of seats v.seat)) (below n v e) (sound n v e)) o h here
