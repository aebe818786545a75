-- The loan of a message is held at its server, and is of pages of its sender.
use Rattle.std.proofs.Common.{◌≡◌, ℕ, ◌<◌, ◌≤◌, Bool, ◌&&◌, true, false, inl, inr, length, Option, Some, None, refl, sym, ap, ◌∙◌, subst, arith, is_some, get_or}
use Rattle.std.specs.Prelude.{◌==◌, if◌then◌else◌}
use Rattle.std.specs.List.{list_any}
use Rattle.std.specs.Option.{option_map_or}
use Rattle.std.proofs.lemmas.Bool.{and_parts, eq-eqb, eqb-true, false≢true}
use Rattle.std.proofs.lemmas.Option.{none-some, same_Some}
use Rattle.xk_base.specs.declared.ids.Number.{Number}
use Rattle.xk_base.specs.declared.ids.Pid.{Pid}
use Rattle.xk_base.specs.declared.ids.Place.{Place}
use Rattle.xk_base.specs.declared.ids.ThreadId.{ThreadId}
use Rattle.xk_base.specs.declared.messages.Message.{Message}
use Rattle.xk_base.specs.declared.pages.LoanKind.{LoanKind}
use Rattle.xk_base.specs.Tables.Counting.{least_below}
use Rattle.xk_base.proofs.CountingLemmas.{least_below-passes}
use Rattle.ledger_model.specs.Lawful.{IsLawful}
use Rattle.ledger_model.specs.Ledger.{PageLoan, loan_at}
use Rattle.ledger_model.specs.Loans.{LoanRun, Stands, lent_from, loan_of_run, loans, of_number, same_number}
use Rattle.ledger_model.specs.Places.{in_run, moved}
use Rattle.ledger_model.proofs.LedgerLemmas.{same_number-true}
use Rattle.ledger_model.proofs.PlaceLemmas.{in_run-true}
use Rattle.machine_model.specs.Ending.Closing.{any_server, is_message_at, server_passes}
use Rattle.machine_model.specs.Messaging.MessageCounts.{HasAtMostOne, count_at, count_in}
use Rattle.machine_model.specs.Messaging.Messages.{is_lend, is_lend_of, is_of_number, is_sent_from, loan_kind}
use Rattle.machine_model.specs.Runs.Matched.{AreLoansMatched, IsMessageLent, IsOnLoan, Matched, lend_run}
use Rattle.machine_model.specs.State.Machine.{Machine, Server}
use Rattle.machine_model.specs.State.Servers.{messages_of}
use Rattle.machine_model.proofs.Matching.CountLemmas.{first_in}
use Rattle.machine_model.proofs.Matching.OneMessageLemmas.{HasServer, one_server, same_or_not}
use Rattle.machine_laws.proofs.Messaging.AnyServerLemmas.{messages_apart, number_counted, one_listed, only_at}
use Rattle.machine_laws.proofs.Messaging.ListedLemmas.{listed_at}

-- what is matched of loans and the numbers of messages
pub record HasLoans (m : Machine) : Type 0 where
  pub lawful : IsLawful m.processes m.capacity m.ledger
  pub loans : AreLoansMatched (loans m.ledger) m.servers
  pub numbers : (number : Number) → HasAtMostOne m.servers (is_of_number number)

pub has_loans : (m : Machine) → Matched m → HasLoans m
has_loans m h = record { lawful = h.body.ledger.lawful; loans = h.body.loans; numbers = h.body.servers.numbers }

-- ---- the loan of a message

-- a page on loan by this run: its holder is at the run's holder, and its home at the lender
module _ (m : Machine) (number : Number) (p : Place) (loan : PageLoan) (there : loan_at m.ledger p ≡ Some loan) (is : loan.number ≡ number) where
  -- a loan of the run is at the places of the run
  of_run : (r : LoanRun) → r.number ≡ number → Stands (loans m.ledger) r → loan_of_run r p ≡ Some loan
  unfolding loans
  of_run r same stands = sym (stands.homes p) ∙ (ap (of_number r.number) there ∙ ap (λ b. if b then Some loan else None) named)
    where
      named : same_number loan.number r.number ≡ true
      named = subst (λ k. same_number loan.number k ≡ true) (is ∙ sym same) (eq-eqb loan.number.0 loan.number.0 refl)

  of_lender : (r : LoanRun) (from : Place) → lent_from r from p ≡ Some loan → (loan.holder.pid ≡ r.holder.pid) × (p.pid.0 ≡ from.pid.0)
  of_lender r from e = go (in_run from r.count p) refl e
    where
      go : (b : Bool) → in_run from r.count p ≡ b
          → (if b then Some (record { holder = moved from r.holder p; kind = r.kind; number = r.number }) else None) ≡ Some loan
          → (loan.holder.pid ≡ r.holder.pid) × (p.pid.0 ≡ from.pid.0)
      go true q f = (
        ap (λ (x : PageLoan). x.holder.pid) (sym (same_Some (record { holder = moved from r.holder p; kind = r.kind; number = r.number }) loan f)),
        (in_run-true from r.count p q).pid,
      )
      go false q f = absurd (none-some loan f)

  -- of a lend of that number at a server
  pub record IsOf (server : Server) (message : Message) : Type 0 where
    pub holder : loan.holder.pid ≡ server.pid
    pub home : (who : ThreadId) → message.sender ≡ Some who → p.pid.0 ≡ who.pid.0

  of_sender : (server : Server) (message : Message) (kind : LoanKind) → message.number ≡ number → (o : Option ThreadId) → message.sender ≡ o
      → IsOnLoan (loans m.ledger) server message kind o → IsOf server message
  of_sender server message kind same None e stands = absurd (none-some loan (of_run (lend_run server message kind None) same stands))
  of_sender server message kind same (Some who) e on =
      let at = of_lender (lend_run server message kind (Some on.0)) on.0 (of_run (lend_run server message kind (Some on.0)) same on.2) in
      record {
        holder = at.0;
        home = λ other f. at.1 ∙ (ap (λ (x : Pid). x.0) on.1 ∙ ap (λ (x : ThreadId). x.pid.0) (same_Some who other (sym e ∙ f)));
      }

  pub of_message : (server : Server) (message : Message) → IsMessageLent (loans m.ledger) server message → is_lend_of number message ≡ true
      → IsOf server message
  of_message server message lent lends = go (loan_kind message.kind) refl parts.1
    where
      parts : (is_of_number number message ≡ true) × (is_lend message.kind ≡ true)
      parts = and_parts (is_of_number number message) (is_lend message.kind) lends

      go : (o : Option LoanKind) → loan_kind message.kind ≡ o → is_some o ≡ true → IsOf server message
      go None e f = absurd (false≢true f)
      go (Some kind) e f =
          of_sender server message kind (same_number-true message.number number parts.0) message.sender refl (lent kind e).loan

-- ---- the message of a loan

module _ (m : Machine) (h : HasLoans m) (p : Place) (loan : PageLoan) (there : loan_at m.ledger p ≡ Some loan) where
  -- the one lend of its number, where it is
  record HasLend : Type 0 where
    serial : ℕ
    server : Server
    live : m.servers serial ≡ Some server
    index : ℕ
    default : Message
    low : index < length (messages_of server)
    lends : is_lend_of loan.number (get_or (messages_of server) index default) ≡ true

  lend_there : HasLend
  unfolding loans
  lend_there =
      let at : HasServer m.servers (is_lend_of loan.number) = one_server m.servers (is_lend_of loan.number) (h.loans.loans_sent p loan there) in
      let place = first_in (is_lend_of loan.number) (messages_of at.server) at.some in
      record {
        serial = at.serial;
        server = at.server;
        live = at.live;
        index = place.0;
        default = place.1;
        low = place.2;
        lends = place.3;
      }

  abbrev the_lend : Message
  the_lend = get_or (messages_of lend_there.server) lend_there.index lend_there.default

  is_its : IsOf m loan.number p loan there refl lend_there.server the_lend
  is_its =
      of_message m loan.number p loan there refl lend_there.server the_lend
      (h.loans.lends lend_there.serial lend_there.server lend_there.live lend_there.index lend_there.default lend_there.low) lend_there.lends

  numbered : is_of_number loan.number the_lend ≡ true
  numbered = (and_parts (is_of_number loan.number the_lend) (is_lend the_lend.kind) lend_there.lends).0

  -- a message of the number is counted where it is
  counted : (server : Server) (j : ℕ) (d : Message) → j < length (messages_of server) → is_of_number loan.number (get_or (messages_of server) j d) ≡ true
      → 1 ≤ count_in (is_of_number loan.number) (messages_of server)
  counted server j d low e =
      subst (λ (k : Number). 1 ≤ count_in (is_of_number k) (messages_of server))
      (same_number-true (get_or (messages_of server) j d).number loan.number e) (number_counted (messages_of server) j d low)

  -- whatever server has a message of the number, it is that server
  same_place_of : (n : ℕ) (server : Server) → m.servers n ≡ Some server → (j : ℕ) (d : Message) → j < length (messages_of server)
      → is_of_number loan.number (get_or (messages_of server) j d) ≡ true → n ≡ lend_there.serial
  same_place_of n server live j d low e = elim (same_or_not n lend_there.serial) [
    | inl same ↦ same
    | inr other ↦
        let none : count_at (is_of_number loan.number) (m.servers n) ≡ 0 =
        only_at m.servers h.numbers loan.number lend_there.serial
        (subst (λ o. 1 ≤ count_at (is_of_number loan.number) o) (sym lend_there.live)
        (counted lend_there.server lend_there.index lend_there.default lend_there.low numbered)) n other in
        let some : 1 ≤ count_at (is_of_number loan.number) (m.servers n) =
        subst (λ o. 1 ≤ count_at (is_of_number loan.number) o) (sym live) (counted server j d low e) in
        absurd (omega arith)
  ]

  same_server_of : (n : ℕ) (server : Server) → m.servers n ≡ Some server → (j : ℕ) (d : Message) → j < length (messages_of server)
      → is_of_number loan.number (get_or (messages_of server) j d) ≡ true → server ≡ lend_there.server
  same_server_of n server live j d low e =
      same_Some server lend_there.server (sym live ∙ (ap m.servers (same_place_of n server live j d low e) ∙ lend_there.live))

  -- so the loan is held by that server's process
  pub held_at_server : (n : ℕ) (server : Server) → m.servers n ≡ Some server → (j : ℕ) (d : Message) → j < length (messages_of server)
      → is_of_number loan.number (get_or (messages_of server) j d) ≡ true → loan.holder.pid ≡ server.pid
  held_at_server n server live j d low e = is_its.holder ∙ ap (λ (x : Server). x.pid) (sym (same_server_of n server live j d low e))

  -- .. and is of a page of the process that the message was sent from
  pub home_of_sender : (n : ℕ) (server : Server) → m.servers n ≡ Some server → (j : ℕ) (d : Message) → j < length (messages_of server)
      → is_of_number loan.number (get_or (messages_of server) j d) ≡ true → (pid : Pid) → is_sent_from pid (get_or (messages_of server) j d) ≡ true
      → p.pid.0 ≡ pid.0
  home_of_sender n server live j d low e pid sent = go the_lend.sender refl its
    where
      told : (s : Server) → s ≡ lend_there.server → (x : Message) → x ≡ get_or (messages_of s) j d → j < length (messages_of s)
          → is_of_number loan.number x ≡ true → is_sent_from pid x ≡ true → is_sent_from pid the_lend ≡ true
      told s same x at low numbered_too from =
          let list = messages_of lend_there.server in
          let apart = messages_apart m.servers h.numbers lend_there.serial lend_there.server lend_there.live in
          let here = one_listed (is_sent_from pid) list apart j d (subst (λ (y : Server). j < length (messages_of y)) same low) in
          let mine = one_listed (is_sent_from pid) list apart lend_there.index lend_there.default lend_there.low in
          let its_number : (get_or list j d).number ≡ loan.number =
          same_number-true (get_or list j d).number loan.number (ap (is_of_number loan.number) (sym (at ∙ ap (λ (y : Server). get_or (messages_of y) j d) same)) ∙ numbered_too) in
          let my_number : the_lend.number ≡ loan.number = same_number-true the_lend.number loan.number numbered in
          sym mine
          ∙ (ap (λ (k : Number). list_any (λ y. is_of_number k y && is_sent_from pid y) list) (my_number ∙ sym its_number)
          ∙ (here ∙ (ap (is_sent_from pid) (sym (at ∙ ap (λ (y : Server). get_or (messages_of y) j d) same)) ∙ from)))

      its : is_sent_from pid the_lend ≡ true
      its = told server (same_server_of n server live j d low e) (get_or (messages_of server) j d) refl low e sent

      go : (o : Option ThreadId) → the_lend.sender ≡ o → is_sent_from pid the_lend ≡ true → p.pid.0 ≡ pid.0
      go None q r = absurd (false≢true (sym (ap (λ o. option_map_or (λ who. who.pid.0 == pid.0) o false) q) ∙ r))
      go (Some who) q r =
          is_its.home who q ∙ eqb-true who.pid.0 pid.0 (sym (ap (λ o. option_map_or (λ x. x.pid.0 == pid.0) o false) q) ∙ r)

-- ---- any server

-- where a server passes there is one that does
pub some_server : (m : Machine) (test : ℕ → Server → Bool) → any_server m test ≡ true
    → (n : ℕ) × (server : Server) × (m.servers n ≡ Some server) × (test n server ≡ true)
unfolding any_server
some_server m test e = go (least_below m.next_serial (λ n. server_passes (test n) (m.servers n))) refl e
  where
    at : (n : ℕ) (o : Option Server) → m.servers n ≡ o → server_passes (test n) o ≡ true
        → (k : ℕ) × (server : Server) × (m.servers k ≡ Some server) × (test k server ≡ true)
    at n None q r = absurd (false≢true r)
    at n (Some server) q r = (n, server, q, r)

    go : (o : Option ℕ) → least_below m.next_serial (λ n. server_passes (test n) (m.servers n)) ≡ o → is_some o ≡ true
        → (k : ℕ) × (server : Server) × (m.servers k ≡ Some server) × (test k server ≡ true)
    go None q r = absurd (false≢true r)
    go (Some n) q r =
        at n (m.servers n) refl (least_below-passes m.next_serial (λ k. server_passes (test k) (m.servers k)) n q)

-- a loan whose number is that of a message at servers of a set is held by the process of such a server
pub at_servers : (m : Machine) → HasLoans m → (which : ℕ → Bool) (p : Place) (loan : PageLoan) → loan_at m.ledger p ≡ Some loan
    → is_message_at which m loan.number ≡ true
    → (n : ℕ) × (server : Server) × (m.servers n ≡ Some server) × (which n ≡ true) × (loan.holder.pid ≡ server.pid)
at_servers m h which p loan there e =
    let at = some_server m (λ n server. which n && list_any (is_of_number loan.number) (messages_of server)) e in
    let parts = and_parts (which at.0) (list_any (is_of_number loan.number) (messages_of at.1)) at.3 in
    let place = listed_at (is_of_number loan.number) (messages_of at.1) parts.1 in
    (at.0, at.1, at.2, parts.0, held_at_server m h p loan there at.0 at.1 at.2 place.0 place.1 place.2 place.3)
