-- The message of an orphan: it is at a server of the process that has the orphan's place, and has no sender.
use Rattle.std.proofs.Common.{◌≡◌, ℕ, ◌<◌, ◌≤◌, Bool, ◌&&◌, true, false, inl, inr, length, List, Option, Some, None, refl, sym, ap, ◌∙◌, subst, arith, is_some, get_or}
use Rattle.std.specs.Prelude.{◌==◌, if◌then◌else◌}
use Rattle.std.specs.List.{list_any}
use Rattle.std.specs.Option.{option_map, option_map_or}
use Rattle.std.proofs.lemmas.Bool.{and_parts, eq-eqb, false≢true}
use Rattle.std.proofs.lemmas.Option.{none-some, same_Some}
use Rattle.xk_base.specs.declared.ids.Number.{Number}
use Rattle.xk_base.specs.declared.ids.Pid.{Pid}
use Rattle.xk_base.specs.declared.ids.Place.{Place}
use Rattle.xk_base.specs.declared.ids.ThreadId.{ThreadId}
use Rattle.xk_base.specs.declared.messages.Message.{Message}
use Rattle.xk_base.specs.declared.pages.LoanKind.{LoanKind}
use Rattle.ledger_model.specs.Ledger.{Orphan}
use Rattle.ledger_model.specs.Loans.{LoanRun, Stands, loan_of_orphan, loans, orphan_of_number, orphan_of_run, same_number}
use Rattle.ledger_model.specs.Places.{in_run}
use Rattle.ledger_model.proofs.LedgerLemmas.{same_number-true}
use Rattle.ledger_model.proofs.PlaceLemmas.{in_run-true}
use Rattle.machine_model.specs.Ending.Closing.{is_message_at}
use Rattle.machine_model.specs.Messaging.MessageCounts.{count_at, count_in}
use Rattle.machine_model.specs.Messaging.Messages.{is_lend, is_lend_of, is_of_number, is_sent_from, loan_kind}
use Rattle.machine_model.specs.Runs.Matched.{IsMessageLent, IsOnLoan, lend_run}
use Rattle.machine_model.specs.State.Machine.{Machine, Server}
use Rattle.machine_model.specs.State.Servers.{messages_of}
use Rattle.machine_model.proofs.Matching.CountLemmas.{first_in}
use Rattle.machine_model.proofs.Matching.OneMessageLemmas.{HasServer, one_server, same_or_not}
use Rattle.machine_laws.proofs.Messaging.AnyServerLemmas.{AreApart, messages_apart, number_counted, one_listed, only_at}
use Rattle.machine_laws.proofs.Messaging.ListedLemmas.{PassingServer, listed_at, passing_server}
use Rattle.noninterference_laws.proofs.Seeing.HeldLemmas.{HasLoans}
use Rattle.noninterference_laws.proofs.OtherLemmas.{same_pid}

module _ (m : Machine) (h : HasLoans m) (q : Place) (orphan : Orphan) (there : m.ledger.orphan q ≡ Some orphan) where
  -- ---- its lend

  -- the run that has it is at its place, and has no lender
  of_run : (r : LoanRun) → r.number ≡ orphan.number → Stands (loans m.ledger) r → orphan_of_run r q ≡ Some (loan_of_orphan orphan)
  unfolding loans
  of_run r same stands =
      sym (stands.orphans q)
      ∙ (ap (λ o. orphan_of_number r.number (option_map loan_of_orphan o)) there
      ∙ ap (λ b. if b then Some (loan_of_orphan orphan) else None) named)
    where
      named : same_number orphan.number r.number ≡ true
      named = subst (λ k. same_number orphan.number k ≡ true) (sym same) (eq-eqb orphan.number.0 orphan.number.0 refl)

  record IsOf (server : Server) (message : Message) : Type 0 where
    holder : q.pid ≡ server.pid
    left : message.sender ≡ None

  of_sender : (server : Server) (message : Message) (kind : LoanKind) → message.number ≡ orphan.number → (o : Option ThreadId) → message.sender ≡ o
      → IsOnLoan (loans m.ledger) server message kind o → IsOf server message
  of_sender server message kind same None e stands =
      record { holder = go (in_run (lend_run server message kind None).holder message.count q) refl at; left = e }
    where
      at : orphan_of_run (lend_run server message kind None) q ≡ Some (loan_of_orphan orphan)
      at = of_run (lend_run server message kind None) same stands

      go : (b : Bool) → in_run (lend_run server message kind None).holder message.count q ≡ b
          → (if b then Some (record { kind = kind; number = message.number }) else None) ≡ Some (loan_of_orphan orphan) → q.pid ≡ server.pid
      go true f g = same_pid q.pid server.pid (in_run-true (lend_run server message kind None).holder message.count q f).pid
      go false f g = absurd (none-some (loan_of_orphan orphan) g)
  of_sender server message kind same (Some who) e on =
      absurd (none-some (loan_of_orphan orphan) (of_run (lend_run server message kind (Some on.0)) same on.2))

  of_message : (server : Server) (message : Message) → IsMessageLent (loans m.ledger) server message → is_lend_of orphan.number message ≡ true
      → IsOf server message
  of_message server message lent lends = go (loan_kind message.kind) refl parts.1
    where
      parts : (is_of_number orphan.number message ≡ true) × (is_lend message.kind ≡ true)
      parts = and_parts (is_of_number orphan.number message) (is_lend message.kind) lends

      go : (o : Option LoanKind) → loan_kind message.kind ≡ o → is_some o ≡ true → IsOf server message
      go None e f = absurd (false≢true f)
      go (Some kind) e f =
          of_sender server message kind (same_number-true message.number orphan.number parts.0) message.sender refl (lent kind e).loan

  record HasLend : Type 0 where
    serial : ℕ
    server : Server
    live : m.servers serial ≡ Some server
    index : ℕ
    default : Message
    low : index < length (messages_of server)
    lends : is_lend_of orphan.number (get_or (messages_of server) index default) ≡ true

  lend_there : HasLend
  unfolding loans
  lend_there =
      let at : HasServer m.servers (is_lend_of orphan.number) =
      one_server m.servers (is_lend_of orphan.number) (h.loans.orphans_sent q (loan_of_orphan orphan) (ap (option_map loan_of_orphan) there)) in
      let place = first_in (is_lend_of orphan.number) (messages_of at.server) at.some in
      record {
        serial = at.serial;
        server = at.server;
        live = at.live;
        index = place.0;
        default = place.1;
        low = place.2;
        lends = place.3;
      }

  abbrev the_lend : Message
  the_lend = get_or (messages_of lend_there.server) lend_there.index lend_there.default

  is_its : IsOf lend_there.server the_lend
  is_its =
      of_message lend_there.server the_lend
      (h.loans.lends lend_there.serial lend_there.server lend_there.live lend_there.index lend_there.default lend_there.low) lend_there.lends

  numbered : the_lend.number ≡ orphan.number
  numbered =
      same_number-true the_lend.number orphan.number
      (and_parts (is_of_number orphan.number the_lend) (is_lend the_lend.kind) lend_there.lends).0

  -- ---- whatever message has its number

  module _ (n : ℕ) (server : Server) (live : m.servers n ≡ Some server) (j : ℕ) (d : Message) (low : j < length (messages_of server))
      (is : is_of_number orphan.number (get_or (messages_of server) j d) ≡ true) where
    abbrev list : List Message
    list = messages_of server

    abbrev message : Message
    message = get_or list j d

    is_number : message.number ≡ orphan.number
    is_number = same_number-true message.number orphan.number is

    same_serial : n ≡ lend_there.serial
    same_serial = elim (same_or_not n lend_there.serial) [
      | inl same ↦ same
      | inr other ↦
          let its : 1 ≤ count_at (is_of_number orphan.number) (m.servers lend_there.serial) =
          subst (λ o. 1 ≤ count_at (is_of_number orphan.number) o) (sym lend_there.live)
          (subst (λ k. 1 ≤ count_in (is_of_number k) (messages_of lend_there.server)) numbered
          (number_counted (messages_of lend_there.server) lend_there.index lend_there.default lend_there.low)) in
          let none : count_at (is_of_number orphan.number) (m.servers n) ≡ 0 =
          only_at m.servers h.numbers orphan.number lend_there.serial its n other in
          let some : 1 ≤ count_at (is_of_number orphan.number) (m.servers n) =
          subst (λ o. 1 ≤ count_at (is_of_number orphan.number) o) (sym live)
          (subst (λ k. 1 ≤ count_in (is_of_number k) (messages_of server)) is_number (number_counted (messages_of server) j d low)) in
          absurd (omega arith)
    ]

    same_server : server ≡ lend_there.server
    same_server = same_Some server lend_there.server (sym live ∙ (ap m.servers same_serial ∙ lend_there.live))

    -- is at a server of the process that has the place
    pub at_its_server : server.pid ≡ q.pid
    at_its_server = ap (λ (x : Server). x.pid) same_server ∙ sym is_its.holder

    -- .. and is sent by nobody
    pub not_sent : (pid : Pid) → is_sent_from pid message ≡ false
    not_sent pid =
        sym (one_listed (is_sent_from pid) list apart j d low)
        ∙ (ap (λ (k : Number). list_any (λ y. is_of_number k y && is_sent_from pid y) list) (is_number ∙ sym numbered)
        ∙ (ap (λ (s : Server). list_any (λ y. is_of_number the_lend.number y && is_sent_from pid y) (messages_of s)) same_server
        ∙ (one_listed (is_sent_from pid) (messages_of lend_there.server)
        (messages_apart m.servers h.numbers lend_there.serial lend_there.server lend_there.live) lend_there.index lend_there.default lend_there.low
        ∙ ap (λ o. option_map_or (λ (who : ThreadId). who.pid.0 == pid.0) o false) is_its.left)))
      where
        apart : AreApart list
        apart = messages_apart m.servers h.numbers n server live

  -- a message of its number at servers of a set is at one of the process that has the place
  pub at_servers_of : (which : ℕ → Bool) → is_message_at which m orphan.number ≡ true
      → (n : ℕ) × (server : Server) × (m.servers n ≡ Some server) × (which n ≡ true) × (server.pid ≡ q.pid)
  at_servers_of which e =
      let at : PassingServer m (λ n server. which n && list_any (is_of_number orphan.number) (messages_of server)) =
      passing_server m (λ n server. which n && list_any (is_of_number orphan.number) (messages_of server)) e in
      let parts = and_parts (which at.serial) (list_any (is_of_number orphan.number) (messages_of at.server)) at.passes in
      let place = listed_at (is_of_number orphan.number) (messages_of at.server) parts.1 in
      (at.serial, at.server, at.live, parts.0, at_its_server at.serial at.server at.live place.0 place.1 place.2 place.3)
