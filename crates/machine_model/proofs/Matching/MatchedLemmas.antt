-- What a matched machine says of its threads, messages and loans.
use Rattle.std.proofs.Common.{◌≡◌, ℕ, ◌<◌, ◌≤◌, Bool, true, false, inl, inr, Option, Some, None, get_or, refl, sym, ap, ◌∙◌, arith}
use Rattle.std.specs.Prelude.{◌==◌, is_some}
use Rattle.std.specs.List.{All, Contains}
use Rattle.std.specs.Option.{option_map_or}
use Rattle.std.proofs.lemmas.Bool.{and_from, and_parts, eq-eqb, eqb-true, false≢true}
use Rattle.std.proofs.lemmas.List.Elements.{Contains-get_or}
use Rattle.xk_base.specs.declared.ids.Number.{Number}
use Rattle.xk_base.specs.declared.ids.ThreadId.{ThreadId}
use Rattle.xk_base.specs.declared.messages.Message.{Message}
use Rattle.xk_base.specs.declared.pages.LoanKind.{LoanKind}
use Rattle.xk_base.specs.Tables.Circle.{is_thread_id, same_thread}
use Rattle.ledger_model.specs.Loans.{IsFresh, loans, of_number, orphan_of_number, same_number}
use Rattle.ledger_model.proofs.LedgerLemmas.{cases_Option}
use Rattle.ledger_model.proofs.Loans.OfNumberLemmas.{of_number-Some, orphan_of_number-Some}
use Rattle.machine_model.specs.Messaging.MessageCounts.{HasIf, HasNone, HasOne, count_at, count_in}
use Rattle.machine_model.specs.Messaging.Messages.{is_lend, is_lend_of, is_of_number, is_sent_by, loan_kind}
use Rattle.machine_model.specs.Runs.Matched.{Matched, IsLendMatched, is_sent_as, is_waiting_for, waits_for}
use Rattle.machine_model.specs.State.Machine.{Machine, Server, Thread}
use Rattle.machine_model.specs.State.Servers.{messages_of}
use Rattle.machine_model.proofs.Matching.CountLemmas.{first_in, none_counted, none_pass}
use Rattle.machine_model.proofs.Matching.OneMessageLemmas.{HasServer, one_server}

some_kind : (o : Option LoanKind) → is_some o ≡ true → (kind : LoanKind) × (o ≡ Some kind)
some_kind None e = absurd (false≢true e)
some_kind (Some kind) e = (kind, refl)

same_thread-self : (id : ThreadId) → same_thread id id ≡ true
same_thread-self id = and_from (id.pid.0 == id.pid.0) (id.tid.0 == id.tid.0) (eq-eqb id.pid.0 id.pid.0 refl) (eq-eqb id.tid.0 id.tid.0 refl)

module _ (m : Machine) (h : Matched m) where
  -- ---- messages

  -- each sender is a thread that is Waiting for its message
  pub senders_wait : (n : ℕ) (server : Server) → m.servers n ≡ Some server
      → All (λ message. (who : ThreadId) → message.sender ≡ Some who → waits_for m.threads who message.number ≡ true) (messages_of server)
  senders_wait n server e k d l who sent = go (get_or (messages_of server) k d) refl
    where
      go : (x : Message) → get_or (messages_of server) k d ≡ x → waits_for m.threads who (get_or (messages_of server) k d).number ≡ true
      go x q = by_wait (waits_for m.threads who (get_or (messages_of server) k d).number) refl
          (h.body.senders.senders who (get_or (messages_of server) k d).number)
        where
          passes : is_sent_as who (get_or (messages_of server) k d).number (get_or (messages_of server) k d) ≡ true
          passes =
              and_from (is_of_number (get_or (messages_of server) k d).number (get_or (messages_of server) k d))
              (is_sent_by who (get_or (messages_of server) k d))
              (eq-eqb (get_or (messages_of server) k d).number.0 (get_or (messages_of server) k d).number.0 refl)
              (ap (λ o. option_map_or (same_thread who) o false) sent ∙ same_thread-self who)

          by_wait : (b : Bool) → waits_for m.threads who (get_or (messages_of server) k d).number ≡ b
              → HasIf b m.servers (is_sent_as who (get_or (messages_of server) k d).number) → b ≡ true
          by_wait true w one = refl
          by_wait false w none =
              let here : count_in (is_sent_as who (get_or (messages_of server) k d).number) (messages_of server) ≡ 0 =
              sym (ap (count_at (is_sent_as who (get_or (messages_of server) k d).number)) e) ∙ none n in
              absurd (false≢true (sym (none_pass (is_sent_as who (get_or (messages_of server) k d).number) (messages_of server) here k d l) ∙ passes))

  -- a thread that waits for a message is there
  pub waiting_thread : (who : ThreadId) (number : Number) → waits_for m.threads who number ≡ true
      → (t : Thread) × (m.threads who ≡ Some t) × (is_waiting_for number t.state ≡ true)
  waiting_thread who number w = go (m.threads who) refl w
    where
      go : (o : Option Thread) → m.threads who ≡ o → option_map_or (λ t. is_waiting_for number t.state) o false ≡ true
          → (t : Thread) × (m.threads who ≡ Some t) × (is_waiting_for number t.state ≡ true)
      go None e q = absurd (false≢true q)
      go (Some t) e q = (t, e, q)

  -- .. and so its id is one of the processes'
  pub senders_known : (n : ℕ) (server : Server) → m.servers n ≡ Some server
      → All (λ message. (who : ThreadId) → message.sender ≡ Some who → is_thread_id m.processes who ≡ true) (messages_of server)
  senders_known n server e k d l who sent =
      let there = waiting_thread who (get_or (messages_of server) k d).number (senders_wait n server e k d l who sent) in
      h.body.ids.known who there.0 there.1

  -- no message has a number from the next one on
  pub number_is_new : (number : Number) → m.next_number ≤ number.0 → HasNone m.servers (is_of_number number)
  number_is_new number high n = go (m.servers n) refl
    where
      go : (o : Option Server) → m.servers n ≡ o → count_at (is_of_number number) o ≡ 0
      go None e = refl
      go (Some server) e = none_counted (is_of_number number) (messages_of server) (λ k d l.
          apart (get_or (messages_of server) k d).number.0 (h.rest.above.numbers n server e k d l) ((get_or (messages_of server) k d).number.0 == number.0) refl)
        where
          apart : (a : ℕ) → a < m.next_number → (b : Bool) → (a == number.0) ≡ b → b ≡ false
          apart a low true q = let same : a ≡ number.0 = eqb-true a number.0 q in absurd (omega arith)
          apart a low false q = refl

  -- ---- loans

  -- the lend that has a number
  pub record IsLent (number : Number) : Type 0 where
    pub serial : ℕ
    pub server : Server
    pub live : m.servers serial ≡ Some server
    pub message : Message
    pub listed : Contains (messages_of server) message
    pub same : message.number ≡ number
    pub kind : LoanKind
    pub lend : IsLendMatched (loans m.ledger) server message kind
    pub low : number.0 < m.next_number

  pub lent_by : (number : Number) → HasOne m.servers (is_lend_of number) → IsLent number
  lent_by number one = go (one_server m.servers (is_lend_of number) one)
    where
      go : HasServer m.servers (is_lend_of number) → IsLent number
      go at =
          let here = first_in (is_lend_of number) (messages_of at.server) at.some in
          let message : Message = get_or (messages_of at.server) here.0 here.1 in
          let parts : (same_number message.number number ≡ true) × (is_lend message.kind ≡ true) =
          and_parts (same_number message.number number) (is_lend message.kind) here.3 in
          let kind = some_kind (loan_kind message.kind) parts.1 in
          let number_same : message.number.0 ≡ number.0 = eqb-true message.number.0 number.0 parts.0 in
          let low : message.number.0 < m.next_number = h.rest.above.numbers at.serial at.server at.live here.0 here.1 here.2 in
          record {
            serial = at.serial;
            server = at.server;
            live = at.live;
            message = message;
            listed = Contains-get_or (messages_of at.server) here.0 here.1 here.2;
            same = λ i. record { 0 = number_same i };
            kind = kind.0;
            lend = h.body.loans.lends at.serial at.server at.live here.0 here.1 here.2 kind.0 kind.1;
            low = omega (arith, number_same, low);
          }

  -- a number from the next one on is fresh
  pub number_is_fresh : (number : Number) → m.next_number ≤ number.0 → IsFresh (loans m.ledger) number
  number_is_fresh number high = record {
    homes = λ p. elim (cases_Option (of_number number ((loans m.ledger).home p))) [
      | inl none ↦ none
      | inr there ↦
          let parts = of_number-Some number ((loans m.ledger).home p) there.0 there.1 in
          let low : there.0.number.0 < m.next_number = (lent_by there.0.number (h.body.loans.loans_sent p there.0 parts.0)).low in
          let same : there.0.number.0 ≡ number.0 = ap (λ (x : Number). x.0) parts.1 in
          absurd (omega arith)
    ];
    orphans = λ p. elim (cases_Option (orphan_of_number number ((loans m.ledger).orphan p))) [
      | inl none ↦ none
      | inr there ↦
          let parts = orphan_of_number-Some number ((loans m.ledger).orphan p) there.0 there.1 in
          let low : there.0.number.0 < m.next_number = (lent_by there.0.number (h.body.loans.orphans_sent p there.0 parts.0)).low in
          let same : there.0.number.0 ≡ number.0 = ap (λ (x : Number). x.0) parts.1 in
          absurd (omega arith)
    ];
  }
