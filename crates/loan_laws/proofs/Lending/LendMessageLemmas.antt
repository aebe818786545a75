-- The message of a loan that is out: there is one lend of its number, and the loan is that of the message.
use Rattle.std.proofs.Common.{◌≡◌, ◌≢◌, ℕ, ◌<◌, ◌≤◌, Bool, true, length, get_or, Option, Some, None, refl, sym, ap, ◌∙◌, arith, inl, inr, subst}
use Rattle.std.specs.Prelude.{◌&&◌, is_some}
use Rattle.std.specs.List.{list_any}
use Rattle.std.proofs.lemmas.Bool.{and_from, and_parts, false≢true}
use Rattle.std.proofs.lemmas.Option.{same_Some}
use Rattle.xk_base.specs.declared.ids.Number.{Number}
use Rattle.xk_base.specs.declared.ids.Place.{Place}
use Rattle.xk_base.specs.declared.ids.ThreadId.{ThreadId}
use Rattle.xk_base.specs.declared.messages.Message.{Message}
use Rattle.xk_base.specs.declared.messages.MsgKind.{MsgKind}
use Rattle.xk_base.specs.declared.pages.LoanKind.{LoanKind}
use Rattle.ledger_model.specs.Loans.{LoanRun, Stands, loans}
use Rattle.ledger_model.proofs.LedgerLemmas.{cases_Option, same_number-true}
use Rattle.ledger_model.proofs.Loans.OfNumberLemmas.{orphan_of_number-Some, orphan_of_run-inside, stands-home}
use Rattle.ledger_model.specs.Places.{moved}
use Rattle.machine_model.specs.Messaging.MessageCounts.{HasOne, count_at, count_in}
use Rattle.machine_model.specs.Messaging.Messages.{is_lend, is_lend_of, is_of_number, loan_kind}
use Rattle.machine_model.specs.Runs.LoanSpan.{IsOut}
use Rattle.machine_model.specs.Runs.Matched.{IsLendMatched, IsMessageLent, IsOnLoan, Matched, lend_run}
use Rattle.machine_model.specs.State.Machine.{Machine, Server}
use Rattle.machine_model.specs.State.Servers.{messages_of}
use Rattle.machine_model.proofs.Matching.CountLemmas.{first_in}
use Rattle.machine_model.proofs.Matching.OneMessageLemmas.{HasServer, one_server, same_or_not}
use Rattle.machine_laws.proofs.Messaging.AnyServerLemmas.{messages_apart, number_counted, one_listed, only_at}
use Rattle.loan_laws.proofs.Leaving.SameRunLemmas.{first_in_run, one_loan}

-- ---- the loan of a message

-- a loan has a lender exactly where its message has a sender, who is of the lender's process
pub data IsSentBy (lender : Option Place) (sender : Option ThreadId) : Type 0 where
  Senderless : lender ≡ None → sender ≡ None → IsSentBy lender sender
  From : (home : Place) (who : ThreadId) → lender ≡ Some home → sender ≡ Some who → home.pid ≡ who.pid → IsSentBy lender sender

pub record IsRunOf (server : Server) (message : Message) (a : LoanRun) : Type 0 where
  pub kind : LoanKind
  pub lender : Option Place
  pub run : a ≡ lend_run server message kind lender
  pub sent : IsSentBy lender message.sender

lend_kind : (kind : MsgKind) → is_lend kind ≡ true → (k : LoanKind) × (loan_kind kind ≡ Some k)
lend_kind kind e = go (loan_kind kind) refl e
  where
    go : (o : Option LoanKind) → loan_kind kind ≡ o → is_some o ≡ true → (k : LoanKind) × (loan_kind kind ≡ Some k)
    go None q f = absurd (false≢true f)
    go (Some k) q f = (k, q)

pub run_of_message : (m : Machine) (number : Number) (server : Server) (message : Message) → IsMessageLent (loans m.ledger) server message
    → is_lend_of number message ≡ true → (a : LoanRun) → IsOut number m a → IsRunOf server message a
run_of_message m number server message lent is a out =
    let parts : (is_of_number number message ≡ true) × (is_lend message.kind ≡ true) = and_parts (is_of_number number message) (is_lend message.kind) is in
    let named : message.number ≡ number = same_number-true message.number number parts.0 in
    let kind = lend_kind message.kind parts.1 in
    go named kind.0 (lent kind.0 kind.1) message.sender refl (lent kind.0 kind.1).loan
  where
    by : message.number ≡ number → (kind : LoanKind) → 1 ≤ message.count → (lender : Option Place)
        → Stands (loans m.ledger) (lend_run server message kind lender) → a ≡ lend_run server message kind lender
    by named kind some lender stands =
        one_loan m number a (lend_run server message kind lender) out (record { numbered = named; some = some; stands = stands })

    go : message.number ≡ number → (kind : LoanKind) → IsLendMatched (loans m.ledger) server message kind → (o : Option ThreadId)
        → message.sender ≡ o → IsOnLoan (loans m.ledger) server message kind o → IsRunOf server message a
    go named kind h None e stands =
        record { kind = kind; lender = None; run = by named kind h.count None stands; sent = Senderless refl e }
    go named kind h (Some who) e loan =
        record { kind = kind; lender = Some loan.0; run = by named kind h.count (Some loan.0) loan.2; sent = From loan.0 who refl e loan.1 }

-- ---- there is one

lend_of_number : (m : Machine) (a b : Number) → a ≡ b → HasOne m.servers (is_lend_of a) → HasOne m.servers (is_lend_of b)
lend_of_number m a b e one = subst (λ k. HasOne m.servers (is_lend_of k)) e one

pub out_has_lend : (m : Machine) (number : Number) → Matched m → (a : LoanRun) → IsOut number m a → HasServer m.servers (is_lend_of number)
out_has_lend m number h a out = one_server m.servers (is_lend_of number) (elim (cases_Option a.lender) [
  | inl none ↦
      let there = orphan_of_number-Some a.number ((loans m.ledger).orphan a.holder) (record { kind = a.kind; number = a.number })
      (out.stands.orphans a.holder ∙ orphan_of_run-inside a a.holder none (first_in_run a.holder a.count out.some)) in
      lend_of_number m a.number number out.numbered (h.body.loans.orphans_sent a.holder (record { kind = a.kind; number = a.number }) there.0)
  | inr home ↦
      lend_of_number m a.number number out.numbered
      (h.body.loans.loans_sent home.0 (record { holder = moved home.0 a.holder home.0; kind = a.kind; number = a.number })
      (stands-home (loans m.ledger) a home.0 home.0 out.stands home.1 (first_in_run home.0 a.count out.some)))
])

-- a message of the number, at its place among those of a live server
pub record HasMessage (m : Machine) (number : Number) : Type 0 where
  pub serial : ℕ
  pub server : Server
  pub live : m.servers serial ≡ Some server
  pub index : ℕ
  pub default : Message
  pub low : index < length (messages_of server)
  pub is : is_of_number number (get_or (messages_of server) index default) ≡ true

abbrev pub message_of : (m : Machine) (number : Number) → HasMessage m number → Message
message_of m number at = get_or (messages_of at.server) at.index at.default

pub record HasLend (m : Machine) (number : Number) : Type 0 where
  pub at : HasMessage m number
  pub lends : is_lend (message_of m number at).kind ≡ true

pub lend_there : (m : Machine) (number : Number) → Matched m → (a : LoanRun) → IsOut number m a → HasLend m number
lend_there m number h a out =
    let at = out_has_lend m number h a out in
    let place = first_in (is_lend_of number) (messages_of at.server) at.some in
    let x : Message = get_or (messages_of at.server) place.0 place.1 in
    let parts : (is_of_number number x ≡ true) × (is_lend x.kind ≡ true) = and_parts (is_of_number number x) (is_lend x.kind) place.3 in
    record {
      at = record { serial = at.serial; server = at.server; live = at.live; index = place.0; default = place.1; low = place.2; is = parts.0 };
      lends = parts.1;
    }

-- ---- two messages of one number are the same

module _ (m : Machine) (number : Number) (h : Matched m) where
  counted_there : (x : HasMessage m number) → 1 ≤ count_at (is_of_number number) (m.servers x.serial)
  counted_there x =
      let message = get_or (messages_of x.server) x.index x.default in
      let some : 1 ≤ count_in (is_of_number message.number) (messages_of x.server) = number_counted (messages_of x.server) x.index x.default x.low in
      subst (λ o. 1 ≤ count_at (is_of_number number) o) (sym x.live)
      (subst (λ (k : Number). 1 ≤ count_in (is_of_number k) (messages_of x.server)) (same_number-true message.number number x.is) some)

  -- at one server
  pub one_serial : (x y : HasMessage m number) → x.serial ≡ y.serial
  one_serial x y = elim (same_or_not x.serial y.serial) [
    | inl same ↦ same
    | inr apart ↦
        let some : 1 ≤ count_at (is_of_number number) (m.servers x.serial) = counted_there x in
        let none : count_at (is_of_number number) (m.servers x.serial) ≡ 0 =
        only_at m.servers h.body.servers.numbers number y.serial (counted_there y) x.serial apart in
        absurd (omega arith)
  ]

  pub same_server : (x y : HasMessage m number) → x.server ≡ y.server
  same_server x y = same_Some x.server y.server (sym x.live ∙ (ap m.servers (one_serial x y) ∙ y.live))

  -- elsewhere there is none
  pub none_elsewhere : (x : HasMessage m number) (n : ℕ) → n ≢ x.serial → count_at (is_of_number number) (m.servers n) ≡ 0
  none_elsewhere x n other = only_at m.servers h.body.servers.numbers number x.serial (counted_there x) n other

  told_by_list : (Q : Message → Bool) (x : HasMessage m number)
      → list_any (λ z. is_of_number number z && Q z) (messages_of x.server) ≡ Q (get_or (messages_of x.server) x.index x.default)
  told_by_list Q x =
      let message = get_or (messages_of x.server) x.index x.default in
      ap (λ (k : Number). list_any (λ z. is_of_number k z && Q z) (messages_of x.server)) (sym (same_number-true message.number number x.is))
      ∙ one_listed Q (messages_of x.server) (messages_apart m.servers h.body.servers.numbers x.serial x.server x.live) x.index x.default x.low

  pub same_test : (Q : Message → Bool) (x y : HasMessage m number) → Q (message_of m number x) ≡ Q (message_of m number y)
  same_test Q x y =
      sym (told_by_list Q x)
      ∙ (ap (λ (s : Server). list_any (λ z. is_of_number number z && Q z) (messages_of s)) (same_server x y) ∙ told_by_list Q y)

  -- where the loan is out, its one message is a lend
  pub message_lends : (a : LoanRun) → IsOut number m a → (x : HasMessage m number) → is_lend (message_of m number x).kind ≡ true
  message_lends a out x =
      let lend = lend_there m number h a out in same_test (λ z. is_lend z.kind) x lend.at ∙ lend.lends

  pub message_run_is : (a : LoanRun) → IsOut number m a → (x : HasMessage m number) → IsRunOf x.server (message_of m number x) a
  message_run_is a out x =
      run_of_message m number x.server (message_of m number x) (h.body.loans.lends x.serial x.server x.live x.index x.default x.low)
      (and_from (is_of_number number (message_of m number x)) (is_lend (message_of m number x).kind) x.is (message_lends a out x)) a out
