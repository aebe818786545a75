-- Messages of a process that dies: where a loan's number is that of one, the process is the loan's lender.
use Rattle.std.proofs.Common.{◌≡◌, ℕ, ◌+◌, ◌<◌, true, false, length, get_or, Some, refl, sym, ap, ◌∙◌, arith}
use Rattle.std.specs.Prelude.{◌&&◌, ◌==◌}
use Rattle.std.specs.List.{list_any}
use Rattle.std.specs.Option.{option_map_or}
use Rattle.std.proofs.lemmas.Bool.{and_from, and_parts, eqb-true, false≢true}
use Rattle.std.proofs.lemmas.List.{get_or-append-add, get_or_append_left, length-append}
use Rattle.xk_base.specs.declared.ids.Number.{Number}
use Rattle.xk_base.specs.declared.ids.Pid.{Pid}
use Rattle.xk_base.specs.declared.ids.Place.{Place}
use Rattle.xk_base.specs.declared.ids.ThreadId.{ThreadId}
use Rattle.xk_base.specs.declared.messages.Message.{Message}
use Rattle.ledger_model.specs.Ledger.{PageLoan}
use Rattle.ledger_model.specs.Loans.{LoanRun, loans}
use Rattle.ledger_model.specs.Places.{moved}
use Rattle.ledger_model.proofs.LedgerLemmas.{loan_at-page}
use Rattle.ledger_model.proofs.Loans.OfNumberLemmas.{stands-home}
use Rattle.machine_model.specs.Ending.Closing.{is_held_from}
use Rattle.machine_model.specs.Messaging.Messages.{is_lend, is_lend_of, is_of_number, is_sent_from}
use Rattle.machine_model.specs.Runs.LoanSpan.{IsOut}
use Rattle.machine_model.specs.Runs.Matched.{Matched, is_living}
use Rattle.machine_model.specs.State.Machine.{Machine, Server}
use Rattle.machine_model.specs.State.Servers.{messages_of}
use Rattle.machine_laws.proofs.Messaging.ListedLemmas.{PassingServer, at_listed, listed_at, passing_server}
use Rattle.loan_laws.proofs.Leaving.SameRunLemmas.{first_in_run}
use Rattle.loan_laws.proofs.Lending.LendMessageLemmas.{From, HasMessage, IsRunOf, IsSentBy, Senderless, message_lends, message_of}
use Rattle.loan_laws.proofs.Lending.LendMessageLemmas.{message_run_is}

-- ---- queued and held messages among those of their server

pub queued_message : (m : Machine) (number : Number) (serial : ℕ) (server : Server) → m.servers serial ≡ Some server → (j : ℕ) (d : Message)
    → j < length server.queued → is_of_number number (get_or server.queued j d) ≡ true
    → (x : HasMessage m number) × (message_of m number x ≡ get_or server.queued j d) × (x.server ≡ server)
queued_message m number serial server live j d low is =
    let same : get_or (messages_of server) j d ≡ get_or server.queued j d = get_or_append_left server.queued server.held d j low in
    let all : length (messages_of server) ≡ length server.queued + length server.held = length-append server.queued server.held in (
      record {
        serial = serial;
        server = server;
        live = live;
        index = j;
        default = d;
        low = omega arith;
        is = ap (is_of_number number) same ∙ is;
      },
      same,
      refl,
    )

pub held_message : (m : Machine) (number : Number) (serial : ℕ) (server : Server) → m.servers serial ≡ Some server → (j : ℕ) (d : Message)
    → j < length server.held → is_of_number number (get_or server.held j d) ≡ true
    → (x : HasMessage m number) × (message_of m number x ≡ get_or server.held j d) × (x.server ≡ server)
held_message m number serial server live j d low is =
    let same : get_or (messages_of server) (length server.queued + j) d ≡ get_or server.held j d =
    get_or-append-add server.queued server.held j d in
    let all : length (messages_of server) ≡ length server.queued + length server.held = length-append server.queued server.held in (
      record {
        serial = serial;
        server = server;
        live = live;
        index = length server.queued + j;
        default = d;
        low = omega arith;
        is = ap (is_of_number number) same ∙ is;
      },
      same,
      refl,
    )

-- ---- who sent it

pub record IsLenderOf (pid : Pid) (a : LoanRun) : Type 0 where
  pub home : Place
  pub lender : a.lender ≡ Some home
  pub own : home.pid.0 ≡ pid.0

sent_from_lender : (pid : Pid) (server : Server) (x : Message) (a : LoanRun) → IsRunOf server x a → is_sent_from pid x ≡ true → IsLenderOf pid a
sent_from_lender pid server x a run from = go run.sent from
  where
    go : IsSentBy run.lender x.sender → option_map_or (λ (who : ThreadId). who.pid.0 == pid.0) x.sender false ≡ true → IsLenderOf pid a
    go (Senderless none nobody) f =
        absurd (false≢true (sym (ap (λ o. option_map_or (λ (who : ThreadId). who.pid.0 == pid.0) o false) nobody) ∙ f))
    go (From home who e q same) f = record {
      home = home;
      lender = ap (λ (r : LoanRun). r.lender) run.run ∙ e;
      own = ap (λ (p : Pid). p.0) same
          ∙ eqb-true who.pid.0 pid.0 (sym (ap (λ o. option_map_or (λ (who : ThreadId). who.pid.0 == pid.0) o false) q) ∙ f);
    }

module _ (m : Machine) (number : Number) (h : Matched m) (a : LoanRun) (out : IsOut number m a) where
  of_message : (pid : Pid) (x : HasMessage m number) → is_sent_from pid (message_of m number x) ≡ true → IsLenderOf pid a
  of_message pid x from = sent_from_lender pid x.server (message_of m number x) a (message_run_is m number h a out x) from

  -- a lend that a thread of the process has queued
  pub record IsQueuedLend (pid : Pid) : Type 0 where
    pub serial : ℕ
    pub server : Server
    pub live : m.servers serial ≡ Some server
    pub queued : list_any (is_lend_of number) server.queued ≡ true
    pub by : IsLenderOf pid a

  pub queued_lend : (pid : Pid) (serial : ℕ) (server : Server) → m.servers serial ≡ Some server
      → list_any (λ x. is_of_number number x && is_sent_from pid x) server.queued ≡ true → IsQueuedLend pid
  queued_lend pid serial server live passes =
      let place = listed_at (λ x. is_of_number number x && is_sent_from pid x) server.queued passes in
      let y : Message = get_or server.queued place.0 place.1 in
      let parts : (is_of_number number y ≡ true) × (is_sent_from pid y ≡ true) = and_parts (is_of_number number y) (is_sent_from pid y) place.3 in
      let x = queued_message m number serial server live place.0 place.1 place.2 parts.0 in
      let lends : is_lend y.kind ≡ true = sym (ap (λ (z : Message). is_lend z.kind) x.1) ∙ message_lends m number h a out x.0 in
      record {
        serial = serial;
        server = server;
        live = live;
        queued = at_listed (is_lend_of number) server.queued place.0 place.1 place.2 (and_from (is_of_number number y) (is_lend y.kind) parts.0 lends);
        by = of_message pid x.0 (ap (is_sent_from pid) x.1 ∙ parts.1);
      }

  -- .. and one that others hold
  pub held_lender : (pid : Pid) → is_held_from pid m number ≡ true → IsLenderOf pid a
  held_lender pid e =
      let at : PassingServer m (λ n server. list_any (λ x. is_of_number number x && is_sent_from pid x) server.held) = passing_server m _ e in
      let place = listed_at (λ x. is_of_number number x && is_sent_from pid x) at.server.held at.passes in
      let y : Message = get_or at.server.held place.0 place.1 in
      let parts : (is_of_number number y ≡ true) × (is_sent_from pid y ≡ true) = and_parts (is_of_number number y) (is_sent_from pid y) place.3 in
      let x = held_message m number at.serial at.server at.live place.0 place.1 place.2 parts.0 in
      of_message pid x.0 (ap (is_sent_from pid) x.1 ∙ parts.1)

  -- a lender lives
  pub lender_lives : (home : Place) → a.lender ≡ Some home → is_living m home.pid ≡ true
  unfolding loans
  lender_lives home e =
      let loan : PageLoan = record { holder = moved home a.holder home; kind = a.kind; number = a.number } in
      let page = loan_at-page m.ledger home loan (stands-home (loans m.ledger) a home home out.stands e (first_in_run home a.count out.some)) in
      h.body.ledger.homes_live home page.0 page.1
