-- Where servers close, the loans of their messages are those of the set that ends: the server that has a loan's message is one of them.
use Rattle.std.proofs.Common.{◌≡◌, ℕ, Bool, true, false, Some, refl, sym, ◌∙◌}
use Rattle.std.specs.List.{list_any}
use Rattle.std.proofs.lemmas.Bool.{and_from, false≢true}
use Rattle.xk_base.specs.declared.ids.Number.{Number}
use Rattle.ledger_model.specs.Loans.{LoanRun}
use Rattle.machine_model.specs.Ending.Closing.{is_message_at}
use Rattle.machine_model.specs.Messaging.Messages.{is_lend, is_lend_of, is_of_number}
use Rattle.machine_model.specs.Runs.LoanSpan.{IsOut}
use Rattle.machine_model.specs.Runs.Matched.{Matched}
use Rattle.machine_model.specs.State.Machine.{Machine, Server}
use Rattle.machine_model.specs.State.Servers.{messages_of}
use Rattle.machine_laws.proofs.Messaging.ClosedServerLemmas.{not_closed}
use Rattle.machine_laws.proofs.Messaging.ListedLemmas.{at_listed}
use Rattle.loan_laws.proofs.Lending.LendMessageLemmas.{HasMessage, lend_there, message_lends, message_of, none_elsewhere}

-- a server of these has the lend of the number
pub record IsLendAt (which : ℕ → Bool) (m : Machine) (number : Number) : Type 0 where
  pub serial : ℕ
  pub server : Server
  pub live : m.servers serial ≡ Some server
  pub closes : which serial ≡ true
  pub sent : list_any (is_lend_of number) (messages_of server) ≡ true

pub lend_listed : (m : Machine) (number : Number) → Matched m → (a : LoanRun) → IsOut number m a → (x : HasMessage m number)
    → list_any (is_lend_of number) (messages_of x.server) ≡ true
lend_listed m number h a out x =
    at_listed (is_lend_of number) (messages_of x.server) x.index x.default x.low
    (and_from (is_of_number number (message_of m number x)) (is_lend (message_of m number x).kind) x.is (message_lends m number h a out x))

pub lend_of_closed : (m : Machine) (number : Number) (h : Matched m) (which : ℕ → Bool) → is_message_at which m number ≡ true → (a : LoanRun)
    → IsOut number m a → IsLendAt which m number
lend_of_closed m number h which e a out = go (lend_there m number h a out).at
  where
    go : HasMessage m number → IsLendAt which m number
    go x = by (which x.serial) refl
      where
        by : (b : Bool) → which x.serial ≡ b → IsLendAt which m number
        by true q = record { serial = x.serial; server = x.server; live = x.live; closes = q; sent = lend_listed m number h a out x }
        by false q =
            absurd (false≢true (sym (not_closed m h which x.serial x.server x.live q number (none_elsewhere m number h x)) ∙ e))
