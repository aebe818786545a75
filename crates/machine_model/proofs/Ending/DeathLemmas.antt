-- The death of a process where there is no server: it is forgotten, and nobody is answered.
use Rattle.std.proofs.Common.{◌≡◌, ℕ, Bool, true, false, Option, Some, None, refl, sym, ap, ◌∙◌}
use Rattle.std.specs.Prelude.{is_some, if◌then◌else◌}
use Rattle.std.specs.Option.{option_map, option_and_then, option_or}
use Rattle.xk_base.specs.declared.ids.Number.{Number}
use Rattle.xk_base.specs.declared.ids.Pid.{Pid}
use Rattle.xk_base.proofs.CountingLemmas.{least_below-None}
use Rattle.ledger_model.specs.Ledger.{Ledger, Page, PageLoan}
use Rattle.ledger_model.specs.Reach.{lender_of}
use Rattle.ledger_model.proofs.LedgerLemmas.{same_ledger}
use Rattle.machine_model.specs.State.Changes.{only}
use Rattle.machine_model.specs.Ending.Closing.{any_server, server_passes, closed, is_message_at, is_sender_at, is_queued_from, is_held_from, servers_closed, senders_queued_gone, senders_held_gone, without_queued_from, with_senderless_from}
use Rattle.machine_model.specs.Ending.Ends.{death, forgotten}
use Rattle.machine_model.specs.Messaging.LoanSets.{orphan_loans, orphan_of_page, is_lent_by, page_but}
use Rattle.machine_model.specs.State.Machine.{Machine, Server}
use Rattle.machine_model.specs.State.Servers.{is_server_of}
use Rattle.machine_model.specs.State.Threads.{no_answers}
use Rattle.machine_model.proofs.Ending.ClosingLemmas.{nobody_refused}
use Rattle.machine_model.proofs.Messaging.LoanSetLemmas.{none_ends}

-- ---- where no number passes, no loan becomes an orphan

not_lent : (goes : Number → Bool) → ((n : Number) → goes n ≡ false) → (o : Option PageLoan) → is_lent_by goes o ≡ false
not_lent goes h None = refl
not_lent goes h (Some loan) = h loan.number

page_remains : (goes : Number → Bool) → ((n : Number) → goes n ≡ false) → (o : Option Page) → page_but goes o ≡ o
page_remains goes h None = refl
page_remains goes h (Some page) = ap (λ b. if b then None else Some page) (not_lent goes h page.loan)

no_orphan_by : (goes : Number → Bool) → ((n : Number) → goes n ≡ false) → (page : Page) → orphan_of_page goes page ≡ None
no_orphan_by goes h page = by_loan page.loan
  where
    by_loan : (o : Option PageLoan) → orphan_of_page goes (record page { loan = o }) ≡ None
    by_loan None = refl
    by_loan (Some loan) = rw (h loan.number) refl

no_orphan : (goes : Number → Bool) → ((n : Number) → goes n ≡ false) → (o : Option Page) → option_and_then (orphan_of_page goes) o ≡ None
no_orphan goes h None = refl
no_orphan goes h (Some page) = no_orphan_by goes h page

pub none_is_orphaned : (procs : ℕ) (goes : Number → Bool) → ((n : Number) → goes n ≡ false) → (l : Ledger) → orphan_loans procs goes l ≡ l
unfolding orphan_loans
none_is_orphaned procs goes h l =
    same_ledger (orphan_loans procs goes l) l (λ p. page_remains goes h (l.home p))
    (λ q. ap (λ o. option_or o (l.orphan q)) (no_orphan goes h (option_and_then l.home (lender_of procs l q))))

-- ---- where there is no server

abbrev pub HasNoServer : Machine → Type 0
HasNoServer m = (n : ℕ) → m.servers n ≡ None

module _ (m : Machine) (none : HasNoServer m) where
  passes_nowhere : (test : ℕ → Server → Bool) (k : ℕ) → server_passes (test k) (m.servers k) ≡ false
  passes_nowhere test k = ap (server_passes (test k)) (none k)

  no_server : (test : ℕ → Server → Bool) → any_server m test ≡ false
  unfolding any_server
  no_server test =
      ap is_some (least_below-None m.next_serial (λ n. server_passes (test n) (m.servers n)) (λ k l. passes_nowhere test k))

  -- closing servers, of which there is none, changes nothing
  none_closes : (which : ℕ → Bool) → closed which m ≡ only m
  unfolding closed
  none_closes which = λ i. record {
    machine = record m { ledger = ledger i; servers = λ n. there n (which n) i };
    answers = answers i;
    delivery = None;
    gone = None;
  }
    where
      ledger : (closed which m).machine.ledger ≡ m.ledger
      ledger = none_ends (is_message_at which m) (λ number. no_server _) m.ledger

      answers : (closed which m).answers ≡ no_answers
      answers = nobody_refused (is_sender_at which m) (λ id. no_server _)

      there : (n : ℕ) (b : Bool) → (if b then None else m.servers n) ≡ m.servers n
      there n true = sym (none n)
      there n false = refl

  none_queued : (pid : Pid) → senders_queued_gone pid m ≡ m
  unfolding senders_queued_gone
  none_queued pid = λ i. record m {
    ledger = none_ends (is_queued_from pid m) (λ number. no_server _) m.ledger i;
    servers = λ n. same n i;
  }
    where
      same : (n : ℕ) → option_map (without_queued_from pid) (m.servers n) ≡ m.servers n
      same n = ap (option_map (without_queued_from pid)) (none n) ∙ sym (none n)

  none_held : (pid : Pid) → senders_held_gone pid m ≡ m
  unfolding senders_held_gone
  none_held pid = λ i. record m {
    ledger = none_is_orphaned m.processes (is_held_from pid m) (λ number. no_server _) m.ledger i;
    servers = λ n. same n i;
  }
    where
      same : (n : ℕ) → option_map (with_senderless_from pid) (m.servers n) ≡ m.servers n
      same n = ap (option_map (with_senderless_from pid)) (none n) ∙ sym (none n)

  pub death_without_servers : (pid : Pid) → death pid m ≡ record (only (forgotten pid m)) { gone = Some pid }
  unfolding death servers_closed
  death_without_servers pid =
      (λ i. record (closes i) { machine = forgotten pid (senders_held_gone pid (senders_queued_gone pid (closes i).machine)); gone = Some pid })
      ∙ (λ i. record (only (forgotten pid (senders_held_gone pid (none_queued pid i)))) { gone = Some pid })
      ∙ (λ i. record (only (forgotten pid (none_held pid i))) { gone = Some pid })
    where
      closes : servers_closed pid m ≡ only m
      closes = none_closes (λ n. is_server_of pid (m.servers n))
