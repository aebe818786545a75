-- No page is on loan by the number of a message that isn't a lend, so that its end changes no loan. What isn't on loan stays.
use Rattle.std.proofs.Common.{◌≡◌, ℕ, ◌<◌, Bool, true, false, [], get_or, length, Option, Some, None, refl, sym, ap, ◌∙◌, subst}
use Rattle.std.specs.Prelude.{◌&&◌}
use Rattle.std.specs.Option.{option_map}
use Rattle.std.proofs.lemmas.Bool.{eqb-true, false≢true}
use Rattle.xk_base.specs.declared.ids.Number.{Number}
use Rattle.xk_base.specs.declared.ids.Place.{Place}
use Rattle.xk_base.specs.declared.messages.Message.{Message}
use Rattle.ledger_model.specs.Ledger.{Ledger, Orphan, Page, PageLoan, loan_at, loan_of}
use Rattle.ledger_model.specs.Loans.{loan_of_orphan, loans, same_number}
use Rattle.ledger_model.proofs.LedgerLemmas.{same_ledger}
use Rattle.machine_model.specs.Messaging.LoanSets.{end_loans, freed_but, loan_but, orphan_but}
use Rattle.machine_model.specs.Messaging.MessageCounts.{HasOne}
use Rattle.machine_model.specs.Messaging.Messages.{is_lend, is_lend_of, is_of_number}
use Rattle.machine_model.specs.Runs.Matched.{Matched}
use Rattle.machine_model.specs.State.Machine.{Machine, Server}
use Rattle.machine_model.specs.State.Servers.{messages_of}
use Rattle.machine_model.proofs.Matching.CountLemmas.{first_in}
use Rattle.machine_model.proofs.Matching.OneMessageLemmas.{HasServer, one_server}
use Rattle.machine_laws.proofs.Returning.ReturnCallLemmas.{unique}
use Rattle.machine_laws.proofs.Messaging.ListedLemmas.{at_listed}

-- ---- where no loan and no orphan is of the set

module _ (ends : Number → Bool) (l : Ledger)
    (homes : (p : Place) (loan : PageLoan) → loan_at l p ≡ Some loan → ends loan.number ≡ false)
    (orphans : (p : Place) (orphan : Orphan) → l.orphan p ≡ Some orphan → ends orphan.number ≡ false) where
  loan_same : (o : Option PageLoan) → ((loan : PageLoan) → o ≡ Some loan → ends loan.number ≡ false) → loan_but ends o ≡ o
  loan_same None h = refl
  loan_same (Some loan) h = rw (h loan refl) refl

  orphan_same : (o : Option Orphan) → ((orphan : Orphan) → o ≡ Some orphan → ends orphan.number ≡ false) → orphan_but ends o ≡ o
  orphan_same None h = refl
  orphan_same (Some orphan) h = rw (h orphan refl) refl

  page_same : (o : Option Page) → ((loan : PageLoan) → loan_of o ≡ Some loan → ends loan.number ≡ false) → option_map (freed_but ends) o ≡ o
  page_same None h = refl
  page_same (Some page) h = λ i. Some (record page { loan = loan_same page.loan h i })

  pub no_loan_ends : end_loans ends l ≡ l
  unfolding end_loans
  no_loan_ends =
      same_ledger (end_loans ends l) l (λ p. page_same (l.home p) (homes p)) (λ p. orphan_same (l.orphan p) (orphans p))

-- ---- a held message that isn't a lend

module _ (m : Machine) (h : Matched m) (k : ℕ) (server : Server) (e : m.servers k ≡ Some server) (j : ℕ) (d : Message) (low : j < length server.held)
    (other : is_lend (get_or server.held j d).kind ≡ false) where
  abbrev x : Message
  x = get_or server.held j d

  -- no lend has its number
  not_lent : (number : Number) → HasOne m.servers (is_lend_of number) → same_number number x.number ≡ false
  not_lent number one = go (same_number number x.number) refl
    where
      lend_there : number.0 ≡ x.number.0 → HasServer m.servers (is_lend_of number) → is_lend x.kind ≡ true
      lend_there same there =
          let at = first_in (is_lend_of number) (messages_of there.server) there.some in
          unique m h k server e j d low [] (λ y. is_lend y.kind) there.serial there.server there.live
          (at_listed (λ z. is_of_number x.number z && is_lend z.kind) (messages_of there.server) at.0 at.1 at.2
          (subst (λ (n : Number). is_lend_of n (get_or (messages_of there.server) at.0 at.1) ≡ true) (λ i. record { 0 = same i }) at.3))

      go : (b : Bool) → same_number number x.number ≡ b → b ≡ false
      go false q = refl
      go true q = absurd (false≢true (sym other ∙ lend_there (eqb-true number.0 x.number.0 q) (one_server m.servers (is_lend_of number) one)))

  pub nothing_ends : end_loans (λ n. same_number n x.number) m.ledger ≡ m.ledger
  unfolding loans
  nothing_ends =
      no_loan_ends (λ n. same_number n x.number) m.ledger
      (λ p loan q. not_lent loan.number (h.body.loans.loans_sent p loan q))
      (λ p orphan q. not_lent orphan.number (h.body.loans.orphans_sent p (loan_of_orphan orphan) (ap (option_map loan_of_orphan) q)))
