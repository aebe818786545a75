-- A page of a process that dies was on loan, and no orphan stands where it was lent: then its loan is over, and no server has its message.
use Rattle.std.proofs.Common.{◌≡◌, ◌⊎◌, ℕ, ◌≤◌, Bool, ◌&&◌, true, false, get_or, Option, Some, None, is_none, is_some, refl, sym, ap, ◌∙◌, inl, inr}
use Rattle.std.specs.Prelude.{if◌then◌else◌}
use Rattle.std.specs.List.{All}
use Rattle.std.specs.Option.{option_and_then, option_map}
use Rattle.std.proofs.lemmas.Bool.{and_parts, false≢true}
use Rattle.std.proofs.lemmas.Option.{none-some, same_Some}
use Rattle.xk_base.specs.declared.ids.Number.{Number}
use Rattle.xk_base.specs.declared.ids.Place.{Place}
use Rattle.xk_base.specs.declared.ids.ThreadId.{ThreadId}
use Rattle.xk_base.specs.declared.messages.Message.{Message}
use Rattle.xk_base.specs.declared.pages.LoanKind.{LoanKind}
use Rattle.ledger_model.specs.Ledger.{Page, PageLoan, loan_of}
use Rattle.ledger_model.specs.Loans.{LoanRun, OrphanLoan, lent_from, loan_of_orphan, loan_of_run, loans, of_number, orphan_of_number, orphan_of_run}
use Rattle.ledger_model.specs.Places.{in_run, moved}
use Rattle.ledger_model.proofs.LedgerLemmas.{same_number-at, same_number-true}
use Rattle.ledger_model.proofs.PlaceLemmas.{moved-in_run}
use Rattle.machine_model.specs.Messaging.MessageCounts.{count_at}
use Rattle.machine_model.specs.Messaging.Messages.{is_lend, is_lend_of, is_of_number, loan_kind}
use Rattle.machine_model.specs.Runs.LoanSpan.{IsForwarded, IsIn, IsOut}
use Rattle.machine_model.specs.Runs.Matched.{IsMessageLent, IsOnLoan, Matched, lend_run}
use Rattle.machine_model.specs.Runs.Moments.{Moment}
use Rattle.machine_model.specs.State.Machine.{Machine, Server}
use Rattle.machine_model.specs.State.Servers.{messages_of}
use Rattle.machine_model.proofs.Matching.CountLemmas.{none_counted}
use Rattle.machine_model.proofs.Runs.SpanLemmas.{not_both}
use Rattle.loan_laws.specs.Fates.{Fate, IsKept}

-- where a page that is on loan stands in the run of its number
record StandsIn (r : LoanRun) (p : Place) (loan : PageLoan) : Type 0 where
  from : Place
  lender : r.lender ≡ Some from
  inside : in_run from r.count p ≡ true
  holder : moved from r.holder p ≡ loan.holder

stands_in : (r : LoanRun) (p : Place) (loan : PageLoan) → loan_of_run r p ≡ Some loan → StandsIn r p loan
stands_in r p loan e = go r.lender refl e
  where
    of_test : (from : Place) → r.lender ≡ Some from → (b : Bool) → in_run from r.count p ≡ b
        → (if b then Some (record { holder = moved from r.holder p; kind = r.kind; number = r.number }) else None) ≡ Some loan → StandsIn r p loan
    of_test from lender true q f = record {
      from = from;
      lender = lender;
      inside = q;
      holder = ap (λ (x : PageLoan). x.holder)
          (same_Some (record { holder = moved from r.holder p; kind = r.kind; number = r.number }) loan f);
    }
    of_test from lender false q f = absurd (none-some loan f)

    go : (o : Option Place) → r.lender ≡ o → option_and_then (λ from. lent_from r from p) o ≡ Some loan → StandsIn r p loan
    go None lender f = absurd (none-some loan f)
    go (Some from) lender f = of_test from lender (in_run from r.count p) refl f

module _ (before : Machine) (moment : Moment) (p : Place) (page : Page) (loan : PageLoan) (there : before.ledger.home p ≡ Some page)
    (lent : page.loan ≡ Some loan) (gone : moment.machine.ledger.home p ≡ None) (none : moment.machine.ledger.orphan loan.holder ≡ None)
    (fate : Fate loan.number before moment) (unforwarded : (a : LoanRun) → IsForwarded loan.number a before moment → ⊥) where
  -- the run of the loan has the page
  run_has : (a : LoanRun) → IsOut loan.number before a → loan_of_run a p ≡ Some loan
  unfolding loans
  run_has a out =
      sym (out.stands.homes p)
      ∙ (ap (of_number a.number) (ap loan_of there ∙ lent)
      ∙ ap (λ b. if b then Some loan else None) (same_number-at loan.number a.number (sym out.numbered)))

  no_home : (b : LoanRun) → IsOut loan.number moment.machine b → loan_of_run b p ≡ None
  unfolding loans
  no_home b out = sym (out.stands.homes p) ∙ ap (λ o. of_number b.number (loan_of o)) gone

  no_orphan : (b : LoanRun) → IsOut loan.number moment.machine b → orphan_of_run b loan.holder ≡ None
  unfolding loans
  no_orphan b out = sym (out.stands.orphans loan.holder) ∙ ap (λ o. orphan_of_number b.number (option_map loan_of_orphan o)) none

  -- the run can't stand on
  not_out : (a b : LoanRun) → IsOut loan.number before a → IsOut loan.number moment.machine b → ⊥
  not_out a b out now = go kept.holder
    where
      kept : IsKept loan.number before moment a b
      kept = fate.keeps a b out now

      at : StandsIn a p loan
      at = stands_in a p loan (run_has a out)

      of_lender : a.holder ≡ b.holder → (o : Option Place) → b.lender ≡ o → ⊥
      of_lender same (Some home) e =
          let from : at.from ≡ home = same_Some at.from home (sym at.lender ∙ kept.lender home e) in
          let inside : in_run home b.count p ≡ true = (λ i. in_run (sym from i) (sym kept.count i) p) ∙ at.inside in
          let made : PageLoan = record { holder = moved home b.holder p; kind = b.kind; number = b.number } in
          none-some made
          (sym (no_home b now)
          ∙ (ap (λ o. option_and_then (λ x. lent_from b x p) o) e ∙ ap (λ c. if c then Some made else None) inside))
      of_lender same None e =
          let inside : in_run b.holder b.count loan.holder ≡ true =
          (λ i. in_run (sym same i) (sym kept.count i) (sym at.holder i)) ∙ moved-in_run at.from a.holder p a.count at.inside in
          let made : OrphanLoan = record { kind = b.kind; number = b.number } in
          none-some made
          (sym (no_orphan b now)
          ∙ (ap (λ o. if is_none o && in_run b.holder b.count loan.holder then Some made else None) e
          ∙ ap (λ c. if c then Some made else None) inside))

      go : (a.holder ≡ b.holder) ⊎ IsForwarded loan.number a before moment → ⊥
      go (inl same) = of_lender same b.lender refl
      go (inr forwarded) = unforwarded a forwarded

  pub loan_over : (a : LoanRun) → IsOut loan.number before a → IsIn loan.number moment.machine ⊎ ((b : LoanRun) × IsOut loan.number moment.machine b)
      → IsIn loan.number moment.machine
  loan_over a out (inl fresh) = fresh
  loan_over a out (inr now) = absurd (not_out a now.0 out now.1)

-- ---- the message of a loan that is over

-- no server has a lend of a number that no loan and no orphan has
module _ (m : Machine) (h : Matched m) (number : Number) (fresh : IsIn number m) (n : ℕ) where
  not_lent : (server : Server) (x : Message) → IsMessageLent (loans m.ledger) server x → is_lend_of number x ≡ true → ⊥
  not_lent server x lent lends = go (loan_kind x.kind) refl parts.1
    where
      parts : (is_of_number number x ≡ true) × (is_lend x.kind ≡ true)
      parts = and_parts (is_of_number number x) (is_lend x.kind) lends

      of_sender : (kind : LoanKind) → 1 ≤ x.count → (o : Option ThreadId) → IsOnLoan (loans m.ledger) server x kind o → ⊥
      of_sender kind some None stands =
          not_both m number (lend_run server x kind None) fresh
          (record { numbered = same_number-true x.number number parts.0; some = some; stands = stands })
      of_sender kind some (Some who) on =
          not_both m number (lend_run server x kind (Some on.0)) fresh
          (record { numbered = same_number-true x.number number parts.0; some = some; stands = on.2 })

      go : (o : Option LoanKind) → loan_kind x.kind ≡ o → is_some o ≡ true → ⊥
      go None e f = false≢true f
      go (Some kind) e f = let is = lent kind e in of_sender kind is.count x.sender is.loan

  none_lends : (server : Server) → m.servers n ≡ Some server → All (λ x. is_lend_of number x ≡ false) (messages_of server)
  none_lends server live k d low = go (is_lend_of number (get_or (messages_of server) k d)) refl
    where
      go : (b : Bool) → is_lend_of number (get_or (messages_of server) k d) ≡ b → b ≡ false
      go true e = absurd (not_lent server (get_or (messages_of server) k d) (h.body.loans.lends n server live k d low) e)
      go false e = refl

  pub none_lent : count_at (is_lend_of number) (m.servers n) ≡ 0
  none_lent = go (m.servers n) refl
    where
      go : (o : Option Server) → m.servers n ≡ o → count_at (is_lend_of number) (m.servers n) ≡ 0
      go None e = ap (count_at (is_lend_of number)) e
      go (Some server) e =
          ap (count_at (is_lend_of number)) e ∙ none_counted (is_lend_of number) (messages_of server) (none_lends server e)
