-- What becomes of pages where loans end or go on: each that was lent is its owner's alone again, or has another holder, and each orphan of
-- such a loan is given up.
use Rattle.std.proofs.Common.{◌≡◌, ◌⊎◌, ℕ, Bool, true, false, Option, Some, None, refl, sym, ap, ◌∙◌, inl, inr, is_some}
use Rattle.std.specs.Prelude.{if◌then◌else◌}
use Rattle.std.specs.Option.{option_map}
use Rattle.std.proofs.lemmas.Option.{none-some}
use Rattle.xk_base.specs.declared.ids.Number.{Number}
use Rattle.xk_base.specs.declared.ids.Pid.{Pid}
use Rattle.xk_base.specs.declared.ids.Place.{Place}
use Rattle.xk_base.specs.declared.ids.ThreadId.{ThreadId}
use Rattle.ledger_model.specs.Ledger.{Homed, Ledger, Orphan, Orphaned, Page, PageLoan, PageName, loan_at, loan_of}
use Rattle.ledger_model.specs.Loans.{LoanRun, loan_of_orphan, loans, of_number, orphan_of_number, same_number}
use Rattle.ledger_model.specs.Places.{moved}
use Rattle.ledger_model.specs.Steps.{pass, passed, passed_loan}
use Rattle.ledger_model.proofs.LedgerLemmas.{same_number-at, same_number-true}
use Rattle.machine_model.specs.Ending.Closing.{is_message_at}
use Rattle.machine_model.specs.Messaging.LoanSets.{freed_but, loan_but, orphan_but}
use Rattle.machine_model.specs.Runs.LoanSpan.{IsIn, IsOut}
use Rattle.machine_model.specs.Runs.Matched.{Matched}
use Rattle.machine_model.specs.Runs.Moments.{Moment}
use Rattle.machine_model.specs.State.Machine.{Machine, Reservation, Server}
use Rattle.machine_model.proofs.Runs.SpanLemmas.{out_or_in}
use Rattle.noninterference_laws.proofs.Seeing.HeldLemmas.{at_servers, has_loans}
use Rattle.loan_laws.proofs.Lending.ClosedLendLemmas.{IsLendAt, lend_of_closed}
use Rattle.noninterference_laws.proofs.OrphanLemmas.{at_servers_of}
use Rattle.lifetime_laws.specs.Causes.{IsEndedBy, IsForwardedBy, ServerGone}
use Rattle.lifetime_laws.specs.Deeds.{Forwarded, Forwarding, GivenBack, GivenUp, Nothing, Returning, Stays, StaysOrphan}
use Rattle.lifetime_laws.specs.Lives.{PagesLive}
use Rattle.lifetime_laws.proofs.Lives.ServedLemmas.{same_pid}
use Rattle.lifetime_laws.proofs.Lives.TurnLemmas.{Empty, Goes, Lives, Turns, homes_live, turn_lives}

-- ---- loans that end

module _ (m : Machine) (moment : Moment) (ends : Number → Bool)
    (homes : (p : Place) → moment.machine.ledger.home p ≡ option_map (freed_but ends) (m.ledger.home p))
    (orphans : (q : Place) → moment.machine.ledger.orphan q ≡ orphan_but ends (m.ledger.orphan q))
    (why : (p : Place) (loan : PageLoan) → loan_at m.ledger p ≡ Some loan → ends loan.number ≡ true → IsEndedBy loan.holder.pid loan.number m moment)
    (why_orphan : (q : Place) (orphan : Orphan) → m.ledger.orphan q ≡ Some orphan → ends orphan.number ≡ true
    → IsEndedBy q.pid orphan.number m moment) where
  page_turns : (p : Place) (page : Page) → m.ledger.home p ≡ Some page → Turns m moment (Homed p)
  page_turns p page there = go page.loan refl
    where
      now : (o : Option PageLoan) → page.loan ≡ o → moment.machine.ledger.home p ≡ Some (record page { loan = loan_but ends o })
      now o lent = homes p ∙ (ap (option_map (freed_but ends)) there ∙ ap (λ x. Some (record page { loan = loan_but ends x })) lent)

      as_it_was : (o : Option PageLoan) → page.loan ≡ o → Some (record page { loan = o }) ≡ Some page
      as_it_was o lent = ap (λ x. Some (record page { loan = x })) (sym lent)

      stays : moment.machine.ledger.home p ≡ Some page → Turns m moment (Homed p)
      stays same = Lives (ap is_some there) (ap is_some same) Nothing (Stays p page there same)

      of_loan : (loan : PageLoan) → page.loan ≡ Some loan → (b : Bool) → ends loan.number ≡ b → Turns m moment (Homed p)
      of_loan loan lent true e =
          let back : moment.machine.ledger.home p ≡ Some (record page { loan = None }) =
          now (Some loan) lent ∙ ap (λ b. Some (record page { loan = if b then None else Some loan })) e in
          Lives (ap is_some there) (ap is_some back) (Returning loan.number)
          (GivenBack p page loan there lent back (why p loan (ap loan_of there ∙ lent) e))
      of_loan loan lent false e =
          stays (now (Some loan) lent ∙ (ap (λ b. Some (record page { loan = if b then None else Some loan })) e ∙ as_it_was (Some loan) lent))

      go : (o : Option PageLoan) → page.loan ≡ o → Turns m moment (Homed p)
      go None lent = stays (now None lent ∙ as_it_was None lent)
      go (Some loan) lent = of_loan loan lent (ends loan.number) refl

  home_turns : (p : Place) (o : Option Page) → m.ledger.home p ≡ o → Turns m moment (Homed p)
  home_turns p None there = Empty (ap is_some there) (ap is_some (homes p ∙ ap (option_map (freed_but ends)) there))
  home_turns p (Some page) there = page_turns p page there

  orphan_turns : (q : Place) (o : Option Orphan) → m.ledger.orphan q ≡ o → Turns m moment (Orphaned q)
  orphan_turns q None there = Empty (ap is_some there) (ap is_some (orphans q ∙ ap (orphan_but ends) there))
  orphan_turns q (Some orphan) there = go (ends orphan.number) refl
    where
      now : (b : Bool) → ends orphan.number ≡ b → moment.machine.ledger.orphan q ≡ (if b then None else Some orphan)
      now b e = orphans q ∙ (ap (orphan_but ends) there ∙ ap (λ c. if c then None else Some orphan) e)

      go : (b : Bool) → ends orphan.number ≡ b → Turns m moment (Orphaned q)
      go true e = Goes (ap is_some there) (ap is_some (now true e)) (GivenUp q orphan there (now true e) (why_orphan q orphan there e))
      go false e = Lives (ap is_some there) (ap is_some (now false e)) Nothing (StaysOrphan q orphan there (now false e))

  pub ended_lives : PagesLive m moment
  ended_lives = turn_lives m moment at
    where
      at : (name : PageName) → Turns m moment name
      at (Homed p) = home_turns p (m.ledger.home p) refl
      at (Orphaned q) = orphan_turns q (m.ledger.orphan q) refl

-- ---- a loan that goes on

module _ (m : Machine) (moment : Moment) (number : Number) (from to : Place) (is : moment.machine.ledger ≡ pass number from to m.ledger)
    (why : (p : Place) (loan : PageLoan) → loan_at m.ledger p ≡ Some loan → loan.number ≡ number
    → IsForwardedBy loan.holder.pid to.pid loan.number m moment) where
  home_passed : (p : Place) → moment.machine.ledger.home p ≡ option_map (passed number from to) (m.ledger.home p)
  unfolding pass
  home_passed p = ap (λ (l : Ledger). l.home p) is

  orphan_left : (q : Place) → moment.machine.ledger.orphan q ≡ m.ledger.orphan q
  unfolding pass
  orphan_left q = ap (λ (l : Ledger). l.orphan q) is

  passed_page : (p : Place) (page : Page) → m.ledger.home p ≡ Some page → Turns m moment (Homed p)
  passed_page p page there = go page.loan refl
    where
      now : (o : Option PageLoan) → page.loan ≡ o
          → moment.machine.ledger.home p ≡ Some (record page { loan = option_map (passed_loan number from to) o })
      now o lent =
          home_passed p
          ∙ (ap (option_map (passed number from to)) there ∙ ap (λ x. Some (record page { loan = option_map (passed_loan number from to) x })) lent)

      as_it_was : (o : Option PageLoan) → page.loan ≡ o → Some (record page { loan = o }) ≡ Some page
      as_it_was o lent = ap (λ x. Some (record page { loan = x })) (sym lent)

      stays : moment.machine.ledger.home p ≡ Some page → Turns m moment (Homed p)
      stays same = Lives (ap is_some there) (ap is_some same) Nothing (Stays p page there same)

      of_loan : (loan : PageLoan) → page.loan ≡ Some loan → (b : Bool) → same_number loan.number number ≡ b → Turns m moment (Homed p)
      of_loan loan lent true e =
          let on : moment.machine.ledger.home p ≡ Some (record page { loan = Some (record loan { holder = moved from to loan.holder }) }) =
          now (Some loan) lent
          ∙ ap (λ b. Some (record page { loan = Some (if b then record loan { holder = moved from to loan.holder } else loan) })) e in
          Lives (ap is_some there) (ap is_some on) (Forwarding loan.number)
          (Forwarded p page loan (moved from to loan.holder) there lent on
          (why p loan (ap loan_of there ∙ lent) (same_number-true loan.number number e)))
      of_loan loan lent false e =
          stays (now (Some loan) lent
          ∙ (ap (λ b. Some (record page { loan = Some (if b then record loan { holder = moved from to loan.holder } else loan) })) e
          ∙ as_it_was (Some loan) lent))

      go : (o : Option PageLoan) → page.loan ≡ o → Turns m moment (Homed p)
      go None lent = stays (now None lent ∙ as_it_was None lent)
      go (Some loan) lent = of_loan loan lent (same_number loan.number number) refl

  pub passed_lives : PagesLive m moment
  passed_lives = homes_live m moment orphan_left (λ p. at p (m.ledger.home p) refl)
    where
      at : (p : Place) (o : Option Page) → m.ledger.home p ≡ o → Turns m moment (Homed p)
      at p None e = Empty (ap is_some e) (ap is_some (home_passed p ∙ ap (option_map (passed number from to)) e))
      at p (Some page) e = passed_page p page e

-- ---- the loan of a page and of an orphan

module _ (m : Machine) (h : Matched m) where
  pub out_of_loan : (p : Place) (loan : PageLoan) → loan_at m.ledger p ≡ Some loan → (a : LoanRun) × IsOut loan.number m a
  unfolding loans
  out_of_loan p loan there = go (out_or_in m loan.number h)
    where
      go : IsIn loan.number m ⊎ ((a : LoanRun) × IsOut loan.number m a) → (a : LoanRun) × IsOut loan.number m a
      go (inl fresh) =
          absurd (none-some loan (sym (fresh.homes p)
          ∙ (ap (of_number loan.number) there ∙ ap (λ b. if b then Some loan else None) (same_number-at loan.number loan.number refl))))
      go (inr out) = out

  pub out_of_orphan : (q : Place) (orphan : Orphan) → m.ledger.orphan q ≡ Some orphan → (a : LoanRun) × IsOut orphan.number m a
  unfolding loans
  out_of_orphan q orphan there = go (out_or_in m orphan.number h)
    where
      go : IsIn orphan.number m ⊎ ((a : LoanRun) × IsOut orphan.number m a) → (a : LoanRun) × IsOut orphan.number m a
      go (inl fresh) =
          absurd (none-some (loan_of_orphan orphan) (sym (fresh.orphans q)
          ∙ (ap (λ o. orphan_of_number orphan.number (option_map loan_of_orphan o)) there
          ∙ ap (λ b. if b then Some (loan_of_orphan orphan) else None) (same_number-at orphan.number orphan.number refl))))
      go (inr out) = out

-- ---- servers of a process that end

-- the servers end in a state that differs from the one before in the cursor and the reservation at most
module _ (before : Machine) (cursor : ThreadId) (reserved : Option Reservation) (h : Matched (record before { cursor = cursor; reserved = reserved }))
    (moment : Moment) (pid : Pid) (which : ℕ → Bool)
    (own : (k : ℕ) (server : Server) → before.servers k ≡ Some server → which k ≡ true → server.pid.0 ≡ pid.0)
    (gone : (k : ℕ) → which k ≡ true → moment.machine.servers k ≡ None) where
  abbrev here : Machine
  here = record before { cursor = cursor; reserved = reserved }

  ended_by : (number : Number) (holder : Pid) → holder.0 ≡ pid.0 → is_message_at which here number ≡ true → (a : LoanRun) → IsOut number here a
      → IsEndedBy holder number before moment
  ended_by number holder held e a out =
      let at : IsLendAt which here number = lend_of_closed here number h which e a out in
      ServerGone (record { serial = at.serial; server = at.server; live = at.live; sent = at.sent; gone = gone at.serial at.closes })
      (same_pid at.server.pid holder (own at.serial at.server at.live at.closes ∙ sym held))

  pub holder_is : (p : Place) (loan : PageLoan) → loan_at before.ledger p ≡ Some loan → is_message_at which here loan.number ≡ true
      → loan.holder.pid.0 ≡ pid.0
  holder_is p loan there e =
      let at = at_servers here (has_loans here h) which p loan there e in
      ap (λ (k : Pid). k.0) at.4 ∙ own at.0 at.1 at.2 at.3

  pub loan_ended : (p : Place) (loan : PageLoan) → loan_at before.ledger p ≡ Some loan → is_message_at which here loan.number ≡ true
      → IsEndedBy loan.holder.pid loan.number before moment
  loan_ended p loan there e =
      let out = out_of_loan here h p loan there in
      ended_by loan.number loan.holder.pid (holder_is p loan there e) e out.0 out.1

  pub orphan_ended : (q : Place) (orphan : Orphan) → before.ledger.orphan q ≡ Some orphan → is_message_at which here orphan.number ≡ true
      → IsEndedBy q.pid orphan.number before moment
  orphan_ended q orphan there e =
      let at = at_servers_of here (has_loans here h) q orphan there which e in
      let out = out_of_orphan here h q orphan there in
      ended_by orphan.number q.pid (sym (ap (λ (k : Pid). k.0) at.4) ∙ own at.0 at.1 at.2 at.3) e out.0 out.1
