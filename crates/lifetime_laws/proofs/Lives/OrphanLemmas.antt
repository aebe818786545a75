-- Where an orphan comes from that arises by a death: the page that was lent to its place, by the same message and of the same kind.
use Rattle.std.proofs.Common.{◌≡◌, ◌⊎◌, Bool, true, false, Option, Some, None, refl, sym, ap, ◌∙◌, inl, inr}
use Rattle.std.specs.Prelude.{◌==◌, if◌then◌else◌}
use Rattle.std.specs.Option.{option_and_then, option_map, option_or}
use Rattle.std.proofs.lemmas.Option.{none-some, same_Some}
use Rattle.xk_base.specs.declared.ids.Number.{Number}
use Rattle.xk_base.specs.declared.ids.Pid.{Pid}
use Rattle.xk_base.specs.declared.ids.Place.{Place}
use Rattle.ledger_model.specs.Ledger.{Bytes, Console, Contents, Ledger, Orphan, Page, PageLoan, loan_at, loan_of}
use Rattle.ledger_model.specs.Reach.{lender_of}
use Rattle.ledger_model.specs.Steps.{forget, orphan_with}
use Rattle.ledger_model.proofs.LedgerLemmas.{lender_of-loan}
use Rattle.machine_model.specs.Ending.Closing.{closed, senders_held_gone, senders_queued_gone, servers_closed}
use Rattle.machine_model.specs.Ending.Ends.{death, forgotten}
use Rattle.machine_model.specs.Messaging.LoanSets.{end_loans, freed_but, is_lent_by, orphan_but, orphan_loans, orphan_of_page, page_but}
use Rattle.machine_model.specs.Runs.Isolation.{IsOrphaned}
use Rattle.machine_model.specs.State.Machine.{Machine}
use Rattle.confidentiality_laws.proofs.Keeping.LedgerStepLemmas.{left_orphan}
use Rattle.confidentiality_laws.proofs.Keeping.OrphanedPageLemmas.{OnlyOrphans, StoodLent, end_loans_orphans, orphans_then}
use Rattle.noninterference_laws.proofs.Seeing.DeathLemmas.{ended, orphaned, shut, taken, unqueued}

-- ---- the page of an orphan

-- the page was lent by a message of the set, and the orphan is as it was
record WasLent (goes : Number → Bool) (page : Page) (orphan : Orphan) : Type 0 where
  loan : PageLoan
  lent : page.loan ≡ Some loan
  passes : goes loan.number ≡ true
  bytes : page.contents ≡ Bytes orphan.bytes
  number : orphan.number ≡ loan.number
  kind : orphan.kind ≡ loan.kind

was_lent : (goes : Number → Bool) (page : Page) (orphan : Orphan) → orphan_of_page goes page ≡ Some orphan → WasLent goes page orphan
was_lent goes page orphan e = go page.loan refl e
  where
    of_contents : (loan : PageLoan) → page.loan ≡ Some loan → goes loan.number ≡ true → (c : Contents) → page.contents ≡ c
        → orphan_with loan c ≡ Some orphan → WasLent goes page orphan
    of_contents loan lent passes Console q r = absurd (none-some orphan r)
    of_contents loan lent passes (Bytes bytes) q r =
        let same : record { kind = loan.kind; bytes = bytes; number = loan.number } ≡ orphan =
        same_Some (record { kind = loan.kind; bytes = bytes; number = loan.number }) orphan r in
        record {
          loan = loan;
          lent = lent;
          passes = passes;
          bytes = q ∙ ap (λ (x : Orphan). Bytes x.bytes) same;
          number = sym (ap (λ (x : Orphan). x.number) same);
          kind = sym (ap (λ (x : Orphan). x.kind) same);
        }

    of_test : (loan : PageLoan) → page.loan ≡ Some loan → (b : Bool) → goes loan.number ≡ b
        → (if b then orphan_with loan page.contents else None) ≡ Some orphan → WasLent goes page orphan
    of_test loan lent true q r = of_contents loan lent q page.contents refl r
    of_test loan lent false q r = absurd (none-some orphan r)

    go : (o : Option PageLoan) → page.loan ≡ o
        → option_and_then (λ loan. if goes loan.number then orphan_with loan page.contents else None) o ≡ Some orphan → WasLent goes page orphan
    go None lent r = absurd (none-some orphan r)
    go (Some loan) lent r = of_test loan lent (goes loan.number) refl r

-- ---- the ledger after a death

module _ (pid : Pid) (m : Machine) where
  abbrev pub dead : Ledger
  dead = (death pid m).machine.ledger

  -- the ledger before the process's held messages lose their sender
  abbrev pub left : Ledger
  left = (taken pid m).ledger

  pub left_home : (p : Place) → left.home p ≡ option_map (freed_but (unqueued pid m)) (option_map (freed_but (ended pid m)) (m.ledger.home p))
  unfolding servers_closed closed senders_queued_gone end_loans
  left_home p = refl

  pub dead_home : (p : Place) → dead.home p ≡ (if p.pid.0 == pid.0 then None else page_but (orphaned pid m) (left.home p))
  unfolding death servers_closed closed senders_queued_gone senders_held_gone forgotten forget orphan_loans end_loans
  dead_home p = refl

  abbrev pub arisen : Place → Option Orphan
  arisen q = option_and_then (orphan_of_page (orphaned pid m)) (option_and_then left.home (lender_of m.processes left q))

  pub dead_orphan : (q : Place) → dead.orphan q ≡ option_or (arisen q) (orphan_but (unqueued pid m) (orphan_but (ended pid m) (m.ledger.orphan q)))
  unfolding death servers_closed closed senders_queued_gone senders_held_gone forgotten forget orphan_loans end_loans
  dead_orphan q = refl

  -- what stood in the one stood before
  only_left : OnlyOrphans m.ledger left
  unfolding servers_closed closed senders_queued_gone
  only_left =
      orphans_then m.ledger (shut pid m).ledger left (end_loans_orphans (ended pid m) m.ledger)
      (end_loans_orphans (unqueued pid m) (shut pid m).ledger)

  -- ---- an orphan that arises

  pub record Arises (q home : Place) (orphan : Orphan) : Type 0 where
    pub was : IsOrphaned m.ledger dead home q orphan
    pub number : orphan.number ≡ was.loan.number
    pub kind : orphan.kind ≡ was.loan.kind

  home_left : (home : Place) (page : Page) (loan : PageLoan) → left.home home ≡ Some page → page.loan ≡ Some loan
      → orphaned pid m loan.number ≡ true → dead.home home ≡ None
  home_left home page loan there lent passes = dead_home home ∙ go (home.pid.0 == pid.0)
    where
      gone : page_but (orphaned pid m) (left.home home) ≡ None
      gone =
          ap (page_but (orphaned pid m)) there
          ∙ ap (λ b. if b then None else Some page) (ap (is_lent_by (orphaned pid m)) lent ∙ passes)

      go : (b : Bool) → (if b then None else page_but (orphaned pid m) (left.home home)) ≡ None
      go true = refl
      go false = gone

  from_page : (q home : Place) (page : Page) (orphan : Orphan) → lender_of m.processes left q ≡ Some home → left.home home ≡ Some page
      → orphan_of_page (orphaned pid m) page ≡ Some orphan → Arises q home orphan
  from_page q home page orphan lender there e =
      let lent : WasLent (orphaned pid m) page orphan = was_lent (orphaned pid m) page orphan e in
      let old : StoodLent m.ledger home page = only_left.homes home page there in
      let at : (x : PageLoan) × (loan_at left home ≡ Some x) × (x.holder ≡ q) = lender_of-loan m.processes left q home lender in
      let same : lent.loan ≡ at.0 = same_Some lent.loan at.0 (sym lent.lent ∙ (sym (ap loan_of there) ∙ at.1)) in
      record {
        was = record {
          page = old.old;
          loan = lent.loan;
          stood = old.stood;
          lent = old.lent lent.loan lent.lent;
          held = ap (λ (x : PageLoan). x.holder) same ∙ at.2;
          same = sym old.same ∙ lent.bytes;
          left = home_left home page lent.loan there lent.lent lent.passes;
        };
        number = lent.number;
        kind = lent.kind;
      }

  from_arisen : (q : Place) (orphan : Orphan) → arisen q ≡ Some orphan → (home : Place) × Arises q home orphan
  from_arisen q orphan e = go (lender_of m.processes left q) refl e
    where
      of_home : (home : Place) → lender_of m.processes left q ≡ Some home → (o : Option Page) → left.home home ≡ o
          → option_and_then (orphan_of_page (orphaned pid m)) o ≡ Some orphan → (home : Place) × Arises q home orphan
      of_home home lender None there r = absurd (none-some orphan r)
      of_home home lender (Some page) there r = (home, from_page q home page orphan lender there r)

      go : (o : Option Place) → lender_of m.processes left q ≡ o
          → option_and_then (orphan_of_page (orphaned pid m)) (option_and_then left.home o) ≡ Some orphan → (home : Place) × Arises q home orphan
      go None lender r = absurd (none-some orphan r)
      go (Some home) lender r = of_home home lender (left.home home) refl r

  -- an orphan that stands after the death stood before it, or arose by it
  pub orphan_from : (q : Place) (orphan : Orphan) → dead.orphan q ≡ Some orphan
      → (m.ledger.orphan q ≡ Some orphan) ⊎ ((home : Place) × Arises q home orphan)
  orphan_from q orphan e = go (arisen q) refl (sym (dead_orphan q) ∙ e)
    where
      go : (o : Option Orphan) → arisen q ≡ o
          → option_or o (orphan_but (unqueued pid m) (orphan_but (ended pid m) (m.ledger.orphan q))) ≡ Some orphan
          → (m.ledger.orphan q ≡ Some orphan) ⊎ ((home : Place) × Arises q home orphan)
      go None s r =
          inl (left_orphan (ended pid m) (m.ledger.orphan q) orphan
          (left_orphan (unqueued pid m) (orphan_but (ended pid m) (m.ledger.orphan q)) orphan r))
      go (Some new) s r = inr (from_arisen q orphan (s ∙ r))
