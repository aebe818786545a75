-- What a step of the ledger makes of the pages and the orphans of others.
use Rattle.std.proofs.Common.{◌≡◌, ◌≢◌, ℕ, Bool, true, false, Option, Some, None, refl, sym, ap, ◌∙◌}
use Rattle.std.specs.Prelude.{if◌then◌else◌}
use Rattle.std.specs.Option.{option_map}
use Rattle.std.proofs.lemmas.Option.{none-some}
use Rattle.xk_base.specs.declared.ids.Number.{Number}
use Rattle.xk_base.specs.declared.ids.Pid.{Pid}
use Rattle.xk_base.specs.declared.ids.Place.{Place}
use Rattle.xk_base.specs.declared.pages.LoanKind.{LoanKind}
use Rattle.xk_base.specs.declared.pages.Right.{Right}
use Rattle.ledger_model.specs.Ledger.{Bytes, Console, Ledger, Orphan, Page, PageLoan, loan_at, loan_of}
use Rattle.ledger_model.specs.Loans.{same_number}
use Rattle.ledger_model.specs.Places.{in_run, moved, same_place}
use Rattle.ledger_model.specs.Steps.{end_loan, give, lend, make, make_console, new_page, pass, passed, passed_loan, reduce, remove, with_loan, with_right, zero_page}
use Rattle.ledger_model.proofs.PlaceLemmas.{same_place-true}
use Rattle.machine_model.specs.Calling.MemoryCalls.{mapped_ledger}
use Rattle.machine_model.specs.Messaging.LoanSets.{end_loans, freed_but, loan_but, orphan_but}
use Rattle.noninterference_laws.specs.Fates.{Comes, HomeFate, LoanEnds, LoanPasses, OrphanFate, OrphanStays, PageStays}
use Rattle.noninterference_laws.proofs.OtherLemmas.{not_in_run}

-- what becomes of the pages and the orphans of all others
pub record KeepsPages (pid : Pid) (before after : Ledger) : Type 0 where
  pub homes : (p : Place) → p.pid ≢ pid → HomeFate pid before after p
  pub orphans : (q : Place) → q.pid ≢ pid → OrphanFate pid before after q

pub keeps_all : (pid : Pid) (before after : Ledger) → after ≡ before → KeepsPages pid before after
keeps_all pid before after same = record {
  homes = λ p other. PageStays (ap (λ (l : Ledger). l.home p) same);
  orphans = λ q other. OrphanStays (ap (λ (l : Ledger). l.orphan q) same);
}

-- a page that stood doesn't go
pub stands_there : (pid : Pid) (before after : Ledger) (p : Place) (page : Page) → HomeFate pid before after p → before.home p ≡ Some page
    → after.home p ≢ None
stands_there pid before after p page (PageStays same) e f = none-some page (sym f ∙ (same ∙ e))
stands_there pid before after p page (LoanEnds old loan there lent held now) e f = none-some (record old { loan = None }) (sym f ∙ now)
stands_there pid before after p page (LoanPasses old loan to there lent held now) e f =
    none-some (record old { loan = Some (record loan { holder = to }) }) (sym f ∙ now)
stands_there pid before after p page (Comes from new none own there now) e f = none-some page (sym none ∙ e)

module _ (pid : Pid) where
  -- ---- pages that are made, go, or change their right

  pub make_keeps : (first : Place) → first.pid ≡ pid → (n : ℕ) (right : Right) (l : Ledger) → KeepsPages pid l (make first n right l)
  unfolding make
  make_keeps first own n right l = record {
    homes = λ p other.
        PageStays (ap (λ b. if b then Some (new_page right (Bytes zero_page)) else l.home p) (not_in_run first n p (λ e. other (e ∙ own))));
    orphans = λ q other. OrphanStays refl;
  }

  pub console_keeps : (place : Place) → place.pid ≡ pid → (w : Bool) (l : Ledger) → KeepsPages pid l (make_console place w l)
  unfolding make_console
  console_keeps place own w l = record {
    homes = λ p other. at p other (same_place p place) refl;
    orphans = λ q other. OrphanStays refl;
  }
    where
      at : (p : Place) → p.pid ≢ pid → (b : Bool) → same_place p place ≡ b
          → HomeFate pid l (make_console place w l) p
      at p other true e = absurd (other (ap (λ (x : Place). x.pid) (same_place-true p place e) ∙ own))
      at p other false e =
          PageStays (ap (λ b. if b then Some (new_page (record { w = w; x = false }) Console) else l.home p) e)

  pub maps_keep : (console : Bool) (first : Place) → first.pid ≡ pid → (n : ℕ) (right : Right) (l : Ledger)
      → KeepsPages pid l (mapped_ledger console first n right l)
  maps_keep true first own n right l = console_keeps first own right.w l
  maps_keep false first own n right l = make_keeps first own n right l

  pub remove_keeps : (first : Place) → first.pid ≡ pid → (n : ℕ) (l : Ledger) → KeepsPages pid l (remove (in_run first n) l)
  unfolding remove
  remove_keeps first own n l = record {
    homes = λ p other. PageStays (ap (λ b. if b then None else l.home p) (not_in_run first n p (λ e. other (e ∙ own))));
    orphans = λ q other. OrphanStays refl;
  }

  pub reduce_keeps : (first : Place) → first.pid ≡ pid → (n : ℕ) (right : Right) (l : Ledger)
      → KeepsPages pid l (reduce (in_run first n) right l)
  unfolding reduce
  reduce_keeps first own n right l = record {
    homes = λ p other.
        PageStays (ap (λ b. if b then option_map (with_right right) (l.home p) else l.home p) (not_in_run first n p (λ e. other (e ∙ own))));
    orphans = λ q other. OrphanStays refl;
  }

  -- ---- pages that are sent

  pub lend_keeps : (from : Place) → from.pid ≡ pid → (n : ℕ) (to : Place) (kind : LoanKind) (number : Number) (l : Ledger)
      → KeepsPages pid l (lend from n to kind number l)
  unfolding lend
  lend_keeps from own n to kind number l = record {
    homes = λ p other.
        PageStays (ap (λ b. if b then option_map (with_loan (record { holder = moved from to p; kind = kind; number = number })) (l.home p) else l.home p)
        (not_in_run from n p (λ e. other (e ∙ own))));
    orphans = λ q other. OrphanStays refl;
  }

  pub give_keeps : (from : Place) → from.pid ≡ pid → (n : ℕ) (to : Place) (l : Ledger) → ((p : Place) → in_run to n p ≡ true → l.home p ≡ None)
      → KeepsPages pid l (give from n to l)
  unfolding give
  give_keeps from own n to l free = record {
    homes = λ p other. at p other (in_run to n p) refl;
    orphans = λ q other. OrphanStays refl;
  }
    where
      chosen : Place → Bool → Bool → Option Page
      chosen p a b = if a then l.home (moved to from p) else (if b then None else l.home p)

      there : (p : Place) → in_run to n p ≡ true → (o : Option Page) → l.home (moved to from p) ≡ o → HomeFate pid l (give from n to l) p
      there p e None f = PageStays (ap (λ a. chosen p a (in_run from n p)) e ∙ (f ∙ sym (free p e)))
      there p e (Some page) f = Comes (moved to from p) page (free p e) own f (ap (λ a. chosen p a (in_run from n p)) e ∙ f)

      at : (p : Place) → p.pid ≢ pid → (a : Bool) → in_run to n p ≡ a → HomeFate pid l (give from n to l) p
      at p other true e = there p e (l.home (moved to from p)) refl
      at p other false e =
          PageStays (ap (λ a. chosen p a (in_run from n p)) e ∙ ap (chosen p false) (not_in_run from n p (λ f. other (f ∙ own))))

  -- ---- loans that end or go on

  -- the loans of numbers that pass are of the process's holding, and so are the orphans
  pub record AreOfHolder (test : Number → Bool) (l : Ledger) : Type 0 where
    pub loans : (p : Place) (loan : PageLoan) → loan_at l p ≡ Some loan → test loan.number ≡ true → loan.holder.pid ≡ pid
    pub orphans : (q : Place) (orphan : Orphan) → l.orphan q ≡ Some orphan → test orphan.number ≡ true → q.pid ≡ pid

  module _ (test : Number → Bool) (l after : Ledger) (held : AreOfHolder test l) where
    -- a page, with what was of its loan
    pub freed_fate : (p : Place) (o : Option Page) → l.home p ≡ o → after.home p ≡ option_map (freed_but test) o → HomeFate pid l after p
    freed_fate p None e now = PageStays (now ∙ sym e)
    freed_fate p (Some page) e now = go page.loan refl
      where
        with_its : Option PageLoan → Option Page
        with_its o = Some (record page { loan = loan_but test o })

        of_test : (loan : PageLoan) → page.loan ≡ Some loan → (b : Bool) → test loan.number ≡ b → HomeFate pid l after p
        of_test loan lent true f =
            LoanEnds page loan e lent (held.loans p loan (ap loan_of e ∙ lent) f)
            (now ∙ (ap with_its lent ∙ ap (λ b. Some (record page { loan = if b then None else Some loan })) f))
        of_test loan lent false f =
            PageStays (now ∙ (ap with_its lent ∙ (ap (λ b. Some (record page { loan = if b then None else Some loan })) f
            ∙ (ap (λ o. Some (record page { loan = o })) (sym lent) ∙ sym e))))

        go : (o : Option PageLoan) → page.loan ≡ o → HomeFate pid l after p
        go None lent = PageStays (now ∙ (ap with_its lent ∙ (ap (λ o. Some (record page { loan = o })) (sym lent) ∙ sym e)))
        go (Some loan) lent = of_test loan lent (test loan.number) refl

    left_fate : (q : Place) → q.pid ≢ pid → (o : Option Orphan) → l.orphan q ≡ o → after.orphan q ≡ orphan_but test o → OrphanFate pid l after q
    left_fate q other None e now = OrphanStays (now ∙ sym e)
    left_fate q other (Some orphan) e now = go (test orphan.number) refl
      where
        go : (b : Bool) → test orphan.number ≡ b → OrphanFate pid l after q
        go true f = absurd (other (held.orphans q orphan e f))
        go false f = OrphanStays (now ∙ (ap (λ b. if b then None else Some orphan) f ∙ sym e))

    pub ends_keep : ((p : Place) → after.home p ≡ option_map (freed_but test) (l.home p))
        → ((q : Place) → after.orphan q ≡ orphan_but test (l.orphan q)) → KeepsPages pid l after
    ends_keep homes orphans = record {
      homes = λ p other. freed_fate p (l.home p) refl (homes p);
      orphans = λ q other. left_fate q other (l.orphan q) refl (orphans q);
    }

  pub end_loans_keep : (test : Number → Bool) (l : Ledger) → AreOfHolder test l → KeepsPages pid l (end_loans test l)
  unfolding end_loans
  end_loans_keep test l held = ends_keep test l (end_loans test l) held (λ p. refl) (λ q. refl)

  pub end_loan_keeps : (number : Number) (l : Ledger) → AreOfHolder (λ k. same_number k number) l → KeepsPages pid l (end_loan number l)
  unfolding end_loan
  end_loan_keeps number l held = ends_keep (λ k. same_number k number) l (end_loan number l) held (λ p. refl) (λ q. refl)

  pub pass_keeps : (number : Number) (from to : Place) (l : Ledger)
      → ((p : Place) (loan : PageLoan) → loan_at l p ≡ Some loan → same_number loan.number number ≡ true → loan.holder.pid ≡ pid)
      → KeepsPages pid l (pass number from to l)
  unfolding pass
  pass_keeps number from to l held = record {
    homes = λ p other. at p (l.home p) refl;
    orphans = λ q other. OrphanStays refl;
  }
    where
      after : Ledger
      after = pass number from to l

      at : (p : Place) (o : Option Page) → l.home p ≡ o → HomeFate pid l (pass number from to l) p
      at p None e = PageStays (ap (option_map (passed number from to)) e ∙ sym e)
      at p (Some page) e = go page.loan refl
        where
          now : l.home p ≡ Some page → option_map (passed number from to) (l.home p) ≡ Some (record page { loan = option_map (passed_loan number from to) page.loan })
          now f = ap (option_map (passed number from to)) f

          with_its : Option PageLoan → Option Page
          with_its o = Some (record page { loan = option_map (passed_loan number from to) o })

          chosen : PageLoan → Bool → Option Page
          chosen loan b = Some (record page { loan = Some (if b then record loan { holder = moved from to loan.holder } else loan) })

          of_test : (loan : PageLoan) → page.loan ≡ Some loan → (b : Bool) → same_number loan.number number ≡ b
              → HomeFate pid l (pass number from to l) p
          of_test loan lent true f =
              LoanPasses page loan (moved from to loan.holder) e lent (held p loan (ap loan_of e ∙ lent) f)
              (now e ∙ (ap with_its lent ∙ ap (chosen loan) f))
          of_test loan lent false f =
              PageStays (now e ∙ (ap with_its lent ∙ (ap (chosen loan) f ∙ (ap (λ o. Some (record page { loan = o })) (sym lent) ∙ sym e))))

          go : (o : Option PageLoan) → page.loan ≡ o → HomeFate pid l (pass number from to l) p
          go None lent = PageStays (now e ∙ (ap with_its lent ∙ (ap (λ o. Some (record page { loan = o })) (sym lent) ∙ sym e)))
          go (Some loan) lent = of_test loan lent (same_number loan.number number) refl
