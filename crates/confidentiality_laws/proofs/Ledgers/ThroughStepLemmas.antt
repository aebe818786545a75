-- Each step of the ledger carries bytes as they are: where pages hold other bytes before it, the same pages hold them after it. Pages
-- that are made hold zeros.
use Rattle.confidentiality_laws.proofs.Ledgers.OtherBytesLemmas.{bare_through, page_through, through, orphan_through, contents_through}
use Rattle.std.proofs.Common.{◌≡◌, ℕ, Bool, true, false, Option, Some, None, refl, sym, ap, ◌∙◌, List}
use Rattle.std.specs.Prelude.{◌==◌, if◌then◌else◌}
use Rattle.std.specs.Option.{option_and_then, option_map, option_or}
use Rattle.xk_base.specs.declared.ids.Number.{Number}
use Rattle.xk_base.specs.declared.ids.Pid.{Pid}
use Rattle.xk_base.specs.declared.ids.Place.{Place}
use Rattle.xk_base.specs.declared.pages.LoanKind.{LoanKind}
use Rattle.xk_base.specs.declared.pages.Right.{Right}
use Rattle.ledger_model.specs.Ledger.{Ledger, Contents, Console, Bytes, Page, PageLoan, Orphan}
use Rattle.ledger_model.specs.Loans.{same_number}
use Rattle.ledger_model.specs.Places.{in_run, moved, same_place}
use Rattle.ledger_model.specs.Reach.{lender_of}
use Rattle.ledger_model.specs.Steps.{end_loan, forget, freed, give, lend, make, make_console, new_page, orphan_with, pass, passed, reduce, remove, with_loan, with_right, zero_page}
use Rattle.ledger_model.proofs.LedgerLemmas.{same_ledger}
use Rattle.machine_model.specs.Messaging.LoanSets.{end_loans, freed_but, is_lent_by, orphan_but, orphan_loans, orphan_of_page, page_but}
use Rattle.call_effects.proofs.Viewing.BareTestLemmas.{lender_bare}

module _ (g : List ℕ → List ℕ) where
  -- a function of a choice is the choice of what it is of both
  choice : {A B : Type 0} (f : A → B) (b : Bool) (x y : A) → f (if b then x else y) ≡ (if b then f x else f y)
  choice f true x y = refl
  choice f false x y = refl

  -- what changes a page but for its contents commutes with giving it other bytes
  changed : (f : Page → Page) → ((page : Page) → page_through g (f page) ≡ f (page_through g page)) → (o : Option Page)
      → option_map (page_through g) (option_map f o) ≡ option_map f (option_map (page_through g) o)
  changed f e None = refl
  changed f e (Some page) = ap (λ p. Some p) (e page)

  changed_if : (f : Page → Page) → ((page : Page) → page_through g (f page) ≡ f (page_through g page))
      → (b : Bool) (o : Option Page)
      → option_map (page_through g) (if b then option_map f o else o)
      ≡ (if b then option_map f (option_map (page_through g) o) else option_map (page_through g) o)
  changed_if f e true o = changed f e o
  changed_if f e false o = refl

  -- ---- pages that are made

  -- zeros are to stay zeros
  pub make_through : g zero_page ≡ zero_page → (first : Place) (n : ℕ) (right : Right) (l : Ledger)
      → through g (make first n right l) ≡ make first n right (through g l)
  unfolding through make
  make_through zeros first n right l =
      same_ledger (through g (make first n right l)) (make first n right (through g l))
      (λ p. made (in_run first n p) (l.home p)) (λ p. refl)
    where
      made : (b : Bool) (o : Option Page)
          → option_map (page_through g) (if b then Some (new_page right (Bytes zero_page)) else o)
          ≡ (if b then Some (new_page right (Bytes zero_page)) else option_map (page_through g) o)
      made true o = ap (λ bytes. Some (new_page right (Bytes bytes))) zeros
      made false o = refl

  pub make_console_through : (place : Place) (w : Bool) (l : Ledger)
      → through g (make_console place w l) ≡ make_console place w (through g l)
  unfolding through make_console
  make_console_through place w l =
      same_ledger (through g (make_console place w l)) (make_console place w (through g l))
      (λ p. choice (option_map (page_through g)) (same_place p place) (Some (new_page (record { w = w; x = false }) Console)) (l.home p)) (λ p. refl)

  -- ---- pages that go or change their right

  pub remove_through : (places : Place → Bool) (l : Ledger) → through g (remove places l) ≡ remove places (through g l)
  unfolding through remove
  remove_through places l =
      same_ledger (through g (remove places l)) (remove places (through g l))
      (λ p. choice (option_map (page_through g)) (places p) None (l.home p)) (λ p. refl)

  pub reduce_through : (places : Place → Bool) (right : Right) (l : Ledger)
      → through g (reduce places right l) ≡ reduce places right (through g l)
  unfolding through reduce
  reduce_through places right l =
      same_ledger (through g (reduce places right l)) (reduce places right (through g l))
      (λ p. changed_if (with_right right) (λ page. refl) (places p) (l.home p)) (λ p. refl)

  pub forget_through : (pid : Pid) (l : Ledger) → through g (forget pid l) ≡ forget pid (through g l)
  unfolding through forget
  forget_through pid l =
      same_ledger (through g (forget pid l)) (forget pid (through g l))
      (λ p. choice (option_map (page_through g)) (p.pid.0 == pid.0) None (l.home p)) (λ p. refl)

  -- ---- pages that move

  pub give_through : (from : Place) (n : ℕ) (to : Place) (l : Ledger)
      → through g (give from n to l) ≡ give from n to (through g l)
  unfolding through give
  give_through from n to l =
      same_ledger (through g (give from n to l)) (give from n to (through g l))
      (λ p. given (in_run to n p) (in_run from n p) (l.home (moved to from p)) (l.home p)) (λ p. refl)
    where
      given : (a b : Bool) (x y : Option Page) → option_map (page_through g) (if a then x else (if b then None else y))
          ≡ (if a then option_map (page_through g) x else (if b then None else option_map (page_through g) y))
      given true b x y = refl
      given false true x y = refl
      given false false x y = refl

  -- ---- loans

  pub lend_through : (from : Place) (n : ℕ) (to : Place) (kind : LoanKind) (number : Number) (l : Ledger)
      → through g (lend from n to kind number l) ≡ lend from n to kind number (through g l)
  unfolding through lend
  lend_through from n to kind number l =
      same_ledger (through g (lend from n to kind number l)) (lend from n to kind number (through g l))
      (λ p. changed_if (with_loan (record { holder = moved from to p; kind = kind; number = number })) (λ page. refl) (in_run from n p) (l.home p))
      (λ p. refl)

  pub pass_through : (number : Number) (from to : Place) (l : Ledger)
      → through g (pass number from to l) ≡ pass number from to (through g l)
  unfolding through pass
  pass_through number from to l =
      same_ledger (through g (pass number from to l)) (pass number from to (through g l))
      (λ p. changed (passed number from to) (λ page. refl) (l.home p)) (λ p. refl)

  -- an orphan that may go
  left_orphan : (ends : Number → Bool) (o : Option Orphan)
      → option_map (orphan_through g) (orphan_but ends o) ≡ orphan_but ends (option_map (orphan_through g) o)
  left_orphan ends None = refl
  left_orphan ends (Some orphan) = choice (option_map (orphan_through g)) (ends orphan.number) None (Some orphan)

  pub end_loans_through : (ends : Number → Bool) (l : Ledger) → through g (end_loans ends l) ≡ end_loans ends (through g l)
  unfolding through end_loans
  end_loans_through ends l =
      same_ledger (through g (end_loans ends l)) (end_loans ends (through g l))
      (λ p. changed (freed_but ends) (λ page. refl) (l.home p)) (λ p. left_orphan ends (l.orphan p))

  pub end_loan_through : (number : Number) (l : Ledger) → through g (end_loan number l) ≡ end_loan number (through g l)
  unfolding through end_loan
  end_loan_through number l =
      same_ledger (through g (end_loan number l)) (end_loan number (through g l))
      (λ p. changed (freed number) (λ page. refl) (l.home p))
      (λ p. left_orphan (λ other. same_number other number) (l.orphan p))

  -- ---- orphans

  home_left : (goes : Number → Bool) (o : Option Page)
      → option_map (page_through g) (page_but goes o) ≡ page_but goes (option_map (page_through g) o)
  home_left goes None = refl
  home_left goes (Some page) = choice (option_map (page_through g)) (is_lent_by goes page.loan) None (Some page)

  became_orphan : (loan : PageLoan) (c : Contents)
      → option_map (orphan_through g) (orphan_with loan c) ≡ orphan_with loan (contents_through g c)
  became_orphan loan Console = refl
  became_orphan loan (Bytes bytes) = refl

  orphan_if : (loan : PageLoan) (c : Contents) (b : Bool)
      → option_map (orphan_through g) (if b then orphan_with loan c else None)
      ≡ (if b then orphan_with loan (contents_through g c) else None)
  orphan_if loan c true = became_orphan loan c
  orphan_if loan c false = refl

  orphan_of_loan : (goes : Number → Bool) (c : Contents) (o : Option PageLoan)
      → option_map (orphan_through g) (option_and_then (λ loan. if goes loan.number then orphan_with loan c else None) o)
      ≡ option_and_then (λ loan. if goes loan.number then orphan_with loan (contents_through g c) else None) o
  orphan_of_loan goes c None = refl
  orphan_of_loan goes c (Some loan) = orphan_if loan c (goes loan.number)

  became : (goes : Number → Bool) (o : Option Page)
      → option_map (orphan_through g) (option_and_then (orphan_of_page goes) o)
      ≡ option_and_then (orphan_of_page goes) (option_map (page_through g) o)
  became goes None = refl
  became goes (Some page) = orphan_of_loan goes page.contents page.loan

  either : (a b : Option Orphan)
      → option_map (orphan_through g) (option_or a b)
      ≡ option_or (option_map (orphan_through g) a) (option_map (orphan_through g) b)
  either None b = refl
  either (Some a) b = refl

  lender_alike : (procs : ℕ) (l : Ledger) (p : Place) → lender_of procs (through g l) p ≡ lender_of procs l p
  lender_alike procs l p =
      sym (lender_bare procs (through g l) p) ∙ (ap (λ x. lender_of procs x p) (bare_through g l) ∙ lender_bare procs l p)

  lender_home : (l : Ledger) (o : Option Place)
      → option_map (page_through g) (option_and_then l.home o) ≡ option_and_then (through g l).home o
  unfolding through
  lender_home l None = refl
  lender_home l (Some home) = refl

  pub orphan_loans_through : (procs : ℕ) (goes : Number → Bool) (l : Ledger)
      → through g (orphan_loans procs goes l) ≡ orphan_loans procs goes (through g l)
  unfolding through orphan_loans
  orphan_loans_through procs goes l =
      same_ledger (through g (orphan_loans procs goes l)) (orphan_loans procs goes (through g l))
      (λ p. home_left goes (l.home p)) orphans
    where
      orphans : (q : Place)
          → (through g (orphan_loans procs goes l)).orphan q ≡ (orphan_loans procs goes (through g l)).orphan q
      orphans q =
          either (option_and_then (orphan_of_page goes) (option_and_then l.home (lender_of procs l q))) (l.orphan q)
          ∙ ap (λ a. option_or a (option_map (orphan_through g) (l.orphan q)))
          (became goes (option_and_then l.home (lender_of procs l q))
          ∙ ap (option_and_then (orphan_of_page goes))
          (lender_home l (lender_of procs l q) ∙ ap (option_and_then (through g l).home) (sym (lender_alike procs l q))))
