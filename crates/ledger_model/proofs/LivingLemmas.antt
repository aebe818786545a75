-- The life of a loan over the steps of a ledger.
use Rattle.std.proofs.Common.{◌≡◌, ℕ, ◌<◌, true, false, List, [], ◌∷◌, Some, None, refl, sym, ap, subst, ◌∙◌, inl, inr}
use Rattle.std.specs.Prelude.{is_some, if◌then◌else◌}
use Rattle.std.specs.Option.{option_map}
use Rattle.std.proofs.lemmas.Bool.{cases_Bool, cond-true, cond-false, both_ways, false_from_ne_true}
use Rattle.std.proofs.lemmas.Option.{none-some, same_Some, cond_some}
use Rattle.xk_base.specs.declared.ids.Number.{Number}
use Rattle.xk_base.specs.declared.ids.Place.{Place}
use Rattle.xk_base.specs.declared.pages.Access.TheVariants.{Store}
use Rattle.xk_base.specs.declared.pages.LoanKind.{LoanKind}
use Rattle.xk_base.specs.declared.pages.LoanKind.TheVariants.{Shared, Exclusive}
use Rattle.ledger_model.specs.Conditions.{CanWrite, CanLend, is_lent}
use Rattle.ledger_model.specs.Lawful.{IsLawful}
use Rattle.ledger_model.specs.Ledger.{Ledger, Page, PageLoan, PageName, Homed, Orphaned, loan_at}
use Rattle.ledger_model.specs.Life.{LedgerStep, Make, MakeConsole, Write, Remove, Reduce, Lend, End, Pass, Give, MakeOrphans, Forget, after, May, ends, lends, passes, after_all, MayAll, NoneEnds, IsStillLent, IsBack}
use Rattle.ledger_model.specs.Loans.{loans, LoanRun, same_number, of_number, Stands, IsFresh}
use Rattle.ledger_model.specs.Places.{same_place, in_run, place_after}
use Rattle.ledger_model.specs.Reach.{reach, home_may, lender_may, holder_may, HolderPlace, OrphanPlace, FreePlace, lender_of}
use Rattle.ledger_model.specs.Steps.{make, make_console, write, written_page, remove, reduce, lend, with_loan, end_loan, freed, loan_without, pass, passed, passed_loan, give, orphan_loan, forget}
use Rattle.ledger_model.proofs.Stepping.EndingLemmas.{end_loan_lawful, end_loan_other, end_loan_fresh}
use Rattle.ledger_model.proofs.Stepping.GivingLemmas.{give_lawful, give_loans, give_outside}
use Rattle.ledger_model.proofs.LedgerLemmas.{cases_Option, same_number-false, same_number-true, same_number-at, loan_at-home, is_free-true, IsFreeAt, role_at-orphan, role_at-lender, role_at-free, lender_of-loan, reach-role}
use Rattle.ledger_model.proofs.Stepping.LendingLemmas.{lend_lawful, lend_other, lend_outside, lend_page, lend_was, loan_to, IsMovable, may_move-page}
use Rattle.ledger_model.proofs.LocalityLemmas.{make_outside, make_console_outside, remove_outside, reduce_outside, end_loan_outside, orphan_loan_outside, forget_outside}
use Rattle.ledger_model.proofs.Stepping.MakingLemmas.{make_lawful, make_loans, make_console_lawful, make_console_loans}
use Rattle.ledger_model.proofs.Loans.OfNumberLemmas.{of_number-Some, of_number-at, of_number-apart, SameOf, stands_still, fresh_still}
use Rattle.ledger_model.proofs.Stepping.OrphaningLemmas.{orphan_loan_lawful, orphan_loan_other, orphan_loan_nothing}
use Rattle.ledger_model.proofs.Stepping.PassingLemmas.{pass_lawful, pass_other, pass_fresh, pass_home, passed_loan-kind, passed_loan-number}
use Rattle.ledger_model.proofs.PlaceLemmas.{in_run-after, same_place-true}
use Rattle.ledger_model.proofs.ReachingLemmas.{reach-home}
use Rattle.ledger_model.proofs.Stepping.RemovingLemmas.{remove_lawful, remove_loans, reduce_lawful, reduce_loans, forget_lawful, forget_loans}
use Rattle.ledger_model.proofs.Stepping.WritingLemmas.{write_lawful, write_loans}

-- ---- every step keeps the ledger lawful

pub step_lawful : (procs capacity : ℕ) (step : LedgerStep) (l : Ledger) → IsLawful procs capacity l
    → May procs capacity step l → IsLawful procs capacity (after procs step l)
step_lawful procs capacity (Make first n right) l h can = make_lawful procs capacity first n right l h can
step_lawful procs capacity (MakeConsole place w) l h can = make_console_lawful procs capacity place w l h can
step_lawful procs capacity (Write name offset bytes) l h can = write_lawful procs capacity name offset bytes l h can
step_lawful procs capacity (Remove places) l h can = remove_lawful procs capacity places l h can
step_lawful procs capacity (Reduce places right) l h can = reduce_lawful procs capacity places right l h can
step_lawful procs capacity (Lend from n to kind number) l h can = lend_lawful procs from n to kind number l can capacity h
step_lawful procs capacity (End number) l h can = end_loan_lawful procs capacity number l h
step_lawful procs capacity (Pass loan to) l h can = pass_lawful procs l loan to can capacity h
step_lawful procs capacity (Give from n to) l h can = give_lawful procs from n to l can capacity h
step_lawful procs capacity (MakeOrphans number) l h can = orphan_loan_lawful procs capacity number l h
step_lawful procs capacity (Forget pid) l h can = forget_lawful procs capacity pid l h can

-- ---- every step leaves the loans of a number that it doesn't name

same_of_equal : (number : Number) (l m : Ledger) → loans m ≡ loans l → SameOf number (loans l) (loans m)
same_of_equal number l m e = subst (λ x. SameOf number x (loans m)) e (record { homes = λ p. refl; orphans = λ p. refl })

pub step_leaves : (procs capacity : ℕ) (number : Number) (step : LedgerStep) (l : Ledger) → IsLawful procs capacity l
    → May procs capacity step l → ends number step ≡ false → lends number step ≡ false → passes number step ≡ false
    → SameOf number (loans l) (loans (after procs step l))
step_leaves procs capacity number (Make first n right) l h can e f g = same_of_equal number l (make first n right l) (make_loans procs capacity first n right l can)
step_leaves procs capacity number (MakeConsole place w) l h can e f g = same_of_equal number l (make_console place w l) (make_console_loans procs place w l can)
step_leaves procs capacity number (Write name offset bytes) l h can e f g = same_of_equal number l (write name offset bytes l) (write_loans name offset bytes l)
step_leaves procs capacity number (Remove places) l h can e f g = same_of_equal number l (remove places l) (remove_loans places l can)
step_leaves procs capacity number (Reduce places right) l h can e f g = same_of_equal number l (reduce places right l) (reduce_loans places right l)
step_leaves procs capacity number (Lend from n to kind other) l h can e f g = lend_other procs from n to kind other l can number (λ s. same_number-false other number f (sym s))
step_leaves procs capacity number (End other) l h can e f g = end_loan_other other number l (λ s. same_number-false other number e (sym s))
step_leaves procs capacity number (Pass loan to) l h can e f g = pass_other loan.number number loan.holder to l (λ s. same_number-false loan.number number g (sym s))
step_leaves procs capacity number (Give from n to) l h can e f g = same_of_equal number l (give from n to l) (give_loans procs from n to l can)
step_leaves procs capacity number (MakeOrphans other) l h can e f g = orphan_loan_other procs capacity other number l h (λ s. same_number-false other number e (sym s))
step_leaves procs capacity number (Forget pid) l h can e f g = same_of_equal number l (forget pid l) (forget_loans pid l can)

-- a standing loan still stands after each step of another number
pub step_stands : (procs capacity : ℕ) (step : LedgerStep) (l : Ledger) (r : LoanRun) → IsLawful procs capacity l
    → May procs capacity step l → ends r.number step ≡ false → lends r.number step ≡ false → passes r.number step ≡ false
    → Stands (loans l) r → Stands (loans (after procs step l)) r
step_stands procs capacity step l r h can e f g stands = stands_still (loans l) (loans (after procs step l)) r (step_leaves procs capacity r.number step l h can e f g) stands

fresh_homes : (l : Ledger) (number : Number) → IsFresh (loans l) number → (p : Place)
    → of_number number (loan_at l p) ≡ None
unfolding loans
fresh_homes l number fresh p = fresh.homes p

-- a fresh number stays fresh until it is lent
pub step_fresh : (procs capacity : ℕ) (step : LedgerStep) (l : Ledger) (number : Number) → IsLawful procs capacity l
    → May procs capacity step l → lends number step ≡ false
    → IsFresh (loans l) number → IsFresh (loans (after procs step l)) number
step_fresh procs capacity step l number h can f fresh = elim (cases_Bool (ends number step)) [
  | inr e ↦ elim (cases_Bool (passes number step)) [
    | inr g ↦ fresh_still (loans l) (loans (after procs step l)) number (step_leaves procs capacity number step l h can e f g) fresh
    | inl g ↦ passed_on step g
  ]
  | inl e ↦ ended step e
]
  where
    ended : (step : LedgerStep) → ends number step ≡ true → IsFresh (loans (after procs step l)) number
    ended (Make first n right) e = absurd (both_ways false refl e)
    ended (MakeConsole place w) e = absurd (both_ways false refl e)
    ended (Write name offset bytes) e = absurd (both_ways false refl e)
    ended (Remove places) e = absurd (both_ways false refl e)
    ended (Reduce places right) e = absurd (both_ways false refl e)
    ended (Lend from n to kind other) e = absurd (both_ways false refl e)
    ended (End other) e = subst (λ x. IsFresh (loans (end_loan x l)) number) (sym (same_number-true other number e)) (end_loan_fresh number l)
    ended (Pass loan to) e = absurd (both_ways false refl e)
    ended (Give from n to) e = absurd (both_ways false refl e)
    ended (MakeOrphans other) e =
        subst (λ x. IsFresh (loans (orphan_loan procs x l)) number) (sym (same_number-true other number e))
        (subst (λ m. IsFresh (loans m) number) (sym (orphan_loan_nothing procs number l (fresh_homes l number fresh))) fresh)
    ended (Forget pid) e = absurd (both_ways false refl e)

    passed_on : (step : LedgerStep) → passes number step ≡ true → IsFresh (loans (after procs step l)) number
    passed_on (Make first n right) e = absurd (both_ways false refl e)
    passed_on (MakeConsole place w) e = absurd (both_ways false refl e)
    passed_on (Write name offset bytes) e = absurd (both_ways false refl e)
    passed_on (Remove places) e = absurd (both_ways false refl e)
    passed_on (Reduce places right) e = absurd (both_ways false refl e)
    passed_on (Lend from n to kind other) e = absurd (both_ways false refl e)
    passed_on (End other) e = absurd (both_ways false refl e)
    passed_on (Pass loan to) e =
        subst (λ x. IsFresh (loans (pass x loan.holder to l)) number) (sym (same_number-true loan.number number e)) (pass_fresh number loan.holder to l fresh)
    passed_on (Give from n to) e = absurd (both_ways false refl e)
    passed_on (MakeOrphans other) e = absurd (both_ways false refl e)
    passed_on (Forget pid) e = absurd (both_ways false refl e)

-- ---- what a page on loan keeps

-- the page after a step is the page before it
stays : (m : Ledger) (p : Place) (page : Page) (loan : PageLoan) → m.home p ≡ Some page → page.loan ≡ Some loan
    → (now : Page) × (m.home p ≡ Some now) × IsStillLent loan page now
stays m p page loan e f = (page, e, record { right = refl; loan_now = loan; still = f; kind = refl; number = refl; bytes = λ k. refl })

-- a home is no free place
home_not_free : (procs : ℕ) (l : Ledger) (p : Place) (page : Page) → l.home p ≡ Some page → IsFreeAt procs l p → ⊥
home_not_free procs l p page e free = none-some page (sym free.home ∙ e)

-- a page on loan isn't one that a step without loans may name
lent_page_is_lent : (l : Ledger) (p : Place) (page : Page) (loan : PageLoan) → l.home p ≡ Some page
    → page.loan ≡ Some loan → is_lent (l.home p) ≡ false → ⊥
lent_page_is_lent l p page loan e f g = both_ways (is_lent (l.home p)) g (ap is_lent e ∙ ap is_some f)

lent_not_movable : (l : Ledger) (p : Place) (page : Page) (loan : PageLoan) → l.home p ≡ Some page
    → page.loan ≡ Some loan → (a : Page) → l.home p ≡ Some a → IsMovable a → ⊥
lent_not_movable l p page loan e f a g m = none-some loan (sym m.no_loan ∙ (ap (λ (x : Page). x.loan) (same_Some a page (sym g ∙ e)) ∙ f))

-- a store reaches a page at its home only where that page has no Shared loan
store_not_shared : (procs : ℕ) (l : Ledger) (place p : Place) (page : Page) (loan : PageLoan)
    → reach procs l place Store ≡ Some (Homed p) → l.home p ≡ Some page → page.loan ≡ Some loan → loan.kind ≡ Shared → ⊥
store_not_shared procs l place p page loan e f g k = elim (cases_Option (l.home place)) [
  | inr own ↦
      let reached : (if home_may own.0.right own.0.loan Store then Some (Homed place) else None) ≡ Some (Homed p) =
      sym (reach-home procs l place own.0 Store own.1) ∙ e in
      let at : (home_may own.0.right own.0.loan Store ≡ true) × (Homed place ≡ Homed p) =
      cond_some (home_may own.0.right own.0.loan Store) (Homed place) (Homed p) reached in
      let here : place ≡ p = cc in
      let same : own.0 ≡ page = same_Some own.0 page (sym own.1 ∙ (ap l.home here ∙ f)) in
      both_ways (home_may own.0.right own.0.loan Store)
      (ap (λ x. home_may own.0.right x Store) (ap (λ (x : Page). x.loan) same ∙ g) ∙ ap (λ x. lender_may x own.0.right Store) k) at.0
  | inl no_home ↦ elim (cases_Option (l.orphan place)) [
    | inr orphan ↦
        let at : (holder_may orphan.0.kind Store ≡ true) × (Orphaned place ≡ Homed p) =
        cond_some (holder_may orphan.0.kind Store) (Orphaned place) (Homed p) (sym (reach-role procs l place Store (OrphanPlace orphan.0) (role_at-orphan procs l place orphan.0 no_home orphan.1)) ∙ e) in
        let no : Orphaned place ≡ Homed p = at.1 in
        cc
    | inl no_orphan ↦ elim (cases_Option (lender_of procs l place)) [
      | inr q ↦
          let held : (x : PageLoan) × (loan_at l q.0 ≡ Some x) × (x.holder ≡ place) =
          lender_of-loan procs l place q.0 q.1 in
          let at : (holder_may held.0.kind Store ≡ true) × (Homed q.0 ≡ Homed p) =
          cond_some (holder_may held.0.kind Store) (Homed q.0) (Homed p) (sym (reach-role procs l place Store (HolderPlace q.0 held.0) (role_at-lender procs l place q.0 held.0 no_home no_orphan q.1 held.1)) ∙ e) in
          let named : Homed q.0 ≡ Homed p = at.1 in
          let here : q.0 ≡ p = cc in
          let same : held.0 ≡ loan =
          same_Some held.0 loan (sym held.1 ∙ (ap (loan_at l) here ∙ (loan_at-home l p page f ∙ g))) in
          both_ways (holder_may held.0.kind Store) (ap (λ x. holder_may x Store) (ap (λ (x : PageLoan). x.kind) same ∙ k)) at.0
      | inl none ↦ none-some (Homed p) (sym (reach-role procs l place Store FreePlace (role_at-free procs l place no_home no_orphan none)) ∙ e)
    ]
  ]
]

-- what a write does to a page on loan: its bytes alone, and only under an Exclusive loan
written_stays : (procs : ℕ) (l : Ledger) (name : PageName) (offset : ℕ) (bytes : List ℕ) (p : Place) (page : Page) (loan : PageLoan)
    → CanWrite procs l name offset bytes
    → l.home p ≡ Some page → page.loan ≡ Some loan → (now : Page) × ((write name offset bytes l).home p ≡ Some now) × IsStillLent loan page now
unfolding write
written_stays procs l (Orphaned q) offset bytes p page loan can e f = stays l p page loan e f
written_stays procs l (Homed q) offset bytes p page loan can e f = elim (cases_Bool (same_place p q)) [
  | inl t ↦ (
    written_page offset bytes page,
    cond-true (same_place p q) (option_map (written_page offset bytes) (l.home p)) (l.home p) t ∙ ap (option_map (written_page offset bytes)) e,
    record {
      right = refl;
      loan_now = loan;
      still = f;
      kind = refl;
      number = refl;
      bytes = λ k.
          absurd (store_not_shared procs l can.place p page loan (can.reached ∙ ap (λ x. Some (Homed x)) (sym (same_place-true p q t))) e f k);
    },
  )
  | inr g ↦ (page, cond-false (same_place p q) (option_map (written_page offset bytes) (l.home p)) (l.home p) g ∙ e, record { right = refl; loan_now = loan; still = f; kind = refl; number = refl; bytes = λ k. refl })
]

-- while its loan lasts, a page keeps home, right and loan, and under a Shared loan its bytes
pub lent_page_stays : (procs capacity : ℕ) (step : LedgerStep) (l : Ledger) (p : Place) (page : Page) (loan : PageLoan)
    → IsLawful procs capacity l → May procs capacity step l → ends loan.number step ≡ false
    → l.home p ≡ Some page → page.loan ≡ Some loan → (now : Page) × ((after procs step l).home p ≡ Some now) × IsStillLent loan page now
lent_page_stays procs capacity (Make first n right) l p page loan h can g e f =
    let outside : in_run first n p ≡ false =
    false_from_ne_true (in_run first n p) (λ t. home_not_free procs l p page e (is_free-true procs l p (can.free p t))) in
    stays (make first n right l) p page loan (make_outside first n right l p outside ∙ e) f
lent_page_stays procs capacity (MakeConsole place w) l p page loan h can g e f =
    stays (make_console place w l) p page loan
    (make_console_outside place w l p (λ s. home_not_free procs l p page e (subst (IsFreeAt procs l) (sym s) (is_free-true procs l place can.free))) ∙ e) f
lent_page_stays procs capacity (Write name offset bytes) l p page loan h can g e f = written_stays procs l name offset bytes p page loan can e f
lent_page_stays procs capacity (Remove places) l p page loan h can g e f =
    let outside : places p ≡ false =
    false_from_ne_true (places p) (λ t. lent_page_is_lent l p page loan e f (can.not_lent p t)) in
    stays (remove places l) p page loan (remove_outside places l p outside ∙ e) f
lent_page_stays procs capacity (Reduce places right) l p page loan h can g e f =
    let outside : places p ≡ false =
    false_from_ne_true (places p) (λ t. lent_page_is_lent l p page loan e f (can.not_lent p t)) in
    stays (reduce places right l) p page loan (reduce_outside places right l p outside ∙ e) f
lent_page_stays procs capacity (Lend from n to kind number) l p page loan h can g e f =
    let outside : in_run from n p ≡ false = false_from_ne_true (in_run from n p) (λ t.
    let a : (a : Page) × (l.home p ≡ Some a) × IsMovable a × (kind ≡ Exclusive → a.right.w ≡ true) =
    lend_was procs from n to kind number l can p t in
    lent_not_movable l p page loan e f a.0 a.1 a.2) in
    stays (lend from n to kind number l) p page loan (lend_outside from n to kind number l p outside ∙ e) f
lent_page_stays procs capacity (End number) l p page loan h can g e f =
    stays (end_loan number l) p page loan
    (end_loan_outside number l p (ap (of_number number) (loan_at-home l p page e ∙ f) ∙ of_number-apart number loan (λ s. same_number-false number loan.number g (sym s))) ∙ e) f
lent_page_stays procs capacity (Pass other to) l p page loan h can g e f = (
  passed other.number other.holder to page,
  pass_home other.number other.holder to l p ∙ ap (option_map (passed other.number other.holder to)) e,
  record {
    right = refl;
    loan_now = passed_loan other.number other.holder to loan;
    still = ap (option_map (passed_loan other.number other.holder to)) f;
    kind = passed_loan-kind other.number other.holder to loan;
    number = passed_loan-number other.number other.holder to loan;
    bytes = λ k. refl;
  },
)
lent_page_stays procs capacity (Give from n to) l p page loan h can g e f =
    let not_new : in_run to n p ≡ false =
    false_from_ne_true (in_run to n p) (λ t. home_not_free procs l p page e (is_free-true procs l p (can.free p t))) in
    let not_old : in_run from n p ≡ false = false_from_ne_true (in_run from n p) (λ t.
    let a : (a : Page) × (l.home p ≡ Some a) × IsMovable a = may_move-page (l.home p) (can.pages p t) in
    lent_not_movable l p page loan e f a.0 a.1 a.2) in
    stays (give from n to l) p page loan (give_outside from n to l p not_new not_old ∙ e) f
lent_page_stays procs capacity (MakeOrphans number) l p page loan h can g e f =
    stays (orphan_loan procs number l) p page loan
    (orphan_loan_outside procs number l p (ap (of_number number) (loan_at-home l p page e ∙ f) ∙ of_number-apart number loan (λ s. same_number-false number loan.number g (sym s))) ∙ e) f
lent_page_stays procs capacity (Forget pid) l p page loan h can g e f =
    stays (forget pid l) p page loan (forget_outside pid l p (λ s. lent_page_is_lent l p page loan e f (can.not_lent p s)) ∙ e) f

-- ---- over a list of steps

pub steps_lawful : (procs capacity : ℕ) (steps : List LedgerStep) (l : Ledger) → IsLawful procs capacity l
    → MayAll procs capacity steps l → IsLawful procs capacity (after_all procs steps l)
unfolding after_all MayAll
steps_lawful procs capacity [] l h can = h
steps_lawful procs capacity (step ∷ steps) l h can = steps_lawful procs capacity steps (after procs step l) (step_lawful procs capacity step l h can.0) can.1

still_lent_twice : (loan : PageLoan) (a b c : Page) (x : IsStillLent loan a b) → IsStillLent x.loan_now b c
    → IsStillLent loan a c
still_lent_twice loan a b c x y = record {
  right = y.right ∙ x.right;
  loan_now = y.loan_now;
  still = y.still;
  kind = y.kind ∙ x.kind;
  number = y.number ∙ x.number;
  bytes = λ k. y.bytes (x.kind ∙ k) ∙ x.bytes k;
}

pub lent_page_stays_all : (procs capacity : ℕ) (steps : List LedgerStep) (l : Ledger) (p : Place) (page : Page) (loan : PageLoan)
    → IsLawful procs capacity l → MayAll procs capacity steps l → NoneEnds loan.number steps
    → l.home p ≡ Some page → page.loan ≡ Some loan → (now : Page) × ((after_all procs steps l).home p ≡ Some now) × IsStillLent loan page now
unfolding after_all MayAll NoneEnds
lent_page_stays_all procs capacity [] l p page loan h can g e f = stays l p page loan e f
lent_page_stays_all procs capacity (step ∷ steps) l p page loan h can g e f =
    let one : (now : Page) × ((after procs step l).home p ≡ Some now) × IsStillLent loan page now =
    lent_page_stays procs capacity step l p page loan h can.0 g.0 e f in
    let rest : (now : Page) × ((after_all procs steps (after procs step l)).home p ≡ Some now) × IsStillLent one.2.loan_now one.0 now =
    lent_page_stays_all procs capacity steps (after procs step l) p one.0 one.2.loan_now (step_lawful procs capacity step l h can.0) can.1
    (subst (λ n. NoneEnds n steps) (sym one.2.number) g.1) one.1 one.2.still in
    (rest.0, rest.1, still_lent_twice loan page one.0 rest.0 one.2 rest.2)

-- where no step passes it on, the loan stays as it is
lent_number_is_used : (l : Ledger) (p : Place) (loan : PageLoan) → loan_at l p ≡ Some loan → IsFresh (loans l) loan.number → ⊥
lent_number_is_used l p loan e fresh = none-some loan (sym (fresh_homes l loan.number fresh p) ∙ (ap (of_number loan.number) e ∙ of_number-at loan.number loan refl))

pub lent_loan_stays : (procs capacity : ℕ) (step : LedgerStep) (l : Ledger) (p : Place) (loan : PageLoan)
    → IsLawful procs capacity l → May procs capacity step l → ends loan.number step ≡ false → passes loan.number step ≡ false
    → loan_at l p ≡ Some loan → loan_at (after procs step l) p ≡ Some loan
unfolding loans
lent_loan_stays procs capacity step l p loan h can e g at =
    let other : lends loan.number step ≡ false = false_from_ne_true (lends loan.number step) (λ t. lent_number_is_used l p loan at (lent_fresh step can t)) in
    (of_number-Some loan.number (loan_at (after procs step l) p) loan
    ((step_leaves procs capacity loan.number step l h can e other g).homes p ∙ (ap (of_number loan.number) at ∙ of_number-at loan.number loan refl))).0
  where
    lent_fresh : (step : LedgerStep) → May procs capacity step l → lends loan.number step ≡ true → IsFresh (loans l) loan.number
    lent_fresh (Make first n right) can t = absurd (both_ways false refl t)
    lent_fresh (MakeConsole place w) can t = absurd (both_ways false refl t)
    lent_fresh (Write name offset bytes) can t = absurd (both_ways false refl t)
    lent_fresh (Remove places) can t = absurd (both_ways false refl t)
    lent_fresh (Reduce places right) can t = absurd (both_ways false refl t)
    lent_fresh (Lend from n to kind other) can t = subst (IsFresh (loans l)) (same_number-true other loan.number t) can.fresh
    lent_fresh (End other) can t = absurd (both_ways false refl t)
    lent_fresh (Pass other to) can t = absurd (both_ways false refl t)
    lent_fresh (Give from n to) can t = absurd (both_ways false refl t)
    lent_fresh (MakeOrphans other) can t = absurd (both_ways false refl t)
    lent_fresh (Forget pid) can t = absurd (both_ways false refl t)

-- what the end of its loan leaves of a page
ended_page : (number : Number) (l : Ledger) (p : Place) (page now : Page) (loan : PageLoan) → loan.number ≡ number → l.home p ≡ Some now
    → IsStillLent loan page now
    → (back : Page) × ((end_loan number l).home p ≡ Some back) × IsBack loan.kind page back
unfolding end_loan
ended_page number l p page now loan same e still = (
  freed number now,
  ap (option_map (freed number)) e,
  record {
    no_loan = ap (loan_without number) still.still
        ∙ cond-true (same_number still.loan_now.number number) None (Some still.loan_now) (same_number-at still.loan_now.number number (still.number ∙ same));
    right = still.right;
    bytes = still.bytes;
  },
)

-- A LOAN GIVES BACK WHAT IT TOOK: after a loan, any steps that don't end it, and its end, each of its pages is back.
pub loan_gives_back : (procs capacity : ℕ) (from : Place) (n : ℕ) (to : Place) (kind : LoanKind) (number : Number) (l : Ledger) (steps : List LedgerStep)
    → IsLawful procs capacity l → CanLend procs l from n to kind number
    → MayAll procs capacity steps (lend from n to kind number l) → NoneEnds number steps
    → (i : ℕ) (page : Page) → i < n → l.home (place_after from i) ≡ Some page
    → (back : Page) × ((end_loan number (after_all procs steps (lend from n to kind number l))).home (place_after from i) ≡ Some back) × IsBack kind page back
loan_gives_back procs capacity from n to kind number l steps h can may none i page b e =
    let p : Place = place_after from i in
    let t : in_run from n (place_after from i) ≡ true = in_run-after from n i b in
    let lent : Page = with_loan (loan_to from to kind number (place_after from i)) page in
    let stays : (now : Page) × ((after_all procs steps (lend from n to kind number l)).home (place_after from i) ≡ Some now)
    × IsStillLent (loan_to from to kind number (place_after from i)) (with_loan (loan_to from to kind number (place_after from i)) page) now =
    lent_page_stays_all procs capacity steps (lend from n to kind number l) (place_after from i) (with_loan (loan_to from to kind number (place_after from i)) page) (loan_to from to kind number (place_after from i))
    (lend_lawful procs from n to kind number l can capacity h) may none (lend_page procs from n to kind number l can (place_after from i) page t e) refl in
    ended_page number (after_all procs steps (lend from n to kind number l)) (place_after from i) page stays.0 (loan_to from to kind number (place_after from i)) refl stays.1
    (record { right = stays.2.right; loan_now = stays.2.loan_now; still = stays.2.still; kind = stays.2.kind; number = stays.2.number; bytes = stays.2.bytes })
