-- Runs of places: what is asked of them, and how a step over a run leaves the places ahead.
use Rattle.std.proofs.Common.{◌≡◌, ℕ, ◌+◌, ◌-◌, ◌<◌, ◌≤◌, Bool, true, false, not, Option, Some, None, refl, sym, ap, subst, ◌∙◌, inl, inr, arith}
use Rattle.std.specs.Prelude.{is_some}
use Rattle.std.specs.List.{list_any}
use Rattle.std.specs.Option.{option_map}
use Rattle.std.proofs.lemmas.Bool.{both_ways, cond-false, false_from_ne_true}
use Rattle.xk_base.specs.declared.ids.Place.{Place}
use Rattle.xk_base.specs.declared.pages.Right.{Right}
use Rattle.ledger_model.specs.Conditions.{CanMake, is_lent}
use Rattle.ledger_model.specs.Ledger.{Ledger, Page, PageLoan, Orphan, loan_at}
use Rattle.ledger_model.specs.Loans.{Loans, loans}
use Rattle.ledger_model.specs.Places.{first_place, in_run, place_after, run}
use Rattle.ledger_model.specs.Reach.{Role, FreePlace, HomePlace, HolderPlace, OrphanPlace, holder_role, home_or, is_free, is_free_role, is_held_at, lender_of, lent_role, orphan_or_holder, role_at}
use Rattle.ledger_model.specs.RunTests.{any_used, any_free, any_on_loan, any_lacks, asks_more, is_on_loan}
use Rattle.ledger_model.specs.Steps.{make, reduce, remove, with_right}
use Rattle.ledger_model.proofs.LedgerLemmas.{cases_Option, role_at-home}
use Rattle.ledger_model.proofs.LocalityLemmas.{make_outside, make_orphans}
use Rattle.ledger_model.proofs.Stepping.MakingLemmas.{make_loans}
use Rattle.ledger_model.proofs.PlaceLemmas.{IsInRun, in_run-true, in_run-index}
use Rattle.ledger_model.proofs.Runs.RunTestLemmas.{some_passes, each_fails, none_passes}
use Rattle.ledger_model.proofs.Stepping.RemovingLemmas.{remove_home, remove_orphan, remove_loans, reduce_loans}
use Rattle.page_views.specs.declared.run_tests.RunTest.{RunTest}
use Rattle.page_views.specs.declared.run_tests.RunTest.TheVariants.{Used, Free, OnLoan, Lacks}
use Rattle.page_views.specs.Here.{here_at, here_of, info_of_loan}
use Rattle.page_views.specs.RunTests.{any_passes, is_loan_here, is_nothing, lacks_here, passes}

-- ---- what is told of a place

loan_told : (o : Option PageLoan) → is_some (option_map info_of_loan o) ≡ is_some o
loan_told None = refl
loan_told (Some loan) = refl

nothing_by_role : (role : Role) → is_nothing (here_of role) ≡ is_free_role role
nothing_by_role FreePlace = refl
nothing_by_role (HomePlace page) = refl
nothing_by_role (HolderPlace home loan) = refl
nothing_by_role (OrphanPlace orphan) = refl

loan_by_role : (role : Role) → is_loan_here (here_of role) ≡ is_on_loan role
loan_by_role FreePlace = refl
loan_by_role (HomePlace page) = loan_told page.loan
loan_by_role (HolderPlace home loan) = refl
loan_by_role (OrphanPlace orphan) = refl

pub free_here : (procs : ℕ) (l : Ledger) (p : Place) → is_nothing (here_at procs l p) ≡ is_free procs l p
unfolding is_free
free_here procs l p = nothing_by_role (role_at procs l p)

-- a place without a home has no right to tell
lent_tells : (asked : Right) (home : Place) (o : Option PageLoan) → lacks_here asked (here_of (lent_role home o)) ≡ false
lent_tells asked home None = refl
lent_tells asked home (Some loan) = refl

holder_tells : (asked : Right) (l : Ledger) (o : Option Place) → lacks_here asked (here_of (holder_role l o)) ≡ false
holder_tells asked l None = refl
holder_tells asked l (Some home) = lent_tells asked home (loan_at l home)

orphan_tells : (asked : Right) (l : Ledger) (o : Option Orphan) (q : Option Place)
    → lacks_here asked (here_of (orphan_or_holder o (holder_role l q))) ≡ false
orphan_tells asked l None q = holder_tells asked l q
orphan_tells asked l (Some orphan) q = refl

home_tells : (procs : ℕ) (asked : Right) (l : Ledger) (p : Place) (o : Option Page) → l.home p ≡ o
    → lacks_here asked (here_at procs l p) ≡ asks_more asked o
unfolding role_at
home_tells procs asked l p None e =
    let role : role_at procs l p ≡ orphan_or_holder (l.orphan p) (holder_role l (lender_of procs l p)) =
    ap (λ o. home_or o (orphan_or_holder (l.orphan p) (holder_role l (lender_of procs l p)))) e in
    ap (λ r. lacks_here asked (here_of r)) role ∙ orphan_tells asked l (l.orphan p) (lender_of procs l p)
home_tells procs asked l p (Some page) e =
    let role : role_at procs l p ≡ HomePlace page = role_at-home procs l p page e in
    ap (λ r. lacks_here asked (here_of r)) role

-- ---- what is asked of a run

abbrev asked : RunTest → ℕ → Ledger → Place → Bool
asked Used procs l p = not (is_free procs l p)
asked Free procs l p = is_free procs l p
asked OnLoan procs l p = is_on_loan (role_at procs l p)
asked (Lacks right) procs l p = asks_more right (l.home p)

asked_here : (test : RunTest) (procs : ℕ) (l : Ledger) (p : Place) → passes test (here_at procs l p) ≡ asked test procs l p
asked_here Used procs l p = ap not (free_here procs l p)
asked_here Free procs l p = free_here procs l p
asked_here OnLoan procs l p = loan_by_role (role_at procs l p)
asked_here (Lacks right) procs l p = home_tells procs right l p (l.home p) refl

any_asked : (test : RunTest) (procs : ℕ) (l : Ledger) (first : Place) (n : ℕ) → any_passes test procs l first n ≡ list_any (asked test procs l) (run first n)
unfolding any_used any_free any_on_loan any_lacks
any_asked Used procs l first n = refl
any_asked Free procs l first n = refl
any_asked OnLoan procs l first n = refl
any_asked (Lacks right) procs l first n = refl

pub any_found : (test : RunTest) (procs : ℕ) (l : Ledger) (first : Place) (n i : ℕ) → i < n
    → passes test (here_at procs l (place_after first i)) ≡ true → any_passes test procs l first n ≡ true
any_found test procs l first n i low t =
    any_asked test procs l first n ∙ some_passes (asked test procs l) first n i low (sym (asked_here test procs l (place_after first i)) ∙ t)

pub any_missed : (test : RunTest) (procs : ℕ) (l : Ledger) (first : Place) (n : ℕ)
    → ((i : ℕ) → i < n → passes test (here_at procs l (place_after first i)) ≡ false) → any_passes test procs l first n ≡ false
any_missed test procs l first n h =
    any_asked test procs l first n ∙ none_passes (asked test procs l) first n (λ i low. sym (asked_here test procs l (place_after first i)) ∙ h i low)

pub each_not_lent : (procs : ℕ) (l : Ledger) (first : Place) (n : ℕ) → any_on_loan procs l first n ≡ false → (i : ℕ) → i < n
    → is_on_loan (role_at procs l (place_after first i)) ≡ false
unfolding any_on_loan
each_not_lent procs l first n e i low = each_fails (λ p. is_on_loan (role_at procs l p)) first n e i low

pub each_within : (right : Right) (l : Ledger) (first : Place) (n : ℕ) → any_lacks right l first n ≡ false → (i : ℕ) → i < n
    → asks_more right (l.home (place_after first i)) ≡ false
unfolding any_lacks
each_within right l first n e i low = each_fails (λ p. asks_more right (l.home p)) first n e i low

pub each_used : (procs : ℕ) (l : Ledger) (first : Place) (n : ℕ) → any_used procs l first n ≡ false → (i : ℕ) → i < n
    → is_free procs l (place_after first i) ≡ true
unfolding any_used
each_used procs l first n e i low = no_more (is_free procs l (place_after first i)) (each_fails (λ p. not (is_free procs l p)) first n e i low)
  where
    no_more : (b : Bool) → not b ≡ false → b ≡ true
    no_more true h = refl
    no_more false h = absurd (both_ways true h refl)

-- ---- the places ahead of a step

pub ahead : (first : Place) (i : ℕ) → in_run first i (place_after first i) ≡ false
ahead first i = false_from_ne_true (in_run first i (place_after first i)) (λ t.
    let there : IsInRun first i (place_after first i) = in_run-true first i (place_after first i) t in
    let to : first.vpn.0 + i < first.vpn.0 + i = there.to in
    omega arith)

-- a place whose page and orphan are the same, among the same loans, has the same role
role_same : (procs : ℕ) (l m : Ledger) (p : Place) → m.home p ≡ l.home p → m.orphan p ≡ l.orphan p → loans m ≡ loans l
    → role_at procs m p ≡ role_at procs l p
unfolding role_at lender_of loans
role_same procs l m p h o e =
    (λ i. home_or (h i) (orphan_or_holder (o i) (holder_role m (first_place procs (λ q. is_held_at p (loan q i))))))
    ∙ ap (λ r. home_or (l.home p) (orphan_or_holder (l.orphan p) r)) (holder_same (first_place procs (λ q. is_held_at p (loan_at l q))))
  where
    loan : (q : Place) → loan_at m q ≡ loan_at l q
    loan q = ap (λ (x : Loans). x.home q) e

    holder_same : (q : Option Place) → holder_role m q ≡ holder_role l q
    holder_same None = refl
    holder_same (Some home) = ap (lent_role home) (loan home)

lent_by_role : (procs : ℕ) (l : Ledger) (p : Place) → is_on_loan (role_at procs l p) ≡ false → is_lent (l.home p) ≡ false
lent_by_role procs l p h = elim (cases_Option (l.home p)) [
  | inl none ↦ ap is_lent none
  | inr some ↦ ap is_lent some.1 ∙ (sym (ap is_on_loan (role_at-home procs l p some.0 some.1)) ∙ h)
]

in_run_not_lent : (procs : ℕ) (l : Ledger) (first : Place) (n i : ℕ) → any_on_loan procs l first n ≡ false → i ≤ n
    → (p : Place) → in_run first i p ≡ true → is_lent (l.home p) ≡ false
in_run_not_lent procs l first n i free few p there =
    let at : (p.vpn.0 - first.vpn.0 < i) × (p ≡ place_after first (p.vpn.0 - first.vpn.0)) = in_run-index first i p there in
    subst (λ q. is_lent (l.home q) ≡ false) (sym at.1)
    (lent_by_role procs l (place_after first (p.vpn.0 - first.vpn.0)) (each_not_lent procs l first n free (p.vpn.0 - first.vpn.0) (omega (arith, at.0, few))))

pub free_ahead : (procs capacity : ℕ) (l : Ledger) (first : Place) (i : ℕ) (right : Right) → CanMake procs capacity l first i
    → is_free procs l (place_after first i) ≡ true → is_free procs (make first i right l) (place_after first i) ≡ true
unfolding is_free
free_ahead procs capacity l first i right can free =
    ap is_free_role (role_same procs l (make first i right l) (place_after first i)
    (make_outside first i right l (place_after first i) (ahead first i)) (make_orphans first i right l (place_after first i))
    (make_loans procs capacity first i right l can)) ∙ free

pub lent_ahead : (procs : ℕ) (l : Ledger) (first : Place) (n i : ℕ) → any_on_loan procs l first n ≡ false → i < n
    → is_on_loan (role_at procs (remove (in_run first i) l) (place_after first i)) ≡ false
lent_ahead procs l first n i free low =
    ap is_on_loan (role_same procs l (remove (in_run first i) l) (place_after first i)
    (remove_home (in_run first i) l (place_after first i) ∙ cond-false (in_run first i (place_after first i)) None (l.home (place_after first i)) (ahead first i)) (remove_orphan (in_run first i) l (place_after first i))
    (remove_loans (in_run first i) l (record { not_lent = in_run_not_lent procs l first n i free (omega arith) })))
    ∙ each_not_lent procs l first n free i low

reduced_outside : (l : Ledger) (first : Place) (i : ℕ) (right : Right)
    → (reduce (in_run first i) right l).home (place_after first i) ≡ l.home (place_after first i)
unfolding reduce
reduced_outside l first i right = cond-false (in_run first i (place_after first i))
    (option_map (with_right right) (l.home (place_after first i))) (l.home (place_after first i)) (ahead first i)

reduced_orphan : (l : Ledger) (first : Place) (i : ℕ) (right : Right)
    → (reduce (in_run first i) right l).orphan (place_after first i) ≡ l.orphan (place_after first i)
unfolding reduce
reduced_orphan l first i right = refl

pub lent_ahead_reduced : (procs : ℕ) (l : Ledger) (first : Place) (n i : ℕ) (right : Right) → any_on_loan procs l first n ≡ false → i < n
    → is_on_loan (role_at procs (reduce (in_run first i) right l) (place_after first i)) ≡ false
lent_ahead_reduced procs l first n i right free low =
    ap is_on_loan (role_same procs l (reduce (in_run first i) right l) (place_after first i)
    (reduced_outside l first i right) (reduced_orphan l first i right) (reduce_loans (in_run first i) right l))
    ∙ each_not_lent procs l first n free i low

pub within_ahead : (l : Ledger) (first : Place) (n i : ℕ) (right : Right) → any_lacks right l first n ≡ false → i < n
    → asks_more right ((reduce (in_run first i) right l).home (place_after first i)) ≡ false
within_ahead l first n i right within low =
    ap (asks_more right) (reduced_outside l first i right) ∙ each_within right l first n within i low
