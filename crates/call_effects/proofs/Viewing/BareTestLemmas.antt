-- What is asked of a ledger before its pages change is the same without its bytes.
use Rattle.std.proofs.Common.{◌≡◌, ℕ, ◌+◌, Bool, ◌&&◌, ◌||◌, Option, Some, None, refl, ap, ◌∙◌, true, false}
use Rattle.std.specs.Prelude.{is_some, nat_le, not}
use Rattle.std.specs.List.{list_any, list_all}
use Rattle.std.specs.Option.{option_map}
use Rattle.xk_base.specs.declared.ids.Pid.{Pid}
use Rattle.xk_base.specs.declared.ids.Place.{Place}
use Rattle.xk_base.specs.declared.pages.Right.{Right}
use Rattle.xk_base.specs.declared.windows.Window.{Window}
use Rattle.xk_base.specs.Tables.Counting.{least_below}
use Rattle.ledger_model.specs.Conditions.{is_console}
use Rattle.ledger_model.specs.Ledger.{Ledger, Contents, Console, Bytes, Page, Orphan, loan_of, pages}
use Rattle.ledger_model.specs.LeastRun.{is_free_run, least_run, window_pages, window_place}
use Rattle.ledger_model.specs.Loans.{bare, bare_contents, bare_orphan, bare_page}
use Rattle.ledger_model.specs.Places.{first_place, run}
use Rattle.ledger_model.specs.Reach.{Role, home_or, holder_role, is_free, lender_of, lent_role, orphan_or_holder, role_at}
use Rattle.ledger_model.specs.RunTests.{any_console, any_free, any_lacks, any_not_sent, any_on_loan, any_used, asks_more, console_mapped, is_on_loan}
use Rattle.ledger_model.proofs.Pages.BareLemmas.{bare-free, bare-lender}
use Rattle.ledger_model.proofs.LedgerLemmas.{same_ledger}
use Rattle.ledger_model.proofs.Stepping.WritingLemmas.{bare-pages}

-- ---- without bytes twice

contents_twice : (c : Contents) → bare_contents (bare_contents c) ≡ bare_contents c
contents_twice Console = refl
contents_twice (Bytes bytes) = refl

pub page_twice : (o : Option Page) → option_map bare_page (option_map bare_page o) ≡ option_map bare_page o
page_twice None = refl
page_twice (Some page) = ap (λ c. Some (record page { contents = c })) (contents_twice page.contents)

pub orphan_twice : (o : Option Orphan) → option_map bare_orphan (option_map bare_orphan o) ≡ option_map bare_orphan o
orphan_twice None = refl
orphan_twice (Some orphan) = refl

pub bare_twice : (l : Ledger) → bare (bare l) ≡ bare l
unfolding bare
bare_twice l = same_ledger (bare (bare l)) (bare l) (λ p. page_twice (l.home p)) (λ p. orphan_twice (l.orphan p))

-- ---- places

pub free_bare : (procs : ℕ) (l : Ledger) (p : Place) → is_free procs (bare l) p ≡ is_free procs l p
free_bare procs l p = bare-free procs l (bare l) p (bare_twice l)

pub lender_bare : (procs : ℕ) (l : Ledger) (p : Place) → lender_of procs (bare l) p ≡ lender_of procs l p
lender_bare procs l p = bare-lender procs l (bare l) p (bare_twice l)

pub pages_bare : (procs : ℕ) (l : Ledger) → pages procs (bare l) ≡ pages procs l
pages_bare procs l = bare-pages procs l (bare l) (bare_twice l)

loan_alike : (o : Option Page) → loan_of (option_map bare_page o) ≡ loan_of o
loan_alike None = refl
loan_alike (Some page) = refl

holder_alike : (l : Ledger) (o : Option Place) → holder_role (bare l) o ≡ holder_role l o
unfolding bare
holder_alike l None = refl
holder_alike l (Some home) = ap (lent_role home) (loan_alike (l.home home))

role_on_loan : (h : Option Page) (o : Option Orphan) (r : Role)
    → is_on_loan (home_or (option_map bare_page h) (orphan_or_holder (option_map bare_orphan o) r))
    ≡ is_on_loan (home_or h (orphan_or_holder o r))
role_on_loan None None r = refl
role_on_loan None (Some orphan) r = refl
role_on_loan (Some page) o r = refl

on_loan_alike : (procs : ℕ) (l : Ledger) (p : Place) → is_on_loan (role_at procs (bare l) p) ≡ is_on_loan (role_at procs l p)
unfolding role_at bare
on_loan_alike procs l p =
    ap (λ o. is_on_loan (home_or (option_map bare_page (l.home p)) (orphan_or_holder (option_map bare_orphan (l.orphan p)) (holder_role (bare l) o))))
    (lender_bare procs l p)
    ∙ ap (λ r. is_on_loan (home_or (option_map bare_page (l.home p)) (orphan_or_holder (option_map bare_orphan (l.orphan p)) r)))
    (holder_alike l (lender_of procs l p))
    ∙ role_on_loan (l.home p) (l.orphan p) (holder_role l (lender_of procs l p))

-- ---- runs

pub used_bare : (procs : ℕ) (l : Ledger) (first : Place) (n : ℕ) → any_used procs (bare l) first n ≡ any_used procs l first n
unfolding any_used
used_bare procs l first n = λ i. list_any (λ p. not (free_bare procs l p i)) (run first n)

pub any_free_bare : (procs : ℕ) (l : Ledger) (first : Place) (n : ℕ)
    → any_free procs (bare l) first n ≡ any_free procs l first n
unfolding any_free
any_free_bare procs l first n = λ i. list_any (λ p. free_bare procs l p i) (run first n)

pub any_on_loan_bare : (procs : ℕ) (l : Ledger) (first : Place) (n : ℕ)
    → any_on_loan procs (bare l) first n ≡ any_on_loan procs l first n
unfolding any_on_loan
any_on_loan_bare procs l first n = λ i. list_any (λ p. on_loan_alike procs l p i) (run first n)

asks_alike : (asked : Right) (o : Option Page) → asks_more asked (option_map bare_page o) ≡ asks_more asked o
asks_alike asked None = refl
asks_alike asked (Some page) = refl

pub any_lacks_bare : (asked : Right) (l : Ledger) (first : Place) (n : ℕ)
    → any_lacks asked (bare l) first n ≡ any_lacks asked l first n
unfolding any_lacks bare
any_lacks_bare asked l first n = λ i. list_any (λ p. asks_alike asked (l.home p) i) (run first n)

console_alike : (o : Option Page) → is_console (option_map bare_page o) ≡ is_console o
console_alike None = refl
console_alike (Some page) = of_contents page.contents
  where
    of_contents : (c : Contents)
        → is_console (Some (record page { contents = bare_contents c })) ≡ is_console (Some (record page { contents = c }))
    of_contents Console = refl
    of_contents (Bytes bytes) = refl

pub any_console_bare : (l : Ledger) (first : Place) (n : ℕ) → any_console (bare l) first n ≡ any_console l first n
unfolding any_console bare
any_console_bare l first n = λ i. list_any (λ p. console_alike (l.home p) i) (run first n)

pub any_not_sent_bare : (procs : ℕ) (l : Ledger) (first : Place) (n : ℕ) (mutably : Bool)
    → any_not_sent procs (bare l) first n mutably ≡ any_not_sent procs l first n mutably
any_not_sent_bare procs l first n mutably =
    λ i. any_on_loan_bare procs l first n i || any_console_bare l first n i
    || (mutably && any_lacks_bare (record { w = true; x = false }) l first n i)

pub console_mapped_bare : (procs : ℕ) (l : Ledger) → console_mapped procs (bare l) ≡ console_mapped procs l
unfolding console_mapped bare
console_mapped_bare procs l = λ i. is_some (first_place procs (λ p. console_alike (l.home p) i))

pub least_run_bare : (procs : ℕ) (l : Ledger) (pid : Pid) (window : Window) (n : ℕ)
    → least_run procs (bare l) pid window n ≡ least_run procs l pid window n
unfolding least_run is_free_run
least_run_bare procs l pid window n =
    λ i. option_map (λ k. (window_place pid window k).vpn)
    (least_below (window_pages window)
    (λ k. nat_le (k + n) (window_pages window) && list_all (λ p. free_bare procs l p i) (run (window_place pid window k) n)))
