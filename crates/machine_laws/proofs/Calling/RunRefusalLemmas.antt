-- What the refusals of a call leave true where none of them holds.
use Rattle.std.proofs.Common.{◌≡◌, ℕ, ◌<◌, Bool, true, false, List, ◌∷◌, length, get_or, Option, Some, None, refl, sym, ap, ◌∙◌, arith}
use Rattle.std.specs.Prelude.{◌-◌, not}
use Rattle.std.specs.List.{list_any}
use Rattle.std.proofs.lemmas.Bool.{false≢true}
use Rattle.std.proofs.lemmas.List.Folds.{list_any_at}
use Rattle.std.proofs.lemmas.Option.{none-some}
use Rattle.xk_base.specs.declared.errors.XousError.{XousError}
use Rattle.xk_base.specs.declared.ids.Place.{Place}
use Rattle.xk_base.specs.declared.pages.Right.{Right}
use Rattle.ledger_model.specs.Conditions.{CanReduce, CanRemove, is_lent, is_within}
use Rattle.ledger_model.specs.Ledger.{Ledger, Page}
use Rattle.ledger_model.specs.Places.{in_run, place_after, run}
use Rattle.ledger_model.specs.Reach.{is_free, role_at}
use Rattle.ledger_model.specs.RunTests.{any_lacks, any_on_loan, any_used, asks_more, is_on_loan}
use Rattle.ledger_model.proofs.LedgerLemmas.{role_at-home}
use Rattle.ledger_model.proofs.PlaceLemmas.{in_run-index, length-run, run-at}
use Rattle.machine_model.specs.State.Changes.{first_refusal}

-- ---- lists of refusals

-- where no refusal of a list holds, the first doesn't, nor any that follows
pub none_holds : (b : Bool) (error : XousError) (rest : List (Bool × XousError)) → first_refusal ((b, error) ∷ rest) ≡ None
    → (b ≡ false) × (first_refusal rest ≡ None)
none_holds true error rest e = absurd (none-some error (sym e))
none_holds false error rest e = (refl, e)

pub not_false : (b : Bool) → not b ≡ false → b ≡ true
not_false true e = refl
not_false false e = absurd (false≢true (sym e))

-- ---- tests of runs

pub none_in_run : (test : Place → Bool) (first : Place) (n : ℕ) → list_any test (run first n) ≡ false → (p : Place)
    → in_run first n p ≡ true → test p ≡ false
none_in_run test first n e p inside = go (test p) refl
  where
    at : (p.vpn.0 - first.vpn.0 < n) × (p ≡ place_after first (p.vpn.0 - first.vpn.0))
    at = in_run-index first n p inside

    here : get_or (run first n) (p.vpn.0 - first.vpn.0) p ≡ p
    here = run-at first n (p.vpn.0 - first.vpn.0) p at.0 ∙ sym at.1

    below : p.vpn.0 - first.vpn.0 < length (run first n)
    below = let size : length (run first n) ≡ n = length-run first n in let low : p.vpn.0 - first.vpn.0 < n = at.0 in omega arith

    go : (b : Bool) → test p ≡ b → b ≡ false
    go false q = refl
    go true q = absurd (false≢true (sym e ∙ list_any_at test (run first n) (p.vpn.0 - first.vpn.0) p below (ap test here ∙ q)))

home_lent : (procs : ℕ) (l : Ledger) (p : Place) (o : Option Page) → l.home p ≡ o → is_on_loan (role_at procs l p) ≡ false
    → is_lent o ≡ false
home_lent procs l p None q e = refl
home_lent procs l p (Some page) q e = ap is_on_loan (sym (role_at-home procs l p page q)) ∙ e

-- no page of the run is on loan
pub run_not_lent : (procs : ℕ) (l : Ledger) (first : Place) (n : ℕ) → any_on_loan procs l first n ≡ false
    → (p : Place) → in_run first n p ≡ true → is_lent (l.home p) ≡ false
unfolding any_on_loan
run_not_lent procs l first n e p inside =
    home_lent procs l p (l.home p) refl (none_in_run (λ q. is_on_loan (role_at procs l q)) first n e p inside)

pub can_remove : (procs : ℕ) (l : Ledger) (first : Place) (n : ℕ) → any_on_loan procs l first n ≡ false
    → CanRemove l (in_run first n)
can_remove procs l first n e = record { not_lent = run_not_lent procs l first n e }

asks_within : (asked : Right) (o : Option Page) (page : Page) → o ≡ Some page → asks_more asked o ≡ false
    → is_within asked page.right ≡ true
asks_within asked o page q e = not_false (is_within asked page.right) (ap (asks_more asked) (sym q) ∙ e)

pub can_reduce : (procs : ℕ) (l : Ledger) (first : Place) (n : ℕ) (right : Right) → any_on_loan procs l first n ≡ false
    → any_lacks right l first n ≡ false → CanReduce l (in_run first n) right
unfolding any_lacks
can_reduce procs l first n right e lacks = record {
  not_lent = run_not_lent procs l first n e;
  within = λ p page inside q. asks_within right (l.home p) page q (none_in_run (λ q. asks_more right (l.home q)) first n lacks p inside);
}

-- every place of the run is free
pub run_free : (procs : ℕ) (l : Ledger) (first : Place) (n : ℕ) → any_used procs l first n ≡ false
    → (p : Place) → in_run first n p ≡ true → is_free procs l p ≡ true
unfolding any_used
run_free procs l first n e p inside = not_false (is_free procs l p) (none_in_run (λ q. not (is_free procs l q)) first n e p inside)
