-- What a removal, and another right, ask for and count at one place with a page that isn't on loan.
use Rattle.std.proofs.Common.{◌≡◌, ◌+◌, ℕ, Bool, true, false, ◌&&◌, Some, None, refl, sym, ap, subst, ◌∙◌, inl, inr, arith}
use Rattle.std.specs.Option.{option_map}
use Rattle.std.proofs.lemmas.Bool.{cases_Bool, and_from, cond-true, cond-false}
use Rattle.std.proofs.lemmas.Option.{same_Some}
use Rattle.xk_base.specs.declared.ids.Place.{Place}
use Rattle.xk_base.specs.declared.pages.Right.{Right}
use Rattle.ledger_model.specs.Conditions.{CanRemove, CanReduce, is_lent, is_within}
use Rattle.ledger_model.specs.Ledger.{Ledger, Contents, Page, has_bytes, is_counted, pages}
use Rattle.ledger_model.specs.Places.{in_run, is_user_place, count_places}
use Rattle.ledger_model.specs.Steps.{reduce, remove, with_right}
use Rattle.ledger_model.proofs.LedgerLemmas.{same_ledger}
use Rattle.ledger_model.proofs.Loans.NumberingLemmas.{count_places-one, count_places-none}
use Rattle.ledger_model.proofs.PlaceLemmas.{IsInRun, in_run-true, place_from}
use Rattle.ledger_model.proofs.Stepping.RemovingLemmas.{remove_pages}
use Rattle.sv32_space.proofs.Ledgers.EntryLedgerLemmas.{in_one-at}

and_last : (a b : Bool) → b ≡ false → (a && b) ≡ false
and_last true b e = e
and_last false b e = refl

-- a place of a run of one
pub in_one : (at p : Place) → in_run at 1 p ≡ true → p ≡ at
in_one at p e =
    let there : IsInRun at 1 p = in_run-true at 1 p e in
    place_from p at there.pid (omega (arith, there.from, there.to))

-- no page there, no change of right
pub reduce_nothing : (at : Place) (right : Right) (l : Ledger) → l.home at ≡ None → l ≡ reduce (in_run at 1) right l
unfolding reduce
reduce_nothing at right l none = same_ledger l (reduce (in_run at 1) right l) homes (λ p. refl)
  where
    homes : (p : Place) → l.home p ≡ (reduce (in_run at 1) right l).home p
    homes p = elim (cases_Bool (in_run at 1 p)) [
      | inl t ↦
          let here : l.home p ≡ None = ap (λ q. l.home q) (in_one at p t) ∙ none in
          sym (cond-true (in_run at 1 p) (option_map (with_right right) (l.home p)) (l.home p) t ∙ (ap (option_map (with_right right)) here ∙ sym here))
      | inr f ↦ sym (cond-false (in_run at 1 p) (option_map (with_right right) (l.home p)) (l.home p) f)
    ]

-- a page that isn't on loan
abbrev pub lone_page : Right → Contents → Page
lone_page right contents = record { right = right; contents = contents; loan = None }

module _ (procs : ℕ) (l : Ledger) (at : Place) (right : Right) (contents : Contents) (here : l.home at ≡ Some (lone_page right contents)) where
  pub can_remove : CanRemove l (in_run at 1)
  can_remove = record { not_lent = λ p e. ap is_lent (ap (λ q. l.home q) (in_one at p e) ∙ here) }

  pub can_reduce : (new : Right) → is_within new right ≡ true → CanReduce l (in_run at 1) new
  can_reduce new within = record {
    not_lent = λ p e. ap is_lent (ap (λ q. l.home q) (in_one at p e) ∙ here);
    within = λ p b e h. subst (λ (x : Page). is_within new x.right ≡ true)
        (same_Some (lone_page right contents) b (sym here ∙ (ap (λ q. l.home q) (sym (in_one at p e)) ∙ h))) within;
  }

  -- there is one page less
  pub one_less : is_user_place procs at ≡ true → has_bytes contents ≡ true → pages procs (remove (in_run at 1) l) + 1 ≡ pages procs l
  one_less user counted = ap (λ k. pages procs (remove (in_run at 1) l) + k) (sym one) ∙ remove_pages procs (in_run at 1) l
    where
      one : count_places procs (λ p. is_counted (l.home p) && in_run at 1 p) ≡ 1
      one = count_places-one procs at (λ p. is_counted (l.home p) && in_run at 1 p) (λ p. false) user
          (and_from (is_counted (l.home at)) (in_run at 1 at) (ap is_counted here ∙ counted) (in_one-at at at refl)) refl
          (λ p apart. elim (cases_Bool (in_run at 1 p)) [
            | inl t ↦ absurd (apart (in_one at p t))
            | inr f ↦ and_last (is_counted (l.home p)) (in_run at 1 p) f
          ])
          ∙ ap (λ k. k + 1) (count_places-none procs (λ p. false) (λ p. refl))

  -- the console isn't counted
  pub none_less : has_bytes contents ≡ false → pages procs (remove (in_run at 1) l) ≡ pages procs l
  none_less uncounted =
      let gone : pages procs (remove (in_run at 1) l) + count_places procs (λ p. is_counted (l.home p) && in_run at 1 p) ≡ pages procs l = remove_pages procs (in_run at 1) l in
      omega (arith, none)
    where
      none : count_places procs (λ p. is_counted (l.home p) && in_run at 1 p) ≡ 0
      none = count_places-none procs (λ p. is_counted (l.home p) && in_run at 1 p) (λ p. elim (cases_Bool (in_run at 1 p)) [
        | inl t ↦ ap (λ b. b && in_run at 1 p) (ap is_counted (ap (λ q. l.home q) (in_one at p t) ∙ here) ∙ uncounted)
        | inr f ↦ and_last (is_counted (l.home p)) (in_run at 1 p) f
      ])
