-- Failures that are told, and what it says of orders where none is.
use Rattle.std.proofs.Common.{◌≡◌, ◌<◌, ◌⊎◌, ◌∙◌, inl, inr, ℕ, zero, suc, Bool, true, false, List, [], ◌∷◌, length, Option, Some, None, is_some, refl, sym, ap, subst, arith}
use Rattle.std.specs.Prelude.{◌&&◌, ◌||◌, nat_lt, slice_get}
use Rattle.std.specs.declared.cmp.Ordering.{Ordering}
use Rattle.std.proofs.lemmas.Bool.{false≢true}
use Rattle.std.proofs.lemmas.Bool.Decides.{nat_tests}
use Rattle.std.proofs.lemmas.Option.{none-some, same_Some, slice_get_within}
use Rattle.graph_search.specs.declared.found.Extent.{Extent}
use Rattle.graph_search.specs.declared.found.Extent.TheVariants.{Cut as CutOff, Whole}
use Rattle.order_model.specs.declared.failing.Failing.{Failing}
use Rattle.order_model.specs.Failing.{first_failing}
use Rattle.order_model.specs.Moves.{Point}
use Rattle.order_search.specs.Found.{telling_in}
use Rattle.xousorders.specs.Calls.{AreNone, IsCut, Passes, TellsFailure}
use Rattle.order_text.specs.Endings.{failing_of, fails_some, is_several}
use Rattle.xousorders.specs.Endings.{IsAt, Shown, shown_of}
use Rattle.xousorders.specs.Failures.{FailsSo, NoneDiffer, NoneFails, asks_failure, tells_failure}
use Rattle.xousorders.specs.Outcomes.{is_whole}
use Rattle.xousorders.specs.Reports.{FindsAll, Report, SaysSo}
use Rattle.order_text.specs.declared.endings.Ending.{Ending}
use Rattle.xousorders.specs.declared.limits.Limits.{Limits}
use Rattle.xousorders.specs.declared.view.View.{View}
use Rattle.xousorders.proofs.EndingLemmas.{one_shown}
use Rattle.xousorders.proofs.ShownLemmas.{none_fails}

-- ---- tests

neither : (a b : Bool) → (a || b) ≡ false → (a ≡ false) × (b ≡ false)
neither true b e = absurd (false≢true (sym e))
neither false b e = (refl, e)

either : (a b : Bool) → (a || b) ≡ true → (a ≡ true) ⊎ (b ≡ true)
either true b e = inl refl
either false b e = inr e

is_none : (o : Option Failing) → is_some o ≡ false → o ≡ None
is_none None e = refl
is_none (Some x) e = absurd (false≢true (sym e))

pub whole_is : (extent : Extent) → is_whole extent ≡ true → extent ≡ Whole
whole_is Whole e = refl
whole_is (CutOff why) e = absurd (false≢true e)

pub cut_isnt : (extent : Extent) → is_whole extent ≡ false → extent ≡ Whole → ⊥
cut_isnt extent e is = false≢true (sym e ∙ ap is_whole is)

-- ---- endings that fail

module _ (fails : List Failing) where
  abbrev Told : List Ending → Type 0
  Told list = (failing : Failing) × FailsSo fails list failing

  told_on : (x : Ending) (xs : List Ending) → (fails_some fails xs ≡ true → Told xs) → (o : Option Failing) → failing_of fails x.fails ≡ o
      → fails_some fails (x ∷ xs) ≡ true → Told (x ∷ xs)
  told_on x xs later (Some failing) is e = (failing, record { place = 0; ending = x; there = refl; so = is })
  told_on x xs later None is e =
      let rest = later (sym (ap (λ (o : Option Failing). is_some o || fails_some fails xs) is) ∙ e) in
      (rest.0, record { place = suc rest.1.place; ending = rest.1.ending; there = rest.1.there; so = rest.1.so })

  pub some_told : (list : List Ending) → fails_some fails list ≡ true → Told list
  some_told [] e = absurd (false≢true e)
  some_told (x ∷ xs) e = told_on x xs (some_told xs) (failing_of fails x.fails) refl e

  pub none_told : (list : List Ending) → fails_some fails list ≡ false → (place : ℕ) (ending : Ending) → slice_get list place ≡ Some ending
      → failing_of fails ending.fails ≡ None
  none_told [] e place ending at = absurd (none-some ending at)
  none_told (x ∷ xs) e zero ending at =
      let here = neither (is_some (failing_of fails x.fails)) (fails_some fails xs) e in
      ap (λ (y : Ending). failing_of fails y.fails) (sym (same_Some x ending at)) ∙ is_none (failing_of fails x.fails) here.0
  none_told (x ∷ xs) e (suc k) ending at =
      none_told xs (neither (is_some (failing_of fails x.fails)) (fails_some fails xs) e).1 k ending at

-- ---- of a search

one_at_most : (n j k : ℕ) → nat_lt 1 n ≡ false → j < n → k < n → j ≡ k
one_at_most n j k e low other = grind (arith, nat_tests)

module _ (view : View) (r : Report) where
  abbrev list : List Ending
  list = r.endings.list.items

  abbrev fails : List Failing
  fails = view.fails.items

  pub failure_told : tells_failure fails view.differ list ≡ true → TellsFailure view r
  failure_told e = go (either (fails_some fails list) (is_several view.differ (length list)) e)
    where
      go : (fails_some fails list ≡ true) ⊎ (is_several view.differ (length list) ≡ true) → TellsFailure view r
      go (inl some) = inl (some_told fails list some)
      go (inr several) = inr several

  module _ (none : tells_failure fails view.differ list ≡ false) where
    parts : (fails_some fails list ≡ false) × (is_several view.differ (length list) ≡ false)
    parts = neither (fails_some fails list) (is_several view.differ (length list)) none

    pub untold : TellsFailure view r → ⊥
    untold (inl told) = none-some told.0 (sym (none_told fails list parts.0 told.1.place told.1.ending told.1.there) ∙ told.1.so)
    untold (inr several) = false≢true (sym parts.1 ∙ several)

    -- an ending that is told so fails of nothing
    nothing_fails : (place : ℕ) (p : Point) → IsAt list place (shown_of view p) → failing_of fails (first_failing fails p) ≡ None
    unfolding shown_of
    nothing_fails place p at =
        sym (ap (λ (s : Shown). failing_of fails s.fails) at.alike) ∙ none_told fails list parts.0 place at.ending at.there

    pub are_none : FindsAll view r → AreNone view r
    are_none all = record { fails = no_order; differ = alike }
      where
        no_order : NoneFails (telling_in r.finding) fails
        no_order order last leads ends failing among =
            let look = all.endings order last leads ends in
            none_fails fails last (nothing_fails look.look.look.ending last look.alike) failing among

        alike : view.differ ≡ true → NoneDiffer (telling_in r.finding) view
        alike differ one other p q leads ends leads_other ends_other =
            let here = all.endings one p leads ends in
            let there = all.endings other q leads_other ends_other in
            let few : nat_lt 1 (length list) ≡ false = sym (ap (λ (b : Bool). b && nat_lt 1 (length list)) differ) ∙ parts.1 in
            let low = slice_get_within list here.look.look.ending here.alike.ending here.alike.there in
            let low_other = slice_get_within list there.look.look.ending there.alike.ending there.alike.there in
            let same = one_at_most (length list) there.look.look.ending here.look.look.ending few low_other low in
            one_shown list here.look.look.ending (shown_of view p) (shown_of view q) here.alike
            (subst (λ (k : ℕ). IsAt list k (shown_of view q)) same there.alike)

    module _ (cmp : List ℕ → List ℕ → Ordering) (limits : Limits) (so : SaysSo cmp limits view r) where
      -- nothing makes an ending a failure
      pub passes_unasked : asks_failure fails view.differ ≡ false → Passes cmp view r
      passes_unasked unasked = record {
        untold = untold;
        whole = λ asks. absurd (false≢true (sym unasked ∙ asks));
        none = λ asks tell. absurd (false≢true (sym unasked ∙ asks));
      }

      pub passes_whole : is_whole r.finding.extent ≡ true → Passes cmp view r
      passes_whole e = record {
        untold = untold;
        whole = λ asks. whole_is r.finding.extent e;
        none = λ asks tell. are_none (so.whole (whole_is r.finding.extent e) tell);
      }

      pub is_cut : asks_failure fails view.differ ≡ true → is_whole r.finding.extent ≡ false → IsCut cmp view r
      is_cut asks e = record { untold = untold; asks = asks; cut = cut_isnt r.finding.extent e }
