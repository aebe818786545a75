-- Orphans stand in order of their places: a search finds the one of a place.
use Rattle.std.proofs.Common.{◌≡◌, ℕ, ◌<◌, ◌≤◌, Bool, true, List, length, get_or, Option, Some, None, Result, Ok, Err, refl, sym, ap, subst, ◌∙◌}
use Rattle.std.specs.Prelude.{◌==◌, ◌&&◌, is_some}
use Rattle.std.specs.List.{find}
use Rattle.std.specs.List.Sorted.{IsBinarySearchResult, IsSearchInRange}
use Rattle.std.specs.Option.{option_map}
use Rattle.std.specs.Result.{is_ok}
use Rattle.std.specs.declared.cmp.Ordering.{Ordering}
use Rattle.std.proofs.lemmas.Bool.{false≢true}
use Rattle.snapshot_rows.proofs.Keys.SearchLemmas.{Ranked, order_of, ranked, search_told}
use Rattle.snapshot_rows.proofs.KeyLemmas.{Less, found_any, less_apart, less_behind, less_through, pair_is, pair_own}
use Rattle.snapshot_rows.specs.Order.{AscendInTwo, least_first, least_second, orphan_key}
use Rattle.snapshot_rows.specs.declared.state.OrphanRow.{OrphanRow}
use Rattle.xk_base.specs.declared.ids.Place.{Place}
use Rattle.resume_path.proofs.Orphaned.OrphanStepLemmas.{is_orphan_at}
use Rattle.resume_path.proofs.Rows.RowLemmas.{found_own}

abbrev key_of : Place → ℕ × ℕ
key_of at = (at.pid.0, at.vpn.0)

abbrev has_key : ℕ × ℕ → OrphanRow → Bool
has_key k o = o.pid == k.0 && o.page == k.1

module _ (orphans : List OrphanRow) (at : Place) (r : Result ℕ ℕ) (ascend : AscendInTwo orphan_key orphans) (bound : IsSearchInRange r (length orphans))
    (found : IsBinarySearchResult (λ o. order_of (orphan_key o) (key_of at)) orphans r) where
  pub orphan_there : (i : ℕ) (d : OrphanRow) → r ≡ Ok i → find (is_orphan_at at) orphans ≡ Some (get_or orphans i d)
  orphan_there i d is =
      let row = get_or orphans i d in
      let within : i < length orphans = subst (λ (o : Result ℕ ℕ). IsSearchInRange o (length orphans)) is bound in
      let equal = subst (λ (o : Result ℕ ℕ). IsBinarySearchResult (λ y. order_of (orphan_key y) (key_of at)) orphans o) is found in
      let own : orphan_key row ≡ key_of at = subst (λ (o : Ordering). Ranked o (orphan_key row) (key_of at)) (equal d) (ranked (orphan_key row) (key_of at)) in
      subst (λ (k : ℕ × ℕ). find (has_key k) orphans ≡ Some row) own
      (found_own orphan_key has_key Less (λ before o. (least_first 0 before ≤ (orphan_key o).0) × (least_second 0 before (orphan_key o).0 ≤ (orphan_key o).1))
      (λ before o forms. less_behind 0 0 before (orphan_key o) forms.0 forms.1) (pair_is orphan_key) less_apart less_through (pair_own orphan_key) None orphans i d
      ascend within)

  pub orphan_missed : (i : ℕ) → r ≡ Err i → is_some (find (is_orphan_at at) orphans) ≡ true → ⊥
  orphan_missed i is there =
      false≢true (ap is_ok (sym is) ∙ search_told orphan_key (key_of at) orphans r ascend bound found
      ∙ sym (found_any (λ (o : OrphanRow). o) (is_orphan_at at) orphans) ∙ still (find (is_orphan_at at) orphans) there)
    where
      still : (o : Option OrphanRow) → is_some o ≡ true → is_some (option_map (λ (x : OrphanRow). x) o) ≡ true
      still None e = e
      still (Some x) e = refl
