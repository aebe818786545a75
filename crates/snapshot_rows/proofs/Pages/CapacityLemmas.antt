-- There are as many pages and orphans as rows that count.
use Rattle.std.proofs.Common.{◌≡◌, ◌≢◌, ℕ, ◌+◌, ◌≤◌, Bool, true, false, cond, eqb, leb, ltb, List, [], ◌∷◌, Option, Some, None, refl, sym, ap, subst, ◌∙◌, arith, inl, inr, ◌↔◌}
use Rattle.std.specs.Prelude.{◌&&◌, IsTrue, is_some}
use Rattle.std.specs.List.{find, count_by}
use Rattle.std.specs.Option.{option_map}
use Rattle.std.proofs.lemmas.Bool.{cases_Bool, and_parts, leb-true, le-leb}
use Rattle.std.proofs.lemmas.List.Sums.{sum_by-append}
use Rattle.xk_base.specs.declared.ids.Place.{Place}
use Rattle.xk_base.proofs.CountingLemmas.{count_below-same}
use Rattle.ledger_model.specs.Ledger.{Contents, Console, Bytes, has_bytes, is_counted, pages}
use Rattle.ledger_model.specs.Places.{is_user_place, count_places, place_at as nth_place}
use Rattle.ledger_model.proofs.Loans.NumberingLemmas.{count_places-same, count_places-one, count_places-none, place_at-lies}
use Rattle.snapshot_rows.specs.declared.state.OrphanRow.{OrphanRow}
use Rattle.snapshot_rows.specs.declared.state.PageRow.{PageRow}
use Rattle.snapshot_rows.specs.Order.{least_first, least_second, page_key, orphan_key, AreInOrder, AscendInTwo}
use Rattle.snapshot_rows.specs.Machines.{contents_at, place_at, ledger_page, ledger_orphan, ledger_of}
use Rattle.snapshot_rows.specs.PageParts.{is_counted_page, is_counted_orphan, AreWithin}
use Rattle.snapshot_rows.proofs.KeyLemmas.{some, key_above, Less, pair_is, pair_own, less_apart, less_through, less_behind}

key_of : Place → ℕ × ℕ
key_of p = (p.pid.0, p.vpn.0)

abbrev at_key : {A : Type 0} → (A → ℕ × ℕ) → ℕ × ℕ → A → Bool
at_key key k x = eqb (key x).0 k.0 && eqb (key x).1 k.1

abbrev found_good : {A : Type 0} → (A → Bool) → Option A → Bool
found_good good None = false
found_good good (Some x) = good x

and_true : (b : Bool) → b ≡ (b && true)
and_true true = refl
and_true false = refl

-- Rows by their keys, of which some are good, and those at places of the machine count.
module _ {A : Type 0} (key : A → ℕ × ℕ) (n : ℕ) (good counts : A → Bool)
    (tells : (x : A) → counts x ≡ (is_user_place n (place_at (key x).0 (key x).1) && good x)) where
  abbrev Form : Option (ℕ × ℕ) → A → Type 0
  Form before x = (least_first 0 before ≤ (key x).0) × (least_second 0 before (key x).0 ≤ (key x).1)

  abbrev is_at : ℕ × ℕ → A → Bool
  is_at k x = at_key key k x

  abbrev is_good : Option A → Bool
  is_good o = found_good good o

  abbrev there : List A → Place → Bool
  there rows p = is_good (find (is_at (p.pid.0, p.vpn.0)) rows)

  abbrev own : A → Place
  own x = place_at (key x).0 (key x).1

  at_own : (x : A) (rows : List A) → there (x ∷ rows) (own x) ≡ good x
  at_own x rows = ap (λ (b : Bool). is_good (cond b (some x) (find (is_at (key x)) rows))) (pair_own key x)

  behind_own : (x : A) (rows : List A) → AreInOrder Form key (Some (key x)) rows → there rows (own x) ≡ false
  behind_own x rows forms = go (find (is_at (key x)) rows) refl
    where
      go : (o : Option A) → find (is_at (key x)) rows ≡ o → is_good o ≡ false
      go None e = refl
      go (Some y) e =
          absurd (less_apart (key x) (key_above key is_at Less Form (λ before y low. less_behind 0 0 before (key y) low.0 low.1) (pair_is key) (pair_own key)
          less_apart less_through (key x) (key x) rows y forms e))

  elsewhere : (x : A) (rows : List A) (p : Place) → p ≢ own x → there (x ∷ rows) p ≡ there rows p
  elsewhere x rows p other = elim (cases_Bool (is_at (p.pid.0, p.vpn.0) x)) [
    | inl is ↦ absurd (other (sym (ap (λ (k : ℕ × ℕ). place_at k.0 k.1) (pair_is key (p.pid.0, p.vpn.0) x is))))
    | inr isnt ↦ ap (λ (b : Bool). is_good (cond b (some x) (find (is_at (p.pid.0, p.vpn.0)) rows))) isnt
  ]

  -- where the row isn't counted, the count is that of the others
  uncounted : (x : A) (rows : List A) → AreInOrder Form key (Some (key x)) rows → counts x ≡ false
      → count_places n (there (x ∷ rows)) ≡ count_places n (there rows)
  unfolding count_places key_of
  uncounted x rows forms not = count_below-same _ _ _ (λ k low. each (nth_place k) (place_at-lies n k low) (is_at (key_of (nth_place k)) x) refl)
    where
      each : (p : Place) → is_user_place n p ≡ true → (b : Bool) → is_at (key_of p) x ≡ b → there (x ∷ rows) p ≡ there rows p
      each p lies true is =
          let same : own x ≡ p = ap (λ (k : ℕ × ℕ). place_at k.0 k.1) (pair_is key (key_of p) x is) in
          let bad : good x ≡ false = sym (ap (λ (b : Bool). b && good x) (subst (λ (q : Place). is_user_place n q ≡ true) (sym same) lies))
          ∙ sym (tells x) ∙ not in
          subst (λ (q : Place). there (x ∷ rows) q ≡ there rows q) same (at_own x rows ∙ bad ∙ sym (behind_own x rows forms))
      each p lies false isnt = ap (λ (b : Bool). is_good (cond b (some x) (find (is_at (key_of p)) rows))) isnt

  split : (x : A) (rows : List A) → count_by counts (x ∷ rows) ≡ count_by counts (x ∷ []) + count_by counts rows
  split x rows = sum_by-append (λ y. cond (counts y) 1 0) (x ∷ []) rows

  pub places_counted : (before : Option (ℕ × ℕ)) (rows : List A) → AreInOrder Form key before rows → count_places n (there rows) ≡ count_by counts rows
  places_counted before [] forms = count_places-none n (there []) (λ p. refl)
  places_counted before (x ∷ rows) forms =
      let rest = places_counted (Some (key x)) rows forms.1 in
      elim (cases_Bool (counts x)) [
        | inl does ↦ (
            let both = and_parts (is_user_place n (own x)) (good x) (sym (tells x) ∙ does) in
            let more : count_places n (there (x ∷ rows)) ≡ count_places n (there rows) + 1 =
            count_places-one n (own x) (there (x ∷ rows)) (there rows) both.0 (at_own x rows ∙ both.1) (behind_own x rows forms.1) (elsewhere x rows) in
            let step = split x rows in
            let one : count_by counts (x ∷ []) ≡ 0 + 1 = ap (λ (b : Bool). 0 + cond b 1 0) does in
            omega (arith, more, rest, step, one)
            )
        | inr doesnt ↦ (
            let step = split x rows in
            let none : count_by counts (x ∷ []) ≡ 0 + 0 = ap (λ (b : Bool). 0 + cond b 1 0) doesnt in
            let less = uncounted x rows forms.1 doesnt in
            omega (arith, less, rest, step, none)
            )
      ]

-- ---- pages and orphans

page_counted : (file : List ℕ) (o : Option PageRow) → is_counted (option_map (ledger_page file) o) ≡ found_good (λ (p : PageRow). ltb p.right 4) o
page_counted file None = refl
page_counted file (Some p) =
    elim (cases_Bool (ltb p.right 4)) [
      | inl bytes ↦ ap (λ (b : Bool). has_bytes (says b)) bytes ∙ sym bytes
      | inr console ↦ ap (λ (b : Bool). has_bytes (says b)) console ∙ sym console
    ]
  where
    says : Bool → Contents
    says b = cond b (Bytes (contents_at file p.from)) Console

orphan_counted : (file : List ℕ) (o : Option OrphanRow) → is_some (option_map (ledger_orphan file) o) ≡ found_good (λ (o : OrphanRow). true) o
orphan_counted file None = refl
orphan_counted file (Some o) = refl

pub within_told : (n cap : ℕ) (file : List ℕ) (rows : List PageRow) (orphans : List OrphanRow) (told : Bool) → AscendInTwo page_key rows
    → AscendInTwo orphan_key orphans
    → told ≡ leb (count_by (is_counted_page n) rows + count_by (is_counted_orphan n) orphans) cap → IsTrue told ↔ AreWithin n cap (ledger_of file rows orphans)
unfolding pages
within_told n cap file rows orphans told rows_ascend orphans_ascend is =
    let ledger = ledger_of file rows orphans in
    let first : count_places n (λ p. is_counted (ledger.home p)) ≡ count_by (is_counted_page n) rows =
    count_places-same n _ _ (λ p. page_counted file (find (at_key page_key (p.pid.0, p.vpn.0)) rows))
    ∙ places_counted page_key n (λ p. ltb p.right 4) (is_counted_page n) (λ p. refl) None rows rows_ascend in
    let second : count_places n (λ p. is_some (ledger.orphan p)) ≡ count_by (is_counted_orphan n) orphans =
    count_places-same n _ _ (λ p. orphan_counted file (find (at_key orphan_key (p.pid.0, p.vpn.0)) orphans))
    ∙ places_counted orphan_key n (λ o. true) (is_counted_orphan n) (λ o. and_true _) None orphans orphans_ascend in (
      λ holds. (let low = leb-true _ _ (sym is ∙ holds) in omega (arith, first, second, low)),
      λ within. is ∙ le-leb _ _ (omega (arith, first, second, within)),
    )
