-- How many pages and orphans there are to be written: as many as the capacity allows, and the console.
use Rattle.std.proofs.Common.{◌≡◌, ℕ, ◌+◌, ◌*◌, ◌≤◌, Bool, true, false, length, Option, Some, None, refl, sym, ap, ◌∙◌, arith, inl, inr}
use Rattle.std.specs.Prelude.{is_some, not, ◌&&◌}
use Rattle.std.proofs.lemmas.Bool.{cases_Bool}
use Rattle.ledger_model.proofs.Loans.NumberingLemmas.{count_places-one, count_places-le, first_place-none, first_place-passes, first_place-lies}
use Rattle.ledger_model.specs.Lawful.{IsLawful}
use Rattle.ledger_model.specs.Ledger.{Contents, Console, Bytes, Page, Ledger, has_bytes, is_counted, pages}
use Rattle.ledger_model.specs.Places.{count_places, first_place, place_at}
use Rattle.xk_base.proofs.CountingLemmas.{count_below-same}
use Rattle.xk_base.specs.declared.ids.Place.{Place}
use Rattle.save_path.specs.Rows.{home_at, home_text, home_texts, orphan_at, orphan_text, orphan_texts}
use Rattle.save_path.proofs.RowsBelowLemmas.{length-rows}
use Rattle.save_path.proofs.TableLemmas.{is_some-map}

-- a page that doesn't count: the console
abbrev uncounted : Option Page → Bool
uncounted o = is_some o && not (is_counted o)

some_of : {A : Type 0} (o : Option A) → is_some o ≡ true → (x : A) × (o ≡ Some x)
some_of None e = absurd cc
some_of (Some x) e = (x, refl)

console_of : (o : Option Page) → uncounted o ≡ true → (page : Page) × (o ≡ Some page) × (page.contents ≡ Console)
console_of None e = absurd cc
console_of (Some page) e = go page.contents refl e
  where
    go : (c : Contents) → page.contents ≡ c → not (has_bytes c) ≡ true → (p : Page) × (Some page ≡ Some p) × (p.contents ≡ Console)
    go Console is e = (page, refl, is)
    go (Bytes bytes) is e = absurd cc

agree : (o : Option Page) → uncounted o ≡ false → is_some o ≡ is_counted o
agree None e = refl
agree (Some page) e = go page.contents e
  where
    go : (c : Contents) → not (has_bytes c) ≡ false → true ≡ has_bytes c
    go Console e = absurd cc
    go (Bytes bytes) e = refl

pub homes_few : (n capacity : ℕ) (l : Ledger) → IsLawful n capacity l
    → count_places n (λ p. is_some (l.home p)) ≤ count_places n (λ p. is_counted (l.home p)) + 1
homes_few n capacity l lawful = go (first_place n (λ p. uncounted (l.home p))) refl
  where
    go : (o : Option Place) → first_place n (λ p. uncounted (l.home p)) ≡ o
        → count_places n (λ p. is_some (l.home p)) ≤ count_places n (λ p. is_counted (l.home p)) + 1
    go None e =
        let less : count_places n (λ p. is_some (l.home p)) ≤ count_places n (λ p. is_counted (l.home p)) =
        count_places-le n (λ p. is_some (l.home p)) (λ p. is_counted (l.home p)) (λ p there. (
        let page = some_of (l.home p) there in
        let counts = first_place-none n (λ q. uncounted (l.home q)) e p (lawful.home_lies p page.0 page.1) in
        sym (agree (l.home p) counts) ∙ there
        )) in
        omega (arith, less)
    go (Some q) e =
        let found = console_of (l.home q) (first_place-passes n (λ p. uncounted (l.home p)) q e) in
        let one : count_places n (λ p. is_some (l.home p)) ≡ count_places n (λ p. is_counted (l.home p)) + 1 =
        count_places-one n q (λ p. is_some (l.home p)) (λ p. is_counted (l.home p)) (first_place-lies n (λ p. uncounted (l.home p)) q e)
        (ap is_some found.1) (ap is_counted found.1 ∙ ap has_bytes found.2)
        (λ p other. elim (cases_Bool (uncounted (l.home p))) [
          | inl is ↦ (
              let also = console_of (l.home p) is in
              absurd (other (lawful.one_console p q also.0 found.0 also.1 found.1 also.2 found.2))
              )
          | inr isnt ↦ agree (l.home p) isnt
        ]) in
        omega (arith, one)

homes_many : (n : ℕ) (l : Ledger) → length (home_texts n l) ≡ count_places n (λ p. is_some (l.home p))
unfolding count_places
homes_many n l =
    length-rows (home_at l) (20464 * n)
    ∙ count_below-same (20464 * n) (λ k. is_some (home_at l k)) (λ k. is_some (l.home (place_at k)))
    (λ k low. is_some-map (home_text (place_at k)) (l.home (place_at k)))

orphans_many : (n : ℕ) (l : Ledger) → length (orphan_texts n l) ≡ count_places n (λ p. is_some (l.orphan p))
unfolding count_places
orphans_many n l =
    length-rows (orphan_at l) (20464 * n)
    ∙ count_below-same (20464 * n) (λ k. is_some (orphan_at l k)) (λ k. is_some (l.orphan (place_at k)))
    (λ k low. is_some-map (orphan_text (place_at k)) (l.orphan (place_at k)))

-- THE PAGES and orphans that are written
pub texts_few : (n capacity : ℕ) (l : Ledger) → IsLawful n capacity l → length (home_texts n l) + length (orphan_texts n l) ≤ capacity + 1
unfolding pages
texts_few n capacity l lawful =
    let homes = homes_many n l in
    let orphans = orphans_many n l in
    let one = homes_few n capacity l lawful in
    let within = lawful.within in
    omega arith
