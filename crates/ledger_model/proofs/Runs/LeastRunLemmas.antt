-- Laws of the least run and of the two listings.
use Rattle.std.proofs.Common.{◌≡◌, ◌≢◌, ℕ, ◌+◌, ◌-◌, ◌<◌, ◌≤◌, Bool, true, false, ◌&&◌, List, get_or, Option, Some, None, refl, sym, ap, subst, ◌∙◌, arith}
use Rattle.std.specs.Prelude.{nat_le, is_some}
use Rattle.std.specs.List.{AllPairs, Contains}
use Rattle.std.specs.Option.{option_map}
use Rattle.std.proofs.lemmas.Bool.{and_parts, and_from, both_ways, false_from_ne_true, leb-true, le-leb}
use Rattle.std.proofs.lemmas.List.Elements.{All-contains}
use Rattle.std.proofs.lemmas.Option.{none-some, same_Some}
use Rattle.xk_base.specs.declared.ids.Pid.{Pid}
use Rattle.xk_base.specs.declared.ids.Place.{Place}
use Rattle.xk_base.specs.declared.ids.Vpn.{Vpn}
use Rattle.xk_base.specs.declared.windows.Window.{Window}
use Rattle.xk_base.specs.declared.windows.Window.TheVariants.{Image, Heap, Message, Map, Stack}
use Rattle.xk_base.specs.Numbers.Windows.{first_page, last_page}
use Rattle.xk_base.specs.Tables.Counting.{least_below}
use Rattle.xk_base.proofs.CountingLemmas.{least_below-none, least_below-passes, least_below-first, least_below-None, least_below-Some}
use Rattle.ledger_model.specs.LeastRun.{is_free_run, window_pages, window_place, least_run, IsLeastRun, HasNoRun}
use Rattle.ledger_model.specs.Ledger.{Ledger, Page, Orphan}
use Rattle.ledger_model.specs.Lawful.{IsLawful}
use Rattle.ledger_model.specs.Listings.{home_places, orphan_places}
use Rattle.ledger_model.specs.Places.{place_after, is_before, is_user_place}
use Rattle.ledger_model.specs.Reach.{is_free}
use Rattle.ledger_model.proofs.Loans.NumberingLemmas.{listed_places-passes, listed_places-contains, listed_places-ascends, is_place_in-user}
use Rattle.ledger_model.proofs.PlaceLemmas.{list_all-run, run-passes, is_before-apart}

-- ---- free runs

pub is_free_run-each : (procs : ℕ) (l : Ledger) (first : Place) (n : ℕ) → is_free_run procs l first n ≡ true → (i : ℕ)
    → i < n → is_free procs l (place_after first i) ≡ true
unfolding is_free_run
is_free_run-each procs l first n e i b = run-passes (is_free procs l) first n e i b

pub is_free_run-from : (procs : ℕ) (l : Ledger) (first : Place) (n : ℕ)
    → ((i : ℕ) → i < n → is_free procs l (place_after first i) ≡ true) → is_free_run procs l first n ≡ true
unfolding is_free_run
is_free_run-from procs l first n h = list_all-run (is_free procs l) first n h

-- ---- the least run

-- the test that the search makes of the k-th place of the window
abbrev pub fits_at : ℕ → Ledger → Pid → Window → ℕ → ℕ → Bool
fits_at procs l pid window n k = nat_le (k + n) (window_pages window) && is_free_run procs l (window_place pid window k) n

-- what a page number found by the search is
found_at : (procs : ℕ) (l : Ledger) (pid : Pid) (window : Window) (n : ℕ) (v : Vpn) (o : Option ℕ)
    → least_below (window_pages window) (fits_at procs l pid window n) ≡ o
    → option_map (λ k. (window_place pid window k).vpn) o ≡ Some v
    → (k : ℕ) × (least_below (window_pages window) (fits_at procs l pid window n) ≡ Some k) × (v.0 ≡ first_page window + k)
found_at procs l pid window n v None q e = absurd (none-some v e)
found_at procs l pid window n v (Some k) q e = (k, q, sym (ap (λ (x : Vpn). x.0) (same_Some (window_place pid window k).vpn v e)))

pub window_pages-last : (window : Window) → first_page window + window_pages window ≡ last_page window + 1
window_pages-last Image = refl
window_pages-last Heap = refl
window_pages-last Message = refl
window_pages-last Map = refl
window_pages-last Stack = refl

-- the place of a process with a page number of the window
place_of : (pid : Pid) (v : Vpn) (window : Window) (k : ℕ) → v.0 ≡ first_page window + k → window_place pid window k ≡ record { pid = pid; vpn = v }
place_of pid v window k e = λ i. record { pid = pid; vpn = record { 0 = sym e i } }

pub least_run-Some : (procs : ℕ) (l : Ledger) (pid : Pid) (window : Window) (n : ℕ) (v : Vpn)
    → least_run procs l pid window n ≡ Some v → IsLeastRun procs l pid window n v
unfolding least_run
least_run-Some procs l pid window n v e =
    let found : (k : ℕ) × (least_below (window_pages window) (fits_at procs l pid window n) ≡ Some k) × (v.0 ≡ first_page window + k) =
    found_at procs l pid window n v (least_below (window_pages window) (fits_at procs l pid window n)) refl e in
    let k : ℕ = found.0 in
    let passes : fits_at procs l pid window n found.0 ≡ true =
    least_below-passes (window_pages window) (fits_at procs l pid window n) found.0 found.1 in
    let parts : (nat_le (found.0 + n) (window_pages window) ≡ true) × (is_free_run procs l (window_place pid window found.0) n ≡ true) =
    and_parts (nat_le (found.0 + n) (window_pages window)) (is_free_run procs l (window_place pid window found.0) n) passes in
    let ends : found.0 + n ≤ window_pages window = leb-true (found.0 + n) (window_pages window) parts.0 in
    let last : first_page window + window_pages window ≡ last_page window + 1 = window_pages-last window in
    let at : v.0 ≡ first_page window + found.0 = found.2 in
    record {
      free = subst (λ p. is_free_run procs l p n ≡ true) (place_of pid v window found.0 found.2) parts.1;
      low = omega arith;
      high = omega arith;
      least = λ u low below. earlier found.0 ends at found.1 u low below;
    }
  where
    earlier : (k : ℕ) → k + n ≤ window_pages window → v.0 ≡ first_page window + k
        → least_below (window_pages window) (fits_at procs l pid window n) ≡ Some k
        → (u : Vpn) → first_page window ≤ u.0 → u.0 < v.0 → is_free_run procs l (record { pid = pid; vpn = u }) n ≡ false
    earlier k ends at found u low below =
        let j : ℕ = u.0 - first_page window in
        let there : u.0 ≡ first_page window + (u.0 - first_page window) = omega arith in
        let before : u.0 - first_page window < k = omega arith in
        let fails : fits_at procs l pid window n (u.0 - first_page window) ≡ false =
        least_below-first (window_pages window) (fits_at procs l pid window n) k found (u.0 - first_page window) before in
        false_from_ne_true (is_free_run procs l (record { pid = pid; vpn = u }) n) (λ t.
        both_ways (fits_at procs l pid window n (u.0 - first_page window)) fails
        (and_from (nat_le (u.0 - first_page window + n) (window_pages window)) (is_free_run procs l (window_place pid window (u.0 - first_page window)) n)
        (le-leb (u.0 - first_page window + n) (window_pages window) (omega arith))
        (subst (λ p. is_free_run procs l p n ≡ true) (sym (place_of pid u window (u.0 - first_page window) there)) t)))

none_found : (procs : ℕ) (l : Ledger) (pid : Pid) (window : Window) (n : ℕ) (o : Option ℕ)
    → option_map (λ k. (window_place pid window k).vpn) o ≡ None → o ≡ None
none_found procs l pid window n None e = refl
none_found procs l pid window n (Some k) e = absurd (none-some (window_place pid window k).vpn (sym e))

-- there is none only where no run in the window is free ..
pub least_run-none : (procs : ℕ) (l : Ledger) (pid : Pid) (window : Window) (n : ℕ) → 0 < n
    → least_run procs l pid window n ≡ None → HasNoRun procs l pid window n
unfolding least_run
least_run-none procs l pid window n some e u low high =
    let none : least_below (window_pages window) (fits_at procs l pid window n) ≡ None =
    none_found procs l pid window n (least_below (window_pages window) (fits_at procs l pid window n)) e in
    let last : first_page window + window_pages window ≡ last_page window + 1 = window_pages-last window in
    let there : u.0 ≡ first_page window + (u.0 - first_page window) = omega arith in
    let fails : fits_at procs l pid window n (u.0 - first_page window) ≡ false =
    least_below-none (window_pages window) (fits_at procs l pid window n) none (u.0 - first_page window) (omega arith) in
    false_from_ne_true (is_free_run procs l (record { pid = pid; vpn = u }) n) (λ t.
    both_ways (fits_at procs l pid window n (u.0 - first_page window)) fails
    (and_from (nat_le (u.0 - first_page window + n) (window_pages window)) (is_free_run procs l (window_place pid window (u.0 - first_page window)) n)
    (le-leb (u.0 - first_page window + n) (window_pages window) (omega arith))
    (subst (λ p. is_free_run procs l p n ≡ true) (sym (place_of pid u window (u.0 - first_page window) there)) t)))

-- .. and where no run in the window is free there is none
pub least_run-None : (procs : ℕ) (l : Ledger) (pid : Pid) (window : Window) (n : ℕ) → HasNoRun procs l pid window n
    → least_run procs l pid window n ≡ None
unfolding least_run
least_run-None procs l pid window n h =
    ap (option_map (λ k. (window_place pid window k).vpn)) (least_below-None (window_pages window) (fits_at procs l pid window n)
    (λ k b. false_from_ne_true (fits_at procs l pid window n k) (λ t.
    let parts : (nat_le (k + n) (window_pages window) ≡ true) × (is_free_run procs l (window_place pid window k) n ≡ true) =
    and_parts (nat_le (k + n) (window_pages window)) (is_free_run procs l (window_place pid window k) n) t in
    let ends : k + n ≤ window_pages window = leb-true (k + n) (window_pages window) parts.0 in
    let last : first_page window + window_pages window ≡ last_page window + 1 = window_pages-last window in
    both_ways (is_free_run procs l (window_place pid window k) n) (h (window_place pid window k).vpn (omega arith) (omega arith)) parts.1)))

-- ---- how a search finds it

-- a run with a place that isn't free isn't free
pub is_free_run-false : (procs : ℕ) (l : Ledger) (first : Place) (n i : ℕ) → i < n
    → is_free procs l (place_after first i) ≡ false → is_free_run procs l first n ≡ false
is_free_run-false procs l first n i b f =
    false_from_ne_true (is_free_run procs l first n) (λ t. both_ways (is_free procs l (place_after first i)) f (is_free_run-each procs l first n t i b))

pub least_run-found : (procs : ℕ) (l : Ledger) (pid : Pid) (window : Window) (n k : ℕ) → k < window_pages window
    → fits_at procs l pid window n k ≡ true
    → ((j : ℕ) → j < k → fits_at procs l pid window n j ≡ false) → least_run procs l pid window n ≡ Some (window_place pid window k).vpn
unfolding least_run
least_run-found procs l pid window n k b t before =
    ap (option_map (λ j. (window_place pid window j).vpn)) (least_below-Some (window_pages window) (fits_at procs l pid window n) k b t before)

pub least_run-nowhere : (procs : ℕ) (l : Ledger) (pid : Pid) (window : Window) (n : ℕ)
    → ((j : ℕ) → j < window_pages window → fits_at procs l pid window n j ≡ false)
    → least_run procs l pid window n ≡ None
unfolding least_run
least_run-nowhere procs l pid window n h = ap (option_map (λ j. (window_place pid window j).vpn)) (least_below-None (window_pages window) (fits_at procs l pid window n) h)

-- the same for a search that counts from the window's first page f to its last page e
pub least_run-search : (procs : ℕ) (l : Ledger) (pid : Pid) (window : Window) (n k f e : ℕ) → f ≡ first_page window
    → e ≡ last_page window → k < e + 1 - f → n ≤ e + 1 - f - k
    → is_free_run procs l (record { pid = pid; vpn = record { 0 = f + k } }) n ≡ true
    → ((j : ℕ) → j < k → fits_at procs l pid window n j ≡ false) → least_run procs l pid window n ≡ Some (record { 0 = f + k })
least_run-search procs l pid window n k f e a b below fits free before =
    let size : e + 1 - f ≡ window_pages window = λ i. b i + 1 - a i in
    let at : f + k ≡ first_page window + k = ap (λ x. x + k) a in
    let within : k + n ≤ window_pages window = omega arith in
    least_run-found procs l pid window n k (omega arith)
    (and_from (nat_le (k + n) (window_pages window)) (is_free_run procs l (window_place pid window k) n) (le-leb (k + n) (window_pages window) within)
    (subst (λ x. is_free_run procs l (record { pid = pid; vpn = record { 0 = x } }) n ≡ true) at free)) before
    ∙ (λ i. Some (record { 0 = sym at i }))

pub least_run-search_end : (procs : ℕ) (l : Ledger) (pid : Pid) (window : Window) (n k f e : ℕ)
    → f ≡ first_page window → e ≡ last_page window → e + 1 - f ≤ k
    → ((j : ℕ) → j < k → fits_at procs l pid window n j ≡ false) → least_run procs l pid window n ≡ None
least_run-search_end procs l pid window n k f e a b past before =
    let size : e + 1 - f ≡ window_pages window = λ i. b i + 1 - a i in
    least_run-nowhere procs l pid window n (λ j below. before j (omega arith))

-- ---- listings

some_of : {T : Type 0} (o : Option T) → is_some o ≡ true → (x : T) × (o ≡ Some x)
some_of None e = absurd (both_ways false refl e)
some_of (Some x) e = (x, refl)

pub home_places-contains : (procs capacity : ℕ) (l : Ledger) (p : Place) → IsLawful procs capacity l
    → is_some (l.home p) ≡ true → Contains (home_places procs l) p
unfolding home_places
home_places-contains procs capacity l p h e =
    let page : (x : Page) × (l.home p ≡ Some x) = some_of (l.home p) e in
    listed_places-contains procs (λ q. is_some (l.home q)) p (h.home_lies p page.0 page.1) e

pub home_places-each : (procs : ℕ) (l : Ledger) (p : Place) → Contains (home_places procs l) p
    → is_some (l.home p) ≡ true
unfolding home_places
home_places-each procs l p c = (All-contains (λ q. (is_user_place procs q ≡ true) × (is_some (l.home q) ≡ true)) (home_places procs l) p (listed_places-passes procs (λ q. is_some (l.home q))) c).1

pub home_places-ascends : (procs : ℕ) (l : Ledger) → AllPairs (λ p q. is_before p q ≡ true) (home_places procs l)
unfolding home_places
home_places-ascends procs l = listed_places-ascends procs (λ q. is_some (l.home q))

pub orphan_places-contains : (procs capacity : ℕ) (l : Ledger) (p : Place) → IsLawful procs capacity l
    → is_some (l.orphan p) ≡ true → Contains (orphan_places procs l) p
unfolding orphan_places
orphan_places-contains procs capacity l p h e =
    let orphan : (x : Orphan) × (l.orphan p ≡ Some x) = some_of (l.orphan p) e in
    listed_places-contains procs (λ q. is_some (l.orphan q)) p (is_place_in-user procs Message p (h.orphan_lies p orphan.0 orphan.1)) e

pub orphan_places-each : (procs : ℕ) (l : Ledger) (p : Place) → Contains (orphan_places procs l) p
    → is_some (l.orphan p) ≡ true
unfolding orphan_places
orphan_places-each procs l p c = (All-contains (λ q. (is_user_place procs q ≡ true) × (is_some (l.orphan q) ≡ true)) (orphan_places procs l) p (listed_places-passes procs (λ q. is_some (l.orphan q))) c).1

pub orphan_places-ascends : (procs : ℕ) (l : Ledger) → AllPairs (λ p q. is_before p q ≡ true) (orphan_places procs l)
unfolding orphan_places
orphan_places-ascends procs l = listed_places-ascends procs (λ q. is_some (l.orphan q))

-- a listing that ascends has no place twice
ascending_once : (ps : List Place) → AllPairs (λ p q. is_before p q ≡ true) ps → AllPairs (λ p q. p ≢ q) ps
ascending_once ps h i j d l b = is_before-apart (get_or ps i d) (get_or ps j d) (h i j d l b)

pub home_places-once : (procs : ℕ) (l : Ledger) → AllPairs (λ p q. p ≢ q) (home_places procs l)
home_places-once procs l = ascending_once (home_places procs l) (home_places-ascends procs l)

pub orphan_places-once : (procs : ℕ) (l : Ledger) → AllPairs (λ p q. p ≢ q) (orphan_places procs l)
orphan_places-once procs l = ascending_once (orphan_places procs l) (orphan_places-ascends procs l)
