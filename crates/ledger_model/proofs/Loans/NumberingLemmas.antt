-- The numbering of user places (specs/Places.antt), and counting, searching and listing by it.
use Rattle.std.proofs.Common.{◌≡◌, ◌≢◌, ℕ, zero, suc, ◌+◌, ◌-◌, ◌*◌, ◌/◌, ◌%◌, ◌<◌, ◌≤◌, Bool, true, false, not, ◌&&◌, List, length, get_or, Option, Some, None, refl, sym, ap, subst, ◌∙◌, arith, inl, inr}
use Rattle.std.specs.Prelude.{◌==◌, nat_le, nat_lt, is_some, if◌then◌else◌, map}
use Rattle.std.specs.List.{All, Contains, AllPairs}
use Rattle.std.specs.Option.{option_map}
use Rattle.std.proofs.lemmas.Bool.{cases_lt, cases_Bool, and_parts, and_from, or_left, or_right, eq-eqb, ltb-true, lt-ltb, leb-true, le-leb, both_ways, false_from_ne_true, cond-true, cond-false}
use Rattle.std.proofs.lemmas.Bool.Decides.{nat_tests}
use Rattle.std.proofs.lemmas.List.{length-map, get_or-map}
use Rattle.std.proofs.lemmas.List.Elements.{All-map, All-weaker}
use Rattle.std.proofs.lemmas.List.Kept.{AllPairs-from_increasing}
use Rattle.std.proofs.lemmas.Option.{none-some, same_Some}
use Rattle.xk_base.specs.Tables.Circle.{is_pid}
use Rattle.xk_base.specs.declared.ids.Place.{Place}
use Rattle.xk_base.specs.declared.windows.Window.{Window}
use Rattle.xk_base.specs.declared.windows.Window.TheVariants.{Image, Heap, Message, Map, Stack}
use Rattle.xk_base.specs.Numbers.Windows.{in_window, window_at}
use Rattle.xk_base.specs.Tables.Counting.{least_below, listed_below}
use Rattle.xk_base.proofs.CountingLemmas.{count_below-same, count_below-one, count_below-none, count_below-split, count_below-le, least_below-none, least_below-bound, least_below-passes, least_below-Some, least_below-None, least_below-same, listed_below-passes, listed_below-contains, listed_below-ascends, listed_below-same, length-listed_below}
use Rattle.ledger_model.specs.Places.{same_place, is_before, place_after, in_run, is_user_place, is_place_in, places_of_process, page_at, place_at, count_places, first_place, listed_places}
use Rattle.ledger_model.proofs.PlaceLemmas.{place_from, in_run-true, in_run-from, IsInRun, in_run-none, in_run-after, same_place-true, same_place-refl, same_place-apart, same_place-false}

-- where a page number of a window stands among a process's user places
abbrev pub rank_of : ℕ → ℕ
rank_of vpn =
    if nat_lt vpn 0x1000 then vpn - 0x10 else (
    if nat_lt vpn 0x2_1000 then vpn - 0x2_0000 + 4080 else (
    if nat_lt vpn 0x4_1000 then vpn - 0x4_0000 + 8176 else (
    if nat_lt vpn 0x6_1000 then vpn - 0x6_0000 + 12272 else vpn - 0x7_F000 + 16368)))

-- the number of a user place
unfoldable pub number_of : Place → ℕ
number_of p = places_of_process * (p.pid.0 - 2) + rank_of p.vpn.0

rank_of-page_at : (k : ℕ) → k < 20464 → rank_of (page_at k) ≡ k
rank_of-page_at k l = grind (arith, nat_tests)

page_at-rank_of : (v : ℕ) → is_some (window_at v) ≡ true → page_at (rank_of v) ≡ v
page_at-rank_of v h = grind (arith, nat_tests)

rank_of-bound : (v : ℕ) → is_some (window_at v) ≡ true → rank_of v < 20464
rank_of-bound v h = grind (arith, nat_tests)

page_at-rises : (j k : ℕ) → j < k → k < 20464 → page_at j < page_at k
page_at-rises j k l b = grind (arith, nat_tests)

page_at-lies : (k : ℕ) → k < 20464 → is_some (window_at (page_at k)) ≡ true
page_at-lies k b = grind (arith, nat_tests)

-- ---- the numbering goes both ways, and ascends

pub number_of-place_at : (k : ℕ) → number_of (place_at k) ≡ k
unfolding number_of place_at
number_of-place_at k =
    let low : k % 20464 < 20464 = omega arith in
    let rank : rank_of (page_at (k % 20464)) ≡ k % 20464 = rank_of-page_at (k % 20464) low in
    rw rank (omega arith)

pub place_at-number_of : (procs : ℕ) (p : Place) → is_user_place procs p ≡ true → place_at (number_of p) ≡ p
unfolding number_of place_at
place_at-number_of procs p h =
    let parts : (is_pid procs p.pid.0 ≡ true) × (is_some (window_at p.vpn.0) ≡ true) =
    and_parts (is_pid procs p.pid.0) (is_some (window_at p.vpn.0)) h in
    let low : 2 ≤ p.pid.0 =
    leb-true 2 p.pid.0 (and_parts (nat_le 2 p.pid.0) (nat_lt p.pid.0 (procs + 2)) parts.0).0 in
    let small : rank_of p.vpn.0 < 20464 = rank_of-bound p.vpn.0 parts.1 in
    let rest : (20464 * (p.pid.0 - 2) + rank_of p.vpn.0) % 20464 ≡ rank_of p.vpn.0 = omega arith in
    place_from (place_at (number_of p)) p (omega arith) (ap page_at rest ∙ page_at-rank_of p.vpn.0 parts.1)

pub number_of-bound : (procs : ℕ) (p : Place) → is_user_place procs p ≡ true → number_of p < 20464 * procs
unfolding number_of
number_of-bound procs p h =
    let parts : (is_pid procs p.pid.0 ≡ true) × (is_some (window_at p.vpn.0) ≡ true) =
    and_parts (is_pid procs p.pid.0) (is_some (window_at p.vpn.0)) h in
    let pids : (nat_le 2 p.pid.0 ≡ true) × (nat_lt p.pid.0 (procs + 2) ≡ true) =
    and_parts (nat_le 2 p.pid.0) (nat_lt p.pid.0 (procs + 2)) parts.0 in
    let low : 2 ≤ p.pid.0 = leb-true 2 p.pid.0 pids.0 in
    let high : p.pid.0 < procs + 2 = ltb-true p.pid.0 (procs + 2) pids.1 in
    let small : rank_of p.vpn.0 < 20464 = rank_of-bound p.vpn.0 parts.1 in
    omega arith

pub place_at-lies : (procs k : ℕ) → k < 20464 * procs → is_user_place procs (place_at k) ≡ true
unfolding place_at
place_at-lies procs k l =
    let low : k % 20464 < 20464 = omega arith in
    let pid : 2 + k / 20464 < procs + 2 = omega arith in
    and_from (is_pid procs (2 + k / 20464)) (is_some (window_at (page_at (k % 20464))))
    (and_from (nat_le 2 (2 + k / 20464)) (nat_lt (2 + k / 20464) (procs + 2)) (le-leb 2 (2 + k / 20464) (omega arith)) (lt-ltb (2 + k / 20464) (procs + 2) pid))
    (page_at-lies (k % 20464) low)

pub place_at-rises : (j k : ℕ) → j < k → is_before (place_at j) (place_at k) ≡ true
unfolding place_at
place_at-rises j k l = elim (cases_lt (j / 20464) (k / 20464)) [
  | inl below ↦ or_left (nat_lt (2 + j / 20464) (2 + k / 20464)) ((2 + j / 20464 == 2 + k / 20464) && nat_lt (page_at (j % 20464)) (page_at (k % 20464)))
      (lt-ltb (2 + j / 20464) (2 + k / 20464) (omega arith))
  | inr above ↦
      let same : 2 + j / 20464 ≡ 2 + k / 20464 = omega arith in
      let rises : page_at (j % 20464) < page_at (k % 20464) =
      page_at-rises (j % 20464) (k % 20464) (omega arith) (omega arith) in
      or_right (nat_lt (2 + j / 20464) (2 + k / 20464)) ((2 + j / 20464 == 2 + k / 20464) && nat_lt (page_at (j % 20464)) (page_at (k % 20464)))
      (and_from (2 + j / 20464 == 2 + k / 20464) (nat_lt (page_at (j % 20464)) (page_at (k % 20464)))
      (eq-eqb (2 + j / 20464) (2 + k / 20464) same) (lt-ltb (page_at (j % 20464)) (page_at (k % 20464)) rises))
]

-- ---- counting places

-- two tests that agree at every user place count the same
pub count_places-same : (procs : ℕ) (f g : Place → Bool) → ((p : Place) → f p ≡ g p)
    → count_places procs f ≡ count_places procs g
unfolding count_places
count_places-same procs f g h = count_below-same (20464 * procs) (λ k. f (place_at k)) (λ k. g (place_at k)) (λ k l. h (place_at k))

-- a test that holds at one user place where another fails, and agrees with it elsewhere, counts one more
pub count_places-one : (procs : ℕ) (q : Place) (f g : Place → Bool) → is_user_place procs q ≡ true
    → f q ≡ true → g q ≡ false → ((p : Place) → p ≢ q → f p ≡ g p) → count_places procs f ≡ count_places procs g + 1
unfolding count_places
count_places-one procs q f g lies holds fails same =
    let there : place_at (number_of q) ≡ q = place_at-number_of procs q lies in
    count_below-one (20464 * procs) (number_of q) (λ k. f (place_at k)) (λ k. g (place_at k)) (number_of-bound procs q lies)
    (subst (λ p. f p ≡ true) (sym there) holds) (subst (λ p. g p ≡ false) (sym there) fails)
    (λ k l ne. same (place_at k) (λ e. ne (sym (number_of-place_at k) ∙ ap number_of e)))

pub count_places-none : (procs : ℕ) (f : Place → Bool) → ((p : Place) → f p ≡ false) → count_places procs f ≡ 0
unfolding count_places
count_places-none procs f h = count_below-none (20464 * procs) (λ k. f (place_at k)) (λ k l. h (place_at k))

-- the last place of a run, and the run without it
in_run-less : (first : Place) (n : ℕ) (p : Place) → p ≢ place_after first n
    → in_run first (suc n) p ≡ in_run first n p
in_run-less first n p ne = elim (cases_Bool (in_run first n p)) [
  | inl t ↦
      let h : IsInRun first n p = in_run-true first n p t in
      let high : p.vpn.0 < first.vpn.0 + n = h.to in
      in_run-from first (suc n) p (record { pid = h.pid; from = h.from; to = omega arith }) ∙ sym t
  | inr f ↦ false_from_ne_true (in_run first (suc n) p) (λ t.
      let h : IsInRun first (suc n) p = in_run-true first (suc n) p t in
      let low : first.vpn.0 ≤ p.vpn.0 = h.from in
      let high : p.vpn.0 < first.vpn.0 + suc n = h.to in
      elim (cases_lt p.vpn.0 (first.vpn.0 + n)) [
        | inl below ↦ both_ways (in_run first n p) f (in_run-from first n p (record { pid = h.pid; from = h.from; to = below }))
        | inr above ↦ ne (place_from p (place_after first n) h.pid (omega arith))
      ]) ∙ sym f
]

in_run-last : (first : Place) (n : ℕ) → in_run first n (place_after first n) ≡ false
in_run-last first n = false_from_ne_true (in_run first n (place_after first n)) (λ t.
    let h : IsInRun first n (place_after first n) = in_run-true first n (place_after first n) t in
    let high : first.vpn.0 + n < first.vpn.0 + n = h.to in
    omega arith)

-- THE COUNTING LAW FOR RUNS. Where f holds and g fails on a run of n user places, and they agree
-- elsewhere, f counts n more.
pub count_places-run : (procs : ℕ) (first : Place) (n : ℕ) (f g : Place → Bool)
    → ((i : ℕ) → i < n → is_user_place procs (place_after first i) ≡ true)
    → ((p : Place) → in_run first n p ≡ true → (f p ≡ true) × (g p ≡ false))
    → ((p : Place) → in_run first n p ≡ false → f p ≡ g p)
    → count_places procs f ≡ count_places procs g + n
count_places-run procs first zero f g lies inside outside =
    let same : count_places procs f ≡ count_places procs g =
    count_places-same procs f g (λ p. outside p (in_run-none first p)) in
    omega arith
count_places-run procs first (suc n) f g lies inside outside =
    let last : Place = place_after first n in
    let less : Place → Bool = λ p. if same_place p last then false else f p in
    let at_last : in_run first (suc n) last ≡ true = in_run-after first (suc n) n (omega arith) in
    let here : (f last ≡ true) × (g last ≡ false) = inside last at_last in
    let one : count_places procs f ≡ count_places procs less + 1 =
    count_places-one procs last f less (lies n (omega arith)) here.0 (cond-true (same_place last last) false (f last) (same_place-refl last))
    (λ p ne. sym (cond-false (same_place p last) false (f p) (same_place-apart p last ne))) in
    let rest : count_places procs less ≡ count_places procs g + n =
    count_places-run procs first n less g (λ i l. lies i (omega arith))
    (λ p t. let ne : p ≢ last = λ e. both_ways (in_run first n p) (subst (λ q. in_run first n q ≡ false) (sym e) (in_run-last first n)) t in
    let both : (f p ≡ true) × (g p ≡ false) = inside p (in_run-less first n p ne ∙ t) in
    (cond-false (same_place p last) false (f p) (same_place-apart p last ne) ∙ both.0, both.1))
    (λ p t. elim (cases_Bool (same_place p last)) [
      | inl s ↦ cond-true (same_place p last) false (f p) s ∙ sym (subst (λ q. g q ≡ false) (sym (same_place-true p last s)) here.1)
      | inr a ↦ cond-false (same_place p last) false (f p) a ∙ outside p (in_run-less first n p (same_place-false p last a) ∙ t)
    ]) in
    omega arith

-- what passes f passes g too or doesn't
pub count_places-split : (procs : ℕ) (f g : Place → Bool)
    → count_places procs f ≡ count_places procs (λ p. f p && g p) + count_places procs (λ p. f p && not (g p))
unfolding count_places
count_places-split procs f g = count_below-split (20464 * procs) (λ k. f (place_at k)) (λ k. g (place_at k))

-- ---- searching

pub first_place-none : (procs : ℕ) (f : Place → Bool) → first_place procs f ≡ None → (p : Place)
    → is_user_place procs p ≡ true → f p ≡ false
unfolding first_place
first_place-none procs f e p lies =
    subst (λ q. f q ≡ false) (place_at-number_of procs p lies)
    (least_below-none (20464 * procs) (λ k. f (place_at k)) (none_of (least_below (20464 * procs) (λ k. f (place_at k))) e) (number_of p) (number_of-bound procs p lies))
  where
    none_of : (o : Option ℕ) → option_map place_at o ≡ None → o ≡ None
    none_of None q = refl
    none_of (Some k) q = absurd (none-some (place_at k) (sym q))

-- a place that is found is the numbered place of some number below the bound
found_at : (procs : ℕ) (f : Place → Bool) (p : Place) (o : Option ℕ)
    → least_below (20464 * procs) (λ k. f (place_at k)) ≡ o → option_map place_at o ≡ Some p
    → (k : ℕ) × (least_below (20464 * procs) (λ k. f (place_at k)) ≡ Some k) × (place_at k ≡ p)
found_at procs f p None q e = absurd (none-some p e)
found_at procs f p (Some k) q e = (k, q, same_Some (place_at k) p e)

pub first_place-passes : (procs : ℕ) (f : Place → Bool) (p : Place) → first_place procs f ≡ Some p → f p ≡ true
unfolding first_place
first_place-passes procs f p e =
    let found : (k : ℕ) × (least_below (20464 * procs) (λ k. f (place_at k)) ≡ Some k) × (place_at k ≡ p) =
    found_at procs f p (least_below (20464 * procs) (λ k. f (place_at k))) refl e in
    subst (λ q. f q ≡ true) found.2 (least_below-passes (20464 * procs) (λ k. f (place_at k)) found.0 found.1)

pub first_place-lies : (procs : ℕ) (f : Place → Bool) (p : Place) → first_place procs f ≡ Some p
    → is_user_place procs p ≡ true
unfolding first_place
first_place-lies procs f p e =
    let found : (k : ℕ) × (least_below (20464 * procs) (λ k. f (place_at k)) ≡ Some k) × (place_at k ≡ p) =
    found_at procs f p (least_below (20464 * procs) (λ k. f (place_at k))) refl e in
    subst (λ q. is_user_place procs q ≡ true) found.2
    (place_at-lies procs found.0 (least_below-bound (20464 * procs) (λ k. f (place_at k)) found.0 found.1))

-- the one user place that passes is the first that does
pub first_place-only : (procs : ℕ) (f : Place → Bool) (p : Place) → is_user_place procs p ≡ true → f p ≡ true
    → ((q : Place) → f q ≡ true → q ≡ p) → first_place procs f ≡ Some p
unfolding first_place
first_place-only procs f p lies holds only =
    let there : place_at (number_of p) ≡ p = place_at-number_of procs p lies in
    let least : least_below (20464 * procs) (λ k. f (place_at k)) ≡ Some (number_of p) =
    least_below-Some (20464 * procs) (λ k. f (place_at k)) (number_of p) (number_of-bound procs p lies)
    (subst (λ q. f q ≡ true) (sym there) holds)
    (λ j l. false_from_ne_true (f (place_at j)) (λ t.
    let same : j ≡ number_of p =
    sym (number_of-place_at j) ∙ ap number_of (only (place_at j) t) in omega arith)) in
    ap (option_map place_at) least ∙ ap Some there

pub first_place-None : (procs : ℕ) (f : Place → Bool) → ((p : Place) → is_user_place procs p ≡ true → f p ≡ false)
    → first_place procs f ≡ None
unfolding first_place
first_place-None procs f h =
    ap (option_map place_at) (least_below-None (20464 * procs) (λ k. f (place_at k)) (λ k l. h (place_at k) (place_at-lies procs k l)))

pub first_place-same : (procs : ℕ) (f g : Place → Bool) → ((p : Place) → f p ≡ g p)
    → first_place procs f ≡ first_place procs g
unfolding first_place
first_place-same procs f g h = ap (option_map place_at) (least_below-same (20464 * procs) (λ k. f (place_at k)) (λ k. g (place_at k)) (λ k l. h (place_at k)))

-- ---- listing

pub listed_places-same : (procs : ℕ) (f g : Place → Bool) → ((p : Place) → f p ≡ g p)
    → listed_places procs f ≡ listed_places procs g
unfolding listed_places
listed_places-same procs f g h = ap (map place_at) (listed_below-same (20464 * procs) (λ k. f (place_at k)) (λ k. g (place_at k)) (λ k l. h (place_at k)))

pub length-listed_places : (procs : ℕ) (f : Place → Bool) → length (listed_places procs f) ≡ count_places procs f
unfolding listed_places count_places
length-listed_places procs f = length-map (listed_below (20464 * procs) (λ k. f (place_at k))) place_at ∙ length-listed_below (20464 * procs) (λ k. f (place_at k))

-- what is listed is a user place that passes ..
pub listed_places-passes : (procs : ℕ) (f : Place → Bool)
    → All (λ p. (is_user_place procs p ≡ true) × (f p ≡ true)) (listed_places procs f)
unfolding listed_places
listed_places-passes procs f =
    All-map (λ p. (is_user_place procs p ≡ true) × (f p ≡ true)) place_at (listed_below (20464 * procs) (λ k. f (place_at k)))
    (All-weaker (λ k. (k < 20464 * procs) × (f (place_at k) ≡ true)) (λ k. (is_user_place procs (place_at k) ≡ true) × (f (place_at k) ≡ true))
    (λ k h. (place_at-lies procs k h.0, h.1)) (listed_below (20464 * procs) (λ k. f (place_at k)))
    (listed_below-passes (20464 * procs) (λ k. f (place_at k))))

Contains-map_places : (ks : List ℕ) (k : ℕ) → Contains ks k → Contains (map place_at ks) (place_at k)
Contains-map_places ks k (i, l, e) =
    (i, subst (λ n. i < n) (sym (length-map ks place_at)) l, get_or-map place_at ks i k (place_at k) l ∙ ap place_at e)

AllPairs-map_places : (ks : List ℕ) → AllPairs (λ j k. j < k) ks
    → AllPairs (λ p q. is_before p q ≡ true) (map place_at ks)
AllPairs-map_places ks h i j d l b =
    let within : j < length ks = subst (λ n. j < n) (length-map ks place_at) b in
    let left : get_or (map place_at ks) i d ≡ place_at (get_or ks i 0) = get_or-map place_at ks i 0 d (omega arith) in
    let right : get_or (map place_at ks) j d ≡ place_at (get_or ks j 0) = get_or-map place_at ks j 0 d within in
    rw (left, right) (place_at-rises (get_or ks i 0) (get_or ks j 0) (h i j 0 l within))

-- .. and each user place that passes is listed
pub listed_places-contains : (procs : ℕ) (f : Place → Bool) (p : Place) → is_user_place procs p ≡ true → f p ≡ true
    → Contains (listed_places procs f) p
unfolding listed_places
listed_places-contains procs f p lies holds =
    let there : place_at (number_of p) ≡ p = place_at-number_of procs p lies in
    let numbers : Contains (listed_below (20464 * procs) (λ k. f (place_at k))) (number_of p) =
    listed_below-contains (20464 * procs) (number_of p) (λ k. f (place_at k)) (number_of-bound procs p lies) (subst (λ q. f q ≡ true) (sym there) holds) in
    subst (λ q. Contains (map place_at (listed_below (20464 * procs) (λ k. f (place_at k)))) q) there
    (Contains-map_places (listed_below (20464 * procs) (λ k. f (place_at k))) (number_of p) numbers)

-- a listing ascends
pub listed_places-ascends : (procs : ℕ) (f : Place → Bool)
    → AllPairs (λ p q. is_before p q ≡ true) (listed_places procs f)
unfolding listed_places
listed_places-ascends procs f =
    AllPairs-map_places (listed_below (20464 * procs) (λ k. f (place_at k)))
    (AllPairs-from_increasing (listed_below (20464 * procs) (λ k. f (place_at k))) (listed_below-ascends (20464 * procs) (λ k. f (place_at k))))

-- a test that implies another counts no more
pub count_places-le : (procs : ℕ) (f g : Place → Bool) → ((p : Place) → f p ≡ true → g p ≡ true)
    → count_places procs f ≤ count_places procs g
unfolding count_places
count_places-le procs f g h = count_below-le (20464 * procs) (λ k. f (place_at k)) (λ k. g (place_at k)) (λ k l e. h (place_at k) e)

-- ---- windows

in_window-some : (w : Window) (v : ℕ) → in_window w v ≡ true → is_some (window_at v) ≡ true
in_window-some Image v e = grind (arith, nat_tests)
in_window-some Heap v e = grind (arith, nat_tests)
in_window-some Message v e = grind (arith, nat_tests)
in_window-some Map v e = grind (arith, nat_tests)
in_window-some Stack v e = grind (arith, nat_tests)

-- a place of a window is a user place
pub is_place_in-user : (procs : ℕ) (w : Window) (p : Place) → is_place_in procs w p ≡ true
    → is_user_place procs p ≡ true
is_place_in-user procs w p e =
    let parts : (is_pid procs p.pid.0 ≡ true) × (in_window w p.vpn.0 ≡ true) =
    and_parts (is_pid procs p.pid.0) (in_window w p.vpn.0) e in
    and_from (is_pid procs p.pid.0) (is_some (window_at p.vpn.0)) parts.0 (in_window-some w p.vpn.0 parts.1)

-- the user place that passes before every other that does is the first
pub first_place-least : (procs : ℕ) (f : Place → Bool) (p : Place) → is_user_place procs p ≡ true → f p ≡ true
    → ((q : Place) → is_before q p ≡ true → f q ≡ false) → first_place procs f ≡ Some p
unfolding first_place
first_place-least procs f p lies holds before =
    let there : place_at (number_of p) ≡ p = place_at-number_of procs p lies in
    let least : least_below (20464 * procs) (λ k. f (place_at k)) ≡ Some (number_of p) =
    least_below-Some (20464 * procs) (λ k. f (place_at k)) (number_of p) (number_of-bound procs p lies)
    (subst (λ q. f q ≡ true) (sym there) holds)
    (λ j l. before (place_at j) (subst (λ q. is_before (place_at j) q ≡ true) there (place_at-rises j (number_of p) l))) in
    ap (option_map place_at) least ∙ ap Some there
