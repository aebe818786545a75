-- Laws of the circle of thread ids of specs/Tables/Circle.antt.
use Rattle.std.proofs.Common.{◌≡◌, ℕ, ◌+◌, ◌-◌, ◌%◌, ◌<◌, ◌≤◌, Bool, true, false, Option, Some, None, ◌⊎◌, inl, inr, List, [], ◌∷◌, map, refl, sym, ap, subst, ◌∙◌, arith}
use Rattle.std.specs.Option.{option_map}
use Rattle.std.specs.List.{All, Contains}
use Rattle.std.proofs.Math.Nat.{mod-eq_of_lt, add-mod_right}
use Rattle.std.proofs.lemmas.Bool.{cases_lt}
use Rattle.std.proofs.lemmas.Bool.Decides.{nat_tests}
use Rattle.std.proofs.lemmas.Nat.{mod_below}
use Rattle.std.proofs.lemmas.Option.{none-some, same_Some}
use Rattle.std.proofs.lemmas.List.{length-map, get_or-map}
use Rattle.std.proofs.lemmas.List.Elements.{All-map, All-weaker}
use Rattle.xk_base.specs.declared.ids.ThreadId.{ThreadId}
use Rattle.xk_base.specs.Tables.Counting.{least_below, listed_below}
use Rattle.xk_base.specs.Tables.Circle.{listed_ids, is_pid, is_thread_id, thread_ids, id_at, ids_until, place_of, id_behind, next_id, steps_to}
use Rattle.xk_base.proofs.CountingLemmas.{listed_below-passes, listed_below-contains, least_below-same, least_below-Some, least_below-None, least_below-none, least_below-passes, least_below-first, least_below-bound}

-- ---- ids and their places

-- what the tests say: the pid is one of 2 to n + 1 ..
pub is_pid-bounds : (n pid : ℕ) → is_pid n pid ≡ true → (2 ≤ pid) × (pid < n + 2)
is_pid-bounds n pid h = (grind (arith, nat_tests), grind (arith, nat_tests))

-- the id at a place of n processes is one of theirs
pub is_thread_id-id_at : (n k : ℕ) → k < thread_ids n → is_thread_id n (id_at k) ≡ true
is_thread_id-id_at n k l = grind (arith, nat_tests)

-- the place of the id at a place
pub place_of-id_at : (k : ℕ) → place_of (id_at k) ≡ k
place_of-id_at k = omega arith

-- the place of an id of n processes is one of theirs
pub place_of-bound : (n : ℕ) (id : ThreadId) → is_thread_id n id ≡ true → place_of id < thread_ids n
place_of-bound n id h = grind (arith, nat_tests)

-- ids with the same numbers are one
pub same_ids : (a b : ThreadId) → a.pid.0 ≡ b.pid.0 → a.tid.0 ≡ b.tid.0 → a ≡ b
same_ids a b p t = λ i. record { pid = record { 0 = p i }; tid = record { 0 = t i } }

-- the id at the place of an id
pub id_at-place_of : (n : ℕ) (id : ThreadId) → is_thread_id n id ≡ true → id_at (place_of id) ≡ id
id_at-place_of n id h = same_ids (id_at (place_of id)) id (grind (arith, nat_tests)) (grind (arith, nat_tests))

-- the ids of n processes until one of a process of theirs are no more than all
pub ids_until-bound : (n : ℕ) (c : ThreadId) → is_pid n c.pid.0 ≡ true → ids_until c ≤ thread_ids n
ids_until-bound n c h = grind (arith, nat_tests)

-- ---- steps round the circle

-- below twice m, `% m` takes m away once or not at all
mod_once : (x m : ℕ) → x < m + m → ((x < m) × (x % m ≡ x)) ⊎ ((m ≤ x) × (x % m ≡ x - m))
mod_once x m l =
    elim (cases_lt x m) [
      | inl below ↦ inl (below, mod-eq_of_lt below)
      | inr above ↦
          let rest : x - m < m = omega arith in
          let parts : x - m + m ≡ x = omega arith in
          inr (above, sym (ap (λ y. y % m) parts) ∙ add-mod_right (x - m) m ∙ mod-eq_of_lt rest)
    ]

-- whatever the circle, a step stays on it
pub id_behind-valid : (n : ℕ) (c : ThreadId) (k : ℕ) → k < thread_ids n → is_thread_id n (id_behind n c k) ≡ true
id_behind-valid n c k l =
    let some : 0 < thread_ids n = omega arith in
    is_thread_id-id_at n ((ids_until c + k) % thread_ids n) (mod_below (ids_until c + k) (thread_ids n) some)

-- no id is farther than all steps
pub steps_to-bound : (n : ℕ) (c d : ThreadId) → is_thread_id n d ≡ true → steps_to n c d < thread_ids n
steps_to-bound n c d h =
    let here : place_of d < thread_ids n = place_of-bound n d h in
    let some : 0 < thread_ids n = omega arith in
    mod_below (place_of d + thread_ids n - ids_until c) (thread_ids n) some

round_there : (size until place : ℕ) → until ≤ size → place < size → (until + (place + size - until) % size) % size ≡ place
round_there size until place u p =
    elim (mod_once (place + size - until) size (omega arith)) [
      | inl a ↦ let e : until + (place + size - until) ≡ place + size = omega arith in
          rw a.1 (rw e (add-mod_right place size ∙ mod-eq_of_lt p))
      | inr b ↦ let e : until + (place + size - until - size) ≡ place = omega arith in
          rw b.1 (rw e (mod-eq_of_lt p))
    ]

round_back : (size until k : ℕ) → until ≤ size → k < size → ((until + k) % size + size - until) % size ≡ k
round_back size until k u l =
    elim (mod_once (until + k) size (omega arith)) [
      | inl a ↦ let e : until + k + size - until ≡ k + size = omega arith in
          rw a.1 (rw e (add-mod_right k size ∙ mod-eq_of_lt l))
      | inr b ↦ let e : until + k - size + size - until ≡ k = omega arith in
          rw b.1 (rw e (mod-eq_of_lt l))
    ]

-- as many steps as lead to d lead to d ..
pub id_behind-steps_to : (n : ℕ) (c d : ThreadId) → is_pid n c.pid.0 ≡ true → is_thread_id n d ≡ true → id_behind n c (steps_to n c d) ≡ d
id_behind-steps_to n c d p h =
    ap id_at (round_there (thread_ids n) (ids_until c) (place_of d) (ids_until-bound n c p) (place_of-bound n d h)) ∙ id_at-place_of n d h

-- .. and k + 1 steps lead as far as they go
pub steps_to-id_behind : (n : ℕ) (c : ThreadId) (k : ℕ) → is_pid n c.pid.0 ≡ true → k < thread_ids n → steps_to n c (id_behind n c k) ≡ k
steps_to-id_behind n c k p l =
    ap (λ x. (x + thread_ids n - ids_until c) % thread_ids n) (place_of-id_at ((ids_until c + k) % thread_ids n))
    ∙ round_back (thread_ids n) (ids_until c) k (ids_until-bound n c p) l

-- an id is the last on its own circle
pub steps_to-self : (n : ℕ) (c : ThreadId) → is_thread_id n c ≡ true → steps_to n c c + 1 ≡ thread_ids n
steps_to-self n c h =
    let place : place_of c < thread_ids n = place_of-bound n c h in
    let next : ids_until c ≡ place_of c + 1 = grind (arith, nat_tests) in
    let last : place_of c + thread_ids n - ids_until c ≡ thread_ids n - 1 = omega arith in
    let one : thread_ids n - 1 < thread_ids n = omega arith in
    let e : steps_to n c c ≡ thread_ids n - 1 = ap (λ x. x % thread_ids n) last ∙ mod-eq_of_lt one in
    omega arith

-- ---- the next id that passes a test

next_parts : (n : ℕ) (c d : ThreadId) (o : Option ℕ) → option_map (id_behind n c) o ≡ Some d → (k : ℕ) × (o ≡ Some k) × (id_behind n c k ≡ d)
next_parts n c d None e = absurd (none-some d e)
next_parts n c d (Some k) e = (k, refl, same_Some (id_behind n c k) d e)

next_none : (n : ℕ) (c : ThreadId) (o : Option ℕ) → option_map (id_behind n c) o ≡ None → o ≡ None
next_none n c None e = refl
next_none n c (Some k) e = absurd (none-some (id_behind n c k) (sym e))

-- what is found is an id of n processes ..
pub next_id-valid : (n : ℕ) (test : ThreadId → Bool) (c d : ThreadId) → next_id n test c ≡ Some d → is_thread_id n d ≡ true
unfolding next_id
next_id-valid n test c d e =
    let found : (k : ℕ) × (least_below (thread_ids n) (λ k. test (id_behind n c k)) ≡ Some k) × (id_behind n c k ≡ d) =
    next_parts n c d (least_below (thread_ids n) (λ k. test (id_behind n c k))) e in
    subst (λ x. is_thread_id n x ≡ true) found.2
    (id_behind-valid n c found.0 (least_below-bound (thread_ids n) (λ k. test (id_behind n c k)) found.0 found.1))

-- .. that passes the test ..
pub next_id-passes : (n : ℕ) (test : ThreadId → Bool) (c d : ThreadId) → next_id n test c ≡ Some d → test d ≡ true
unfolding next_id
next_id-passes n test c d e =
    let found : (k : ℕ) × (least_below (thread_ids n) (λ k. test (id_behind n c k)) ≡ Some k) × (id_behind n c k ≡ d) =
    next_parts n c d (least_below (thread_ids n) (λ k. test (id_behind n c k))) e in
    subst (λ x. test x ≡ true) found.2 (least_below-passes (thread_ids n) (λ k. test (id_behind n c k)) found.0 found.1)

-- .. and no id that comes earlier on the circle does
pub next_id-first : (n : ℕ) (test : ThreadId → Bool) (c d : ThreadId) → is_pid n c.pid.0 ≡ true → next_id n test c ≡ Some d
    → (b : ThreadId) → is_thread_id n b ≡ true → steps_to n c b < steps_to n c d → test b ≡ false
unfolding next_id
next_id-first n test c d p e b h l =
    let found : (k : ℕ) × (least_below (thread_ids n) (λ k. test (id_behind n c k)) ≡ Some k) × (id_behind n c k ≡ d) =
    next_parts n c d (least_below (thread_ids n) (λ k. test (id_behind n c k))) e in
    let bound : found.0 < thread_ids n = least_below-bound (thread_ids n) (λ k. test (id_behind n c k)) found.0 found.1 in
    let far : steps_to n c d ≡ found.0 = ap (steps_to n c) (sym found.2) ∙ steps_to-id_behind n c found.0 p bound in
    subst (λ x. test x ≡ false) (id_behind-steps_to n c b p h)
    (least_below-first (thread_ids n) (λ k. test (id_behind n c k)) found.0 found.1 (steps_to n c b) (omega arith))

-- where none is found, no id of n processes passes
pub next_id-none : (n : ℕ) (test : ThreadId → Bool) (c : ThreadId) → is_pid n c.pid.0 ≡ true → next_id n test c ≡ None
    → (b : ThreadId) → is_thread_id n b ≡ true → test b ≡ false
unfolding next_id
next_id-none n test c p e b h =
    subst (λ x. test x ≡ false) (id_behind-steps_to n c b p h)
    (least_below-none (thread_ids n) (λ k. test (id_behind n c k))
    (next_none n c (least_below (thread_ids n) (λ k. test (id_behind n c k))) e) (steps_to n c b) (steps_to-bound n c b h))

-- a search that goes round the circle finds it: nothing passes in the first k steps, and then one does
pub next_id-Some : (n : ℕ) (test : ThreadId → Bool) (c : ThreadId) (k : ℕ) → k < thread_ids n → test (id_behind n c k) ≡ true
    → ((j : ℕ) → j < k → test (id_behind n c j) ≡ false) → next_id n test c ≡ Some (id_behind n c k)
unfolding next_id
next_id-Some n test c k l h first =
    ap (option_map (id_behind n c)) (least_below-Some (thread_ids n) (λ k. test (id_behind n c k)) k l h first)

-- a search that comes round with nothing found
pub next_id-None : (n : ℕ) (test : ThreadId → Bool) (c : ThreadId)
    → ((k : ℕ) → k < thread_ids n → test (id_behind n c k) ≡ false) → next_id n test c ≡ None
unfolding next_id
next_id-None n test c h = ap (option_map (id_behind n c)) (least_below-None (thread_ids n) (λ k. test (id_behind n c k)) h)

-- tests that agree on the ids of n processes find the same
pub next_id-same : (n : ℕ) (f g : ThreadId → Bool) (c : ThreadId) → ((d : ThreadId) → is_thread_id n d ≡ true → f d ≡ g d) → next_id n f c ≡ next_id n g c
unfolding next_id
next_id-same n f g c h =
    ap (option_map (id_behind n c))
    (least_below-same (thread_ids n) (λ k. f (id_behind n c k)) (λ k. g (id_behind n c k)) (λ k l. h (id_behind n c k) (id_behind-valid n c k l)))

-- ---- listing

-- the places of a listing ascend by the law on numbers, so that it has each id once
pub places-listed_ids : (n : ℕ) (test : ThreadId → Bool) → map place_of (listed_ids n test) ≡ listed_below (thread_ids n) (λ k. test (id_at k))
unfolding listed_ids
places-listed_ids n test = back (listed_below (thread_ids n) (λ k. test (id_at k)))
  where
    back : (ks : List ℕ) → map place_of (map id_at ks) ≡ ks
    back [] = refl
    back (k ∷ ks) = λ i. place_of-id_at k i ∷ back ks i

-- what is listed is an id of n processes that passes ..
pub listed_ids-passes : (n : ℕ) (test : ThreadId → Bool) → All (λ d. (is_thread_id n d ≡ true) × (test d ≡ true)) (listed_ids n test)
unfolding listed_ids
listed_ids-passes n test =
    let ks : List ℕ = listed_below (thread_ids n) (λ k. test (id_at k)) in
    All-map (λ d. (is_thread_id n d ≡ true) × (test d ≡ true)) id_at ks
    (All-weaker (λ k. (k < thread_ids n) × (test (id_at k) ≡ true)) (λ k. (is_thread_id n (id_at k) ≡ true) × (test (id_at k) ≡ true))
    (λ k h. (is_thread_id-id_at n k h.0, h.1)) ks (listed_below-passes (thread_ids n) (λ k. test (id_at k))))

-- .. and each such id is listed
pub listed_ids-contains : (n : ℕ) (test : ThreadId → Bool) (d : ThreadId) → is_thread_id n d ≡ true → test d ≡ true → Contains (listed_ids n test) d
unfolding listed_ids
listed_ids-contains n test d h e =
    let ks : List ℕ = listed_below (thread_ids n) (λ k. test (id_at k)) in
    let same : id_at (place_of d) ≡ d = id_at-place_of n d h in
    let at : Contains ks (place_of d) =
    listed_below-contains (thread_ids n) (place_of d) (λ k. test (id_at k)) (place_of-bound n d h) (subst (λ x. test x ≡ true) (sym same) e) in
    (at.0, rw length-map at.1, get_or-map id_at ks at.0 (place_of d) d at.1 ∙ ap id_at at.2 ∙ same)
