-- How far a thread is from the cursor, going on round the circle, and that the next ready thread is nearer.
use Rattle.std.proofs.Common.{◌≡◌, ◌≢◌, ℕ, ◌+◌, ◌-◌, ◌%◌, ◌<◌, ◌≤◌, ◌⊎◌, inl, inr, true, Option, Some, None, refl, sym, ap, ◌∙◌, arith}
use Rattle.std.specs.Prelude.{unwrap_or}
use Rattle.std.proofs.Math.Nat.{mod-eq_of_lt, add-mod_right}
use Rattle.std.proofs.lemmas.Bool.{cases_lt, false≢true}
use Rattle.std.proofs.lemmas.Bool.Decides.{nat_tests}
use Rattle.xk_base.specs.declared.ids.ThreadId.{ThreadId}
use Rattle.xk_base.specs.Tables.Circle.{id_at, ids_until, is_pid, is_thread_id, place_of, steps_to, thread_ids}
use Rattle.xk_base.proofs.CircleLemmas.{id_at-place_of, next_id-first, next_id-none, next_id-valid, place_of-bound}
use Rattle.machine_model.specs.State.Machine.{Machine}
use Rattle.machine_model.specs.State.Order.{next_ready, ready_at}

-- a number below twice the size is turned back by the size once or not at all
turned_back : (x size : ℕ) → x < size + size → ((x < size) × (x % size ≡ x)) ⊎ ((size ≤ x) × (x % size ≡ x - size))
turned_back x size l =
    elim (cases_lt x size) [
      | inl below ↦ inl (below, mod-eq_of_lt below)
      | inr above ↦
          let rest : x - size < size = omega arith in
          let parts : x - size + size ≡ x = omega arith in
          inr (above, sym (ap (λ y. y % size) parts) ∙ add-mod_right (x - size) size ∙ mod-eq_of_lt rest)
    ]

-- how far `d` is from `c`, going on round the circle of n processes; 0 where it is there
unfoldable pub far : ℕ → ThreadId → ThreadId → ℕ
far n d c = (place_of d + thread_ids n - place_of c) % thread_ids n

-- by whether the place is higher, how far it is
abbrev LiesAt : ℕ → ℕ → ℕ → ℕ → Type 0
LiesAt size d c f = ((c ≤ d) × (f ≡ d - c)) ⊎ ((d < c) × (f ≡ d + size - c))

-- .. and how many steps it takes
abbrev LeadsAt : ℕ → ℕ → ℕ → ℕ → Type 0
LeadsAt size c d k = ((c < d) × (k ≡ d - c - 1)) ⊎ ((d ≤ c) × (k ≡ d + size - c - 1))

-- as far from two places: they are one
same_places : (size d a b f g : ℕ) → a < size → b < size → d < size → LiesAt size d a f → LiesAt size d b g → f ≡ g → a ≡ b
same_places size d a b f g low also last (inl x) (inl y) e = omega arith
same_places size d a b f g low also last (inl x) (inr y) e = omega arith
same_places size d a b f g low also last (inr x) (inl y) e = omega arith
same_places size d a b f g low also last (inr x) (inr y) e = omega arith

-- no more steps to the next than to d: from the next d is nearer
nearer_places : (size c next d f g k j : ℕ) → c < size → next < size → d < size → c ≢ d → LiesAt size d c f → LiesAt size d next g
    → LeadsAt size c next k → LeadsAt size c d j → k ≤ j → g < f
nearer_places size c next d f g k j low also last other (inl a) (inl b) (inl x) (inl y) le = omega arith
nearer_places size c next d f g k j low also last other (inl a) (inl b) (inl x) (inr y) le = absurd (other (omega arith))
nearer_places size c next d f g k j low also last other (inl a) (inl b) (inr x) (inl y) le = omega arith
nearer_places size c next d f g k j low also last other (inl a) (inl b) (inr x) (inr y) le = absurd (other (omega arith))
nearer_places size c next d f g k j low also last other (inl a) (inr b) (inl x) (inl y) le = omega arith
nearer_places size c next d f g k j low also last other (inl a) (inr b) (inl x) (inr y) le = absurd (other (omega arith))
nearer_places size c next d f g k j low also last other (inl a) (inr b) (inr x) (inl y) le = omega arith
nearer_places size c next d f g k j low also last other (inl a) (inr b) (inr x) (inr y) le = absurd (other (omega arith))
nearer_places size c next d f g k j low also last other (inr a) (inl b) (inl x) (inl y) le = omega arith
nearer_places size c next d f g k j low also last other (inr a) (inl b) (inl x) (inr y) le = omega arith
nearer_places size c next d f g k j low also last other (inr a) (inl b) (inr x) (inl y) le = omega arith
nearer_places size c next d f g k j low also last other (inr a) (inl b) (inr x) (inr y) le = omega arith
nearer_places size c next d f g k j low also last other (inr a) (inr b) (inl x) (inl y) le = omega arith
nearer_places size c next d f g k j low also last other (inr a) (inr b) (inl x) (inr y) le = omega arith
nearer_places size c next d f g k j low also last other (inr a) (inr b) (inr x) (inl y) le = omega arith
nearer_places size c next d f g k j low also last other (inr a) (inr b) (inr x) (inr y) le = omega arith

module _ (n : ℕ) (c d : ThreadId) (here : is_thread_id n c ≡ true) (there : is_thread_id n d ≡ true) where
  far_cases : LiesAt (thread_ids n) (place_of d) (place_of c) (far n d c)
  unfolding far
  far_cases =
      let low : place_of c < thread_ids n = place_of-bound n c here in
      let also : place_of d < thread_ids n = place_of-bound n d there in
      elim (turned_back (place_of d + thread_ids n - place_of c) (thread_ids n) (omega arith)) [
        | inl a ↦ let e : (place_of d + thread_ids n - place_of c) % thread_ids n ≡ place_of d + thread_ids n - place_of c = a.1 in
            inr (omega arith, e)
        | inr b ↦ let e : (place_of d + thread_ids n - place_of c) % thread_ids n ≡ place_of d + thread_ids n - place_of c - thread_ids n = b.1 in
            inl (omega arith, omega arith)
      ]

  steps_cases : LeadsAt (thread_ids n) (place_of c) (place_of d) (steps_to n c d)
  steps_cases =
      let low : place_of c < thread_ids n = place_of-bound n c here in
      let also : place_of d < thread_ids n = place_of-bound n d there in
      let next : ids_until c ≡ place_of c + 1 = grind (arith, nat_tests) in
      let sum : place_of d + thread_ids n - ids_until c ≡ place_of d + thread_ids n - place_of c - 1 = omega arith in
      elim (turned_back (place_of d + thread_ids n - ids_until c) (thread_ids n) (omega arith)) [
        | inl a ↦ let e : (place_of d + thread_ids n - ids_until c) % thread_ids n ≡ place_of d + thread_ids n - ids_until c = a.1 in
            inr (omega arith, omega arith)
        | inr b ↦ let e : (place_of d + thread_ids n - ids_until c) % thread_ids n ≡ place_of d + thread_ids n - ids_until c - thread_ids n = b.1 in
            inl (omega arith, omega arith)
      ]

-- ids at one place are one
same_place : (n : ℕ) (a b : ThreadId) → is_thread_id n a ≡ true → is_thread_id n b ≡ true → place_of a ≡ place_of b → a ≡ b
same_place n a b p q e = sym (id_at-place_of n a p) ∙ ap id_at e ∙ id_at-place_of n b q

-- ids from which a thread is as far are one
pub same_far : (n : ℕ) (d a b : ThreadId) → is_thread_id n d ≡ true → is_thread_id n a ≡ true → is_thread_id n b ≡ true → far n d a ≡ far n d b → a ≡ b
same_far n d a b h p q e =
    same_place n a b p q
    (same_places (thread_ids n) (place_of d) (place_of a) (place_of b) (far n d a) (far n d b) (place_of-bound n a p) (place_of-bound n b q)
    (place_of-bound n d h) (far_cases n a d p h) (far_cases n b d q h) e)

-- where `d` isn't farther than the next, the next is nearer to `d`
nearer_by : (n : ℕ) (d c next : ThreadId) → is_thread_id n d ≡ true → is_thread_id n c ≡ true → is_thread_id n next ≡ true → c ≢ d
    → steps_to n c next ≤ steps_to n c d → far n d next < far n d c
nearer_by n d c next h p q apart le =
    nearer_places (thread_ids n) (place_of c) (place_of next) (place_of d) (far n d c) (far n d next) (steps_to n c next) (steps_to n c d)
    (place_of-bound n c p) (place_of-bound n next q) (place_of-bound n d h) (λ e. apart (same_place n c d p h e))
    (far_cases n c d p h) (far_cases n next d q h) (steps_cases n c next p q) (steps_cases n c d p h) le

pid_of : (n : ℕ) (c : ThreadId) → is_thread_id n c ≡ true → is_pid n c.pid.0 ≡ true
pid_of n c h = grind (arith, nat_tests)

-- the next ready thread after `c` is nearer to each other one that is Ready
pub next_nearer : (m : Machine) (c d : ThreadId) → is_thread_id m.processes c ≡ true → is_thread_id m.processes d ≡ true
    → ready_at m d ≡ true → c ≢ d → far m.processes d (unwrap_or (next_ready m c) c) < far m.processes d c
unfolding next_ready
next_nearer m c d here there ready apart = go (next_ready m c) refl
  where
    cursor : is_pid m.processes c.pid.0 ≡ true
    cursor = pid_of m.processes c here

    go : (o : Option ThreadId) → next_ready m c ≡ o → far m.processes d (unwrap_or o c) < far m.processes d c
    go None e = absurd (false≢true (sym (next_id-none m.processes (ready_at m) c cursor e d there) ∙ ready))
    go (Some next) e =
        nearer_by m.processes d c next there here (next_id-valid m.processes (ready_at m) c next e) apart
        (elim (cases_lt (steps_to m.processes c d) (steps_to m.processes c next)) [
          | inl less ↦ absurd (false≢true (sym (next_id-first m.processes (ready_at m) c next cursor e d there less) ∙ ready))
          | inr more ↦ more
        ])
