-- The circle of ids, gone round process by process.
use Rattle.std.proofs.Common.{◌≡◌, ℕ, ◌+◌, ◌-◌, ◌*◌, ◌%◌, ◌<◌, ◌≤◌, min, Bool, true, false, Some, None, ap, sym, ◌∙◌, inl, inr, arith}
use Rattle.std.proofs.Math.Nat.{mod-eq_of_lt, add-mod_right}
use Rattle.std.proofs.lemmas.Bool.{both_ways, cases_lt}
use Rattle.xk_base.specs.declared.ids.ThreadId.{ThreadId}
use Rattle.xk_base.specs.declared.limits.TheConstants.{TID_LIMIT}
use Rattle.xk_base.specs.Tables.Circle.{IsPid, id_at, id_behind, ids_until, thread_ids}
use Rattle.xk_base.proofs.CircleLemmas.{next_id-None, next_id-Some, same_ids}
use Rattle.thread_table.specs.ThreadMap.{ThreadMap, id_in_row, is_ready, is_ready_in, next_ready}

round : (x m : ℕ) → m ≤ x → x < m + m → x % m ≡ x - m
round x m low high =
    let parts : x - m + m ≡ x = omega (arith, low) in
    sym (ap (λ y. y % m) parts) ∙ add-mod_right (x - m) m ∙ mod-eq_of_lt (omega (arith, low, high))

module _ (n : ℕ) (m : ThreadMap) (c : ThreadId) (is : IsPid n c.pid.0) where
  abbrev own : ℕ
  own = c.pid.0 - 2

  abbrev last : ℕ
  last = min c.tid.0 TID_LIMIT

  abbrev ready : ℕ → Bool
  ready j = is_ready (m (id_behind n c j))

  -- nothing is Ready up to there
  abbrev pub Passed : ℕ → Type 0
  Passed x = (j : ℕ) → j + last < x → ready j ≡ false

  few : own < n
  few = let low : 2 ≤ c.pid.0 = is.0 in let high : c.pid.0 < n + 2 = is.1 in omega (arith, low, high)

  pub own_row : (own + 0) % n ≡ own
  own_row = let e : own + 0 ≡ own = omega arith in ap (λ x. x % n) e ∙ mod-eq_of_lt few

  -- the tids of the process that is k behind
  spot : (k t j : ℕ) → k ≤ n → 1 ≤ t → t ≤ 31 → j + last + 1 ≡ 31 * k + t → id_behind n c j ≡ id_in_row ((own + k) % n) t
  spot k t j all some most e = elim (cases_lt (own + k) n) [
    | inl below ↦
        let row : (own + k) % n ≡ own + k = mod-eq_of_lt below in
        let place : (ids_until c + j) % thread_ids n ≡ ids_until c + j = mod-eq_of_lt (omega (arith, below, e, most, some)) in
        same_ids (id_behind n c j) (id_in_row ((own + k) % n) t)
        (omega (arith, row, place, e, some, most)) (omega (arith, place, e, some, most))
    | inr above ↦
        let small : own < n = few in
        let row : (own + k) % n ≡ own + k - n = round (own + k) n above (omega (arith, small, all)) in
        let place : (ids_until c + j) % thread_ids n ≡ ids_until c + j - thread_ids n =
        round (ids_until c + j) (thread_ids n) (omega (arith, above, e, some)) (omega (arith, small, all, e, most)) in
        same_ids (id_behind n c j) (id_in_row ((own + k) % n) t)
        (omega (arith, row, place, e, some, most, above)) (omega (arith, place, e, some, most, above))
  ]

  -- a process with no Ready thread from that tid on
  pub go_on : (k from x : ℕ) → k ≤ n → 1 ≤ from → x + 1 ≡ 31 * k + from → Passed x → ((t : ℕ) → from ≤ t → is_ready_in m ((own + k) % n) t ≡ false)
      → Passed (31 * (k + 1))
  go_on k from x all some at passed none j l = elim (cases_lt (j + last) x) [
    | inl low ↦ passed j low
    | inr high ↦
        let t : ℕ = j + last + 1 - 31 * k in
        ap (λ d. is_ready (m d)) (spot k t j all (omega (arith, high, at, some)) (omega (arith, l)) (omega (arith, high, at, some)))
        ∙ none t (omega (arith, high, at))
  ]

  -- .. and one with such a thread
  found_at : (k from x t j : ℕ) → j + last + 1 ≡ 31 * k + t → k ≤ n → 1 ≤ from → x + 1 ≡ 31 * k + from → Passed x → from ≤ t → t ≤ 31
      → is_ready_in m ((own + k) % n) t ≡ true → ((s : ℕ) → from ≤ s → s < t → is_ready_in m ((own + k) % n) s ≡ false)
      → next_ready n m c ≡ Some (id_in_row ((own + k) % n) t)
  found_at k from x t j is_there all some at passed low high is_it first =
      next_id-Some n (λ d. is_ready (m d)) c j within ready_there before ∙ ap Some there
    where
      there : id_behind n c j ≡ id_in_row ((own + k) % n) t
      there = spot k t j all (omega (arith, low, some)) high is_there

      ready_there : ready j ≡ true
      ready_there = ap (λ d. is_ready (m d)) there ∙ is_it

      before : (i : ℕ) → i < j → ready i ≡ false
      before i l = elim (cases_lt (i + last) x) [
        | inl less ↦ passed i less
        | inr more ↦
            let s : ℕ = i + last + 1 - 31 * k in
            let e : i + last + 1 ≡ 31 * k + s = omega (arith, more, at, some) in
            let from_low : from ≤ s = omega (arith, more, at) in
            let below : s < t = omega (arith, l, e, is_there) in
            ap (λ d. is_ready (m d)) (spot k s i all (omega (arith, from_low, some)) (omega (arith, below, high)) e)
            ∙ first s from_low below
      ]

      within : j < thread_ids n
      within = elim (cases_lt j (thread_ids n)) [
        | inl less ↦ less
        | inr more ↦
            let i : ℕ = j - thread_ids n in
            let once : ids_until c + j ≡ ids_until c + i + thread_ids n = omega (arith, more) in
            let same : id_behind n c j ≡ id_behind n c i = ap (λ y. id_at (y % thread_ids n)) once ∙ ap id_at (add-mod_right (ids_until c + i) (thread_ids n)) in
            let some_process : own < n = few in
            let early : i + last < x = omega (arith, more, is_there, at, all, high, some, some_process) in
            absurd (both_ways (ready j) (ap (λ d. is_ready (m d)) same ∙ passed i early) ready_there)
      ]

  pub found : (k from x t : ℕ) → k ≤ n → 1 ≤ from → x + 1 ≡ 31 * k + from → last ≤ x → Passed x → from ≤ t → t ≤ 31
      → is_ready_in m ((own + k) % n) t ≡ true → ((s : ℕ) → from ≤ s → s < t → is_ready_in m ((own + k) % n) s ≡ false)
      → next_ready n m c ≡ Some (id_in_row ((own + k) % n) t)
  found k from x t all some at behind passed low high is_it first =
      found_at k from x t (31 * k + t - 1 - last) (omega (arith, at, behind, low, some)) all some at passed low high is_it first

  -- all round
  pub none_found : Passed (31 * (n + 1)) → next_ready n m c ≡ None
  none_found passed = next_id-None n (λ d. is_ready (m d)) c (λ j l. passed j (omega (arith, l)))
