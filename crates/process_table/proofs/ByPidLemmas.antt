-- The list of processes read and written as a map from the pid.
use Rattle.std.proofs.Common.{◌≡◌, ℕ, ◌-◌, ◌<◌, ◌≤◌, List, [], ◌∷◌, zero, suc, length, get_or, set, replicate, Some, None, nat_eq, nat_lt, cond, slice_get, refl, ap, sym, ◌∙◌, inl, inr, arith}
use Rattle.std.specs.Option.{option_map}
use Rattle.std.proofs.lemmas.Bool.{cases_lt, cases_eq, cond-true, cond-false, eq-eqb, ne_eqb}
use Rattle.std.proofs.lemmas.Bool.Decides.{nat_tests}
use Rattle.std.proofs.lemmas.List.{get_or-set_same, length-set, length-replicate, get_or-replicate}
use Rattle.std.proofs.lemmas.Option.{slice_get_read, slice_get_past}
use Rattle.xk_base.specs.Tables.Circle.{is_pid}
use Rattle.process_table.specs.State.{ProcessState, new_process}
use Rattle.process_table.specs.ProcessMap.{by_pid, change, new_processes}

-- a process that is read in the list is the one of its pid
pub by_pid_read : (ps : List ProcessState) (pid : ℕ) (p : ProcessState) → 2 ≤ pid → pid - 2 < length ps → p ≡ get_or ps (pid - 2) p
    → by_pid ps pid ≡ Some p
by_pid_read ps pid p low high here =
    cond-false (nat_lt pid 2) None (slice_get ps (pid - 2)) (grind (arith, nat_tests))
    ∙ slice_get_read ps (length ps) (pid - 2) p refl high here

-- past the end of the list there is none
pub by_pid_past : (ps : List ProcessState) (pid : ℕ) → length ps ≤ pid - 2 → by_pid ps pid ≡ None
by_pid_past ps pid past = elim (cases_lt pid 2) [
  | inl low ↦ cond-true (nat_lt pid 2) None (slice_get ps (pid - 2)) (grind (arith, nat_tests))
  | inr high ↦ cond-false (nat_lt pid 2) None (slice_get ps (pid - 2)) (grind (arith, nat_tests)) ∙ slice_get_past ps (pid - 2) past
]

-- below 2 there is none
pub by_pid_low : (ps : List ProcessState) (pid : ℕ) → pid < 2 → by_pid ps pid ≡ None
by_pid_low ps pid low = cond-true (nat_lt pid 2) None (slice_get ps (pid - 2)) (grind (arith, nat_tests))

-- lists that agree at a place agree at its pid
by_pid_same : (ps qs : List ProcessState) (pid : ℕ) → (2 ≤ pid → slice_get ps (pid - 2) ≡ slice_get qs (pid - 2)) → by_pid ps pid ≡ by_pid qs pid
by_pid_same ps qs pid same = elim (cases_lt pid 2) [
  | inl low ↦ by_pid_low ps pid low ∙ sym (by_pid_low qs pid low)
  | inr high ↦ ap (λ o. cond (nat_lt pid 2) None o) (same high)
]

set_other : (ps : List ProcessState) (i j : ℕ) (q : ProcessState) → (j ≡ i → ⊥) → slice_get (set ps i q) j ≡ slice_get ps j
set_other [] i j q apart = refl
set_other (p ∷ ps) zero zero q apart = absurd (apart refl)
set_other (p ∷ ps) zero (suc j) q apart = refl
set_other (p ∷ ps) (suc i) zero q apart = refl
set_other (p ∷ ps) (suc i) (suc j) q apart = set_other ps i j q (λ e. apart (ap suc e))

-- a write of a process changes it alone
pub by_pid_set : (ps : List ProcessState) (pid : ℕ) (p q : ProcessState) (f : ProcessState → ProcessState) → 2 ≤ pid → pid - 2 < length ps
    → p ≡ get_or ps (pid - 2) p → q ≡ f p → by_pid (set ps (pid - 2) q) ≡ change pid f (by_pid ps)
by_pid_set ps pid p q f low high here made = λ i k. at k i
  where
    now : by_pid (set ps (pid - 2) q) pid ≡ option_map f (by_pid ps pid)
    now = by_pid_read (set ps (pid - 2) q) pid q low (rw length-set high) (sym (get_or-set_same ps (pid - 2) q q high))
        ∙ ap Some made ∙ ap (option_map f) (sym (by_pid_read ps pid p low high here))

    at : (k : ℕ) → by_pid (set ps (pid - 2) q) k ≡ change pid f (by_pid ps) k
    at k = elim (cases_eq k pid) [
      | inl same ↦ ap (by_pid (set ps (pid - 2) q)) same ∙ now
          ∙ sym (cond-true (nat_eq k pid) (option_map f (by_pid ps pid)) (by_pid ps k) (eq-eqb k pid same))
      | inr apart ↦ by_pid_same (set ps (pid - 2) q) ps k (λ l. set_other ps (pid - 2) (k - 2) q (λ e. apart (omega arith)))
          ∙ sym (cond-false (nat_eq k pid) (option_map f (by_pid ps pid)) (by_pid ps k) (ne_eqb k pid apart))
    ]

-- a list of new processes
pub by_pid_new : (n : ℕ) → by_pid (replicate n new_process) ≡ new_processes n
by_pid_new n = λ i k. at k i
  where
    at : (k : ℕ) → by_pid (replicate n new_process) k ≡ new_processes n k
    at k = elim (cases_lt k 2) [
      | inl low ↦ by_pid_low (replicate n new_process) k low ∙ sym (cond-false (is_pid n k) (Some new_process) None (grind (arith, nat_tests)))
      | inr high ↦ elim (cases_lt (k - 2) n) [
        | inl inside ↦ by_pid_read (replicate n new_process) k new_process high (omega (arith, length-replicate n new_process))
            (sym (get_or-replicate n (k - 2) new_process new_process inside))
            ∙ sym (cond-true (is_pid n k) (Some new_process) None (grind (arith, nat_tests)))
        | inr past ↦ by_pid_past (replicate n new_process) k (omega (arith, length-replicate n new_process))
            ∙ sym (cond-false (is_pid n k) (Some new_process) None (grind (arith, nat_tests)))
      ]
    ]

pub ruleset laws = (by_pid_read, by_pid_past, by_pid_low, by_pid_set)
