-- The threads of a process but for an idle one, by the places of their ids.
use Rattle.std.proofs.Common.{◌≡◌, ◌+◌, ℕ, suc, Bool, true, false, eqb, List, [], ◌∷◌, ◌++◌, refl, sym, ap, subst, ◌∙◌, arith, inl, inr}
use Rattle.std.specs.Prelude.{if◌then◌else◌, map, nat_lt}
use Rattle.std.proofs.lemmas.Bool.{cases_Bool, eqb-true, eqb-false}
use Rattle.std.proofs.lemmas.Bool.Decides.{nat_tests}
use Rattle.std.proofs.lemmas.List.{append-nil, map-append}
use Rattle.order_model.specs.Endings.{is_busy}
use Rattle.snapshot_rows.specs.declared.state.ThreadRow.{ThreadRow}
use Rattle.snapshot_rows.specs.Machines.{thread_of, thread_state}
use Rattle.xk_base.specs.declared.ids.ThreadId.{ThreadId}
use Rattle.xk_base.specs.Tables.Circle.{id_at, listed_ids, thread_ids}
use Rattle.xk_base.specs.Tables.Counting.{listed_below}

-- ---- a state of a number below 4 is busy

busy_at : (waits k : ℕ) (state : ℕ) → state ≡ k → nat_lt k 4 ≡ is_busy (thread_state k waits) → nat_lt state 4 ≡ is_busy (thread_state state waits)
busy_at waits k state is at = subst (λ (n : ℕ). nat_lt n 4 ≡ is_busy (thread_state n waits)) (sym is) at

above_all : (waits state : ℕ) → eqb state 0 ≡ false → eqb state 1 ≡ false → eqb state 2 ≡ false → eqb state 3 ≡ false
    → nat_lt state 4 ≡ is_busy (thread_state state waits)
above_all waits state a b c d =
    let not_below : nat_lt state 4 ≡ false = grind (arith, nat_tests, eqb-false state 0 a, eqb-false state 1 b, eqb-false state 2 c, eqb-false state 3 d) in
    not_below ∙ rw (a, b, c, d) refl

pub busy_row : (t : ThreadRow) → nat_lt t.state 4 ≡ is_busy (thread_of t).state
busy_row t = elim (cases_Bool (eqb t.state 0)) [
  | inl is ↦ busy_at t.waits 0 t.state (eqb-true t.state 0 is) refl
  | inr a ↦ elim (cases_Bool (eqb t.state 1)) [
    | inl is ↦ busy_at t.waits 1 t.state (eqb-true t.state 1 is) refl
    | inr b ↦ elim (cases_Bool (eqb t.state 2)) [
      | inl is ↦ busy_at t.waits 2 t.state (eqb-true t.state 2 is) refl
      | inr c ↦ elim (cases_Bool (eqb t.state 3)) [
        | inl is ↦ busy_at t.waits 3 t.state (eqb-true t.state 3 is) refl
        | inr d ↦ above_all t.waits t.state a b c d
      ]
    ]
  ]
]

-- ---- the ids that pass a test, place by place

-- the next place is listed where its thread passes
pub next_listed : (test : ℕ → Bool) (k : ℕ) (ids more : List ThreadId) → ids ≡ map id_at (listed_below k test)
    → more ≡ ids ++ (if test k then id_at k ∷ [] else []) → more ≡ map id_at (listed_below (k + 1) test)
unfolding listed_below
next_listed test k ids more e is =
    let same : suc k ≡ k + 1 = omega arith in
    subst (λ n. more ≡ map id_at (listed_below n test)) same (go (test k) refl)
  where
    go : (b : Bool) → test k ≡ b → more ≡ map id_at (listed_below k test ++ (if test k then k ∷ [] else []))
    go true t =
        is
        ∙ (ap (λ (b : Bool). ids ++ (if b then id_at k ∷ [] else [])) t
        ∙ (ap (λ (xs : List ThreadId). xs ++ id_at k ∷ []) e
        ∙ (sym (map-append id_at (listed_below k test) (k ∷ []))
        ∙ ap (λ (b : Bool). map id_at (listed_below k test ++ (if b then k ∷ [] else []))) (sym t))))
    go false t =
        is
        ∙ (ap (λ (b : Bool). ids ++ (if b then id_at k ∷ [] else [])) t
        ∙ (append-nil ids
        ∙ (e
        ∙ (ap (map id_at) (sym (append-nil (listed_below k test)))
        ∙ ap (λ (b : Bool). map id_at (listed_below k test ++ (if b then k ∷ [] else []))) (sym t)))))

-- all were looked at
pub all_listed : (n place : ℕ) (test : ThreadId → Bool) (ids : List ThreadId) → ids ≡ map id_at (listed_below place (λ k. test (id_at k)))
    → place ≡ thread_ids n → ids ≡ listed_ids n test
unfolding listed_ids
all_listed n place test ids e same = e ∙ ap (λ (p : ℕ). map id_at (listed_below p (λ k. test (id_at k)))) same
