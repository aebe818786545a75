-- What the invariant says of each thread for itself holds exactly where a test of the rows does.
use Rattle.std.proofs.Common.{◌≡◌, ℕ, ◌%◌, Bool, true, false, eqb, ltb, List, refl, sym, ◌∙◌, arith, inl, inr, ◌↔◌}
use Rattle.std.specs.Prelude.{◌&&◌, ◌||◌, IsTrue}
use Rattle.std.specs.List.{list_all}
use Rattle.std.proofs.lemmas.Bool.{eqb-true, eqb-false, eq-eqb, ne_eqb, and_parts, le-ltb, ltb-false, cases_Bool}
use Rattle.machine_model.specs.State.Machine.{Thread, Idle}
use Rattle.xk_base.specs.declared.ids.ThreadId.{ThreadId}
use Rattle.xk_base.specs.Tables.Circle.{is_thread_id}
use Rattle.machine_model.specs.Runs.Matched.{AreThreadIdsMatched}
use Rattle.snapshot_rows.specs.declared.state.ProcRow.{ProcRow}
use Rattle.snapshot_rows.specs.declared.state.ThreadRow.{ThreadRow}
use Rattle.snapshot_rows.specs.Order.{thread_key, AscendInTwo}
use Rattle.snapshot_rows.specs.Machines.{thread_at_id, thread_state, thread_of, threads_of, processes_of}
use Rattle.snapshot_matching.specs.ThreadParts.{is_thread_living, is_thread_right, AreThreadsRight}
use Rattle.snapshot_rows.proofs.KeyLemmas.{either}
use Rattle.snapshot_matching.proofs.ThreadRows.ThreadLemmas.{threads_told, state_by}

idle_by : (a b c d : Bool) (waits : ℕ) → state_by a b c d waits ≡ Idle → (a ≡ false) × (b ≡ false) × (c ≡ false) × (d ≡ false)
idle_by true b c d waits e = absurd cc
idle_by false true c d waits e = absurd cc
idle_by false false true d waits e = absurd cc
idle_by false false false true waits e = absurd cc
idle_by false false false false waits e = (refl, refl, refl, refl)

-- 4 and above
pub idle_high : (state waits : ℕ) → thread_state state waits ≡ Idle → ltb state 4 ≡ false
idle_high state waits e =
    let none = idle_by (eqb state 0) (eqb state 1) (eqb state 2) (eqb state 3) waits e in
    let n0 = eqb-false state 0 none.0 in
    let n1 = eqb-false state 1 none.1 in
    let n2 = eqb-false state 2 none.2 in
    let n3 = eqb-false state 3 none.3 in
    le-ltb _ _ (omega (arith, n0, n1, n2, n3))

pub high_idle : (state waits : ℕ) → ltb state 4 ≡ false → thread_state state waits ≡ Idle
high_idle state waits high =
    let low = ltb-false state 4 high in
    let n0 : eqb state 0 ≡ false = ne_eqb state 0 (λ same. omega arith) in
    let n1 : eqb state 1 ≡ false = ne_eqb state 1 (λ same. omega arith) in
    let n2 : eqb state 2 ≡ false = ne_eqb state 2 (λ same. omega arith) in
    let n3 : eqb state 3 ≡ false = ne_eqb state 3 (λ same. omega arith) in
    rw (n0, n1, n2, n3) refl

IsRight : List ProcRow → ThreadId → Thread → Type 0
IsRight procs id t = (t.pc % 4 ≡ 0) × (t.state ≡ Idle → (id.tid.0 ≡ 1) × IsTrue (processes_of procs id.pid.0).alive)

right_told : (procs : List ProcRow) (t : ThreadRow) → IsTrue (is_thread_right procs t) ↔ IsRight procs (thread_at_id t.pid t.tid) (thread_of t)
unfolding IsRight
right_told procs t = (
  λ good. (
      let first_of = eqb t.tid 1 && (processes_of procs t.pid).alive in
      let both = and_parts (eqb (t.pc % 4) 0) (ltb t.state 4 || first_of) good in (
        eqb-true _ _ both.0,
        λ idle. (
            let parts = and_parts (eqb t.tid 1) (processes_of procs t.pid).alive (either (ltb t.state 4) first_of (idle_high t.state t.waits idle) both.1) in
            (eqb-true _ _ parts.0, parts.1)
            ),
      )
      ),
  λ right. (
      elim (cases_Bool (ltb t.state 4)) [
        | inl low ↦ rw (eq-eqb (t.pc % 4) 0 right.0, low) refl
        | inr high ↦ (
            let first = right.1 (high_idle t.state t.waits high) in
            let alive : (processes_of procs t.pid).alive ≡ true = first.1 in
            rw (eq-eqb (t.pc % 4) 0 right.0, high, eq-eqb t.tid 1 first.0, alive) refl
            )
      ]
      ),
)

pub threads_right_told : (procs : List ProcRow) (rows : List ThreadRow) (told : Bool) → AscendInTwo thread_key rows → told ≡ list_all (is_thread_right procs) rows
    → IsTrue told ↔ AreThreadsRight (processes_of procs) (threads_of rows)
unfolding IsRight
threads_right_told procs rows told ascend is =
    let each = threads_told (is_thread_right procs) (IsRight procs) (right_told procs) rows ascend in (
      λ holds. record { pcs = λ id t e. (each.0 (sym is ∙ holds) id t e).0; idle = λ id t e. (each.0 (sym is ∙ holds) id t e).1 },
      λ right. is ∙ each.1 (λ id t e. (right.pcs id t e, right.idle id t e)),
    )

IsLivingIn : ℕ → List ProcRow → ThreadId → Thread → Type 0
IsLivingIn n procs id t = IsTrue (is_thread_id n id) × IsTrue (processes_of procs id.pid.0).alive

living_told : (n : ℕ) (procs : List ProcRow) (t : ThreadRow) → IsTrue (is_thread_living n procs t) ↔ IsLivingIn n procs (thread_at_id t.pid t.tid) (thread_of t)
unfolding IsLivingIn
living_told n procs t = (λ good. and_parts _ _ good, λ both. rw (both.0, both.1) refl)

pub thread_ids_told : (n : ℕ) (procs : List ProcRow) (rows : List ThreadRow) (told : Bool) → AscendInTwo thread_key rows → told ≡ list_all (is_thread_living n procs) rows
    → IsTrue told ↔ AreThreadIdsMatched n (processes_of procs) (threads_of rows)
unfolding IsLivingIn
thread_ids_told n procs rows told ascend is =
    let each = threads_told (is_thread_living n procs) (IsLivingIn n procs) (living_told n procs) rows ascend in (
      λ holds. record { known = λ id t e. (each.0 (sym is ∙ holds) id t e).0; living = λ id t e. (each.0 (sym is ∙ holds) id t e).1 },
      λ matched. is ∙ each.1 (λ id t e. (matched.known id t e, matched.living id t e)),
    )
