-- Living processes have their threads exactly where a test of the rows holds.
use Rattle.std.proofs.Common.{◌≡◌, ℕ, ◌+◌, ◌-◌, ◌≤◌, ◌<◌, Bool, true, false, not, cond, eqb, ltb, leb, List, length, get_or, Option, Some, None, refl, sym, ap, subst, ◌∙◌, arith, inl, inr, ◌⊎◌}
use Rattle.std.specs.Prelude.{◌&&◌, ◌||◌, is_some}
use Rattle.std.specs.List.{find, list_any}
use Rattle.std.specs.Option.{option_map}
use Rattle.std.proofs.lemmas.Bool.{eqb-true, eq-eqb, and_parts, leb-true, le-leb, le-ltb, lt-ltb, cases_Bool, cases_lt}
use Rattle.std.proofs.lemmas.List.{get_or_past}
use Rattle.xk_base.specs.declared.ids.Pid.{Pid}
use Rattle.machine_model.specs.State.Machine.{Thread, Ready, Idle}
use Rattle.machine_model.specs.Runs.Matched.{HasHandlerThread, HasThreadAbove}
use Rattle.snapshot_rows.specs.declared.state.ProcRow.{ProcRow}
use Rattle.snapshot_rows.specs.declared.state.ThreadRow.{ThreadRow}
use Rattle.snapshot_rows.specs.Order.{thread_key, AscendInTwo}
use Rattle.snapshot_rows.specs.Machines.{thread_state, thread_of, threads_of, no_process, process_of, processes_of}
use Rattle.snapshot_matching.specs.ThreadParts.{has_threads, is_served, AreLivingServed}
use Rattle.snapshot_rows.proofs.KeyLemmas.{either, mapped, any_found, any_own, any_where_found, any_of_found, Less, pair_is, pair_own}
use Rattle.snapshot_rows.proofs.KeyLemmas.{less_apart, less_through, less_behind}
use Rattle.snapshot_matching.proofs.ThreadRows.ThreadLemmas.{ThreadForm, is_thread, found_key, state_by, second_holds}
use Rattle.snapshot_matching.proofs.ThreadRows.EachThreadLemmas.{idle_high, high_idle}

-- ---- tid 1

abbrev is_handling : ThreadRow → Bool
is_handling t = eqb t.state 0 || not (ltb t.state 4)

ready_by : (a b c d : Bool) (waits : ℕ) → state_by a b c d waits ≡ Ready → a ≡ true
ready_by true b c d waits e = refl
ready_by false true c d waits e = absurd cc
ready_by false false true d waits e = absurd cc
ready_by false false false true waits e = absurd cc
ready_by false false false false waits e = absurd cc

not_true : (b : Bool) → not b ≡ true → b ≡ false
not_true true e = absurd cc
not_true false e = refl

handling : (t : ThreadRow) → is_handling t ≡ true → ((thread_of t).state ≡ Ready) ⊎ ((thread_of t).state ≡ Idle)
handling t e =
    elim (cases_Bool (eqb t.state 0)) [
      | inl ready ↦ inl (ap (λ (n : ℕ). thread_state n t.waits) (eqb-true t.state 0 ready))
      | inr other ↦ inr (high_idle t.state t.waits (not_true _ (either (eqb t.state 0) _ other e)))
    ]

handles : (t : ThreadRow) → ((thread_of t).state ≡ Ready) ⊎ ((thread_of t).state ≡ Idle) → is_handling t ≡ true
handles t (inl ready) = rw (ready_by (eqb t.state 0) (eqb t.state 1) (eqb t.state 2) (eqb t.state 3) t.waits ready) refl
handles t (inr idle) =
    let high = idle_high t.state t.waits idle in
    elim (cases_Bool (eqb t.state 0)) [
      | inl ready ↦ rw ready refl
      | inr other ↦ rw (other, high) refl
    ]

handler_there : (rows : List ThreadRow) (pid : Pid) → AscendInTwo thread_key rows
    → list_any (λ t. (eqb t.pid pid.0 && eqb t.tid 1) && is_handling t) rows ≡ true → HasHandlerThread (threads_of rows) pid
handler_there rows pid ascend e =
    let k : ℕ × ℕ = (pid.0, 1) in
    let t = any_found thread_key is_thread Less ThreadForm (λ before t low. less_behind 0 0 before (thread_key t) low.0 low.1) (pair_is thread_key) (pair_own thread_key)
    less_apart less_through is_handling k None rows ascend e in
    (thread_of t.0, ap (option_map thread_of) t.1, handling t.0 t.2)

there_handler : (rows : List ThreadRow) (pid : Pid) → HasHandlerThread (threads_of rows) pid → list_any (λ t. (eqb t.pid pid.0 && eqb t.tid 1) && is_handling t) rows ≡ true
there_handler rows pid has =
    let k : ℕ × ℕ = (pid.0, 1) in
    let row = mapped thread_of (find (is_thread k) rows) has.0 has.1 in
    let state = handles row.0 (subst (λ (u : Thread). (u.state ≡ Ready) ⊎ (u.state ≡ Idle)) (sym row.2) has.2) in
    any_where_found (is_thread k) is_handling rows row.0 row.1 state

-- ---- a thread above

abbrev is_above : ℕ → ThreadRow → Bool
is_above pid t = eqb t.pid pid && leb 2 t.tid

above_there : (rows : List ThreadRow) (pid : Pid) → AscendInTwo thread_key rows → list_any (is_above pid.0) rows ≡ true → HasThreadAbove (threads_of rows) pid
above_there rows pid ascend e =
    let t = any_own thread_key is_thread Less ThreadForm (λ before t low. less_behind 0 0 before (thread_key t) low.0 low.1) (pair_is thread_key) (pair_own thread_key)
    less_apart less_through (is_above pid.0) None rows ascend e in
    let both = and_parts (eqb t.0.pid pid.0) (leb 2 t.0.tid) t.2 in
    let found = subst (λ (n : ℕ). find (is_thread (n, t.0.tid)) rows ≡ Some t.0) (eqb-true t.0.pid pid.0 both.0) t.1 in
    (t.0.tid, leb-true 2 t.0.tid both.1, ap (λ (o : Option ThreadRow). is_some (option_map thread_of o)) found)

some_found : (o : Option ThreadRow) → is_some (option_map thread_of o) ≡ true → (t : ThreadRow) × (o ≡ Some t)
some_found None e = absurd cc
some_found (Some t) e = (t, refl)

there_above : (rows : List ThreadRow) (pid : Pid) → HasThreadAbove (threads_of rows) pid → list_any (is_above pid.0) rows ≡ true
there_above rows pid has =
    let k : ℕ × ℕ = (pid.0, has.0) in
    let row = some_found (find (is_thread k) rows) has.2 in
    let key = found_key k rows row.0 row.1 in
    let own : row.0.pid ≡ pid.0 = ap (λ (p : ℕ × ℕ). p.0) key in
    let high : 2 ≤ row.0.tid = subst (λ (n : ℕ). 2 ≤ n) (sym (ap (λ (p : ℕ × ℕ). p.1) key)) has.1 in
    let good : is_above pid.0 row.0 ≡ true = rw (eq-eqb row.0.pid pid.0 own, le-leb 2 row.0.tid high) refl in
    any_of_found (is_thread k) (is_above pid.0) rows row.0 row.1 good

-- ---- living processes

dead_row : (b : Bool) → true ≡ b → b ≡ false → ⊥
dead_row true e f = absurd cc
dead_row false e f = absurd cc

-- what is alive has a row
pub alive_within : (procs : List ProcRow) (pid : ℕ) → (processes_of procs pid).alive ≡ true → (2 ≤ pid) × (pid - 2 < length procs)
alive_within procs pid alive =
    elim (cases_lt pid 2) [
      | inl low ↦ absurd (dead_row _ (sym alive) (ap (λ (b : Bool). (process_of (cond b no_process (get_or procs (pid - 2) no_process))).alive) (lt-ltb pid 2 low)))
      | inr high ↦ (
          elim (cases_lt (pid - 2) (length procs)) [
            | inl within ↦ (high, within)
            | inr past ↦ absurd (dead_row _ (sym alive) (ap (λ (b : Bool). (process_of (cond b no_process (get_or procs (pid - 2) no_process))).alive) (le-ltb pid 2 high)
                ∙ ap (λ (p : ProcRow). (process_of p).alive) (get_or_past procs (pid - 2) no_process past)))
          ]
          )
    ]

pub served_right : (procs : List ProcRow) (rows : List ThreadRow) → AscendInTwo thread_key rows
    → ((i : ℕ) → i < length procs → is_served procs rows (i + 2) ≡ true) → AreLivingServed (processes_of procs) (threads_of rows)
served_right procs rows ascend each =
    let both = λ (pid : Pid) (alive : (processes_of procs pid.0).alive ≡ true). (
    let within = alive_within procs pid.0 alive in
    let high = within.0 in
    let place : pid.0 - 2 + 2 ≡ pid.0 = omega arith in
    let served = subst (λ (n : ℕ). is_served procs rows n ≡ true) place (each (pid.0 - 2) within.1) in
    and_parts _ _ (second_holds (processes_of procs pid.0).alive (has_threads rows pid.0) alive served)
    ) in
    record {
      handler = λ pid alive. handler_there rows pid ascend (both pid alive).0;
      above = λ pid alive. above_there rows pid ascend (both pid alive).1;
    }

pub served_all : (procs : List ProcRow) (rows : List ThreadRow) → AreLivingServed (processes_of procs) (threads_of rows) → (n : ℕ) → is_served procs rows n ≡ true
served_all procs rows served n =
    let pid : Pid = record { 0 = n } in
    elim (cases_Bool (processes_of procs n).alive) [
      | inl alive ↦ rw (alive, there_handler rows pid (served.handler pid alive), there_above rows pid (served.above pid alive)) refl
      | inr dead ↦ rw dead refl
    ]
