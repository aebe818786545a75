-- Threads by their ids, told from the rows.
use Rattle.std.proofs.Common.{◌≡◌, ℕ, ◌≤◌, Bool, true, false, not, cond, eqb, List, [], ◌∷◌, Option, Some, None, sym, ap, subst, ◌∙◌, inl, inr, ◌↔◌}
use Rattle.std.specs.Prelude.{◌&&◌, ◌||◌, IsTrue}
use Rattle.std.specs.List.{find, list_all}
use Rattle.std.specs.Option.{option_map}
use Rattle.std.proofs.lemmas.Bool.{cases_Bool}
use Rattle.machine_model.specs.State.Machine.{Thread, ThreadState, Ready, Receiving, Waiting, Joining, Idle}
use Rattle.xk_base.specs.declared.ids.ThreadId.{ThreadId}
use Rattle.snapshot_rows.specs.declared.state.ThreadRow.{ThreadRow}
use Rattle.snapshot_rows.specs.Order.{least_first, least_second, thread_key, AscendInTwo}
use Rattle.snapshot_rows.specs.Machines.{thread_at_id, thread_of, threads_of}
use Rattle.snapshot_rows.proofs.KeyLemmas.{some, some_same, mapped, found_passes, all_pass, Less, pair_is, pair_own, less_apart}
use Rattle.snapshot_rows.proofs.KeyLemmas.{less_through, less_behind}

abbrev pub ThreadForm : Option (ℕ × ℕ) → ThreadRow → Type 0
ThreadForm before t = (least_first 0 before ≤ (thread_key t).0) × (least_second 0 before (thread_key t).0 ≤ (thread_key t).1)

abbrev pub is_thread : ℕ × ℕ → ThreadRow → Bool
is_thread k t = eqb (thread_key t).0 k.0 && eqb (thread_key t).1 k.1

-- where the thread of each id passes a test, all threads do
pub threads_pass : (good : ThreadRow → Bool) (rows : List ThreadRow) → AscendInTwo thread_key rows
    → ((k : ℕ × ℕ) (t : ThreadRow) → find (is_thread k) rows ≡ Some t → good t ≡ true) → list_all good rows ≡ true
threads_pass good rows ascend each =
    all_pass thread_key is_thread Less ThreadForm (λ before t low. less_behind 0 0 before (thread_key t) low.0 low.1) (pair_is thread_key) (pair_own thread_key)
    less_apart less_through good None rows ascend each

-- a thread that was found has the id
pub found_key : (k : ℕ × ℕ) (rows : List ThreadRow) (t : ThreadRow) → find (is_thread k) rows ≡ Some t → thread_key t ≡ k
found_key k [] t e = absurd cc
found_key k (y ∷ rows) t e =
    elim (cases_Bool (is_thread k y)) [
      | inl does ↦ (
          let here : some y ≡ some t = sym (ap (λ (b : Bool). cond b (some y) (find (is_thread k) rows)) does) ∙ e in
          subst (λ (z : ThreadRow). thread_key z ≡ k) (some_same y t here) (pair_is thread_key k y does)
          )
      | inr doesnt ↦ found_key k rows t (sym (ap (λ (b : Bool). cond b (some y) (find (is_thread k) rows)) doesnt) ∙ e)
    ]

-- What a test of each row tells of each thread that there is.
pub threads_told : (good : ThreadRow → Bool) (P : ThreadId → Thread → Type 0) → ((t : ThreadRow) → IsTrue (good t) ↔ P (thread_at_id t.pid t.tid) (thread_of t))
    → (rows : List ThreadRow) → AscendInTwo thread_key rows
    → IsTrue (list_all good rows) ↔ ((id : ThreadId) (t : Thread) → threads_of rows id ≡ Some t → P id t)
threads_told good P tells rows ascend = (
  λ all id t e. (
      let k : ℕ × ℕ = (id.pid.0, id.tid.0) in
      let m = mapped thread_of (find (is_thread k) rows) t e in
      let key = found_key k rows m.0 m.1 in
      let row = (tells m.0).0 (found_passes (is_thread k) good rows m.0 all m.1) in
      subst (λ (u : Thread). P id u) m.2 (subst (λ (z : ℕ × ℕ). P (thread_at_id z.0 z.1) (thread_of m.0)) key row)
      ),
  λ each.
      threads_pass good rows ascend (λ (k : ℕ × ℕ) (t : ThreadRow) (e : find (is_thread k) rows ≡ Some t). (
      let own : find (is_thread (thread_key t)) rows ≡ Some t = subst (λ (z : ℕ × ℕ). find (is_thread z) rows ≡ Some t) (sym (found_key k rows t e)) e in
      (tells t).1 (each (thread_at_id t.pid t.tid) (thread_of t) (ap (option_map thread_of) own))
      )),
)

-- a state by its tests
abbrev pub state_by : Bool → Bool → Bool → Bool → ℕ → ThreadState
state_by ready receiving waiting joining waits =
    cond ready Ready (cond receiving (Receiving (record { 0 = waits })) (cond waiting (Waiting (record { 0 = waits })) (cond joining (Joining (record { 0 = waits })) Idle)))

pub second_holds : (a b : Bool) → a ≡ true → (not a || b) ≡ true → b ≡ true
second_holds true b is e = e
second_holds false b is e = absurd cc
