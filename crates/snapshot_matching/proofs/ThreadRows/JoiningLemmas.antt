-- Threads that are Joining are matched exactly where a test of the rows holds.
use Rattle.std.proofs.Common.{◌≡◌, ℕ, ◌≤◌, Bool, true, false, not, eqb, leb, List, Some, refl, sym, ap, subst, ◌∙◌, inl, inr, ◌↔◌}
use Rattle.std.specs.Prelude.{◌&&◌, IsTrue}
use Rattle.std.specs.List.{find, list_any, list_all}
use Rattle.std.specs.Option.{option_map}
use Rattle.std.proofs.lemmas.Bool.{eqb-true, eq-eqb, and_parts, leb-true, le-leb, cases_Bool}
use Rattle.machine_model.specs.State.Machine.{Thread, ThreadState, Joining}
use Rattle.xk_base.specs.declared.ids.Tid.{Tid}
use Rattle.machine_model.specs.Runs.Matched.{AreJoinersMatched}
use Rattle.snapshot_rows.specs.declared.state.ThreadRow.{ThreadRow}
use Rattle.snapshot_rows.specs.Order.{thread_key, AscendInTwo}
use Rattle.snapshot_rows.specs.Machines.{thread_at_id, thread_state, thread_of, threads_of}
use Rattle.snapshot_matching.specs.ThreadParts.{joins_another}
use Rattle.snapshot_rows.proofs.KeyLemmas.{mapped, found_any, found_passes}
use Rattle.snapshot_matching.proofs.ThreadRows.ThreadLemmas.{is_thread, threads_pass, found_key, state_by, second_holds}

abbrev joined_tid : ThreadState → ℕ
joined_tid (Joining tid) = tid.0
joined_tid state = 0

joins_by : (a b c d : Bool) (waits : ℕ) (tid : Tid) → state_by a b c d waits ≡ Joining tid → (d ≡ true) × (waits ≡ tid.0)
joins_by true b c d waits tid e = absurd cc
joins_by false true c d waits tid e = absurd cc
joins_by false false true d waits tid e = absurd cc
joins_by false false false true waits tid e = (refl, ap joined_tid e)
joins_by false false false false waits tid e = absurd cc

joins : (state waits : ℕ) (tid : Tid) → thread_state state waits ≡ Joining tid → (state ≡ 3) × (waits ≡ tid.0)
joins state waits tid e =
    let told = joins_by (eqb state 0) (eqb state 1) (eqb state 2) (eqb state 3) waits tid e in
    (eqb-true state 3 told.0, told.1)

is_false : (b : Bool) → not b ≡ true → b ≡ false
is_false true e = absurd cc
is_false false e = refl

joiners_right : (rows : List ThreadRow) → list_all (joins_another rows) rows ≡ true → AreJoinersMatched (threads_of rows)
joiners_right rows all id t tid e joining =
    let k : ℕ × ℕ = (id.pid.0, id.tid.0) in
    let m = mapped thread_of (find (is_thread k) rows) t e in
    let row = m.0 in
    let key = found_key k rows row m.1 in
    let pid : row.pid ≡ id.pid.0 = ap (λ (p : ℕ × ℕ). p.0) key in
    let own : row.tid ≡ id.tid.0 = ap (λ (p : ℕ × ℕ). p.1) key in
    let state = joins row.state row.waits tid (ap (λ (u : Thread). u.state) m.2 ∙ joining) in
    let good = second_holds (eqb row.state 3) _ (eq-eqb row.state 3 state.0) (found_passes (is_thread k) (joins_another rows) rows row all m.1) in
    let first = and_parts (not (eqb row.waits row.tid)) _ good in
    let second = and_parts (leb 2 row.waits) _ first.1 in
    let there : list_any (λ (u : ThreadRow). eqb u.pid id.pid.0 && eqb u.tid tid.0) rows ≡ true =
    subst (λ (n : ℕ). list_any (λ (u : ThreadRow). eqb u.pid n && eqb u.tid tid.0) rows ≡ true) pid
    (subst (λ (n : ℕ). list_any (λ (u : ThreadRow). eqb u.pid row.pid && eqb u.tid n) rows ≡ true) state.1 second.1) in
    record {
      live = found_any thread_of (λ (u : ThreadRow). eqb u.pid id.pid.0 && eqb u.tid tid.0) rows ∙ there;
      other = subst (λ (n : ℕ). eqb n id.tid.0 ≡ false) state.1 (subst (λ (n : ℕ). eqb row.waits n ≡ false) own (is_false _ first.0));
      above = subst (λ (n : ℕ). 2 ≤ n) state.1 (leb-true 2 row.waits second.0);
    }

joiners_all : (rows : List ThreadRow) → AscendInTwo thread_key rows → AreJoinersMatched (threads_of rows) → list_all (joins_another rows) rows ≡ true
joiners_all rows ascend matched =
    threads_pass (joins_another rows) rows ascend (λ (k : ℕ × ℕ) (t : ThreadRow) (e : find (is_thread k) rows ≡ Some t). (
    elim (cases_Bool (eqb t.state 3)) [
      | inl does ↦ (
          let key = found_key k rows t e in
          let own : find (is_thread (thread_key t)) rows ≡ Some t = subst (λ (z : ℕ × ℕ). find (is_thread z) rows ≡ Some t) (sym key) e in
          let tid : Tid = record { 0 = t.waits } in
          let joining : thread_state t.state t.waits ≡ Joining tid = ap (λ (n : ℕ). thread_state n t.waits) (eqb-true t.state 3 does) in
          let awaited = matched (thread_at_id t.pid t.tid) (thread_of t) tid (ap (option_map thread_of) own) joining in
          let there : list_any (λ (u : ThreadRow). eqb u.pid t.pid && eqb u.tid t.waits) rows ≡ true =
          sym (found_any thread_of (λ (u : ThreadRow). eqb u.pid t.pid && eqb u.tid t.waits) rows) ∙ awaited.live in
          rw (does, awaited.other, le-leb 2 t.waits awaited.above, there) refl
          )
      | inr doesnt ↦ rw doesnt refl
    ]
    ))

pub joiners_told : (rows : List ThreadRow) (told : Bool) → AscendInTwo thread_key rows → told ≡ list_all (joins_another rows) rows → IsTrue told ↔ AreJoinersMatched (threads_of rows)
joiners_told rows told ascend is = (λ holds. joiners_right rows (sym is ∙ holds), λ matched. is ∙ joiners_all rows ascend matched)
