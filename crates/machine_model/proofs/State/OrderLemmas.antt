-- The search for the next ready thread over a list that tells which threads are Ready.
use Rattle.std.proofs.Common.{◌≡◌, ℕ, ◌+◌, ◌-◌, ◌*◌, ◌%◌, ◌<◌, ◌≤◌, Bool, true, false, List, length, slice_index_or, Some, None, refl, sym, ap, ◌∙◌, subst, arith}
use Rattle.std.specs.Prelude.{IsTrue}
use Rattle.std.proofs.lemmas.Bool.Decides.{nat_tests}
use Rattle.std.proofs.lemmas.Nat.{mod_below}
use Rattle.xk_base.specs.declared.ids.ThreadId.{ThreadId}
use Rattle.xk_base.specs.Tables.Circle.{is_thread_id, id_at, ids_until, id_behind}
use Rattle.xk_base.proofs.CircleLemmas.{next_id-Some, next_id-None}
use Rattle.machine_model.specs.State.Machine.{Machine}
use Rattle.machine_model.specs.State.Order.{ready_at, next_ready, TellsReady}

-- the place that the code looks at in its k-th turn
abbrev pub looked_at : List Bool → ThreadId → ℕ → ℕ
looked_at ready c k = ((c.pid.0 - 2) * 31 + c.tid.0 + k) % length ready

-- it is that of the id that is k + 1 behind the cursor
pub looked_is_behind : (ready : List Bool) (m : Machine) (c : ThreadId) (k : ℕ) → TellsReady ready m → IsTrue (is_thread_id m.processes c)
    → id_at (looked_at ready c k) ≡ id_behind m.processes c k
looked_is_behind ready m c k tells h =
    let few : c.tid.0 ≤ 31 = grind (arith, nat_tests) in
    let same : (c.pid.0 - 2) * 31 + c.tid.0 ≡ ids_until c = omega arith in
    rw (tells.size, same) refl

-- what the list says there is what the machine has
pub looked_tells : (ready : List Bool) (m : Machine) (c : ThreadId) (k : ℕ) → TellsReady ready m → IsTrue (is_thread_id m.processes c)
    → k < length ready → slice_index_or ready (looked_at ready c k) false ≡ ready_at m (id_behind m.processes c k)
looked_tells ready m c k tells h l =
    tells.each (looked_at ready c k) (mod_below ((c.pid.0 - 2) * 31 + c.tid.0 + k) (length ready) (omega arith))
    ∙ ap (ready_at m) (looked_is_behind ready m c k tells h)

-- the first that is found is the next ready thread
pub found_is_next : (ready : List Bool) (m : Machine) (c : ThreadId) (k : ℕ) → TellsReady ready m → IsTrue (is_thread_id m.processes c)
    → k < length ready → slice_index_or ready (looked_at ready c k) false ≡ true
    → ((j : ℕ) → j < k → ready_at m (id_behind m.processes c j) ≡ false)
    → Some (id_at (looked_at ready c k)) ≡ next_ready m c
unfolding next_ready
found_is_next ready m c k tells h l found none =
    ap Some (looked_is_behind ready m c k tells h)
    ∙ sym (next_id-Some m.processes (ready_at m) c k (subst (λ n. k < n) tells.size l) (sym (looked_tells ready m c k tells h l) ∙ found) none)

-- and where none is found there is none
pub none_is_next : (ready : List Bool) (m : Machine) (c : ThreadId) → TellsReady ready m
    → ((j : ℕ) → j < length ready → ready_at m (id_behind m.processes c j) ≡ false)
    → None ≡ next_ready m c
unfolding next_ready
none_is_next ready m c tells none =
    sym (next_id-None m.processes (ready_at m) c (λ k l. none k (subst (λ n. k < n) (sym tells.size) l)))
