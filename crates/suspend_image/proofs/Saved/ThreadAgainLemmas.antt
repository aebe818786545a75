-- The threads and the processes of a state, as rows: they have the form, and say what there is.
use Rattle.std.proofs.Common.{◌≡◌, ℕ, ◌+◌, ◌≤◌, true, eqb, leb, List, [], ◌∷◌, map, drop, Option, Some, None, refl, sym, ap, ◌∙◌, arith, length-drop}
use Rattle.std.specs.Prelude.{◌&&◌, is_some}
use Rattle.std.specs.List.{AllByRecursion}
use Rattle.std.proofs.lemmas.Bool.{and_parts, eqb-true, eq-eqb, leb-true}
use Rattle.xk_base.specs.declared.ids.ThreadId.{ThreadId}
use Rattle.xk_base.specs.declared.ids.Tid.{Tid}
use Rattle.xk_base.specs.Tables.Circle.{is_pid, is_thread_id, listed_ids, same_thread}
use Rattle.xk_base.proofs.CircleLemmas.{is_pid-bounds, listed_ids-contains, same_ids}
use Rattle.machine_model.specs.State.Machine.{Machine, Thread, ThreadState, Ready, Receiving, Waiting, Joining, Idle}
use Rattle.machine_model.specs.Runs.Matched.{Matched}
use Rattle.snapshot_rows.specs.declared.state.ThreadRow.{ThreadRow}
use Rattle.snapshot_rows.specs.Order.{thread_key, AreInOrder}
use Rattle.suspend_image.specs.Reading.{greatest}
use Rattle.suspend_image.specs.Forms.{IsWord, IsWithin, IsThreadRow, waits_bounds}
use Rattle.snapshot_rows.specs.Machines.{thread_of, thread_state, threads_of}
use Rattle.suspend_image.specs.SavedRows.{thread_row, state_number, state_waits}
use Rattle.suspend_image.specs.StateBytes.{thread_entries}
use Rattle.suspend_image.specs.Saveable.{IsSaveable}
use Rattle.snapshot_rows.proofs.KeyLemmas.{Less}
use Rattle.suspend_image.proofs.Saved.EntryLemmas.{At, entries_hold, has_of, lookup_told, found_told, tells_each}
use Rattle.suspend_image.proofs.Saved.RiseLemmas.{Follows, first_low, second_low, in_order, entries_rise, ids_rise, id_key, all_follow_none}
use Rattle.suspend_image.proofs.Saved.RoomLemmas.{by_recursion, all_by}

pub word : (n : ℕ) → n ≤ greatest → IsWord n
word n few = record { at_least = omega arith; at_most = few }

-- ---- ids

pub record IsId (n : ℕ) (id : ThreadId) : Type 0 where
  pub pid_least : 2 ≤ id.pid.0
  pub pid_most : id.pid.0 ≤ n + 1
  pub tid_least : 1 ≤ id.tid.0
  pub tid_most : id.tid.0 ≤ 31

pub id_bounds : (n : ℕ) (id : ThreadId) → is_thread_id n id ≡ true → IsId n id
id_bounds n id is =
    let both = and_parts (is_pid n id.pid.0) _ is in
    let pid = is_pid-bounds n id.pid.0 both.0 in
    let tid = and_parts (leb 1 id.tid.0) (leb id.tid.0 31) both.1 in
    let least = pid.0 in
    let most = pid.1 in
    record { pid_least = least; pid_most = omega (arith, most); tid_least = leb-true _ _ tid.0; tid_most = leb-true _ _ tid.1 }

pub id_is : (a b : ThreadId) → same_thread a b ≡ true → a ≡ b
id_is a b same =
    let both = and_parts (eqb a.pid.0 b.pid.0) (eqb a.tid.0 b.tid.0) same in
    same_ids a b (eqb-true a.pid.0 b.pid.0 both.0) (eqb-true a.tid.0 b.tid.0 both.1)

pub id_own : (a : ThreadId) → same_thread a a ≡ true
id_own a = rw (eq-eqb a.pid.0 a.pid.0 refl, eq-eqb a.tid.0 a.tid.0 refl) refl

-- ---- the form of a thread

waits_form : (s : ThreadState) → state_waits s ≤ greatest → ((tid : Tid) → s ≡ Joining tid → (1 ≤ tid.0) × (tid.0 ≤ 31))
    → IsWithin (waits_bounds (state_number s)).0 (waits_bounds (state_number s)).1 (state_waits s)
waits_form Ready few joins = record { at_least = omega arith; at_most = omega arith }
waits_form (Receiving serial) few joins = record { at_least = omega arith; at_most = few }
waits_form (Waiting number) few joins = record { at_least = omega arith; at_most = few }
waits_form (Joining tid) few joins = (let bounds = joins tid refl in record { at_least = bounds.0; at_most = bounds.1 })
waits_form Idle few joins = record { at_least = omega arith; at_most = omega arith }

state_form : (s : ThreadState) → IsWithin 0 4 (state_number s)
state_form Ready = record { at_least = omega arith; at_most = omega arith }
state_form (Receiving serial) = record { at_least = omega arith; at_most = omega arith }
state_form (Waiting number) = record { at_least = omega arith; at_most = omega arith }
state_form (Joining tid) = record { at_least = omega arith; at_most = omega arith }
state_form Idle = record { at_least = omega arith; at_most = omega arith }

registers_form : (regs : List ℕ) → AllByRecursion (λ r. r ≤ greatest) regs → AllByRecursion IsWord (drop 1 regs)
registers_form [] all = tt
registers_form (r ∷ regs) all = all_by (λ x. x ≤ greatest) IsWord word regs all.1

module _ (m : Machine) (matched : Matched m) (saveable : IsSaveable m) where
  joins_tid : (id : ThreadId) (t : Thread) (tid : Tid) → m.threads id ≡ Some t → t.state ≡ Joining tid → (1 ≤ tid.0) × (tid.0 ≤ 31)
  joins_tid id t tid at is =
      let awaited = matched.body.joiners id t tid at is in
      let other : ThreadId = record { pid = id.pid; tid = tid } in
      let bounds = go other (m.threads other) refl awaited.live in
      (bounds.tid_least, bounds.tid_most)
    where
      go : (other : ThreadId) (o : Option Thread) → m.threads other ≡ o → is_some o ≡ true → IsId m.processes other
      go other None e live = absurd cc
      go other (Some u) e live = id_bounds m.processes other (matched.body.ids.known other u e)

  thread_form : (before : Option (ℕ × ℕ)) (e : ThreadId × Thread) → At m.threads e → Follows Less before (id_key e.0)
      → IsThreadRow m.processes before (thread_row e.0 e.1)
  thread_form before e at follows =
      let id = id_bounds m.processes e.0 (matched.body.ids.known e.0 e.1 at) in
      let keeps = saveable.threads e.0 e.1 at in
      let count = saveable.sizes.registers e.0 e.1 at in
      let pid_least = id.pid_least in
      let tid_least = id.tid_least in
      record {
        pid = record { at_least = first_low 2 before (id_key e.0) pid_least follows; at_most = id.pid_most };
        tid = record { at_least = second_low 1 before (id_key e.0) tid_least follows; at_most = id.tid_most };
        pc = word e.1.pc keeps.pc;
        state = state_form e.1.state;
        waits = waits_form e.1.state keeps.waits (λ tid is. joins_tid e.0 e.1 tid at is);
        registers = (let less = length-drop 1 e.1.regs in omega (arith, less, count));
        regs = registers_form e.1.regs (by_recursion (λ r. r ≤ greatest) e.1.regs keeps.regs);
      }

  pub threads_form : AreInOrder (IsThreadRow m.processes) thread_key None (map (λ e. thread_row e.0 e.1) (thread_entries m))
  threads_form =
      let ids = listed_ids m.processes (λ id. is_some (m.threads id)) in
      in_order Less (IsThreadRow m.processes) thread_key (λ e. thread_row e.0 e.1) (At m.threads) thread_form None (thread_entries m)
      (entries_hold m.threads ids)
      (entries_rise m.threads (λ a b. Less (id_key a) (id_key b)) ids (ids_rise m.processes (λ id. is_some (m.threads id))))
      (all_follow_none Less (λ e. id_key e.0) (thread_entries m))

  -- ---- what it says

  state_again : (s : ThreadState) → thread_state (state_number s) (state_waits s) ≡ s
  state_again Ready = refl
  state_again (Receiving serial) = refl
  state_again (Waiting number) = refl
  state_again (Joining tid) = refl
  state_again Idle = refl

  registers_again : (regs others : List ℕ) → regs ≡ 0 ∷ others → 0 ∷ drop 1 regs ≡ regs
  registers_again regs others is = ap (λ (xs : List ℕ). 0 ∷ drop 1 xs) is ∙ sym is

  thread_again : (e : ThreadId × Thread) → At m.threads e → thread_of (thread_row e.0 e.1) ≡ e.1
  thread_again e at =
      let zero = (saveable.threads e.0 e.1 at).zero in
      ap (λ (regs : List ℕ). record { pc = e.1.pc; regs = regs; state = thread_state (state_number e.1.state) (state_waits e.1.state) })
      (registers_again e.1.regs zero.0 zero.1)
      ∙ ap (λ (s : ThreadState). record { pc = e.1.pc; regs = e.1.regs; state = s }) (state_again e.1.state)

  pub threads_again : (id : ThreadId) → threads_of (map (λ e. thread_row e.0 e.1) (thread_entries m)) id ≡ m.threads id
  threads_again id =
      let ids = listed_ids m.processes (λ k. is_some (m.threads k)) in
      let test = λ (k : ThreadId) (r : ThreadRow). eqb r.pid k.pid.0 && eqb r.tid k.tid.0 in
      found_told m.threads same_thread id_is id_own thread_of test (map (λ e. thread_row e.0 e.1) (thread_entries m)) (thread_entries m)
      (tells_each m.threads same_thread id_is id_own thread_of test (λ e. thread_row e.0 e.1) (λ k e. refl) (thread_entries m)
      (all_by (At m.threads) (λ e. thread_of (thread_row e.0 e.1) ≡ e.1) thread_again (thread_entries m) (entries_hold m.threads ids))) id
      ∙ lookup_told m.threads same_thread id_is id_own ids (λ k t at. has_of k ids
      (listed_ids-contains m.processes (λ j. is_some (m.threads j)) k (matched.body.ids.known k t at) (ap is_some at))) id
