-- Who gets a message at once is, of the threads that wait at the server, the one of the least tid.
use Rattle.std.proofs.Common.{◌≡◌, ℕ, ◌+◌, ◌*◌, ◌<◌, ◌≤◌, ◌⊎◌, inl, inr, Bool, true, false, Option, Some, None, refl, sym, ap, ◌∙◌, arith, subst}
use Rattle.std.specs.Prelude.{◌-◌, ◌/◌, ◌%◌, nat_le}
use Rattle.std.specs.Option.{option_map, option_map_or}
use Rattle.std.proofs.lemmas.Bool.{and_parts, cases_lt, eq-eqb, false≢true, leb-true}
use Rattle.std.proofs.lemmas.Nat.{div-add-mod', div-mul-add, le-div, mod-mul-add}
use Rattle.std.proofs.lemmas.Option.{none-some, same_Some}
use Rattle.xk_base.specs.declared.ids.Serial.{Serial}
use Rattle.xk_base.specs.declared.ids.ThreadId.{ThreadId}
use Rattle.xk_base.specs.Tables.Circle.{id_by_tid, is_pid, is_thread_id, is_tid, thread_ids}
use Rattle.xk_base.specs.Tables.Counting.{least_below}
use Rattle.xk_base.proofs.CircleLemmas.{is_pid-bounds, same_ids}
use Rattle.xk_base.proofs.CountingLemmas.{least_below-first}
use Rattle.machine_model.specs.Messaging.Receivers.{is_receiving, receiver, receiving_at}
use Rattle.machine_model.specs.Runs.Matched.{Matched}
use Rattle.machine_model.specs.State.Machine.{Machine, Thread}
use Rattle.machine_laws.proofs.Sending.SentReceiverLemmas.{receiver_receives}
use Rattle.transcript_laws.specs.Serving.{IsFirstWaiting}

-- the place of an id in the order of tids
abbrev tid_place : ℕ → ThreadId → ℕ
tid_place n id = (id.tid.0 - 1) * n + (id.pid.0 - 2)

module _ (n : ℕ) (id : ThreadId) (known : is_thread_id n id ≡ true) where
  pids : (2 ≤ id.pid.0) × (id.pid.0 < n + 2)
  pids = is_pid-bounds n id.pid.0 (and_parts (is_pid n id.pid.0) (is_tid id.tid.0) known).0

  tids : (1 ≤ id.tid.0) × (id.tid.0 ≤ 31)
  tids =
      let parts = and_parts (nat_le 1 id.tid.0) (nat_le id.tid.0 31) (and_parts (is_pid n id.pid.0) (is_tid id.tid.0) known).1 in
      (leb-true 1 id.tid.0 parts.0, leb-true id.tid.0 31 parts.1)

  below : id.pid.0 - 2 < n
  below =
      let low : 2 ≤ id.pid.0 = pids.0 in
      let high : id.pid.0 < n + 2 = pids.1 in
      omega arith

  some : 0 < n
  some = let low : id.pid.0 - 2 < n = below in omega arith

  row : tid_place n id / n ≡ id.tid.0 - 1
  row = div-mul-add (id.tid.0 - 1) n (id.pid.0 - 2) below

  at_tid_place : id_by_tid n (tid_place n id) ≡ id
  at_tid_place =
      let low : 2 ≤ id.pid.0 = pids.0 in
      let first : 1 ≤ id.tid.0 = tids.0 in
      let rest : ((id.tid.0 - 1) * n + (id.pid.0 - 2)) % n ≡ id.pid.0 - 2 = mod-mul-add (id.tid.0 - 1) n (id.pid.0 - 2) below in
      let pid : id.pid.0 - 2 + 2 ≡ id.pid.0 = omega (arith, low) in
      let tid : id.tid.0 - 1 + 1 ≡ id.tid.0 = omega (arith, first) in
      same_ids (id_by_tid n (tid_place n id)) id (ap (λ k. k + 2) rest ∙ pid) (ap (λ k. k + 1) row ∙ tid)

  -- what stands at or before it has no greater tid
  no_greater : (k : ℕ) → k ≤ tid_place n id → k / n + 1 ≤ id.tid.0
  no_greater k le =
      let whole : k / n * n + k % n ≡ k = div-add-mod' k n in
      let rows : k / n ≤ tid_place n id / n = le-div (k / n) (tid_place n id) n some (omega (arith, whole, le)) in
      let first : 1 ≤ id.tid.0 = tids.0 in
      let its : tid_place n id / n ≡ id.tid.0 - 1 = row in
      omega (arith, rows, first, its)

module _ (m : Machine) (h : Matched m) (serial : Serial) where
  abbrev passes : ℕ → Bool
  passes k = receiving_at m serial (id_by_tid m.processes k)

  -- the thread of an id that waits there is known
  known_thread : (id : ThreadId) → receiving_at m serial id ≡ true → is_thread_id m.processes id ≡ true
  known_thread id waits = go (m.threads id) refl waits
    where
      go : (o : Option Thread) → m.threads id ≡ o → option_map_or (λ t. is_receiving serial t.state) o false ≡ true → is_thread_id m.processes id ≡ true
      go None e q = absurd (false≢true q)
      go (Some t) e q = h.body.ids.known id t e

  -- no other has a lesser tid
  least_tid : (who : ThreadId) → receiver m serial ≡ Some who → (other : ThreadId) → receiving_at m serial other ≡ true → who.tid.0 ≤ other.tid.0
  unfolding receiver
  least_tid who e other waits = go (least_below (thread_ids m.processes) passes) refl e
    where
      known : is_thread_id m.processes other ≡ true
      known = known_thread other waits

      there : passes (tid_place m.processes other) ≡ true
      there = ap (receiving_at m serial) (at_tid_place m.processes other known) ∙ waits

      go : (o : Option ℕ) → least_below (thread_ids m.processes) passes ≡ o → option_map (id_by_tid m.processes) o ≡ Some who → who.tid.0 ≤ other.tid.0
      go None q r = absurd (none-some who r)
      go (Some k) q r =
          subst (λ (id : ThreadId). id.tid.0 ≤ other.tid.0) (same_Some (id_by_tid m.processes k) who r)
          (no_greater m.processes other known k (at_most (cases_lt (tid_place m.processes other) k)))
        where
          at_most : (tid_place m.processes other < k) ⊎ (k ≤ tid_place m.processes other) → k ≤ tid_place m.processes other
          at_most (inl less) =
              absurd (false≢true (sym (least_below-first (thread_ids m.processes) passes k q (tid_place m.processes other) less) ∙ there))
          at_most (inr le) = le

  pub first_waiting : (who : ThreadId) → receiver m serial ≡ Some who → IsFirstWaiting serial.0 who m
  first_waiting who e = (
    ap (λ o. option_map_or (λ (t : Thread). is_receiving serial t.state) o false) thread.1 ∙ thread.2,
    least_tid who e,
  )
    where
      thread : (u : Thread) × (m.threads who ≡ Some u) × (is_receiving serial u.state ≡ true)
      thread = let is = receiver_receives m serial who e in (is.0, is.1, ap (is_receiving serial) is.2 ∙ eq-eqb serial.0 serial.0 refl)
