-- The thread that gets a message at once: where the search finds one it is Receiving at the server, and where it finds none no thread of
-- the processes is.
use Rattle.std.proofs.Common.{◌≡◌, ℕ, ◌+◌, ◌*◌, ◌<◌, ◌≤◌, Bool, true, false, Option, Some, None, refl, sym, ap, ◌∙◌, arith}
use Rattle.std.specs.Prelude.{◌-◌, ◌/◌, ◌%◌, nat_le}
use Rattle.std.specs.Option.{option_map, option_map_or}
use Rattle.std.proofs.Math.Nat.{mul-le-mul_right}
use Rattle.std.proofs.lemmas.Bool.{and_parts, eq-eqb, eqb-true, false≢true, leb-true}
use Rattle.std.proofs.lemmas.Nat.{div-mul-add, mod-mul-add}
use Rattle.std.proofs.lemmas.Option.{none-some, same_Some}
use Rattle.xk_base.specs.declared.ids.Serial.{Serial}
use Rattle.xk_base.specs.declared.ids.ThreadId.{ThreadId}
use Rattle.xk_base.specs.Tables.Circle.{id_by_tid, is_pid, is_thread_id, is_tid, thread_ids}
use Rattle.xk_base.specs.Tables.Counting.{least_below}
use Rattle.xk_base.proofs.CircleLemmas.{is_pid-bounds, same_ids}
use Rattle.xk_base.proofs.CountingLemmas.{least_below-none, least_below-passes}
use Rattle.machine_model.specs.Messaging.Receivers.{is_receiving, receiver, receiving_at}
use Rattle.machine_model.specs.State.Machine.{Machine, Thread, ThreadState, Ready, Receiving, Waiting, Joining, Idle}

-- the place of an id in the order of tids
abbrev tid_place : ℕ → ThreadId → ℕ
tid_place n id = (id.tid.0 - 1) * n + (id.pid.0 - 2)

module _ (n : ℕ) (id : ThreadId) (known : is_thread_id n id ≡ true) where
  bounds : (2 ≤ id.pid.0) × (id.pid.0 < n + 2)
  bounds = is_pid-bounds n id.pid.0 (and_parts (is_pid n id.pid.0) (is_tid id.tid.0) known).0

  tids : (1 ≤ id.tid.0) × (id.tid.0 ≤ 31)
  tids =
      let parts = and_parts (nat_le 1 id.tid.0) (nat_le id.tid.0 31) (and_parts (is_pid n id.pid.0) (is_tid id.tid.0) known).1 in
      (leb-true 1 id.tid.0 parts.0, leb-true id.tid.0 31 parts.1)

  below : id.pid.0 - 2 < n
  below =
      let low : 2 ≤ id.pid.0 = bounds.0 in
      let high : id.pid.0 < n + 2 = bounds.1 in
      omega arith

  tid_place_bound : tid_place n id < thread_ids n
  tid_place_bound =
      let high : id.tid.0 ≤ 31 = tids.1 in
      let thirty : id.tid.0 - 1 ≤ 30 = omega arith in
      let rows : (id.tid.0 - 1) * n ≤ 30 * n = mul-le-mul_right n thirty in
      let row : id.pid.0 - 2 < n = below in
      omega arith

  at_tid_place : id_by_tid n (tid_place n id) ≡ id
  at_tid_place =
      let low : 2 ≤ id.pid.0 = bounds.0 in
      let first : 1 ≤ id.tid.0 = tids.0 in
      let rest : ((id.tid.0 - 1) * n + (id.pid.0 - 2)) % n ≡ id.pid.0 - 2 = mod-mul-add (id.tid.0 - 1) n (id.pid.0 - 2) below in
      let row : ((id.tid.0 - 1) * n + (id.pid.0 - 2)) / n ≡ id.tid.0 - 1 = div-mul-add (id.tid.0 - 1) n (id.pid.0 - 2) below in
      let pid : id.pid.0 - 2 + 2 ≡ id.pid.0 = omega (arith, low) in
      let tid : id.tid.0 - 1 + 1 ≡ id.tid.0 = omega (arith, first) in
      same_ids (id_by_tid n (tid_place n id)) id (ap (λ k. k + 2) rest ∙ pid) (ap (λ k. k + 1) row ∙ tid)

-- a state of a thread that is Receiving there
receiving_state : (serial : Serial) (s : ThreadState) → is_receiving serial s ≡ true → s ≡ Receiving serial
receiving_state serial Ready e = absurd (false≢true e)
receiving_state serial (Receiving other) e = let same : other.0 ≡ serial.0 = eqb-true other.0 serial.0 e in λ i. Receiving (record { 0 = same i })
receiving_state serial (Waiting number) e = absurd (false≢true e)
receiving_state serial (Joining tid) e = absurd (false≢true e)
receiving_state serial Idle e = absurd (false≢true e)

receiving_thread : (serial : Serial) (o : Option Thread) → option_map_or (λ t. is_receiving serial t.state) o false ≡ true
    → (u : Thread) × (o ≡ Some u) × (u.state ≡ Receiving serial)
receiving_thread serial None e = absurd (false≢true e)
receiving_thread serial (Some u) e = (u, refl, receiving_state serial u.state e)

module _ (m : Machine) (serial : Serial) where
  abbrev passes : ℕ → Bool
  passes k = receiving_at m serial (id_by_tid m.processes k)

  -- who is found is Receiving
  pub receiver_receives : (who : ThreadId) → receiver m serial ≡ Some who → (u : Thread) × (m.threads who ≡ Some u) × (u.state ≡ Receiving serial)
  unfolding receiver
  receiver_receives who e = go (least_below (thread_ids m.processes) passes) refl e
    where
      go : (o : Option ℕ) → least_below (thread_ids m.processes) passes ≡ o → option_map (id_by_tid m.processes) o ≡ Some who
          → (u : Thread) × (m.threads who ≡ Some u) × (u.state ≡ Receiving serial)
      go None q r = absurd (none-some who r)
      go (Some k) q r =
          receiving_thread serial (m.threads who)
          (ap (receiving_at m serial) (sym (same_Some (id_by_tid m.processes k) who r))
          ∙ least_below-passes (thread_ids m.processes) passes k q)

  -- where none is found, none is
  pub none_receives : receiver m serial ≡ None → (id : ThreadId) → is_thread_id m.processes id ≡ true → (u : Thread) → m.threads id ≡ Some u
      → u.state ≡ Receiving serial → ⊥
  unfolding receiver
  none_receives e id known u there s = go (least_below (thread_ids m.processes) passes) refl e
    where
      self : is_receiving serial (Receiving serial) ≡ true
      self = eq-eqb serial.0 serial.0 refl

      found : receiving_at m serial id ≡ true
      found = ap (λ o. option_map_or (λ (t : Thread). is_receiving serial t.state) o false) there ∙ ap (is_receiving serial) s ∙ self

      go : (o : Option ℕ) → least_below (thread_ids m.processes) passes ≡ o → option_map (id_by_tid m.processes) o ≡ None → ⊥
      go (Some k) q r = none-some (id_by_tid m.processes k) (sym r)
      go None q r =
          false≢true (sym (least_below-none (thread_ids m.processes) passes q (tid_place m.processes id) (tid_place_bound m.processes id known))
          ∙ ap (receiving_at m serial) (at_tid_place m.processes id known) ∙ found)
