-- Threads that are Receiving are matched exactly where a test of the rows holds.
use Rattle.std.proofs.Common.{◌≡◌, ℕ, ◌≤◌, ◌<◌, Bool, true, false, eqb, List, [], ◌∷◌, length, map, Some, None, refl, sym, ap, subst, ◌∙◌, arith, inl, inr, ◌↔◌}
use Rattle.std.specs.Prelude.{◌&&◌, IsTrue}
use Rattle.std.specs.List.{find, list_any, list_all}
use Rattle.std.specs.Option.{option_map}
use Rattle.std.proofs.lemmas.Bool.{eqb-true, eq-eqb, and_parts, cases_Bool}
use Rattle.xk_base.specs.declared.ids.Pid.{Pid}
use Rattle.machine_model.specs.State.Machine.{Server, Thread, ThreadState, Receiving}
use Rattle.xk_base.specs.declared.ids.Serial.{Serial}
use Rattle.snapshot_rows.specs.declared.state.ServerRow.{ServerRow}
use Rattle.snapshot_rows.specs.declared.state.MessageRow.{MessageRow}
use Rattle.std.proofs.lemmas.List.{nil_from_length}
use Rattle.xk_base.specs.declared.ids.ThreadId.{ThreadId}
use Rattle.machine_model.specs.Runs.Matched.{IsServerAwaited, AreReceiversMatched}
use Rattle.snapshot_rows.specs.declared.state.ThreadRow.{ThreadRow}
use Rattle.snapshot_rows.specs.Order.{after, thread_key, server_key, Ascend, AscendInTwo}
use Rattle.snapshot_rows.specs.Machines.{message_of, server_of, servers_of, thread_at_id, thread_state, thread_of, threads_of}
use Rattle.snapshot_matching.specs.ThreadParts.{is_awaited, awaits_server}
use Rattle.snapshot_rows.proofs.KeyLemmas.{any_where_found, any_found, mapped, number_is, number_own}
use Rattle.snapshot_matching.proofs.ThreadRows.ThreadLemmas.{threads_told, state_by, second_holds}

abbrev pid_of : ℕ → Pid
pid_of n = record { 0 = n }

abbrev received_serial : ThreadState → ℕ
received_serial (Receiving serial) = serial.0
received_serial state = 0

receives_by : (a b c d : Bool) (waits : ℕ) (serial : Serial) → state_by a b c d waits ≡ Receiving serial → (b ≡ true) × (waits ≡ serial.0)
receives_by true b c d waits serial e = absurd cc
receives_by false true c d waits serial e = (refl, ap received_serial e)
receives_by false false true d waits serial e = absurd cc
receives_by false false false true waits serial e = absurd cc
receives_by false false false false waits serial e = absurd cc

receives : (state waits : ℕ) (serial : Serial) → thread_state state waits ≡ Receiving serial → (state ≡ 1) × (waits ≡ serial.0)
receives state waits serial e =
    let told = receives_by (eqb state 0) (eqb state 1) (eqb state 2) (eqb state 3) waits serial e in
    (eqb-true state 1 told.0, told.1)

-- of the process of that server, whose queue is empty
abbrev pub is_own : ThreadRow → ServerRow → Bool
is_own t s = eqb s.pid t.pid && eqb (length s.queued) 0

server_any : (t : ThreadRow) (servers : List ServerRow) → Ascend server_key servers → list_any (is_awaited t) servers ≡ true
    → (s : ServerRow) × (find (λ r. eqb r.serial t.waits) servers ≡ Some s) × (is_own t s ≡ true)
server_any t servers ascend e =
    any_found server_key (λ k r. eqb (server_key r) k) (λ a b. a < b) (λ before s. after before ≤ server_key s) (λ before s low. omega arith) (number_is server_key) (number_own server_key)
    (λ k low. omega arith) (λ a b c low next. omega arith) (is_own t) t.waits None servers ascend e

Awaits : List ServerRow → ThreadId → Thread → Type 0
Awaits servers id t = (serial : Serial) → t.state ≡ Receiving serial → IsServerAwaited (servers_of servers) id.pid serial

awaits_right : (servers : List ServerRow) (t : ThreadRow) → Ascend server_key servers → IsTrue (awaits_server servers t) → Awaits servers (thread_at_id t.pid t.tid) (thread_of t)
unfolding Awaits
awaits_right servers t ascend good serial receiving =
    let state = receives t.state t.waits serial receiving in
    let there = second_holds (eqb t.state 1) _ (eq-eqb t.state 1 state.0) good in
    let s = server_any t servers ascend there in
    let own = and_parts (eqb s.0.pid t.pid) (eqb (length s.0.queued) 0) s.2 in
    let found = subst (λ (n : ℕ). find (λ r. eqb r.serial n) servers ≡ Some s.0) state.1 s.1 in
    let pid : Pid = record { 0 = t.pid } in
    record {
      server = server_of s.0;
      live = ap (option_map server_of) found;
      own = ap (λ (n : ℕ). pid_of n) (eqb-true s.0.pid t.pid own.0);
      empty = ap (map message_of) (nil_from_length s.0.queued (eqb-true _ 0 own.1));
    }

empty_queue : (queued : List MessageRow) → map message_of queued ≡ [] → length queued ≡ 0
empty_queue [] e = refl
empty_queue (m ∷ queued) e = absurd cc

awaits_all : (servers : List ServerRow) (t : ThreadRow) → Awaits servers (thread_at_id t.pid t.tid) (thread_of t) → IsTrue (awaits_server servers t)
unfolding Awaits
awaits_all servers t awaits =
    elim (cases_Bool (eqb t.state 1)) [
      | inl does ↦ (
          let serial : Serial = record { 0 = t.waits } in
          let receiving : thread_state t.state t.waits ≡ Receiving serial = ap (λ (n : ℕ). thread_state n t.waits) (eqb-true t.state 1 does) in
          let at = awaits serial receiving in
          let row = mapped server_of (find (λ r. eqb r.serial t.waits) servers) at.server at.live in
          let pid : row.0.pid ≡ t.pid = ap (λ (s : Server). s.pid.0) row.2 ∙ ap (λ (p : Pid). p.0) at.own in
          let empty = empty_queue row.0.queued (ap (λ (s : Server). s.queued) row.2 ∙ at.empty) in
          let own : is_own t row.0 ≡ true = rw (eq-eqb row.0.pid t.pid pid, eq-eqb (length row.0.queued) 0 empty) refl in
          let any = any_where_found (λ r. eqb r.serial t.waits) (is_own t) servers row.0 row.1 own in
          rw (does, any) refl
          )
      | inr doesnt ↦ rw doesnt refl
    ]

pub receivers_told : (servers : List ServerRow) (rows : List ThreadRow) (told : Bool) → Ascend server_key servers → AscendInTwo thread_key rows
    → told ≡ list_all (awaits_server servers) rows → IsTrue told ↔ AreReceiversMatched (threads_of rows) (servers_of servers)
unfolding Awaits
receivers_told servers rows told ascend threads is =
    let each = threads_told (awaits_server servers) (Awaits servers) (λ t. (awaits_right servers t ascend, awaits_all servers t)) rows threads in (
      λ holds id t serial e receiving. each.0 (sym is ∙ holds) id t e serial receiving,
      λ matched. is ∙ each.1 (λ id t e serial receiving. matched id t serial e receiving),
    )
