-- The caller's process, and the live server that a connection leads to: its process, its seat, and who is Receiving there.
use Rattle.xk_ports.specs.declared.store.SwapStore.{Ghosts as SwapStore}
use Rattle.std.proofs.Common.{◌≡◌, ℕ, ◌<◌, ◌≤◌, Bool, true, false, List, Option, Some, None, IsTrue, refl, sym, ap, ◌∙◌, arith}
use Rattle.std.specs.Prelude.{◌==◌, ◌≢◌, ◌↔◌}
use Rattle.std.specs.Option.{option_map, option_map_or}
use Rattle.std.proofs.lemmas.Bool.{and_parts, eqb-false, eqb-true, false≢true}
use Rattle.std.proofs.lemmas.Option.{none-some, same_Some}
use Rattle.ledger_model.proofs.Runs.LeastRunLemmas.{least_run-Some}
use Rattle.ledger_model.specs.Ledger.{Ledger}
use Rattle.ledger_model.specs.LeastRun.{least_run}
use Rattle.machine_model.specs.Runs.Matched.{IsServerAwaited}
use Rattle.machine_model.specs.State.Machine.{Machine, Server as MachineServer, Receiving}
use Rattle.msg_queue.specs.Seats.{seat_of}
use Rattle.process_table.specs.Shown.{process_count as made_for}
use Rattle.process_table.specs.declared.table.Processes.{Processes}
use Rattle.server_table.specs.ServersOf.{servers_of}
use Rattle.server_table.specs.ServerState.{Server, ServerState}
use Rattle.thread_table.specs.States.{is_receiving_state}
use Rattle.thread_table.specs.ThreadMap.{is_ready as is_table_ready, is_receiving as is_table_receiving}
use Rattle.thread_table.specs.Shown.{process_count, threads_of}
use Rattle.thread_table.specs.declared.thread.Thread.{Thread as TableThread}
use Rattle.thread_table.specs.declared.thread.ThreadState.{ThreadState as TableState}
use Rattle.thread_table.specs.declared.thread.ThreadState.TheVariants as table
use Rattle.vm_memory.specs.Memory.{processes}
use Rattle.xk_base.proofs.CircleLemmas.{is_pid-bounds}
use Rattle.xk_base.specs.Tables.Circle.{IsPid, is_pid, is_tid}
use Rattle.xk_base.specs.Tables.Connections.{connected_to}
use Rattle.xk_base.specs.declared.ids.Pid.{Pid}
use Rattle.xk_base.specs.declared.ids.Serial.{Serial}
use Rattle.xk_base.specs.declared.ids.ThreadId.{ThreadId}
use Rattle.xk_base.specs.declared.ids.Vpn.{Vpn}
use Rattle.xk_base.specs.declared.windows.Window.TheVariants.{Message as MessageWindow}
use Rattle.send_path.specs.Arrivals.{IsReached}
use Rattle.xk_parts.specs.Sound.{AreSound}
use Rattle.send_path.proofs.Taken.{CallParts, over, taken}
use Rattle.xk_parts.specs.Shown.{server_with, state_of, thread_of}
use Rattle.send_path.specs.declared.seats.Reached.{Reached}
use Rattle.send_path.proofs.Servers.SeatLemmas.{seat_in_limit, server_there}
use Rattle.xk_parts.proofs.ThreadLemmas.{ready_id}
use Rattle.xk_parts.specs.Parts.{machine_at}

pub reached : (connections : List Serial) (cid : ℕ) (servers : ServerState) (to : Reached) → connected_to connections cid ≡ Some to.serial
    → option_map (λ v. v.pid) (servers.live to.serial.0) ≡ Some to.pid → option_map (λ v. v.seat) (servers.live to.serial.0) ≡ Some to.seat
    → IsReached connections cid servers to
reached connections cid servers to connected pid seat = go (servers.live to.serial.0) refl pid seat
  where
    go : (o : Option Server) → servers.live to.serial.0 ≡ o → option_map (λ v. v.pid) o ≡ Some to.pid
        → option_map (λ v. v.seat) o ≡ Some to.seat → IsReached connections cid servers to
    go None e p q = absurd (none-some to.pid p)
    go (Some v) e p q = record {
      connected = connected;
      seat = record { server = v; live = e; its = same_Some v.seat to.seat q };
      own = same_Some v.pid to.pid p;
    }

-- not all slots of a seat are in use
pub room_left : (b : Bool) (used : ℕ) → (IsTrue b ↔ (used ≡ 128)) → used ≤ 128 → b ≡ false → used < 128
room_left b used both few f = go (used == 128) refl
  where
    go : (t : Bool) → (used == 128) ≡ t → used < 128
    go true q = absurd (false≢true (sym f ∙ both.1 (eqb-true used 128 q)))
    go false q = let ne : used ≢ 128 = eqb-false used 128 q in omega (arith, ne, few)

-- the address of a page of the Message window is a word
pub arrival_low : (procs : ℕ) (l : Ledger) (pid : Pid) (n : ℕ) (first : Vpn) → least_run procs l pid MessageWindow n ≡ Some first → first.0 < 1048576
arrival_low procs l pid n first found = let run = least_run-Some procs l pid MessageWindow n first found in omega (arith, run.high)

-- ---- the caller's process is there

module _ {W : Type 0} (S : SwapStore W) (who : ThreadId) (procs : Processes) (old : CallParts W)
    (sound : AreSound S who (over procs old)) (ready : is_table_ready (threads_of old.tables.threads who) ≡ true) where
  caller_pid : is_pid (process_count old.tables.threads) who.pid.0 ≡ true
  caller_pid =
      (and_parts (is_pid (process_count old.tables.threads) who.pid.0) (is_tid who.tid.0) (ready_id old.tables.threads who ready)).0

  pub caller_in_mem : is_pid (processes old.mem) who.pid.0 ≡ true
  caller_in_mem = ap (λ n. is_pid n who.pid.0) (sym sound.processes) ∙ caller_pid

  pub caller_bounds : IsPid (made_for procs) who.pid.0
  caller_bounds = is_pid-bounds (made_for procs) who.pid.0 (ap (λ n. is_pid n who.pid.0) sound.procs ∙ caller_pid)

-- ---- the server

receiving_then : (serial : Serial) (s : TableState) → is_receiving_state serial s ≡ true → state_of s ≡ Receiving serial
receiving_then serial table.Ready e = absurd (false≢true e)
receiving_then serial (table.Receiving other) e =
    let same : other.0 ≡ serial.0 = eqb-true other.0 serial.0 e in λ i. Receiving (record { 0 = same i })
receiving_then serial (table.Waiting number) e = absurd (false≢true e)
receiving_then serial (table.Joining tid) e = absurd (false≢true e)
receiving_then serial table.Idle e = absurd (false≢true e)

module _ {W : Type 0} (S : SwapStore W) (who : ThreadId) (old : CallParts W) (sound : AreSound S who (taken old))
    {connections : List Serial} {cid : ℕ} (to : Reached) (its : IsReached connections cid (servers_of old.tables.servers) to) where
  abbrev m0 : Machine
  m0 = machine_at S.held who (taken old) sound.machine

  abbrev server : MachineServer
  server = server_with (seat_of old.tables.queues to.seat) its.seat.server

  live : m0.servers to.serial.0 ≡ Some server
  unfolding machine_at
  live = server_there old.tables.servers old.tables.queues to.serial.0 to.seat its.seat sound.seats.all

  to_pid : is_pid (process_count old.tables.threads) to.pid.0 ≡ true
  unfolding machine_at
  to_pid =
      ap (λ (p : Pid). is_pid (process_count old.tables.threads) p.0) (sym its.own)
      ∙ sound.matched.body.processes.pids its.seat.server.pid (sound.matched.body.servers.living to.serial.0 server live)

  pub to_in_mem : is_pid (processes old.mem) to.pid.0 ≡ true
  to_in_mem = ap (λ n. is_pid n to.pid.0) (sym sound.processes) ∙ to_pid

  pub to_bounds : IsPid (process_count old.tables.threads) to.pid.0
  to_bounds = is_pid-bounds (process_count old.tables.threads) to.pid.0 to_pid

  pub to_seat : to.seat < 64
  to_seat = seat_in_limit old.tables.servers old.tables.queues to.serial.0 to.seat its.seat sound.seats.all

  -- who is Receiving there is of its process
  pub to_receivers : (id : ThreadId) → is_table_receiving to.serial (threads_of old.tables.threads id) ≡ true → id.pid.0 ≡ to.pid.0
  unfolding machine_at
  to_receivers id e = go (threads_of old.tables.threads id) refl e
    where
      go : (o : Option TableThread) → threads_of old.tables.threads id ≡ o → is_table_receiving to.serial o ≡ true → id.pid.0 ≡ to.pid.0
      go None q r = absurd (false≢true r)
      go (Some t) q r =
          let awaited : IsServerAwaited m0.servers id.pid to.serial =
          sound.matched.body.receivers id (thread_of t) to.serial (ap (option_map thread_of) q) (receiving_then to.serial t.state r) in
          sym (ap (λ o. option_map_or (λ (s : MachineServer). s.pid.0) o 0) (sym live ∙ awaited.live) ∙ ap (λ (p : Pid). p.0) awaited.own)
          ∙ ap (λ (p : Pid). p.0) its.own
