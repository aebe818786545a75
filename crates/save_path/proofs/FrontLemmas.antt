-- The parts of a machine's state before its pages.
use Rattle.std.proofs.Common.{◌≡◌, ℕ, ◌+◌, ◌*◌, ◌≤◌, List, length, subst, arith}
use Rattle.std.specs.Prelude.{is_some}
use Rattle.std.specs.List.{flat_map}
use Rattle.xk_parts.specs.Shown.{claims_shown, pending_shown}
use Rattle.machine_model.specs.Runs.Matched.{Matched}
use Rattle.machine_model.specs.State.Machine.{Machine}
use Rattle.xk_parts.specs.Shown.{processes_shown, servers_shown, threads_shown}
use Rattle.server_table.specs.ServersOf.{servers_of}
use Rattle.suspend_image.specs.Sheets.{SheetBytes}
use Rattle.suspend_image.specs.Spelling.{claim_bytes, machine_bytes, proc_bytes, rows_bytes, server_bytes, thread_bytes}
use Rattle.sv32_space.specs.Tie.{Held}
use Rattle.vm_memory.specs.Memory.{processes}
use Rattle.xk_base.specs.Tables.Circle.{thread_ids}
use Rattle.xk_base.specs.Tables.Counting.{count_below}
use Rattle.xk_base.specs.declared.ids.Pid.{Pid}
use Rattle.xk_base.specs.declared.limits.TheConstants.{INTERRUPT_LIMIT}
use Rattle.save_path.specs.Rows.{claim_at, proc_at, rows_below, server_at, thread_at}
use Rattle.suspend_image.specs.SavedRows.{machine_row}
use Rattle.save_path.specs.Written.{Appends, Fits, front_parts}
use Rattle.irq_claims.specs.declared.claims.Claims.{Claims}
use Rattle.msg_queue.specs.Seats.{Seat}
use Rattle.process_table.specs.declared.table.Processes.{Processes}
use Rattle.save_path.specs.Saved.{saved_machine, saved_parts}
use Rattle.save_path.specs.declared.numbers.Numbers.{Numbers}
use Rattle.server_table.specs.declared.table.Servers.{Servers}
use Rattle.thread_table.specs.declared.table.Threads.{Threads}
use Rattle.vm_memory.specs.declared.memory.Memory.{Memory}
use Rattle.save_path.proofs.PartLemmas.{front_appended, front_room}
use Rattle.save_path.proofs.SheetLemmas.{fits_less}

-- what a save is given
pub record Given (W : Type 0) : Type 0 where
  pub mem : Memory W
  pub threads : Threads
  pub procs : Processes
  pub servers : Servers
  pub queues : List Seat
  pub claims : Claims
  pub numbers : Numbers

abbrev pub given_of : {W : Type 0} → Memory W → Threads → Processes → Servers → List Seat → Claims → Numbers → Given W
given_of mem threads procs servers queues claims numbers = record {
  mem = mem;
  threads = threads;
  procs = procs;
  servers = servers;
  queues = queues;
  claims = claims;
  numbers = numbers;
}

-- the machine that is saved
abbrev pub given_machine : {W : Type 0} → (W → Held) → Given W → Machine
given_machine held k = saved_machine held k.numbers (saved_parts k.mem k.threads k.procs k.servers k.queues k.claims)

module _ {W : Type 0} (held : W → Held) (k : Given W) where
  abbrev m : Machine
  m = given_machine held k

  pub connections_few : Matched m → (pid : Pid) → length (processes_shown k.procs pid.0).connections ≤ 32
  unfolding saved_machine
  connections_few h pid = h.body.processes.connections pid

  pub servers_many : Matched m → (bound : ℕ) → count_below bound (λ n. is_some (servers_shown k.servers k.queues n)) ≤ 64
  unfolding saved_machine
  servers_many h bound = h.body.servers.few bound

  -- the parts, told by the number of processes
  as_procs : (n : ℕ) → n ≡ processes k.mem → (b c : SheetBytes) → Appends b c (flat_map proc_bytes (rows_below n (proc_at (processes_shown k.procs)))) (140 * n)
      → Appends b c (flat_map proc_bytes (rows_below m.processes (proc_at m.process))) (140 * m.processes)
  unfolding saved_machine
  as_procs n is b c y = subst (λ j. Appends b c (flat_map proc_bytes (rows_below j (proc_at (processes_shown k.procs)))) (140 * j)) is y

  as_threads : (n : ℕ) → n ≡ processes k.mem → (c d : SheetBytes)
      → Appends c d (rows_bytes thread_bytes (rows_below (thread_ids n) (thread_at (threads_shown k.threads)))) (4 + 144 * thread_ids n)
      → Appends c d (rows_bytes thread_bytes (rows_below (thread_ids m.processes) (thread_at m.threads))) (4 + 144 * thread_ids m.processes)
  unfolding saved_machine
  as_threads n is c d z = subst (λ j. Appends c d (rows_bytes thread_bytes (rows_below (thread_ids j) (thread_at (threads_shown k.threads))))
      (4 + 144 * thread_ids j)) is z

  as_servers : (d e : SheetBytes)
      → Appends d e (rows_bytes server_bytes (rows_below (servers_of k.servers).next (server_at (servers_shown k.servers k.queues)))) 362500
      → Appends d e (rows_bytes server_bytes (rows_below m.next_serial (server_at m.servers))) 362500
  unfolding saved_machine
  as_servers d e v = v

  as_claims : (e f : SheetBytes)
      → Appends e f (rows_bytes claim_bytes (rows_below INTERRUPT_LIMIT (claim_at (pending_shown k.claims) (claims_shown k.claims)))) 644
      → Appends e f (rows_bytes claim_bytes (rows_below INTERRUPT_LIMIT (claim_at m.pending m.claims))) 644
  unfolding saved_machine
  as_claims e f w = w

  count_is : (n : ℕ) → n ≡ processes k.mem → n ≡ m.processes
  unfolding saved_machine
  count_is n is = is

  pub write_numbers_room : (a : SheetBytes) → Fits a (363208 + 4604 * m.processes) → Fits a 52
  write_numbers_room a fits = (front_room m a fits).numbers

  pub write_processes_room : (a b : SheetBytes) (n : ℕ) → n ≡ processes k.mem → Fits a (363208 + 4604 * m.processes)
      → Appends a b (machine_bytes (machine_row m)) 52 → Fits b (140 * n)
  write_processes_room a b n is fits x =
      let same = count_is n is in
      fits_less b (140 * m.processes + (4464 * m.processes + 363152)) (140 * n) ((front_room m a fits).procs b x) (omega arith)

  pub write_threads_room : (a b c : SheetBytes) (n : ℕ) → n ≡ processes k.mem → Fits a (363208 + 4604 * m.processes)
      → Appends a b (machine_bytes (machine_row m)) 52
      → Appends b c (flat_map proc_bytes (rows_below n (proc_at (processes_shown k.procs)))) (140 * n) → Fits c (4 + 144 * thread_ids n)
  write_threads_room a b c n is fits x y =
      let same = count_is n is in
      fits_less c (4464 * m.processes + 363152) (4 + 144 * thread_ids n) ((front_room m a fits).threads b c x (as_procs n is b c y)) (omega arith)

  pub write_servers_room : (a b c d : SheetBytes) (n : ℕ) → n ≡ processes k.mem → Fits a (363208 + 4604 * m.processes)
      → Appends a b (machine_bytes (machine_row m)) 52
      → Appends b c (flat_map proc_bytes (rows_below n (proc_at (processes_shown k.procs)))) (140 * n)
      → Appends c d (rows_bytes thread_bytes (rows_below (thread_ids n) (thread_at (threads_shown k.threads)))) (4 + 144 * thread_ids n) → Fits d 362500
  write_servers_room a b c d n is fits x y z =
      fits_less d 363148 362500 ((front_room m a fits).servers b c d x (as_procs n is b c y) (as_threads n is c d z)) (omega arith)

  pub write_claims_room : (a b c d e : SheetBytes) (n : ℕ) → n ≡ processes k.mem → Fits a (363208 + 4604 * m.processes)
      → Appends a b (machine_bytes (machine_row m)) 52
      → Appends b c (flat_map proc_bytes (rows_below n (proc_at (processes_shown k.procs)))) (140 * n)
      → Appends c d (rows_bytes thread_bytes (rows_below (thread_ids n) (thread_at (threads_shown k.threads)))) (4 + 144 * thread_ids n)
      → Appends d e (rows_bytes server_bytes (rows_below (servers_of k.servers).next (server_at (servers_shown k.servers k.queues)))) 362500 → Fits e 644
  write_claims_room a b c d e n is fits x y z v =
      (front_room m a fits).claims b c d e x (as_procs n is b c y) (as_threads n is c d z) (as_servers d e v)

  pub front_written : (a b c d e f : SheetBytes) (n : ℕ) → n ≡ processes k.mem → Appends a b (machine_bytes (machine_row m)) 52
      → Appends b c (flat_map proc_bytes (rows_below n (proc_at (processes_shown k.procs)))) (140 * n)
      → Appends c d (rows_bytes thread_bytes (rows_below (thread_ids n) (thread_at (threads_shown k.threads)))) (4 + 144 * thread_ids n)
      → Appends d e (rows_bytes server_bytes (rows_below (servers_of k.servers).next (server_at (servers_shown k.servers k.queues)))) 362500
      → Appends e f (rows_bytes claim_bytes (rows_below INTERRUPT_LIMIT (claim_at (pending_shown k.claims) (claims_shown k.claims)))) 644
      → Appends a f (front_parts m) (363208 + 4604 * m.processes)
  front_written a b c d e f n is x y z v w = front_appended m a b c d e f x (as_procs n is b c y) (as_threads n is c d z) (as_servers d e v) (as_claims e f w)
