-- The kernel that is booted is sound, and stands for the machine at the start.
use Rattle.xk_ports.specs.declared.store.SwapStore.{Ghosts as SwapStore}
use Rattle.std.proofs.Common.{◌≡◌, ◌⊎◌, ℕ, ◌≤◌, Bool, true, false, List, [], length, Option, Some, None, refl, sym, ap, subst, ◌∙◌, arith, inl, inr}
use Rattle.std.specs.Prelude.{◌==◌, ◌<◌, if◌then◌else◌, IsTrue, replicate, slice_index_or}
use Rattle.std.specs.List.{All}
use Rattle.std.specs.Option.{option_and_then, option_map, option_map_or}
use Rattle.std.proofs.lemmas.Bool.{cases_Bool, cases_lt, cond-false, eqb-true}
use Rattle.std.proofs.lemmas.Bool.Decides.{nat_tests}
use Rattle.std.proofs.lemmas.List.{get_or-replicate, get_or_past, length-replicate}
use Rattle.std.proofs.lemmas.List.Elements.{All-nil}
use Rattle.std.proofs.lemmas.Option.{none-some}
use Rattle.boot_plan.specs.Capacity.{capacity}
use Rattle.boot_plan.specs.Lawful.{CanStart}
use Rattle.boot_plan.specs.declared.plans.BootPlan.{BootPlan}
use Rattle.boot_plan.specs.declared.plans.ProcPlan.{ProcPlan}
use Rattle.irq_claims.specs.ClaimMap.{no_claims}
use Rattle.irq_claims.specs.ClaimsOf.{claims_of}
use Rattle.ledger_model.specs.Lawful.{IsLawful}
use Rattle.ledger_model.specs.Ledger.{Ledger}
use Rattle.ledger_model.proofs.Pages.BareLemmas.{bare-lawful}
use Rattle.xk_parts.specs.Sound.{AreServersSound}
use Rattle.ledger_model.specs.Loans.{bare, loans}
use Rattle.machine_model.specs.State.Machine.{Thread, Idle, Ready}
use Rattle.machine_model.specs.Runs.Matched.{Matched}
use Rattle.machine_model.specs.State.Start.{HasThread, IsStart}
use Rattle.machine_model.specs.State.Threads.{first_handler_thread, first_thread, thread_id}
use Rattle.machine_model.proofs.State.StartLemmas.{start_matched}
use Rattle.msg_queue.specs.Seats.{Seat, empty_seat, seat_of, used_of}
use Rattle.process_table.specs.ProcessMap.{ProcessMap, new_processes}
use Rattle.process_table.specs.Shown.{process_count as processes_made, processes_of}
use Rattle.process_table.specs.State.{new_process}
use Rattle.server_table.specs.ServerState.{Server, ServerState, no_servers}
use Rattle.server_table.specs.ServersOf.{servers_of}
use Rattle.sv32_space.specs.Tie.{Held}
use Rattle.thread_table.specs.Shown.{process_count as processes_threaded, threads_of}
use Rattle.vm_memory.specs.FirstLedger.{first_ledger, process_of as planned_process}
use Rattle.vm_memory.specs.Memory.{Size, blank_ledger, capacity_of, ledger, processes, size}
use Rattle.vm_memory.specs.Sound.{IsSound as IsMemorySound}
use Rattle.vm_memory.proofs.Changing.SoundMemoryLemmas.{bare-ledger}
use Rattle.xk_base.specs.Tables.Circle.{is_pid, is_thread_id}
use Rattle.xk_base.specs.declared.ids.Pid.{Pid}
use Rattle.xk_base.specs.declared.ids.ThreadId.{ThreadId}
use Rattle.xk_base.specs.declared.limits.TheConstants.{RECORD_LIMIT, SERVER_LIMIT}
use Rattle.xk_kernel.proofs.Starting.FirstLedgerLemmas.{IsPlanned, first_no_heap, first_unlent, pid_of_planned, planned_of_pid}
use Rattle.xk_kernel.proofs.Memory.KnownLemmas.{matched_alike}
use Rattle.xk_kernel.specs.Knowing.{ComesTo}
use Rattle.machine_model.specs.Runs.Isolation.{without_bytes}
use Rattle.xk_kernel.specs.Sound.{IsSound}
use Rattle.xk_kernel.specs.Start.{first_threads, start, threads_at_start}
use Rattle.xk_parts.specs.Shown.{process_of, server_of, thread_of}
use Rattle.xk_parts.specs.Seats.{HasLoanIfLend, messages_at}
use Rattle.xk_kernel.specs.State.{as_reservation, claim_of, machine_of}
use Rattle.xk_kernel.specs.declared.kernel.Kernel.{Kernel}

-- ---- the start of a plan is a start

first_tids : (entry tid : ℕ) (t : Thread) → first_threads entry tid ≡ Some t → (tid ≡ 1) ⊎ (tid ≡ 2)
first_tids entry tid t e = elim (cases_Bool (tid == 1)) [
  | inl one ↦ inl (eqb-true tid 1 one)
  | inr other ↦ elim (cases_Bool (tid == 2)) [
    | inl two ↦ inr (eqb-true tid 2 two)
    | inr neither ↦ absurd (none-some t (sym (none other neither) ∙ e))
  ]
]
  where
    none : (tid == 1) ≡ false → (tid == 2) ≡ false → first_threads entry tid ≡ None
    none other neither =
        cond-false (tid == 1) (Some first_handler_thread) (if tid == 2 then Some (first_thread entry) else None) other
        ∙ cond-false (tid == 2) (Some (first_thread entry)) None neither

module _ (plan : BootPlan) (file : List ℕ) (can : All CanStart plan.procs) where
  abbrev room : ℕ
  room = capacity plan.frames (length plan.procs) plan.slots

  handler_there : (pid : Pid) → IsTrue (is_pid (length plan.procs) pid.0) → HasThread (start plan file) (thread_id pid 1) Idle
  unfolding start
  handler_there pid lies =
      let planned : IsPlanned CanStart plan pid.0 = planned_of_pid CanStart plan can pid.0 lies in
      record {
        thread = first_handler_thread;
        there = ap (option_and_then (λ (process : ProcPlan). first_threads process.entry 1)) planned.there;
        about = refl;
        aligned = refl;
      }

  first_there : (pid : Pid) → IsTrue (is_pid (length plan.procs) pid.0) → HasThread (start plan file) (thread_id pid 2) Ready
  unfolding start
  first_there pid lies =
      let planned : IsPlanned CanStart plan pid.0 = planned_of_pid CanStart plan can pid.0 lies in
      record {
        thread = first_thread planned.process.entry;
        there = ap (option_and_then (λ (process : ProcPlan). first_threads process.entry 2)) planned.there;
        about = refl;
        aligned = planned.holds.entry;
      }

  no_other_there : (id : ThreadId) (t : Thread) → threads_at_start plan id ≡ Some t → IsTrue (is_pid (length plan.procs) id.pid.0) × ((id.tid.0 ≡ 1) ⊎ (id.tid.0 ≡ 2))
  no_other_there id t e = go (planned_process plan id.pid.0) refl e
    where
      go : (o : Option ProcPlan) → planned_process plan id.pid.0 ≡ o → option_and_then (λ (process : ProcPlan). first_threads process.entry id.tid.0) o ≡ Some t
          → IsTrue (is_pid (length plan.procs) id.pid.0) × ((id.tid.0 ≡ 1) ⊎ (id.tid.0 ≡ 2))
      go None is e = absurd (none-some t e)
      go (Some process) is e = ((pid_of_planned CanStart plan can id.pid.0 process is).0, first_tids process.entry id.tid.0 t e)

  pub start_is_start : length plan.procs ≤ 64 → IsLawful (length plan.procs) room (first_ledger plan file) → IsStart (start plan file)
  unfolding start
  start_is_start few lawful = record {
    few = few;
    lawful = lawful;
    no_loan = (first_unlent plan file).loans;
    no_orphan = (first_unlent plan file).orphans;
    no_heap = first_no_heap plan file can;
    process = λ pid. refl;
    handler = handler_there;
    first = first_there;
    no_other = no_other_there;
    servers = λ n. refl;
    claims = λ k. refl;
    pending = λ k. refl;
    next_number = refl;
    next_serial = refl;
    steps = refl;
    compare = refl;
    reserved = refl;
  }

-- ---- the kernel

new_at : (b : Bool) → process_of (if b then Some new_process else None) ≡ record { alive = b; heap = 0; connections = [] }
new_at true = refl
new_at false = refl

-- it is the turn of the first thread of the first process
abbrev pub first_turn : ThreadId
first_turn = record { pid = record { 0 = 2 }; tid = record { 0 = 2 } }

first_lies : (n : ℕ) → 1 ≤ n → IsTrue (is_thread_id n first_turn)
first_lies n some = grind (arith, nat_tests)

-- no seat of those has a message, and none beyond
none_there : (n seat : ℕ) → seat_of (replicate n empty_seat) seat ≡ empty_seat
none_there n seat = elim (cases_lt seat n) [
  | inl low ↦ get_or-replicate n seat empty_seat empty_seat low
  | inr high ↦ get_or_past (replicate n empty_seat) seat empty_seat (let all : length (replicate n empty_seat) ≡ n = length-replicate n empty_seat in omega arith)
]

-- so they can be closed
pub all_empty : (queues : List Seat) → queues ≡ replicate SERVER_LIMIT empty_seat → (k : ℕ) (d : Seat) → k < length queues
    → used_of (slice_index_or queues k d) ≡ 0
all_empty queues e k d low =
    let all : length queues ≡ SERVER_LIMIT = ap length e ∙ length-replicate SERVER_LIMIT empty_seat in
    ap (λ seats. used_of (slice_index_or seats k d)) e ∙ ap used_of (get_or-replicate SERVER_LIMIT k empty_seat d (omega (arith, low, all)))

-- its parts are those of the plan
pub record IsBooted {W : Type 0} (held : W → Held) (plan : BootPlan) (file : List ℕ) (k : Kernel W) : Type 0 where
  pub size : size k.mem ≡ record { procs = length plan.procs; area = record { start = plan.ram_start; frames = plan.frames }; slots = plan.slots }
  pub rights : bare (ledger held k.mem) ≡ bare (first_ledger plan file)
  pub threads : (id : ThreadId) → option_map thread_of (threads_of k.threads id) ≡ threads_at_start plan id
  pub procs : processes_of k.procs ≡ new_processes (length plan.procs)
  pub servers : servers_of k.servers ≡ no_servers
  pub messages : k.queues ≡ replicate SERVER_LIMIT empty_seat
  pub claims : claims_of k.claims ≡ no_claims
  pub cursor : k.cursor ≡ first_turn
  pub next : k.next ≡ 1
  pub steps : k.steps ≡ 0
  pub timer : k.timer ≡ None
  pub reserved : k.reserved ≡ None

-- it stands for the start, with this ledger
booted_over : {W : Type 0} (held : W → Held) (plan : BootPlan) (file : List ℕ) (k : Kernel W) → IsBooted held plan file k
    → (l : Ledger) → ledger held k.mem ≡ l → machine_of held k ≡ record (start plan file) { ledger = l }
unfolding machine_of start
booted_over held plan file k h l e = λ i. record {
  capacity = ap (λ (s : Size). capacity s.area.frames s.procs s.slots) h.size i;
  processes = ap (λ (s : Size). s.procs) h.size i;
  ledger = e i;
  steps = h.steps i;
  cursor = h.cursor i;
  threads = λ id. h.threads id i;
  process = λ pid. (ap (λ (m : ProcessMap). process_of (m pid)) h.procs ∙ new_at (is_pid (length plan.procs) pid)) i;
  servers = λ n. option_map (server_of k.queues) ((h.servers i).live n);
  claims = λ n. option_map claim_of (h.claims i n);
  pending = λ n. option_map_or (λ c. c.pending) (h.claims i n) false;
  next_number = h.next i;
  next_serial = (h.servers i).next;
  compare = h.timer i;
  reserved = option_map as_reservation (h.reserved i);
}

-- THE MACHINE is the start of the plan but for bytes, and wholly where these are known
pub booted_comes : {known : Type 0} {W : Type 0} (held : W → Held) (plan : BootPlan) (file : List ℕ) (k : Kernel W) → IsBooted held plan file k
    → (known → ledger held k.mem ≡ first_ledger plan file) → ComesTo known (machine_of held k) (start plan file)
unfolding start
booted_comes held plan file k h whole = record {
  alike =
      ap without_bytes (booted_over held plan file k h (ledger held k.mem) refl)
      ∙ (λ i. record (start plan file) { ledger = h.rights i });
  whole = λ known. booted_over held plan file k h (first_ledger plan file) (whole known);
}

module _ {W : Type 0} (S : SwapStore W) (plan : BootPlan) (file : List ℕ) (k : Kernel W) (h : IsBooted S.held plan file k)
    (can : All CanStart plan.procs) (few : length plan.procs ≤ 64) (mem : IsMemorySound S.slot_count k.mem) where
  ledger_lawful : IsLawful (length plan.procs) (capacity plan.frames (length plan.procs) plan.slots) (first_ledger plan file)
  ledger_lawful =
      let same : bare (first_ledger plan file) ≡ bare (blank_ledger k.mem) = sym h.rights ∙ bare-ledger S.held k.mem in
      subst (λ (s : Size). IsLawful s.procs (capacity s.area.frames s.procs s.slots) (first_ledger plan file)) h.size
      (bare-lawful (processes k.mem) (capacity_of k.mem) (blank_ledger k.mem) (first_ledger plan file) same mem.lawful)

  pub booted_matched : Matched (machine_of S.held k)
  booted_matched =
      matched_alike (machine_of S.held k) (start plan file) (booted_comes {known = ⊥} S.held plan file k h (λ never. absurd never)).alike
      (start_matched (start plan file) (start_is_start plan file can few ledger_lawful))

  no_server : (n : ℕ) (server : Server) → (servers_of k.servers).live n ≡ Some server → ⊥
  no_server n server e = none-some server (sym (ap (λ (s : ServerState). s.live n) h.servers) ∙ e)

  empty_at_start : (seat : ℕ) → seat_of k.queues seat ≡ empty_seat
  empty_at_start seat = ap (λ seats. seat_of seats seat) h.messages ∙ none_there SERVER_LIMIT seat

  -- there is no server, no message and no loan
  servers_at_start : AreServersSound (processes k.mem) (loans (ledger S.held k.mem)) k.servers k.queues
  unfolding machine_of
  servers_at_start = record {
    messages = record {
      seats = record {
        all = ap length h.messages ∙ length-replicate SERVER_LIMIT empty_seat;
        empty = λ seat low none. empty_at_start seat;
        loans = λ seat. subst (λ s. All HasLoanIfLend (messages_at s)) (sym (empty_at_start seat)) (All-nil HasLoanIfLend);
      };
      fit = λ n server e. absurd (no_server n server e);
      senders = λ n server e. absurd (no_server n server e);
      numbers = booted_matched.body.servers.numbers;
    };
    loans = booted_matched.body.loans;
    owners = λ n server e. absurd (no_server n server e);
  }

  pub booted_sound : 1 ≤ length plan.procs → processes_threaded k.threads ≡ length plan.procs → processes_made k.procs ≡ length plan.procs → RECORD_LIMIT ≤ k.log.room
      → IsSound S k
  booted_sound some threaded made room = record {
    whole = record {
      mem = mem;
      threads = threaded ∙ sym count;
      procs = made ∙ sym count;
      cursor = subst (λ (id : ThreadId). IsTrue (is_thread_id (processes k.mem) id)) (sym h.cursor) (subst (λ (n : ℕ). IsTrue (is_thread_id n first_turn)) (sym count) (first_lies (length plan.procs) some));
      room = room;
      servers = servers_at_start;
    };
    matched = λ usable. booted_matched;
  }
    where
      count : processes k.mem ≡ length plan.procs
      count = ap (λ (s : Size). s.procs) h.size
