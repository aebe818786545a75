-- What is made again of a state stands for its machine, and its parts are sound. Where the store failed on the way, the servers can be
-- closed.
use Rattle.xk_ports.specs.declared.store.SwapStore.{Ghosts as SwapStore}
use Rattle.std.proofs.Common.{◌≡◌, ℕ, ◌+◌, ◌≤◌, Bool, true, false, ◌&&◌, List, map, refl, sym, ap, subst, ◌∙◌, arith, inl, inr}
use Rattle.std.specs.Prelude.{IsTrue}
use Rattle.std.specs.Option.{option_map}
use Rattle.std.proofs.lemmas.Bool.{and_from, cases_Bool, le-leb, lt-ltb}
use Rattle.boot_plan.specs.Capacity.{capacity, page_frames}
use Rattle.xk_parts.specs.Shown.{claims_shown, pending_shown}
use Rattle.xk_parts.specs.Sound.{AreServersSound}
use Rattle.ledger_model.proofs.Stepping.WritingLemmas.{bare-loans, bare-pages}
use Rattle.ledger_model.specs.Ledger.{Ledger, pages}
use Rattle.ledger_model.specs.Loans.{Loans, bare, loans}
use Rattle.msg_queue.specs.Seats.{Seat}
use Rattle.process_table.specs.Shown.{process_count as processes_made, processes_of}
use Rattle.xk_parts.specs.Shown.{process_of, thread_of}
use Rattle.server_table.specs.Listed.{listed_servers}
use Rattle.server_table.specs.ServersOf.{servers_of}
use Rattle.server_table.specs.declared.table.Servers.{Servers}
use Rattle.snapshot_rows.proofs.KeyLemmas.{either}
use Rattle.snapshot_rows.specs.Machines.{claims_of as state_claims, compare_of, machine_of as state_machine, pending_of}
use Rattle.snapshot_rows.specs.Machines.{processes_of as state_processes, reservation_of, thread_at_id, threads_of as state_threads}
use Rattle.snapshot_rows.specs.declared.state.MessageRow.{MessageRow}
use Rattle.snapshot_rows.specs.declared.state.State.{State}
use Rattle.sv32_space.specs.Tie.{Held}
use Rattle.thread_table.specs.Shown.{process_count as processes_threaded, threads_of}
use Rattle.vm_memory.specs.Bytes.{MeansBytes, is_known, none_out}
use Rattle.vm_memory.specs.Memory.{Size, capacity_of, frames_for_pages, ledger, processes, size, store_of}
use Rattle.vm_memory.specs.Sound.{IsSound as IsMemorySound}
use Rattle.vm_memory.specs.declared.memory.Memory.{Memory}
use Rattle.xk_base.specs.Tables.Circle.{is_pid, is_thread_id, is_tid}
use Rattle.xk_base.specs.declared.ids.ThreadId.{ThreadId}
use Rattle.xk_base.specs.declared.limits.TheConstants.{RECORD_LIMIT}
use Rattle.resume_path.proofs.Seated.AllBackLemmas.{all_rows, servers_back, shown_all}
use Rattle.resume_path.proofs.Homes.FrameLemmas.{near_pages_fit}
use Rattle.resume_path.proofs.Homes.PagesBackLemmas.{rose_over}
use Rattle.resume_path.proofs.Seated.PartBackLemmas.{servers_part}
use Rattle.xk_parts.specs.Comes.{ComesTo}
use Rattle.machine_model.specs.Runs.Isolation.{without_bytes}
use Rattle.resume_path.specs.Coming.{HasCome, HasFailed, IsKnownUntil, KeepsSize}
use Rattle.resume_path.specs.Messages.{AreBack, IsStopped, is_orphan_among, is_orphaned}
use Rattle.resume_path.specs.Resumable.{CanSplit, IsResumable, resumed_page_frames, resumed_size, state_ledger, state_pages}
use Rattle.resume_path.specs.Standing.{orphans_of, pages_before, standing_of}
use Rattle.resume_path.specs.Tables.{row_seat}
use Rattle.resume_path.specs.Resumed.{resumed_machine, resumed_parts}
use Rattle.resume_path.specs.declared.resuming.Resumed.{Resumed}
use Rattle.xk_parts.specs.Parts.{as_reservation}
use Rattle.xk_parts.specs.Sound.{AreWhole}

-- ---- how large the memory is

module _ {W : Type 0} (s : State) (slots : ℕ) (split : CanSplit s slots) (m : Memory W) (its : size m ≡ resumed_size s slots) where
  pub resumed_processes : processes m ≡ s.n
  resumed_processes = ap (λ (z : Size). z.procs) its

  pub resumed_capacity : capacity_of m ≡ s.cap
  resumed_capacity =
      let same = ap (λ (z : Size). capacity z.area.frames z.procs z.slots) its in
      let fewer = split.fewer in
      omega (arith, same, fewer)

  pub resumed_frames_for_pages : frames_for_pages m ≡ resumed_page_frames s slots
  resumed_frames_for_pages =
      let same = ap (λ (z : Size). page_frames z.area.frames z.procs) its in
      omega (arith, same)

-- ---- its bytes

-- Where bytes mean something, they are known until all pages of the state are there: they are known, or no page is out, and so there are
-- frames for all.
pub means_known : {W : Type 0} (S : SwapStore W) (file : List ℕ) (s : State) (m : Memory W) → processes m ≡ s.n
    → HasCome S (state_pages file s) m (state_ledger file s) → MeansBytes S m
    → IsKnownUntil S m (state_pages file s)
means_known S file s m procs come means = elim (cases_Bool (is_known S m)) [
  | inl known ↦ inl known
  | inr untold ↦
      let fit = near_pages_fit S m come.sound come.usable (either (is_known S m) (none_out m) untold means) in
      let here = ap (λ n. pages n (ledger S.held m)) procs in
      let same = bare-pages s.n (state_ledger file s) (ledger S.held m) come.rights in
      inr (omega (arith, fit, here, same))
]

-- ---- the machine

-- its parts are those of the state
pub record IsResumed {W : Type 0} (held : W → Held) (file : List ℕ) (s : State) (slots : ℕ) (k : Resumed W) : Type 0 where
  pub size : size k.mem ≡ resumed_size s slots
  pub rights : bare (ledger held k.mem) ≡ bare (state_ledger file s)
  pub threads : (id : ThreadId) → option_map thread_of (threads_of k.threads id) ≡ state_threads s.threads id
  pub procs : (pid : ℕ) → process_of (processes_of k.procs pid) ≡ state_processes s.procs pid
  pub servers : servers_of k.servers ≡ listed_servers (map row_seat s.servers) s.next_serial
  pub messages : AreBack s all_rows k.queues
  pub claims : (n : ℕ) → claims_shown k.claims n ≡ state_claims s.claims n
  pub pending : (n : ℕ) → pending_shown k.claims n ≡ pending_of s.claims n
  pub cursor : k.cursor ≡ thread_at_id s.cursor_pid s.cursor_tid
  pub next : k.next ≡ s.next_number
  pub steps : k.steps ≡ s.steps
  pub timer : k.timer ≡ compare_of s
  pub reserved : option_map as_reservation k.reserved ≡ reservation_of s

module _ {W : Type 0} (held : W → Held) (file : List ℕ) (s : State) (slots : ℕ) (h : IsResumable file s) (split : CanSplit s slots) (k : Resumed W)
    (is : IsResumed held file s slots k) where
  -- it stands for the machine of the state, with this ledger
  resumed_over : (l : Ledger) → ledger held k.mem ≡ l → resumed_machine held k ≡ record (state_machine file s) { ledger = l }
  unfolding resumed_machine
  resumed_over l e = λ i. record {
    capacity = resumed_capacity s slots split k.mem is.size i;
    processes = resumed_processes s slots split k.mem is.size i;
    ledger = e i;
    steps = is.steps i;
    cursor = is.cursor i;
    threads = λ id. is.threads id i;
    process = λ pid. is.procs pid i;
    servers = shown_all file s h k.servers is.servers k.queues is.messages i;
    claims = λ n. is.claims n i;
    pending = λ n. is.pending n i;
    next_number = is.next i;
    next_serial = (is.servers i).next;
    compare = is.timer i;
    reserved = is.reserved i;
  }

  -- THE MACHINE is that of the state but for bytes, and wholly where these are known
  pub resumed_comes : {known : Type 0} → (known → ledger held k.mem ≡ state_ledger file s) → ComesTo known (resumed_machine held k) (state_machine file s)
  resumed_comes whole = record {
    alike =
        ap without_bytes (resumed_over (ledger held k.mem) refl)
        ∙ (λ i. record (state_machine file s) { ledger = is.rights i });
    whole = λ known. resumed_over (state_ledger file s) (whole known);
  }

-- its parts are sound
module _ {W : Type 0} (S : SwapStore W) (file : List ℕ) (s : State) (slots : ℕ) (h : IsResumable file s) (split : CanSplit s slots) (k : Resumed W)
    (is : IsResumed S.held file s slots k) where
  pub resumed_whole : IsMemorySound S.slot_count k.mem → processes_threaded k.threads ≡ s.n → processes_made k.procs ≡ s.n
      → RECORD_LIMIT ≤ k.log.room → AreWhole S k.cursor (resumed_parts k)
  resumed_whole mem threaded made room = record {
    mem = mem;
    threads = threaded ∙ sym count;
    procs = made ∙ sym count;
    cursor =
        subst (λ (id : ThreadId). IsTrue (is_thread_id (processes k.mem) id)) (sym is.cursor)
        (subst (λ (n : ℕ). IsTrue (is_thread_id n (thread_at_id s.cursor_pid s.cursor_tid))) (sym count) cursor_lies);
    room = room;
    servers =
        subst (λ (n : ℕ). AreServersSound n (loans (ledger S.held k.mem)) k.servers k.queues) (sym count)
        (subst (λ (x : Loans). AreServersSound s.n x k.servers k.queues) (sym (bare-loans (state_ledger file s) (ledger S.held k.mem) is.rights))
        (servers_back file s h k.servers is.servers k.queues is.messages));
  }
    where
      count : processes k.mem ≡ s.n
      count = resumed_processes s slots split k.mem is.size

      cursor_lies : IsTrue (is_thread_id s.n (thread_at_id s.cursor_pid s.cursor_tid))
      cursor_lies =
          let pid = h.spelled.form.cursor_pid in
          let tid = h.spelled.form.cursor_tid in
          and_from (is_pid s.n s.cursor_pid) (is_tid s.cursor_tid)
          (and_from _ _ (le-leb 2 s.cursor_pid pid.at_least) (lt-ltb s.cursor_pid (s.n + 2) (let most = pid.at_most in omega (arith, most))))
          (and_from _ _ (le-leb 1 s.cursor_tid tid.at_least) (le-leb s.cursor_tid 31 tid.at_most))

-- ---- after a failure

-- all servers can be closed
pub stopped_servers : {W : Type 0} (held : W → Held) (file : List ℕ) (s : State) → IsResumable file s → (t : Servers)
    → servers_of t ≡ listed_servers (map row_seat s.servers) s.next_serial → (m : Memory W) → processes m ≡ s.n → (numbers : ℕ → Bool)
    → loans (ledger held m) ≡ loans (standing_of file s (orphans_of numbers)) → (q : List Seat) → AreBack s (is_orphan_among numbers) q
    → AreServersSound (processes m) (loans (ledger held m)) t q
stopped_servers held file s h t listed m count numbers same q back =
    subst (λ (n : ℕ). AreServersSound n (loans (ledger held m)) t q) (sym count)
    (subst (λ (x : Loans). AreServersSound s.n x t q) (sym same) (servers_part file s h numbers t listed q back))

-- Where the store failed while the pages came back, all orphans are back with their messages.
pub pages_stopped : {W : Type 0} (S : SwapStore W) (file : List ℕ) (s : State)
    (first old new : Memory W) (q : List Seat) → KeepsSize S first old
    → HasCome S (state_pages file s) old (standing_of file s (pages_before s.pages 0)) → AreBack s is_orphaned q
    → HasFailed S old new → IsStopped S file s first new q
pages_stopped S file s first old new q keeps come back failed = record {
  numbers = λ number. true;
  sound = failed.sound;
  loans = failed.loans ∙ bare-loans (standing_of file s (pages_before s.pages 0)) (ledger S.held old) come.rights;
  back = subst (λ (test : MessageRow → Bool). AreBack s test q) (λ i row. sym (and_true (is_orphaned row)) i) back;
  rose = rose_over (S.faults (store_of first)) (S.faults (store_of old)) (S.faults (store_of new)) keeps.store.never_falls failed.rose;
}
  where
    and_true : (b : Bool) → (b && true) ≡ b
    and_true true = refl
    and_true false = refl
