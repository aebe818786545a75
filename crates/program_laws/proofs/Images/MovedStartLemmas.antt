-- The start, by what it has of a plan: an image whose row of tags is exchanged for another, so that all behind it moves, starts in the
-- same state.
use Rattle.std.proofs.Common.{◌≡◌, ◌∙◌, ap, sym, refl, ℕ, zero, suc, ◌+◌, ◌-◌, ◌*◌, ◌/◌, ◌≤◌, min, Bool, true, false, cond, ◌==◌, nat_le, nat_lt, List, [], ◌∷◌, ◌++◌, map, length, find, slice_get, slice_index_or, Option, Some, None, unwrap_or, arith}
use Rattle.std.specs.Prelude.{if◌then◌else◌}
use Rattle.std.specs.List.{range_with_len, AllByRecursion}
use Rattle.std.specs.Option.{option_and_then, option_map, option_or}
use Rattle.std.proofs.lemmas.List.{length-map, map-append}
use Rattle.std.proofs.lemmas.Option.{slice_get-map}
use Rattle.std.proofs.Math.Path.{fun_ext}
use Rattle.std.proofs.lemmas.Bool.Decides.{nat_tests}
use Rattle.kernel_args.specs.declared.args.Args.{Args}
use Rattle.kernel_args.specs.declared.args.ProcArgs.{ProcArgs}
use Rattle.kernel_args.specs.declared.args.Section.{Section}
use Rattle.kernel_args.specs.Loads.{file_size, is_zero_filled}
use Rattle.boot_plan.specs.Capacity.{capacity}
use Rattle.boot_plan.specs.Sections.{page_count}
use Rattle.boot_plan.specs.FirstPages.{section_page, section_run, sections_pages, zero_page, stack_pages, interrupt_page, process_pages, process_plan, plan_of}
use Rattle.boot_plan.specs.declared.plans.BootPlan.{BootPlan}
use Rattle.boot_plan.specs.declared.plans.PagePlan.{PagePlan}
use Rattle.boot_plan.specs.declared.plans.ProcPlan.{ProcPlan}
use Rattle.boot_plan.proofs.MovedLemmas.{HasMoved, IsMoved, IsMovedImage, IsSamePage, moved_byte}
use Rattle.ledger_model.specs.Ledger.{Page, Bytes}
use Rattle.machine_model.specs.State.Machine.{Machine, Thread}
use Rattle.vm_memory.specs.FirstLedger.{first_ledger, first_page, page_bytes, planned_page, process_of}
use Rattle.xk_base.specs.declared.ids.Place.{Place}
use Rattle.xk_base.specs.declared.ids.ThreadId.{ThreadId}
use Rattle.xk_base.specs.declared.ids.Vpn.{Vpn}
use Rattle.xk_base.specs.declared.pages.Right.{Right}
use Rattle.xk_base.specs.Tables.Circle.{is_pid}
use Rattle.xk_kernel.specs.Start.{first_threads, threads_at_start, start}

-- ---- what a start has of a plan

-- a first page at its page number
abbrev shown_page : List ℕ → PagePlan → ℕ × Page
shown_page file page = (page.vpn.0, first_page file page)

-- a process: its entry and its first pages
pub record Shown : Type 0 where
  pub entry : ℕ
  pub pages : List (ℕ × Page)

abbrev pub shown : List ℕ → ProcPlan → Shown
shown file p = record { entry = p.entry; pages = map (shown_page file) p.pages }

-- the page at a page number
abbrev found : ℕ → List (ℕ × Page) → Option Page
found vpn [] = None
found vpn (e ∷ es) = cond (e.0 == vpn) (Some e.1) (found vpn es)

-- the process of a pid
abbrev shown_at : List Shown → ℕ → Option Shown
shown_at processes pid = if nat_le 2 pid then slice_get processes (pid - 2) else None

either : (f : PagePlan → Page) (b : Bool) (page : PagePlan) (later : Option PagePlan) (shown : Option Page) → option_map f later ≡ shown
    → option_map f (cond b (Some page) later) ≡ cond b (Some (f page)) shown
either f true page later shown same = refl
either f false page later shown same = same

first_found : (file : List ℕ) (vpn : ℕ) (pages : List PagePlan)
    → option_map (first_page file) (find (λ page. page.vpn.0 == vpn) pages) ≡ found vpn (map (shown_page file) pages)
first_found file vpn [] = refl
first_found file vpn (page ∷ pages) =
    either (first_page file) (page.vpn.0 == vpn) page (find (λ page. page.vpn.0 == vpn) pages) (found vpn (map (shown_page file) pages)) (first_found file vpn pages)

process_shown : (file : List ℕ) (plan : BootPlan) (pid : ℕ) → option_map (shown file) (process_of plan pid) ≡ shown_at (map (shown file) plan.procs) pid
process_shown file plan pid = go (nat_le 2 pid)
  where
    go : (b : Bool) → option_map (shown file) (if b then slice_get plan.procs (pid - 2) else None) ≡ (if b then slice_get (map (shown file) plan.procs) (pid - 2) else None)
    go true = sym (slice_get-map (shown file) plan.procs (pid - 2))
    go false = refl

home_of : (file : List ℕ) (vpn : ℕ) (o : Option ProcPlan)
    → option_map (first_page file) (option_and_then (planned_page vpn) o) ≡ option_and_then (λ s. found vpn s.pages) (option_map (shown file) o)
home_of file vpn None = refl
home_of file vpn (Some p) = first_found file vpn p.pages

thread_of : (file : List ℕ) (tid : ℕ) (o : Option ProcPlan)
    → option_and_then (λ p. first_threads p.entry tid) o ≡ option_and_then (λ s. first_threads s.entry tid) (option_map (shown file) o)
thread_of file tid None = refl
thread_of file tid (Some p) = refl

-- the machine at the start, by what it has of a plan: room for so many pages, and the processes
abbrev pub started : ℕ → List Shown → Machine
started room processes = record {
  capacity = room;
  processes = length processes;
  ledger = record { home = λ p. option_and_then (λ s. found p.vpn.0 s.pages) (shown_at processes p.pid.0); orphan = λ p. None };
  steps = 0;
  cursor = record { pid = record { 0 = 2 }; tid = record { 0 = 2 } };
  threads = λ id. option_and_then (λ s. first_threads s.entry id.tid.0) (shown_at processes id.pid.0);
  process = λ pid. record { alive = is_pid (length processes) pid; heap = 0; connections = [] };
  servers = λ serial. None;
  claims = λ number. None;
  pending = λ number. false;
  next_number = 1;
  next_serial = 1;
  compare = None;
  reserved = None;
}

-- .. with what differs between the ways of saying it
abbrev with_parts : ℕ → ℕ → (Place → Option Page) → (ThreadId → Option Thread) → Machine
with_parts room n home threads = record {
  capacity = room;
  processes = n;
  ledger = record { home = home; orphan = λ p. None };
  steps = 0;
  cursor = record { pid = record { 0 = 2 }; tid = record { 0 = 2 } };
  threads = threads;
  process = λ pid. record { alive = is_pid n pid; heap = 0; connections = [] };
  servers = λ serial. None;
  claims = λ number. None;
  pending = λ number. false;
  next_number = 1;
  next_serial = 1;
  compare = None;
  reserved = None;
}

start_is : (plan : BootPlan) (file : List ℕ)
    → start plan file ≡ with_parts (capacity plan.frames (length plan.procs) plan.slots) (length plan.procs)
    (λ p. option_map (first_page file) (option_and_then (planned_page p.vpn.0) (process_of plan p.pid.0))) (threads_at_start plan)
unfolding start first_ledger
start_is plan file = refl

-- the pages that a plan has room for
abbrev pub room_of : BootPlan → ℕ
room_of plan = capacity plan.frames (length plan.procs) plan.slots

pub start_shown : (plan : BootPlan) (file : List ℕ) → start plan file ≡ started (room_of plan) (map (shown file) plan.procs)
start_shown plan file =
    let n = length plan.procs in
    let room = room_of plan in
    let same : n ≡ length (map (shown file) plan.procs) = sym (length-map plan.procs (shown file)) in
    let home = λ (p : Place). option_map (first_page file) (option_and_then (planned_page p.vpn.0) (process_of plan p.pid.0)) in
    let homes : home ≡ (λ p. option_and_then (λ s. found p.vpn.0 s.pages) (shown_at (map (shown file) plan.procs) p.pid.0)) =
    fun_ext (λ p. home_of file p.vpn.0 (process_of plan p.pid.0) ∙ ap (option_and_then (λ s. found p.vpn.0 s.pages)) (process_shown file plan p.pid.0)) in
    let threads : threads_at_start plan ≡ (λ id. option_and_then (λ s. first_threads s.entry id.tid.0) (shown_at (map (shown file) plan.procs) id.pid.0)) =
    fun_ext (λ id. thread_of file id.tid.0 (process_of plan id.pid.0) ∙ ap (option_and_then (λ s. first_threads s.entry id.tid.0)) (process_shown file plan id.pid.0)) in
    start_is plan file
    ∙ ap (λ k. with_parts room k home (threads_at_start plan)) same
    ∙ ap (λ h. with_parts room (length (map (shown file) plan.procs)) h (threads_at_start plan)) homes
    ∙ ap (λ t. with_parts room (length (map (shown file) plan.procs))
    (λ p. option_and_then (λ s. found p.vpn.0 s.pages) (shown_at (map (shown file) plan.procs) p.pid.0)) t) threads

-- ---- what has moved looks the same

-- a byte of a page, by whether its section is zero-filled
page_byte_moved : (zero_filled : Bool) (file moved : List ℕ) (before after offset there size i k : ℕ) → HasMoved file moved before after
    → before ≤ offset → there + before ≡ offset + after
    → cond (nat_lt k (min 4096 (cond zero_filled 0 size - 4096 * i))) (slice_index_or moved (cond zero_filled 0 (there + 4096 * i) + k) 0) 0
    ≡ cond (nat_lt k (min 4096 (cond zero_filled 0 size - 4096 * i))) (slice_index_or file (cond zero_filled 0 (offset + 4096 * i) + k) 0) 0
page_byte_moved true file moved before after offset there size i k h behind same = grind (arith, nat_tests)
page_byte_moved false file moved before after offset there size i k h behind same =
    ap (λ b. cond (nat_lt k (min 4096 (size - 4096 * i))) b 0)
    (moved_byte file moved before after (offset + 4096 * i + k) (there + 4096 * i + k) h (omega arith) (omega arith))

same_page : (file moved : List ℕ) (before after offset there : ℕ) (s : Section) (i : ℕ) → HasMoved file moved before after → before ≤ offset → there + before ≡ offset + after
    → IsSamePage file moved (section_page offset s i) (section_page there s i)
same_page file moved before after offset there s i h behind same = record {
  vpn = refl;
  right = refl;
  byte = λ k. page_byte_moved (is_zero_filled s) file moved before after offset there s.size i k h behind same;
}

-- a page of zeros has no byte of a file
no_byte : (file moved : List ℕ) (k : ℕ) → cond (nat_lt k 0) (slice_index_or moved (0 + k) 0) 0 ≡ cond (nat_lt k 0) (slice_index_or file (0 + k) 0) 0
no_byte file moved k = grind (arith, nat_tests)

same_bytes : (file moved : List ℕ) (page other : PagePlan) → IsSamePage file moved page other → page_bytes moved other ≡ page_bytes file page
unfolding page_bytes
same_bytes file moved page other h = ap (λ (byte : ℕ → ℕ). map byte (range_with_len 0 4096)) (fun_ext h.byte)

page_shown : (file moved : List ℕ) (page other : PagePlan) → IsSamePage file moved page other → shown_page moved other ≡ shown_page file page
page_shown file moved page other h =
    let bytes = same_bytes file moved page other h in
    ap (λ (n : ℕ). (n, first_page moved other)) (ap (λ (v : Vpn). v.0) h.vpn)
    ∙ ap (λ (p : Page). (page.vpn.0, p))
    (ap (λ (r : Right). record { right = r; contents = Bytes (page_bytes moved other); loan = None }) h.right
    ∙ ap (λ (bs : List ℕ). record { right = page.right; contents = Bytes bs; loan = None }) bytes)

-- the same process, whose bytes stand in the file from `before` on and have moved so
pub record StandsMoved (before after : ℕ) (p q : ProcArgs) : Type 0 where
  pub behind : before ≤ p.load
  pub load : q.load + before ≡ p.load + after
  pub entry : q.entry ≡ p.entry
  pub sections : q.sections ≡ p.sections

module _ (file moved : List ℕ) (before after : ℕ) (h : HasMoved file moved before after) where
  run_shown : (offset there : ℕ) (s : Section) → before ≤ offset → there + before ≡ offset + after → (i n : ℕ)
      → map (shown_page moved) (map (section_page there s) (range_with_len i n)) ≡ map (shown_page file) (map (section_page offset s) (range_with_len i n))
  run_shown offset there s behind same i zero = refl
  run_shown offset there s behind same i (suc n) =
      ap (λ e. e ∷ map (shown_page moved) (map (section_page there s) (range_with_len (i + 1) n)))
      (page_shown file moved (section_page offset s i) (section_page there s i) (same_page file moved before after offset there s i h behind same))
      ∙ ap (λ es. shown_page file (section_page offset s i) ∷ es) (run_shown offset there s behind same (i + 1) n)

  sections_shown : (offset there : ℕ) (ss : List Section) → before ≤ offset → there + before ≡ offset + after
      → map (shown_page moved) (sections_pages there ss) ≡ map (shown_page file) (sections_pages offset ss)
  sections_shown offset there [] behind same = refl
  sections_shown offset there (s ∷ ss) behind same =
      let later = sections_pages (there + file_size s) ss in
      let run = section_run offset s in
      map-append (shown_page moved) (section_run there s) later
      ∙ ap (λ es. es ++ map (shown_page moved) later) (run_shown offset there s behind same 0 (page_count s.size))
      ∙ ap (λ es. map (shown_page file) run ++ es) (sections_shown (offset + file_size s) (there + file_size s) ss (omega arith) (omega arith))
      ∙ sym (map-append (shown_page file) run (sections_pages (offset + file_size s) ss))

  zero_shown : (vpns : List ℕ) → map (shown_page moved) (map zero_page vpns) ≡ map (shown_page file) (map zero_page vpns)
  zero_shown [] = refl
  zero_shown (v ∷ vs) =
      ap (λ e. e ∷ map (shown_page moved) (map zero_page vs)) (page_shown file moved (zero_page v) (zero_page v) (record { vpn = refl; right = refl; byte = λ k. no_byte file moved k }))
      ∙ ap (λ es. shown_page file (zero_page v) ∷ es) (zero_shown vs)

  process_moved : (p q : ProcArgs) → StandsMoved before after p q → shown moved (process_plan q) ≡ shown file (process_plan p)
  process_moved p q m =
      let zeros = map zero_page (stack_pages ++ interrupt_page ∷ []) in
      let pages : map (shown_page moved) (process_pages q) ≡ map (shown_page file) (process_pages p) =
      map-append (shown_page moved) (sections_pages q.load q.sections) zeros
      ∙ ap (λ ss. map (shown_page moved) (sections_pages q.load ss) ++ map (shown_page moved) zeros) m.sections
      ∙ ap (λ es. es ++ map (shown_page moved) zeros) (sections_shown p.load q.load p.sections m.behind m.load)
      ∙ ap (λ es. map (shown_page file) (sections_pages p.load p.sections) ++ es) (zero_shown (stack_pages ++ interrupt_page ∷ []))
      ∙ sym (map-append (shown_page file) (sections_pages p.load p.sections) zeros) in
      ap (λ (e : ℕ). record { entry = e; pages = map (shown_page moved) (process_pages q) }) m.entry
      ∙ ap (λ (es : List (ℕ × Page)). record { entry = p.entry; pages = es }) pages

  pub processes_moved : (f : ProcArgs → ProcArgs) (ps : List ProcArgs) → AllByRecursion (λ p. StandsMoved before after p (f p)) ps
      → map (shown moved) (map process_plan (map f ps)) ≡ map (shown file) (map process_plan ps)
  processes_moved f [] m = refl
  processes_moved f (p ∷ ps) m =
      ap (λ s. s ∷ map (shown moved) (map process_plan (map f ps))) (process_moved p (f p) m.0)
      ∙ ap (λ ss. shown file (process_plan p) ∷ ss) (processes_moved f ps m.1)

-- ---- the start

each_stands : (file : List ℕ) (before after : ℕ) (f : ProcArgs → ProcArgs) (ps : List ProcArgs)
    → AllByRecursion (λ p. IsMoved file before after p (f p)) ps
    → AllByRecursion (λ p. StandsMoved before after p (f p)) ps
each_stands file before after f [] m = tt
each_stands file before after f (p ∷ ps) m =
    (record { behind = m.0.behind; load = m.0.load; entry = m.0.entry; sections = m.0.sections }, each_stands file before after f ps m.1)

pub moved_start : (file moved : List ℕ) (args other : Args) (asked : Option ℕ) → IsMovedImage file moved args other
    → start (plan_of other asked) moved ≡ start (plan_of args asked) file
moved_start file moved args other asked m =
    let slots = λ (o : Option ℕ). unwrap_or (option_or asked o) 0 in
    let processes = map (shown moved) (map process_plan other.procs) in
    let old = 4 * args.words in
    let new = 4 * other.words in
    let same = processes_moved file moved old new m.bytes m.change args.procs (each_stands file old new m.change args.procs m.each) in
    start_shown (plan_of other asked) moved
    ∙ ap (λ size. started (capacity (size / 4096) (length (map process_plan other.procs)) (slots other.slots)) processes) m.ram_size
    ∙ ap (λ o. started (capacity (args.ram_size / 4096) (length (map process_plan other.procs)) (slots o)) processes) m.slots
    ∙ ap (λ n. started (capacity (args.ram_size / 4096) n (slots args.slots)) processes) (ap (λ (ps : List ProcArgs). length (map process_plan ps)) m.procs)
    ∙ ap (λ n. started (capacity (args.ram_size / 4096) n (slots args.slots)) processes)
    (length-map (map m.change args.procs) process_plan ∙ length-map args.procs m.change ∙ sym (length-map args.procs process_plan))
    ∙ ap (λ ps. started (room_of (plan_of args asked)) (map (shown moved) (map process_plan ps))) m.procs
    ∙ ap (λ ss. started (room_of (plan_of args asked)) ss) same
    ∙ sym (start_shown (plan_of args asked) file)
