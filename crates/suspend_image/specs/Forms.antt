-- The form of a state: what each number of it may be, and where the bytes of its pages stand in a file.
use Rattle.std.specs.Prelude.{◌≡◌, ℕ, ◌+◌, ◌≤◌, ◌<◌, ◌==◌, Bool, true, false, not, ◌||◌, nat_lt, nat_le, if◌then◌else◌, ⊤, List, [], ◌∷◌}
use Rattle.std.specs.Prelude.{length, Option, Some, None}
use Rattle.std.specs.List.{flat_map, AllByRecursion}
use Rattle.snapshot_rows.specs.declared.state.State.{State}
use Rattle.snapshot_rows.specs.declared.state.ProcRow.{ProcRow}
use Rattle.snapshot_rows.specs.declared.state.ThreadRow.{ThreadRow}
use Rattle.snapshot_rows.specs.declared.state.MessageRow.{MessageRow}
use Rattle.snapshot_rows.specs.declared.state.ServerRow.{ServerRow}
use Rattle.snapshot_rows.specs.declared.state.ClaimRow.{ClaimRow}
use Rattle.snapshot_rows.specs.declared.state.PageRow.{PageRow}
use Rattle.snapshot_rows.specs.declared.state.OrphanRow.{OrphanRow}
use Rattle.suspend_image.specs.Reading.{greatest}
use Rattle.snapshot_rows.specs.Order.{AreInOrder, after, least_first, least_second, thread_key, server_key, claim_key, page_key, orphan_key}
use Rattle.suspend_image.specs.Spelling.{page_bytes, orphan_bytes, rows_bytes, state_bytes}
use Rattle.xk_base.specs.declared.limits.TheConstants.{PROCESS_LIMIT, STEP_LIMIT, TID_LIMIT}
use Rattle.snapshot_rows.specs.declared.states.TheConstants.{READY, JOINING, IDLE}

-- ---- numbers

pub record IsWithin (least most number : ℕ) : Type 0 where
  pub at_least : least ≤ number
  pub at_most : number ≤ most

abbrev pub IsWord : ℕ → Type 0
IsWord number = IsWithin 0 greatest number

abbrev pub IsPid : ℕ → ℕ → Type 0
IsPid n pid = IsWithin 2 (n + 1) pid

abbrev pub IsTid : ℕ → Type 0
IsTid tid = IsWithin 1 TID_LIMIT tid

abbrev pub IsFlag : ℕ → Type 0
IsFlag flag = IsWithin 0 1 flag

-- a field that applies lies within bounds, and one that doesn't is 0
abbrev pub IsField : Bool → ℕ → ℕ → ℕ → Type 0
IsField true least most number = IsWithin least most number
IsField false least most number = IsWithin 0 0 number

-- ---- 2. to 5. a process, a thread, a message, a server and a claim

pub record IsProcRow (p : ProcRow) : Type 0 where
  pub alive : IsFlag p.alive
  pub heap : IsWord p.heap
  pub many : IsWord (length p.serials)
  pub serials : AllByRecursion IsWord p.serials

-- The least and the greatest that it may wait for: nothing where it is Ready or Idle, a tid where it is Joining, and else any serial
-- or number.
abbrev pub waits_bounds : ℕ → ℕ × ℕ
waits_bounds state = if state == READY || state == IDLE then (0, 0) else (if state == JOINING then (1, TID_LIMIT) else (0, greatest))

pub record IsThreadRow (n : ℕ) (before : Option (ℕ × ℕ)) (t : ThreadRow) : Type 0 where
  pub pid : IsWithin (least_first 2 before) (n + 1) t.pid
  pub tid : IsWithin (least_second 1 before t.pid) TID_LIMIT t.tid
  pub pc : IsWord t.pc
  pub state : IsWithin 0 IDLE t.state
  pub waits : IsWithin (waits_bounds t.state).0 (waits_bounds t.state).1 t.waits
  pub registers : length t.regs ≡ 31
  pub regs : AllByRecursion IsWord t.regs

-- a sender is there exactly where its pid isn't 0, and pages where the kind is 1 to 3
pub record IsMessageRow (n : ℕ) (m : MessageRow) : Type 0 where
  pub number : IsWord m.number
  pub sender_pid : IsField (not (m.sender_pid == 0)) 2 (n + 1) m.sender_pid
  pub sender_tid : IsField (not (m.sender_pid == 0)) 1 TID_LIMIT m.sender_tid
  pub kind : IsWithin 1 5 m.kind
  pub id : IsWord m.id
  pub four : length m.words ≡ 4
  pub words : AllByRecursion IsWord m.words
  pub first : IsField (nat_le m.kind 3) 0 greatest m.first
  pub count : IsField (nat_le m.kind 3) 0 greatest m.count

pub record IsServerRow (n : ℕ) (before : Option ℕ) (s : ServerRow) : Type 0 where
  pub four : length s.sid ≡ 4
  pub sid : AllByRecursion IsWord s.sid
  pub serial : IsWithin (after before) greatest s.serial
  pub pid : IsPid n s.pid
  pub many_queued : IsWord (length s.queued)
  pub many_held : IsWord (length s.held)
  pub queued : AllByRecursion (IsMessageRow n) s.queued
  pub held : AllByRecursion (IsMessageRow n) s.held

pub record IsClaimRow (n : ℕ) (before : Option ℕ) (c : ClaimRow) : Type 0 where
  pub number : IsWithin (after before) greatest c.number
  pub pid : IsPid n c.pid
  pub handler : IsWord c.handler
  pub arg : IsWord c.arg
  pub pending : IsFlag c.pending

-- ---- 6. and 7. a page and an orphan

-- the 4,096 bytes of a page stand before so many bytes that are left of a file of this size; the console has none
abbrev pub StandsBefore : Bool → ℕ → ℕ → ℕ → Type 0
StandsBefore true size left from = from + 4096 + left ≡ size
StandsBefore false size left from = from ≡ 0

-- a holder is there exactly where the kind of the loan isn't 0
pub record IsPageRow (size n : ℕ) (before : Option (ℕ × ℕ)) (left : ℕ) (p : PageRow) : Type 0 where
  pub pid : IsWithin (least_first 2 before) (n + 1) p.pid
  pub page : IsWithin (least_second 0 before p.pid) greatest p.page
  pub right : IsWithin 0 7 p.right
  pub holder_pid : IsField (not (p.kind == 0)) 2 (n + 1) p.holder_pid
  pub holder_page : IsField (not (p.kind == 0)) 0 greatest p.holder_page
  pub kind : IsWithin 0 2 p.kind
  pub number : IsField (not (p.kind == 0)) 0 greatest p.number
  pub from : StandsBefore (nat_lt p.right 4) size left p.from

pub record IsOrphanRow (size n : ℕ) (before : Option (ℕ × ℕ)) (left : ℕ) (o : OrphanRow) : Type 0 where
  pub pid : IsWithin (least_first 2 before) (n + 1) o.pid
  pub page : IsWithin (least_second 0 before o.pid) greatest o.page
  pub kind : IsWithin 1 2 o.kind
  pub number : IsWord o.number
  pub from : StandsBefore true size left o.from

-- ---- the whole

-- Each row has the form that one has behind the key of the row before it and before the bytes of the rows behind it and so many more.
abbrev pub ArePlaced : {A K : Type 0} → (Option K → ℕ → A → Type 0) → (A → K) → (A → List ℕ) → ℕ → Option K → List A → Type 0
ArePlaced form key spell left before [] = ⊤
ArePlaced form key spell left before (x ∷ xs) =
    form before (length (flat_map spell xs) + left) x × ArePlaced form key spell left (Some (key x)) xs

pub record HasForm (file : List ℕ) (s : State) : Type 0 where
  pub cap : IsWord s.cap
  pub n : IsWithin 1 PROCESS_LIMIT s.n
  pub steps : IsWithin 0 STEP_LIMIT s.steps
  pub cursor_pid : IsPid s.n s.cursor_pid
  pub cursor_tid : IsTid s.cursor_tid
  pub next_number : IsWord s.next_number
  pub next_serial : IsWord s.next_serial
  pub armed : IsFlag s.armed
  pub compare : IsField (s.armed == 1) 0 greatest s.compare
  pub reserved : IsFlag s.reserved
  pub reserved_pid : IsField (s.reserved == 1) 2 (s.n + 1) s.reserved_pid
  pub reserved_tid : IsField (s.reserved == 1) 1 TID_LIMIT s.reserved_tid
  pub reserved_address : IsField (s.reserved == 1) 0 greatest s.reserved_address
  pub many_procs : length s.procs ≡ s.n
  pub procs : AllByRecursion IsProcRow s.procs
  pub many_threads : IsWord (length s.threads)
  pub threads : AreInOrder (IsThreadRow s.n) thread_key None s.threads
  pub many_servers : IsWord (length s.servers)
  pub servers : AreInOrder (IsServerRow s.n) server_key None s.servers
  pub many_claims : IsWord (length s.claims)
  pub claims : AreInOrder (IsClaimRow s.n) claim_key None s.claims
  pub many_pages : IsWord (length s.pages)
  pub pages : ArePlaced (IsPageRow (length file) s.n) page_key (page_bytes file) (length (rows_bytes (orphan_bytes file) s.orphans))
      None s.pages
  pub many_orphans : IsWord (length s.orphans)
  pub orphans : ArePlaced (IsOrphanRow (length file) s.n) orphan_key (orphan_bytes file) 0 None s.orphans

-- A file spells a state whose pages have their bytes in it.
pub record Spells (file : List ℕ) (s : State) : Type 0 where
  pub form : HasForm file s
  pub few : length file < 0x100000000
  pub bytes : file ≡ state_bytes file s
