-- How a state is spelled: which words its numbers and rows have, and in which order. The 4,096 bytes of a page stand behind its words;
-- they are copied from `file`, at the offset that the row gives.
use Rattle.std.specs.Prelude.{ℕ, ◌+◌, nat_lt, if◌then◌else◌, List, [], ◌∷◌, ◌++◌, length, codes}
use Rattle.std.specs.List.{flat_map}
use Rattle.kernel_args.specs.CheckNumber.{check_number}
use Rattle.snapshot_rows.specs.declared.state.State.{State}
use Rattle.snapshot_rows.specs.declared.state.ProcRow.{ProcRow}
use Rattle.snapshot_rows.specs.declared.state.ThreadRow.{ThreadRow}
use Rattle.snapshot_rows.specs.declared.state.MessageRow.{MessageRow}
use Rattle.snapshot_rows.specs.declared.state.ServerRow.{ServerRow}
use Rattle.snapshot_rows.specs.declared.state.ClaimRow.{ClaimRow}
use Rattle.snapshot_rows.specs.declared.state.PageRow.{PageRow}
use Rattle.snapshot_rows.specs.declared.state.OrphanRow.{OrphanRow}
use Rattle.snapshot_rows.specs.Machines.{contents_at}
use Rattle.suspend_image.specs.Words.{word, word_bytes}

-- ---- 1. the machine

-- the words behind the timer, the words behind the numbers, and all of them
abbrev pub reserved_words : State → List ℕ
reserved_words s = s.reserved ∷ s.reserved_pid ∷ s.reserved_tid ∷ s.reserved_address ∷ []

abbrev pub timer_words : State → List ℕ
timer_words s = s.armed ∷ s.compare ∷ reserved_words s

unfoldable pub machine_bytes : State → List ℕ
machine_bytes s = word_bytes (s.cap ∷ s.n ∷ s.steps ∷ s.cursor_pid ∷ s.cursor_tid ∷ s.next_number ∷ s.next_serial ∷ timer_words s)

-- ---- 2. to 5. a process, a thread, a message, a server and a claim

unfoldable pub proc_bytes : ProcRow → List ℕ
proc_bytes p = word_bytes (p.alive ∷ p.heap ∷ length p.serials ∷ p.serials)

unfoldable pub thread_bytes : ThreadRow → List ℕ
thread_bytes t = word_bytes (t.pid ∷ t.tid ∷ t.pc ∷ t.state ∷ t.waits ∷ t.regs)

unfoldable pub message_bytes : MessageRow → List ℕ
message_bytes m = word_bytes (m.number ∷ m.sender_pid ∷ m.sender_tid ∷ m.kind ∷ m.id ∷ (m.words ++ m.first ∷ m.count ∷ []))

-- the queued messages, then the held ones
unfoldable pub server_bytes : ServerRow → List ℕ
server_bytes s =
    word_bytes (s.sid ++ s.serial ∷ s.pid ∷ length s.queued ∷ length s.held ∷ [])
    ++ (flat_map message_bytes s.queued ++ flat_map message_bytes s.held)

unfoldable pub claim_bytes : ClaimRow → List ℕ
claim_bytes c = word_bytes (c.number ∷ c.pid ∷ c.handler ∷ c.arg ∷ c.pending ∷ [])

-- ---- 6. and 7. a page and an orphan

-- the words of a page and of an orphan
abbrev pub page_words : PageRow → List ℕ
page_words p = word_bytes (p.pid ∷ p.page ∷ p.right ∷ p.holder_pid ∷ p.holder_page ∷ p.kind ∷ p.number ∷ [])

abbrev pub orphan_words : OrphanRow → List ℕ
orphan_words o = word_bytes (o.pid ∷ o.page ∷ o.kind ∷ o.number ∷ [])

-- the console, whose right has the 4, has no bytes
unfoldable pub page_bytes : List ℕ → PageRow → List ℕ
page_bytes file p = page_words p ++ (if nat_lt p.right 4 then contents_at file p.from else [])

unfoldable pub orphan_bytes : List ℕ → OrphanRow → List ℕ
orphan_bytes file o = orphan_words o ++ contents_at file o.from

-- ---- the whole

-- rows behind their number
unfoldable pub rows_bytes : {A : Type 0} → (A → List ℕ) → List A → List ℕ
rows_bytes spell rows = word_bytes (length rows ∷ []) ++ flat_map spell rows

-- the seven parts; parts 3 to 7 begin with their number of rows
unfoldable pub parts_bytes : List ℕ → State → List ℕ
parts_bytes file s =
    machine_bytes s ++ (flat_map proc_bytes s.procs ++ (rows_bytes thread_bytes s.threads ++ (rows_bytes server_bytes s.servers
    ++ (rows_bytes claim_bytes s.claims ++ (rows_bytes (page_bytes file) s.pages ++ rows_bytes (orphan_bytes file) s.orphans)))))

-- the name of state files, two words, and parts
abbrev pub headed : ℕ → ℕ → List ℕ → List ℕ
headed size check parts = codes "XousSt01" ++ (word size ++ (word check ++ parts))

-- the words are the length of the whole and the check number of the parts
abbrev pub with_header : List ℕ → List ℕ
with_header parts = headed (16 + length parts) (check_number parts) parts

-- a state whose pages have their bytes in `file`
unfoldable pub state_bytes : List ℕ → State → List ℕ
state_bytes file s = with_header (parts_bytes file s)
