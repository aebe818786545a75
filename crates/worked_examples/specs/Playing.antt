-- How rows are played by steps and events: a row is a list of lines, each of what happens and what is told of it.
use Rattle.std.specs.Prelude.{◌≡◌, ℕ, zero, suc, ◌+◌, true, false, if◌then◌else◌, List, [], ◌∷◌, ◌++◌, map, replicate, Option, Some, None}
use Rattle.xk_base.specs.declared.ids.Pid.{Pid}
use Rattle.xk_base.specs.declared.ids.Place.{Place}
use Rattle.xk_base.specs.declared.ids.ThreadId.{ThreadId}
use Rattle.xk_base.specs.declared.pages.Right.{Right}
use Rattle.xk_base.specs.declared.records.What.{What}
use Rattle.xk_base.specs.declared.records.What.TheVariants.{Call}
use Rattle.xk_base.specs.Tables.Circle.{is_pid}
use Rattle.xk_base.specs.Calls.Registers.{with_arguments}
use Rattle.syscall_codec.specs.ReplyWords.{eight_words}
use Rattle.ledger_model.specs.Ledger.{Ledger, Page, Bytes}
use Rattle.ledger_model.specs.Places.{same_place}
use Rattle.ledger_model.specs.Steps.{zero_page}
use Rattle.machine_model.specs.State.Machine.{Machine, Thread}
use Rattle.machine_model.specs.State.Threads.{change_thread}
use Rattle.machine_model.specs.Stepping.Events.{raised, killed}
use Rattle.machine_model.specs.Stepping.Step.{Recorded, step}
use Rattle.machine_model.specs.Worked.Rows.{small_machine, what_of}

-- ---- the code

-- ECALL; SW a1, 0(a0); JALR x0, 0(ra), which ends a handler that is entered there
unfoldable pub code : List ℕ
code = 0x73 ∷ 0 ∷ 0 ∷ 0 ∷ 0x23 ∷ 0x20 ∷ 0xB5 ∷ 0 ∷ 0x67 ∷ 0x80 ∷ 0 ∷ 0 ∷ replicate 4084 0

-- where its instructions stand
abbrev pub call_address : ℕ
call_address = 0x1_0000

abbrev pub store_address : ℕ
store_address = 0x1_0004

abbrev pub return_address : ℕ
return_address = 0x1_0008

-- a page that stands at a place
pub record PlacedPage : Type 0 where
  pub place : Place
  pub page : Page

-- the page at a place, of a list
abbrev pub page_in : List PlacedPage → Place → Option Page
page_in [] p = None
page_in (first ∷ rest) p = if same_place first.place p then Some first.page else page_in rest p

-- the ledger of these pages
unfoldable pub listed_ledger : List PlacedPage → Ledger
listed_ledger pages = record { home = page_in pages; orphan = λ p. None }

-- a page of a process, by its page number, with this right and these bytes
abbrev pub page_placed : ℕ → ℕ → Right → List ℕ → PlacedPage
page_placed pid vpn right bytes = record {
  place = record { pid = record { 0 = pid }; vpn = record { 0 = vpn } };
  page = record { right = right; contents = Bytes bytes; loan = None };
}

-- The pages of a process: its code at 0x10000, which may be executed and not written, and a heap of two pages of zeros
abbrev pub pages_of : ℕ → List PlacedPage
pages_of pid =
    page_placed pid 0x10 (record { w = false; x = true }) code
    ∷ page_placed pid 0x2_0000 (record { w = true; x = false }) zero_page
    ∷ page_placed pid 0x2_0001 (record { w = true; x = false }) zero_page
    ∷ []

-- .. of the processes 2 to n + 1
abbrev pub first_pages : ℕ → List PlacedPage
first_pages zero = []
first_pages (suc n) = first_pages n ++ pages_of (n + 2)

-- n processes with these pages, each with its first thread, and room for 16 pages in all
unfoldable pub coded_machine : ℕ → Machine
coded_machine n = record (small_machine n) {
  ledger = listed_ledger (first_pages n);
  process = λ pid. record { alive = is_pid n pid; heap = 8192; connections = [] };
}

-- ---- what happens

-- a step or an event
pub data Act : Type 0 where
  -- the thread is at the address, with these words and zeros in a0 to a7, and does a step
  ActsAt : ThreadId → ℕ → List ℕ → Act
  -- the thread whose turn it is does a step
  Steps : Act
  Raises : ℕ → Act
  Kills : Pid → Act

-- the thread at that address, with these words and zeros in a0 to a7
abbrev pub thread_at : ℕ → List ℕ → Thread → Thread
thread_at pc words thread = record thread { pc = pc; regs = with_arguments (eight_words words) thread.regs }

-- the thread is there, and it is its turn
abbrev pub standing : ThreadId → ℕ → List ℕ → Machine → Machine
standing who pc words m = record (change_thread who (thread_at pc words) m) { cursor = who }

-- the next state, and its records
abbrev pub played : Act → Machine → Recorded
played (ActsAt who pc words) m = step (standing who pc words m)
played Steps m = step m
played (Raises k) m = raised k m
played (Kills pid) m = killed pid m

-- ---- rows

-- what happens, and what is to be told of it
pub record Line : Type 0 where
  pub act : Act
  pub told : List What

-- the thread makes the call of these words and zeros, of which its record is told first
abbrev pub calls : ThreadId → List ℕ → List What → Line
calls who words told = record { act = ActsAt who call_address words; told = Call who (eight_words words) ∷ told }

-- the thread stores a word
abbrev pub stores_word : ThreadId → ℕ → ℕ → List What → Line
stores_word who address value told = record { act = ActsAt who store_address (address ∷ value ∷ []); told = told }

-- the thread whose turn it is does a step
abbrev pub steps : List What → Line
steps told = record { act = Steps; told = told }

abbrev pub raises : ℕ → List What → Line
raises k told = record { act = Raises k; told = told }

abbrev pub kills : Pid → List What → Line
kills pid told = record { act = Kills pid; told = told }

-- what is told of a row from a machine on, and the machine after it
unfoldable pub told_by : List Line → Machine → List What
told_by [] m = []
told_by (line ∷ lines) m = map what_of (played line.act m).records ++ told_by lines (played line.act m).machine

unfoldable pub left_by : List Line → Machine → Machine
left_by [] m = m
left_by (line ∷ lines) m = left_by lines (played line.act m).machine

-- what is to be told of it
unfoldable pub expected : List Line → List What
expected [] = []
expected (line ∷ lines) = line.told ++ expected lines

-- the row is told as its lines say
abbrev pub IsToldAs : List Line → Machine → Type 0
IsToldAs row m = told_by row m ≡ expected row
