-- A service with a secret: a program of eleven instructions that adds the first word of each message to a sum in a page of its own,
-- and answers with the word that it was sent. Nobody is told the sum. Two states that differ in the sum alone are related.
use Rattle.std.specs.Prelude.{◌≡◌, ◌≢◌, ◌≤◌, ℕ, ◌+◌, ◌*◌, ◌==◌, Bool, true, false, List, [], ◌∷◌, ◌++◌, length, slice_index, take}
use Rattle.std.specs.Prelude.{if◌then◌else◌, pos, negsuc, Some, None}
use Rattle.std.specs.List.{flat_map}
use Rattle.std.specs.Bool.{⊤}
use Rattle.xk_base.specs.declared.ids.Pid.{Pid}
use Rattle.xk_base.specs.declared.ids.Place.{Place}
use Rattle.xk_base.specs.declared.pages.Right.{Right}
use Rattle.xk_base.specs.declared.pages.Width.TheVariants.{Word}
use Rattle.xk_base.specs.Calls.Registers.{reg_at}
use Rattle.xk_base.specs.Numbers.Fields.{word_of}
use Rattle.xk_base.specs.Numbers.Windows.{page_of}
use Rattle.xk_base.specs.UserMemory.{low_bytes, number_at}
use Rattle.rv32_words.specs.Formats.{RType, drawing}
use Rattle.rv32_words.specs.Table.{spelling}
use Rattle.rv32_words.specs.declared.insn.Insn.TheVariants.{Addi, Ecall, Jal, Lui}
use Rattle.syscall_codec.specs.CallNumbers.{create_server_with_address, receive_message, return_scalar1}
use Rattle.ledger_model.specs.Ledger.{Bytes, Homed, Ledger, Page, PageName, contents_of}
use Rattle.ledger_model.specs.Places.{same_place}
use Rattle.ledger_model.specs.Steps.{write, zero_page}
use Rattle.machine_model.specs.Runs.Isolation.{without_bytes}
use Rattle.machine_model.specs.Runs.Matched.{is_living}
use Rattle.machine_model.specs.State.Machine.{Idle, Joining, Machine, Ready, Receiving, Thread, ThreadState, Waiting}
use Rattle.machine_model.specs.State.Start.{IsStart}
use Rattle.machine_model.specs.State.Threads.{first_thread, thread_id}
use Rattle.machine_model.specs.Stepping.Interrupts.{is_claim_of}
use Rattle.machine_model.specs.Worked.Rows.{pid_of, small_machine}
use Rattle.noninterference_laws.specs.Inside.{Group}

-- ---- the program

-- the page of the program begins here, and the page of the sum here
abbrev pub entry : ℕ
entry = 0x1_0000

abbrev pub sum_address : ℕ
sum_address = 0x1_1000

-- amoadd.w rd, rs2, (rs1) (RISC-V Unprivileged ISA: A 2.1), with the bits aq and rl 0
abbrev pub add_to_memory : (rd rs1 rs2 : ℕ) → ℕ
add_to_memory rd rs1 rs2 = word_of (drawing (RType 0b0101111 0b010 0b0000000 rd rs1 rs2))

-- a line of the program
pub data Line : Type 0 where
  Begin NameCreate Create Name NameReceive Receive Grow Answer NameReturn Return Repeat : Line

-- Its word. x9 is s1, and x10 to x14 are a0 to a4. A reply leaves 0 in a2 to a4, so the server's identifier is four zeros at each call.
abbrev pub word_at : Line → ℕ
-- lui s1, 0x11
word_at Begin = spelling (Lui 9 sum_address)
-- li a0, 14; ecall: CreateServerWithAddress
word_at NameCreate = spelling (Addi 10 0 (pos create_server_with_address))
word_at Create = spelling Ecall
-- li a1, 0; li a0, 15; ecall: ReceiveMessage
word_at Name = spelling (Addi 11 0 (pos 0))
word_at NameReceive = spelling (Addi 10 0 (pos receive_message))
word_at Receive = spelling Ecall
-- amoadd.w zero, a4, (s1): the sum grows by the message's first word
word_at Grow = add_to_memory 0 9 14
-- mv a2, a4; li a0, 26; ecall: ReturnScalar1 of that word, by the token in a1
word_at Answer = spelling (Addi 12 14 (pos 0))
word_at NameReturn = spelling (Addi 10 0 (pos return_scalar1))
word_at Return = spelling Ecall
-- j to the second `li a1, 0`
word_at Repeat = spelling (Jal 0 (negsuc 27))

-- the lines in order
abbrev pub place_in_program : Line → ℕ
place_in_program Begin = 0
place_in_program NameCreate = 1
place_in_program Create = 2
place_in_program Name = 3
place_in_program NameReceive = 4
place_in_program Receive = 5
place_in_program Grow = 6
place_in_program Answer = 7
place_in_program NameReturn = 8
place_in_program Return = 9
place_in_program Repeat = 10

-- the bytes of a page hold the program from their first on
abbrev pub HoldsProgram : List ℕ → Type 0
HoldsProgram bytes = (line : Line) → number_at (slice_index bytes) (4 * place_in_program line) Word ≡ word_at line

-- ---- a thread of it

abbrev pub line_address : Line → ℕ
line_address line = entry + 4 * place_in_program line

-- s1 has the address of the sum, once it was loaded
abbrev pub HasAddress : Line → List ℕ → Type 0
HasAddress Begin regs = ⊤
HasAddress _ regs = reg_at regs 9 ≡ sum_address

-- at a call a0 has its number
abbrev pub HasCall : Line → List ℕ → Type 0
HasCall Create regs = reg_at regs 10 ≡ create_server_with_address
HasCall Receive regs = reg_at regs 10 ≡ receive_message
HasCall Return regs = reg_at regs 10 ≡ return_scalar1
HasCall _ regs = ⊤

-- the line that adds what a message brought
abbrev pub is_growing : Line → Bool
is_growing Grow = true
is_growing _ = false

-- it is Ready, or waits for the message that this line adds
abbrev pub can_be : Line → ThreadState → Bool
can_be line Ready = true
can_be line (Receiving serial) = is_growing line
can_be line (Waiting number) = false
can_be line (Joining tid) = false
can_be line Idle = false

pub record IsAt (line : Line) (thread : Thread) : Type 0 where
  pub pc : thread.pc ≡ line_address line
  -- x0 to a3 at least, since a message has four words or more
  pub enough : 14 ≤ length thread.regs
  pub zero : reg_at thread.regs 0 ≡ 0
  pub address : HasAddress line thread.regs
  pub call : HasCall line thread.regs
  pub state : can_be line thread.state ≡ true

-- ---- a process that runs it

-- a page of bytes stands there, and isn't on loan
pub record HasOwnPage (ledger : Ledger) (place : Place) : Type 0 where
  pub page : Page
  pub there : ledger.home place ≡ Some page
  pub unlent : page.loan ≡ None
  pub bytes : List ℕ
  pub holds : page.contents ≡ Bytes bytes

abbrev pub sum_place : Pid → Place
sum_place pid = page_of pid sum_address

-- the program may be executed, and the sum written
pub record IsLoaded (ledger : Ledger) (pid : Pid) : Type 0 where
  pub code : HasOwnPage ledger (page_of pid entry)
  pub executable : code.page.right.x ≡ true
  pub program : HoldsProgram code.bytes
  pub sum : HasOwnPage ledger (sum_place pid)
  pub writable : sum.page.right.w ≡ true

-- The process runs the program: its first thread is at a line of it; its interrupt thread is Idle, and it has claimed no interrupt; and
-- it has no other thread.
pub record RunsProgram (pid : Pid) (m : Machine) : Type 0 where
  pub loaded : IsLoaded m.ledger pid
  pub line : Line
  pub thread : Thread
  pub there : m.threads (thread_id pid 2) ≡ Some thread
  pub at : IsAt line thread
  pub handler : Thread
  pub handler_there : m.threads (thread_id pid 1) ≡ Some handler
  pub idle : handler.state ≡ Idle
  pub alone : (tid : ℕ) → tid ≢ 1 → tid ≢ 2 → m.threads (thread_id pid tid) ≡ None
  pub no_claim : (k : ℕ) → is_claim_of pid (m.claims k) ≡ false

-- ---- two states

-- the group of that process alone
abbrev pub only_process : Pid → Group
only_process pid n = n == pid.0

-- all pages but one hold the same in both
abbrev pub HoldSameBut : Place → Ledger → Ledger → Type 0
HoldSameBut place one other = (page : PageName) → page ≢ Homed place → contents_of one page ≡ contents_of other page

-- The process runs the program, and the states are the same but for the page of the sum.
pub record DifferInSum (pid : Pid) (m n : Machine) : Type 0 where
  pub runs : RunsProgram pid m
  pub but_bytes : without_bytes m ≡ without_bytes n
  pub but_sum : HoldSameBut (sum_place pid) m.ledger n.ledger

-- .. as long as it lives
abbrev pub DifferInSumAlone : Pid → Machine → Machine → Type 0
DifferInSumAlone pid m n = is_living m pid ≡ true → DifferInSum pid m n

-- the state with another sum
abbrev pub with_sum : Pid → ℕ → Machine → Machine
with_sum pid sum m = record m { ledger = write (Homed (sum_place pid)) 0 (low_bytes Word sum) m.ledger }

-- ---- how it starts

-- the machine is at its start, and its process begins with the first line of the program
pub record BeginsProgram (pid : Pid) (m : Machine) : Type 0 where
  pub start : IsStart m
  pub loaded : IsLoaded m.ledger pid
  pub begins : m.threads (thread_id pid 2) ≡ Some (first_thread entry)

-- ---- a witness

-- the bytes of a page that begin with these, and zeros after them
abbrev pub filled_from : List ℕ → List ℕ
filled_from bytes = take 4096 (bytes ++ zero_page)

abbrev pub program_bytes : List ℕ
program_bytes =
    flat_map (λ line. low_bytes Word (word_at line))
    (Begin ∷ NameCreate ∷ Create ∷ Name ∷ NameReceive ∷ Receive ∷ Grow ∷ Answer ∷ NameReturn ∷ Return ∷ Repeat ∷ [])

abbrev pub page_with : Right → List ℕ → Page
page_with right bytes = record { right = right; contents = Bytes (filled_from bytes); loan = None }

-- two processes at their start, the first with the program and this sum
abbrev pub summing_machine : ℕ → Machine
summing_machine sum = record (small_machine 2) {
  ledger = record {
    home = λ p.
        if same_place p (page_of (pid_of 2) entry) then Some (page_with (record { w = false; x = true }) program_bytes) else (
        if same_place p (sum_place (pid_of 2)) then Some (page_with (record { w = true; x = false }) (low_bytes Word sum)) else None);
    orphan = λ p. None;
  };
}
