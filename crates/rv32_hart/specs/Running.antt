-- What running the instruction at the pc comes to: what the table of instructions gives for the registers, the pc and the
-- memory that the process sees.
use Rattle.std.specs.Prelude.{◌≡◌, ℕ, ◌%◌, ◌≤◌, List, Bool, if◌then◌else◌, Option, Some, None}
use Rattle.std.specs.Option.{option_map}
use Rattle.xk_base.specs.declared.pages.Access.{Access}
use Rattle.xk_base.specs.declared.pages.Access.TheVariants.{Fetch}
use Rattle.xk_base.specs.declared.user_memory.UserMemory.{Ghosts as UserMemory}
use Rattle.xk_base.specs.Outside.{Rose}
use Rattle.xk_base.specs.UserMemory.{Memory, Content, KeepsContent, Timer, timer_stored, with_number}
use Rattle.machine_model.specs.Hart.Instructions.{Executed, Next, Stores, StoresToConsole, StoresToTimer, CallsKernel, Traps, execute_base}
use Rattle.machine_model.specs.Hart.Instructions.{execute_base_at, fetch_page_fault}
use Rattle.rv32_hart.specs.declared.ran.Ran.{Ran}
use Rattle.rv32_hart.specs.declared.ran.Ran.TheVariants.{Ecall, Trap, Device, Failed}
use Rattle.rv32_hart.specs.declared.ran.Ran.TheVariants as ran

-- what is answered
abbrev pub ran_of : Executed → Ran
ran_of (Next regs pc) = ran.Next pc
ran_of (Stores address width value regs pc) = ran.Next pc
ran_of (StoresToConsole offset value regs pc) = Device offset value pc
ran_of (StoresToTimer offset width value regs pc) = ran.Next pc
ran_of CallsKernel = Ecall
ran_of (Traps cause value) = Trap cause value

-- the registers afterwards: a trap and a call of the kernel leave them
abbrev pub registers_after : List ℕ → Executed → List ℕ
registers_after old (Next regs pc) = regs
registers_after old (Stores address width value regs pc) = regs
registers_after old (StoresToConsole offset value regs pc) = regs
registers_after old (StoresToTimer offset width value regs pc) = regs
registers_after old CallsKernel = old
registers_after old (Traps cause value) = old

-- the bytes of memory afterwards: a store alone changes them
abbrev pub bytes_after : (ℕ → ℕ) → Executed → (ℕ → ℕ)
bytes_after byte (Next regs pc) = byte
bytes_after byte (Stores address width value regs pc) = with_number byte address width value
bytes_after byte (StoresToConsole offset value regs pc) = byte
bytes_after byte (StoresToTimer offset width value regs pc) = byte
bytes_after byte CallsKernel = byte
bytes_after byte (Traps cause value) = byte

-- the timer afterwards: a store to its page alone changes it
abbrev pub timer_left : Option Timer → Executed → Option Timer
timer_left timer (Next regs pc) = timer
timer_left timer (Stores address width value regs pc) = timer
timer_left timer (StoresToConsole offset value regs pc) = timer
timer_left timer (StoresToTimer offset width value regs pc) = option_map (timer_stored offset width value) timer
timer_left timer CallsKernel = timer
timer_left timer (Traps cause value) = timer

-- ---- memory as it is told

-- which access the process has, where the console's page is, what is told of the bytes, and the timer
pub record View : Type 0 where
  pub may : Access → ℕ → Bool
  pub console : ℕ → Bool
  pub content : Content
  pub timer : Option Timer

-- what a memory of the trait tells
abbrev pub view_of : {U : Type 0} → UserMemory U → U → View
view_of U mem = record { may = U.may mem; console = U.console mem; content = U.content mem; timer = U.timer mem }

-- what the process sees, where these bytes stand in memory
abbrev pub seen : View → (ℕ → ℕ) → Memory
seen view byte = record { may = view.may; console = view.console; byte = byte; timer = view.timer }

-- it holds over the bytes that are told; where nothing is told, it holds over some bytes
abbrev pub OverBytes : Content → ((ℕ → ℕ) → Type 0) → Type 0
OverBytes (Some byte) fact = fact byte
OverBytes None fact = (byte : ℕ → ℕ) × fact byte

-- one where the bytes are told, and the other where they aren't
abbrev pub IfTold : Content → Type 0 → Type 0 → Type 0
IfTold (Some byte) one other = one
IfTold None one other = other

-- what is told after an instruction is what it leaves of what was told
abbrev pub TellsAfter : Content → Executed → Content → Type 0
TellsAfter (Some byte) x after = after ≡ Some (bytes_after byte x)
TellsAfter None x after = Unit {0}

-- ---- an instruction

-- the answer, the registers, what is told of memory and the timer are those of an executed instruction
pub record IsExecuted (x : Executed) (before after : View) (old new : List ℕ) (ran : Ran) : Type 0 where
  pub answer : ran ≡ ran_of x
  pub registers : new ≡ registers_after old x
  pub content : TellsAfter before.content x after.content
  pub timer : after.timer ≡ timer_left before.timer x

-- the same of an instruction that neither looks at memory nor changes it
pub record IsExecutedAlone (x : Executed) (old new : List ℕ) (ran : Ran) : Type 0 where
  pub answer : ran ≡ ran_of x
  pub registers : new ≡ registers_after old x
  pub bytes : (byte : ℕ → ℕ) → bytes_after byte x ≡ byte
  pub timer : (timer : Option Timer) → timer_left timer x ≡ timer

-- what was told stays so, and the timer is the same
abbrev pub KeepsView : View → View → Type 0
KeepsView before after = KeepsContent before.content after.content × (after.timer ≡ before.timer)

-- An instruction with this effect over memory is executed, between what was told before and what is told after. Where memory
-- told nothing, it is so over some bytes; where it failed, nothing was done.
abbrev pub DoesExecute : (Memory → Executed) → View → View → List ℕ → List ℕ → Ran → Type 0
DoesExecute effect before after old new Failed = KeepsView before after
DoesExecute effect before after old new answer =
    OverBytes before.content (λ byte. IsExecuted (effect (seen before byte)) before after old new answer)

-- ---- the instruction at the pc

-- the instruction of a word does what the table says; where the process may not fetch, it traps
abbrev pub execute_fetched : List ℕ → ℕ → ℕ → Memory → Executed
execute_fetched regs pc word mem = if mem.may Fetch pc then execute_base regs pc word mem else Traps fetch_page_fault pc

-- The instruction at the pc is executed, over what the process reaches and what it is told to stand there. Where it is told
-- nothing, it is that of some word.
abbrev pub Executes : View → View → List ℕ → List ℕ → ℕ → Ran → Type 0
Executes before after old new pc answer = IfTold before.content (DoesExecute (execute_base_at old pc) before after old new answer)
    ((word : ℕ) × DoesExecute (execute_fetched old pc word) before after old new answer)

-- on a trap, a call of the kernel and a failure the registers are as before, also where memory tells nothing; and where a store
-- went to a device, since a store writes no register
abbrev pub LeavesRegisters : List ℕ → List ℕ → Ran → Type 0
LeavesRegisters old new (ran.Next pc) = Unit {0}
LeavesRegisters old new (Device offset value pc) = new ≡ old
LeavesRegisters old new Ecall = new ≡ old
LeavesRegisters old new (Trap cause value) = new ≡ old
LeavesRegisters old new Failed = new ≡ old

-- the pc of the next instruction is a multiple of 4, also where memory tells nothing
abbrev pub GoesOnAligned : Ran → Type 0
GoesOnAligned (ran.Next pc) = pc % 4 ≡ 0
GoesOnAligned (Device offset value pc) = pc % 4 ≡ 0
GoesOnAligned _ = Unit {0}

-- where memory didn't fail
abbrev pub UnlessFailed : Ran → Type 0 → Type 0
UnlessFailed Failed fact = Unit {0}
UnlessFailed _ fact = fact

-- .. and where it did
abbrev pub IfFailed : Ran → Type 0 → Type 0
IfFailed Failed fact = fact
IfFailed _ fact = Unit {0}

-- How an instruction uses memory, whatever it does: which access there is stays, and memory is fit for use unless it failed, by a
-- fault that it counted.
pub record UsesMemory {U : Type 0} (M : UserMemory U) (old new : U) (answer : Ran) : Type 0 where
  pub aligned : GoesOnAligned answer
  pub may : M.may new ≡ M.may old
  pub console : M.console new ≡ M.console old
  pub fit : UnlessFailed answer (M.fit new)
  pub unfit : IfFailed answer (¬ M.fit new)
  pub cause : IfFailed answer (Rose (M.faults old) (M.faults new))
  pub never_falls : M.faults old ≤ M.faults new
