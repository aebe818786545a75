-- What running any instruction at the pc comes to: what the tables of instructions give for the registers, the pc, the thread's
-- reservation and the memory that the process sees.
use Rattle.std.specs.Prelude.{◌≡◌, ℕ, Bool, true, false, not, List, ◌⊎◌, if◌then◌else◌, Option, None}
use Rattle.xk_base.specs.declared.pages.Access.TheVariants.{Fetch, Store}
use Rattle.xk_base.specs.declared.pages.Width.TheVariants.{Word}
use Rattle.xk_base.specs.UserMemory.{Memory}
use Rattle.machine_model.specs.Hart.Atomics.{Atomic, Performed, atomic_effect, execute_at, leaving, reserves}
use Rattle.machine_model.specs.Hart.Instructions.{Executed, Traps, puts, store_page_fault}
use Rattle.rv32_hart.specs.declared.ran.Ran.{Ran}
use Rattle.rv32_hart.specs.declared.ran.Ran.TheVariants.{Ecall, Trap, Device, Failed}
use Rattle.rv32_hart.specs.declared.ran.Ran.TheVariants as ran
use Rattle.rv32_hart.specs.Running.{IfTold, IsExecuted, KeepsView, OverBytes, View, execute_fetched, seen}

-- the word goes to the address, where the process may store there
abbrev pub puts_if_allowed : Memory → ℕ → ℕ → List ℕ → ℕ → Executed
puts_if_allowed mem address value regs pc =
    if not (mem.may Store address) then Traps store_page_fault address else puts mem address Word value regs pc

-- what a thread has in the hart: its registers, and the address that it has reserved
pub record Core : Type 0 where
  pub regs : List ℕ
  pub reserved : Option ℕ

-- what an answer leaves of a reservation that an instruction leaves unless it traps; where memory failed, it is as before
abbrev pub reserved_after : Ran → Option ℕ → Option ℕ → Option ℕ
reserved_after (ran.Next pc) before left = left
reserved_after (Device offset value pc) before left = left
reserved_after Ecall before left = None
reserved_after (Trap cause value) before left = None
reserved_after Failed before left = before

-- on a trap, a call of the kernel and a failure the registers are as before, also where memory tells nothing. An SC and an AMO that
-- store to a device have written rd.
abbrev pub LeavesRegistersUnlessDone : List ℕ → List ℕ → Ran → Type 0
LeavesRegistersUnlessDone old new (ran.Next pc) = Unit {0}
LeavesRegistersUnlessDone old new (Device offset value pc) = Unit {0}
LeavesRegistersUnlessDone old new Ecall = new ≡ old
LeavesRegistersUnlessDone old new (Trap cause value) = new ≡ old
LeavesRegistersUnlessDone old new Failed = new ≡ old

-- on a trap and a call of the kernel nothing is reserved any more, and on a failure it is as before, also where memory tells nothing
abbrev pub LeavesReserved : Option ℕ → Option ℕ → Ran → Type 0
LeavesReserved old new (ran.Next pc) = Unit {0}
LeavesReserved old new (Device offset value pc) = Unit {0}
LeavesReserved old new Ecall = new ≡ None
LeavesReserved old new (Trap cause value) = new ≡ None
LeavesReserved old new Failed = new ≡ old

-- the answer, the registers, the reservation, what is told of memory and the timer are those of a performed instruction
pub record IsPerformed (p : Performed) (before after : View) (old new : Core) (ran : Ran) : Type 0 where
  pub executed : IsExecuted p.executed before after old.regs new.regs ran
  pub reserved : new.reserved ≡ p.reserved

-- An instruction of this effect over memory is performed. Where memory told nothing, it is so over some bytes; where it failed,
-- nothing was done.
abbrev pub DoesPerform : (Memory → Performed) → View → View → Core → Core → Ran → Type 0
DoesPerform effect before after old new Failed = KeepsView before after × (new.reserved ≡ old.reserved)
DoesPerform effect before after old new answer =
    OverBytes before.content (λ byte. IsPerformed (effect (seen before byte)) before after old new answer)

-- what an atomic instruction does that stands at the pc
abbrev pub perform_atomic : Core → ℕ → Atomic → Memory → Performed
perform_atomic core pc atomic mem =
    leaving (reserves core.regs core.reserved atomic) (atomic_effect mem core.regs pc core.reserved atomic)

-- what an instruction of the base table does, or the trap of the fetch of its word
abbrev pub perform_fetched : Core → ℕ → ℕ → Memory → Performed
perform_fetched core pc word mem = leaving core.reserved (execute_fetched core.regs pc word mem)

-- The instruction at the pc is performed, over what the process reaches and what it is told to stand there. Where it is told
-- nothing, it is some atomic instruction, where the process may fetch at the pc, or that of some word.
abbrev pub Performs : View → View → Core → Core → ℕ → Ran → Type 0
Performs before after old new pc answer = IfTold before.content
    (DoesPerform (execute_at old.regs pc old.reserved) before after old new answer)
    (((atomic : Atomic) × (before.may Fetch pc ≡ true) × DoesPerform (perform_atomic old pc atomic) before after old new answer)
    ⊎ ((word : ℕ) × DoesPerform (perform_fetched old pc word) before after old new answer))

-- ---- .. or left as it is

-- the thread goes on, and stored to no device
abbrev pub goes_on : Ran → Bool
goes_on (ran.Next pc) = true
goes_on (Device offset value pc) = false
goes_on Ecall = false
goes_on (Trap cause value) = false
goes_on Failed = false

-- where the thread goes on, what the instruction leaves to it; else what it had before
abbrev pub core_left : Core → Core → Ran → Core
core_left old done answer = if goes_on answer then done else old

-- An instruction is done, or left: this holds of what it would leave to the thread. The thread has that where it goes on by it; on any
-- other answer, also where memory tells nothing, it has what it had before.
pub record DoesOrLeaves (fact : Core → Type 0) (old new : Core) (answer : Ran) : Type 0 where
  pub done : Core
  pub does : fact done
  pub core : new ≡ core_left old done answer

-- THE INSTRUCTION AT THE PC IS PERFORMED, OR LEFT: which it is, is said by the registers and the reservation with which it would be
-- performed.
abbrev pub PerformsOrLeaves : View → View → Core → Core → ℕ → Ran → Type 0
PerformsOrLeaves before after old new pc answer = DoesOrLeaves (λ done. Performs before after old done pc answer) old new answer
