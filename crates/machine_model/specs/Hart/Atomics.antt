-- The atomic instructions (RISC-V Unprivileged ISA: A 2.1): how their words are read and what each does; and with them and
-- the base table, what any word does.
use Rattle.std.specs.Prelude.{ℕ, ◌%◌, List, Bool, false, not, ◌&&◌, ◌==◌, nat_lt, bit_and, bit_or, bit_xor, if◌then◌else◌, Option, Some}
use Rattle.std.specs.Prelude.{None}
use Rattle.std.specs.Option.{option_map, option_map_or}
use Rattle.xk_base.specs.declared.pages.Access.TheVariants.{Fetch, Load, Store}
use Rattle.xk_base.specs.declared.pages.Width.TheVariants.{Word}
use Rattle.xk_base.specs.Numbers.Fields.{field}
use Rattle.xk_base.specs.Calls.Registers.{with_reg}
use Rattle.xk_base.specs.UserMemory.{Memory, number_at, number_loaded}
use Rattle.rv32_words.specs.Reading.{opcode_of, funct3_of, rd_of, rs1_of, rs2_of}
use Rattle.machine_model.specs.Hart.Instructions.{Executed, Next, Stores, StoresToConsole, StoresToTimer, CallsKernel, Traps, execute_base}
use Rattle.machine_model.specs.Hart.Instructions.{fetch_page_fault, following, loads, puts, signed_below, store_misaligned}
use Rattle.machine_model.specs.Hart.Instructions.{store_page_fault, sum_of, x}

-- ---- the table

-- what an AMO makes of the word in memory and the word in rs2
pub data Operation : Type 0 where
  Swap : Operation
  Add : Operation
  Xor : Operation
  And : Operation
  Or : Operation
  Min : Operation
  Max : Operation
  Minu : Operation
  Maxu : Operation

-- An instruction, without its bits aq and rl, which have no effect on a machine that does one instruction at a time.
pub data Atomic : Type 0 where
  LoadReserved : (rd rs1 : ℕ) → Atomic
  StoreConditional : (rd rs1 rs2 : ℕ) → Atomic
  Amo : (operation : Operation) (rd rs1 rs2 : ℕ) → Atomic

-- bits 31 to 27 of a word
abbrev pub funct5_of : ℕ → ℕ
funct5_of word = field 27 5 word

abbrev pub operation_at : ℕ → Option Operation
operation_at funct5 =
    if funct5 == 0b00001 then Some Swap else (
    if funct5 == 0b00000 then Some Add else (
    if funct5 == 0b00100 then Some Xor else (
    if funct5 == 0b01100 then Some And else (
    if funct5 == 0b01000 then Some Or else (
    if funct5 == 0b10000 then Some Min else (
    if funct5 == 0b10100 then Some Max else (
    if funct5 == 0b11000 then Some Minu else (
    if funct5 == 0b11100 then Some Maxu else None))))))))

-- The instruction of these fields. LR has no second source, and 0 in its place.
abbrev pub atomic_of : (funct5 rd rs1 rs2 : ℕ) → Option Atomic
atomic_of funct5 rd rs1 rs2 =
    if funct5 == 0b00010 then (if rs2 == 0 then Some (LoadReserved rd rs1) else None) else (
    if funct5 == 0b00011 then Some (StoreConditional rd rs1 rs2) else
    option_map (λ operation. Amo operation rd rs1 rs2) (operation_at funct5))

-- the atomic instruction that the word spells, if one does
unfoldable pub atomic_at : ℕ → Option Atomic
atomic_at word =
    if opcode_of word == 0b0101111 && funct3_of word == 0b010
    then atomic_of (funct5_of word) (rd_of word) (rs1_of word) (rs2_of word)
    else None

-- ---- what comes of an instruction with its reservation

-- what comes of an instruction, and the address that its thread has reserved afterwards, if it has
pub record Performed : Type 0 where
  pub executed : Executed
  pub reserved : Option ℕ

-- a trap and a call of the kernel end a reservation
abbrev pub unless_ended : Option ℕ → Executed → Option ℕ
unless_ended reserved (Next regs pc) = reserved
unless_ended reserved (Stores address width value regs pc) = reserved
unless_ended reserved (StoresToConsole offset value regs pc) = reserved
unless_ended reserved (StoresToTimer offset width value regs pc) = reserved
unless_ended reserved CallsKernel = None
unless_ended reserved (Traps cause value) = None

-- an instruction that leaves this reservation, unless it traps or calls the kernel
abbrev pub leaving : Option ℕ → Executed → Performed
leaving reserved executed = record { executed = executed; reserved = unless_ended reserved executed }

-- ---- each instruction

-- what an AMO stores, of the word in memory and the word in rs2
abbrev pub result_of : Operation → ℕ → ℕ → ℕ
result_of Swap old operand = operand
result_of Add old operand = sum_of old operand
result_of Xor old operand = bit_xor old operand
result_of And old operand = bit_and old operand
result_of Or old operand = bit_or old operand
result_of Min old operand = if signed_below old operand then old else operand
result_of Max old operand = if signed_below old operand then operand else old
result_of Minu old operand = if nat_lt old operand then old else operand
result_of Maxu old operand = if nat_lt old operand then operand else old

-- the address is the reserved one
abbrev pub is_reserved : Option ℕ → ℕ → Bool
is_reserved reserved address = option_map_or (λ a. a == address) reserved false

-- SC: where the address is reserved, the value goes there and rd gets 0; and else nothing is stored and rd gets 1. It needs the
-- access either way.
abbrev pub stores_conditionally : Memory → List ℕ → ℕ → ℕ → ℕ → Option ℕ → ℕ → Executed
stores_conditionally mem regs pc rd address reserved value =
    if not (address % 4 == 0) then Traps store_misaligned address else (
    if not (mem.may Store address) then Traps store_page_fault address else (
    if is_reserved reserved address then puts mem address Word value (with_reg regs rd 0) (following pc) else
    Next (with_reg regs rd 1) (following pc)))

-- An AMO: rd gets the old word, and the result goes to its place. A fault of either access is that of a store.
abbrev pub operates : Memory → List ℕ → ℕ → ℕ → ℕ → (ℕ → ℕ) → Executed
operates mem regs pc rd address result =
    if not (address % 4 == 0) then Traps store_misaligned address else (
    if not (mem.may Load address && mem.may Store address) then Traps store_page_fault address else
    let old = number_loaded mem address Word in
    puts mem address Word (result old) (with_reg regs rd old) (following pc))

-- What an atomic instruction does that stands at `pc`. The address is that in rs1; rs1 and rs2 are read before rd is written.
abbrev pub atomic_effect : Memory → List ℕ → ℕ → Option ℕ → Atomic → Executed
atomic_effect mem regs pc reserved (LoadReserved rd rs1) = loads mem regs pc rd (x regs rs1) Word (λ word. word)
atomic_effect mem regs pc reserved (StoreConditional rd rs1 rs2) =
    stores_conditionally mem regs pc rd (x regs rs1) reserved (x regs rs2)
atomic_effect mem regs pc reserved (Amo operation rd rs1 rs2) =
    operates mem regs pc rd (x regs rs1) (λ old. result_of operation old (x regs rs2))

-- the reservation that it leaves, unless it traps: LR reserves its address, and each SC ends a reservation
abbrev pub reserves : List ℕ → Option ℕ → Atomic → Option ℕ
reserves regs reserved (LoadReserved rd rs1) = Some (x regs rs1)
reserves regs reserved (StoreConditional rd rs1 rs2) = None
reserves regs reserved (Amo operation rd rs1 rs2) = reserved

-- ---- any instruction

-- a word without an atomic instruction is one of the base table
abbrev pub perform : Memory → List ℕ → ℕ → ℕ → Option ℕ → Option Atomic → Performed
perform mem regs pc word reserved None = leaving reserved (execute_base regs pc word mem)
perform mem regs pc word reserved (Some atomic) =
    leaving (reserves regs reserved atomic) (atomic_effect mem regs pc reserved atomic)

-- what a word does that stands at `pc`, where its thread has reserved this address, if it has
unfoldable pub execute : List ℕ → ℕ → ℕ → Option ℕ → Memory → Performed
execute regs pc word reserved mem = perform mem regs pc word reserved (atomic_at word)

-- what the instruction does that stands at `pc`, which is a multiple of 4
unfoldable pub execute_at : List ℕ → ℕ → Option ℕ → Memory → Performed
execute_at regs pc reserved mem =
    if mem.may Fetch pc
    then execute regs pc (number_at mem.byte pc Word) reserved mem
    else leaving reserved (Traps fetch_page_fault pc)
