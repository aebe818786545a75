-- What one instruction of the base table does, over any memory that it may see (RISC-V Unprivileged ISA: RV32I 2.1, M 2.0,
-- Zifencei 2.0). Words are numbers below 2 ^ 32, and arithmetic wraps there.
use Rattle.std.specs.Prelude.{ℕ, ◌+◌, ◌-◌, ◌*◌, ◌/◌, ◌%◌, ◌^◌, List, is_some, ℤ, pos, ◌*ℤ◌, Bool, not, ◌==◌, nat_lt, int_lt, int_div}
use Rattle.std.specs.Prelude.{int_rem, bit_and, bit_or, bit_xor, if◌then◌else◌, Option, Some, None}
use Rattle.std.specs.Int.{w8, w16, w32, w64, cast_signed, cast_unsigned, int_shr}
use Rattle.xk_base.specs.declared.pages.Access.TheVariants.{Fetch, Load, Store}
use Rattle.xk_base.specs.declared.pages.Width.{Width}
use Rattle.xk_base.specs.declared.pages.Width.TheVariants.{Byte, Half, Word}
use Rattle.xk_base.specs.Calls.Registers.{reg_at, with_reg}
use Rattle.xk_base.specs.UserMemory.{Memory, size_of, number_at, number_loaded, timer_at}
use Rattle.rv32_words.specs.declared.insn.Insn.{Insn}
use Rattle.rv32_words.specs.declared.insn.Insn.TheVariants.{Lui, Auipc, Jal, Jalr, Beq, Bne, Blt, Bge, Bltu, Bgeu, Lb, Lh, Lw, Lbu, Lhu, Sb}
use Rattle.rv32_words.specs.declared.insn.Insn.TheVariants.{Sh, Sw, Addi, Slti, Sltiu, Xori, Ori, Andi, Slli, Srli, Srai, Add, Sub, Sll}
use Rattle.rv32_words.specs.declared.insn.Insn.TheVariants.{Slt, Sltu, Xor, Srl, Sra, Or, And, Mul, Mulh, Mulhsu, Mulhu, Div, Divu, Rem}
use Rattle.rv32_words.specs.declared.insn.Insn.TheVariants.{Remu, Fence, FenceI, Ecall, Ebreak}
use Rattle.rv32_words.specs.Reading.{insn_at}

-- ---- what comes of an instruction

-- A trap changes no register. Its causes are those of the RISC-V Privileged Architecture, 4.1.8.
pub data Executed : Type 0 where
  -- the registers and the pc afterwards
  Next : (regs : List ℕ) (pc : ℕ) → Executed
  -- besides, the low bytes of the value go to memory, the lowest first
  Stores : (address : ℕ) (width : Width) (value : ℕ) (regs : List ℕ) (pc : ℕ) → Executed
  -- besides, the value goes to this offset of the console's page
  StoresToConsole : (offset value : ℕ) (regs : List ℕ) (pc : ℕ) → Executed
  -- besides, the low bytes of the value go to this offset of the timer's page
  StoresToTimer : (offset : ℕ) (width : Width) (value : ℕ) (regs : List ℕ) (pc : ℕ) → Executed
  -- ECALL: the registers and the pc stay, and the kernel does the call
  CallsKernel : Executed
  Traps : (cause value : ℕ) → Executed

abbrev pub target_misaligned : ℕ
target_misaligned = 0

abbrev pub illegal_instruction : ℕ
illegal_instruction = 2

abbrev pub breakpoint : ℕ
breakpoint = 3

abbrev pub load_misaligned : ℕ
load_misaligned = 4

abbrev pub store_misaligned : ℕ
store_misaligned = 6

abbrev pub fetch_page_fault : ℕ
fetch_page_fault = 12

abbrev pub load_page_fault : ℕ
load_page_fault = 13

abbrev pub store_page_fault : ℕ
store_page_fault = 15

-- ---- arithmetic on words

-- what register xr holds
abbrev pub x : List ℕ → ℕ → ℕ
x regs r = reg_at regs r

-- an immediate as a word
abbrev pub as_word : ℤ → ℕ
as_word imm = cast_unsigned w32 imm

-- a word as a signed number
abbrev pub signed : ℕ → ℤ
signed a = cast_signed w32 a

abbrev pub sum_of : ℕ → ℕ → ℕ
sum_of a b = (a + b) % 2 ^ 32

abbrev pub difference_of : ℕ → ℕ → ℕ
difference_of a b = (a + (2 ^ 32 - b)) % 2 ^ 32

-- 1 where the test holds, else 0
abbrev pub flag_of : Bool → ℕ
flag_of test = if test then 1 else 0

-- `a` is below `b` as signed numbers
abbrev pub signed_below : ℕ → ℕ → Bool
signed_below a b = int_lt (signed a) (signed b)

-- shifts by the low five bits of the second word; the last keeps the sign
abbrev pub left_shift_of : ℕ → ℕ → ℕ
left_shift_of a b = (a * 2 ^ (b % 32)) % 2 ^ 32

abbrev pub right_shift_of : ℕ → ℕ → ℕ
right_shift_of a b = a / 2 ^ (b % 32)

abbrev pub signed_right_shift_of : ℕ → ℕ → ℕ
signed_right_shift_of a b = cast_unsigned w32 (int_shr (signed a) (b % 32))

-- the upper 32 bits of a product of 64 bits
abbrev pub upper_half : ℤ → ℕ
upper_half product = cast_unsigned w64 product / 2 ^ 32

-- A quotient by 0 is all ones, and its remainder the dividend. The signed quotient rounds towards 0, and that of
-- -2 ^ 31 by -1 wraps to -2 ^ 31, with the remainder 0.
abbrev pub signed_quotient : ℕ → ℕ → ℕ
signed_quotient a b = if b == 0 then 2 ^ 32 - 1 else cast_unsigned w32 (int_div (signed a) (signed b))

abbrev pub quotient : ℕ → ℕ → ℕ
quotient a b = if b == 0 then 2 ^ 32 - 1 else a / b

abbrev pub signed_remainder : ℕ → ℕ → ℕ
signed_remainder a b = if b == 0 then a else cast_unsigned w32 (int_rem (signed a) (signed b))

abbrev pub remainder : ℕ → ℕ → ℕ
remainder a b = if b == 0 then a else a % b

-- the low byte or half of a word, its sign extended to 32 bits
abbrev pub sign_extended_byte : ℕ → ℕ
sign_extended_byte a = cast_unsigned w32 (cast_signed w8 (a % 2 ^ 8))

abbrev pub sign_extended_half : ℕ → ℕ
sign_extended_half a = cast_unsigned w32 (cast_signed w16 (a % 2 ^ 16))

-- ---- the kinds of instruction

-- the pc of the instruction that follows
abbrev pub following : ℕ → ℕ
following pc = (pc + 4) % 2 ^ 32

-- rd gets the value
abbrev pub writes : List ℕ → ℕ → ℕ → ℕ → Executed
writes regs pc rd value = Next (with_reg regs rd value) (following pc)

-- the address of a load or a store
abbrev pub address_of : List ℕ → ℕ → ℤ → ℕ
address_of regs rs1 imm = sum_of (x regs rs1) (as_word imm)

-- a jump: rd gets the pc of the instruction that follows
abbrev pub jumps : List ℕ → ℕ → ℕ → ℕ → Executed
jumps regs pc rd target =
    if target % 4 == 0 then Next (with_reg regs rd (following pc)) target else Traps target_misaligned target

-- a branch that is taken where the test holds
abbrev pub branches : List ℕ → ℕ → ℤ → Bool → Executed
branches regs pc imm taken =
    let target = sum_of pc (as_word imm) in
    if taken
    then (if target % 4 == 0 then Next regs target else Traps target_misaligned target)
    else Next regs (following pc)

-- a load of the number at the address, which is first taken through `extend`. An address that is not a multiple
-- of the width traps before the access is asked for.
abbrev pub loads : Memory → List ℕ → ℕ → ℕ → ℕ → Width → (ℕ → ℕ) → Executed
loads mem regs pc rd address width extend =
    if not (address % size_of width == 0) then Traps load_misaligned address else (
    if not (mem.may Load address) then Traps load_page_fault address else
    writes regs pc rd (extend (number_loaded mem address width)))

-- The low bytes of the value go to the address, where the process may store: to the console's page, the timer's, or memory.
-- The registers and the pc afterwards are these.
abbrev pub puts : Memory → ℕ → Width → ℕ → List ℕ → ℕ → Executed
puts mem address width value regs pc =
    if mem.console address then StoresToConsole (address % 4096) value regs pc else (
    if is_some (timer_at mem.timer address) then StoresToTimer (address % 4096) width value regs pc else
    Stores address width value regs pc)

-- a store of the low bytes of the value
abbrev pub stores : Memory → List ℕ → ℕ → ℕ → Width → ℕ → Executed
stores mem regs pc address width value =
    if not (address % size_of width == 0) then Traps store_misaligned address else (
    if not (mem.may Store address) then Traps store_page_fault address else
    puts mem address width value regs (following pc))

-- ---- each instruction

-- what an instruction that stands at `pc` does
abbrev pub effect : Memory → List ℕ → ℕ → Insn → Executed
effect mem regs pc (Lui rd imm) = writes regs pc rd imm
effect mem regs pc (Auipc rd imm) = writes regs pc rd (sum_of pc imm)
effect mem regs pc (Jal rd imm) = jumps regs pc rd (sum_of pc (as_word imm))
effect mem regs pc (Jalr rd rs1 imm) = let sum = sum_of (x regs rs1) (as_word imm) in jumps regs pc rd (sum - sum % 2)
effect mem regs pc (Beq rs1 rs2 imm) = branches regs pc imm (x regs rs1 == x regs rs2)
effect mem regs pc (Bne rs1 rs2 imm) = branches regs pc imm (not (x regs rs1 == x regs rs2))
effect mem regs pc (Blt rs1 rs2 imm) = branches regs pc imm (signed_below (x regs rs1) (x regs rs2))
effect mem regs pc (Bge rs1 rs2 imm) = branches regs pc imm (not (signed_below (x regs rs1) (x regs rs2)))
effect mem regs pc (Bltu rs1 rs2 imm) = branches regs pc imm (nat_lt (x regs rs1) (x regs rs2))
effect mem regs pc (Bgeu rs1 rs2 imm) = branches regs pc imm (not (nat_lt (x regs rs1) (x regs rs2)))
effect mem regs pc (Lb rd rs1 imm) = loads mem regs pc rd (address_of regs rs1 imm) Byte sign_extended_byte
effect mem regs pc (Lh rd rs1 imm) = loads mem regs pc rd (address_of regs rs1 imm) Half sign_extended_half
effect mem regs pc (Lw rd rs1 imm) = loads mem regs pc rd (address_of regs rs1 imm) Word (λ v. v)
effect mem regs pc (Lbu rd rs1 imm) = loads mem regs pc rd (address_of regs rs1 imm) Byte (λ v. v)
effect mem regs pc (Lhu rd rs1 imm) = loads mem regs pc rd (address_of regs rs1 imm) Half (λ v. v)
effect mem regs pc (Sb rs1 rs2 imm) = stores mem regs pc (address_of regs rs1 imm) Byte (x regs rs2)
effect mem regs pc (Sh rs1 rs2 imm) = stores mem regs pc (address_of regs rs1 imm) Half (x regs rs2)
effect mem regs pc (Sw rs1 rs2 imm) = stores mem regs pc (address_of regs rs1 imm) Word (x regs rs2)
effect mem regs pc (Addi rd rs1 imm) = writes regs pc rd (sum_of (x regs rs1) (as_word imm))
effect mem regs pc (Slti rd rs1 imm) = writes regs pc rd (flag_of (signed_below (x regs rs1) (as_word imm)))
effect mem regs pc (Sltiu rd rs1 imm) = writes regs pc rd (flag_of (nat_lt (x regs rs1) (as_word imm)))
effect mem regs pc (Xori rd rs1 imm) = writes regs pc rd (bit_xor (x regs rs1) (as_word imm))
effect mem regs pc (Ori rd rs1 imm) = writes regs pc rd (bit_or (x regs rs1) (as_word imm))
effect mem regs pc (Andi rd rs1 imm) = writes regs pc rd (bit_and (x regs rs1) (as_word imm))
effect mem regs pc (Slli rd rs1 shamt) = writes regs pc rd (left_shift_of (x regs rs1) shamt)
effect mem regs pc (Srli rd rs1 shamt) = writes regs pc rd (right_shift_of (x regs rs1) shamt)
effect mem regs pc (Srai rd rs1 shamt) = writes regs pc rd (signed_right_shift_of (x regs rs1) shamt)
effect mem regs pc (Add rd rs1 rs2) = writes regs pc rd (sum_of (x regs rs1) (x regs rs2))
effect mem regs pc (Sub rd rs1 rs2) = writes regs pc rd (difference_of (x regs rs1) (x regs rs2))
effect mem regs pc (Sll rd rs1 rs2) = writes regs pc rd (left_shift_of (x regs rs1) (x regs rs2))
effect mem regs pc (Slt rd rs1 rs2) = writes regs pc rd (flag_of (signed_below (x regs rs1) (x regs rs2)))
effect mem regs pc (Sltu rd rs1 rs2) = writes regs pc rd (flag_of (nat_lt (x regs rs1) (x regs rs2)))
effect mem regs pc (Xor rd rs1 rs2) = writes regs pc rd (bit_xor (x regs rs1) (x regs rs2))
effect mem regs pc (Srl rd rs1 rs2) = writes regs pc rd (right_shift_of (x regs rs1) (x regs rs2))
effect mem regs pc (Sra rd rs1 rs2) = writes regs pc rd (signed_right_shift_of (x regs rs1) (x regs rs2))
effect mem regs pc (Or rd rs1 rs2) = writes regs pc rd (bit_or (x regs rs1) (x regs rs2))
effect mem regs pc (And rd rs1 rs2) = writes regs pc rd (bit_and (x regs rs1) (x regs rs2))
effect mem regs pc (Mul rd rs1 rs2) = writes regs pc rd (x regs rs1 * x regs rs2 % 2 ^ 32)
effect mem regs pc (Mulh rd rs1 rs2) = writes regs pc rd (upper_half (signed (x regs rs1) *ℤ signed (x regs rs2)))
effect mem regs pc (Mulhsu rd rs1 rs2) = writes regs pc rd (upper_half (signed (x regs rs1) *ℤ pos (x regs rs2)))
effect mem regs pc (Mulhu rd rs1 rs2) = writes regs pc rd (x regs rs1 * x regs rs2 / 2 ^ 32)
effect mem regs pc (Div rd rs1 rs2) = writes regs pc rd (signed_quotient (x regs rs1) (x regs rs2))
effect mem regs pc (Divu rd rs1 rs2) = writes regs pc rd (quotient (x regs rs1) (x regs rs2))
effect mem regs pc (Rem rd rs1 rs2) = writes regs pc rd (signed_remainder (x regs rs1) (x regs rs2))
effect mem regs pc (Remu rd rs1 rs2) = writes regs pc rd (remainder (x regs rs1) (x regs rs2))
effect mem regs pc (Fence rd rs1 imm) = Next regs (following pc)
effect mem regs pc (FenceI rd rs1 imm) = Next regs (following pc)
effect mem regs pc Ecall = CallsKernel
effect mem regs pc Ebreak = Traps breakpoint pc

-- what the instruction of a word does; a word without one traps
abbrev pub effect_if_any : Memory → List ℕ → ℕ → ℕ → Option Insn → Executed
effect_if_any mem regs pc word None = Traps illegal_instruction word
effect_if_any mem regs pc word (Some insn) = effect mem regs pc insn

-- what a word of the base table does that stands at `pc`
unfoldable pub execute_base : List ℕ → ℕ → ℕ → Memory → Executed
execute_base regs pc word mem = effect_if_any mem regs pc word (insn_at word)

-- what the instruction of the base table does that stands at `pc`, which is a multiple of 4
unfoldable pub execute_base_at : List ℕ → ℕ → Memory → Executed
execute_base_at regs pc mem =
    if mem.may Fetch pc then execute_base regs pc (number_at mem.byte pc Word) mem else Traps fetch_page_fault pc
