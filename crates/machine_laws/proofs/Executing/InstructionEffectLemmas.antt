-- What every instruction keeps: the pc afterwards is the address of an instruction, and what it stores lies at an address that is a
-- multiple of its width.
use Rattle.std.proofs.Common.{◌≡◌, ℕ, ◌-◌, Bool, true, false, List, Option, Some, None, refl, arith}
use Rattle.std.specs.Prelude.{◌%◌, ◌==◌, ◌&&◌, ℤ, is_some, not, nat_lt, if◌then◌else◌}
use Rattle.std.proofs.lemmas.Bool.{eqb-true, false≢true}
use Rattle.xk_base.specs.declared.pages.Access.TheVariants.{Fetch, Load, Store}
use Rattle.xk_base.specs.declared.pages.Width.{Width}
use Rattle.xk_base.specs.declared.pages.Width.TheVariants.{Byte, Half, Word}
use Rattle.xk_base.specs.Calls.Registers.{with_reg}
use Rattle.xk_base.specs.UserMemory.{Memory, Timer, size_of, number_at, number_loaded, timer_at}
use Rattle.rv32_words.specs.declared.insn.Insn.{Insn}
use Rattle.rv32_words.specs.declared.insn.Insn.TheVariants.{Lui, Auipc, Jal, Jalr, Beq, Bne, Blt, Bge, Bltu, Bgeu, Lb, Lh, Lw, Lbu, Lhu, Sb, Sh, Sw, Addi, Slti, Sltiu, Xori, Ori, Andi, Slli, Srli, Srai, Add, Sub, Sll, Slt, Sltu, Xor, Srl, Sra, Or, And, Mul, Mulh, Mulhsu, Mulhu, Div, Divu, Rem, Remu, Fence, FenceI, Ecall, Ebreak}
use Rattle.rv32_words.specs.Reading.{insn_at}
use Rattle.machine_model.specs.Hart.Atomics.{Atomic, LoadReserved, StoreConditional, Amo, atomic_at, execute, execute_at, is_reserved, leaving, operates, perform, result_of, stores_conditionally}
use Rattle.machine_model.specs.Hart.Instructions.{Executed, Next, Stores, StoresToConsole, StoresToTimer, CallsKernel, Traps, x, as_word, sum_of, signed_below, following, address_of, jumps, branches, loads, puts, stores, effect, effect_if_any, execute_base, sign_extended_byte, sign_extended_half, target_misaligned}
use Rattle.machine_model.specs.Hart.Instructions.{load_misaligned, load_page_fault, store_misaligned, store_page_fault, fetch_page_fault, writes}

-- the pc afterwards; 0 where the instruction doesn't tell it
abbrev pub pc_after : Executed → ℕ
pc_after (Next regs pc) = pc
pc_after (Stores address width value regs pc) = pc
pc_after (StoresToConsole offset value regs pc) = pc
pc_after (StoresToTimer offset width value regs pc) = pc
pc_after CallsKernel = 0
pc_after (Traps cause value) = 0

-- what is stored lies at a multiple of its width
abbrev pub is_store_whole : Executed → Bool
is_store_whole (Next regs pc) = true
is_store_whole (Stores address width value regs pc) = address % size_of width == 0
is_store_whole (StoresToConsole offset value regs pc) = true
is_store_whole (StoresToTimer offset width value regs pc) = true
is_store_whole CallsKernel = true
is_store_whole (Traps cause value) = true

-- the timer's page is stored to only where it is there
abbrev pub has_timer : Memory → Executed → Bool
has_timer mem (Next regs pc) = true
has_timer mem (Stores address width value regs pc) = true
has_timer mem (StoresToConsole offset value regs pc) = true
has_timer mem (StoresToTimer offset width value regs pc) = is_some mem.timer
has_timer mem CallsKernel = true
has_timer mem (Traps cause value) = true

abbrev pub IsSound : Memory → Executed → Type 0
IsSound mem e = (pc_after e % 4 ≡ 0) × (is_store_whole e ≡ true) × (has_timer mem e ≡ true)

pub following_aligned : (pc : ℕ) → pc % 4 ≡ 0 → following pc % 4 ≡ 0
following_aligned pc al = omega arith

next_sound : (pc : ℕ) → pc % 4 ≡ 0 → (following pc % 4 ≡ 0) × (true ≡ true) × (true ≡ true)
next_sound pc al = (following_aligned pc al, refl, refl)

jumps_sound : (mem : Memory) (regs : List ℕ) (pc rd target : ℕ) → IsSound mem (jumps regs pc rd target)
jumps_sound mem regs pc rd target = go (target % 4 == 0) refl
  where
    go : (b : Bool) → target % 4 == 0 ≡ b → IsSound mem (if b then Next (with_reg regs rd (following pc)) target else Traps target_misaligned target)
    go true e = (eqb-true (target % 4) 0 e, refl, refl)
    go false e = (refl, refl, refl)

branches_sound : (mem : Memory) (regs : List ℕ) (pc : ℕ) (imm : ℤ) (taken : Bool) → pc % 4 ≡ 0 → IsSound mem (branches regs pc imm taken)
branches_sound mem regs pc imm false al = next_sound pc al
branches_sound mem regs pc imm true al = go (sum_of pc (as_word imm)) (sum_of pc (as_word imm) % 4 == 0) refl
  where
    go : (target : ℕ) (b : Bool) → target % 4 == 0 ≡ b → IsSound mem (if b then Next regs target else Traps target_misaligned target)
    go target true e = (eqb-true (target % 4) 0 e, refl, refl)
    go target false e = (refl, refl, refl)

loads_sound : (mem : Memory) (regs : List ℕ) (pc rd address : ℕ) (width : Width) (extend : ℕ → ℕ) → pc % 4 ≡ 0
    → IsSound mem (loads mem regs pc rd address width extend)
loads_sound mem regs pc rd address width extend al = go (not (address % size_of width == 0)) (not (mem.may Load address))
  where
    go : (b c : Bool) → IsSound mem (if b then Traps load_misaligned address else (
        if c then Traps load_page_fault address else writes regs pc rd (extend (number_loaded mem address width))))
    go true c = (refl, refl, refl)
    go false true = (refl, refl, refl)
    go false false = next_sound pc al

-- what goes to memory at a multiple of its width
puts_sound : (mem : Memory) (address : ℕ) (width : Width) (value : ℕ) (regs : List ℕ) (pc : ℕ) → pc % 4 ≡ 0
    → address % size_of width == 0 ≡ true → IsSound mem (puts mem address width value regs pc)
puts_sound mem address width value regs pc al e = go (mem.console address) (is_some (timer_at mem.timer address)) refl
  where
    timer_there : (o : Option Timer) → is_some (timer_at o address) ≡ true → is_some o ≡ true
    timer_there None q = absurd (false≢true q)
    timer_there (Some timer) q = refl

    go : (b c : Bool) → is_some (timer_at mem.timer address) ≡ c → IsSound mem (if b then StoresToConsole (address % 4096) value regs pc else (
        if c then StoresToTimer (address % 4096) width value regs pc else Stores address width value regs pc))
    go true c q = (al, refl, refl)
    go false true q = (al, refl, timer_there mem.timer q)
    go false false q = (al, e, refl)

stores_sound : (mem : Memory) (regs : List ℕ) (pc address : ℕ) (width : Width) (value : ℕ) → pc % 4 ≡ 0
    → IsSound mem (stores mem regs pc address width value)
stores_sound mem regs pc address width value al =
    go (address % size_of width == 0) refl (not (mem.may Store address))
  where
    go : (b : Bool) → address % size_of width == 0 ≡ b → (c : Bool) → IsSound mem (if not b then Traps store_misaligned address else (
        if c then Traps store_page_fault address else puts mem address width value regs (following pc)))
    go false e c = (refl, refl, refl)
    go true e true = (refl, refl, refl)
    go true e false = puts_sound mem address width value regs (following pc) (following_aligned pc al) e

effect_sound : (mem : Memory) (regs : List ℕ) (pc : ℕ) (insn : Insn) → pc % 4 ≡ 0 → IsSound mem (effect mem regs pc insn)
effect_sound mem regs pc (Lui rd imm) al = next_sound pc al
effect_sound mem regs pc (Auipc rd imm) al = next_sound pc al
effect_sound mem regs pc (Jal rd imm) al = jumps_sound mem regs pc rd (sum_of pc (as_word imm))
effect_sound mem regs pc (Jalr rd rs1 imm) al = let sum = sum_of (x regs rs1) (as_word imm) in jumps_sound mem regs pc rd (sum - sum % 2)
effect_sound mem regs pc (Beq rs1 rs2 imm) al = branches_sound mem regs pc imm (x regs rs1 == x regs rs2) al
effect_sound mem regs pc (Bne rs1 rs2 imm) al = branches_sound mem regs pc imm (not (x regs rs1 == x regs rs2)) al
effect_sound mem regs pc (Blt rs1 rs2 imm) al = branches_sound mem regs pc imm (signed_below (x regs rs1) (x regs rs2)) al
effect_sound mem regs pc (Bge rs1 rs2 imm) al = branches_sound mem regs pc imm (not (signed_below (x regs rs1) (x regs rs2))) al
effect_sound mem regs pc (Bltu rs1 rs2 imm) al = branches_sound mem regs pc imm (nat_lt (x regs rs1) (x regs rs2)) al
effect_sound mem regs pc (Bgeu rs1 rs2 imm) al = branches_sound mem regs pc imm (not (nat_lt (x regs rs1) (x regs rs2))) al
effect_sound mem regs pc (Lb rd rs1 imm) al = loads_sound mem regs pc rd (address_of regs rs1 imm) Byte sign_extended_byte al
effect_sound mem regs pc (Lh rd rs1 imm) al = loads_sound mem regs pc rd (address_of regs rs1 imm) Half sign_extended_half al
effect_sound mem regs pc (Lw rd rs1 imm) al = loads_sound mem regs pc rd (address_of regs rs1 imm) Word (λ v. v) al
effect_sound mem regs pc (Lbu rd rs1 imm) al = loads_sound mem regs pc rd (address_of regs rs1 imm) Byte (λ v. v) al
effect_sound mem regs pc (Lhu rd rs1 imm) al = loads_sound mem regs pc rd (address_of regs rs1 imm) Half (λ v. v) al
effect_sound mem regs pc (Sb rs1 rs2 imm) al = stores_sound mem regs pc (address_of regs rs1 imm) Byte (x regs rs2) al
effect_sound mem regs pc (Sh rs1 rs2 imm) al = stores_sound mem regs pc (address_of regs rs1 imm) Half (x regs rs2) al
effect_sound mem regs pc (Sw rs1 rs2 imm) al = stores_sound mem regs pc (address_of regs rs1 imm) Word (x regs rs2) al
effect_sound mem regs pc (Addi rd rs1 imm) al = next_sound pc al
effect_sound mem regs pc (Slti rd rs1 imm) al = next_sound pc al
effect_sound mem regs pc (Sltiu rd rs1 imm) al = next_sound pc al
effect_sound mem regs pc (Xori rd rs1 imm) al = next_sound pc al
effect_sound mem regs pc (Ori rd rs1 imm) al = next_sound pc al
effect_sound mem regs pc (Andi rd rs1 imm) al = next_sound pc al
effect_sound mem regs pc (Slli rd rs1 shamt) al = next_sound pc al
effect_sound mem regs pc (Srli rd rs1 shamt) al = next_sound pc al
effect_sound mem regs pc (Srai rd rs1 shamt) al = next_sound pc al
effect_sound mem regs pc (Add rd rs1 rs2) al = next_sound pc al
effect_sound mem regs pc (Sub rd rs1 rs2) al = next_sound pc al
effect_sound mem regs pc (Sll rd rs1 rs2) al = next_sound pc al
effect_sound mem regs pc (Slt rd rs1 rs2) al = next_sound pc al
effect_sound mem regs pc (Sltu rd rs1 rs2) al = next_sound pc al
effect_sound mem regs pc (Xor rd rs1 rs2) al = next_sound pc al
effect_sound mem regs pc (Srl rd rs1 rs2) al = next_sound pc al
effect_sound mem regs pc (Sra rd rs1 rs2) al = next_sound pc al
effect_sound mem regs pc (Or rd rs1 rs2) al = next_sound pc al
effect_sound mem regs pc (And rd rs1 rs2) al = next_sound pc al
effect_sound mem regs pc (Mul rd rs1 rs2) al = next_sound pc al
effect_sound mem regs pc (Mulh rd rs1 rs2) al = next_sound pc al
effect_sound mem regs pc (Mulhsu rd rs1 rs2) al = next_sound pc al
effect_sound mem regs pc (Mulhu rd rs1 rs2) al = next_sound pc al
effect_sound mem regs pc (Div rd rs1 rs2) al = next_sound pc al
effect_sound mem regs pc (Divu rd rs1 rs2) al = next_sound pc al
effect_sound mem regs pc (Rem rd rs1 rs2) al = next_sound pc al
effect_sound mem regs pc (Remu rd rs1 rs2) al = next_sound pc al
effect_sound mem regs pc (Fence rd rs1 imm) al = next_sound pc al
effect_sound mem regs pc (FenceI rd rs1 imm) al = next_sound pc al
effect_sound mem regs pc Ecall al = (refl, refl, refl)
effect_sound mem regs pc Ebreak al = (refl, refl, refl)

effect_if_any_sound : (mem : Memory) (regs : List ℕ) (pc word : ℕ) (o : Option Insn) → pc % 4 ≡ 0
    → IsSound mem (effect_if_any mem regs pc word o)
effect_if_any_sound mem regs pc word None al = (refl, refl, refl)
effect_if_any_sound mem regs pc word (Some insn) al = effect_sound mem regs pc insn al

base_sound : (regs : List ℕ) (pc word : ℕ) (mem : Memory) → pc % 4 ≡ 0 → IsSound mem (execute_base regs pc word mem)
unfolding execute_base
base_sound regs pc word mem al = effect_if_any_sound mem regs pc word (insn_at word) al

-- ---- atomic instructions

conditional_sound : (mem : Memory) (regs : List ℕ) (pc rd address : ℕ) (reserved : Option ℕ) (value : ℕ) → pc % 4 ≡ 0
    → IsSound mem (stores_conditionally mem regs pc rd address reserved value)
conditional_sound mem regs pc rd address reserved value al =
    go (address % 4 == 0) refl (not (mem.may Store address)) (is_reserved reserved address)
  where
    go : (b : Bool) → address % 4 == 0 ≡ b → (c d : Bool) → IsSound mem (if not b then Traps store_misaligned address else (
        if c then Traps store_page_fault address else (
        if d then puts mem address Word value (with_reg regs rd 0) (following pc) else Next (with_reg regs rd 1) (following pc))))
    go false e c d = (refl, refl, refl)
    go true e true d = (refl, refl, refl)
    go true e false true = puts_sound mem address Word value (with_reg regs rd 0) (following pc) (following_aligned pc al) e
    go true e false false = next_sound pc al

operates_sound : (mem : Memory) (regs : List ℕ) (pc rd address : ℕ) (result : ℕ → ℕ) → pc % 4 ≡ 0
    → IsSound mem (operates mem regs pc rd address result)
operates_sound mem regs pc rd address result al =
    go (address % 4 == 0) refl (not (mem.may Load address && mem.may Store address))
  where
    go : (b : Bool) → address % 4 == 0 ≡ b → (c : Bool) → IsSound mem (if not b then Traps store_misaligned address else (
        if c then Traps store_page_fault address else
        puts mem address Word (result (number_loaded mem address Word)) (with_reg regs rd (number_loaded mem address Word)) (following pc)))
    go false e c = (refl, refl, refl)
    go true e true = (refl, refl, refl)
    go true e false =
        puts_sound mem address Word (result (number_loaded mem address Word)) (with_reg regs rd (number_loaded mem address Word)) (following pc)
        (following_aligned pc al) e

perform_sound : (mem : Memory) (regs : List ℕ) (pc word : ℕ) (reserved : Option ℕ) (o : Option Atomic) → pc % 4 ≡ 0
    → IsSound mem (perform mem regs pc word reserved o).executed
perform_sound mem regs pc word reserved None al = base_sound regs pc word mem al
perform_sound mem regs pc word reserved (Some (LoadReserved rd rs1)) al = loads_sound mem regs pc rd (x regs rs1) Word (λ v. v) al
perform_sound mem regs pc word reserved (Some (StoreConditional rd rs1 rs2)) al =
    conditional_sound mem regs pc rd (x regs rs1) reserved (x regs rs2) al
perform_sound mem regs pc word reserved (Some (Amo operation rd rs1 rs2)) al =
    operates_sound mem regs pc rd (x regs rs1) (λ old. result_of operation old (x regs rs2)) al

-- ---- any instruction

pub execute_at_sound : (regs : List ℕ) (pc : ℕ) (reserved : Option ℕ) (mem : Memory) → pc % 4 ≡ 0
    → IsSound mem (execute_at regs pc reserved mem).executed
unfolding execute_at execute
execute_at_sound regs pc reserved mem al = go (mem.may Fetch pc)
  where
    go : (b : Bool) → IsSound mem (if b then perform mem regs pc (number_at mem.byte pc Word) reserved (atomic_at (number_at mem.byte pc Word))
        else leaving reserved (Traps fetch_page_fault pc)).executed
    go true = perform_sound mem regs pc (number_at mem.byte pc Word) reserved (atomic_at (number_at mem.byte pc Word)) al
    go false = (refl, refl, refl)
