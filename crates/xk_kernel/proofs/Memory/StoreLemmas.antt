-- A store is made only where it may be.
use Rattle.std.proofs.Common.{◌≡◌, ℕ, ◌%◌, Bool, true, false, ◌&&◌, List, Option, Some, None, is_some, refl}
use Rattle.std.specs.Prelude.{◌==◌, not, if◌then◌else◌, ℤ}
use Rattle.std.proofs.lemmas.Bool.{eqb-true, false≢true}
use Rattle.xk_base.specs.declared.pages.Access.{Access}
use Rattle.xk_base.specs.declared.pages.Access.TheVariants.{Fetch, Load, Store}
use Rattle.xk_base.specs.declared.pages.Width.{Width}
use Rattle.xk_base.specs.declared.pages.Width.TheVariants.{Byte, Half, Word}
use Rattle.xk_base.specs.Calls.Registers.{reg_at, with_reg}
use Rattle.xk_base.specs.UserMemory.{Memory, Timer, size_of, number_at, number_loaded, timer_at}
use Rattle.rv32_words.specs.declared.insn.Insn.{Insn}
use Rattle.rv32_words.specs.declared.insn.Insn.TheVariants.{Jal, Jalr, Beq, Bne, Blt, Bge, Bltu, Bgeu, Lb, Lh, Lw, Lbu, Lhu, Sb, Sh, Sw}
use Rattle.rv32_atomics.specs.Performing.{Core}
use Rattle.rv32_words.specs.Reading.{insn_at}
use Rattle.machine_model.specs.Hart.Atomics.{Atomic, LoadReserved, StoreConditional, Amo, atomic_at, execute, execute_at, is_reserved, leaving, operates, perform, result_of, stores_conditionally}
use Rattle.machine_model.specs.Hart.Instructions.{Executed, Next, Stores, StoresToConsole, StoresToTimer, Traps, target_misaligned, load_misaligned, load_page_fault, store_misaligned, store_page_fault, fetch_page_fault, as_word, address_of, sign_extended_byte, sign_extended_half, writes, stores, jumps, branches, loads, effect, effect_if_any, execute_base, puts, sum_of, following, x}
use Rattle.xk_kernel.specs.Running.{Unknown, performed_where}

-- The process may store there by these rights, it isn't this console, and the address is aligned.
abbrev pub StoresAllowed : (Access → ℕ → Bool) → (ℕ → Bool) → Executed → Type 0
StoresAllowed may console (Stores address width value regs pc) = (may Store address ≡ true) × (console address ≡ false) × (address % size_of width ≡ 0)
StoresAllowed may console _ = Unit {0}

-- A store that isn't the timer's is allowed, and the timer isn't there. Where the timer is stored to, there is one.
abbrev pub StoresLawfully : Memory → Executed → Type 0
StoresLawfully mem (Stores address width value regs pc) =
    (is_some (timer_at mem.timer address) ≡ false) × StoresAllowed mem.may mem.console (Stores address width value regs pc)
StoresLawfully mem (StoresToTimer offset width value regs pc) = is_some mem.timer ≡ true
StoresLawfully mem _ = Unit {0}

next_or_trap : (mem : Memory) (regs : List ℕ) (pc cause value : ℕ) (b : Bool) → StoresLawfully mem (if b then Next regs pc else Traps cause value)
next_or_trap mem regs pc cause value true = tt
next_or_trap mem regs pc cause value false = tt

jumps_so : (mem : Memory) (regs : List ℕ) (pc rd target : ℕ) → StoresLawfully mem (jumps regs pc rd target)
jumps_so mem regs pc rd target = next_or_trap mem (with_reg regs rd (following pc)) target target_misaligned target (target % 4 == 0)

branches_so : (mem : Memory) (regs : List ℕ) (pc : ℕ) (imm : ℤ) (taken : Bool) → StoresLawfully mem (branches regs pc imm taken)
branches_so mem regs pc imm false = tt
branches_so mem regs pc imm true = next_or_trap mem regs (sum_of pc (as_word imm)) target_misaligned (sum_of pc (as_word imm)) (sum_of pc (as_word imm) % 4 == 0)

loads_so : (mem : Memory) (regs : List ℕ) (pc rd address : ℕ) (width : Width) (extend : ℕ → ℕ) → StoresLawfully mem (loads mem regs pc rd address width extend)
loads_so mem regs pc rd address width extend = by (address % size_of width == 0) (mem.may Load address)
  where
    by : (a m : Bool) → StoresLawfully mem (if not a then Traps load_misaligned address else (
        if not m then Traps load_page_fault address else writes regs pc rd (extend (number_loaded mem address width))))
    by false m = tt
    by true false = tt
    by true true = tt

-- a timer that shows itself is there
timer_there : (o : Option Timer) (address : ℕ) → is_some (timer_at o address) ≡ true → is_some o ≡ true
timer_there None address e = absurd (false≢true e)
timer_there (Some timer) address e = refl

puts_so : (mem : Memory) (address : ℕ) (width : Width) (value : ℕ) (regs : List ℕ) (pc : ℕ) → mem.may Store address ≡ true → address % size_of width ≡ 0
    → StoresLawfully mem (puts mem address width value regs pc)
puts_so mem address width value regs pc may aligned = by (mem.console address) (is_some (timer_at mem.timer address)) refl refl
  where
    by : (c t : Bool) → mem.console address ≡ c → is_some (timer_at mem.timer address) ≡ t
        → StoresLawfully mem (if c then StoresToConsole (address % 4096) value regs pc else (
        if t then StoresToTimer (address % 4096) width value regs pc else Stores address width value regs pc))
    by true t e f = tt
    by false true e f = timer_there mem.timer address f
    by false false e f = (f, (may, e, aligned))

-- what is done where the address is aligned and the process may store there
stored_if : (mem : Memory) (address cause other : ℕ) (width : Width) (x : Executed) (a m : Bool) → (address % size_of width == 0) ≡ a → mem.may Store address ≡ m
    → (mem.may Store address ≡ true → address % size_of width ≡ 0 → StoresLawfully mem x)
    → StoresLawfully mem (if not a then Traps cause address else (if not m then Traps other address else x))
stored_if mem address cause other width x false m e f so = tt
stored_if mem address cause other width x true false e f so = tt
stored_if mem address cause other width x true true e f so = so f (eqb-true (address % size_of width) 0 e)

stores_so : (mem : Memory) (regs : List ℕ) (pc address : ℕ) (width : Width) (value : ℕ) → StoresLawfully mem (stores mem regs pc address width value)
stores_so mem regs pc address width value =
    stored_if mem address store_misaligned store_page_fault width (puts mem address width value regs (following pc))
    (address % size_of width == 0) (mem.may Store address) refl refl (puts_so mem address width value regs (following pc))

effect_so : (mem : Memory) (regs : List ℕ) (pc : ℕ) (insn : Insn) → StoresLawfully mem (effect mem regs pc insn)
effect_so mem regs pc (Jal rd imm) = jumps_so mem regs pc _ _
effect_so mem regs pc (Jalr rd rs1 imm) = jumps_so mem regs pc _ _
effect_so mem regs pc (Beq rs1 rs2 imm) = branches_so mem regs pc imm _
effect_so mem regs pc (Bne rs1 rs2 imm) = branches_so mem regs pc imm _
effect_so mem regs pc (Blt rs1 rs2 imm) = branches_so mem regs pc imm _
effect_so mem regs pc (Bge rs1 rs2 imm) = branches_so mem regs pc imm _
effect_so mem regs pc (Bltu rs1 rs2 imm) = branches_so mem regs pc imm _
effect_so mem regs pc (Bgeu rs1 rs2 imm) = branches_so mem regs pc imm _
effect_so mem regs pc (Lb rd rs1 imm) = loads_so mem regs pc rd (address_of regs rs1 imm) Byte sign_extended_byte
effect_so mem regs pc (Lh rd rs1 imm) = loads_so mem regs pc rd (address_of regs rs1 imm) Half sign_extended_half
effect_so mem regs pc (Lw rd rs1 imm) = loads_so mem regs pc rd (address_of regs rs1 imm) Word (λ v. v)
effect_so mem regs pc (Lbu rd rs1 imm) = loads_so mem regs pc rd (address_of regs rs1 imm) Byte (λ v. v)
effect_so mem regs pc (Lhu rd rs1 imm) = loads_so mem regs pc rd (address_of regs rs1 imm) Half (λ v. v)
effect_so mem regs pc (Sb rs1 rs2 imm) = stores_so mem regs pc (address_of regs rs1 imm) Byte (reg_at regs rs2)
effect_so mem regs pc (Sh rs1 rs2 imm) = stores_so mem regs pc (address_of regs rs1 imm) Half (reg_at regs rs2)
effect_so mem regs pc (Sw rs1 rs2 imm) = stores_so mem regs pc (address_of regs rs1 imm) Word (reg_at regs rs2)
effect_so mem regs pc _ = tt

if_any_so : (mem : Memory) (regs : List ℕ) (pc word : ℕ) (o : Option Insn) → StoresLawfully mem (effect_if_any mem regs pc word o)
if_any_so mem regs pc word None = tt
if_any_so mem regs pc word (Some insn) = effect_so mem regs pc insn

-- ---- atomic instructions

conditional_so : (mem : Memory) (regs : List ℕ) (pc rd address : ℕ) (reserved : Option ℕ) (value : ℕ)
    → StoresLawfully mem (stores_conditionally mem regs pc rd address reserved value)
conditional_so mem regs pc rd address reserved value =
    stored_if mem address store_misaligned store_page_fault Word
    (if is_reserved reserved address then puts mem address Word value (with_reg regs rd 0) (following pc) else Next (with_reg regs rd 1) (following pc))
    (address % 4 == 0) (mem.may Store address) refl refl (λ may aligned. either (is_reserved reserved address) may aligned)
  where
    either : (b : Bool) → mem.may Store address ≡ true → address % 4 ≡ 0
        → StoresLawfully mem (if b then puts mem address Word value (with_reg regs rd 0) (following pc) else Next (with_reg regs rd 1) (following pc))
    either true may aligned = puts_so mem address Word value (with_reg regs rd 0) (following pc) may aligned
    either false may aligned = tt

operates_so : (mem : Memory) (regs : List ℕ) (pc rd address : ℕ) (result : ℕ → ℕ) → StoresLawfully mem (operates mem regs pc rd address result)
operates_so mem regs pc rd address result = by (address % 4 == 0) (mem.may Load address) (mem.may Store address) refl refl
  where
    by : (a l m : Bool) → (address % 4 == 0) ≡ a → mem.may Store address ≡ m
        → StoresLawfully mem (if not a then Traps store_misaligned address else (if not (l && m) then Traps store_page_fault address else
        puts mem address Word (result (number_loaded mem address Word)) (with_reg regs rd (number_loaded mem address Word)) (following pc)))
    by false l m e f = tt
    by true false m e f = tt
    by true true false e f = tt
    by true true true e f =
        puts_so mem address Word (result (number_loaded mem address Word)) (with_reg regs rd (number_loaded mem address Word)) (following pc) f (eqb-true (address % 4) 0 e)

atomic_so : (mem : Memory) (regs : List ℕ) (pc word : ℕ) (reserved : Option ℕ) (atomic : Atomic) → StoresLawfully mem (perform mem regs pc word reserved (Some atomic)).executed
atomic_so mem regs pc word reserved (LoadReserved rd rs1) = loads_so mem regs pc rd (x regs rs1) Word (λ word. word)
atomic_so mem regs pc word reserved (StoreConditional rd rs1 rs2) = conditional_so mem regs pc rd (x regs rs1) reserved (x regs rs2)
atomic_so mem regs pc word reserved (Amo operation rd rs1 rs2) = operates_so mem regs pc rd (x regs rs1) (λ old. result_of operation old (x regs rs2))

-- ---- any instruction

performed_so : (mem : Memory) (regs : List ℕ) (pc word : ℕ) (reserved : Option ℕ) (o : Option Atomic) → StoresLawfully mem (perform mem regs pc word reserved o).executed
unfolding execute_base
performed_so mem regs pc word reserved None = if_any_so mem regs pc word (insn_at word)
performed_so mem regs pc word reserved (Some atomic) = atomic_so mem regs pc word reserved atomic

fetched_so : (mem : Memory) (regs : List ℕ) (pc word : ℕ) (reserved : Option ℕ) (b : Bool)
    → StoresLawfully mem (if b then execute regs pc word reserved mem else leaving reserved (Traps fetch_page_fault pc)).executed
unfolding execute
fetched_so mem regs pc word reserved true = performed_so mem regs pc word reserved (atomic_at word)
fetched_so mem regs pc word reserved false = tt

pub stores_lawfully : (mem : Memory) (regs : List ℕ) (pc : ℕ) (reserved : Option ℕ) → StoresLawfully mem (execute_at regs pc reserved mem).executed
unfolding execute_at
stores_lawfully mem regs pc reserved = fetched_so mem regs pc (number_at mem.byte pc Word) reserved (mem.may Fetch pc)

-- .. whatever stands at the pc
where_so : (stands : Unknown) (core : Core) (pc : ℕ) (mem : Memory) (b : Bool)
    → StoresLawfully mem (if b then perform mem core.regs pc stands.word core.reserved stands.atomic else leaving core.reserved (Traps fetch_page_fault pc)).executed
where_so stands core pc mem true = performed_so mem core.regs pc stands.word core.reserved stands.atomic
where_so stands core pc mem false = tt

pub stores_lawfully_where : (stands : Unknown) (core : Core) (pc : ℕ) (mem : Memory)
    → StoresLawfully (record mem { byte = stands.byte }) (performed_where stands core pc mem).executed
stores_lawfully_where stands core pc mem = where_so stands core pc (record mem { byte = stands.byte }) (mem.may Fetch pc)
