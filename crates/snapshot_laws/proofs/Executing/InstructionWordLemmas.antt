-- What an instruction makes of words are words: registers, the pc, and what it stores to the timer's page.
use Rattle.std.proofs.Common.{◌≡◌, ℕ, ◌+◌, ◌-◌, ◌*◌, ◌/◌, ◌%◌, ◌^◌, ◌<◌, ◌≤◌, Bool, true, false, List, Option, Some, None, refl, arith, ℤ, pos, negsuc, lit<}
use Rattle.std.specs.Prelude.{◌==◌, ◌&&◌, int_div, int_rem, is_some, not, nat_lt, if◌then◌else◌, unwrap_or}
use Rattle.std.specs.Bool.{⊤}
use Rattle.std.proofs.lemmas.Option.{same_Some}
use Rattle.xk_base.specs.Numbers.Fields.{FitsBits}
use Rattle.std.specs.Int.{w32, cast_unsigned}
use Rattle.std.specs.Option.{MatchOption}
use Rattle.xk_base.specs.declared.pages.Access.TheVariants.{Fetch, Load, Store}
use Rattle.xk_base.specs.declared.pages.Width.{Width}
use Rattle.xk_base.specs.declared.pages.Width.TheVariants.{Byte, Half, Word}
use Rattle.xk_base.specs.Calls.Registers.{with_reg}
use Rattle.xk_base.specs.UserMemory.{Memory, Timer, in_timer_page, number_at, number_loaded, number_shown, size_of, timer_at, timer_number}
use Rattle.rv32_words.specs.declared.insn.Insn.{Insn}
use Rattle.rv32_words.specs.declared.insn.Insn.TheVariants.{Lui, Auipc, Jal, Jalr, Beq, Bne, Blt, Bge, Bltu, Bgeu, Lb, Lh, Lw, Lbu, Lhu, Sb, Sh, Sw, Addi, Slti, Sltiu, Xori, Ori, Andi, Slli, Srli, Srai, Add, Sub, Sll, Slt, Sltu, Xor, Srl, Sra, Or, And, Mul, Mulh, Mulhsu, Mulhu, Div, Divu, Rem, Remu, Fence, FenceI, Ecall, Ebreak}
use Rattle.rv32_words.specs.Reading.{insn_at}
use Rattle.rv32_words.specs.Table.{IsInRange, Spells}
use Rattle.rv32_words.proofs.FoundLemmas.{found_or_none}
use Rattle.machine_model.specs.Hart.Atomics.{Atomic, LoadReserved, StoreConditional, Amo, Operation, Swap, Add as AmoAdd, Xor as AmoXor, And as AmoAnd, Or as AmoOr, Min, Max, Minu, Maxu, atomic_at, execute, execute_at, is_reserved, leaving, operates, perform, reserves, result_of, stores_conditionally, unless_ended}
use Rattle.machine_model.specs.Hart.Instructions.{Executed, Next, Stores, StoresToConsole, StoresToTimer, CallsKernel, Traps, x, as_word, sum_of, signed, signed_below, following, address_of, difference_of, flag_of, jumps, branches, loads, puts, stores, effect, effect_if_any, execute_base}
use Rattle.machine_model.specs.Hart.Instructions.{left_shift_of, quotient, remainder, right_shift_of, sign_extended_byte, sign_extended_half, signed_quotient, signed_remainder, signed_right_shift_of, target_misaligned, writes}
use Rattle.machine_model.specs.Hart.Instructions.{load_misaligned, load_page_fault, store_misaligned, store_page_fault, fetch_page_fault}
use Rattle.snapshot_laws.specs.Words.{AreRegisters, greatest}
use Rattle.snapshot_laws.proofs.Words.RegisterLemmas.{with_reg_are, word_at}
use Rattle.snapshot_laws.proofs.Words.SignedLemmas.{and_fits, divided_fits, extended_byte_fits, extended_half_fits, left_over_fits}
use Rattle.snapshot_laws.proofs.Words.SignedLemmas.{mixed_product_fits, or_fits, product_of_words_fits, quotient_fits, remainder_fits}
use Rattle.snapshot_laws.proofs.Words.SignedLemmas.{shifted_fits, signed_product_fits, wraps_fits, xor_fits}

-- ---- memory of bytes

pub record IsTimerOfWords (t : Timer) : Type 0 where
  pub steps : t.steps ≤ greatest
  pub compare : (at : ℕ) → t.compare ≡ Some at → at ≤ greatest

pub record IsMemoryOfWords (mem : Memory) : Type 0 where
  pub bytes : (a : ℕ) → mem.byte a < 256
  pub timer : (t : Timer) → mem.timer ≡ Some t → IsTimerOfWords t

module _ (mem : Memory) (h : IsMemoryOfWords mem) where
  pub number_fits : (a : ℕ) (width : Width) → number_at mem.byte a width ≤ greatest
  number_fits a Byte = let b0 : mem.byte a < 256 = h.bytes a in omega arith
  number_fits a Half =
      let b0 : mem.byte a < 256 = h.bytes a in
      let b1 : mem.byte (a + 1) < 256 = h.bytes (a + 1) in
      omega arith
  number_fits a Word =
      let b0 : mem.byte a < 256 = h.bytes a in
      let b1 : mem.byte (a + 1) < 256 = h.bytes (a + 1) in
      let b2 : mem.byte (a + 2) < 256 = h.bytes (a + 2) in
      let b3 : mem.byte (a + 3) < 256 = h.bytes (a + 3) in
      omega arith

  compare_fits : (o : Option ℕ) → ((at : ℕ) → o ≡ Some at → at ≤ greatest) → unwrap_or o 0 ≤ greatest
  compare_fits None f = omega arith
  compare_fits (Some at) f = f at refl

  timer_number_fits : (t : Timer) (offset : ℕ) (width : Width) → IsTimerOfWords t → timer_number t offset width ≤ greatest
  timer_number_fits t offset Byte f = omega arith
  timer_number_fits t offset Half f = omega arith
  timer_number_fits t offset Word f = go (offset == 0) (offset == 4) (offset == 8) (is_some t.compare)
    where
      go : (a b c d : Bool) → (if a then t.steps else (if b then unwrap_or t.compare 0 else (if c then (if d then 1 else 0) else 0))) ≤ greatest
      go true b c d = f.steps
      go false true c d = compare_fits t.compare f.compare
      go false false true true = omega arith
      go false false true false = omega arith
      go false false false d = omega arith

  pub loaded_fits : (a : ℕ) (width : Width) → number_loaded mem a width ≤ greatest
  loaded_fits a width = by_timer mem.timer h.timer
    where
      by_page : (t : Timer) → IsTimerOfWords t → (b : Bool) → number_shown (if b then Some t else None) mem.byte a width ≤ greatest
      by_page t f true = timer_number_fits t (a % 4096) width f
      by_page t f false = number_fits a width

      by_timer : (o : Option Timer) → ((t : Timer) → o ≡ Some t → IsTimerOfWords t) → number_shown (timer_at o a) mem.byte a width ≤ greatest
      by_timer None f = number_fits a width
      by_timer (Some t) f = by_page t (f t refl) (in_timer_page a)

-- ---- what comes of an instruction

-- the registers and the pc afterwards
pub record IsThreadLeft (regs : List ℕ) (pc : ℕ) : Type 0 where
  pub registers : AreRegisters regs
  pub next : pc ≤ greatest

abbrev pub IsOfWords : Executed → Type 0
IsOfWords (Next regs pc) = IsThreadLeft regs pc
IsOfWords (Stores address width value regs pc) = IsThreadLeft regs pc
IsOfWords (StoresToConsole offset value regs pc) = IsThreadLeft regs pc
IsOfWords (StoresToTimer offset width value regs pc) = IsThreadLeft regs pc × (value ≤ greatest)
IsOfWords CallsKernel = ⊤
IsOfWords (Traps cause value) = ⊤

flag_fits : (b : Bool) → flag_of b ≤ greatest
flag_fits true = omega arith
flag_fits false = omega arith

signed_quotient_fits : (a b : ℕ) → a ≤ greatest → signed_quotient a b ≤ greatest
signed_quotient_fits a b h = go (b == 0)
  where
    go : (c : Bool) → (if c then 2 ^ 32 - 1 else cast_unsigned w32 (int_div (signed a) (signed b))) ≤ greatest
    go true = omega arith
    go false = divided_fits a b h

quotients_fit : (a b : ℕ) → a ≤ greatest → quotient a b ≤ greatest
quotients_fit a b h = go (b == 0)
  where
    go : (c : Bool) → (if c then 2 ^ 32 - 1 else a / b) ≤ greatest
    go true = omega arith
    go false = quotient_fits a b h

signed_remainder_fits : (a b : ℕ) → a ≤ greatest → signed_remainder a b ≤ greatest
signed_remainder_fits a b h = go (b == 0)
  where
    go : (c : Bool) → (if c then a else cast_unsigned w32 (int_rem (signed a) (signed b))) ≤ greatest
    go true = h
    go false = left_over_fits a b h

remainders_fit : (a b : ℕ) → a ≤ greatest → remainder a b ≤ greatest
remainders_fit a b h = go (b == 0)
  where
    go : (c : Bool) → (if c then a else a % b) ≤ greatest
    go true = h
    go false = remainder_fits a b h

chosen_fits : (b : Bool) (m n : ℕ) → m ≤ greatest → n ≤ greatest → (if b then m else n) ≤ greatest
chosen_fits true m n h k = h
chosen_fits false m n h k = k

even_fits : (n : ℕ) → n ≤ greatest → n - n % 2 ≤ greatest
even_fits n h = omega arith

-- the immediate of 12 bits as a word
in_range_fits : (imm : ℤ) → FitsBits 12 imm → as_word imm ≤ greatest
in_range_fits (pos n) f = let below : n < 2048 = lit< f.1.lt in omega arith
in_range_fits (negsuc n) f = omega arith

-- the sum with an immediate
as_words_fit : (imm : ℤ) (n : ℕ) → (n + as_word imm) % 2 ^ 32 ≤ greatest
as_words_fit imm n = wraps_fits (n + as_word imm)

module _ (mem : Memory) (h : IsMemoryOfWords mem) (regs : List ℕ) (r : AreRegisters regs) (pc : ℕ) (p : pc ≤ greatest) where
  held : (i : ℕ) → x regs i ≤ greatest
  held i = word_at regs i r.words

  next : (after : List ℕ) → AreRegisters after → IsThreadLeft after (following pc)
  next after a = record { registers = a; next = wraps_fits (pc + 4) }

  written : (rd value : ℕ) → value ≤ greatest → IsThreadLeft (with_reg regs rd value) (following pc)
  written rd value f = next (with_reg regs rd value) (with_reg_are regs rd value f r)

  jumped : (rd target : ℕ) → target ≤ greatest → IsOfWords (jumps regs pc rd target)
  jumped rd target f = go (target % 4 == 0)
    where
      go : (b : Bool) → IsOfWords (if b then Next (with_reg regs rd (following pc)) target else Traps target_misaligned target)
      go true = record { registers = with_reg_are regs rd (following pc) (wraps_fits (pc + 4)) r; next = f }
      go false = tt

  branched : (imm : ℤ) (taken : Bool) → IsOfWords (branches regs pc imm taken)
  branched imm false = next regs r
  branched imm true = go (sum_of pc (as_word imm)) (as_words_fit imm pc) (sum_of pc (as_word imm) % 4 == 0)
    where
      go : (target : ℕ) → target ≤ greatest → (b : Bool) → IsOfWords (if b then Next regs target else Traps target_misaligned target)
      go target f true = record { registers = r; next = f }
      go target f false = tt

  loads_are : (rd address : ℕ) (width : Width) (extend : ℕ → ℕ) → ((v : ℕ) → v ≤ greatest → extend v ≤ greatest)
      → IsOfWords (loads mem regs pc rd address width extend)
  loads_are rd address width extend fits = go (not (address % size_of width == 0)) (not (mem.may Load address))
    where
      go : (b c : Bool) → IsOfWords (if b then Traps load_misaligned address else (
          if c then Traps load_page_fault address else writes regs pc rd (extend (number_loaded mem address width))))
      go true c = tt
      go false true = tt
      go false false = written rd (extend (number_loaded mem address width)) (fits (number_loaded mem address width) (loaded_fits mem h address width))

  puts_are : (address : ℕ) (width : Width) (value : ℕ) (after : List ℕ) → value ≤ greatest → AreRegisters after
      → IsOfWords (puts mem address width value after (following pc))
  puts_are address width value after f a = go (mem.console address) (is_some (timer_at mem.timer address))
    where
      go : (b c : Bool) → IsOfWords (if b then StoresToConsole (address % 4096) value after (following pc) else (
          if c then StoresToTimer (address % 4096) width value after (following pc) else Stores address width value after (following pc)))
      go true c = next after a
      go false true = (next after a, f)
      go false false = next after a

  stores_are : (address : ℕ) (width : Width) (value : ℕ) → value ≤ greatest → IsOfWords (stores mem regs pc address width value)
  stores_are address width value f = go (not (address % size_of width == 0)) (not (mem.may Store address))
    where
      go : (b c : Bool) → IsOfWords (if b then Traps store_misaligned address else (
          if c then Traps store_page_fault address else puts mem address width value regs (following pc)))
      go true c = tt
      go false true = tt
      go false false = puts_are address width value regs f r

  as_it_is : (v : ℕ) → v ≤ greatest → v ≤ greatest
  as_it_is v f = f

  effect_are : (insn : Insn) → IsInRange insn → IsOfWords (effect mem regs pc insn)
  effect_are (Lui rd imm) f = written rd imm (let below : imm < 2 ^ 32 = f.1 in omega arith)
  effect_are (Auipc rd imm) f = written rd (sum_of pc imm) (wraps_fits (pc + imm))
  effect_are (Jal rd imm) f = jumped rd (sum_of pc (as_word imm)) (as_words_fit imm pc)
  effect_are (Jalr rd rs1 imm) f =
      let sum = sum_of (x regs rs1) (as_word imm) in jumped rd (sum - sum % 2) (even_fits sum (as_words_fit imm (x regs rs1)))
  effect_are (Beq rs1 rs2 imm) f = branched imm (x regs rs1 == x regs rs2)
  effect_are (Bne rs1 rs2 imm) f = branched imm (not (x regs rs1 == x regs rs2))
  effect_are (Blt rs1 rs2 imm) f = branched imm (signed_below (x regs rs1) (x regs rs2))
  effect_are (Bge rs1 rs2 imm) f = branched imm (not (signed_below (x regs rs1) (x regs rs2)))
  effect_are (Bltu rs1 rs2 imm) f = branched imm (nat_lt (x regs rs1) (x regs rs2))
  effect_are (Bgeu rs1 rs2 imm) f = branched imm (not (nat_lt (x regs rs1) (x regs rs2)))
  effect_are (Lb rd rs1 imm) f = loads_are rd (address_of regs rs1 imm) Byte sign_extended_byte (λ v g. extended_byte_fits v)
  effect_are (Lh rd rs1 imm) f = loads_are rd (address_of regs rs1 imm) Half sign_extended_half (λ v g. extended_half_fits v)
  effect_are (Lw rd rs1 imm) f = loads_are rd (address_of regs rs1 imm) Word (λ v. v) as_it_is
  effect_are (Lbu rd rs1 imm) f = loads_are rd (address_of regs rs1 imm) Byte (λ v. v) as_it_is
  effect_are (Lhu rd rs1 imm) f = loads_are rd (address_of regs rs1 imm) Half (λ v. v) as_it_is
  effect_are (Sb rs1 rs2 imm) f = stores_are (address_of regs rs1 imm) Byte (x regs rs2) (held rs2)
  effect_are (Sh rs1 rs2 imm) f = stores_are (address_of regs rs1 imm) Half (x regs rs2) (held rs2)
  effect_are (Sw rs1 rs2 imm) f = stores_are (address_of regs rs1 imm) Word (x regs rs2) (held rs2)
  effect_are (Addi rd rs1 imm) f = written rd (sum_of (x regs rs1) (as_word imm)) (as_words_fit imm (x regs rs1))
  effect_are (Slti rd rs1 imm) f = written rd (flag_of (signed_below (x regs rs1) (as_word imm))) (flag_fits (signed_below (x regs rs1) (as_word imm)))
  effect_are (Sltiu rd rs1 imm) f = written rd (flag_of (nat_lt (x regs rs1) (as_word imm))) (flag_fits (nat_lt (x regs rs1) (as_word imm)))
  effect_are (Xori rd rs1 imm) f = written rd _ (xor_fits (x regs rs1) (as_word imm) (held rs1) (in_range_fits imm f.2))
  effect_are (Ori rd rs1 imm) f = written rd _ (or_fits (x regs rs1) (as_word imm) (held rs1) (in_range_fits imm f.2))
  effect_are (Andi rd rs1 imm) f = written rd _ (and_fits (x regs rs1) (as_word imm) (held rs1))
  effect_are (Slli rd rs1 shamt) f = written rd (left_shift_of (x regs rs1) shamt) (wraps_fits (x regs rs1 * 2 ^ (shamt % 32)))
  effect_are (Srli rd rs1 shamt) f = written rd (right_shift_of (x regs rs1) shamt) (quotient_fits (x regs rs1) (2 ^ (shamt % 32)) (held rs1))
  effect_are (Srai rd rs1 shamt) f = written rd (signed_right_shift_of (x regs rs1) shamt) (shifted_fits (x regs rs1) (shamt % 32) (held rs1))
  effect_are (Add rd rs1 rs2) f = written rd (sum_of (x regs rs1) (x regs rs2)) (wraps_fits (x regs rs1 + x regs rs2))
  effect_are (Sub rd rs1 rs2) f = written rd (difference_of (x regs rs1) (x regs rs2)) (wraps_fits (x regs rs1 + (2 ^ 32 - x regs rs2)))
  effect_are (Sll rd rs1 rs2) f = written rd (left_shift_of (x regs rs1) (x regs rs2)) (wraps_fits (x regs rs1 * 2 ^ (x regs rs2 % 32)))
  effect_are (Slt rd rs1 rs2) f = written rd (flag_of (signed_below (x regs rs1) (x regs rs2))) (flag_fits (signed_below (x regs rs1) (x regs rs2)))
  effect_are (Sltu rd rs1 rs2) f = written rd (flag_of (nat_lt (x regs rs1) (x regs rs2))) (flag_fits (nat_lt (x regs rs1) (x regs rs2)))
  effect_are (Xor rd rs1 rs2) f = written rd _ (xor_fits (x regs rs1) (x regs rs2) (held rs1) (held rs2))
  effect_are (Srl rd rs1 rs2) f = written rd (right_shift_of (x regs rs1) (x regs rs2)) (quotient_fits (x regs rs1) (2 ^ (x regs rs2 % 32)) (held rs1))
  effect_are (Sra rd rs1 rs2) f = written rd (signed_right_shift_of (x regs rs1) (x regs rs2)) (shifted_fits (x regs rs1) (x regs rs2 % 32) (held rs1))
  effect_are (Or rd rs1 rs2) f = written rd _ (or_fits (x regs rs1) (x regs rs2) (held rs1) (held rs2))
  effect_are (And rd rs1 rs2) f = written rd _ (and_fits (x regs rs1) (x regs rs2) (held rs1))
  effect_are (Mul rd rs1 rs2) f = written rd (x regs rs1 * x regs rs2 % 2 ^ 32) (wraps_fits (x regs rs1 * x regs rs2))
  effect_are (Mulh rd rs1 rs2) f = written rd _ (signed_product_fits (x regs rs1) (x regs rs2) (held rs1) (held rs2))
  effect_are (Mulhsu rd rs1 rs2) f = written rd _ (mixed_product_fits (x regs rs1) (x regs rs2) (held rs1) (held rs2))
  effect_are (Mulhu rd rs1 rs2) f = written rd _ (product_of_words_fits (x regs rs1) (x regs rs2) (held rs1) (held rs2))
  effect_are (Div rd rs1 rs2) f = written rd (signed_quotient (x regs rs1) (x regs rs2)) (signed_quotient_fits (x regs rs1) (x regs rs2) (held rs1))
  effect_are (Divu rd rs1 rs2) f = written rd (quotient (x regs rs1) (x regs rs2)) (quotients_fit (x regs rs1) (x regs rs2) (held rs1))
  effect_are (Rem rd rs1 rs2) f = written rd (signed_remainder (x regs rs1) (x regs rs2)) (signed_remainder_fits (x regs rs1) (x regs rs2) (held rs1))
  effect_are (Remu rd rs1 rs2) f = written rd (remainder (x regs rs1) (x regs rs2)) (remainders_fit (x regs rs1) (x regs rs2) (held rs1))
  effect_are (Fence rd rs1 imm) f = next regs r
  effect_are (FenceI rd rs1 imm) f = next regs r
  effect_are Ecall f = tt
  effect_are Ebreak f = tt

  base_are : (word : ℕ) → word ≤ greatest → IsOfWords (execute_base regs pc word mem)
  unfolding execute_base
  base_are word w = go (insn_at word) (found_or_none (insn_at word) word (omega arith) refl)
    where
      go : (o : Option Insn) → MatchOption o ((i : Insn) → ¬ Spells i word) (λ i. Spells i word) → IsOfWords (effect_if_any mem regs pc word o)
      go None f = tt
      go (Some insn) f = effect_are insn f.0

  -- ---- atomic instructions

  result_fits : (operation : Operation) (old operand : ℕ) → old ≤ greatest → operand ≤ greatest → result_of operation old operand ≤ greatest
  result_fits Swap old operand f g = g
  result_fits AmoAdd old operand f g = wraps_fits (old + operand)
  result_fits AmoXor old operand f g = xor_fits old operand f g
  result_fits AmoAnd old operand f g = and_fits old operand f
  result_fits AmoOr old operand f g = or_fits old operand f g
  result_fits Min old operand f g = chosen_fits (signed_below old operand) old operand f g
  result_fits Max old operand f g = chosen_fits (signed_below old operand) operand old g f
  result_fits Minu old operand f g = chosen_fits (nat_lt old operand) old operand f g
  result_fits Maxu old operand f g = chosen_fits (nat_lt old operand) operand old g f

  conditional_are : (rd address : ℕ) (reserved : Option ℕ) (value : ℕ) → value ≤ greatest
      → IsOfWords (stores_conditionally mem regs pc rd address reserved value)
  conditional_are rd address reserved value f =
      go (not (address % 4 == 0)) (not (mem.may Store address)) (is_reserved reserved address)
    where
      go : (b c d : Bool) → IsOfWords (if b then Traps store_misaligned address else (
          if c then Traps store_page_fault address else (
          if d then puts mem address Word value (with_reg regs rd 0) (following pc) else Next (with_reg regs rd 1) (following pc))))
      go true c d = tt
      go false true d = tt
      go false false true = puts_are address Word value (with_reg regs rd 0) f (with_reg_are regs rd 0 (omega arith) r)
      go false false false = written rd 1 (omega arith)

  operates_are : (rd address : ℕ) (result : ℕ → ℕ) → ((v : ℕ) → v ≤ greatest → result v ≤ greatest)
      → IsOfWords (operates mem regs pc rd address result)
  operates_are rd address result fits = go (not (address % 4 == 0)) (not (mem.may Load address && mem.may Store address))
    where
      old : ℕ
      old = number_loaded mem address Word

      go : (b c : Bool) → IsOfWords (if b then Traps store_misaligned address else (
          if c then Traps store_page_fault address else
          puts mem address Word (result (number_loaded mem address Word)) (with_reg regs rd (number_loaded mem address Word)) (following pc)))
      go true c = tt
      go false true = tt
      go false false =
          puts_are address Word (result (number_loaded mem address Word)) (with_reg regs rd (number_loaded mem address Word))
          (fits (number_loaded mem address Word) (loaded_fits mem h address Word))
          (with_reg_are regs rd (number_loaded mem address Word) (loaded_fits mem h address Word) r)

  perform_are : (word : ℕ) (reserved : Option ℕ) (o : Option Atomic) → word ≤ greatest → IsOfWords (perform mem regs pc word reserved o).executed
  perform_are word reserved None w = base_are word w
  perform_are word reserved (Some (LoadReserved rd rs1)) w = loads_are rd (x regs rs1) Word (λ v. v) as_it_is
  perform_are word reserved (Some (StoreConditional rd rs1 rs2)) w = conditional_are rd (x regs rs1) reserved (x regs rs2) (held rs2)
  perform_are word reserved (Some (Amo operation rd rs1 rs2)) w =
      operates_are rd (x regs rs1) (λ old. result_of operation old (x regs rs2)) (λ v f. result_fits operation v (x regs rs2) f (held rs2))

  pub execute_at_are : (reserved : Option ℕ) → IsOfWords (execute_at regs pc reserved mem).executed
  unfolding execute_at execute
  execute_at_are reserved = go (mem.may Fetch pc)
    where
      go : (b : Bool) → IsOfWords (if b then perform mem regs pc (number_at mem.byte pc Word) reserved (atomic_at (number_at mem.byte pc Word))
          else leaving reserved (Traps fetch_page_fault pc)).executed
      go true = perform_are (number_at mem.byte pc Word) reserved (atomic_at (number_at mem.byte pc Word)) (number_fits mem h pc Word)
      go false = tt

  -- ---- the reservation

  abbrev ReservesWord : Option ℕ → Type 0
  ReservesWord o = (a : ℕ) → o ≡ Some a → a ≤ greatest

  unless_ended_fits : (o : Option ℕ) → ReservesWord o → (e : Executed) → ReservesWord (unless_ended o e)
  unless_ended_fits o f (Next after next) = f
  unless_ended_fits o f (Stores address width value after next) = f
  unless_ended_fits o f (StoresToConsole offset value after next) = f
  unless_ended_fits o f (StoresToTimer offset width value after next) = f
  unless_ended_fits o f CallsKernel = λ a e. absurd (cc)
  unless_ended_fits o f (Traps cause value) = λ a e. absurd (cc)

  reserves_fits : (o : Option ℕ) → ReservesWord o → (atomic : Atomic) → ReservesWord (reserves regs o atomic)
  reserves_fits o f (LoadReserved rd rs1) = λ a e. rw (← same_Some (x regs rs1) a e) (held rs1)
  reserves_fits o f (StoreConditional rd rs1 rs2) = λ a e. absurd (cc)
  reserves_fits o f (Amo operation rd rs1 rs2) = f

  pub reservation_fits : (o : Option ℕ) → ReservesWord o → ReservesWord (execute_at regs pc o mem).reserved
  unfolding execute_at execute
  reservation_fits o f = go (mem.may Fetch pc) (atomic_at (number_at mem.byte pc Word))
    where
      go : (b : Bool) (atomic : Option Atomic)
          → ReservesWord (if b then perform mem regs pc (number_at mem.byte pc Word) o atomic else leaving o (Traps fetch_page_fault pc)).reserved
      go false atomic = λ a e. absurd (cc)
      go true None = unless_ended_fits o f _
      go true (Some atomic) = unless_ended_fits (reserves regs o atomic) (reserves_fits o f atomic) _
