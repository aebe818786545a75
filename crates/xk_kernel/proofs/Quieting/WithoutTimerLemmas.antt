-- An instruction by which the thread goes on without the timer's page does the same with it.
use Rattle.std.proofs.Common.{◌≡◌, ℕ, ◌%◌, Bool, true, false, ◌&&◌, List, Option, Some, None, is_some, refl, ap}
use Rattle.std.specs.Prelude.{◌==◌, not, if◌then◌else◌}
use Rattle.std.proofs.lemmas.Bool.{false≢true}
use Rattle.xk_base.specs.declared.pages.Access.TheVariants.{Fetch, Load, Store}
use Rattle.xk_base.specs.declared.pages.Width.{Width}
use Rattle.xk_base.specs.declared.pages.Width.TheVariants.{Byte, Half, Word}
use Rattle.xk_base.specs.Calls.Registers.{reg_at, with_reg}
use Rattle.xk_base.specs.UserMemory.{Memory, Timer, number_at, number_shown, size_of, timer_at}
use Rattle.rv32_words.specs.declared.insn.Insn.{Insn}
use Rattle.rv32_words.specs.declared.insn.Insn.TheVariants.{Lb, Lh, Lw, Lbu, Lhu, Sb, Sh, Sw}
use Rattle.rv32_words.specs.Reading.{insn_at}
use Rattle.machine_model.specs.Hart.Atomics.{Atomic, LoadReserved, StoreConditional, Amo, atomic_at, atomic_effect, execute, execute_at, is_reserved, leaving, operates, perform, reserves, result_of, stores_conditionally}
use Rattle.machine_model.specs.Hart.Instructions.{Executed, Next, Stores, StoresToConsole, StoresToTimer, Traps, address_of, effect, effect_if_any, execute_base, fetch_page_fault, following, load_misaligned, load_page_fault, loads, sign_extended_byte, sign_extended_half, store_misaligned, store_page_fault, stores, writes, x}
use Rattle.xk_kernel.specs.Quiet.{goes_on, without_timer}

-- ---- accesses

-- where the test fails the thread traps
abbrev unless : Bool → ℕ → ℕ → Executed → Executed
unless test cause address done = if not test then Traps cause address else done

-- there is access outside the timer's page
abbrev past : Option Timer → Bool → Bool
past timer may = not (is_some timer) && may

module _ (mem : Memory) (regs : List ℕ) (pc : ℕ) where
  -- what a load gives, by the timer that is at its address
  abbrev loaded : ℕ → ℕ → Width → (ℕ → ℕ) → Option Timer → Executed
  loaded rd address width extend timer = writes regs pc rd (extend (number_shown timer mem.byte address width))

  loads_same : (rd address : ℕ) (width : Width) (extend : ℕ → ℕ)
      → goes_on (loads (without_timer mem) regs pc rd address width extend) ≡ true
      → loads mem regs pc rd address width extend ≡ loads (without_timer mem) regs pc rd address width extend
  loads_same rd address width extend =
      by (address % size_of width == 0) (mem.may Load address) (timer_at mem.timer address)
    where
      by : (aligned may : Bool) (timer : Option Timer)
          → goes_on (unless aligned load_misaligned address (unless (past timer may) load_page_fault address (loaded rd address width extend None))) ≡ true
          → unless aligned load_misaligned address (unless may load_page_fault address (loaded rd address width extend timer))
          ≡ unless aligned load_misaligned address (unless (past timer may) load_page_fault address (loaded rd address width extend None))
      by false may timer e = absurd (false≢true e)
      by true may (Some t) e = absurd (false≢true e)
      by true false None e = absurd (false≢true e)
      by true true None e = refl

  -- what a store puts, with the timer there or not
  abbrev put : Bool → Bool → ℕ → Width → ℕ → List ℕ → Executed
  put console timer address width value left =
      if console then StoresToConsole (address % 4096) value left (following pc) else (
      if timer then StoresToTimer (address % 4096) width value left (following pc) else
      Stores address width value left (following pc))

  stores_same : (address : ℕ) (width : Width) (value : ℕ) → goes_on (stores (without_timer mem) regs pc address width value) ≡ true
      → stores mem regs pc address width value ≡ stores (without_timer mem) regs pc address width value
  stores_same address width value =
      by (address % size_of width == 0) (mem.may Store address) (mem.console address) (timer_at mem.timer address)
    where
      by : (aligned may console : Bool) (timer : Option Timer)
          → goes_on (unless aligned store_misaligned address (unless (past timer may) store_page_fault address
          (put console false address width value regs))) ≡ true
          → unless aligned store_misaligned address (unless may store_page_fault address
          (put console (is_some timer) address width value regs))
          ≡ unless aligned store_misaligned address (unless (past timer may) store_page_fault address
          (put console false address width value regs))
      by false may console timer e = absurd (false≢true e)
      by true may console (Some t) e = absurd (false≢true e)
      by true false console None e = absurd (false≢true e)
      by true true true None e = absurd (false≢true e)
      by true true false None e = refl

  -- ---- atomic instructions

  -- what an SC does that may store, by whether its address is reserved
  abbrev stored : Bool → Bool → Bool → ℕ → ℕ → ℕ → Executed
  stored held console timer rd address value =
      if held then put console timer address Word value (with_reg regs rd 0) else Next (with_reg regs rd 1) (following pc)

  conditional_same : (rd address : ℕ) (reserved : Option ℕ) (value : ℕ)
      → goes_on (stores_conditionally (without_timer mem) regs pc rd address reserved value) ≡ true
      → stores_conditionally mem regs pc rd address reserved value
      ≡ stores_conditionally (without_timer mem) regs pc rd address reserved value
  conditional_same rd address reserved value =
      by (address % 4 == 0) (mem.may Store address) (is_reserved reserved address) (mem.console address) (timer_at mem.timer address)
    where
      by : (aligned may held console : Bool) (timer : Option Timer)
          → goes_on (unless aligned store_misaligned address (unless (past timer may) store_page_fault address (stored held console false rd address value))) ≡ true
          → unless aligned store_misaligned address (unless may store_page_fault address (stored held console (is_some timer) rd address value))
          ≡ unless aligned store_misaligned address (unless (past timer may) store_page_fault address (stored held console false rd address value))
      by false may held console timer e = absurd (false≢true e)
      by true may held console (Some t) e = absurd (false≢true e)
      by true false held console None e = absurd (false≢true e)
      by true true held console None e = refl

  -- what an AMO does that has both accesses, by the timer that is at its address
  abbrev operated : ℕ → ℕ → (ℕ → ℕ) → Option Timer → Executed
  operated rd address result timer =
      let old = number_shown timer mem.byte address Word in
      put (mem.console address) (is_some timer) address Word (result old) (with_reg regs rd old)

  operates_same : (rd address : ℕ) (result : ℕ → ℕ) → goes_on (operates (without_timer mem) regs pc rd address result) ≡ true
      → operates mem regs pc rd address result ≡ operates (without_timer mem) regs pc rd address result
  operates_same rd address result =
      by (address % 4 == 0) (mem.may Load address) (mem.may Store address) (timer_at mem.timer address)
    where
      by : (aligned load store : Bool) (timer : Option Timer)
          → goes_on (unless aligned store_misaligned address (unless (past timer load && past timer store) store_page_fault address (operated rd address result None))) ≡ true
          → unless aligned store_misaligned address (unless (load && store) store_page_fault address (operated rd address result timer))
          ≡ unless aligned store_misaligned address (unless (past timer load && past timer store) store_page_fault address (operated rd address result None))
      by false load store timer e = absurd (false≢true e)
      by true load store (Some t) e = absurd (false≢true e)
      by true load store None e = refl

  atomic_same : (reserved : Option ℕ) (atomic : Atomic) → goes_on (atomic_effect (without_timer mem) regs pc reserved atomic) ≡ true
      → atomic_effect mem regs pc reserved atomic ≡ atomic_effect (without_timer mem) regs pc reserved atomic
  atomic_same reserved (LoadReserved rd rs1) = loads_same rd (x regs rs1) Word (λ word. word)
  atomic_same reserved (StoreConditional rd rs1 rs2) = conditional_same rd (x regs rs1) reserved (x regs rs2)
  atomic_same reserved (Amo operation rd rs1 rs2) = operates_same rd (x regs rs1) (λ old. result_of operation old (x regs rs2))

  -- ---- any instruction

  effect_same : (insn : Insn) → goes_on (effect (without_timer mem) regs pc insn) ≡ true
      → effect mem regs pc insn ≡ effect (without_timer mem) regs pc insn
  effect_same (Lb rd rs1 imm) e = loads_same rd (address_of regs rs1 imm) Byte sign_extended_byte e
  effect_same (Lh rd rs1 imm) e = loads_same rd (address_of regs rs1 imm) Half sign_extended_half e
  effect_same (Lw rd rs1 imm) e = loads_same rd (address_of regs rs1 imm) Word (λ v. v) e
  effect_same (Lbu rd rs1 imm) e = loads_same rd (address_of regs rs1 imm) Byte (λ v. v) e
  effect_same (Lhu rd rs1 imm) e = loads_same rd (address_of regs rs1 imm) Half (λ v. v) e
  effect_same (Sb rs1 rs2 imm) e = stores_same (address_of regs rs1 imm) Byte (reg_at regs rs2) e
  effect_same (Sh rs1 rs2 imm) e = stores_same (address_of regs rs1 imm) Half (reg_at regs rs2) e
  effect_same (Sw rs1 rs2 imm) e = stores_same (address_of regs rs1 imm) Word (reg_at regs rs2) e
  effect_same _ e = refl

  if_any_same : (word : ℕ) (o : Option Insn) → goes_on (effect_if_any (without_timer mem) regs pc word o) ≡ true
      → effect_if_any mem regs pc word o ≡ effect_if_any (without_timer mem) regs pc word o
  if_any_same word None e = absurd (false≢true e)
  if_any_same word (Some insn) e = effect_same insn e

  perform_same : (word : ℕ) (reserved : Option ℕ) (o : Option Atomic)
      → goes_on (perform (without_timer mem) regs pc word reserved o).executed ≡ true
      → perform mem regs pc word reserved o ≡ perform (without_timer mem) regs pc word reserved o
  unfolding execute_base
  perform_same word reserved None e = ap (leaving reserved) (if_any_same word (insn_at word) e)
  perform_same word reserved (Some atomic) e = ap (leaving (reserves regs reserved atomic)) (atomic_same reserved atomic e)

-- at any pc
pub same_with_timer : (mem : Memory) (regs : List ℕ) (pc : ℕ) (reserved : Option ℕ)
    → goes_on (execute_at regs pc reserved (without_timer mem)).executed ≡ true
    → execute_at regs pc reserved mem ≡ execute_at regs pc reserved (without_timer mem)
unfolding execute_at execute
same_with_timer mem regs pc reserved = by (mem.may Fetch pc) (timer_at mem.timer pc)
  where
    by : (may : Bool) (timer : Option Timer)
        → goes_on (if past timer may then perform (without_timer mem) regs pc (number_at mem.byte pc Word) reserved (atomic_at (number_at mem.byte pc Word))
        else leaving reserved (Traps fetch_page_fault pc)).executed ≡ true
        → (if may then perform mem regs pc (number_at mem.byte pc Word) reserved (atomic_at (number_at mem.byte pc Word)) else leaving reserved (Traps fetch_page_fault pc))
        ≡ (if past timer may then perform (without_timer mem) regs pc (number_at mem.byte pc Word) reserved (atomic_at (number_at mem.byte pc Word))
        else leaving reserved (Traps fetch_page_fault pc))
    by may (Some t) e = absurd (false≢true e)
    by false None e = absurd (false≢true e)
    by true None e = perform_same mem regs pc (number_at mem.byte pc Word) reserved (atomic_at (number_at mem.byte pc Word)) e
