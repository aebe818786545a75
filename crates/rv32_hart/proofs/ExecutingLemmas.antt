-- The instruction at the pc is the one that stands there.
use Rattle.std.proofs.Common.{◌≡◌, ℕ, ◌∙◌, List, Bool, true, false, Option, Some, None, refl, sym, ap, subst}
use Rattle.std.proofs.lemmas.Bool.{cond-true, cond-false}
use Rattle.xk_base.specs.declared.pages.Access.{Access}
use Rattle.xk_base.specs.declared.pages.Access.TheVariants.{Fetch}
use Rattle.xk_base.specs.declared.pages.Width.TheVariants.{Word}
use Rattle.xk_base.specs.UserMemory.{Content, KeepsContent, Memory, StandsAt, Timer, number_at}
use Rattle.rv32_words.specs.declared.insn.Insn.{Insn}
use Rattle.rv32_words.specs.Reading.{insn_at}
use Rattle.machine_model.specs.Hart.Instructions.{Executed, Next, Stores, StoresToConsole, StoresToTimer, CallsKernel, Traps, effect, effect_if_any, execute_base, execute_base_at, fetch_page_fault, illegal_instruction}
use Rattle.rv32_hart.specs.declared.ran.Ran.{Ran}
use Rattle.rv32_hart.specs.declared.ran.Ran.TheVariants.{Ecall, Trap, Device, Failed}
use Rattle.rv32_hart.specs.declared.ran.Ran.TheVariants as ran
use Rattle.rv32_hart.specs.Running.{DoesExecute, Executes, IfFailed, IsExecuted, IsExecutedAlone, OverBytes, View, execute_fetched, ran_of, seen}

-- what is answered of an executed instruction isn't a failure
pub not_of : (x : Executed) (answer : Ran) (fact : Type 0) → answer ≡ ran_of x → IfFailed answer fact
not_of x (ran.Next pc) fact e = tt
not_of x Ecall fact e = tt
not_of x (Trap cause value) fact e = tt
not_of x (Device offset value pc) fact e = tt
not_of (Next regs pc) Failed fact e = absurd (cc)
not_of (Stores address width value regs pc) Failed fact e = absurd (cc)
not_of (StoresToConsole offset value regs pc) Failed fact e = absurd (cc)
not_of (StoresToTimer offset width value regs pc) Failed fact e = absurd (cc)
not_of CallsKernel Failed fact e = absurd (cc)
not_of (Traps cause value) Failed fact e = absurd (cc)

module _ (may : Access → ℕ → Bool) (console : ℕ → Bool) (timer : Option Timer) where
  -- what the process sees where this is told of memory
  abbrev pub told : Content → View
  told content = record { may = may; console = console; content = content; timer = timer }

  abbrev pub over : (ℕ → ℕ) → Memory
  over byte = record { may = may; console = console; byte = byte; timer = timer }

  module _ (after : View) (old new : List ℕ) where
    -- where nothing is told, less is said
    less : (x : Executed) (middle : Content) (answer : Ran)
        → IsExecuted x (told middle) after old new answer → IsExecuted x (told None) after old new answer
    less x middle answer h = record { answer = h.answer; registers = h.registers; content = tt; timer = h.timer }

    less_over : (f : Memory → Executed) (middle : Content) (answer : Ran)
        → OverBytes middle (λ byte. IsExecuted (f (over byte)) (told middle) after old new answer)
        → OverBytes None (λ byte. IsExecuted (f (over byte)) (told None) after old new answer)
    less_over f None answer h = h
    less_over f (Some byte) answer h = (byte, less (f (over byte)) (Some byte) answer h)

    -- what is told before a fetch is told after it
    pub through : (f : Memory → Executed) (before middle : Content) (answer : Ran)
        → KeepsContent before middle → DoesExecute f (told middle) after old new answer → DoesExecute f (told before) after old new answer
    through f None middle Failed k h = (tt, h.1)
    through f None middle (ran.Next pc) k h = less_over f middle (ran.Next pc) h
    through f None middle Ecall k h = less_over f middle Ecall h
    through f None middle (Trap cause value) k h = less_over f middle (Trap cause value) h
    through f None middle (Device offset value pc) k h = less_over f middle (Device offset value pc) h
    through f (Some byte) middle answer k h = subst (λ m. DoesExecute f (told m) after old new answer) k h

    -- two effects that agree over all bytes
    agree_over : (f g : Memory → Executed) (content : Content) (answer : Ran) → ((byte : ℕ → ℕ) → g (over byte) ≡ f (over byte))
        → OverBytes content (λ byte. IsExecuted (g (over byte)) (told content) after old new answer)
        → OverBytes content (λ byte. IsExecuted (f (over byte)) (told content) after old new answer)
    agree_over f g None answer e h = (h.0, subst (λ x. IsExecuted x (told None) after old new answer) (e h.0) h.1)
    agree_over f g (Some byte) answer e h = subst (λ x. IsExecuted x (told (Some byte)) after old new answer) (e byte) h

    pub agree : (f g : Memory → Executed) (content : Content) (answer : Ran) → ((byte : ℕ → ℕ) → g (over byte) ≡ f (over byte))
        → DoesExecute g (told content) after old new answer → DoesExecute f (told content) after old new answer
    agree f g content Failed e h = h
    agree f g content (ran.Next pc) e h = agree_over f g content (ran.Next pc) e h
    agree f g content Ecall e h = agree_over f g content Ecall e h
    agree f g content (Trap cause value) e h = agree_over f g content (Trap cause value) e h
    agree f g content (Device offset value pc) e h = agree_over f g content (Device offset value pc) e h

    -- what the word does that stands at the pc is what the instruction there does
    of_word : (content : Content) (pc word : ℕ) (answer : Ran) → StandsAt content pc Word word
        → DoesExecute (execute_fetched old pc word) (told content) after old new answer → Executes (told content) after old new pc answer
    unfolding execute_base_at
    of_word None pc word answer s h = (word, h)
    of_word (Some byte) pc word answer s h = told_word answer (subst (λ w. DoesExecute (execute_fetched old pc w) (told (Some byte)) after old new answer) s h)
      where
        told_word : (answer : Ran) → DoesExecute (execute_fetched old pc (number_at byte pc Word)) (told (Some byte)) after old new answer
            → DoesExecute (execute_base_at old pc) (told (Some byte)) after old new answer
        told_word Failed h = h
        told_word (ran.Next next) h = h
        told_word Ecall h = h
        told_word (Trap cause value) h = h
        told_word (Device offset value next) h = h

    -- what a word does is what its instruction does, if it has one
    decoded : (pc word : ℕ) (insn : Option Insn) → insn_at word ≡ insn → (byte : ℕ → ℕ)
        → effect_if_any (over byte) old pc word insn ≡ execute_base old pc word (over byte)
    unfolding execute_base
    decoded pc word insn i byte = ap (effect_if_any (over byte) old pc word) (sym i)

    pub executes_insn : (before : Content) (pc word : ℕ) (insn : Insn) (answer : Ran) → insn_at word ≡ Some insn
        → DoesExecute (λ mem. effect mem old pc insn) (told before) after old new answer
        → DoesExecute (execute_base old pc word) (told before) after old new answer
    executes_insn before pc word insn answer i h =
        agree (execute_base old pc word) (λ mem. effect mem old pc insn) before answer (decoded pc word (Some insn) i) h

    -- where the process may fetch it
    pub fetched : (pc word : ℕ) → may Fetch pc ≡ true → (byte : ℕ → ℕ) → execute_base old pc word (over byte) ≡ execute_fetched old pc word (over byte)
    fetched pc word m byte = sym (cond-true (may Fetch pc) (execute_base old pc word (over byte)) (Traps fetch_page_fault pc) m)

    pub executes_word : (before middle : Content) (pc word : ℕ) (answer : Ran)
        → may Fetch pc ≡ true → StandsAt before pc Word word → KeepsContent before middle
        → DoesExecute (execute_base old pc word) (told middle) after old new answer → Executes (told before) after old new pc answer
    executes_word before middle pc word answer m s k h =
        of_word before pc word answer s
        (agree (execute_fetched old pc word) (execute_base old pc word) before answer (fetched pc word m)
        (through (execute_base old pc word) before middle answer k h))

  -- ---- traps

  trap_over : (cause value : ℕ) (before : Content) (after : View) (regs : List ℕ) → KeepsContent before after.content → after.timer ≡ timer
      → OverBytes before (λ byte. IsExecuted (Traps cause value) (told before) after regs regs (Trap cause value))
  trap_over cause value None after regs k t = ((λ a. 0), record { answer = refl; registers = refl; content = tt; timer = t })
  trap_over cause value (Some byte) after regs k t = record { answer = refl; registers = refl; content = k; timer = t }

  keeps_told : (content : Content) → KeepsContent content content
  keeps_told None = tt
  keeps_told (Some byte) = refl

  -- a trap leaves what is told
  pub traps : (f : Memory → Executed) (cause value : ℕ) (before : Content) (after : View) (regs : List ℕ)
      → ((byte : ℕ → ℕ) → f (over byte) ≡ Traps cause value) → KeepsContent before after.content → after.timer ≡ timer
      → DoesExecute f (told before) after regs regs (Trap cause value)
  traps f cause value before after regs e k t =
      agree after regs regs f (λ mem. Traps cause value) before (Trap cause value) (λ byte. sym (e byte)) (trap_over cause value before after regs k t)

  pub executes_nothing : (before : Content) (regs : List ℕ) (pc word : ℕ) → insn_at word ≡ None
      → DoesExecute (execute_base regs pc word) (told before) (told before) regs regs (Trap illegal_instruction word)
  executes_nothing before regs pc word i =
      traps (execute_base regs pc word) illegal_instruction word before (told before) regs
      (λ byte. sym (decoded (told before) regs regs pc word None i byte)) (keeps_told before) refl

  pub fetch_denied : (before : Content) (after : View) (regs : List ℕ) (pc : ℕ)
      → may Fetch pc ≡ false → KeepsContent before after.content → after.timer ≡ timer
      → Executes (told before) after regs regs pc (Trap fetch_page_fault pc)
  unfolding execute_base_at
  fetch_denied None after regs pc m k t = (
    0,
    traps (execute_fetched regs pc 0) fetch_page_fault pc None after regs
        (λ byte. cond-false (may Fetch pc) (execute_base regs pc 0 (over byte)) (Traps fetch_page_fault pc) m) k t,
  )
  fetch_denied (Some byte) after regs pc m k t =
      traps (execute_base_at regs pc) fetch_page_fault pc (Some byte) after regs
      (λ other. cond-false (may Fetch pc) (execute_base regs pc (number_at other pc Word) (over other)) (Traps fetch_page_fault pc) m) k t

pub not_failed : {x : Executed} {old new : List ℕ} {answer : Ran} (fact : Type 0) → IsExecutedAlone x old new answer → IfFailed answer fact
not_failed {x} {old} {new} {answer} fact h = not_of x answer fact h.answer
