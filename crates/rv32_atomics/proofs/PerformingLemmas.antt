-- The instruction at the pc, with its reservation, is the one that stands there.
use Rattle.std.proofs.Common.{◌≡◌, ℕ, ◌∙◌, List, Bool, true, false, Option, Some, None, refl, sym, ap, subst, inl, inr}
use Rattle.std.proofs.lemmas.Bool.{cond-true, cond-false}
use Rattle.xk_base.specs.declared.pages.Access.{Access}
use Rattle.xk_base.specs.declared.pages.Access.TheVariants.{Fetch}
use Rattle.xk_base.specs.declared.pages.Width.TheVariants.{Word}
use Rattle.xk_base.specs.Calls.Registers.{reg_at}
use Rattle.xk_base.specs.UserMemory.{Content, KeepsContent, Memory, StandsAt, Timer, number_at}
use Rattle.machine_model.specs.Hart.Instructions.{Executed, Next, Stores, StoresToConsole, StoresToTimer, CallsKernel, Traps, execute_base, fetch_page_fault}
use Rattle.machine_model.specs.Hart.Atomics.{Atomic, Performed, atomic_at, atomic_effect, execute, execute_at, leaving, perform, reserves, unless_ended}
use Rattle.rv32_hart.specs.declared.ran.Ran.{Ran}
use Rattle.rv32_hart.specs.declared.ran.Ran.TheVariants.{Ecall, Trap, Device, Failed}
use Rattle.rv32_hart.specs.declared.ran.Ran.TheVariants as ran
use Rattle.rv32_hart.specs.Running.{DoesExecute, IsExecuted, OverBytes, View, execute_fetched, ran_of}
use Rattle.rv32_hart.proofs.AccessLemmas.{over_map}
use Rattle.rv32_hart.proofs.ExecutingLemmas.{agree, over, through, told, traps}
use Rattle.rv32_hart.proofs.ExecutingLemmas.{fetched as fetched_word}
use Rattle.rv32_atomics.specs.declared.atomic.Atomic as TableAtomic
use Rattle.rv32_atomics.specs.declared.fields.Fields.{Fields}
use Rattle.rv32_atomics.specs.declared.kind.Kind.{Kind}
use Rattle.rv32_atomics.specs.declared.kind.Kind.TheVariants.{LoadReserved, StoreConditional, Amo}
use Rattle.rv32_atomics.specs.Meaning.{kind_of, meaning, of_kind, reserves_by}
use Rattle.rv32_atomics.specs.Table.{fields_of}
use Rattle.rv32_atomics.specs.Performing.{Core, DoesPerform, IsPerformed, LeavesReserved, Performs, reserved_after}

-- what an answer leaves of a reservation is what its instruction does
left_by : (x : Executed) (before left : Option ℕ) → reserved_after (ran_of x) before left ≡ unless_ended left x
left_by (Next regs pc) before left = refl
left_by (Stores address width value regs pc) before left = refl
left_by (StoresToConsole offset value regs pc) before left = refl
left_by (StoresToTimer offset width value regs pc) before left = refl
left_by CallsKernel before left = refl
left_by (Traps cause value) before left = refl

-- the reservation that an instruction leaves, by its kind
by_kind : (k : Kind) (f : Fields) (regs : List ℕ) (reserved : Option ℕ)
    → reserves_by k (reg_at regs f.rs1) reserved ≡ reserves regs reserved (of_kind k f)
by_kind LoadReserved f regs reserved = refl
by_kind StoreConditional f regs reserved = refl
by_kind (Amo operation) f regs reserved = refl

pub reserves-by : (a : TableAtomic.Atomic) (regs : List ℕ) (reserved : Option ℕ)
    → reserves_by (kind_of a) (reg_at regs (fields_of a).rs1) reserved ≡ reserves regs reserved (meaning a)
reserves-by a regs reserved = by_kind (kind_of a) (fields_of a) regs reserved

pub leaves_reserved : (answer : Ran) (before left new : Option ℕ) → new ≡ reserved_after answer before left → LeavesReserved before new answer
leaves_reserved (ran.Next pc) before left new e = tt
leaves_reserved (Device offset value pc) before left new e = tt
leaves_reserved Ecall before left new e = e
leaves_reserved (Trap cause value) before left new e = e
leaves_reserved Failed before left new e = e

abbrev pub core : List ℕ → Option ℕ → Core
core regs reserved = record { regs = regs; reserved = reserved }

module _ (may : Access → ℕ → Bool) (console : ℕ → Bool) (timer : Option Timer) (after : View) (old new : List ℕ) (before kept : Option ℕ) where
  abbrev view : Content → View
  view content = told may console timer content

  abbrev at : (ℕ → ℕ) → Memory
  at byte = over may console timer byte

  performs_over : (g : Memory → Executed) (left : Option ℕ) (content : Content) (answer : Ran) → kept ≡ reserved_after answer before left
      → OverBytes content (λ byte. IsExecuted (g (at byte)) (view content) after old new answer)
      → OverBytes content (λ byte. IsPerformed (leaving left (g (at byte))) (view content) after (core old before) (core new kept) answer)
  performs_over g left content answer e h =
      over_map (λ byte. IsExecuted (g (at byte)) (view content) after old new answer)
      (λ byte. IsPerformed (leaving left (g (at byte))) (view content) after (core old before) (core new kept) answer) content
      (λ byte x. record {
        executed = x;
        reserved = e ∙ (ap (λ a. reserved_after a before left) x.answer ∙ left_by (g (at byte)) before left);
      }) h

  -- what is executed is performed, with what it leaves of the reservation
  pub performs : (g : Memory → Executed) (left : Option ℕ) (content : Content) (answer : Ran) → kept ≡ reserved_after answer before left
      → DoesExecute g (view content) after old new answer
      → DoesPerform (λ mem. leaving left (g mem)) (view content) after (core old before) (core new kept) answer
  performs g left content Failed e h = (h, e)
  performs g left content (ran.Next pc) e h = performs_over g left content (ran.Next pc) e h
  performs g left content Ecall e h = performs_over g left content Ecall e h
  performs g left content (Trap cause value) e h = performs_over g left content (Trap cause value) e h
  performs g left content (Device offset value pc) e h = performs_over g left content (Device offset value pc) e h

  -- over bytes that are told, what agrees there is performed alike
  agree_there : (f g : Memory → Performed) (byte : ℕ → ℕ) (answer : Ran) → g (at byte) ≡ f (at byte)
      → DoesPerform g (view (Some byte)) after (core old before) (core new kept) answer
      → DoesPerform f (view (Some byte)) after (core old before) (core new kept) answer
  agree_there f g byte Failed e h = h
  agree_there f g byte (ran.Next pc) e h = subst (λ p. IsPerformed p (view (Some byte)) after (core old before) (core new kept) (ran.Next pc)) e h
  agree_there f g byte Ecall e h = subst (λ p. IsPerformed p (view (Some byte)) after (core old before) (core new kept) Ecall) e h
  agree_there f g byte (Trap cause value) e h =
      subst (λ p. IsPerformed p (view (Some byte)) after (core old before) (core new kept) (Trap cause value)) e h
  agree_there f g byte (Device offset value pc) e h =
      subst (λ p. IsPerformed p (view (Some byte)) after (core old before) (core new kept) (Device offset value pc)) e h

  -- what is performed at the pc, of the atomic instruction that the word there has or hasn't
  fetched : (pc word : ℕ) (atomic : Option Atomic) (byte : ℕ → ℕ) → may Fetch pc ≡ true → word ≡ number_at byte pc Word → atomic_at word ≡ atomic
      → perform (at byte) old pc word before atomic ≡ execute_at old pc before (at byte)
  unfolding execute_at execute
  fetched pc word atomic byte m s i =
      (λ k. perform (at byte) old pc (s k) before ((sym i ∙ ap atomic_at s) k))
      ∙ sym (cond-true (may Fetch pc) (execute old pc (number_at byte pc Word) before (at byte)) (leaving before (Traps fetch_page_fault pc)) m)

  pub performs_atomic : (content middle : Content) (pc word : ℕ) (atomic : Atomic) (answer : Ran)
      → may Fetch pc ≡ true → StandsAt content pc Word word → KeepsContent content middle → atomic_at word ≡ Some atomic
      → kept ≡ reserved_after answer before (reserves old before atomic)
      → DoesExecute (λ mem. atomic_effect mem old pc before atomic) (view middle) after old new answer
      → Performs (view content) after (core old before) (core new kept) pc answer
  performs_atomic None middle pc word atomic answer m s k i e h =
      inl (
        atomic,
        m,
        performs (λ mem. atomic_effect mem old pc before atomic) (reserves old before atomic) None answer e
            (through may console timer after old new (λ mem. atomic_effect mem old pc before atomic) None middle answer k h),
      )
  performs_atomic (Some byte) middle pc word atomic answer m s k i e h =
      agree_there (execute_at old pc before) (λ mem. leaving (reserves old before atomic) (atomic_effect mem old pc before atomic)) byte answer
      (fetched pc word (Some atomic) byte m s i)
      (performs (λ mem. atomic_effect mem old pc before atomic) (reserves old before atomic) (Some byte) answer e
      (through may console timer after old new (λ mem. atomic_effect mem old pc before atomic) (Some byte) middle answer k h))

  pub performs_base : (content middle : Content) (pc word : ℕ) (answer : Ran)
      → may Fetch pc ≡ true → StandsAt content pc Word word → KeepsContent content middle → atomic_at word ≡ None
      → kept ≡ reserved_after answer before before → DoesExecute (execute_base old pc word) (view middle) after old new answer
      → Performs (view content) after (core old before) (core new kept) pc answer
  performs_base None middle pc word answer m s k i e h =
      inr (
        word,
        performs (execute_fetched old pc word) before None answer e
            (agree may console timer after old new (execute_fetched old pc word) (execute_base old pc word) None answer
            (fetched_word may console timer after old new pc word m)
            (through may console timer after old new (execute_base old pc word) None middle answer k h)),
      )
  performs_base (Some byte) middle pc word answer m s k i e h =
      agree_there (execute_at old pc before) (λ mem. leaving before (execute_base old pc word mem)) byte answer (fetched pc word None byte m s i)
      (performs (execute_base old pc word) before (Some byte) answer e
      (through may console timer after old new (execute_base old pc word) (Some byte) middle answer k h))

-- a fetch that is denied traps, and nothing is reserved any more
pub performs_denied : (may : Access → ℕ → Bool) (console : ℕ → Bool) (timer : Option Timer) (after : View) (old : List ℕ) (before : Option ℕ)
    (content : Content) (pc : ℕ) → may Fetch pc ≡ false → KeepsContent content after.content → after.timer ≡ timer
    → Performs (told may console timer content) after (core old before) (core old None) pc (Trap fetch_page_fault pc)
unfolding execute_at
performs_denied may console timer after old before None pc m k t =
    inr (
      0,
      performs may console timer after old old before None (execute_fetched old pc 0) before None (Trap fetch_page_fault pc) refl
          (traps may console timer (execute_fetched old pc 0) fetch_page_fault pc None after old
          (λ byte. cond-false (may Fetch pc) (execute_base old pc 0 (over may console timer byte)) (Traps fetch_page_fault pc) m) k t),
    )
performs_denied may console timer after old before (Some byte) pc m k t =
    agree_there may console timer after old old before None (execute_at old pc before) (λ mem. leaving before (Traps fetch_page_fault pc)) byte (Trap fetch_page_fault pc)
    (sym (cond-false (may Fetch pc) (execute old pc (number_at byte pc Word) before (over may console timer byte)) (leaving before (Traps fetch_page_fault pc)) m))
    (performs may console timer after old old before None (λ mem. Traps fetch_page_fault pc) before (Some byte) (Trap fetch_page_fault pc) refl
    (traps may console timer (λ mem. Traps fetch_page_fault pc) fetch_page_fault pc (Some byte) after old (λ other. refl) k t))
