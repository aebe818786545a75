-- What SC and the AMOs come to, of what memory answers.
use Rattle.std.proofs.Common.{◌≡◌, ℕ, ◌%◌, ◌==◌, List, Bool, true, Option, Some, None, refl, subst}
use Rattle.xk_base.specs.declared.pages.Access.{Access}
use Rattle.xk_base.specs.declared.pages.Access.TheVariants.{Load, Store}
use Rattle.xk_base.specs.declared.pages.Width.TheVariants.{Word}
use Rattle.xk_base.specs.Calls.Registers.{with_reg}
use Rattle.xk_base.specs.UserMemory.{Content, Memory, ShowsAt, Timer, number_shown, timer_at}
use Rattle.machine_model.specs.Hart.Instructions.{Executed, following, puts}
use Rattle.machine_model.specs.Hart.Atomics.{operates}
use Rattle.rv32_hart.specs.declared.ran.Ran.{Ran}
use Rattle.rv32_hart.specs.declared.ran.Ran.TheVariants.{Ecall, Trap, Device, Failed}
use Rattle.rv32_hart.specs.declared.ran.Ran.TheVariants as ran
use Rattle.rv32_hart.specs.Running.{DoesExecute, IsExecuted, OverBytes, View}
use Rattle.rv32_hart.proofs.AccessLemmas.{over_does, shown}
use Rattle.rv32_hart.proofs.ExecutingLemmas.{agree, over, told}
use Rattle.rv32_atomics.specs.Performing.{puts_if_allowed}

module _ (may : Access → ℕ → Bool) (console : ℕ → Bool) (timer : Option Timer) (after : View) (old new : List ℕ) where
  -- where the process may store, what puts the word there does so
  pub put_does : (content : Content) (a value pc : ℕ) (regs : List ℕ) (answer : Ran) → may Store a ≡ true
      → OverBytes content (λ byte. IsExecuted (puts (over may console timer byte) a Word value regs pc) (told may console timer content) after old new answer)
      → DoesExecute (λ mem. puts_if_allowed mem a value regs pc) (told may console timer content) after old new answer
  put_does content a value pc regs answer m h =
      agree may console timer after old new (λ mem. puts_if_allowed mem a value regs pc) (λ mem. puts mem a Word value regs pc) content answer
      (λ byte. rw m refl)
      (over_does may console timer after old new (λ mem. puts mem a Word value regs pc) content answer h)

  -- An AMO loads the old word, and puts the result in its place. What puts it there doesn't look at bytes.
  module _ (pc rd a word : ℕ) (result : ℕ → ℕ) (al : (a % 4 == 0) ≡ true) (m : may Load a ≡ true) where
    abbrev put : Memory → Executed
    put mem = puts_if_allowed mem a (result word) (with_reg old rd word) (following pc)

    abbrev Puts : Content → Ran → Type 0
    Puts content answer = OverBytes content (λ byte. IsExecuted (put (over may console timer byte)) (told may console timer content) after old new answer)

    abbrev Operates : Content → Ran → Type 0
    Operates content answer =
        OverBytes content (λ byte. IsExecuted (operates (over may console timer byte) old pc rd a result) (told may console timer content) after old new answer)

    same : (byte : ℕ → ℕ) → number_shown (timer_at timer a) byte a Word ≡ word
        → put (over may console timer byte) ≡ operates (over may console timer byte) old pc rd a result
    same byte e = rw (al, m, e) refl

    operates_over : (content : Content) (answer : Ran) → ShowsAt (timer_at timer a) content a Word word → Puts content answer → Operates content answer
    operates_over None answer s h =
        let bytes = shown (timer_at timer a) None a Word word s in
        (bytes.0, subst (λ x. IsExecuted x (told may console timer None) after old new answer) (same bytes.0 bytes.1) h.1)
    operates_over (Some byte) answer s h =
        subst (λ x. IsExecuted x (told may console timer (Some byte)) after old new answer)
        (same byte (shown (timer_at timer a) (Some byte) a Word word s)) h

    pub operates_does : (content : Content) (answer : Ran) → ShowsAt (timer_at timer a) content a Word word
        → DoesExecute put (told may console timer content) after old new answer
        → DoesExecute (λ mem. operates mem old pc rd a result) (told may console timer content) after old new answer
    operates_does content Failed s h = h
    operates_does content (ran.Next next) s h = operates_over content (ran.Next next) s h
    operates_does content Ecall s h = operates_over content Ecall s h
    operates_does content (Trap cause value) s h = operates_over content (Trap cause value) s h
    operates_does content (Device offset value next) s h = operates_over content (Device offset value next) s h
