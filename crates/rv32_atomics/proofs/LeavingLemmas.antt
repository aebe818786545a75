-- An instruction by which the thread doesn't go on leaves registers and reservation as they were.
use Rattle.std.proofs.Common.{◌≡◌, ℕ, List, Bool, true, false, Option, Some, None, refl, sym, ap, ◌∙◌, inr}
use Rattle.std.proofs.lemmas.Bool.{cond-false, cond-true}
use Rattle.xk_base.specs.UserMemory.{Content, KeepsContent, Timer}
use Rattle.xk_base.specs.declared.pages.Access.{Access}
use Rattle.rv32_hart.specs.declared.ran.Ran.{Ran}
use Rattle.rv32_hart.specs.declared.ran.Ran.TheVariants.{Ecall, Trap, Device, Failed}
use Rattle.rv32_hart.specs.declared.ran.Ran.TheVariants as ran
use Rattle.rv32_hart.specs.Running.{LeavesRegisters, View}
use Rattle.rv32_hart.proofs.ExecutingLemmas.{told}
use Rattle.rv32_atomics.specs.Performing.{Core, Performs, core_left, goes_on, reserved_after}
use Rattle.rv32_atomics.proofs.PerformingLemmas.{core}

-- an instruction of the base table leaves the reservation as it was where it goes on
pub base_left : (answer : Ran) (old new : List ℕ) (before : Option ℕ) → LeavesRegisters old new answer
    → core new before ≡ core_left (core old before) (core new (reserved_after answer before before)) answer
base_left (ran.Next pc) old new before h = refl
base_left (Device offset value pc) old new before h = λ i. core (h i) before
base_left Ecall old new before h = λ i. core (h i) before
base_left (Trap cause value) old new before h = λ i. core (h i) before
base_left Failed old new before h = λ i. core (h i) before

pub went_on : (old done : Core) (answer : Ran) → goes_on answer ≡ true → done ≡ core_left old done answer
went_on old done answer e = sym (cond-true (goes_on answer) done old e)

pub stayed : (old done : Core) (answer : Ran) → goes_on answer ≡ false → old ≡ core_left old done answer
stayed old done answer e = sym (cond-false (goes_on answer) done old e)

-- where memory failed, nothing was done
pub failed_over : (may : Access → ℕ → Bool) (console : ℕ → Bool) (timer : Option Timer) (after : View) (now : Core) (content : Content) (pc : ℕ)
    → KeepsContent content after.content → after.timer ≡ timer → Performs (told may console timer content) after now now pc Failed
failed_over may console timer after now None pc k t = inr (0, ((k, t), refl))
failed_over may console timer after now (Some byte) pc k t = ((k, t), refl)
