-- What an instruction does whose sources are read: one of the kinds of instruction.
use Rattle.std.specs.Prelude.{ℕ, List, Bool, true, false}
use Rattle.xk_base.specs.declared.pages.Width.{Width}
use Rattle.xk_base.specs.declared.pages.Width.TheVariants.{Byte, Half, Word}
use Rattle.xk_base.specs.UserMemory.{Memory}
use Rattle.rv32_words.specs.Formats.{IsRegister}
use Rattle.machine_model.specs.Hart.Instructions.{Executed, Next, CallsKernel, Traps, breakpoint, following, writes, jumps, branches, loads}
use Rattle.machine_model.specs.Hart.Instructions.{stores, sign_extended_byte, sign_extended_half}
use Rattle.rv32_hart.specs.declared.operation.Operation.{Operation}
use Rattle.rv32_hart.specs.declared.operation.Operation.TheVariants.{Write, Jump, Branch, Load, Store, Fence, Call, Break}

-- what a load of that width makes of a signed or an unsigned number
abbrev pub extended : Width → Bool → ℕ → ℕ
extended Byte true = sign_extended_byte
extended Byte false = λ a. a
extended Half true = sign_extended_half
extended Half false = λ a. a
extended Word signed = λ a. a

abbrev pub effect_of : Memory → List ℕ → ℕ → Operation → Executed
effect_of mem regs pc (Write rd value) = writes regs pc rd value
effect_of mem regs pc (Jump rd target) = jumps regs pc rd target
effect_of mem regs pc (Branch taken offset) = branches regs pc offset taken
effect_of mem regs pc (Load rd address width signed) = loads mem regs pc rd address width (extended width signed)
effect_of mem regs pc (Store address width value) = stores mem regs pc address width value
effect_of mem regs pc Fence = Next regs (following pc)
effect_of mem regs pc Call = CallsKernel
effect_of mem regs pc Break = Traps breakpoint pc

-- what it writes is a register
abbrev pub WritesRegister : Operation → Type 0
WritesRegister (Write rd value) = IsRegister rd
WritesRegister (Jump rd target) = IsRegister rd
WritesRegister (Load rd address width signed) = IsRegister rd
WritesRegister _ = Unit {0}
