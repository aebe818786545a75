-- The numbers of errors.
use Rattle.std.specs.Prelude.{ℕ}
use Rattle.xk_base.specs.declared.errors.XousError.{XousError}
use Rattle.xk_base.specs.declared.errors.XousError.TheVariants.{BadAlignment, BadAddress, OutOfMemory, MemoryInUse, InterruptNotFound}
use Rattle.xk_base.specs.declared.errors.XousError.TheVariants.{InterruptInUse, ServerExists, ServerNotFound, ServerQueueFull}
use Rattle.xk_base.specs.declared.errors.XousError.TheVariants.{ThreadNotAvailable, UnhandledSyscall, InvalidSyscall, ShareViolation}
use Rattle.xk_base.specs.declared.errors.XousError.TheVariants.{InvalidThread, AccessDenied, DoubleFree, InvalidLimit}

-- the number of an error: the second word of a refused call's reply
abbrev pub code_of : XousError → ℕ
code_of BadAlignment = 1
code_of BadAddress = 2
code_of OutOfMemory = 3
code_of MemoryInUse = 4
code_of InterruptNotFound = 5
code_of InterruptInUse = 6
code_of ServerExists = 8
code_of ServerNotFound = 9
code_of ServerQueueFull = 15
code_of ThreadNotAvailable = 16
code_of UnhandledSyscall = 17
code_of InvalidSyscall = 18
code_of ShareViolation = 19
code_of InvalidThread = 20
code_of AccessDenied = 23
code_of DoubleFree = 25
code_of InvalidLimit = 27
