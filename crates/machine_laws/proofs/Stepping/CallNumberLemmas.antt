-- What comes of a number that is in no row of the call table.
use Rattle.std.proofs.Common.{◌≡◌, ℕ, false, List, refl}
use Rattle.xk_base.specs.declared.errors.XousError.TheVariants.{UnhandledSyscall}
use Rattle.syscall_codec.specs.CallNumbers.{is_call_number}
use Rattle.syscall_codec.specs.CallWords.{call_number}
use Rattle.machine_model.specs.Calling.Calls.{call}
use Rattle.machine_model.specs.State.Changes.{Refused}
use Rattle.machine_model.specs.State.Machine.{Machine}

-- a number that is not in the table is refused
pub outside_refused : (m : Machine) (w : List ℕ) → is_call_number (call_number w) ≡ false → call m w ≡ Refused UnhandledSyscall
unfolding call
outside_refused m w e = rw e refl
