use Rattle.std.proofs.Common.{refl}
use Rattle.xk_kernel.specs.State.{machine_of}
use Rattle.xk_kernel.proofs.kernel.Kernel.steps.Goals as goal

-- src/kernel/readers.rt
pub returns : goal.returns
unfolding machine_of
returns g c = refl
