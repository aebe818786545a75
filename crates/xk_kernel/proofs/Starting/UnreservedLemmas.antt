-- The start of a plan has no reservation.
use Rattle.std.proofs.Common.{◌≡◌, ℕ, List, Some, None}
use Rattle.boot_plan.specs.declared.plans.BootPlan.{BootPlan}
use Rattle.machine_laws.specs.Reserved.{IsReservedByThread}
use Rattle.xk_kernel.specs.Start.{start}

pub start_unreserved : (plan : BootPlan) (file : List ℕ) → IsReservedByThread (start plan file)
unfolding start
start_unreserved plan file r h = absurd (let d : None ≡ Some r = h in cc)
