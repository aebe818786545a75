-- What is played of a slice on a kernel.
use Rattle.std.specs.Prelude.{◌<◌, ◌≤◌, ℕ, Bool}
use Rattle.xk_ports.specs.declared.store.SwapStore.{Ghosts as SwapStore}
use Rattle.xk_kernel.specs.State.{machine_of}
use Rattle.xk_kernel.specs.declared.kernel.Kernel.{Kernel}
use Rattle.order_model.specs.declared.orders.Trail.{Trail}
use Rattle.order_player.specs.declared.slices.Part.{Part}
use Rattle.order_player.specs.declared.slices.Part.TheVariants.{On, Over}
use Rattle.order_player.specs.Steps.{AreSteps, Shown, told_in}

-- what a kernel shows, with what its records told
abbrev pub shown : {W : Type 0} → SwapStore W → Kernel W → Trail → Shown
shown S kernel trail = record { machine = machine_of S.held kernel; told = told_in trail }

-- how many steps are left
abbrev pub part_left : Part → ℕ
part_left (On rest) = rest
part_left (Over left) = left

-- fewer are left than there were, where the slice goes on, and no more where it is over
abbrev pub IsFewer : ℕ → Part → Type 0
IsFewer most (On rest) = rest < most
IsFewer most (Over left) = left ≤ most

-- Some of the steps were played: then the rest leads wherever all do, or there is none.
abbrev pub PlaysSome : Bool → ℕ → Shown → Shown → Part → Type 0
PlaysSome keeps most old new (On rest) =
    (rest < most) × ((left : ℕ) (last : Shown) → AreSteps keeps rest new left last → AreSteps keeps most old left last)
PlaysSome keeps most old new (Over left) = AreSteps keeps most old left new
