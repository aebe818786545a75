-- The kernels of a run: that there was one at each of its states.
use Rattle.std.specs.Prelude.{◌≡◌, ◌≤◌, ℕ, List}
use Rattle.machine_model.specs.Runs.Moments.{Moment, state_at}
use Rattle.machine_model.specs.State.Machine.{Machine}
use Rattle.vm_memory.specs.Tie.{IsTied}
use Rattle.xk_kernel.specs.Quiet.{GoesQuietly}
use Rattle.xk_kernel.specs.Sound.{IsSound, IsUsable, Keeps}
use Rattle.xk_kernel.specs.State.{machine_of}
use Rattle.xk_kernel.specs.declared.kernel.Kernel.{Kernel}
use Rattle.xk_ports.specs.declared.store.SwapStore.{Ghosts as SwapStore}

-- THERE WAS A KERNEL at this state, come from a first one: it was sound, no call had answered SwapFault, its machine was this one, its
-- entries in the bytes of RAM stood for the ledger of that, and since the first all was kept that every call keeps.
pub record Stood {W : Type 0} (S : SwapStore W) (first : Kernel W) (machine : Machine) : Type 0 where
  pub kernel : Kernel W
  pub keeps : Keeps S first kernel
  pub sound : IsSound S kernel
  pub usable : IsUsable kernel
  pub is : machine_of S.held kernel ≡ machine
  pub tied : IsTied S.held kernel.mem

-- there was one at each state to which at most so many quiet steps of the first lead
abbrev pub StoodQuietly : {W : Type 0} → SwapStore W → Kernel W → ℕ → Type 0
StoodQuietly S first done = (n : ℕ) (machine : Machine) → n ≤ done → GoesQuietly n (machine_of S.held first) machine → Stood S first machine

-- this holds at each state of a run: at its start, and after each of its moments
abbrev pub Throughout : (Machine → Type 0) → Machine → List Moment → Type 0
Throughout P start moments = (i : ℕ) → P (state_at start moments i)
