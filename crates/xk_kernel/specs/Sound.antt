-- The soundness of a kernel, which each call needs and keeps.
use Rattle.std.specs.Prelude.{◌≡◌}
use Rattle.machine_model.specs.Runs.Matched.{Matched}
use Rattle.xk_ports.specs.Keeping.{KeepsStore}
use Rattle.xk_ports.specs.declared.store.SwapStore.{Ghosts as SwapStore}
use Rattle.vm_memory.specs.Memory.{IsUsable as IsMemoryUsable, size, store_of}
use Rattle.xk_parts.specs.Sound.{AreWhole}
use Rattle.xk_kernel.specs.State.{all_parts, machine_of}
use Rattle.xk_kernel.specs.declared.kernel.Kernel.{Kernel}

-- no call has answered SwapFault
abbrev pub IsUsable : {W : Type 0} → Kernel W → Type 0
IsUsable k = IsMemoryUsable k.mem

-- its parts are sound, whatever the store did: with this every loan can be spent
abbrev pub IsWhole : {W : Type 0} → SwapStore W → Kernel W → Type 0
IsWhole S k = AreWhole S k.cursor (all_parts k)

-- .. and until a call answers SwapFault the machine is matched
pub record IsSound {W : Type 0} (S : SwapStore W) (k : Kernel W) : Type 0 where
  pub whole : IsWhole S k
  pub matched : IsUsable k → Matched (machine_of S.held k)

-- what every call keeps: how large the memory is, and of the store that it is honest and tells where it did, its slots and the
-- preparations that it was asked for; its count doesn't fall. The room of the log stays too.
pub record Keeps {W : Type 0} (S : SwapStore W) (old new : Kernel W) : Type 0 where
  pub size : size new.mem ≡ size old.mem
  pub store : KeepsStore S (store_of old.mem) (store_of new.mem)
  pub room : new.log.room ≡ old.log.room
