-- What the calls keep of the memory.
use Rattle.xk_ports.specs.declared.store.SwapStore.{Ghosts as SwapStore}
use Rattle.send_path.specs.Keeping.{KeepsMemory}
use Rattle.vm_memory.specs.Sound.{IsSound}
use Rattle.vm_memory.specs.declared.memory.Memory.{Memory}

-- it is sound, and as large as before, with the same store
pub record Stays {W : Type 0} (S : SwapStore W) (old new : Memory W) : Type 0 where
  pub sound : IsSound S.slot_count new
  pub keeps : KeepsMemory S old new
