-- What a call keeps of the memory.
use Rattle.std.specs.Prelude.{◌≡◌, true}
use Rattle.vm_memory.specs.Bytes.{MeansBytes, none_out}
use Rattle.vm_memory.specs.Memory.{has_failed, size, store_of}
use Rattle.vm_memory.specs.declared.memory.Memory.{Memory}
use Rattle.xk_ports.specs.declared.store.SwapStore.{Ghosts as SwapStore}

-- However the call ends, it keeps how large the memory is, its store, and whether a call has failed. No page goes out, and
-- its bytes mean something where they did.
pub record KeepsMemory {W : Type 0} (S : SwapStore W) (old new : Memory W) : Type 0 where
  pub size : size new ≡ size old
  pub store : store_of new ≡ store_of old
  pub failed : has_failed new ≡ has_failed old
  pub none : none_out old ≡ true → none_out new ≡ true
  pub means : MeansBytes S old → MeansBytes S new
