-- What is kept of a kernel over two calls.
use Rattle.std.proofs.Common.{◌≡◌, refl, ◌∙◌}
use Rattle.sv32_space.specs.Tie.{Held}
use Rattle.xk_ports.specs.declared.store.SwapStore.{Ghosts as SwapStore}
use Rattle.vm_memory.specs.Memory.{store_of}
use Rattle.save_path.proofs.BringsLemmas.{store_both, store_same}
use Rattle.xk_kernel.specs.Sound.{Keeps}
use Rattle.xk_kernel.specs.State.{machine_of}
use Rattle.xk_kernel.specs.declared.kernel.Kernel.{Kernel}

module _ {W : Type 0} (S : SwapStore W) where
  pub kept_same : (k : Kernel W) → Keeps S k k
  kept_same k = record { size = refl; store = store_same S (store_of k.mem); room = refl }

  pub kept_after : (old mid new : Kernel W) → Keeps S old mid → Keeps S mid new → Keeps S old new
  kept_after old mid new first second = record {
    size = second.size ∙ first.size;
    store = store_both S (store_of old.mem) (store_of mid.mem) (store_of new.mem) first.store second.store;
    room = second.room ∙ first.room;
  }

-- the steps of the machine are those that the kernel counts
pub steps_shown : {W : Type 0} (held : W → Held) (k : Kernel W) → (machine_of held k).steps ≡ k.steps
unfolding machine_of
steps_shown held k = refl
