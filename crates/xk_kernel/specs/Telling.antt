-- What a part of a step leaves: the machine, what the log tells besides, and the kernel that holds them.
use Rattle.std.specs.Prelude.{◌≡◌, true, false, Result, OnErr, OnOk}
use Rattle.machine_model.specs.State.Changes.{Told}
pub use Rattle.send_path.specs.Rows.{log_with}
use Rattle.sv32_space.specs.Tie.{Held}
use Rattle.vm_memory.specs.Bytes.{none_out}
use Rattle.vm_memory.specs.Memory.{has_failed, store_of}
use Rattle.xk_base.specs.Outside.{Rose}
use Rattle.xk_kernel.specs.Knowing.{ComesTo, PutsNoneOut}
use Rattle.xk_kernel.specs.Sound.{IsUsable, IsWhole, Keeps}
use Rattle.xk_kernel.specs.State.{machine_of}
use Rattle.xk_kernel.specs.declared.kernel.Kernel.{Kernel}
use Rattle.xk_ports.specs.declared.store.SwapStore.{Ghosts as SwapStore}

-- the machine became that one, and the log tells this
pub record Tells {W : Type 0} (held : W → Held) (old new : Kernel W) (told : Told) : Type 0 where
  pub machine : machine_of held new ≡ told.machine
  pub log : new.log ≡ log_with told.told old.log

-- .. of a part that may make pages: the machine became that one but for bytes, and wholly where these are known
pub record TellsOver {W : Type 0} (known : Type 0) (held : W → Held) (old new : Kernel W) (told : Told) : Type 0 where
  pub machine : ComesTo known (machine_of held new) told.machine
  pub log : new.log ≡ log_with told.told old.log

-- ---- the kernel

-- A part that brings and makes no page leaves a whole kernel that is usable.
pub record StaysUsable {W : Type 0} (S : SwapStore W) (old new : Kernel W) : Type 0 where
  pub whole : IsWhole S new
  pub usable : IsUsable new
  pub none : PutsNoneOut old new
  pub keeps : Keeps S old new

-- A part that may bring or make pages leaves a whole kernel. It fails only where the count of the store's faults rose, and the kernel
-- isn't usable then. It fails only where pages may move, and only there is one out where none was.
pub record Leaves {W A E : Type 0} (S : SwapStore W) (old new : Kernel W) (may_move : Type 0) (result : Result A E) : Type 0 where
  pub whole : IsWhole S new
  pub usable : OnOk result (IsUsable new)
  pub keeps : Keeps S old new
  pub failed : OnErr result (has_failed new.mem ≡ true)
  pub cause : OnErr result (Rose (S.faults (store_of old.mem)) (S.faults (store_of new.mem)))
  pub crowded : OnErr result may_move
  pub near : none_out old.mem ≡ true → none_out new.mem ≡ false → may_move
