-- What is kept of a kernel and of a store, one call after another.
use Rattle.std.proofs.Common.{refl, ◌∙◌, arith}
use Rattle.xk_ports.specs.declared.store.SwapStore.{Ghosts as SwapStore}
use Rattle.xk_ports.specs.Keeping.{KeepsStore}
use Rattle.xk_kernel.specs.Sound.{Keeps}
use Rattle.xk_kernel.specs.declared.kernel.Kernel.{Kernel}

store_same : {W : Type 0} {S : SwapStore W} (w : W)
    → KeepsStore S w w
store_same w = record { honest = refl; told = refl; slots = refl; preparations = refl; never_falls = omega arith }

pub store_after : {W : Type 0} {S : SwapStore W} {old mid new : W}
    → KeepsStore S old mid → KeepsStore S mid new → KeepsStore S old new
store_after first second = record {
  honest = second.honest ∙ first.honest;
  told = second.told ∙ first.told;
  slots = second.slots ∙ first.slots;
  preparations = second.preparations ∙ first.preparations;
  never_falls = omega (arith, first.never_falls, second.never_falls);
}

pub kept_same : {W : Type 0} {S : SwapStore W} (k : Kernel W)
    → Keeps S k k
kept_same k = record { size = refl; store = store_same _; room = refl }

pub kept_after : {W : Type 0} {S : SwapStore W} {old mid new : Kernel W}
    → Keeps S old mid → Keeps S mid new → Keeps S old new
kept_after first second = record {
  size = second.size ∙ first.size;
  store = store_after first.store second.store;
  room = second.room ∙ first.room;
}
