-- What calls that hold a store keep of it, and when what its slots hold is known.
use Rattle.std.specs.Prelude.{◌≡◌, ◌≤◌, Bool, ◌&&◌, is_some}
use Rattle.xk_ports.specs.declared.store.SwapStore.{Ghosts as SwapStore}

-- the store is honest, and tells what its slots hold
abbrev pub tells_truly : {W : Type 0} → SwapStore W → W → Bool
tells_truly S store = S.is_honest store && is_some (S.held store)

-- it is honest where it was, tells where it told, its slots and the preparations that it was asked for stay, and its
-- count of faults doesn't fall
pub record KeepsStore {W : Type 0} (S : SwapStore W) (old new : W) : Type 0 where
  pub honest : S.is_honest new ≡ S.is_honest old
  pub told : is_some (S.held new) ≡ is_some (S.held old)
  pub slots : S.slot_count new ≡ S.slot_count old
  pub preparations : S.asked new ≡ S.asked old
  pub never_falls : S.faults old ≤ S.faults new
