-- A memory on its way to the pages and loans of a state.
use Rattle.std.specs.Prelude.{◌≡◌, ℕ, ◌≤◌, ◌⊎◌, true, IsTrue}
use Rattle.ledger_model.specs.Ledger.{Ledger}
use Rattle.ledger_model.specs.Loans.{bare, loans}
use Rattle.vm_memory.specs.Bytes.{is_known, none_out}
use Rattle.vm_memory.specs.Memory.{IsUsable, frames_for_pages, ledger, size, store_of}
use Rattle.vm_memory.specs.Sound.{IsSound}
use Rattle.vm_memory.specs.declared.memory.Memory.{Memory}
use Rattle.xk_base.specs.Outside.{Rose}
use Rattle.xk_ports.specs.declared.store.SwapStore.{Ghosts as SwapStore}
use Rattle.xk_ports.specs.Keeping.{KeepsStore}

-- there are frames for so many pages
abbrev pub HasFrames : {W : Type 0} → Memory W → ℕ → Type 0
HasFrames m total = total ≤ frames_for_pages m

-- bytes are known until there are `total` pages: the store is honest and tells, or there are frames for all
abbrev pub IsKnownUntil : {W : Type 0} → SwapStore W → Memory W → ℕ → Type 0
IsKnownUntil S m total = IsTrue (is_known S m) ⊎ HasFrames m total

-- The ledger of the memory is this one: its rights and loans whatever the store does, and its bytes where they are known until there
-- are `total` pages. Where there are frames for so many, no page is out.
pub record HasCome {W : Type 0} (S : SwapStore W) (total : ℕ) (m : Memory W) (target : Ledger)
    : Type 0 where
  pub sound : IsSound S.slot_count m
  pub usable : IsUsable m
  pub rights : bare (ledger S.held m) ≡ bare target
  pub whole : IsKnownUntil S m total → ledger S.held m ≡ target
  pub near : HasFrames m total → none_out m ≡ true

-- what every call on the way keeps of the memory
pub record KeepsSize {W : Type 0} (S : SwapStore W)
    (old new : Memory W) : Type 0 where
  pub size : size new ≡ size old
  pub store : KeepsStore S (store_of old) (store_of new)

-- The store failed on the way: its count rose. Loans are as they were.
pub record HasFailed {W : Type 0} (S : SwapStore W) (old new : Memory W) : Type 0 where
  pub sound : IsSound S.slot_count new
  pub loans : loans (ledger S.held new) ≡ loans (ledger S.held old)
  pub rose : Rose (S.faults (store_of old)) (S.faults (store_of new))
