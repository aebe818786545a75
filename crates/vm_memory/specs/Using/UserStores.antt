-- What a store does to a memory, by the entry of the page of the address.
use Rattle.std.specs.Prelude.{◌≡◌, ℕ, ◌%◌}
use Rattle.xk_base.specs.UserMemory.{low_bytes}
use Rattle.xk_base.specs.declared.ids.Frame.{Frame}
use Rattle.xk_base.specs.declared.ids.Pid.{Pid}
use Rattle.xk_base.specs.declared.pages.Access.TheVariants.{Store}
use Rattle.xk_base.specs.declared.pages.Stored.{Stored}
use Rattle.xk_base.specs.declared.pages.Stored.TheVariants.{Done, Device, Fault}
use Rattle.xk_base.specs.declared.pages.Width.{Width}
use Rattle.phys_pages.specs.Ram.{pages, with_page}
use Rattle.ledger_model.specs.Steps.{written}
use Rattle.sv32_space.specs.SpelledEntries.{entries}
use Rattle.vm_memory.specs.declared.memory.Memory.{Memory}
use Rattle.page_views.specs.declared.targets.Target.{Target}
use Rattle.page_views.specs.declared.targets.Target.TheVariants.{Page, Console, Nothing}
use Rattle.page_views.specs.EntryAccess.{entry_target}
use Rattle.xk_base.specs.Numbers.Windows.{page_of}
use Rattle.vm_memory.specs.Memory.{processes}

-- where a store at the address leads
abbrev pub store_target : {W : Type 0} → Memory W → Pid → ℕ → Target
store_target m pid address = entry_target (entries (processes m) m.ram (page_of pid address)) Store

-- a store that a process does: of the low bytes of a value, at an address
pub record UserStore : Type 0 where
  pub pid : Pid
  pub address : ℕ
  pub width : Width
  pub value : ℕ

-- the page of a frame with the bytes of the store at its offset, and nothing else changed
pub record StoresBytes {W : Type 0} (store : UserStore) (old new : Memory W) : Type 0 where
  pub frame : Frame
  pub target : store_target old store.pid store.address ≡ Page frame
  pub stored : new ≡ record old {
    ram = with_page old.ram frame.0 (written (pages old.ram frame.0) (store.address % 4096) (low_bytes store.width store.value));
  }

-- the store is done between these memories, with this answer
abbrev pub DoesStore : {W : Type 0} → UserStore → Memory W → Memory W → Stored → Type 0
DoesStore store old new Done = StoresBytes store old new
DoesStore store old new (Device offset) = (store_target old store.pid store.address ≡ Console) × (offset ≡ store.address % 4096)
    × (new ≡ old)
DoesStore store old new Fault = (store_target old store.pid store.address ≡ Nothing) × (new ≡ old)
