-- The soundness of a memory, which each call needs and keeps.
use Rattle.std.specs.Prelude.{◌≡◌, ℕ, ◌+◌, ◌<◌, ◌≤◌}
use Rattle.xk_base.specs.Numbers.Limits.{table_frames}
use Rattle.phys_pages.specs.Owners.{extent, infos}
use Rattle.phys_pages.specs.Ram.{IsPlaced, area}
use Rattle.ledger_model.specs.Lawful.{IsLawful}
use Rattle.ledger_model.specs.Ledger.{pages}
use Rattle.sv32_space.specs.Agreement.{HasUnusedFrame}
use Rattle.sv32_space.specs.Tie.{agrees}
use Rattle.vm_memory.specs.declared.memory.Memory.{Memory}
use Rattle.vm_memory.specs.Bytes.{used_frames, used_slots}
use Rattle.vm_memory.specs.Memory.{processes, capacity_of, frames_for_pages, blank_ledger, IsUsable}
use Rattle.xk_base.specs.declared.limits.TheConstants.{PROCESS_LIMIT}

-- where there are more pages than stand in frames, and the frame before that at hand is free, it is the only one
abbrev pub KnowsLastFrame : {W : Type 0} → Memory W → Type 0
KnowsLastFrame m = (unused : HasUnusedFrame (extent m.owners) (infos m.owners)) → m.hand ≡ unused.frame + 1
    → frames_for_pages m < m.pages → frames_for_pages m ≤ used_frames m.owners

pub record IsSound {W : Type 0} (slot_count : W → ℕ) (m : Memory W) : Type 0 where
  -- entries and owners agree
  pub agree : agrees m.ram m.owners
  -- the counts are those of the owner table, and the limits hold
  pub procs : m.procs ≡ processes m
  pub slots : m.slots ≡ (extent m.owners).slots
  pub few : processes m ≤ PROCESS_LIMIT
  pub few_slots : m.slots ≤ 16384
  pub tables : table_frames (processes m) + 2 ≤ (area m.ram).frames
  pub placed : IsPlaced (area m.ram)
  -- the store has the slots
  pub store : m.slots ≤ slot_count m.store
  -- the ledger is lawful, but for the bytes of pages
  pub lawful : IsLawful (processes m) (capacity_of m) (blank_ledger m)
  -- its pages are counted, and each has one seat
  pub pages : m.pages ≡ pages (processes m) (blank_ledger m)
  pub seats : used_frames m.owners + used_slots m.owners ≡ m.pages
  -- a frame is free to exchange pages with, but while an exchange is under way and after a call that answered Failed
  pub room : IsUsable m → HasUnusedFrame (extent m.owners) (infos m.owners)
  -- where an exchange left a frame free, it is known that no other is
  pub last : KnowsLastFrame m
