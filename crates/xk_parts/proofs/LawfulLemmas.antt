-- The ledger of a sound memory is lawful.
use Rattle.ledger_model.proofs.Pages.BareLemmas.{bare-lawful}
use Rattle.ledger_model.specs.Lawful.{IsLawful}
use Rattle.vm_memory.proofs.Changing.SoundMemoryLemmas.{bare-ledger}
use Rattle.vm_memory.specs.Memory.{blank_ledger, capacity_of, ledger, processes}
use Rattle.vm_memory.specs.Sound.{IsSound}
use Rattle.vm_memory.specs.declared.memory.Memory.{Memory}
use Rattle.xk_ports.specs.declared.store.SwapStore.{Ghosts as SwapStore}

pub sound_lawful : {W : Type 0} (S : SwapStore W) (m : Memory W) → IsSound S.slot_count m
    → IsLawful (processes m) (capacity_of m) (ledger S.held m)
sound_lawful S m sound = bare-lawful (processes m) (capacity_of m) (blank_ledger m) (ledger S.held m) (bare-ledger S.held m) sound.lawful
