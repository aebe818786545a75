-- What follows from the soundness of a memory.
use Rattle.xk_ports.specs.declared.store.SwapStore.{Ghosts as SwapStore}
use Rattle.std.proofs.Common.{◌≡◌, Bool, true, false, refl}
use Rattle.std.specs.Prelude.{MatchBool}
use Rattle.phys_pages.specs.Owners.{extent, infos}
use Rattle.ledger_model.specs.Ledger.{pages}
use Rattle.ledger_model.specs.Loans.{bare}
use Rattle.ledger_model.specs.Steps.{zero_page}
use Rattle.ledger_model.proofs.Stepping.WritingLemmas.{bare-pages}
use Rattle.sv32_space.specs.Agreement.{HasUnusedFrame}
use Rattle.sv32_space.specs.SpelledEntries.{entries}
use Rattle.sv32_space.specs.Tie.{Held, bytes_at, stands_for, stands_without_room}
use Rattle.sv32_space.proofs.Agreeing.TieLemmas.{stands_agreeing, stands_with_room}
use Rattle.sv32_space.proofs.Ledgers.SeatByteLemmas.{bare_same}
use Rattle.vm_memory.specs.declared.memory.Memory.{Memory}
use Rattle.vm_memory.specs.Memory.{processes, ledger, blank_ledger}
use Rattle.vm_memory.specs.Sound.{IsSound}
use Rattle.vm_memory.specs.Tie.{IsTied}

-- the ledger is the blank one but for its bytes
pub bare-ledger : {W : Type 0} (held : W → Held) (m : Memory W) → bare (ledger held m) ≡ bare (blank_ledger m)
unfolding ledger blank_ledger
bare-ledger held m = bare_same (entries (processes m) m.ram) (infos m.owners) (λ s. zero_page) (bytes_at m.ram (held m.store))

-- it has as many pages
pub pages-ledger : {W : Type 0} (held : W → Held) (m : Memory W) → pages (processes m) (ledger held m) ≡ pages (processes m) (blank_ledger m)
pages-ledger held m = bare-pages (processes m) (blank_ledger m) (ledger held m) (bare-ledger held m)

-- THE TIE holds of a sound memory
pub sound-tied : {W : Type 0} (S : SwapStore W) (m : Memory W) → IsSound S.slot_count m → IsTied S.held m
unfolding ledger
sound-tied S m sound = by_failed m.failed sound.room
  where
    by_failed : (failed : Bool) → (failed ≡ false → HasUnusedFrame (extent m.owners) (infos m.owners))
        → MatchBool failed
        (stands_without_room m.ram (processes m) (S.held m.store) (ledger S.held m))
        (stands_for m.ram (processes m) (S.held m.store) (ledger S.held m))
    by_failed true room = stands_agreeing m.ram m.owners (S.held m.store) sound.agree
    by_failed false room = stands_with_room m.ram m.owners (S.held m.store) sound.agree (room refl)
