-- Each page of a sound memory is whole, whatever the store tells.
use Rattle.xk_ports.specs.declared.store.SwapStore.{Ghosts as SwapStore}
use Rattle.std.proofs.Common.{◌≡◌, ◌+◌, ◌<◌, ℕ, length, Some, arith, inl, inr}
use Rattle.std.specs.List.{All}
use Rattle.xk_base.specs.declared.ids.Place.{Place}
use Rattle.phys_pages.specs.declared.infos.PageInfo.{PageInfo}
use Rattle.phys_pages.specs.declared.infos.Seat.{Seat}
use Rattle.phys_pages.specs.declared.infos.Seat.TheVariants.{Frame, Slot}
use Rattle.phys_pages.specs.Owners.{HasSeat, extent, infos}
use Rattle.phys_pages.specs.Ram.{area, pages}
use Rattle.phys_pages.proofs.OwnerLemmas.{infos-within}
use Rattle.phys_pages.proofs.PageLemmas.{length-pages}
use Rattle.ledger_model.specs.WholePages.{IsPage, HasWholePages}
use Rattle.ledger_model.proofs.LedgerLemmas.{cases_Option}
use Rattle.sv32_space.specs.declared.sides.Entry.TheVariants.{At}
use Rattle.sv32_space.specs.declared.sides.Side.{Side}
use Rattle.sv32_space.specs.SpelledEntries.{entries}
use Rattle.sv32_space.specs.Tie.{Held, bytes_at}
use Rattle.sv32_space.proofs.Ledgers.EntryLedgerLemmas.{names_free}
use Rattle.sv32_space.proofs.Ledgers.WholeSeatLemmas.{ledger_whole, slot_whole}
use Rattle.vm_memory.specs.declared.memory.Memory.{Memory}
use Rattle.vm_memory.specs.Memory.{ledger, processes}
use Rattle.vm_memory.specs.Sound.{IsSound}

module _ {W : Type 0} (S : SwapStore W) (m : Memory W) (sound : IsSound S.slot_count m) where
  -- the bytes of a used seat are 4096
  seat_size : (s : Seat) (info : PageInfo) → infos m.owners s ≡ Some info → length (bytes_at m.ram (S.held m.store) s) ≡ 4096
  seat_size (Frame f) info i =
      let seat : HasSeat (extent m.owners) (Frame f) = infos-within m.owners (Frame f) info i in
      let last : (extent m.owners).first + (extent m.owners).frames ≡ (area m.ram).frames = sound.agree.last in
      length-pages m.ram f.0 (omega (arith, seat.1, last))
  seat_size (Slot s) info i = (slot_whole (S.held m.store) s.0).size

  -- .. and so those of the seat that an entry names
  pub entry_size : (p : Place) (side : Side) (s : Seat) → entries (processes m) m.ram p ≡ Some (At side s) → length (bytes_at m.ram (S.held m.store) s) ≡ 4096
  entry_size p side s e = elim (cases_Option (infos m.owners s)) [
    | inl none ↦ absurd (names_free (processes m) (entries (processes m) m.ram) (infos m.owners) sound.agree.entries p side s e none)
    | inr some ↦ seat_size s some.0 some.1
  ]

  -- THE PAGES are whole, as RAM holds bytes
  pub whole_pages : ((f : ℕ) → All (λ b. b < 256) (pages m.ram f)) → HasWholePages (ledger S.held m)
  unfolding ledger
  whole_pages are_bytes = ledger_whole (processes m) (entries (processes m) m.ram) (infos m.owners) (bytes_at m.ram (S.held m.store)) sound.agree.entries seat_whole
    where
      seat_whole : (s : Seat) (info : PageInfo) → infos m.owners s ≡ Some info → IsPage (bytes_at m.ram (S.held m.store) s)
      seat_whole (Frame f) info i = record { size = seat_size (Frame f) info i; each = are_bytes f.0 }
      seat_whole (Slot s) info i = slot_whole (S.held m.store) s.0
