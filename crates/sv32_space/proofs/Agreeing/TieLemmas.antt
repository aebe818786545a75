-- Where the entries in RAM agree with the owners, RAM and the store's slots stand for the ledger that they make.
use Rattle.std.proofs.Common.{◌≡◌, ℕ, List, Some, ap, refl}
use Rattle.std.specs.Prelude.{unwrap_or}
use Rattle.std.proofs.lemmas.Option.{same_Some}
use Rattle.phys_pages.specs.declared.infos.Seat.{Seat}
use Rattle.phys_pages.specs.declared.infos.Seat.TheVariants.{Frame, Slot}
use Rattle.phys_pages.specs.Owners.{OwnerTable, extent, infos}
use Rattle.phys_pages.specs.Ram.{RamBytes, pages}
use Rattle.phys_pages.proofs.OwnerLemmas.{infos-within}
use Rattle.ledger_model.specs.Steps.{zero_page}
use Rattle.sv32_space.specs.Agreement.{HasUnusedFrame, procs_of}
use Rattle.sv32_space.specs.Spaces.{IsMade}
use Rattle.sv32_space.specs.StandsFor.{told_bytes}
use Rattle.sv32_space.specs.Tie.{Held, agrees, bytes_at, ledger_in, shown_in, stands_for, stands_without_room}
use Rattle.sv32_space.proofs.Agreeing.StandingLemmas.{stands_at, stands_for as entries_stand}

-- the bytes of a seat are those that are told of it
holds_told : (ram : RamBytes) (held : Held) (s : Seat) (known : List ℕ) → told_bytes (pages ram) held s ≡ Some known → bytes_at ram held s ≡ known
holds_told ram held (Frame f) known e = same_Some (pages ram f.0) known e
holds_told ram held (Slot s) known e = ap (λ o. unwrap_or o zero_page) e

module _ (ram : RamBytes) (owners : OwnerTable) (held : Held) (agree : agrees ram owners) where
  pub stands_agreeing : stands_without_room ram (procs_of (extent owners)) held (ledger_in ram owners held)
  stands_agreeing = (
    _,
    stands_at (IsMade ram) (shown_in ram (procs_of (extent owners)) held) (extent owners) (infos owners) (bytes_at ram held)
        refl agree (infos-within owners) (holds_told ram held),
  )

  -- .. and with room, where a frame is free
  pub stands_with_room : HasUnusedFrame (extent owners) (infos owners) → stands_for ram (procs_of (extent owners)) held (ledger_in ram owners held)
  stands_with_room free = entries_stand (IsMade ram) (shown_in ram (procs_of (extent owners)) held) (extent owners) (infos owners) (bytes_at ram held)
      refl agree (infos-within owners) (holds_told ram held) free
