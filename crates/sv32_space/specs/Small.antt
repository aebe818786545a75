-- Small tables: entries and owners as lists, for a plain program beside the definitions.
use Rattle.std.specs.Prelude.{List, Option, Some, None}
use Rattle.std.specs.List.{find}
use Rattle.std.specs.Option.{option_map}
use Rattle.phys_pages.specs.declared.infos.Seat.{Seat}
use Rattle.phys_pages.specs.Owners.{seat_eq}
use Rattle.ledger_model.specs.Ledger.{Contents, Console, Bytes, Page, Orphan}
use Rattle.ledger_model.specs.Places.{same_place}
use Rattle.sv32_space.specs.declared.small.LedgerPlace.{LedgerPlace}
use Rattle.sv32_space.specs.declared.small.LedgerPlace.TheVariants as place
use Rattle.sv32_space.specs.declared.small.PlacedEntry.{PlacedEntry}
use Rattle.sv32_space.specs.declared.small.SeatInfo.{SeatInfo}
use Rattle.sv32_space.specs.Agreement.{Infos}
use Rattle.sv32_space.specs.Entries.{Entries}
use Rattle.sv32_space.specs.EntryLedger.{SeatBytes, page_loan}

-- the entries that a list spells
unfoldable pub entries_of : List PlacedEntry → Entries
entries_of entries p = option_map (λ e. e.entry) (find (λ e. same_place e.place p) entries)

-- what is said of the seats of a list
unfoldable pub infos_of : List SeatInfo → Infos
infos_of infos s = option_map (λ i. i.info) (find (λ i. seat_eq i.seat s) infos)

-- the page, and the orphan, that an answer tells, with these bytes of seats
abbrev pub contents_told : SeatBytes → Option Seat → Contents
contents_told B None = Console
contents_told B (Some seat) = Bytes (B seat)

abbrev pub page_told : SeatBytes → LedgerPlace → Option Page
page_told B place.Nothing = None
page_told B (place.Home right seat loan) =
    Some (record { right = right; contents = contents_told B seat; loan = option_map page_loan loan })
page_told B (place.Orphan kind seat number) = None

abbrev pub orphan_told : SeatBytes → LedgerPlace → Option Orphan
orphan_told B place.Nothing = None
orphan_told B (place.Home right seat loan) = None
orphan_told B (place.Orphan kind seat number) = Some (record { kind = kind; bytes = B seat; number = number })
