-- The changes of one page in entries and owners, as the kernel's calls write them. Each is at most two entries and at most
-- two seats; all others stay.
use Rattle.std.specs.Prelude.{ℕ, List, Option, Some, None, if◌then◌else◌}
use Rattle.std.specs.Option.{option_map}
use Rattle.xk_base.specs.Tables.Counting.{put_at}
use Rattle.xk_base.specs.declared.ids.Place.{Place}
use Rattle.xk_base.specs.declared.pages.Right.{Right}
use Rattle.phys_pages.specs.declared.infos.LoanInfo.{LoanInfo}
use Rattle.phys_pages.specs.declared.infos.PageInfo.{PageInfo}
use Rattle.phys_pages.specs.declared.infos.Seat.{Seat}
use Rattle.phys_pages.specs.Owners.{seat_eq}
use Rattle.ledger_model.specs.Places.{same_place}
use Rattle.sv32_space.specs.declared.sides.Side.TheVariants.{Own}
use Rattle.sv32_space.specs.Agreement.{Infos, lender_side, holder_side}
use Rattle.sv32_space.specs.declared.sides.Entry.{Entry}
use Rattle.sv32_space.specs.declared.sides.Entry.TheVariants.{Free, At, OnConsole}
use Rattle.sv32_space.specs.Entries.{Entries}

-- one entry, and what is said of one seat
abbrev pub with_entry : Entries → Place → Entry → Entries
with_entry E p entry = put_at same_place E p (Some entry)

abbrev pub with_info : Infos → Seat → Option PageInfo → Infos
with_info I s info = put_at seat_eq I s info

-- the bytes of one seat
abbrev pub with_bytes : (Seat → List ℕ) → Seat → List ℕ → Seat → List ℕ
with_bytes B s bytes = put_at seat_eq B s bytes

-- a page at its home goes on loan: the lender's entry keeps the former right, and the holder's comes
abbrev pub lent_entries : Entries → Place → Right → Seat → LoanInfo → Entries
lent_entries E home right s loan =
    with_entry (with_entry E home (At (lender_side loan.kind right) s)) loan.holder (At (holder_side loan.kind) s)

-- a page's loan ends: its home has the former right again, and the holder's entry goes
abbrev pub ended_entries : Entries → Place → Right → Seat → Place → Entries
ended_entries E home right s holder = with_entry (with_entry E home (At (Own right) s)) holder Free

-- a page on loan goes on to another holder: the entry of the one that had it goes, and the other's comes
abbrev pub passed_entries : Entries → Seat → LoanInfo → Place → Entries
passed_entries E s loan to = with_entry (with_entry E loan.holder Free) to (At (holder_side loan.kind) s)

-- the loan, with its holder there
abbrev pub held_at : Place → LoanInfo → LoanInfo
held_at to loan = record loan { holder = to }

-- a page's home changes, with its right
abbrev pub given_entries : Entries → Place → Place → Right → Seat → Entries
given_entries E from to right s = with_entry (with_entry E from Free) to (At (Own right) s)

-- each entry that names the one seat names the other
abbrev pub renamed_entry : Seat → Seat → Entry → Entry
renamed_entry from to Free = Free
renamed_entry from to (At side s) = At side (if seat_eq s from then to else s)
renamed_entry from to (OnConsole w) = OnConsole w

abbrev pub renamed : Seat → Seat → Entries → Entries
renamed from to E p = option_map (renamed_entry from to) (E p)

-- what is said of the one seat is said of the other, and the one is free
abbrev pub moved_infos : Infos → Seat → Seat → PageInfo → Infos
moved_infos I from to info = with_info (with_info I from None) to (Some info)
