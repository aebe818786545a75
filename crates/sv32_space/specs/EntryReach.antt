-- Where an entry of a made space leads, and which page it is of. A side gives the accesses that Reach gives at a place of its kind.
use Rattle.std.specs.Prelude.{ℕ, ◌+◌, ◌*◌, Bool, true, false, if◌then◌else◌, Option, Some, None}
use Rattle.xk_base.specs.declared.ids.Place.{Place}
use Rattle.xk_base.specs.declared.pages.Access.{Access}
use Rattle.xk_base.specs.declared.pages.LoanKind.TheVariants.{Shared, Exclusive}
use Rattle.phys_pages.specs.declared.infos.Seat.{Seat}
use Rattle.phys_pages.specs.declared.infos.Seat.TheVariants.{Frame, Slot}
use Rattle.phys_pages.specs.Ram.{Area, ppn_of}
use Rattle.ledger_model.specs.Ledger.{PageName, Homed, Orphaned}
use Rattle.ledger_model.specs.Reach.{owner_may, lender_may, holder_may}
use Rattle.sv32_space.specs.declared.sides.Side.{Side}
use Rattle.sv32_space.specs.declared.sides.Side.TheVariants.{Own, LentOut, LentIn, MutOut, MutIn}
use Rattle.sv32_space.specs.declared.walking.Walked.{Walked}
use Rattle.sv32_space.specs.declared.walking.Walked.TheVariants.{Reaches, PageFault}
use Rattle.sv32_space.specs.Agreement.{Infos, home_in}
use Rattle.sv32_space.specs.declared.sides.Entry.{Entry}
use Rattle.sv32_space.specs.declared.sides.Entry.TheVariants.{Free, At, OnConsole}
use Rattle.sv32_space.specs.Spellings.{right_of}
use Rattle.sv32_space.specs.SpelledEntries.{console_ppn}

-- what a side gives its process
abbrev pub side_may : Side → Access → Bool
side_may (Own right) access = owner_may right access
side_may (LentOut right) access = lender_may Shared right access
side_may LentIn access = holder_may Shared access
side_may (MutOut x) access = lender_may Exclusive (right_of true x) access
side_may MutIn access = holder_may Exclusive access

-- what an entry gives its process
abbrev pub entry_may : Option Entry → Access → Bool
entry_may None access = false
entry_may (Some Free) access = false
entry_may (Some (At side seat)) access = side_may side access
entry_may (Some (OnConsole w)) access = owner_may (right_of w false) access

-- the page that a holder's entry is of: an orphan where the owner table has no home
abbrev pub held_name : Place → Option Place → PageName
held_name place None = Orphaned place
held_name place (Some home) = Homed home

-- the page that the entry of a place is of
abbrev pub side_name : Infos → Place → Side → Seat → PageName
side_name I place (Own right) seat = Homed place
side_name I place (LentOut right) seat = Homed place
side_name I place LentIn seat = held_name place (home_in (I seat))
side_name I place (MutOut x) seat = Homed place
side_name I place MutIn seat = held_name place (home_in (I seat))

abbrev pub entry_name : Infos → Place → Entry → PageName
entry_name I place Free = Homed place
entry_name I place (At side seat) = side_name I place side seat
entry_name I place (OnConsole w) = Homed place

-- the byte at an offset of the page with a physical page number, where the access is given
abbrev pub reaches_if : Bool → ℕ → ℕ → Walked
reaches_if given ppn offset = if given then Reaches (ppn * 4096 + offset) else PageFault

-- A walk that comes to the entry reaches a page in its frame, and the console; a page that is out is a page fault.
abbrev pub entry_reach : Area → Entry → ℕ → Access → Walked
entry_reach a Free offset access = PageFault
entry_reach a (At side (Frame f)) offset access = reaches_if (side_may side access) (ppn_of a f.0) offset
entry_reach a (At side (Slot s)) offset access = PageFault
entry_reach a (OnConsole w) offset access = reaches_if (owner_may (right_of w false) access) console_ppn offset
