-- The entries of all places, as the bytes of the last-level tables spell them.
use Rattle.xk_base.specs.Tables.Circle.{is_pid}
use Rattle.std.specs.Prelude.{ℕ, ◌+◌, ◌^◌, ◌<◌, ◌==◌, ◌&&◌, nat_le, false, if◌then◌else◌, List, Option, Some, None}
use Rattle.xk_base.specs.declared.ids.Frame.{Frame as FrameNumber}
use Rattle.xk_base.specs.declared.windows.Window.{Window}
use Rattle.xk_base.specs.Numbers.Windows.{window_at}
use Rattle.phys_pages.specs.declared.infos.Seat.TheVariants.{Frame, Slot}
use Rattle.phys_pages.specs.Ram.{RamBytes, Area, area, pages, ppn_of, frame_of}
use Rattle.sv32_space.specs.declared.sides.Side.{Side}
use Rattle.sv32_space.specs.declared.sides.Side.TheVariants.{Own, LentOut, LentIn, MutOut, MutIn}
use Rattle.sv32_space.specs.declared.sides.EntryKind.{EntryKind}
use Rattle.sv32_space.specs.declared.sides.EntryKind.TheVariants.{Free as FreeKind, Here, Out}
use Rattle.sv32_space.specs.declared.sides.Entry.{Entry}
use Rattle.sv32_space.specs.declared.sides.Entry.TheVariants.{Free, At, OnConsole}
use Rattle.sv32_space.specs.Entries.{Entries}
use Rattle.sv32_space.specs.Spellings.{kind_at, right_of}
use Rattle.sv32_space.specs.Spaces.{root_at, leaf_word}

-- the physical page number of the console's page
abbrev pub console_ppn : ℕ
console_ppn = 0xF0000

-- the console's page has no loan, and can't be executed
abbrev pub console_entry : Side → Option Entry
console_entry (Own right) = if right.x then None else Some (OnConsole right.w)
console_entry (LentOut right) = None
console_entry LentIn = None
console_entry (MutOut x) = None
console_entry MutIn = None

-- the entry of a side at that physical page number: of the frame that it is of, or of the console
abbrev pub entry_here : Side → ℕ → Option FrameNumber → Option Entry
entry_here side ppn (Some f) = Some (At side (Frame f))
entry_here side ppn None = if ppn == console_ppn then console_entry side else None

abbrev pub entry_of_kind : Area → Option EntryKind → Option Entry
entry_of_kind a None = None
entry_of_kind a (Some FreeKind) = Some Free
entry_of_kind a (Some (Here side ppn)) = entry_here side ppn (frame_of a ppn)
entry_of_kind a (Some (Out side slot)) = Some (At side (Slot (record { 0 = slot })))

-- the entry that a word spells; none where it spells none, or names neither a frame of RAM nor the console
abbrev pub entry_spelled : Area → ℕ → Option Entry
entry_spelled a word = entry_of_kind a (kind_at word)

-- an entry of this RAM: it names a frame of RAM, or a slot whose number fits its bits
abbrev pub IsEntry : Area → Entry → Type 0
IsEntry a Free = Unit {0}
IsEntry a (At side (Frame f)) = f.0 < a.frames
IsEntry a (At side (Slot s)) = s.0 < 2 ^ 22
IsEntry a (OnConsole w) = Unit {0}

-- how an entry is spelled
abbrev pub kind_for : Area → Entry → EntryKind
kind_for a Free = FreeKind
kind_for a (At side (Frame f)) = Here side (ppn_of a f.0)
kind_for a (At side (Slot s)) = Out side s.0
kind_for a (OnConsole w) = Here (Own (right_of w false)) console_ppn

-- the entry of a page in the space from frame `first` on; none outside the windows
abbrev pub entry_in_space : Area → (ℕ → List ℕ) → ℕ → ℕ → Option Window → Option Entry
entry_in_space a P first vpn None = None
entry_in_space a P first vpn (Some w) = entry_spelled a (leaf_word P first w vpn)

-- The entries of the spaces of `procs` processes, whose pids are 2 to procs + 1, where RAM lies there and its frames hold
-- these pages. None at a process whose space doesn't lie in RAM
abbrev pub entries_of : ℕ → Area → (ℕ → List ℕ) → Entries
entries_of procs a P q =
    if is_pid procs q.pid.0 && nat_le (root_at q.pid.0 + 21) a.frames
    then entry_in_space a P (root_at q.pid.0) q.vpn.0 (window_at q.vpn.0) else None

-- the entries of all places
unfoldable pub entries : ℕ → RamBytes → Entries
entries procs ram = entries_of procs (area ram) (pages ram)
