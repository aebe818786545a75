-- The entries of 1,024 pages at once, as the words of the table in which they stand.
use Rattle.std.specs.Prelude.{◌≡◌, ℕ, ◌*◌, ◌/◌, ◌%◌, Bool, true, false, IsSome, IsTrue, List, Option, Some, None}
use Rattle.std.specs.List.{list_any}
use Rattle.xk_base.specs.Tables.Circle.{is_pid}
use Rattle.xk_base.specs.Numbers.Windows.{window_at}
use Rattle.xk_base.specs.declared.ids.Pid.{Pid}
use Rattle.xk_base.specs.declared.ids.Place.{Place}
use Rattle.xk_base.specs.declared.windows.Window.TheVariants.{Map}
use Rattle.phys_pages.specs.Ram.{RamBytes, area, word_in}
use Rattle.ledger_model.specs.LeastRun.{window_pages, window_place}
use Rattle.ledger_model.specs.Places.{run}
use Rattle.sv32_space.specs.declared.sides.Entry.{Entry}
use Rattle.sv32_space.specs.declared.sides.Entry.TheVariants.{Free, At, OnConsole}
use Rattle.sv32_space.specs.Entries.{Entries}
use Rattle.sv32_space.specs.SpelledEntries.{entries, entry_spelled}

-- These are the bytes of the table in which a place's entry stands: the entry of each page of the process in a window whose
-- number divided by 1024 is that of the place is what the word at the rest spells.
abbrev pub IsTableOf : RamBytes → Place → List ℕ → Type 0
IsTableOf ram at table = (procs : ℕ) (q : Place) → IsTrue (is_pid procs q.pid.0) → IsSome (window_at q.vpn.0)
    → q.pid.0 ≡ at.pid.0 → q.vpn.0 / 1024 ≡ at.vpn.0 / 1024
    → entries procs ram q ≡ entry_spelled (area ram) (word_in table (4 * (q.vpn.0 % 1024)))

-- it is the console's entry
abbrev pub is_console_entry : Option Entry → Bool
is_console_entry None = false
is_console_entry (Some Free) = false
is_console_entry (Some (At side seat)) = false
is_console_entry (Some (OnConsole w)) = true

-- a place of the process's Map window has the console's entry
abbrev pub has_console : Entries → Pid → Bool
has_console E pid = list_any (λ p. is_console_entry (E p)) (run (window_place pid Map 0) (window_pages Map))
