-- How a list of files that were asked for is kept: their names stand one after the other, each entry with its place there.
use Rattle.std.specs.Prelude.{ℕ, ◌≡◌, ◌+◌, ◌≤◌, List, length, map, All, slice_range}
use Rattle.xk_ports.specs.AskedFiles.{room_taken}
use Rattle.xk_ports.specs.Host.{FileAsked}
use Rattle.xk_ports.specs.declared.asked_files.Entry.{Entry}
use Rattle.xk_ports.specs.declared.asked_files.AskedFile.{AskedFile}

-- the file that an entry stands for, with its name among all names
abbrev pub file_in : List ℕ → Entry → FileAsked
file_in names entry =
    record { slot = entry.slot; name = slice_range names entry.start entry.end; picked = entry.picked }

-- the files that the entries stand for
abbrev pub files_in : List ℕ → List Entry → List FileAsked
files_in names entries = map (file_in names) entries

-- the entry's name is among the names
abbrev pub IsWithin : List ℕ → Entry → Type 0
IsWithin names entry = (entry.start ≤ entry.end) × (entry.end ≤ length names)

-- each name is among the names, both lists have their room, and they take of it what is said
pub record IsKept (names : List ℕ) (names_room : ℕ) (entries : List Entry) (entries_room room : ℕ) : Type 0 where
  pub within : All (IsWithin names) entries
  pub taken : room_taken (files_in names entries) ≡ length names + length entries
  pub fits : length names + length entries ≤ room
  pub names_fit : room ≤ names_room
  pub entries_fit : room ≤ entries_room

-- an answer as a file that was asked for
abbrev pub shown : AskedFile → FileAsked
shown file = record { slot = file.slot; name = file.name.now; picked = file.picked }
