-- The files that a host was asked for, while there is room for the list of them.
use Rattle.std.specs.Prelude.{ℕ, ◌+◌, List, [], ◌∷◌, ◌++◌, length, nat_le, Option, Some, None, if◌then◌else◌}
use Rattle.xk_ports.specs.Host.{FileAsked}

-- how much room a list of files that were asked for takes: the names, and one byte more for each
abbrev pub room_taken : List FileAsked → ℕ
room_taken [] = 0
room_taken (file ∷ files) = length file.name + 1 + room_taken files

-- the list after one more, where it still has room; a list that is lost stays lost
abbrev pub asked_after : ℕ → Option (List FileAsked) → FileAsked → Option (List FileAsked)
asked_after room None file = None
asked_after room (Some files) file =
    if nat_le (room_taken (files ++ file ∷ [])) room then Some (files ++ file ∷ []) else None

-- the list of files that were asked for, while it has room
pub record AskedState : Type 0 where
  pub files : Option (List FileAsked)
  pub room : ℕ
