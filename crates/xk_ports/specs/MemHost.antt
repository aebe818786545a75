-- A host in memory as its callers see it.
use Rattle.std.specs.Prelude.{ℕ, ◌||◌, Bool, true, false, List, [], ◌∷◌, Option, Some, None, is_none, unwrap_or, if◌then◌else◌}
use Rattle.std.specs.Str.{bytes_eq}
use Rattle.xk_ports.specs.declared.host.FileSlot.{FileSlot}
use Rattle.xk_ports.specs.declared.host.FileSlot.TheVariants.{First, Second}
use Rattle.xk_ports.specs.AskedFiles.{AskedState, asked_after}
use Rattle.xk_ports.specs.Calls.{CallsState, is_next_to_fail}

-- a host in memory: its files, each a name and its bytes, what is left at each slot where a file is
-- picked, how many bytes a read gives at most, the files that it was asked for, and its calls
pub record MemHostState : Type 0 where
  pub files : List (List ℕ × List ℕ)
  pub first : Option (List ℕ)
  pub second : Option (List ℕ)
  pub piece : ℕ
  pub asked : AskedState
  pub calls : CallsState

-- the bytes of the first file of that name
abbrev pub file_named : List (List ℕ × List ℕ) → List ℕ → Option (List ℕ)
file_named [] name = None
file_named (file ∷ files) name = if bytes_eq file.0 name then Some file.1 else file_named files name

-- whether a slot is the first
abbrev pub is_first : FileSlot → Bool
is_first First = true
is_first Second = false

-- what is left at a slot, where a file is picked there
abbrev pub left_at : MemHostState → FileSlot → Option (List ℕ)
left_at host slot = if is_first slot then host.first else host.second

-- the bytes that are left at a slot
abbrev pub bytes_left : MemHostState → FileSlot → List ℕ
bytes_left host slot = unwrap_or (left_at host slot) []

-- the host with that left at a slot
abbrev pub with_left : MemHostState → FileSlot → Option (List ℕ) → MemHostState
with_left host slot left =
    record host {
      first = if is_first slot then left else host.first;
      second = if is_first slot then host.second else left;
    }

-- the host with one more file asked for
abbrev pub with_asked : MemHostState → FileSlot → List ℕ → Bool → MemHostState
with_asked host slot name picked =
    record host {
      asked = record host.asked {
        files = asked_after host.asked.room host.asked.files (record { slot = slot; name = name; picked = picked });
      };
    }

-- whether the next pick fails: its number is listed, or there is no file of that name
abbrev pub is_pick_to_fail : MemHostState → List ℕ → Bool
is_pick_to_fail host name = is_next_to_fail host.calls || is_none (file_named host.files name)
