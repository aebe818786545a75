-- A state of the machine is being written: what stands in the sheet, and what is still to come.
use Rattle.std.specs.Prelude.{◌≡◌, ℕ, ◌≤◌, ◌<◌, ◌^◌, List, ◌++◌, length}
use Rattle.machine_model.specs.State.Machine.{Machine}
use Rattle.suspend_image.specs.Sheets.{SheetBytes, begun}
use Rattle.suspend_image.specs.StateBytes.{saved_parts, saved_bytes}

-- there is room for the whole state, and a word counts its bytes
pub record FitsSheet (m : Machine) (sheet : SheetBytes) : Type 0 where
  pub room : length (saved_bytes m) ≤ sheet.room
  pub few : length (saved_bytes m) < 2 ^ 32

-- The sheet has the beginning of the state, these bytes are to follow, and there is room for them. Where none are, `finish_state` makes
-- state bytes of it.
pub record IsSaving (m : Machine) (rest : List ℕ) (sheet : SheetBytes) : Type 0 where
  pub bytes : sheet.bytes ++ rest ≡ begun (saved_parts m)
  pub fits : FitsSheet m sheet
