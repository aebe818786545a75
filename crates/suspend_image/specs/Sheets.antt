-- Sheets: buffers for the bytes of a state.
use Rattle.std.specs.Prelude.{ℕ, ◌+◌, ◌*◌, ◌≤◌, ◌<◌, ◌^◌, List, ◌++◌, length, take, drop}
use Rattle.suspend_image.specs.Words.{word}
use Rattle.suspend_image.specs.Spelling.{headed}

-- a sheet as contracts see it: the bytes so far, and how many fit
pub record SheetBytes : Type 0 where
  pub bytes : List ℕ
  pub room : ℕ

-- the room that every state of n processes and at most `capacity` pages has
abbrev pub room_for : ℕ → ℕ → ℕ
room_for n capacity = 1300000 + 5000 * n + 4200 * (capacity + 1)

-- more bytes fit behind those of a sheet, and a word counts them all
pub record HasRoom (sheet : SheetBytes) (more : List ℕ) : Type 0 where
  pub room : length sheet.bytes + length more ≤ sheet.room
  pub few : length sheet.bytes + length more < 2 ^ 32

-- the sheet with these bytes in place of its own
abbrev pub with_bytes : List ℕ → SheetBytes → SheetBytes
with_bytes bytes sheet = record { bytes = bytes; room = sheet.room }

-- the sheet with more bytes behind its own
abbrev pub appended : List ℕ → SheetBytes → SheetBytes
appended more sheet = with_bytes (sheet.bytes ++ more) sheet

-- the bytes with the four at an offset replaced by a word
abbrev pub with_word : ℕ → ℕ → List ℕ → List ℕ
with_word at w bytes = take at bytes ++ (word w ++ drop (at + 4) bytes)

-- a state was begun: its name stands there, and the length and the check number are to come
abbrev pub begun : List ℕ → List ℕ
begun parts = headed 0 0 parts
