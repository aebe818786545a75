-- RAM as functions: what page each frame holds, and what word stands at each physical address.
use Rattle.std.specs.Prelude.{◌≡◌, ℕ, ◌+◌, ◌-◌, ◌*◌, ◌/◌, ◌%◌, ◌<◌, ◌≤◌, ◌==◌, Bool, ◌&&◌, nat_le, nat_lt, List, ◌++◌, length, take, drop}
use Rattle.std.specs.Prelude.{slice_range, Option, Some, None, if◌then◌else◌}
use Rattle.std.specs.List.{refill}
use Rattle.byteorder.specs.Endian.{little_number, little_bytes}
use Rattle.xk_base.specs.declared.ids.Frame.{Frame}

-- the bytes of RAM in order, and the physical address of the first
pub record RamBytes : Type 0 where
  pub start : ℕ
  pub bytes : List ℕ

-- where RAM lies: its first physical address, and how many frames of 4096 bytes it has
pub record Area : Type 0 where
  pub start : ℕ
  pub frames : ℕ

-- RAM starts at a page, has at most 16,384 frames, and ends at or below the device's page
pub record IsPlaced (a : Area) : Type 0 where
  pub aligned : a.start % 4096 ≡ 0
  pub few : a.frames ≤ 16384
  pub below_device : a.start + a.frames * 4096 ≤ 0xF000_0000

-- that many bytes from that address on are whole frames, placed so
pub record IsRam (start count : ℕ) : Type 0 where
  pub aligned : start % 4096 ≡ 0
  pub whole : count % 4096 ≡ 0
  pub few : count ≤ 0x400_0000
  pub below_device : start + count ≤ 0xF000_0000

-- where RAM lies, by its bytes
unfoldable pub area : RamBytes → Area
area ram = record { start = ram.start; frames = length ram.bytes / 4096 }

-- the page that each frame holds: its 4096 bytes
unfoldable pub pages : RamBytes → ℕ → List ℕ
pages ram f = slice_range ram.bytes (f * 4096) (f * 4096 + 4096)

-- the physical page number of a frame
abbrev pub ppn_of : Area → ℕ → ℕ
ppn_of a f = a.start / 4096 + f

-- the frame of a physical page number; none outside RAM
abbrev pub frame_of : Area → ℕ → Option Frame
frame_of a ppn =
    if nat_le (a.start / 4096) ppn && nat_lt (ppn - a.start / 4096) a.frames then Some (record { 0 = ppn - a.start / 4096 }) else None

-- a physical address inside RAM
abbrev pub IsInside : Area → ℕ → Type 0
IsInside a pa = (a.start ≤ pa) × (pa < a.start + a.frames * 4096)

-- .. as a test
abbrev pub is_inside : Area → ℕ → Bool
is_inside a pa = nat_le a.start pa && nat_lt pa (a.start + a.frames * 4096)

-- the frame that a physical address of RAM lies in
abbrev pub frame_at : Area → ℕ → ℕ
frame_at a pa = pa / 4096 - a.start / 4096

-- the number that four bytes of a page spell, the lowest first, from an offset on
abbrev pub word_in : List ℕ → ℕ → ℕ
word_in page offset = little_number 4 (drop offset page)

-- the page with the four bytes of a number, the lowest first, from an offset on
abbrev pub with_word : List ℕ → ℕ → ℕ → List ℕ
with_word page offset v = take offset page ++ (little_bytes 4 v ++ drop (offset + 4) page)

-- the word at each physical address, where RAM lies there and its frames hold these pages: it stands in
-- the page of its frame. None at an address that isn't a multiple of 4 or not inside RAM
abbrev pub words_of : Area → (ℕ → List ℕ) → ℕ → Option ℕ
words_of a pages_there pa =
    if (pa % 4 == 0) && is_inside a pa then Some (word_in (pages_there (frame_at a pa)) (pa % 4096)) else None

-- the word at each physical address of RAM
unfoldable pub words : RamBytes → ℕ → Option ℕ
words ram = words_of (area ram) (pages ram)

-- RAM with a page written over that of a frame. A page has 4096 bytes; of another length no byte is
-- written past the end
unfoldable pub with_page : RamBytes → ℕ → List ℕ → RamBytes
with_page ram f page =
    record {
      start = ram.start;
      bytes = refill (length ram.bytes) ram.bytes
          (take (f * 4096) ram.bytes ++ (page ++ drop (length page) (drop (f * 4096) ram.bytes)));
    }
