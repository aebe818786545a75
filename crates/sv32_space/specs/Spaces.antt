-- Address spaces in the frames of RAM. The space of a process is 21 frames in a row: its root table, then four last-level
-- tables for each window, in the order of the windows.
use Rattle.std.specs.Prelude.{◌≡◌, ℕ, ◌+◌, ◌-◌, ◌*◌, ◌/◌, ◌%◌, ◌<◌, ◌≤◌, List, Option, Some, None, IsSome}
use Rattle.xk_base.specs.declared.ids.Place.{Place}
use Rattle.xk_base.specs.declared.windows.Window.{Window}
use Rattle.xk_base.specs.declared.windows.Window.TheVariants.{Image, Heap, Message, Map, Stack}
use Rattle.xk_base.specs.Numbers.Windows.{first_page, window_at}
use Rattle.phys_pages.specs.Ram.{RamBytes, Area, area, pages, word_in, ppn_of}
use Rattle.sv32_space.specs.Spellings.{bit_v, kind_at}

-- the root of a process: the spaces of the pids 2, 3 and so on follow each other from frame 0 on
abbrev pub root_at : ℕ → ℕ
root_at pid = 21 * (pid - 2)

-- a frame of the space whose root is the frame `first`
abbrev pub IsTableFrame : ℕ → ℕ → Type 0
IsTableFrame first f = (first ≤ f) × (f < first + 21)

-- the order of the windows
abbrev pub window_order : Window → ℕ
window_order Image = 0
window_order Heap = 1
window_order Message = 2
window_order Map = 3
window_order Stack = 4

-- an entry of the root maps 1024 pages, and the four that map a window begin with this one
abbrev pub first_root_entry : Window → ℕ
first_root_entry w = first_page w / 1024

-- the window in which pages lie that an entry of the root maps: the last of them lies in it
abbrev pub window_of_root_entry : ℕ → Option Window
window_of_root_entry i = window_at (i * 1024 + 1023)

-- the frame of the table that an entry of the root points to, where it maps pages of the window
abbrev pub table_frame : ℕ → Window → ℕ → ℕ
table_frame first w i = first + 1 + 4 * window_order w + (i - first_root_entry w)

-- what an entry of the root holds: V alone and the physical page number of its table, and 0 outside the windows
abbrev pub root_word : Area → ℕ → ℕ → Option Window → ℕ
root_word a first i None = 0
root_word a first i (Some w) = bit_v + 1024 * ppn_of a (table_frame first w i)

-- what stands at an index of the table in a frame: its entries are words of four bytes
unfoldable pub table_word : (ℕ → List ℕ) → ℕ → ℕ → ℕ
table_word P f index = word_in (P f) (4 * index)

-- the entry of a page, in the table for its part of the window
abbrev pub leaf_word : (ℕ → List ℕ) → ℕ → Window → ℕ → ℕ
leaf_word P first w vpn = table_word P (table_frame first w (vpn / 1024)) (vpn % 1024)

-- The 21 frames from `first` on are a space, where RAM lies there and its frames hold these pages.
pub record IsSpace (a : Area) (P : ℕ → List ℕ) (first : ℕ) : Type 0 where
  pub within : first + 21 ≤ a.frames
  pub root : (i : ℕ) → i < 1024 → table_word P first i ≡ root_word a first i (window_of_root_entry i)
  -- the entries of a last-level table outside the windows are 0
  pub outside : (w : Window) (vpn : ℕ) → window_of_root_entry (vpn / 1024) ≡ Some w → window_at vpn ≡ None
      → leaf_word P first w vpn ≡ 0
  -- each in a window is a spelling
  pub spelled : (w : Window) (vpn : ℕ) → window_at vpn ≡ Some w → IsSome (kind_at (leaf_word P first w vpn))

-- the space of the process is made
pub record IsMade (ram : RamBytes) (pid : ℕ) : Type 0 where
  pub process : 2 ≤ pid
  pub space : IsSpace (area ram) (pages ram) (root_at pid)

-- the physical address of the entry of a place in the window
abbrev pub leaf_address : Area → Window → Place → ℕ
leaf_address a w at = ppn_of a (table_frame (root_at at.pid.0) w (at.vpn.0 / 1024)) * 4096 + 4 * (at.vpn.0 % 1024)
