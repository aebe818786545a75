-- The windows of a process's memory in which its pages lie, and the page of an address.
use Rattle.std.specs.Prelude.{ℕ, ◌/◌, Bool, ◌&&◌, nat_le, Option, Some, None, if◌then◌else◌}
use Rattle.xk_base.specs.declared.ids.Pid.{Pid}
use Rattle.xk_base.specs.declared.ids.Place.{Place}
use Rattle.xk_base.specs.declared.windows.Window.{Window}
use Rattle.xk_base.specs.declared.windows.Window.TheVariants.{Image, Heap, Message, Map, Stack}

-- the first page of each window: its first address divided by 4096
abbrev pub first_page : Window → ℕ
first_page Image = 0x0_0010
first_page Heap = 0x2_0000
first_page Message = 0x4_0000
first_page Map = 0x6_0000
first_page Stack = 0x7_F000

-- the last page of each window: its last address divided by 4096
abbrev pub last_page : Window → ℕ
last_page Image = 0x0_0FFF
last_page Heap = 0x2_0FFF
last_page Message = 0x4_0FFF
last_page Map = 0x6_0FFF
last_page Stack = 0x7_FFFF

-- the page lies in the window
abbrev pub in_window : Window → ℕ → Bool
in_window w vpn = nat_le (first_page w) vpn && nat_le vpn (last_page w)

-- the window of a page; none outside the windows, which are apart from each other
abbrev pub window_at : ℕ → Option Window
window_at vpn =
    if in_window Image vpn then Some Image else (
    if in_window Heap vpn then Some Heap else (
    if in_window Message vpn then Some Message else (
    if in_window Map vpn then Some Map else (
    if in_window Stack vpn then Some Stack else None))))

-- the place of the page of an address
abbrev pub page_of : Pid → ℕ → Place
page_of pid address = record { pid = pid; vpn = record { 0 = address / 4096 } }
