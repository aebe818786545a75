-- Places: a page of a process's address space, by pid and page number.
use Rattle.std.specs.Prelude.{ℕ, zero, suc, ◌+◌, ◌-◌, ◌*◌, ◌/◌, ◌%◌, Bool, ◌&&◌, ◌||◌, ◌==◌, nat_le, nat_lt, is_some, if◌then◌else◌, List}
use Rattle.std.specs.Prelude.{[], ◌∷◌, map, Option}
use Rattle.std.specs.Option.{option_map}
use Rattle.xk_base.specs.declared.ids.Place.{Place}
use Rattle.xk_base.specs.declared.windows.Window.{Window}
use Rattle.xk_base.specs.declared.windows.Window.TheVariants.{Image, Heap, Message, Map, Stack}
use Rattle.xk_base.specs.Tables.Circle.{is_pid}
use Rattle.xk_base.specs.Numbers.Windows.{first_page, in_window, window_at}
use Rattle.xk_base.specs.Tables.Counting.{count_below, least_below, listed_below}

-- whether two places are one
abbrev pub same_place : Place → Place → Bool
same_place p q = (p.pid.0 == q.pid.0) && (p.vpn.0 == q.vpn.0)

-- the order of places: by pid, and within a process by page number
abbrev pub is_before : Place → Place → Bool
is_before p q = nat_lt p.pid.0 q.pid.0 || ((p.pid.0 == q.pid.0) && nat_lt p.vpn.0 q.vpn.0)

-- the place `i` pages above another
abbrev pub place_after : Place → ℕ → Place
place_after p i = record { pid = p.pid; vpn = record { 0 = p.vpn.0 + i } }

-- the run of n places of one process from a place upwards
unfoldable pub run : Place → ℕ → List Place
run first zero = []
run first (suc n) = first ∷ run (place_after first 1) n

-- whether a place is one of that run
abbrev pub in_run : Place → ℕ → Place → Bool
in_run first n p = (p.pid.0 == first.pid.0) && (nat_le first.vpn.0 p.vpn.0 && nat_lt p.vpn.0 (first.vpn.0 + n))

-- where a place of the run at `from` stands in the run at `to`: as many pages above its first place
abbrev pub moved : Place → Place → Place → Place
moved from to p = record { pid = to.pid; vpn = record { 0 = to.vpn.0 + (p.vpn.0 - from.vpn.0) } }

-- a place where a user page may stand, with `procs` processes
abbrev pub is_user_place : ℕ → Place → Bool
is_user_place procs p = is_pid procs p.pid.0 && is_some (window_at p.vpn.0)

-- .. and one in a given window
abbrev pub is_place_in : ℕ → Window → Place → Bool
is_place_in procs window p = is_pid procs p.pid.0 && in_window window p.vpn.0

-- ---- The user places of a process are numbered from 0, window after window, so that the numbering
-- ascends: 4,080 pages of the Image window, then 4,096 of each of Heap, Message, Map and Stack.

abbrev pub places_of_process : ℕ
places_of_process = 4080 + 4 * 4096

-- the page number of a process's k-th user place
abbrev pub page_at : ℕ → ℕ
page_at k =
    if nat_lt k 4080 then first_page Image + k else (
    if nat_lt k 8176 then first_page Heap + (k - 4080) else (
    if nat_lt k 12272 then first_page Message + (k - 8176) else (
    if nat_lt k 16368 then first_page Map + (k - 12272) else first_page Stack + (k - 16368))))

-- the k-th user place of all processes, in the order of places
unfoldable pub place_at : ℕ → Place
place_at k = record {
  pid = record { 0 = 2 + k / places_of_process };
  vpn = record { 0 = page_at (k % places_of_process) };
}

-- how many user places of `procs` processes pass a test
unfoldable pub count_places : ℕ → (Place → Bool) → ℕ
count_places procs test = count_below (places_of_process * procs) (λ k. test (place_at k))

-- the first that passes, or None where none does
unfoldable pub first_place : ℕ → (Place → Bool) → Option Place
first_place procs test = option_map place_at (least_below (places_of_process * procs) (λ k. test (place_at k)))

-- those that pass, in the order of places, each once
unfoldable pub listed_places : ℕ → (Place → Bool) → List Place
listed_places procs test = map place_at (listed_below (places_of_process * procs) (λ k. test (place_at k)))
