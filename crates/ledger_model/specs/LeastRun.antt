-- The least run: where a process's next pages go.
use Rattle.std.specs.Prelude.{ℕ, ◌+◌, ◌-◌, ◌<◌, ◌≤◌, Bool, ◌&&◌, nat_le, IsTrue, IsFalse, Option}
use Rattle.std.specs.List.{list_all}
use Rattle.std.specs.Option.{option_map}
use Rattle.xk_base.specs.declared.ids.Pid.{Pid}
use Rattle.xk_base.specs.declared.ids.Place.{Place}
use Rattle.xk_base.specs.declared.ids.Vpn.{Vpn}
use Rattle.xk_base.specs.declared.windows.Window.{Window}
use Rattle.xk_base.specs.Tables.Counting.{least_below}
use Rattle.xk_base.specs.Numbers.Windows.{first_page, last_page}
use Rattle.ledger_model.specs.Ledger.{Ledger}
use Rattle.ledger_model.specs.Places.{run}
use Rattle.ledger_model.specs.Reach.{is_free}

-- a run none of whose places is a home, holder place or orphan's place
unfoldable pub is_free_run : ℕ → Ledger → Place → ℕ → Bool
is_free_run procs ledger first n = list_all (is_free procs ledger) (run first n)

-- how many pages a window has
abbrev pub window_pages : Window → ℕ
window_pages window = last_page window + 1 - first_page window

-- the k-th place of a process's window
abbrev pub window_place : Pid → Window → ℕ → Place
window_place pid window k = record { pid = pid; vpn = record { 0 = first_page window + k } }

-- the least first page number of a free run of n places that lies in the window, or None where there is none
unfoldable pub least_run : ℕ → Ledger → Pid → Window → ℕ → Option Vpn
least_run procs ledger pid window n = option_map (λ k. (window_place pid window k).vpn)
    (least_below (window_pages window)
    (λ k. nat_le (k + n) (window_pages window) && is_free_run procs ledger (window_place pid window k) n))

-- What the least run is: it is free, it lies in the window, and no run that begins before it in the window is free.
pub record IsLeastRun (procs : ℕ) (ledger : Ledger) (pid : Pid) (window : Window) (n : ℕ) (first : Vpn) : Type 0 where
  pub free : IsTrue (is_free_run procs ledger (record { pid = pid; vpn = first }) n)
  pub low : first_page window ≤ first.0
  pub high : first.0 + n ≤ last_page window + 1
  pub least : (earlier : Vpn) → first_page window ≤ earlier.0 → earlier.0 < first.0
      → IsFalse (is_free_run procs ledger (record { pid = pid; vpn = earlier }) n)

-- no run of n places that lies in the window is free
abbrev pub HasNoRun : ℕ → Ledger → Pid → Window → ℕ → Type 0
HasNoRun procs ledger pid window n =
    (first : Vpn) → first_page window ≤ first.0 → first.0 + n ≤ last_page window + 1
    → IsFalse (is_free_run procs ledger (record { pid = pid; vpn = first }) n)
