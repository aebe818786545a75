-- The least free run, by the entries of a process's places: where its next pages go.
use Rattle.std.specs.Prelude.{ℕ, ◌+◌, Bool, ◌&&◌, nat_le, Option}
use Rattle.std.specs.List.{list_all}
use Rattle.std.specs.Option.{option_map}
use Rattle.xk_base.specs.Tables.Counting.{least_below}
use Rattle.xk_base.specs.declared.ids.Pid.{Pid}
use Rattle.xk_base.specs.declared.ids.Place.{Place}
use Rattle.xk_base.specs.declared.ids.Vpn.{Vpn}
use Rattle.xk_base.specs.declared.windows.Window.{Window}
use Rattle.ledger_model.specs.LeastRun.{window_pages, window_place}
use Rattle.ledger_model.specs.Places.{run}
use Rattle.sv32_space.specs.Entries.{Entries}
use Rattle.sv32_space.specs.EntryLedger.{is_free_entry}

-- nothing stands at any place of the run
unfoldable pub all_free : Entries → Place → ℕ → Bool
all_free E first n = list_all (λ p. is_free_entry (E p)) (run first n)

-- a run of n free places from the k-th place of the window on lies in it
abbrev pub fits_free : Entries → Pid → Window → ℕ → ℕ → Bool
fits_free E pid window n k = nat_le (k + n) (window_pages window) && all_free E (window_place pid window k) n

-- the least first page number of n free places that lie in the window, or None where there are none
unfoldable pub least_free : Entries → Pid → Window → ℕ → Option Vpn
least_free E pid window n = option_map (λ k. (window_place pid window k).vpn) (least_below (window_pages window) (fits_free E pid window n))
