use Rattle.std.proofs.Common.{◌≡◌, ◌*◌, ◌<◌, ℕ, IsTrue, false}
use Rattle.xk_base.specs.Tables.Circle.{is_pid}
use Rattle.xk_base.specs.declared.windows.Window.TheVariants.{Map}
use Rattle.ledger_model.specs.LeastRun.{window_place}
use Rattle.ledger_model.specs.Places.{place_after}
use Rattle.sv32_space.specs.SpelledEntries.{entries}
use Rattle.sv32_space.specs.Tables.{is_console_entry}
use Rattle.sv32_space.proofs.tables.maps_console.Given as goal

-- none of the first i tables has it
abbrev pub invariant-loop-i : goal.invariant-loop-i
invariant-loop-i l = (procs : ℕ) → IsTrue (is_pid procs l.fn.pid.0)
    → (k : ℕ) → k < 1024 * l.i → is_console_entry (entries procs l.fn.ram (place_after (window_place l.fn.pid Map 0) k)) ≡ false
