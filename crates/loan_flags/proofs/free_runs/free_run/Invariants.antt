use Rattle.std.proofs.Common.{IsTrue, length, ℕ, ◌+◌, ◌%◌, ◌≡◌, ◌≢◌, ◌≤◌}
use Rattle.xk_base.specs.Tables.Circle.{is_pid}
use Rattle.sv32_space.specs.SpelledEntries.{entries}
use Rattle.sv32_space.specs.Tables.{IsTableOf}
use Rattle.loan_flags.proofs.FreeRunLemmas.{IsSearched}
use Rattle.loan_flags.proofs.free_runs.free_run.Given as goal

-- what the first k places of the window tell; the table of the next place is at hand, but where another begins
abbrev pub invariant-loop-k : goal.invariant-loop-k
invariant-loop-k l = (l.start ≤ l.k)
    × ((procs : ℕ) → IsTrue (is_pid procs l.fn.pid.0) → IsSearched (entries procs l.fn.ram) l.fn.pid l.fn.window l.fn.n l.start l.k)
    × (length l.table ≡ 4096)
    × ((l.first.0 + l.k) % 1024 ≢ 0 → IsTableOf l.fn.ram (record { pid = l.fn.pid; vpn = record { 0 = l.first.0 + l.k } }) l.table)
