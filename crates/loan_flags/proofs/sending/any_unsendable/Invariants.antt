use Rattle.std.proofs.Common.{IsTrue, false, ℕ, ◌<◌, ◌≡◌}
use Rattle.xk_base.specs.Tables.Circle.{is_pid}
use Rattle.ledger_model.specs.Places.{place_after}
use Rattle.loan_flags.specs.Sending.{is_unsendable}
use Rattle.sv32_space.specs.SpelledEntries.{entries}
use Rattle.loan_flags.proofs.sending.any_unsendable.Given as goal

-- none of the first i places passes
abbrev pub invariant-loop-i : goal.invariant-loop-i
invariant-loop-i l = (procs : ℕ) → IsTrue (is_pid procs l.fn.from.pid.0) → (k : ℕ) → k < l.i
    → is_unsendable l.fn.mutably (entries procs l.fn.ram (place_after l.fn.from k)) ≡ false
