use Rattle.std.proofs.Common.{◌≡◌, ℕ, ◌<◌, true}
use Rattle.ledger_model.specs.Places.{place_after}
use Rattle.ledger_model.specs.Reach.{is_free}
use Rattle.ledger_model.specs.Small.{ledger_of, is_listed}
use Rattle.ledger_model.proofs.small.is_run_free.Given as goal

-- every place so far is free
abbrev pub invariant-loop-i : goal.invariant-loop-i
invariant-loop-i l = (procs : ℕ) → is_listed procs l.pages ≡ true → (k : ℕ) → k < l.i → is_free procs (ledger_of l.pages l.orphans) (place_after l.first k) ≡ true
