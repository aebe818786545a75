use Rattle.std.proofs.Common.{◌≡◌, ℕ, ◌<◌, true, false}
use Rattle.ledger_model.specs.Small.{ledger_of, is_listed}
use Rattle.ledger_model.proofs.Runs.LeastRunLemmas.{fits_at}
use Rattle.ledger_model.proofs.small.find_least_run.Given as goal

-- no run that begins before the k-th page of the window will do
abbrev pub invariant-loop-k : goal.invariant-loop-k
invariant-loop-k l = (procs : ℕ) → is_listed procs l.pages ≡ true → (j : ℕ) → j < l.k → fits_at procs (ledger_of l.pages l.orphans) l.pid l.fn.window l.n j ≡ false
