use Rattle.std.proofs.Common.{sym, ◌∙◌}
use Rattle.ledger_model.specs.Small.{ledger_of}
use Rattle.ledger_model.proofs.Runs.LeastRunLemmas.{least_run-search, least_run-search_end}
use Rattle.ledger_model.proofs.small.find_least_run.Goals as goal

pub returns-then-is_run_free : goal.returns-then-is_run_free
returns-then-is_run_free c = λ procs h.
    sym (least_run-search procs (ledger_of c.args.pages.now c.args.orphans.now) c.args.pid c.args.window c.args.n c.loop-k.k c.first-first.result.0 c.last.result.0
    c.first-first.ensures c.last.ensures c.loop-k-test.true c.if-n-count.true
    (sym (c.is_run_free.ensures procs h) ∙ c.if-is_run_free.true) (c.loop-k.invariant procs h))

pub returns : goal.returns
returns c = λ procs h.
    sym (least_run-search_end procs (ledger_of c.args.pages.now c.args.orphans.now) c.args.pid c.args.window c.args.n c.loop-k.k c.first-first.result.0 c.last.result.0
    c.first-first.ensures c.last.ensures c.loop-k-test.false (c.loop-k.invariant procs h))
