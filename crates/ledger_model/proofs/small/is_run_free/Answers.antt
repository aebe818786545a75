use Rattle.std.proofs.Common.{sym, ◌∙◌, arith}
use Rattle.ledger_model.specs.Small.{ledger_of}
use Rattle.ledger_model.proofs.Runs.LeastRunLemmas.{is_free_run-false, is_free_run-from}
use Rattle.ledger_model.proofs.small.is_run_free.Goals as goal

pub returns-then-not-is_free_place : goal.returns-then-not-is_free_place
returns-then-not-is_free_place c = λ procs h.
    sym (is_free_run-false procs (ledger_of c.args.pages.now c.args.orphans.now) c.args.first c.args.n c.loop-i.i (omega arith)
    (sym (c.is_free_place.ensures procs h) ∙ c.if-not-is_free_place.true))

pub returns : goal.returns
returns c = λ procs h.
    sym (is_free_run-from procs (ledger_of c.args.pages.now c.args.orphans.now) c.args.first c.args.n (λ i b. c.loop-i.invariant procs h i (omega arith)))
