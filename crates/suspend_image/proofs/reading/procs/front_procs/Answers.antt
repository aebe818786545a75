use Rattle.std.proofs.lemmas.Result.{err_from_is_err_and}
use Rattle.suspend_image.specs.Reading.{items_at}
use Rattle.suspend_image.specs.Rows.{proc_at}
use Rattle.suspend_image.proofs.RowLoopLemmas.{items_go_on, items_end, items_done}
use Rattle.suspend_image.proofs.reading.procs.front_procs.Goals as goal

pub returns-in_err-row : goal.returns-in_err-row
returns-in_err-row c =
    let p = err_from_is_err_and c.from_residual.result c.from_residual.ensures.1 in
    rw (p.1, p.2) (items_end c.in_err-row.field-0.0 proc_at c.loop.rows c.args.n c.loop.counter c.loop.rest.now (items_at proc_at c.args.n c.args.bytes.now)
    c.loop-test.true c.in_err-row.ensures c.loop.invariant)

pub loop-preserved : goal.loop-preserved
loop-preserved c =
    rw c.in_ok-push.ensures.ok (items_go_on proc_at c.loop.rows c.args.n c.loop.counter c.loop.rest.now c.in_ok-row.row c.in_ok-row.behind.now
    (items_at proc_at c.args.n c.args.bytes.now) c.loop-test.true c.in_ok-row.ensures c.loop.invariant)

pub returns : goal.returns
returns c = items_done proc_at c.loop.rows c.args.n c.loop.counter c.loop.rest.now (items_at proc_at c.args.n c.args.bytes.now) c.loop-test.false c.loop.invariant
