use Rattle.std.proofs.Common.{None}
use Rattle.std.proofs.lemmas.Result.{err_from_is_err_and}
use Rattle.suspend_image.specs.Reading.{rows_at}
use Rattle.suspend_image.specs.Rows.{orphan_at}
use Rattle.snapshot_rows.specs.Order.{orphan_key}
use Rattle.suspend_image.proofs.RowLoopLemmas.{rows_go_on, rows_end, rows_done}
use Rattle.suspend_image.proofs.reading.pages.front_orphans.Goals as goal

pub returns-in_err-row : goal.returns-in_err-row
returns-in_err-row c =
    let p = err_from_is_err_and c.from_residual.result c.from_residual.ensures.1 in
    rw (p.1, p.2) (rows_end c.in_err-row.field-0.0 (orphan_at c.args.size c.args.n) orphan_key c.loop.rows c.args.count c.loop.counter c.loop.before c.loop.rest.now (rows_at (orphan_at c.args.size c.args.n) orphan_key c.args.count None c.args.bytes.now)
    c.loop-test.true c.in_err-row.ensures c.loop.invariant)

pub loop-preserved : goal.loop-preserved
loop-preserved c =
    rw c.in_ok-push.ensures.ok (rows_go_on (orphan_at c.args.size c.args.n) orphan_key c.loop.rows c.args.count c.loop.counter c.loop.before c.loop.rest.now c.in_ok-row.row c.in_ok-row.behind.now
    (rows_at (orphan_at c.args.size c.args.n) orphan_key c.args.count None c.args.bytes.now) c.loop-test.true c.in_ok-row.ensures c.loop.invariant)

pub returns : goal.returns
returns c = rows_done (orphan_at c.args.size c.args.n) orphan_key c.loop.rows c.args.count c.loop.counter c.loop.before c.loop.rest.now (rows_at (orphan_at c.args.size c.args.n) orphan_key c.args.count None c.args.bytes.now) c.loop-test.false c.loop.invariant
