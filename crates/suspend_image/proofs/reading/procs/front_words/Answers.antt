use Rattle.std.proofs.lemmas.Result.{err_from_is_err_and}
use Rattle.suspend_image.specs.Reading.{word_at, items_at}
use Rattle.suspend_image.proofs.RowLoopLemmas.{items_go_on, items_end, items_done}
use Rattle.suspend_image.proofs.reading.procs.front_words.Goals as goal

pub returns-in_err-number : goal.returns-in_err-number
returns-in_err-number c =
    let p = err_from_is_err_and c.from_residual.result c.from_residual.ensures.1 in
    rw (p.1, p.2) (items_end c.in_err-number.field-0.0 word_at c.loop.words c.args.count c.loop.counter c.loop.rest.now (items_at word_at c.args.count c.args.bytes.now)
    c.loop-test.true c.in_err-number.ensures c.loop.invariant)

pub loop-preserved : goal.loop-preserved
loop-preserved c =
    rw c.in_ok-push.ensures.ok (items_go_on word_at c.loop.words c.args.count c.loop.counter c.loop.rest.now c.in_ok-number.number c.in_ok-number.behind.now
    (items_at word_at c.args.count c.args.bytes.now) c.loop-test.true c.in_ok-number.ensures c.loop.invariant)

pub returns : goal.returns
returns c = items_done word_at c.loop.words c.args.count c.loop.counter c.loop.rest.now (items_at word_at c.args.count c.args.bytes.now) c.loop-test.false c.loop.invariant
