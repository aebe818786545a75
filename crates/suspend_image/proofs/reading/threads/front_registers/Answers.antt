use Rattle.std.proofs.Common.{◌≡◌, ◌<◌, length, take, ◌∙◌, arith}
use Rattle.std.proofs.Math.ListN.{length-set}
use Rattle.std.proofs.lemmas.List.{take_more_set, take_all}
use Rattle.std.proofs.lemmas.Result.{err_from_is_err_and}
use Rattle.suspend_image.specs.Reading.{word_at, items_at}
use Rattle.suspend_image.proofs.RowLoopLemmas.{items_go_on, items_end, items_done}
use Rattle.suspend_image.proofs.reading.threads.front_registers.Goals as goal

pub returns-in_err-number : goal.returns-in_err-number
returns-in_err-number c =
    let p = err_from_is_err_and c.from_residual.result c.from_residual.ensures.1 in
    rw (p.1, p.2) (items_end c.in_err-number.field-0.0 word_at (take c.loop-i.i c.loop-i.regs) 31 c.loop-i.i c.loop-i.rest.now (items_at word_at 31 c.args.bytes.now)
    c.loop-i-test.true c.in_err-number.ensures c.loop-i.invariant.read)

pub loop-i-preserved : goal.loop-i-preserved
loop-i-preserved c =
    let within : c.loop-i.i < length c.loop-i.regs = omega (arith, c.loop-i.invariant.len) in
    record {
      len = length-set c.loop-i.regs c.loop-i.i c.in_ok-number.number ∙ c.loop-i.invariant.len;
      read = rw (take_more_set c.loop-i.regs c.loop-i.i c.in_ok-number.number within)
          (items_go_on word_at (take c.loop-i.i c.loop-i.regs) 31 c.loop-i.i c.loop-i.rest.now c.in_ok-number.number c.in_ok-number.behind.now
          (items_at word_at 31 c.args.bytes.now) c.loop-i-test.true c.in_ok-number.ensures c.loop-i.invariant.read);
    }

pub returns : goal.returns
returns c =
    let all : take c.loop-i.i c.loop-i.regs ≡ c.loop-i.regs = take_all c.loop-i.i c.loop-i.regs (omega (arith, c.loop-i.invariant.len)) in
    rw all at (items_done word_at (take c.loop-i.i c.loop-i.regs) 31 c.loop-i.i c.loop-i.rest.now (items_at word_at 31 c.args.bytes.now) c.loop-i-test.false c.loop-i.invariant.read)
