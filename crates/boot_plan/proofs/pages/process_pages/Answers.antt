use Rattle.std.proofs.Common.{◌+◌, arith}
use Rattle.boot_plan.specs.FirstPages.{sections_pages, zero_page}
use Rattle.boot_plan.proofs.RowLemmas.{one_more, last_page}
use Rattle.boot_plan.proofs.pages.process_pages.Goals as goal

pub loop-i-preserved : goal.loop-i-preserved
loop-i-preserved c =
    let p = c.args.process.now in
    one_more zero_page 0x7FFF8 c.loop-i.i (0x7FFF8 + c.loop-i.i) (sections_pages p.load p.sections) c.loop-i.rows c.push.new.self c.zero_page.result
    c.loop-i.invariant c.in_ok-push.ensures.ok c.zero_page.ensures (omega arith)

pub returns : goal.returns
returns c =
    let p = c.args.process.now in
    last_page c.loop-i.i (sections_pages p.load p.sections) c.loop-i.rows c.push-2.new.self c.zero_page-2.result
    c.loop-i.invariant (omega arith) c.in_ok-push-2.ensures.ok c.zero_page-2.ensures
