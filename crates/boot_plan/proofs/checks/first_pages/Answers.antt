use Rattle.std.proofs.Common.{arith}
use Rattle.boot_plan.proofs.CountLemmas.{counted}
use Rattle.boot_plan.proofs.checks.first_pages.Goals as goal

pub returns-clause-count : goal.returns-clause-count
returns-clause-count c =
    let l = c.loop-section in
    counted c.args.process.now c.as_slice-section-items.result.now l.section-index l.count c.as_slice-section-items.ensures (omega arith) l.invariant.count
