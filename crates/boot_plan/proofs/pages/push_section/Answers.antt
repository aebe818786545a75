use Rattle.std.proofs.Common.{arith}
use Rattle.boot_plan.specs.FirstPages.{section_page}
use Rattle.boot_plan.proofs.RowLemmas.{one_more}
use Rattle.boot_plan.proofs.pages.push_section.Goals as goal

pub loop-i-preserved : goal.loop-i-preserved
loop-i-preserved c =
    one_more (section_page c.args.offset c.args.section.now) 0 c.loop-i.i c.loop-i.i c.args.rows.now c.loop-i.rows c.push.new.self c.section_page.result
    c.loop-i.invariant c.in_ok-push.ensures.ok c.section_page.ensures (omega arith)
