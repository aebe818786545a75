use Rattle.std.proofs.Common.{◌/◌, lit≤, arith}
use Rattle.std.proofs.lemmas.Bool.Decides.{nat_tests}
use Rattle.boot_plan.specs.Sections.{page_count}
use Rattle.boot_plan.proofs.RangeLemmas.{outside_is}
use Rattle.boot_plan.proofs.sections.leaves_window.Goals as goal

pub returns-else-first : goal.returns-else-first
returns-else-first c =
    let e = outside_is 0x10 0xFFF (c.args.section.now.addr / 4096) (page_count c.args.section.now.size) (lit≤ tt) in
    grind (arith, nat_tests, e)
