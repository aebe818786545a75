use Rattle.std.proofs.Common.{◌/◌}
use Rattle.boot_plan.specs.Sections.{page_count}
use Rattle.boot_plan.proofs.RangeLemmas.{shared_is}
use Rattle.boot_plan.proofs.sections.shares_page.Goals as goal

pub returns : goal.returns
returns c =
    let a = c.args.a.now in
    let b = c.args.b.now in
    cc (shared_is (a.addr / 4096) (page_count a.size) (b.addr / 4096) (page_count b.size))
