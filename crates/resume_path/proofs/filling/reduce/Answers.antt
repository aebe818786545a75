use Rattle.resume_path.proofs.Homes.ComingLemmas.{reduce_comes}
use Rattle.resume_path.proofs.filling.reduce.Goals as goal

-- src/filling.rt
pub returns-clause-comes : goal.returns-clause-comes
returns-clause-comes g c =
    reduce_comes g.W.SwapStore c.args.mem.now c.reduce_run.new.self
    c.args.at c.args.right c.in-Ok.ensures.size c.in-Ok.ensures.store c.in-Ok.ensures.sound c.in-Ok.ensures.usable c.in-Ok.ensures.ledger c.in-Ok.ensures.none
