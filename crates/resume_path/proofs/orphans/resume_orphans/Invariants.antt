use Rattle.resume_path.proofs.Orphaned.OrphanLoopLemmas.{AreOrphansTo}
use Rattle.resume_path.proofs.orphans.resume_orphans.Given as goal

abbrev pub invariant-servers : goal.invariant-servers
invariant-servers g l =
    AreOrphansTo g.W.SwapStore l.file l.state l.fn.mem l.mem
    l.queues l.i 0
