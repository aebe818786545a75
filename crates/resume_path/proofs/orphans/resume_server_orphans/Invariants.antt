use Rattle.resume_path.proofs.Orphaned.OrphanLoopLemmas.{AreOrphansTo}
use Rattle.resume_path.proofs.orphans.resume_server_orphans.Given as goal

abbrev pub invariant-messages : goal.invariant-messages
invariant-messages g l =
    AreOrphansTo g.W.SwapStore l.file l.state l.fn.mem l.mem
    l.queues l.i l.k
