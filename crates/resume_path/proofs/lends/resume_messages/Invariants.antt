use Rattle.resume_path.proofs.Lending.LentLoopLemmas.{AreLentTo}
use Rattle.resume_path.proofs.lends.resume_messages.Given as goal

abbrev pub invariant-servers : goal.invariant-servers
invariant-servers g l =
    AreLentTo g.W.SwapStore l.file l.state l.fn.mem l.mem
    l.queues l.i 0
