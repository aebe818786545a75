use Rattle.resume_path.proofs.Lending.LentLoopLemmas.{AreLentTo}
use Rattle.resume_path.proofs.lends.resume_server_messages.Given as goal

abbrev pub invariant-messages : goal.invariant-messages
invariant-messages g l =
    AreLentTo g.W.SwapStore l.file l.state l.fn.mem l.mem
    l.queues l.i l.k
