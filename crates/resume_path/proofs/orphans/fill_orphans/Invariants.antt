use Rattle.resume_path.proofs.Orphaned.OrphanStepLemmas.{AreFilledTo}
use Rattle.resume_path.specs.Resumable.{state_ledger}
use Rattle.resume_path.proofs.orphans.fill_orphans.Given as goal

abbrev pub invariant-orphans : goal.invariant-orphans
invariant-orphans g l =
    AreFilledTo g.W.SwapStore (state_ledger l.file l.state)
    l.from l.n l.to l.fn.mem l.mem l.i
