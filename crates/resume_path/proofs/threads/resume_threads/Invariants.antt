use Rattle.resume_path.proofs.Rows.ThreadRowLemmas.{AreBackTo}
use Rattle.resume_path.proofs.threads.resume_threads.Given as goal

abbrev pub invariant-rows : goal.invariant-rows
invariant-rows l = AreBackTo l.state.n l.state.threads l.threads l.row-index
