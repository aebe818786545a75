use Rattle.resume_path.proofs.Rows.ThreadRowLemmas.{AreSet}
use Rattle.resume_path.proofs.threads.registers.Given as goal

abbrev pub invariant-words : goal.invariant-words
invariant-words l = AreSet l.words l.regs l.k
