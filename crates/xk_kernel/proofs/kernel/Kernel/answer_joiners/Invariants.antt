use Rattle.xk_kernel.proofs.Calling.AnsweringLemmas.{HasAnswered}
use Rattle.xk_kernel.proofs.kernel.Kernel.answer_joiners.Given as goal

abbrev pub invariant-loop-k : goal.invariant-loop-k
invariant-loop-k g l = HasAnswered g.W.SwapStore l.fn.self l.self l.who l.a0 l.k
