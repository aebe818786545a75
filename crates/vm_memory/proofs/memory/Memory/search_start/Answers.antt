use Rattle.std.proofs.Common.{arith}
use Rattle.vm_memory.proofs.memory.Memory.search_start.Goals as goal

pub returns-then-before-clause-hand : goal.returns-then-before-clause-hand
returns-then-before-clause-hand g c = λ f at seat. absurd (omega (arith, at, seat.0, c.if-before.true, c.requires.sound.procs, c.requires.sound.agree.first))

pub returns-then-past-clause-hand : goal.returns-then-past-clause-hand
returns-then-past-clause-hand g c = λ f at seat. absurd (omega (arith, at, seat.1, c.if-past.true, c.frames.ensures.count, c.requires.sound.agree.last))

pub returns-clause-hand : goal.returns-clause-hand
returns-clause-hand g c = λ f at seat. omega (arith, at)
