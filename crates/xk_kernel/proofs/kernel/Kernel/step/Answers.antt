-- A sound memory is tied. Where a page is out afterwards, pages may move.
use Rattle.vm_memory.specs.Bytes.{none_out}
use Rattle.xk_kernel.proofs.Acting.SettlesLemmas.{out_so}
use Rattle.vm_memory.proofs.Changing.SoundMemoryLemmas.{sound-tied}
use Rattle.xk_kernel.proofs.kernel.Kernel.step.Goals as goal

pub returns-in_default-clause-tie : goal.returns-in_default-clause-tie
returns-in_default-clause-tie g c = sound-tied g.W.SwapStore c.args.self.now.mem c.requires.sound.whole.mem

pub returns-clause-tie : goal.returns-clause-tie
returns-clause-tie g c = sound-tied g.W.SwapStore c.step_of.new.self.mem c.step_of.ensures.sound.whole.mem

pub returns-clause-out : goal.returns-clause-out
returns-clause-out g c out = out_so (none_out c.args.self.now.mem) (λ none. c.step_of.ensures.leaves.near none out)
