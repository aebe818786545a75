use Rattle.std.proofs.Common.{ap, subst, sym}
use Rattle.machine_model.proofs.Runs.KeptLemmas.{turn_keeps}
use Rattle.machine_model.specs.Runs.Matched.{Matched}
use Rattle.vm_memory.proofs.Changing.SoundMemoryLemmas.{sound-tied}
use Rattle.vm_memory.specs.Memory.{store_of}
use Rattle.xk_kernel.specs.State.{machine_of}
use Rattle.xk_kernel.proofs.kernel.Kernel.end_turn.Goals as goal

-- src/kernel/readers.rt
pub returns-clause-sound : goal.returns-clause-sound
returns-clause-sound g c = record {
  whole = c.turn.ensures.whole;
  matched = λ usable. subst Matched (sym c.turn.ensures.machine)
      (turn_keeps (machine_of g.W.SwapStore.held c.args.self.now) (c.requires.sound.matched c.requires.usable));
}

pub returns-clause-tie : goal.returns-clause-tie
returns-clause-tie g c = sound-tied g.W.SwapStore c.turn.new.self.mem c.turn.ensures.whole.mem

pub returns-clause-store : goal.returns-clause-store
returns-clause-store g c = ap (λ mem. store_of mem) c.turn.ensures.mem
