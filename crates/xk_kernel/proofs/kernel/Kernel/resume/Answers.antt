use Rattle.snapshot_rows.specs.Machines.{machine_of as state_machine}
use Rattle.vm_memory.proofs.Changing.SoundMemoryLemmas.{sound-tied}
use Rattle.xk_kernel.proofs.Starting.ResumedLemmas.{resumed_comes, resumed_sound}
use Rattle.xk_kernel.proofs.kernel.Kernel.resume.Goals as goal

pub returns-in-Ok-clause-sound : goal.returns-in-Ok-clause-sound
returns-in-Ok-clause-sound g c =
    resumed_sound g.W.SwapStore _ (state_machine c.args.file.now c.args.state.now) c.in-Ok.ensures.whole
    c.in-Ok.ensures.machine c.requires.resumable.matched

pub returns-in-Ok-clause-machine : goal.returns-in-Ok-clause-machine
returns-in-Ok-clause-machine g c =
    resumed_comes g.W.SwapStore.held _ (state_machine c.args.file.now c.args.state.now) c.in-Ok.ensures.machine

pub returns-in-Ok-clause-tie : goal.returns-in-Ok-clause-tie
returns-in-Ok-clause-tie g c = sound-tied g.W.SwapStore _ c.in-Ok.ensures.whole.mem
