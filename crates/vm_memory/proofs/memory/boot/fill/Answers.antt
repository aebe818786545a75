use Rattle.std.proofs.Common.{arith}
use Rattle.vm_memory.proofs.Booting.PageFillLemmas.{filled_from}
use Rattle.vm_memory.proofs.memory.boot.fill.Goals as goal

pub returns : goal.returns
returns c = filled_from c.args.file.now c.args.plan.now c.requires.lawful.len c.requires.lawful.within c.copy_from_slice.new.self c.fill.new.self _
    c.copy_from_slice.ensures.after (c.fill.ensures.after (λ y e. e)) (omega (arith, c.fill.ensures.len, c.split_at_mut-front.ensures.back_len, c.requires.whole))
