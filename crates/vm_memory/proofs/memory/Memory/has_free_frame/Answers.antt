use Rattle.std.proofs.Common.{arith}
use Rattle.vm_memory.proofs.Changing.CountLemmas.{frames_full}
use Rattle.vm_memory.proofs.memory.Memory.has_free_frame.Goals as goal

pub returns-then-self-cap-clause-no : goal.returns-then-self-cap-clause-no
returns-then-self-cap-clause-no g c = λ none. frames_full c.args.self.now.owners (omega (
  arith,
  c.if-self-cap.true,
  c.cap.ensures,
  c.requires.spare,
  c.requires.sound.seats,
  c.requires.sound.slots,
  c.requires.sound.agree.first,
  c.requires.sound.agree.last,
  c.requires.sound.tables,
))
