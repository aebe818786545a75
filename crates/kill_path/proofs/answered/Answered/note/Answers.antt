use Rattle.std.proofs.Common.{◌≡◌, length, arith}
use Rattle.kill_path.proofs.Threads.MarkLemmas.{marked-set}
use Rattle.kill_path.specs.Noted.{noted}
use Rattle.kill_path.proofs.answered.Answered.note.Goals as goal

pub returns : goal.returns
unfolding noted
returns c =
    let size : length c.args.self.now.words ≡ 64 = omega arith in
    marked-set c.args.self.now.words c.args.id size c.requires
