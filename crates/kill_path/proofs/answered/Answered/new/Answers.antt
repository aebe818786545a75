use Rattle.kill_path.proofs.Threads.MarkLemmas.{marked-nobody}
use Rattle.kill_path.specs.Noted.{noted}
use Rattle.kill_path.proofs.answered.Answered.new.Goals as goal

pub returns : goal.returns
unfolding noted
returns c = marked-nobody 64
