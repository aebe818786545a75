use Rattle.event_text.proofs.PlayLemmas.{play_end}
use Rattle.event_text.proofs.laws.end_of_file.Goals as goal

pub returns : goal.returns
returns c = play_end
