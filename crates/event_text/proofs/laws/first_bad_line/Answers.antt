use Rattle.event_text.proofs.PlayLemmas.{play_bad}
use Rattle.event_text.proofs.laws.first_bad_line.Goals as goal

pub returns : goal.returns
returns c = play_bad
