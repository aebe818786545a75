use Rattle.event_text.proofs.WholeLemmas.{play_whole}
use Rattle.event_text.proofs.laws.whole_lines_answered.Goals as goal

pub returns : goal.returns
returns c = play_whole
