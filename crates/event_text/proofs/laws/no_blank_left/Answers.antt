use Rattle.event_text.proofs.PlayLemmas.{no_blank}
use Rattle.event_text.proofs.laws.no_blank_left.Goals as goal

pub returns : goal.returns
returns c = no_blank
