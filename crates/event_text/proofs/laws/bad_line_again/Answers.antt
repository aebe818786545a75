use Rattle.event_text.proofs.PlayLemmas.{bad_again}
use Rattle.event_text.proofs.laws.bad_line_again.Goals as goal

pub returns : goal.returns
returns c = bad_again
