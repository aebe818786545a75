use Rattle.event_text.proofs.PlayLemmas.{play_left}
use Rattle.event_text.proofs.laws.events_in_order.Goals as goal

pub returns : goal.returns
returns c = play_left
