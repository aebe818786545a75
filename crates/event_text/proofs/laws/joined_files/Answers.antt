use Rattle.event_text.proofs.JoinedLemmas.{files_joined}
use Rattle.event_text.proofs.laws.joined_files.Goals as goal

pub returns : goal.returns
returns c = files_joined
