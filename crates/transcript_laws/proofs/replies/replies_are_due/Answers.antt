use Rattle.transcript_laws.proofs.Answering.DueLemmas.{replies_are_due}
use Rattle.transcript_laws.proofs.replies.replies_are_due.Goals as goal

-- src/replies.rt
pub returns : goal.returns
returns c = replies_are_due
