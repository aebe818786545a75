use Rattle.transcript_laws.proofs.Answering.CallTableLemmas.{calls_answer_who_waits}
use Rattle.transcript_laws.proofs.replies.calls_answer_who_waits.Goals as goal

-- src/replies.rt
pub returns : goal.returns
returns c = calls_answer_who_waits
