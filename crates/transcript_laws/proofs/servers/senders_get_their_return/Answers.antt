use Rattle.transcript_laws.proofs.Serving.ServedStepLemmas.{senders_answered}
use Rattle.transcript_laws.proofs.servers.senders_get_their_return.Goals as goal

-- src/servers.rt
pub returns : goal.returns
returns c = senders_answered
