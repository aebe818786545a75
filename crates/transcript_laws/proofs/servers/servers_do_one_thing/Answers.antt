use Rattle.transcript_laws.proofs.Serving.ServedStepLemmas.{all_served}
use Rattle.transcript_laws.proofs.servers.servers_do_one_thing.Goals as goal

-- src/servers.rt
pub returns : goal.returns
returns c = all_served
