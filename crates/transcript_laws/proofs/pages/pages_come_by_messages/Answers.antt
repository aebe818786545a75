use Rattle.transcript_laws.proofs.Coming.CauseLemmas.{all_come}
use Rattle.transcript_laws.proofs.pages.pages_come_by_messages.Goals as goal

-- src/pages.rt
pub returns : goal.returns
returns c = all_come
