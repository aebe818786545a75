use Rattle.noninterference_laws.proofs.ReachedPageLemmas.{stored_alone}
use Rattle.noninterference_laws.proofs.integrity.page_is_stored_by_one_alone.Goals as goal

-- src/integrity.rt
pub returns : goal.returns
returns c = stored_alone
