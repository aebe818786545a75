use Rattle.noninterference_laws.proofs.Seeing.UnseenLemmas.{pages_enough}
use Rattle.noninterference_laws.proofs.inside.handed_pages_are_enough.Goals as goal

-- src/inside.rt
pub returns : goal.returns
returns c = pages_enough
