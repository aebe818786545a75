use Rattle.noninterference_laws.proofs.Seeing.UnseenLemmas.{inside_unseen}
use Rattle.noninterference_laws.proofs.inside.inside_is_unseen.Goals as goal

-- src/inside.rt
pub returns : goal.returns
returns c = inside_unseen
