use Rattle.confidentiality_laws.proofs.Spreading.CauseLemmas.{cause_moves}
use Rattle.confidentiality_laws.proofs.differences.causes_make_no_difference.Goals as goal

-- src/differences.rt
pub returns : goal.returns
returns c = cause_moves
