use Rattle.confidentiality_laws.proofs.Histories.SideBySideLemmas.{side_by_side}
use Rattle.confidentiality_laws.proofs.side_by_side.histories_are_side_by_side.Goals as goal

-- src/side_by_side.rt
pub returns : goal.returns
returns c = side_by_side
