use Rattle.resume_path.proofs.Rows.ClaimRowLemmas.{AreClaimedTo}
use Rattle.resume_path.proofs.claims.resume_claims.Given as goal

abbrev pub invariant-rows : goal.invariant-rows
invariant-rows l = AreClaimedTo l.state.claims l.claims l.row-index
