use Rattle.xk_base.proofs.RowMapLemmas.{row_map_replicate}
use Rattle.irq_claims.specs.ClaimsOf.{claims_of}
use Rattle.irq_claims.specs.declared.claims.TheConstants.{NUMBERS}
use Rattle.irq_claims.proofs.claims.Claims.new.Goals as goal

pub returns : goal.returns
unfolding claims_of
returns c = row_map_replicate NUMBERS
