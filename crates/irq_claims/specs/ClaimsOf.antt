-- What a table of claims holds, as its callers see it.
use Rattle.xk_base.specs.Tables.RowMap.{row_map}
use Rattle.irq_claims.specs.declared.claims.Claims.{Claims}
use Rattle.irq_claims.specs.ClaimMap.{ClaimMap}

-- the claims that the table holds
unfoldable pub claims_of : Claims → ClaimMap
claims_of t = row_map t.by_number
