-- The table as a list: the claimed numbers in ascending order.
use Rattle.std.proofs.Common.{◌≡◌, ◌<◌, ℕ, Some, true, is_some, ap}
use Rattle.std.specs.List.{All, Contains}
use Rattle.std.specs.List.Sorted.{IsStrictlyIncreasing}
use Rattle.xk_base.specs.declared.limits.TheConstants.{INTERRUPT_LIMIT}
use Rattle.xk_base.proofs.CountingLemmas.{listed_below-ascends, listed_below-passes, listed_below-contains}
use Rattle.irq_claims.specs.declared.claims.Claim.{Claim}
use Rattle.irq_claims.specs.ClaimMap.{ClaimMap, claimed_numbers}
use Rattle.irq_claims.specs.ClaimsOf.{claims_of}

-- it ascends, so that it has each number once
pub claimed_numbers-ascends : (m : ClaimMap) → IsStrictlyIncreasing (claimed_numbers m)
claimed_numbers-ascends m = listed_below-ascends INTERRUPT_LIMIT (λ k. is_some (m k))

-- it has claimed numbers alone ..
pub claimed_numbers-claimed : (m : ClaimMap) → All (λ k. (k < INTERRUPT_LIMIT) × (is_some (m k) ≡ true)) (claimed_numbers m)
claimed_numbers-claimed m = listed_below-passes INTERRUPT_LIMIT (λ k. is_some (m k))

-- .. and each of them
pub claimed_numbers-contains : (m : ClaimMap) (k : ℕ) (claim : Claim) → k < INTERRUPT_LIMIT → m k ≡ Some claim → Contains (claimed_numbers m) k
claimed_numbers-contains m k claim l here = listed_below-contains INTERRUPT_LIMIT k (λ j. is_some (m j)) l (ap is_some here)
