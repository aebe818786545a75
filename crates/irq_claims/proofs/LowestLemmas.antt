-- What a search for the lowest pending number of a process finds.
use Rattle.std.proofs.Common.{◌≡◌, ◌<◌, ◌==◌, ℕ, Some, true, false, ap, ◌∙◌, nat_eq}
use Rattle.std.specs.Option.{option_map, option_and_then}
use Rattle.xk_base.specs.declared.ids.Pid.{Pid}
use Rattle.xk_base.specs.declared.limits.TheConstants.{INTERRUPT_LIMIT}
use Rattle.xk_base.specs.Tables.Counting.{put_at}
use Rattle.xk_base.proofs.CountingLemmas.{least_below-Some}
use Rattle.irq_claims.specs.declared.claims.Claim.{Claim}
use Rattle.irq_claims.specs.ClaimMap.{ClaimMap, is_due_to, delivery, lowest_delivery, lowest_due, settle_any, with_pending}

-- the first number that is pending for the process is its lowest
pub lowest_due_is : (pid : Pid) (m : ClaimMap) (k : ℕ) (claim : Claim) → k < INTERRUPT_LIMIT → m k ≡ Some claim
    → (claim.pid.0 == pid.0) ≡ true → claim.pending ≡ true
    → ((j : ℕ) → j < k → is_due_to pid (m j) ≡ false) → lowest_due pid m ≡ Some k
lowest_due_is pid m k claim l here of pending first =
    least_below-Some INTERRUPT_LIMIT (λ j. is_due_to pid (m j)) k l (rw (here, of) pending) first

-- what is delivered for it ..
pub delivered : (pid : Pid) (m : ClaimMap) (k : ℕ) (claim : Claim) → lowest_due pid m ≡ Some k → m k ≡ Some claim
    → lowest_delivery pid m ≡ Some (delivery k claim)
delivered pid m k claim found here =
    ap (option_and_then (λ j. option_map (delivery j) (m j))) found ∙ ap (option_map (delivery k)) here

-- .. and what stays
pub settled : (pid : Pid) (m : ClaimMap) (k : ℕ) (claim : Claim) → lowest_due pid m ≡ Some k → m k ≡ Some claim
    → settle_any (lowest_due pid m) m ≡ put_at nat_eq m k (Some (with_pending false claim))
settled pid m k claim found here =
    ap (λ o. settle_any o m) found ∙ ap (λ o. put_at nat_eq m k (option_map (with_pending false) o)) here
