-- The claims of interrupts as a finite map from the number of an interrupt to its claim. Only numbers below
-- `INTERRUPT_LIMIT` are ever claimed. A number is pending where its claim says so: so pending numbers are claimed,
-- and are a set.
use Rattle.std.specs.Prelude.{ℕ, ◌==◌, Bool, true, false, ◌&&◌, Option, Some, None, nat_eq, is_some, List, if◌then◌else◌}
use Rattle.std.specs.Option.{option_map, option_and_then}
use Rattle.xk_base.specs.declared.ids.Pid.{Pid}
use Rattle.xk_base.specs.declared.limits.TheConstants.{INTERRUPT_LIMIT}
use Rattle.xk_base.specs.Tables.Sids.{is_owned_by}
use Rattle.xk_base.specs.Tables.Counting.{least_below, listed_below, put_at}
use Rattle.irq_claims.specs.declared.claims.Claim.{Claim}
use Rattle.irq_claims.specs.declared.claims.Due.{Due}

-- each claim by the number of its interrupt
abbrev pub ClaimMap : Type 0
ClaimMap = ℕ → Option Claim

-- no number is claimed
abbrev pub no_claims : ClaimMap
no_claims k = None

-- a claim that nothing is pending for
abbrev pub new_claim : Pid → ℕ → ℕ → Claim
new_claim pid handler arg = record { pid = pid; handler = handler; arg = arg; pending = false }

-- the claim is that of the process
abbrev pub is_of : Pid → Option Claim → Bool
is_of pid claim = is_owned_by pid (option_map (λ c. c.pid) claim)

-- the claim is that of the process and its number is pending
abbrev pub is_due_to : Pid → Option Claim → Bool
is_due_to pid None = false
is_due_to pid (Some c) = (c.pid.0 == pid.0) && c.pending

-- the claim with its number pending, or not
abbrev pub with_pending : Bool → Claim → Claim
with_pending pending c = record c { pending = pending }

-- the number joins the pending numbers; nothing changes where it is pending already, or not claimed
abbrev pub pend : ℕ → ClaimMap → ClaimMap
pend k m = put_at nat_eq m k (option_map (with_pending true) (m k))

-- the number leaves the pending numbers
abbrev pub settle : ℕ → ClaimMap → ClaimMap
settle k m = put_at nat_eq m k (option_map (with_pending false) (m k))

-- the lowest pending number that the process has claimed
abbrev pub lowest_due : Pid → ClaimMap → Option ℕ
lowest_due pid m = least_below INTERRUPT_LIMIT (λ k. is_due_to pid (m k))

-- what is delivered for the number: itself, its handler and its argument
abbrev pub delivery : ℕ → Claim → Due
delivery k c = record { k = k; handler = c.handler; arg = c.arg }

-- the delivery of the lowest pending number of the process; none where it has no pending number
abbrev pub lowest_delivery : Pid → ClaimMap → Option Due
lowest_delivery pid m = option_and_then (λ k. option_map (delivery k) (m k)) (lowest_due pid m)

-- that number, where there is one, leaves the pending numbers
abbrev pub settle_any : Option ℕ → ClaimMap → ClaimMap
settle_any None m = m
settle_any (Some k) m = settle k m

-- the claims of the process go, and its pending numbers with them
abbrev pub end_claims : Pid → ClaimMap → ClaimMap
end_claims pid m k = if is_of pid (m k) then None else m k

-- the claimed numbers in ascending order, each once: with their claims they are the table as a list
abbrev pub claimed_numbers : ClaimMap → List ℕ
claimed_numbers m = listed_below INTERRUPT_LIMIT (λ k. is_some (m k))
