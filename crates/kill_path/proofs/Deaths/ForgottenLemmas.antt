-- What the tables let go of a dying process is what the machine lets go.
use Rattle.std.proofs.Common.{◌≡◌, Bool, true, false, Option, Some, None, refl}
use Rattle.std.specs.Prelude.{◌==◌, ◌&&◌, not, if◌then◌else◌}
use Rattle.std.specs.Option.{option_map, option_map_or}
use Rattle.irq_claims.specs.ClaimMap.{is_of}
use Rattle.irq_claims.specs.declared.claims.Claim.{Claim as TableClaim}
use Rattle.machine_model.specs.Ending.Ends.{dead_process}
use Rattle.machine_model.specs.Stepping.Interrupts.{is_claim_of}
use Rattle.process_table.specs.ProcessMap.{is_alive}
use Rattle.process_table.specs.State.{ProcessState, dead_process as dead_state}
use Rattle.xk_parts.specs.Shown.{process_of, thread_of, claim_of}
use Rattle.thread_table.specs.declared.thread.Thread.{Thread as TableThread}
use Rattle.xk_base.specs.declared.ids.Pid.{Pid}

pub thread_gone : (b : Bool) (o : Option TableThread) → option_map thread_of (if b then None else o) ≡ (if b then None else option_map thread_of o)
thread_gone true o = refl
thread_gone false o = refl

pub process_ended : (b : Bool) (old other : Option ProcessState)
    → process_of (if b then option_map (λ _. dead_state) old else other) ≡ (if b then dead_process else process_of other)
process_ended true None other = refl
process_ended true (Some p) other = refl
process_ended false old other = refl

-- who is alive in the table is so in the machine
pub alive_shown : (o : Option ProcessState) → is_alive o ≡ true → (process_of o).alive ≡ true
alive_shown None e = e
alive_shown (Some p) e = e

pub claim_gone : (pid : Pid) (o : Option TableClaim)
    → option_map claim_of (if is_of pid o then None else o) ≡ (if is_claim_of pid (option_map claim_of o) then None else option_map claim_of o)
claim_gone pid None = refl
claim_gone pid (Some claim) = go (claim.pid.0 == pid.0)
  where
    go : (b : Bool) → option_map claim_of (if b then None else Some claim) ≡ (if b then None else Some (claim_of claim))
    go true = refl
    go false = refl

abbrev pub pending_of : Option TableClaim → Bool
pending_of o = option_map_or (λ c. c.pending) o false

pub pending_gone : (pid : Pid) (o : Option TableClaim)
    → pending_of (if is_of pid o then None else o) ≡ (pending_of o && not (is_claim_of pid (option_map claim_of o)))
pending_gone pid None = refl
pending_gone pid (Some claim) = go (claim.pid.0 == pid.0) claim.pending
  where
    go : (b p : Bool) → pending_of (if b then None else Some (record claim { pending = p })) ≡ (p && not b)
    go true true = refl
    go true false = refl
    go false true = refl
    go false false = refl
