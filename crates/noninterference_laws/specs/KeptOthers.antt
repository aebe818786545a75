-- Integrity of what a process does beside instructions: what it keeps of all that is another's.
use Rattle.std.specs.Prelude.{◌≡◌, ◌≢◌, ◌↔◌, ℕ, Bool, false, List, Some}
use Rattle.xk_base.specs.declared.ids.Pid.{Pid}
use Rattle.xk_base.specs.declared.ids.Place.{Place}
use Rattle.xk_base.specs.declared.ids.ThreadId.{ThreadId}
use Rattle.xk_base.specs.declared.limits.TheConstants.{TIMER_INTERRUPT}
use Rattle.machine_model.specs.Runs.Matched.{Matched, is_living}
use Rattle.machine_model.specs.State.Machine.{Claim, Machine}
use Rattle.machine_model.specs.State.Order.{actor}
use Rattle.machine_model.specs.Stepping.Acts.{call_by}
use Rattle.machine_model.specs.Stepping.Interrupts.{is_claim_of}
use Rattle.machine_model.specs.Stepping.Step.{step}
use Rattle.noninterference_laws.specs.Integrity.{is_of_timer}
use Rattle.noninterference_laws.specs.Fates.{Doing, HomeFate, OrphanFate, ServerFate, ThreadFate}

-- the call of this thread with these words
abbrev pub by_call : ThreadId → List ℕ → Machine → Doing
by_call who words m = record { pid = who.pid; call = Some (record { who = who; words = words }); before = m }

-- the process has claimed the timer's interrupt, which the timer may raise and deliver at the end of the step
abbrev pub claims_timer : Machine → Pid → Bool
claims_timer m pid = is_claim_of pid (m.claims TIMER_INTERRUPT)

-- what becomes of all that is another's
pub record KeepsOthers (doing : Doing) (after : Machine) : Type 0 where
  -- each thread of another process, but for the one that the timer may start at the end of the step
  pub threads : (id : ThreadId) → id.pid ≢ doing.pid → is_of_timer doing.before id ≡ false
      → ThreadFate doing after.servers id (after.threads id)
  -- its life, heap and connections
  pub process : (other : Pid) → other ≢ doing.pid → after.process other.0 ≡ doing.before.process other.0
  -- its claims: they stay, and none is new
  pub claims : (k : ℕ) (claim : Claim) → claim.pid ≢ doing.pid → (after.claims k ≡ Some claim) ↔ (doing.before.claims k ≡ Some claim)
  -- whether its interrupts are pending
  pub pending : (k : ℕ) (claim : Claim) → doing.before.claims k ≡ Some claim → claim.pid ≢ doing.pid
      → claims_timer doing.before claim.pid ≡ false → after.pending k ≡ doing.before.pending k
  -- its servers: they keep identifier and process, and none is new
  pub servers : (n : ℕ) → ServerFate doing (is_living after doing.pid) n (after.servers n)
  -- its pages, by their homes
  pub homes : (p : Place) → p.pid ≢ doing.pid → HomeFate doing.pid doing.before.ledger after.ledger p
  -- the orphans that it holds
  pub orphans : (q : Place) → q.pid ≢ doing.pid → OrphanFate doing.pid doing.before.ledger after.ledger q

-- a system call keeps what is another's
abbrev pub CallKeepsOthers : Type 0
CallKeepsOthers =
    (m : Machine) (who : ThreadId) (words : List ℕ) → Matched m → actor m ≡ Some who → call_by m who ≡ Some words
    → KeepsOthers (by_call who words m) (step m).machine
