-- What an event `irq` does: it starts one handler, or nothing that can be seen.
use Rattle.std.specs.Prelude.{◌≡◌, ℕ, true, ◌⊎◌, [], ◌∷◌, Some}
use Rattle.xk_base.specs.declared.records.What.TheVariants.{Irq}
use Rattle.machine_model.specs.Runs.Matched.{Matched}
use Rattle.machine_model.specs.State.Machine.{Claim, Machine}
use Rattle.machine_model.specs.State.Threads.{handler_thread, thread_id}
use Rattle.machine_model.specs.Stepping.Events.{raised}
use Rattle.machine_model.specs.Stepping.Interrupts.{is_free_for_interrupt}
use Rattle.machine_model.specs.Stepping.Step.{record_of}

-- The handler of one number starts, as its one record tells. The number is claimed, and the interrupt thread of the process that
-- claimed it ran no handler; it begins this one, and the cursor goes to it.
pub record StartsHandler (m : Machine) (k : ℕ) : Type 0 where
  pub number : ℕ
  pub claim : Claim
  pub claimed : m.claims number ≡ Some claim
  pub idle : is_free_for_interrupt m claim.pid ≡ true
  pub begins : (raised k m).machine.threads (thread_id claim.pid 1) ≡ Some (handler_thread number claim)
  pub cursor : (raised k m).machine.cursor ≡ thread_id claim.pid 1
  pub told : (raised k m).records ≡ record_of m.steps (Irq claim.pid number) ∷ []

-- no handler starts: the cursor and all threads stay, and there is no record
pub record StartsNothing (m : Machine) (k : ℕ) : Type 0 where
  pub cursor : (raised k m).machine.cursor ≡ m.cursor
  pub threads : (raised k m).machine.threads ≡ m.threads
  pub told : (raised k m).records ≡ []

-- The cursor moves with an event `irq` only where a handler starts.
abbrev pub IrqStartsOneOrNothing : Type 0
IrqStartsOneOrNothing = (k : ℕ) (m : Machine) → StartsHandler m k ⊎ StartsNothing m k

-- The handler that the event starts is one of the process that claimed the number.
pub record StartsClaimant (m : Machine) (k : ℕ) (claim : Claim) : Type 0 where
  pub handler : StartsHandler m k
  pub own : handler.claim.pid ≡ claim.pid

-- It starts one if the number is claimed and the interrupt thread of that process is Idle.
abbrev pub IrqStartsIfFree : Type 0
IrqStartsIfFree =
    (k : ℕ) (m : Machine) (claim : Claim) → Matched m → m.claims k ≡ Some claim → is_free_for_interrupt m claim.pid ≡ true
    → StartsClaimant m k claim
