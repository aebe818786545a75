-- What arms and disarms the timer in a run, and when the claim on its interrupt ends.
use Rattle.std.specs.Prelude.{◌≡◌, ◌≢◌, ℕ, true, Option, Some, None}
use Rattle.std.specs.Option.{option_and_then}
use Rattle.xk_base.specs.declared.ids.ThreadId.{ThreadId}
use Rattle.xk_base.specs.declared.limits.TheConstants.{TIMER_INTERRUPT}
use Rattle.xk_base.specs.declared.pages.Width.{Width}
use Rattle.xk_base.specs.declared.pages.Width.TheVariants.{Word}
use Rattle.machine_model.specs.Hart.Instructions.{Executed, Next, Stores, StoresToConsole, StoresToTimer, CallsKernel, Traps}
use Rattle.machine_model.specs.Runs.Matched.{Matched}
use Rattle.machine_model.specs.Runs.Moments.{Cause, ByStep, Moment}
use Rattle.machine_model.specs.State.Machine.{Machine, Claim}
use Rattle.machine_model.specs.State.Order.{actor}
use Rattle.machine_model.specs.Stepping.Acts.{executes}
use Rattle.machine_model.specs.Stepping.Interrupts.{is_claim_of}

-- ---- stores in the timer's page

-- what an instruction stores there: where in the page, how wide, and which value
pub record TimerStore : Type 0 where
  pub offset : ℕ
  pub width : Width
  pub value : ℕ

abbrev pub to_timer : Executed → Option TimerStore
to_timer (Next regs pc) = None
to_timer (Stores address width value regs pc) = None
to_timer (StoresToConsole offset value regs pc) = None
to_timer (StoresToTimer offset width value regs pc) = Some (record { offset = offset; width = width; value = value })
to_timer CallsKernel = None
to_timer (Traps cause value) = None

-- the store there that the next step of the machine does; none where it does none
unfoldable pub timer_store : Machine → Option TimerStore
timer_store m =
    option_and_then (λ who. option_and_then (λ thread. option_and_then to_timer (executes m who thread)) (m.threads who)) (actor m)

-- ---- what touches the timer

-- the step stores a word at offset 4 of the page, which arms the timer with it
pub record Arms (compare : ℕ) (before : Machine) (cause : Cause) : Type 0 where
  pub step : cause ≡ ByStep
  pub store : timer_store before ≡ Some (record { offset = 4; width = Word; value = compare })

-- the step stores a word at offset 8, which disarms it
pub record Disarms (before : Machine) (cause : Cause) : Type 0 where
  pub step : cause ≡ ByStep
  pub value : ℕ
  pub store : timer_store before ≡ Some (record { offset = 8; width = Word; value = value })

-- the claim on the timer's interrupt ends: its process frees it, or dies
pub record EndsClaim (before after : Machine) : Type 0 where
  pub claim : Claim
  pub stood : before.claims TIMER_INTERRUPT ≡ Some claim
  pub ended : after.claims TIMER_INTERRUPT ≢ Some claim

-- none of these happens in the moment
pub record LeavesTimer (before : Machine) (moment : Moment) : Type 0 where
  pub not_armed : (compare : ℕ) → ¬ Arms compare before moment.cause
  pub not_disarmed : ¬ Disarms before moment.cause
  pub claim_stands : ¬ EndsClaim before moment.machine

-- ---- who can touch it

-- Only the process that has claimed the timer's interrupt stores in the page.
abbrev pub OnlyClaimantStores : Type 0
OnlyClaimantStores =
    (m : Machine) (who : ThreadId) (store : TimerStore) → Matched m → actor m ≡ Some who → timer_store m ≡ Some store
    → is_claim_of who.pid (m.claims TIMER_INTERRUPT) ≡ true
