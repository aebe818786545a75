-- What keeps a state of the machine one that state bytes spell, while no more steps are done than they count.
use Rattle.std.specs.Prelude.{◌≡◌, ℕ, ◌<◌, ◌≤◌, All, List}
use Rattle.xk_base.specs.declared.events.Event.{Event}
use Rattle.machine_model.specs.Runs.Matched.{Matched}
use Rattle.machine_model.specs.Runs.Moments.{Cause, caused, state_at}
use Rattle.machine_model.specs.State.Machine.{Machine}
use Rattle.machine_laws.specs.History.{history}
use Rattle.machine_laws.specs.HistoryMoments.{moments_of}
use Rattle.machine_laws.specs.Reserved.{IsReservedByThread}
use Rattle.snapshot_rows.specs.declared.state.State.{State}
use Rattle.snapshot_rows.specs.Machines.{machine_of}
use Rattle.suspend_image.specs.Forms.{Spells}
use Rattle.suspend_image.specs.Saveable.{IsSpellable}
use Rattle.xk_base.specs.declared.limits.TheConstants.{STEP_LIMIT}

-- there are as many processes, and there is as much room for pages
abbrev pub IsSameSize : Machine → Machine → Type 0
IsSameSize before after = (after.capacity ≡ before.capacity) × (after.processes ≡ before.processes)

-- .. whatever leads to the next state
abbrev pub AllKeepSize : Type 0
AllKeepSize = (cause : Cause) (m : Machine) → IsSameSize m (caused cause m)

-- the reservation stays that of an id that a thread can have
abbrev pub AllKeepReserved : Type 0
AllKeepReserved = (cause : Cause) (m : Machine) → Matched m → IsReservedByThread m → IsReservedByThread (caused cause m)

-- whatever leads from a state that state bytes spell to the next leads to such a state
abbrev pub AllKeepSpellable : Type 0
AllKeepSpellable =
    (cause : Cause) (m : Machine) → IsSpellable m → (caused cause m).steps ≤ STEP_LIMIT → IsSpellable (caused cause m)

-- each state of a history from such a state
abbrev pub MomentsSpellable : Type 0
MomentsSpellable =
    (events : List Event) (limit : ℕ) (start : Machine) → IsSpellable start → start.steps ≤ limit → limit ≤ STEP_LIMIT → (i : ℕ)
    → IsSpellable (state_at start (moments_of events limit start) i)

-- .. and its last
abbrev pub LastSpellable : Type 0
LastSpellable =
    (events : List Event) (limit : ℕ) (start : Machine) → IsSpellable start → start.steps ≤ limit → limit ≤ STEP_LIMIT
    → IsSpellable (history events limit start).machine

-- The state that a file spells, where the machine can be in it and it has no more pages than a machine has frames and slots.
abbrev pub FilesSpellable : Type 0
FilesSpellable =
    (file : List ℕ) (state : State) → All (λ b. b < 256) file → Spells file state → Matched (machine_of file state) → state.cap ≤ 32768
    → IsSpellable (machine_of file state)
