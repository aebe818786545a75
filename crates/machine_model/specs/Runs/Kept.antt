-- What keeps the invariant: each step, each event, and the end of a turn. These are propositions.
use Rattle.xk_base.specs.declared.ids.Pid.{Pid}
use Rattle.xk_base.specs.declared.ids.ThreadId.{ThreadId}
use Rattle.std.specs.Prelude.{ℕ, ◌+◌, IsTrue}
use Rattle.xk_base.specs.Tables.Circle.{is_thread_id}
use Rattle.machine_model.specs.Stepping.Events.{picked, raised, killed}
use Rattle.machine_model.specs.State.Machine.{Machine}
use Rattle.machine_model.specs.Runs.Matched.{Matched}
use Rattle.machine_model.specs.Runs.Moments.{Cause, caused}
use Rattle.machine_model.specs.State.Order.{turn}
use Rattle.machine_model.specs.Stepping.Step.{step}

-- The state that a step of `m` comes to is matched once the step is counted: the number or the serial that the step took may be
-- the one above the steps done before.
abbrev pub Settles : Machine → Machine → Type 0
Settles m next = Matched (record next { steps = m.steps + 1 })

abbrev pub StepKeepsMatched : Type 0
StepKeepsMatched = (m : Machine) → Matched m → Matched (step m).machine

abbrev pub PickKeepsMatched : Type 0
PickKeepsMatched = (who : ThreadId) (m : Machine) → Matched m → Matched (picked who m).machine

abbrev pub IrqKeepsMatched : Type 0
IrqKeepsMatched = (k : ℕ) (m : Machine) → Matched m → Matched (raised k m).machine

abbrev pub KillKeepsMatched : Type 0
KillKeepsMatched = (pid : Pid) (m : Machine) → Matched m → Matched (killed pid m).machine

abbrev pub TurnKeepsMatched : Type 0
TurnKeepsMatched = (m : Machine) → Matched m → Matched (turn m)

-- whatever leads from a state to the next keeps the invariant
abbrev pub AllKeepMatched : Type 0
AllKeepMatched = (cause : Cause) (m : Machine) → Matched m → Matched (caused cause m)

-- ---- The cursor, of which the invariant doesn't speak: it stays the id of a thread of the processes, also where that thread has
-- ended.

-- what leads to the state keeps it
abbrev pub KeepsCursor : Cause → Type 0
KeepsCursor cause =
    (m : Machine) → Matched m → IsTrue (is_thread_id m.processes m.cursor)
    → IsTrue (is_thread_id (caused cause m).processes (caused cause m).cursor)

-- .. whatever it is
abbrev pub AllKeepCursor : Type 0
AllKeepCursor = (cause : Cause) → KeepsCursor cause
