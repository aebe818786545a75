-- What the invariant doesn't speak of: where the cursor stands.
use Rattle.std.proofs.Common.{ℕ, zero, suc, List, [], ◌∷◌, subst, sym}
use Rattle.std.specs.Prelude.{if◌then◌else◌, unwrap_or}
use Rattle.xk_base.specs.declared.ids.ThreadId.{ThreadId}
use Rattle.machine_model.specs.Stepping.Events.{picked}
use Rattle.machine_model.specs.Runs.Kept.{StepKeepsMatched, PickKeepsMatched, IrqKeepsMatched, KillKeepsMatched, TurnKeepsMatched, AllKeepMatched}
use Rattle.machine_model.specs.Runs.Moments.{ByStep, ByPick, ByIrq, ByKill, ByTurn, Moment, IsRun, state_at}
use Rattle.machine_model.specs.State.Machine.{Machine}
use Rattle.machine_model.specs.Runs.Matched.{Matched}
use Rattle.machine_model.specs.State.Order.{ready_at, next_ready, turn}

-- wherever the cursor goes, the machine stays matched
pub matched_at : (c : ThreadId) (m : Machine) → Matched m → Matched (record m { cursor = c })
matched_at c m h = record {
  body = h.body;
  rest = record { handlers = h.rest.handlers; claims = h.rest.claims; above = h.rest.above; stepped = h.rest.stepped; timer = h.rest.timer };
}

pub turn_keeps : TurnKeepsMatched
unfolding turn
turn_keeps m h = matched_at (unwrap_or (next_ready m m.cursor) m.cursor) m h

pub pick_keeps : PickKeepsMatched
unfolding picked
pick_keeps who m h = matched_at (if ready_at m who then who else m.cursor) m h

-- ---- runs

pub all_keep : StepKeepsMatched → IrqKeepsMatched → KillKeepsMatched → AllKeepMatched
all_keep step irq kill ByStep m h = step m h
all_keep step irq kill (ByPick who) m h = pick_keeps who m h
all_keep step irq kill (ByIrq k) m h = irq k m h
all_keep step irq kill (ByKill pid) m h = kill pid m h
all_keep step irq kill ByTurn m h = turn_keeps m h

pub run_keeps : AllKeepMatched → (start : Machine) (moments : List Moment) → Matched start → IsRun start moments
    → (i : ℕ) → Matched (state_at start moments i)
unfolding IsRun state_at
run_keeps keep start moments h run zero = h
run_keeps keep start [] h run (suc i) = h
run_keeps keep start (moment ∷ moments) h run (suc i) =
    run_keeps keep moment.machine moments (subst Matched (sym run.0) (keep moment.cause start h)) run.1 i
