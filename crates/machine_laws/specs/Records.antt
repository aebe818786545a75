-- What a run tells: the records of what leads from a state to the next, and those of a run in order.
use Rattle.std.specs.Prelude.{List, [], ◌∷◌, ◌++◌}
use Rattle.xk_base.specs.declared.records.Rec.{Rec}
use Rattle.machine_model.specs.Runs.Moments.{Cause, ByStep, ByPick, ByIrq, ByKill, ByTurn, Moment}
use Rattle.machine_model.specs.State.Machine.{Machine}
use Rattle.machine_model.specs.Stepping.Events.{picked, raised, killed}
use Rattle.machine_model.specs.Stepping.Step.{step}

-- the records of what leads from a state to the next; the end of a turn has none
abbrev pub records_by : Cause → Machine → List Rec
records_by ByStep m = (step m).records
records_by (ByPick who) m = (picked who m).records
records_by (ByIrq k) m = (raised k m).records
records_by (ByKill pid) m = (killed pid m).records
records_by ByTurn m = []

-- those of a run, in order
unfoldable pub records_of : Machine → List Moment → List Rec
records_of start [] = []
records_of start (moment ∷ moments) = records_by moment.cause start ++ records_of moment.machine moments
