-- The place of an interrupt's record among those of its step.
use Rattle.std.specs.Prelude.{◌≡◌, ℕ, suc, List, [], ◌∷◌, ◌++◌, map, take, drop, if◌then◌else◌}
use Rattle.machine_model.specs.Stepping.Step.{record_of}
use Rattle.machine_model.specs.Stepping.Timer.{stands_after_irq}
use Rattle.xk_base.specs.Log.{LogState}
use Rattle.xk_base.specs.declared.ids.Pid.{Pid}
use Rattle.xk_base.specs.declared.records.Rec.{Rec}
use Rattle.xk_base.specs.declared.records.What.{What}

-- the log with exactly these records of its step
abbrev pub log_of : List What → LogState → LogState
log_of told log = record log { records = map (record_of log.step) told }

-- the log tells exactly this
abbrev pub LogTells : LogState → List What → Type 0
LogTells log told = log.records ≡ map (record_of log.step) told

-- how many of the records stand before the first that stands after an Irq record of the process: all where none does
abbrev pub irq_place : Pid → List Rec → ℕ
irq_place pid [] = 0
irq_place pid (rec ∷ recs) = if stands_after_irq pid rec.what then 0 else suc (irq_place pid recs)

-- the records with another one at that place
abbrev pub moved_to : ℕ → Rec → List Rec → List Rec
moved_to place moved recs = take place recs ++ moved ∷ drop place recs
