-- What the log tells after records were pushed.
use Rattle.std.proofs.Common.{◌≡◌, ◌+◌, List, [], ◌∷◌, ◌++◌, length, map, refl, ap, ◌∙◌, append-nil, append_assoc, length-append}
use Rattle.std.proofs.lemmas.List.{length-map, map-append}
use Rattle.xk_base.specs.Log.{LogState}
use Rattle.xk_base.specs.declared.records.What.{What}
use Rattle.machine_model.specs.Stepping.Step.{record_of}
use Rattle.xk_kernel.specs.Telling.{log_with}

-- the log with one record more, as a push leaves it
abbrev pub pushed : What → LogState → LogState
pushed what log = record log { records = log.records ++ record_of log.step what ∷ [] }

-- one record was pushed
pub told_one : (old mid new : LogState) (what : What) → mid ≡ old → new ≡ pushed what mid → new ≡ log_with (what ∷ []) old
told_one old mid new what e p = p ∙ ap (pushed what) e

-- nothing was
pub told_nothing : (log : LogState) → log_with [] log ≡ log
told_nothing log = λ i. record log { records = none i }
  where
    none : log.records ++ [] ≡ log.records
    none = rw append-nil refl

-- what is told twice is told at once
pub told_both : (log : LogState) (first second : List What) → log_with second (log_with first log) ≡ log_with (first ++ second) log
told_both log first second = λ i. record log { records = joined i }
  where
    joined : (log.records ++ map (record_of log.step) first) ++ map (record_of log.step) second ≡ log.records ++ map (record_of log.step) (first ++ second)
    joined = search (append_assoc, map-append)

-- as many records more as are told
pub told_length : (old new : LogState) (told : List What) → new ≡ log_with told old → length new.records ≡ length old.records + length told
told_length old new told e = ap (λ (log : LogState). length log.records) e ∙ rw (length-append, length-map) refl
