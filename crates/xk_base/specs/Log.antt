-- The log of the records of one step or event.
use Rattle.std.specs.Prelude.{ℕ, List}
use Rattle.xk_base.specs.declared.records.Rec.{Rec}

-- a log as contracts see it: the step of the records that follow, the records so far, and how many fit
pub record LogState : Type 0 where
  pub step : ℕ
  pub records : List Rec
  pub room : ℕ
