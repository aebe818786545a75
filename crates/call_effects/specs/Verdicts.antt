-- What comes of a call, as data: its tests in their order, and then what is done.
use Rattle.std.specs.Prelude.{ℕ, Bool, true, List, Option, None}
use Rattle.std.specs.List.{list_all}
use Rattle.xk_base.specs.declared.errors.XousError.{XousError}
use Rattle.xk_base.specs.declared.ids.Pid.{Pid}
use Rattle.machine_model.specs.State.Changes.{Outcome, Refused, Served, unless_refused, unless_retried}
use Rattle.machine_model.specs.State.Machine.{Machine}
use Rattle.machine_model.specs.State.Threads.{Answers, answer_to, no_answers}
use Rattle.call_effects.specs.Effects.{Effect, run}

-- what a served call does: its effects in order, whom it answers, and the process that dies, where one does
pub record Plan : Type 0 where
  pub effects : List Effect
  pub answers : Answers
  pub gone : Option Pid

pub data Verdict : Type 0 where
  -- it is refused
  Refuses : XousError → Verdict
  -- it is served so
  Does : Plan → Verdict
  -- it is refused by the first test that holds, and else as follows
  RefusedIf : List (Bool × XousError) → Verdict → Verdict
  -- it is to be made again where the test holds, and else as follows
  RetriedIf : Bool → Verdict → Verdict

-- what the verdict on a call in a machine means; a call delivers no interrupt
abbrev pub meant : Machine → Verdict → Outcome
meant m (Refuses error) = Refused error
meant m (Does plan) = Served (record { machine = run plan.effects m; answers = plan.answers; delivery = None; gone = plan.gone })
meant m (RefusedIf refusals verdict) = unless_refused refusals (meant m verdict)
meant m (RetriedIf test verdict) = unless_retried test (meant m verdict)

-- the verdict on a call that the cursor's thread makes with these eight words
abbrev pub Row : Type 0
Row = Machine → List ℕ → Verdict

-- each effect of the verdict passes the test
abbrev pub all_effects : (Effect → Bool) → Verdict → Bool
all_effects test (Refuses error) = true
all_effects test (Does plan) = list_all test plan.effects
all_effects test (RefusedIf refusals verdict) = all_effects test verdict
all_effects test (RetriedIf retried verdict) = all_effects test verdict

-- ---- plans

-- these threads are answered
abbrev pub answers_with : Answers → List Effect → Verdict
answers_with answers effects = Does (record { effects = effects; answers = answers; gone = None })

-- the caller is answered these words
abbrev pub answers_caller : Machine → List ℕ → List Effect → Verdict
answers_caller m words effects = answers_with (answer_to m.cursor words) effects

-- nobody is answered
abbrev pub answers_nobody : List Effect → Verdict
answers_nobody effects = answers_with no_answers effects
