-- What each moment of a run keeps of others, and so of a history.
use Rattle.std.proofs.Common.{◌≡◌, zero, suc, ℕ, List, [], ◌∷◌, Some, sym, subst}
use Rattle.std.specs.Prelude.{slice_get}
use Rattle.std.proofs.lemmas.Option.{none-some, same_Some}
use Rattle.machine_model.specs.Runs.Matched.{Matched}
use Rattle.machine_model.specs.Runs.Moments.{IsRun, Moment, state_at}
use Rattle.machine_model.specs.State.Machine.{Machine}
use Rattle.machine_laws.specs.HistoryMoments.{moments_of}
use Rattle.machine_laws.proofs.Histories.MomentLemmas.{history_is_run}
use Rattle.machine_laws.proofs.Stepping.EveryStepLemmas.{every_cause_keeps}
use Rattle.noninterference_laws.specs.Causes.{HistoriesKeepOthers, OthersAt}
use Rattle.noninterference_laws.proofs.StepLemmas.{all_keep}

run_keeps : (start : Machine) (moments : List Moment) → Matched start → IsRun start moments → (i : ℕ) (moment : Moment)
    → slice_get moments i ≡ Some moment → OthersAt moment.cause (state_at start moments i) moment.machine
unfolding IsRun state_at
run_keeps start [] h is i moment there = absurd (none-some moment there)
run_keeps start (first ∷ moments) h is zero moment there =
    subst (λ (x : Moment). OthersAt x.cause start x.machine) (same_Some first moment there)
    (subst (OthersAt first.cause start) (sym is.0) (all_keep first.cause start h))
run_keeps start (first ∷ moments) h is (suc i) moment there =
    run_keeps first.machine moments (subst Matched (sym is.0) (every_cause_keeps first.cause start h)) is.1 i moment there

pub histories_keep : HistoriesKeepOthers
histories_keep events limit start h =
    run_keeps start (moments_of events limit start) h (history_is_run events limit start)
