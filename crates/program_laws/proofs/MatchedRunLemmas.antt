-- Each state of each run of a command is matched.
use Rattle.std.proofs.Common.{ℕ}
use Rattle.machine_model.specs.Runs.Matched.{Matched}
use Rattle.machine_model.specs.Runs.Moments.{state_at}
use Rattle.machine_laws.proofs.Histories.MomentLemmas.{history_matched, moments_matched}
use Rattle.xous_program.specs.Outcome.Said.{IsInLimits, Run, Starts, history_in, moments_in}
use Rattle.xous_program.specs.Outcome.Sides.{Told}
use Rattle.xous_program.specs.Words.{Command}
use Rattle.xous_program.proofs.Headline.MatchedStartLemmas.{started_matched}

pub moments_of_runs_matched : (file : Told) (command : Command) (run : Run) → IsInLimits command → Starts file command run
    → (i : ℕ) → Matched (state_at run.booted.machine (moments_in run) i)
moments_of_runs_matched file command run limits starts i =
    moments_matched run.input.events run.limit run.booted.machine (started_matched file command run limits starts) i

pub runs_matched : (file : Told) (command : Command) (run : Run) → IsInLimits command → Starts file command run → Matched (history_in run).machine
runs_matched file command run limits starts =
    history_matched run.input.events run.limit run.booted.machine (started_matched file command run limits starts)
