-- A run that files give is lawful, and every call has its headline.
use Rattle.std.proofs.Common.{Option, None, Some, sym}
use Rattle.loan_laws.proofs.Fates.CauseFateLemmas.{all_have_fates}
use Rattle.loan_laws.proofs.Spans.RunSpanLemmas.{spans_hold}
use Rattle.machine_laws.proofs.Histories.MomentLemmas.{history_is_run, history_last, moments_matched}
use Rattle.machine_laws.proofs.Histories.RecordLemmas.{history_tells}
use Rattle.machine_laws.proofs.Stepping.EveryStepLemmas.{every_cause_keeps}
use Rattle.machine_model.specs.Runs.Matched.{Matched}
use Rattle.machine_model.specs.State.Machine.{Machine}
use Rattle.xk_ports.specs.declared.store.SwapStore.{Ghosts as SwapStore}
use Rattle.xous_program.specs.Headline.{Headline, IsLawful}
use Rattle.xous_program.specs.Outcome.Does.{DoesCommand}
use Rattle.xous_program.specs.Outcome.Said.{Run, moments_in}
use Rattle.xous_program.specs.Outcome.Sides.{Call}
use Rattle.xous_program.specs.Words.{Command}
use Rattle.xous_program.proofs.Headline.CommandLemmas.{command_three}
use Rattle.xous_program.proofs.Headline.MatchedStartLemmas.{started_matched}
use Rattle.xous_program.proofs.Headline.RamLemmas.{ends_in_ram}

run_lawful : (run : Run) → Matched run.booted.machine → IsLawful run
run_lawful run matched =
    let events = run.input.events in
    let start : Machine = run.booted.machine in
    record {
      matched = moments_matched events run.limit start matched;
      spans = λ number. spans_hold every_cause_keeps all_have_fates start (moments_in run) number matched (history_is_run events run.limit start);
      records = history_tells events run.limit start;
      last = sym (history_last events run.limit start);
    }

pub does_headline : {W : Type 0} (S : SwapStore W) (command : Option Command) (call : Call) (store : W) → DoesCommand S command call store
    → Headline S command call store
does_headline S None call store does = (does.ends.ended, does.ends.unwritten)
does_headline S (Some command) call store does = (
  command_three command call does.limits does.ends,
  λ run given. run_lawful run (started_matched call.host.files command run does.limits given.starts),
  ends_in_ram S command call store does.ends does.in_ram,
)
