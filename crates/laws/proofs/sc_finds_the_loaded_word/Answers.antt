use Rattle.machine_laws.specs.HistoryMoments.{moments_of}
use Rattle.machine_laws.proofs.Histories.MomentLemmas.{history_is_run}
use Rattle.laws.proofs.LoadedLemmas.{every_sc_finds_its_word}
use Rattle.laws.proofs.sc_finds_the_loaded_word.Goals as goal

-- src/lib.rt
pub returns-clause-runs : goal.returns-clause-runs
returns-clause-runs c = every_sc_finds_its_word

pub returns-clause-histories : goal.returns-clause-histories
returns-clause-histories c events limit start i moment r there succeeds =
    every_sc_finds_its_word start (moments_of events limit start) i moment r (history_is_run events limit start) there succeeds
