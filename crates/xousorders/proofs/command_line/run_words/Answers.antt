use Rattle.std.proofs.Common.{inr}
use Rattle.xousorders.proofs.CommandLineLemmas.{once_askable}
use Rattle.xousorders.proofs.command_line.run_words.Goals as goal

pub run-requires : goal.run-requires
run-requires g c =
    let asked = c.in-Ok.ensures.ask.once in
    record { few = asked.few; askable = once_askable c.in-Ok.ensures.args c.in-Ok.words.once.items asked.all }

pub returns-in-Ok : goal.returns-in-Ok
returns-in-Ok g c = inr (record { words = c.in-Ok.words; spells = c.in-Ok.ensures; ends = c.run.ensures })
