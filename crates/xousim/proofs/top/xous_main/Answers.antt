use Rattle.xous_program.specs.Words.{command_of}
use Rattle.xousim.proofs.HeadlineLemmas.{does_headline}
use Rattle.xousim.proofs.top.xous_main.Goals as goal

pub returns-clause-ends : goal.returns-clause-ends
returns-clause-ends g c =
    let does = c.run_program.ensures.does in
    (does.ends, does_headline g.W.SwapStore (command_of c.args.words.now) _ _ does)
