use Rattle.ledger_model.proofs.Stepping.MakingLemmas.{make_console_lawful}
use Rattle.ledger_model.proofs.lawful_laws.lawful_after_make_console.Goals as goal

pub returns : goal.returns
returns c = make_console_lawful
