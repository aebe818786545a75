-- Calls on images that differ in the pages of a group alone end alike.
use Rattle.program_laws.proofs.ExchangedCallLemmas.{exchanged_end_alike}
use Rattle.program_laws.proofs.exchanged.exchanged_calls_end_alike.Goals as goal

pub returns : goal.returns
returns c = exchanged_end_alike
