use Rattle.program_laws.proofs.ExchangedStartLemmas.{starts_alike}
use Rattle.program_laws.proofs.services.exchanged_starts_are_alike.Goals as goal

-- src/services.rt
pub returns : goal.returns
returns c = starts_alike
