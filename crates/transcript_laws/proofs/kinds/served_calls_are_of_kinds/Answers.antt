use Rattle.transcript_laws.proofs.CallKindLemmas.{calls_of_kinds}
use Rattle.transcript_laws.proofs.kinds.served_calls_are_of_kinds.Goals as goal

-- src/kinds.rt
pub returns : goal.returns
returns c = calls_of_kinds
