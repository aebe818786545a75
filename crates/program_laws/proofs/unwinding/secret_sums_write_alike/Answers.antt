use Rattle.program_laws.proofs.UnwindingLemmas.{sums_write_alike}
use Rattle.program_laws.proofs.unwinding.secret_sums_write_alike.Goals as goal

-- src/unwinding.rt
pub returns : goal.returns
returns c = sums_write_alike
