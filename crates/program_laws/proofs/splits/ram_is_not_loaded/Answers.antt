use Rattle.program_laws.proofs.Splitting.SplitLemmas.{ram_loads_alike}
use Rattle.program_laws.proofs.splits.ram_is_not_loaded.Goals as goal

-- src/splits.rt
pub returns : goal.returns
returns c = ram_loads_alike
