use Rattle.xk_kernel.proofs.Starting.StartPageLemmas.{start_pages}
use Rattle.program_laws.proofs.starts.start_has_the_planned_pages.Goals as goal

-- src/moments.rt
pub returns : goal.returns
returns c = start_pages
