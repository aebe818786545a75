use Rattle.resume_path.proofs.Homes.PagesBackLemmas.{ArePagesTo}
use Rattle.resume_path.proofs.pages.resume_pages.Given as goal

abbrev pub invariant-rows : goal.invariant-rows
invariant-rows g l =
    ArePagesTo g.W.SwapStore l.file l.state l.fn.mem l.mem
    l.row-index
