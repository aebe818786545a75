use Rattle.std.proofs.Common.{◌≡◌, ◌++◌, map}
use Rattle.std.specs.List.{range_with_len}
use Rattle.boot_plan.specs.FirstPages.{sections_pages, zero_page}
use Rattle.boot_plan.proofs.pages.process_pages.Given as goal

abbrev pub invariant-loop-i : goal.invariant-loop-i
invariant-loop-i l = l.rows ≡ sections_pages l.process.load l.process.sections ++ map zero_page (range_with_len 0x7FFF8 l.i)
