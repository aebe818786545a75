use Rattle.std.proofs.Common.{◌≡◌, ◌++◌, map}
use Rattle.std.specs.List.{range_with_len}
use Rattle.boot_plan.specs.FirstPages.{section_page}
use Rattle.boot_plan.proofs.pages.push_section.Given as goal

abbrev pub invariant-loop-i : goal.invariant-loop-i
invariant-loop-i l = l.rows ≡ l.fn.rows ++ map (section_page l.offset l.section) (range_with_len 0 l.i)
