use Rattle.std.proofs.Common.{◌≡◌, ◌+◌, ◌*◌, ◌≤◌, take, sum_by}
use Rattle.boot_plan.specs.Sections.{page_count}
use Rattle.boot_plan.proofs.checks.first_pages.Given as goal

abbrev pub invariant-loop-section : goal.invariant-loop-section
invariant-loop-section l = record {
  count : l.count ≡ sum_by (λ s. page_count s.size) (take l.section-index l.section-items) + 9;
  few : l.count ≤ 1048576 * l.section-index + 9;
}
