use Rattle.std.proofs.Common.{◌≡◌, ◌*◌, ◌≤◌, take, map, length, sum_by}
use Rattle.boot_plan.specs.FirstPages.{process_plan}
use Rattle.boot_plan.proofs.checks.all_first_pages.Given as goal

abbrev pub invariant-loop-process : goal.invariant-loop-process
invariant-loop-process l = record {
  count : l.count ≡ sum_by (λ p. length p.pages) (map process_plan (take l.process-index l.processes));
  few : l.count ≤ 33554441 * l.process-index;
}
