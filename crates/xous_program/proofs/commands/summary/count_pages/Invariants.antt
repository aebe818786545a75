use Rattle.std.proofs.Common.{◌≡◌, length, sum_by, take}
use Rattle.xous_program.proofs.commands.summary.count_pages.Given as goal

-- the pages so far
abbrev pub invariant-loop-process : goal.invariant-loop-process
invariant-loop-process l = record {
  pages : l.pages ≡ sum_by (λ p. length p.pages) (take l.process-index l.processes);
}
