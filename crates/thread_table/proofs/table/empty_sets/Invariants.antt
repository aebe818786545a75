use Rattle.std.proofs.Common.{◌≡◌, ◌≤◌, replicate, vec_capacity}
use Rattle.thread_table.specs.TidSets.{no_tids}
use Rattle.thread_table.proofs.table.empty_sets.Given as goal

abbrev pub invariant-loop-set : goal.invariant-loop-set
invariant-loop-set l = record {
  made : l.sets.items ≡ replicate l._set no_tids;
  room : l.procs ≤ vec_capacity l.sets;
}
