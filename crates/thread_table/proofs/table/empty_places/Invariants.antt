use Rattle.std.proofs.Common.{◌≡◌, ◌≤◌, replicate, None, vec_capacity}
use Rattle.thread_table.proofs.table.empty_places.Given as goal

abbrev pub invariant-loop-place : goal.invariant-loop-place
invariant-loop-place l = record {
  made : l.threads.items ≡ replicate l._place None;
  room : l.places ≤ vec_capacity l.threads;
}
