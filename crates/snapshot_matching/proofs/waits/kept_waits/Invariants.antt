use Rattle.std.proofs.Common.{◌≡◌}
use Rattle.std.specs.Prelude.{take}
use Rattle.std.specs.List.{flat_map}
use Rattle.snapshot_matching.specs.WaitParts.{thread_wait}
use Rattle.snapshot_matching.proofs.waits.kept_waits.Given as goal

abbrev pub invariant-loop-thread : goal.invariant-loop-thread
invariant-loop-thread l = l.waits.items ≡ flat_map thread_wait (take l.thread-index l.threads)
