use Rattle.std.proofs.Common.{◌≡◌, ◌-◌}
use Rattle.suspend_image.specs.Reading.{items_at}
use Rattle.suspend_image.specs.Rows.{proc_at}
use Rattle.suspend_image.proofs.RowLoopLemmas.{with_front}
use Rattle.suspend_image.proofs.reading.procs.front_procs.Given as goal

abbrev pub invariant-loop : goal.invariant-loop
invariant-loop l = with_front l.rows (items_at proc_at (l.n - l.counter) l.rest) ≡ items_at proc_at l.n l.bytes
