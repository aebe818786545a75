use Rattle.std.proofs.Common.{◌≡◌, ◌-◌, None}
use Rattle.suspend_image.specs.Reading.{rows_at}
use Rattle.suspend_image.specs.Rows.{orphan_at}
use Rattle.snapshot_rows.specs.Order.{orphan_key}
use Rattle.suspend_image.proofs.RowLoopLemmas.{with_front}
use Rattle.suspend_image.proofs.reading.pages.front_orphans.Given as goal

abbrev pub invariant-loop : goal.invariant-loop
invariant-loop l = with_front l.rows (rows_at (orphan_at l.size l.n) orphan_key (l.count - l.counter) l.before l.rest) ≡ rows_at (orphan_at l.size l.n) orphan_key l.count None l.bytes
