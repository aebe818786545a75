use Rattle.std.proofs.Common.{◌≡◌, ◌-◌, None}
use Rattle.suspend_image.specs.Reading.{rows_at}
use Rattle.suspend_image.specs.Rows.{page_at}
use Rattle.snapshot_rows.specs.Order.{page_key}
use Rattle.suspend_image.proofs.RowLoopLemmas.{with_front}
use Rattle.suspend_image.proofs.reading.pages.front_pages.Given as goal

abbrev pub invariant-loop : goal.invariant-loop
invariant-loop l = with_front l.rows (rows_at (page_at l.size l.n) page_key (l.count - l.counter) l.before l.rest) ≡ rows_at (page_at l.size l.n) page_key l.count None l.bytes
