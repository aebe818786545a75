use Rattle.std.proofs.Common.{◌≡◌, ◌-◌, None}
use Rattle.suspend_image.specs.Reading.{rows_at}
use Rattle.suspend_image.specs.Rows.{claim_at}
use Rattle.snapshot_rows.specs.Order.{claim_key}
use Rattle.suspend_image.proofs.RowLoopLemmas.{with_front}
use Rattle.suspend_image.proofs.reading.claims.front_claims.Given as goal

abbrev pub invariant-loop : goal.invariant-loop
invariant-loop l = with_front l.rows (rows_at (claim_at l.n) claim_key (l.count - l.counter) l.before l.rest) ≡ rows_at (claim_at l.n) claim_key l.count None l.bytes
