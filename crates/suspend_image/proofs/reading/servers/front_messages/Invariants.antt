use Rattle.std.proofs.Common.{◌≡◌, ◌-◌}
use Rattle.suspend_image.specs.Reading.{items_at}
use Rattle.suspend_image.specs.Rows.{message_at}
use Rattle.suspend_image.proofs.RowLoopLemmas.{with_front}
use Rattle.suspend_image.proofs.reading.servers.front_messages.Given as goal

abbrev pub invariant-loop : goal.invariant-loop
invariant-loop l = with_front l.rows (items_at (message_at l.n) (l.count - l.counter) l.rest) ≡ items_at (message_at l.n) l.count l.bytes
