use Rattle.std.proofs.Common.{arith}
use Rattle.event_text.proofs.HeldLemmas.{first_none}
use Rattle.event_text.proofs.reader.EventReader.new.Goals as goal

pub invariant_of-result : goal.invariant_of-result
invariant_of-result c = record { lines_within = omega arith; start_within = omega arith; one_line = rw c.new.ensures first_none }
