use Rattle.std.proofs.Common.{arith, ◌+◌, ◌<◌, ◌≤◌, length}
use Rattle.event_text.proofs.HeldLemmas.{front_good, first_none}
use Rattle.event_text.proofs.reader.EventReader.pass_line.Goals as goal

pub invariant_of-self : goal.invariant_of-self
invariant_of-self c =
    let r = c.self.inside in
    let good = rw (← c.self.view_is) at c.requires in
    let within = front_good (record { lines_done = r.lines_done; start = r.start; held = r.held.items; finished = r.finished }) c.self.invariant.one_line good in
    let some : 0 < length r.held.items = within.some in
    let inside : r.start + length r.held.items ≤ 1073741824 = within.within in
    record { lines_within = omega arith; start_within = omega arith; one_line = rw c.clear.ensures first_none }
