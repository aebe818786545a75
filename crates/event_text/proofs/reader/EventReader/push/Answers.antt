use Rattle.event_text.specs.Held.{Reader}
use Rattle.event_text.proofs.HeldLemmas.{room_one_line}
use Rattle.event_text.proofs.reader.EventReader.push.Goals as goal

pub invariant_of-self : goal.invariant_of-self
invariant_of-self c =
    let r = c.self.inside in
    let room = rw (← c.self.view_is) at c.requires in
    let v : Reader = record { lines_done = r.lines_done; start = r.start; held = r.held.items; finished = r.finished } in
    record {
      lines_within = c.self.invariant.lines_within;
      start_within = c.self.invariant.start_within;
      one_line = rw c.push.ensures.items (room_one_line v c.args.byte c.self.invariant.one_line room);
    }
