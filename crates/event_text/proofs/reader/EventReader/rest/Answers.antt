use Rattle.std.proofs.Common.{◌∙◌, ap}
use Rattle.event_text.specs.Held.{Reader, front_of}
use Rattle.event_text.proofs.HeldLemmas.{front_within}
use Rattle.event_text.proofs.reader.EventReader.rest.Goals as goal

pub returns-then-self-clause-within : goal.returns-then-self-clause-within
returns-then-self-clause-within c = λ unknown.
    let r = c.self.inside in
    let v : Reader = record { lines_done = r.lines_done; start = r.start; held = r.held.items; finished = r.finished } in
    let within = front_within v c.self.invariant.one_line c.self.invariant.start_within (ap front_of c.self.view_is ∙ unknown) in
    rw (← c.self.view_is) within

pub returns-else-self-clause-within : goal.returns-else-self-clause-within
returns-else-self-clause-within c = λ unknown.
    let r = c.self.inside in
    let v : Reader = record { lines_done = r.lines_done; start = r.start; held = r.held.items; finished = r.finished } in
    let within = front_within v c.self.invariant.one_line c.self.invariant.start_within (ap front_of c.self.view_is ∙ unknown) in
    rw (← c.self.view_is) within
