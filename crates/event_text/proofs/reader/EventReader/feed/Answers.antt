use Rattle.std.proofs.Common.{arith, ◌≡◌, false}
use Rattle.std.proofs.lemmas.Grind.{common_steps}
use Rattle.event_text.specs.Held.{can_grow}
use Rattle.event_text.proofs.HeldLemmas.{takes_some}
use Rattle.event_text.proofs.reader.EventReader.feed.Goals as goal

pub returns-then-not-can_grow-clause-some : goal.returns-then-not-can_grow-clause-some
returns-then-not-can_grow-clause-some c = λ waiting some.
    let full : can_grow c.loop-byte.self ≡ false = grind (arith, common_steps) in
    takes_some c.args.self.now c.loop-byte.self c.loop-byte.taken c.args.piece.now c.loop-byte.invariant.held c.can_grow.ensures.one_line full waiting.0
