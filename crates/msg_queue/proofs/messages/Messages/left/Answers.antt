use Rattle.std.proofs.Common.{◌≡◌, List, length, ap, sym, ◌∙◌, arith}
use Rattle.xk_base.specs.declared.messages.Message.{Message}
use Rattle.msg_queue.specs.Chains.{chain}
use Rattle.msg_queue.proofs.ListingLemmas.{length-listed}
use Rattle.msg_queue.proofs.messages.Messages.left.Goals as goal

pub returns-clause-many : goal.returns-clause-many
returns-clause-many c =
    c.length_of.ensures ∙ sym (length-listed c.self.inside.slots.now c.self.inside.words.now c.self.inside.slot c.self.invariant)
    ∙ ap (λ (ms : List Message). length ms) c.self.view_is

pub returns-clause-few : goal.returns-clause-few
returns-clause-few c =
    let same : length c.args.self.now ≡ length (chain c.self.inside.words.now c.self.inside.slot) = sym (ap (λ (ms : List Message). length ms) c.self.view_is)
    ∙ length-listed c.self.inside.slots.now c.self.inside.words.now c.self.inside.slot c.self.invariant in
    let few = c.self.invariant.few in
    omega arith
