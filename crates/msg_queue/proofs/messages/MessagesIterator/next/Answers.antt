use Rattle.std.proofs.Common.{◌≡◌, ◌<◌, List, [], length, get_or, sym, ◌∙◌, arith}
use Rattle.xk_base.specs.declared.messages.Message.{Message}
use Rattle.msg_queue.specs.Listings.{listed}
use Rattle.msg_queue.proofs.ListingLemmas.{fewer_left, first_yielded, listed_end, step}
use Rattle.msg_queue.proofs.messages.MessagesIterator.next.Goals as goal

pub returns-then-self-clause-steps : goal.returns-then-self-clause-steps
returns-then-self-clause-steps c =
    let a = c.self.inside in
    let end : c.args.self.now ≡ [] = sym c.self.view_is ∙ listed_end a.slots.now a.words.now a.slot c.if-self.true in
    (end, end)

pub bounds-self-inside-self-inside : goal.bounds-self-inside-self-inside
bounds-self-inside-self-inside c =
    let a = c.self.inside in
    let low : c.self.inside.slot < 128 = (step a.slots.now a.words.now a.slot c.self.invariant c.if-self.false).low in
    let many : length c.self.inside.words.now ≡ 128 = c.self.invariant.words_many in
    omega arith

pub invariant_of-self : goal.invariant_of-self
invariant_of-self c =
    let a = c.self.inside in
    (step a.slots.now a.words.now a.slot c.self.invariant c.if-self.false).rest

pub returns-clause-steps : goal.returns-clause-steps
returns-clause-steps c =
    let a = c.self.inside in
    let here = step a.slots.now a.words.now a.slot c.self.invariant c.if-self.false in
    first_yielded c.message_in-message.result c.args.self.now (listed a.slots.now a.words.now (get_or a.words.now a.slot 0)) here.message
    (c.message_in-message.ensures ∙ here.there) (sym c.self.view_is ∙ here.first)

pub returns-clause-goes : goal.returns-clause-goes
returns-clause-goes c =
    let a = c.self.inside in
    let here = step a.slots.now a.words.now a.slot c.self.invariant c.if-self.false in
    let behind : List Message = listed a.slots.now a.words.now (get_or a.words.now a.slot 0) in
    fewer_left c.message_in-message.result c.args.self.now behind
    (first_yielded c.message_in-message.result c.args.self.now behind here.message (c.message_in-message.ensures ∙ here.there)
    (sym c.self.view_is ∙ here.first))
