use Rattle.std.proofs.Common.{◌∙◌, Err, ap, length, subst, sym}
use Rattle.order_model.specs.declared.orders.Trail.{Trail}
use Rattle.order_model.specs.Asking.{asked_of}
use Rattle.order_model.specs.Choosing.{IsSeen}
use Rattle.order_search.proofs.FaultLemmas.{timer_there}
use Rattle.order_search.proofs.StandLemmas.{stands_on}
use Rattle.order_search.specs.declared.subject.Subject.{Subject}
use Rattle.order_search.specs.Quests.{start_of}
use Rattle.order_search.proofs.quest.Quest.look.Goals as goal

pub see-requires-clause-few : goal.see-requires-clause-few
see-requires-clause-few c = c.rows_there.new.self.few

pub see-requires-clause-came : goal.see-requires-clause-came
see-requires-clause-came c =
    ap (λ (t : Trail). length t.came.items) c.rows_there.ensures.trail
    ∙ (c.requires.came ∙ ap (λ (s : Subject). length s.orders.once.items) (sym c.rows_there.ensures.subject))

pub returns-in-Ok-clause-sight : goal.returns-in-Ok-clause-sight
returns-in-Ok-clause-sight c p arrives =
    let s : Subject = c.args.self.now.subject in
    subst (λ (x : Subject). IsSeen (asked_of x.orders) p c.in-Ok.sight.choices.items c.in-Ok.sight.note) c.rows_there.ensures.subject
    (c.in-Ok.ensures.seen p
    (stands_on (asked_of s.orders) (start_of s) c.args.path.now p _ c.args.run.now.trail c.rows_there.new.run.trail c.in_ok-state.state arrives
    c.requires.arrives c.in_ok-state.ensures.rows c.rows_there.ensures.trail))

pub returns-clause-fault : goal.returns-clause-fault
returns-clause-fault c =
    let s : Subject = c.args.self.now.subject in
    let stand = stands_on (asked_of s.orders) (start_of s) c.args.path.now _ _ c.args.run.now.trail c.rows_there.new.run.trail c.in_ok-state.state
    c.requires.arrives c.requires.arrives c.in_ok-state.ensures.rows c.rows_there.ensures.trail in
    timer_there s c.rows_there.new.self.subject c.args.path.now _ c.rows_there.ensures.subject c.requires.arrives
    (c.see.ensures.timer _ stand (c.in-Err-Timer.is ∙ (λ i. Err (c.in-Err-Timer.field-0-is i))))
