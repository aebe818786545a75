use Rattle.std.proofs.Common.{sym, append-nil}
use Rattle.order_model.specs.Asking.{asked_of}
use Rattle.order_model.specs.Choosing.{comes_at}
use Rattle.order_model.proofs.ChoiceLemmas.{next_listed}
use Rattle.order_model.specs.declared.choices.Choice.TheVariants.{Comes}
use Rattle.xk_base.specs.Tables.Counting.{listed_below}
use Rattle.order_model.proofs.choices.add_events.Goals as goal

pub loop-number-init : goal.loop-number-init
unfolding listed_below
loop-number-init c p stand = sym (append-nil c.args.choices.now.items)

pub loop-number-preserved : goal.loop-number-preserved
loop-number-preserved c p stand =
    next_listed Comes (comes_at (asked_of c.args.orders.now) p) c.loop-number.number c.args.choices.now.items c.loop-number.choices.items c.add_event.new.choices.items
    (c.loop-number.invariant p stand) (c.in_ok-add_event.ensures p stand)
