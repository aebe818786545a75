use Rattle.std.proofs.Common.{◌∙◌, List, ap, arith, subst, sym, take_all}
use Rattle.event_text.specs.Spelling.{AreAskable}
use Rattle.order_model.specs.declared.moves.Move.{Move}
use Rattle.order_model.specs.Moves.{events_of}
use Rattle.xk_base.specs.declared.events.Event.{Event}
use Rattle.xousorders.proofs.FileLemmas.{askable_none, moved}
use Rattle.xousorders.proofs.files.events_of.Goals as goal

pub loop-next-init : goal.loop-next-init
loop-next-init c = record {
  events = λ asked same. c.new-events.ensures.items;
  askable = λ once. subst (λ (es : List Event). AreAskable es) (sym c.new-events.ensures.items) askable_none;
}

pub loop-next-preserved : goal.loop-next-preserved
loop-next-preserved c = record {
  events = λ asked same.
      moved asked c.args.order.now c.loop-next.next-index _ c.loop-next.events.items c.add_move.new.events.items c.loop-next-test.true
      (c.loop-next.invariant.events asked same) (c.in_ok-add_move.ensures.events asked same);
  askable = λ once. c.in_ok-add_move.ensures.askable once (c.loop-next.invariant.askable once);
}

pub returns-clause-events : goal.returns-clause-events
returns-clause-events c asked same =
    c.loop-next.invariant.events asked same
    ∙ ap (λ (ms : List Move). events_of asked ms) (take_all c.loop-next.next-index c.args.order.now (omega arith))
