use Rattle.order_model.specs.Asking.{asked_of}
use Rattle.order_search.proofs.ChoiceLemmas.{comes_at_once, goes_at, preempts_at}
use Rattle.order_search.proofs.edges.choose.Goals as goal

pub play_thread-requires-clause-ready : goal.play_thread-requires-clause-ready
play_thread-requires-clause-ready c = (goes_at (asked_of c.args.orders.now) _ c.args.choice c.in-Goes.who c.requires.may c.in-Goes.is).ready

pub play_thread-requires-clause-left : goal.play_thread-requires-clause-left
play_thread-requires-clause-left c = (goes_at (asked_of c.args.orders.now) _ c.args.choice c.in-Goes.who c.requires.may c.in-Goes.is).left

pub make-requires-clause-may : goal.make-requires-clause-may
make-requires-clause-may c =
    preempts_at (asked_of c.args.orders.now) _ c.args.choice c.in-Preempts.who c.in-Preempts.steps c.requires.may c.in-Preempts.is

pub make-requires-in-Comes-clause-may : goal.make-requires-in-Comes-clause-may
make-requires-in-Comes-clause-may c = comes_at_once (asked_of c.args.orders.now) _ c.args.choice c.in-Comes.number c.requires.may c.in-Comes.is
