use Rattle.std.proofs.Common.{◌∙◌, refl}
use Rattle.xk_kernel.proofs.Memory.KnownLemmas.{stays_trusted}
use Rattle.order_model.specs.Moves.{Point}
use Rattle.order_model.specs.Asking.{asked_of}
use Rattle.order_player.specs.Runs.{point_of}
use Rattle.order_player.proofs.KeptLemmas.{kept_after, kept_same}
use Rattle.order_player.proofs.OrderLemmas.{all_led, later_lead, next_leads, reached_on, reached_start}
use Rattle.order_player.proofs.moves.play_order.Goals as goal

pub play_move-requires-clause-trusted : goal.play_move-requires-clause-trusted
play_move-requires-clause-trusted g c =
    stays_trusted g.W.SwapStore c.args.kernel.now c.loop-next.kernel c.loop-next.invariant.keeps ∙ c.requires.trusted

pub play_move-requires-clause-leads : goal.play_move-requires-clause-leads
play_move-requires-clause-leads g c =
    let start : Point = point_of g.W.SwapStore c.args.kernel.now c.args.trail.now in
    let p : Point = point_of g.W.SwapStore c.loop-next.kernel c.loop-next.trail in
    next_leads (asked_of c.args.orders.now) start p c.args.order.now c.loop-next.next-index c.loop-next.invariant.leads _ c.loop-next-test.true c.requires.leads

pub loop-next-preserved : goal.loop-next-preserved
loop-next-preserved g c =
    let start : Point = point_of g.W.SwapStore c.args.kernel.now c.args.trail.now in
    let p : Point = point_of g.W.SwapStore c.loop-next.kernel c.loop-next.trail in
    let next : Point = point_of g.W.SwapStore c.play_move.new.kernel c.play_move.new.trail in
    record {
      leads = later_lead (asked_of c.args.orders.now) start p c.args.order.now c.loop-next.next-index c.loop-next.invariant.leads _ next c.loop-next-test.true
          c.in_ok-play_move.ensures.leads;
      reached = reached_on (asked_of c.args.orders.now) start p next _ c.loop-next.invariant.reached c.in_ok-play_move.ensures.leads;
      all = c.play_move.ensures.all ∙ c.loop-next.invariant.all;
      sound = c.play_move.ensures.sound;
      usable = c.in_ok-play_move.ensures.usable;
      keeps = kept_after g.W.SwapStore c.args.kernel.now c.loop-next.kernel c.play_move.new.kernel c.loop-next.invariant.keeps c.play_move.ensures.keeps;
    }

pub returns-clause-leads : goal.returns-clause-leads
returns-clause-leads g c =
    let start : Point = point_of g.W.SwapStore c.args.kernel.now c.args.trail.now in
    let p : Point = point_of g.W.SwapStore c.loop-next.kernel c.loop-next.trail in
    all_led (asked_of c.args.orders.now) start p c.args.order.now c.loop-next.next-index c.loop-next.invariant.leads c.loop-next-test.false

pub loop-next-init : goal.loop-next-init
loop-next-init g c =
    let start : Point = point_of g.W.SwapStore c.args.kernel.now c.args.trail.now in
    record {
      leads = refl;
      reached = reached_start (asked_of c.args.orders.now) start;
      all = refl;
      sound = c.requires.sound;
      usable = c.requires.usable;
      keeps = kept_same g.W.SwapStore c.args.kernel.now;
    }
