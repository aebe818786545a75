use Rattle.std.proofs.Common.{IsSome, ap, subst, ◌∙◌}
use Rattle.order_model.specs.declared.moves.Move.{Move}
use Rattle.order_model.specs.Moves.{Asked, Point, leads}
use Rattle.order_model.specs.Asking.{asked_of}
use Rattle.order_model.proofs.MoveLemmas.{may_go, same_slice}
use Rattle.order_player.specs.Runs.{point_of}
use Rattle.order_player.proofs.moves.play_move.Goals as goal

pub play_thread-requires-clause-ready : goal.play_thread-requires-clause-ready
play_thread-requires-clause-ready g c =
    let asked : Asked = asked_of c.args.orders.now in
    let p : Point = point_of g.W.SwapStore c.args.kernel.now c.args.trail.now in
    let L : Move → Type 0 = λ move. IsSome (leads asked p move) in
    (may_go asked p c.in-Slice.who c.in-Slice.field-1 (subst L c.in-Slice.is c.requires.leads)).ready

pub play_thread-requires-clause-left : goal.play_thread-requires-clause-left
play_thread-requires-clause-left g c =
    let asked : Asked = asked_of c.args.orders.now in
    let p : Point = point_of g.W.SwapStore c.args.kernel.now c.args.trail.now in
    let L : Move → Type 0 = λ move. IsSome (leads asked p move) in
    (may_go asked p c.in-Slice.who c.in-Slice.field-1 (subst L c.in-Slice.is c.requires.leads)).left

pub returns-in-Ok-clause-leads : goal.returns-in-Ok-clause-leads
returns-in-Ok-clause-leads g c =
    let asked : Asked = asked_of c.args.orders.now in
    let p : Point = point_of g.W.SwapStore c.args.kernel.now c.args.trail.now in
    let new : Point = point_of g.W.SwapStore c.play_thread.new.kernel c.play_thread.new.trail in
    let L : Move → Type 0 = λ move. IsSome (leads asked p move) in
    ap (leads asked p) c.in-Slice.is
    ∙ same_slice asked p new c.in-Slice.who c.in-Slice.field-1 c.in-Ok.field-0 (subst L c.in-Slice.is c.requires.leads) c.in-Ok.ensures.leads
