use Rattle.std.proofs.Common.{◌≡◌, ◌<◌, ◌++◌, List, Some, true, refl, sym, ap, ◌∙◌, arith, length}
use Rattle.std.specs.Prelude.{nat_eq, set}
use Rattle.std.proofs.lemmas.Option.{slice_get_within}
use Rattle.xk_base.specs.declared.records.Rec.{Rec}
use Rattle.xk_base.specs.Tables.Counting.{put_at}
use Rattle.machine_model.specs.Stepping.Step.{Recorded}
use Rattle.xk_kernel.specs.State.{machine_of}
use Rattle.xk_kernel.specs.Stepping.{event_done}
use Rattle.order_model.specs.Moves.{Asked, Point, bytes_of}
use Rattle.order_model.specs.Asking.{asked_of, came_of}
use Rattle.order_model.specs.Exits.{kept_ends}
use Rattle.order_model.proofs.ExitLemmas.{exits_on-told}
use Rattle.order_model.proofs.MoveLemmas.{came_set, may_come_there}
use Rattle.order_player.specs.Runs.{point_of}
use Rattle.order_player.specs.Steps.{Told, told_in, told_on}
use Rattle.order_player.proofs.MoveLemmas.{once_leads, point_at}
use Rattle.order_player.proofs.moves.play_once.Goals as goal

pub event_of-requires : goal.event_of-requires
event_of-requires g c =
    let p : Point = point_of g.W.SwapStore c.args.kernel.now c.args.trail.now in
    let may = may_come_there (asked_of c.args.orders.now) p c.args.number c.requires.leads in
    slice_get_within c.args.orders.now.once.items c.args.number may.event may.its

pub mark-requires : goal.mark-requires
mark-requires g c =
    let p : Point = point_of g.W.SwapStore c.args.kernel.now c.args.trail.now in
    let may = may_come_there (asked_of c.args.orders.now) p c.args.number c.requires.leads in
    let within = slice_get_within c.args.orders.now.once.items c.args.number may.event may.its in
    let same : length c.push_told.new.trail.came.items ≡ length c.args.trail.now.came.items =
    λ i. length (c.push_told.ensures.moves.came i).items in
    omega (arith, within, same, c.requires.all)

pub returns-clause-leads : goal.returns-clause-leads
returns-clause-leads g c =
    let asked : Asked = asked_of c.args.orders.now in
    let p : Point = point_of g.W.SwapStore c.args.kernel.now c.args.trail.now in
    let may = may_come_there asked p c.args.number c.requires.leads in
    let within = slice_get_within c.args.orders.now.once.items c.args.number may.event may.its in
    let low : c.args.number < length c.args.trail.now.came.items = omega (arith, within, c.requires.all) in
    let done : Recorded = event_done c.event_of.result p.state in
    let does = c.event_start.ensures.does in
    let told : Told = told_in c.args.trail.now in
    let more = c.in-Ok.ensures.told ∙ ap (λ (rs : List Rec). told_on asked.exits told rs) (c.last.ensures ∙ does.records) in
    let exits = exits_on-told told.ends (kept_ends asked.exits done.records) in
    let came : came_of c.mark.new.came.items ≡ put_at nat_eq p.came c.args.number true =
    ap came_of (c.mark.ensures ∙ (λ i. set (c.push_told.ensures.moves.came i).items c.args.number true)) ∙ (λ i q. came_set c.args.trail.now.came.items c.args.number low q i) in
    let count = c.push_told.ensures.moves.preempted in
    once_leads asked p c.args.number c.event_of.result done c.event_of.ensures refl c.requires.leads
    ∙ ((λ i. Some (record { state = sym does.machine i; console = p.console ++ bytes_of done.records; came = sym came i; exits = exits i; preempted = sym count i }))
    ∙ ap (λ (t : Told). Some (point_at (machine_of g.W.SwapStore.held c.event_start.new.self) t (came_of c.mark.new.came.items) c.push_told.new.trail.preempted)) (sym more))
