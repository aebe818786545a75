use Rattle.std.proofs.Common.{◌≡◌, ◌<◌, true, length, ap, refl, ◌∙◌, arith}
use Rattle.std.specs.declared.alloc.Global.{Global}
use Rattle.std.specs.declared.vec.Vec.{Vec}
use Rattle.xk_base.specs.Tables.Circle.{IsPid, IsTid}
use Rattle.thread_table.specs.declared.tids.Tids.{Tids}
use Rattle.thread_table.specs.Shown.{threads_of}
use Rattle.thread_table.specs.TidSets.{marked_sets}
use Rattle.thread_table.proofs.MarkLemmas.{noted_is, noted_marked}
use Rattle.thread_table.proofs.PlaceLemmas.{id_bounds, thread_map_valid}
use Rattle.thread_table.proofs.table.Threads.mark_lent.Goals as goal

pub invariant_of-self-clause-marked : goal.invariant_of-self-clause-marked
unfolding threads_of
invariant_of-self-clause-marked c =
    let t = c.args.self.now in
    let s = c.settle_last.new.self in
    let id = c.args.id in
    let bounds : (IsPid t.procs id.pid.0) × (IsTid id.tid.0) = id_bounds t.procs id (thread_map_valid t.procs t.by_place.items id c.requires) in
    let pid : IsPid s.procs id.pid.0 = (bounds.0.0, omega (arith, bounds.0.1, c.settle_last.ensures.count)) in
    let sets : length s.ready.items ≡ s.procs = omega (arith, s.sets, s.ready.ok.0) in
    noted_marked s.procs s.ready.items s.by_place.items id pid bounds.1 sets s.marked c.row_of-row.result c.row_of-row.ensures c.index.result.now
    c.with.result c.index.ensures true c.with.ensures (λ ready. refl)

pub returns-clause-sets : goal.returns-clause-sets
unfolding threads_of
returns-clause-sets c =
    let t = c.args.self.now in
    let s = c.settle_last.new.self in
    let id = c.args.id in
    let bounds : (IsPid t.procs id.pid.0) × (IsTid id.tid.0) = id_bounds t.procs id (thread_map_valid t.procs t.by_place.items id c.requires) in
    let inside : c.row_of-row.result < length s.ready.items =
    omega (arith, c.row_of-row.ensures, bounds.0.0, bounds.0.1, c.settle_last.ensures.count, s.sets, s.ready.ok.0) in
    noted_is s.ready id c.row_of-row.result c.index.result.now c.with.result true c.row_of-row.ensures inside c.index.ensures c.with.ensures
    ∙ ap (λ (sets : Vec Tids Global). marked_sets sets id true) c.settle_last.ensures.sets
