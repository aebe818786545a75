use Rattle.std.proofs.Common.{◌≡◌, false, None, length, arith}
use Rattle.xk_base.specs.Tables.Circle.{IsPid, IsTid, thread_ids}
use Rattle.thread_table.specs.Shown.{threads_of}
use Rattle.thread_table.proofs.MarkLemmas.{written_marked}
use Rattle.thread_table.proofs.PlaceLemmas.{id_bounds, thread_map_valid, thread_map_write}
use Rattle.thread_table.proofs.table.Threads.end.Goals as goal

pub returns-clause-after : goal.returns-clause-after
unfolding threads_of
returns-clause-after c =
    let n = c.args.self.now.procs in
    let size : length c.args.self.now.by_place.items ≡ thread_ids n = omega arith in
    thread_map_write n c.args.self.now.by_place.items c.args.id c.place_of.result None c.place_of.ensures size
    (thread_map_valid n c.args.self.now.by_place.items c.args.id c.requires)

pub invariant_of-self-clause-marked : goal.invariant_of-self-clause-marked
unfolding threads_of
invariant_of-self-clause-marked c =
    let t = c.args.self.now in
    let sets : length t.ready.items ≡ t.procs = omega arith in
    let size : length t.by_place.items ≡ thread_ids t.procs = omega arith in
    let bounds : (IsPid t.procs c.args.id.pid.0) × (IsTid c.args.id.tid.0) =
    id_bounds t.procs c.args.id (thread_map_valid t.procs t.by_place.items c.args.id c.requires) in
    written_marked t.procs t.ready.items t.by_place.items c.args.id bounds.0 bounds.1 sets t.marked c.row_of-row.result c.row_of-row.ensures
    c.index.result.now c.without.result c.index.ensures false c.without.ensures c.place_of.result None c.place_of.ensures size (λ ready. ready)
