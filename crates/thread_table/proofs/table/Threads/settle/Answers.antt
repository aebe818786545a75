use Rattle.std.proofs.Common.{◌≡◌, ◌<◌, Some, true, is_some, length, ap, sym, ◌∙◌, arith}
use Rattle.xk_base.specs.Tables.Circle.{IsPid, IsTid, is_thread_id}
use Rattle.thread_table.specs.ThreadMap.{is_ready}
use Rattle.thread_table.specs.Shown.{threads_of}
use Rattle.thread_table.specs.TidSets.{marked_sets, sets_by_state}
use Rattle.thread_table.proofs.MarkLemmas.{noted_is, noted_marked}
use Rattle.thread_table.proofs.PlaceLemmas.{id_bounds, thread_map_read, thread_map_valid}
use Rattle.thread_table.proofs.table.Threads.settle.Goals as goal

pub invariant_of-self-clause-marked : goal.invariant_of-self-clause-marked
unfolding threads_of
invariant_of-self-clause-marked c =
    let t = c.args.self.now in
    let id = c.args.id in
    let there : threads_of t id ≡ Some c.in-Some.thread.now = sym c.in-Some.ensures in
    let valid : is_thread_id t.procs id ≡ true = thread_map_valid t.procs t.by_place.items id (ap is_some there) in
    let bounds : (IsPid t.procs id.pid.0) × (IsTid id.tid.0) = id_bounds t.procs id valid in
    let sets : length t.ready.items ≡ t.procs = omega (arith, t.sets, t.ready.ok.0) in
    noted_marked t.procs t.ready.items t.by_place.items id bounds.0 bounds.1 sets t.marked c.row_of-row.result c.row_of-row.ensures c.index.result.now
    c.with_if.result c.index.ensures c.is_ready-ready.result c.with_if.ensures
    (λ ready. c.is_ready-ready.ensures ∙ sym (ap is_ready (sym (thread_map_read t.procs t.by_place.items id valid) ∙ there)) ∙ ready)

pub returns-in-Some-clause-sets : goal.returns-in-Some-clause-sets
unfolding threads_of
returns-in-Some-clause-sets c =
    let t = c.args.self.now in
    let id = c.args.id in
    let there : threads_of t id ≡ Some c.in-Some.thread.now = sym c.in-Some.ensures in
    let valid : is_thread_id t.procs id ≡ true = thread_map_valid t.procs t.by_place.items id (ap is_some there) in
    let bounds : (IsPid t.procs id.pid.0) × (IsTid id.tid.0) = id_bounds t.procs id valid in
    let inside : c.row_of-row.result < length t.ready.items = omega (arith, c.row_of-row.ensures, bounds.0.0, bounds.0.1, t.sets, t.ready.ok.0) in
    noted_is t.ready id c.row_of-row.result c.index.result.now c.with_if.result c.is_ready-ready.result c.row_of-row.ensures inside c.index.ensures
    c.with_if.ensures
    ∙ ap (marked_sets t.ready id) c.is_ready-ready.ensures ∙ sym (ap (sets_by_state t.ready id) there)
