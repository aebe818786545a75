use Rattle.std.proofs.Common.{◌≡◌, Some, true, length, ◌∙◌, arith}
use Rattle.std.proofs.lemmas.Bool.Decides.{nat_tests}
use Rattle.xk_base.specs.Tables.Circle.{is_thread_id, thread_ids}
use Rattle.thread_table.specs.Shown.{process_count, threads_of}
use Rattle.thread_table.proofs.MarkLemmas.{written_marked}
use Rattle.thread_table.proofs.PlaceLemmas.{thread_map_write}
use Rattle.thread_table.proofs.table.Threads.start.Goals as goal

pub returns-clause-after : goal.returns-clause-after
unfolding process_count threads_of
returns-clause-after c =
    let n = c.args.self.now.procs in
    let size : length c.args.self.now.by_place.items ≡ thread_ids n = omega arith in
    let valid : is_thread_id n c.args.id ≡ true = grind (arith, nat_tests, c.requires.pid, c.requires.tid) in
    thread_map_write n c.args.self.now.by_place.items c.args.id c.place_of.result (Some c.args.thread) c.place_of.ensures size valid

pub invariant_of-self-clause-marked : goal.invariant_of-self-clause-marked
unfolding process_count
invariant_of-self-clause-marked c =
    let t = c.args.self.now in
    let sets : length t.ready.items ≡ t.procs = omega arith in
    let size : length t.by_place.items ≡ thread_ids t.procs = omega arith in
    written_marked t.procs t.ready.items t.by_place.items c.args.id c.requires.pid c.requires.tid sets t.marked c.row_of-row.result c.row_of-row.ensures
    c.index.result.now c.with_if.result c.index.ensures c.is_ready.result c.with_if.ensures c.place_of.result (Some c.args.thread) c.place_of.ensures size
    (λ ready. c.is_ready.ensures ∙ ready)
