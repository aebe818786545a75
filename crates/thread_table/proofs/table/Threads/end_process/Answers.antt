use Rattle.std.proofs.Common.{rules, ◌≡◌, List, Option, None, length, replicate}
use Rattle.thread_table.specs.declared.thread.Thread.{Thread}
use Rattle.thread_table.specs.Shown.{process_count, threads_of}
use Rattle.thread_table.proofs.EmptyingLemmas.{emptied_marked, emptied_process, filled}
use Rattle.thread_table.proofs.table.Threads.end_process.Goals as goal

pub returns-clause-after : goal.returns-clause-after
unfolding process_count threads_of
returns-clause-after c =
    let left : List (Option Thread) = c.fill_with.new.self in
    let none : left ≡ replicate (length left) None = filled _ None _ c.fill_with.ensures.ran.0 left (λ p x q called. search rules) c.fill_with.ensures.ran.1 in
    emptied_process c.args.self.now c.args.pid c.deref_mut.result.now left c.deref_mut.ensures.value none (search rules) c.requires

pub invariant_of-self-clause-marked : goal.invariant_of-self-clause-marked
unfolding process_count
invariant_of-self-clause-marked c =
    let left : List (Option Thread) = c.fill_with.new.self in
    let none : left ≡ replicate (length left) None = filled _ None _ c.fill_with.ensures.ran.0 left (λ p x q called. search rules) c.fill_with.ensures.ran.1 in
    emptied_marked c.args.self.now c.args.pid c.deref_mut.result.now left c.deref_mut.ensures.value none (search rules) c.requires
    c.row_of.result c.none.result c.row_of.ensures c.none.ensures
