use Rattle.std.proofs.Common.{arith, false, sym, subst, true, ◌+◌, ◌≤◌}
use Rattle.sv32_space.specs.SpelledEntries.{entries}
use Rattle.loan_flags.proofs.FreeRunLemmas.{IsSearched, first_there, looked, none_there, page_there, run_there, same_table, searched_free, searched_none, searched_used}
use Rattle.loan_flags.proofs.free_runs.free_run.Goals as goal
use Rattle.loan_flags.proofs.free_runs.free_run.Goals.{then-not-is_free_word, else-not-is_free_word+else-k-start}

pub table_of-table-requires-clause-window : goal.table_of-table-requires-clause-window
table_of-table-requires-clause-window c = first_there c.args.window c.first-first.result.0 c.first-first.ensures

pub loop-k-init : goal.loop-k-init
loop-k-init c = (
  omega arith,
  λ procs process. searched_none (entries procs c.args.ram.now) c.args.pid c.args.window c.args.n c.requires.some,
  c.table_of-table.ensures.len,
  λ apart. same_table c.args.ram.now c.args.pid c.first-first.result (record { 0 = c.first-first.result.0 + 0 }) c.table_of-table.result.now (omega arith) c.table_of-table.ensures.table,
)

pub next_table-table-requires-clause-window : goal.next_table-table-requires-clause-window
next_table-table-requires-clause-window c = page_there c.args.window c.first-first.result.0 c.last.result.0 c.loop-k.k c.first-first.ensures c.last.ensures c.loop-k-test.true

pub overflow_sub-k : goal.overflow_sub-k
overflow_sub-k c = omega (arith, c.loop-k.invariant.0)

pub returns-then-k-start : goal.returns-then-k-start
returns-then-k-start c = λ procs process. sym (run_there (entries procs c.args.ram.now) c.args.pid c.args.window c.args.n c.loop-k.start c.loop-k.k
    (c.loop-k.invariant.1 procs process)
    c.first-first.result.0 c.last.result.0 c.first-first.ensures c.last.ensures c.loop-k-test.true
    (looked procs c.args.ram.now c.args.pid c.args.window c.first-first.result.0 c.loop-k.k c.next_table-table.result.now c.entry_word.result c.is_free_word.result true
    c.first-first.ensures process (page_there c.args.window c.first-first.result.0 c.last.result.0 c.loop-k.k c.first-first.ensures c.last.ensures c.loop-k-test.true)
    c.next_table-table.ensures.table c.entry_word.ensures c.is_free_word.ensures c.if-not-is_free_word.false) c.if-k-start.true)

pub loop-k-preserved : goal.loop-k-preserved
loop-k-preserved c = elim c.if-not-is_free_word.branch [
  | then-not-is_free_word w ↦ (
    subst (λ s. s ≤ c.loop-k.k + 1) (sym w.start-is) (omega arith),
    λ procs process.
        subst (λ s. IsSearched (entries procs c.args.ram.now) c.args.pid c.args.window c.args.n s (c.loop-k.k + 1)) (sym w.start-is)
        (searched_used (entries procs c.args.ram.now) c.args.pid c.args.window c.args.n c.loop-k.start c.loop-k.k c.requires.some (c.loop-k.invariant.1 procs process)
        (looked procs c.args.ram.now c.args.pid c.args.window c.first-first.result.0 c.loop-k.k c.next_table-table.result.now c.entry_word.result c.is_free_word.result false
        c.first-first.ensures process (page_there c.args.window c.first-first.result.0 c.last.result.0 c.loop-k.k c.first-first.ensures c.last.ensures c.loop-k-test.true)
        c.next_table-table.ensures.table c.entry_word.ensures c.is_free_word.ensures w.if-not-is_free_word.true)),
    c.next_table-table.ensures.len,
    λ apart. same_table c.args.ram.now c.args.pid (record { 0 = c.first-first.result.0 + c.loop-k.k }) (record { 0 = c.first-first.result.0 + (c.loop-k.k + 1) })
        c.next_table-table.result.now (omega (arith, apart)) c.next_table-table.ensures.table,
  )
  | else-not-is_free_word+else-k-start w ↦ (
    subst (λ s. s ≤ c.loop-k.k + 1) (sym w.start-is) (omega (arith, c.loop-k.invariant.0)),
    λ procs process.
        subst (λ s. IsSearched (entries procs c.args.ram.now) c.args.pid c.args.window c.args.n s (c.loop-k.k + 1)) (sym w.start-is)
        (searched_free (entries procs c.args.ram.now) c.args.pid c.args.window c.args.n c.loop-k.start c.loop-k.k (c.loop-k.invariant.1 procs process)
        (looked procs c.args.ram.now c.args.pid c.args.window c.first-first.result.0 c.loop-k.k c.next_table-table.result.now c.entry_word.result c.is_free_word.result true
        c.first-first.ensures process (page_there c.args.window c.first-first.result.0 c.last.result.0 c.loop-k.k c.first-first.ensures c.last.ensures c.loop-k-test.true)
        c.next_table-table.ensures.table c.entry_word.ensures c.is_free_word.ensures w.if-not-is_free_word.false)
        w.if-k-start.false),
    c.next_table-table.ensures.len,
    λ apart. same_table c.args.ram.now c.args.pid (record { 0 = c.first-first.result.0 + c.loop-k.k }) (record { 0 = c.first-first.result.0 + (c.loop-k.k + 1) })
        c.next_table-table.result.now (omega (arith, apart)) c.next_table-table.ensures.table,
  )
]

pub returns : goal.returns
returns c = λ procs process. sym (none_there (entries procs c.args.ram.now) c.args.pid c.args.window c.args.n c.loop-k.start c.loop-k.k
    (c.loop-k.invariant.1 procs process)
    c.first-first.result.0 c.last.result.0 c.first-first.ensures c.last.ensures c.loop-k-test.false)
