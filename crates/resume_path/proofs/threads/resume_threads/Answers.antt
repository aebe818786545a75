use Rattle.std.proofs.Common.{◌≡◌, ℕ, List, [], length, get_or, Some, None, sym, ap, subst, ◌∙◌, arith}
use Rattle.std.specs.Prelude.{if◌then◌else◌}
use Rattle.std.specs.Option.{option_map}
use Rattle.xk_parts.specs.Shown.{thread_of}
use Rattle.suspend_image.specs.Forms.{IsThreadRow}
use Rattle.snapshot_rows.specs.Machines.{thread_at_id, thread_of as row_thread, threads_of as state_threads}
use Rattle.snapshot_rows.specs.declared.state.ThreadRow.{ThreadRow}
use Rattle.thread_table.specs.Shown.{threads_of}
use Rattle.xk_base.specs.Tables.Circle.{same_thread}
use Rattle.xk_base.specs.declared.ids.ThreadId.{ThreadId}
use Rattle.resume_path.proofs.Rows.RowLemmas.{take_past}
use Rattle.resume_path.proofs.Rows.ThreadRowLemmas.{next_back, next_form, next_free, none_back}
use Rattle.resume_path.proofs.threads.resume_threads.Goals as goal

abbrev no_row : ThreadRow
no_row = record { pid = 0; tid = 0; pc = 0; state = 0; waits = 0; regs = [] }

-- src/threads.rt
pub rows-init : goal.rows-init
rows-init c = none_back c.args.state.now.n c.args.state.now.threads c.in_ok-threads.threads c.in_ok-threads.ensures.count c.in_ok-threads.ensures.empty

pub start_thread-requires-clause-few : goal.start_thread-requires-clause-few
start_thread-requires-clause-few c = omega (arith, c.rows.invariant.count, c.requires.resumable.resumable.spelled.form.n.at_most)

pub start_thread-requires-clause-row : goal.start_thread-requires-clause-row
start_thread-requires-clause-row c =
    subst (λ (n : ℕ). IsThreadRow n None (get_or c.as_slice-row-items.result.now c.rows.row-index no_row)) (sym c.rows.invariant.count)
    (subst (λ (rows : List ThreadRow). IsThreadRow c.args.state.now.n None (get_or rows c.rows.row-index no_row)) (sym c.as_slice-row-items.ensures)
    (next_form c.args.state.now.n c.args.state.now.threads c.requires.resumable.resumable.spelled.form.threads c.rows.row-index no_row
    (omega (arith, c.rows-test.true, ap length c.as_slice-row-items.ensures))))

pub start_thread-requires-clause-free : goal.start_thread-requires-clause-free
start_thread-requires-clause-free c =
    subst (λ (rows : List ThreadRow). threads_of c.rows.threads (thread_at_id (get_or rows c.rows.row-index no_row).pid (get_or rows c.rows.row-index no_row).tid) ≡ None)
    (sym c.as_slice-row-items.ensures)
    (next_free c.args.state.now.n c.args.state.now.threads c.requires.resumable.resumable.spelled.form.threads c.rows.row-index no_row
    (omega (arith, c.rows-test.true, ap length c.as_slice-row-items.ensures)) c.rows.threads c.rows.invariant)

pub rows-preserved : goal.rows-preserved
rows-preserved c =
    next_back c.args.state.now.n c.args.state.now.threads c.requires.resumable.resumable.spelled.form.threads c.rows.row-index no_row
    (omega (arith, c.rows-test.true, ap length c.as_slice-row-items.ensures)) c.rows.threads c.rows.invariant c.start_thread.new.threads c.start_thread.ensures.count
    (subst (λ (rows : List ThreadRow). (id : ThreadId) → option_map thread_of (threads_of c.start_thread.new.threads id)
    ≡ (if same_thread id (thread_at_id (get_or rows c.rows.row-index no_row).pid (get_or rows c.rows.row-index no_row).tid)
    then Some (row_thread (get_or rows c.rows.row-index no_row)) else option_map thread_of (threads_of c.rows.threads id)))
    c.as_slice-row-items.ensures c.start_thread.ensures.after)

pub returns-clause-threads : goal.returns-clause-threads
returns-clause-threads c =
    λ id. c.rows.invariant.there id
    ∙ ap (λ rows. state_threads rows id) (take_past c.rows.row-index c.args.state.now.threads (omega (arith, c.rows-test.false, ap length c.as_slice-row-items.ensures)))

pub returns-clause-count : goal.returns-clause-count
returns-clause-count c = c.rows.invariant.count
