use Rattle.std.proofs.Common.{◌≡◌, ℕ, ◌+◌, List, length, get_or, Some, sym, ap, subst, ◌∙◌, arith}
use Rattle.std.specs.Prelude.{nat_eq}
use Rattle.process_table.specs.ProcessMap.{new_processes}
use Rattle.process_table.specs.Shown.{processes_of}
use Rattle.snapshot_matching.specs.ProcessParts.{are_apart, is_within_limits}
use Rattle.snapshot_rows.specs.declared.state.ProcRow.{ProcRow}
use Rattle.xk_base.specs.Tables.Counting.{put_at}
use Rattle.resume_path.specs.Tables.{row_process}
use Rattle.resume_path.proofs.Rows.ProcessRowLemmas.{AreProcessesTo, all_processed, next_apart, next_fresh, next_is_pid, next_limits, next_processed, none_processed}
use Rattle.resume_path.proofs.processes.resume_processes.Goals as goal

-- src/processes.rt
pub rows-init : goal.rows-init
rows-init c =
    none_processed c.args.state.now.procs c.in_ok-procs.procs (c.in_ok-procs.ensures.count ∙ sym c.requires.resumable.resumable.spelled.form.many_procs)
    (c.in_ok-procs.ensures.fresh ∙ ap new_processes (sym c.requires.resumable.resumable.spelled.form.many_procs))

pub resume_process-requires-clause-pid : goal.resume_process-requires-clause-pid
resume_process-requires-clause-pid c =
    next_is_pid c.args.state.now.procs c.rows.procs c.rows.k c.index-rows-k.result (omega (arith, c.rows-test.true, ap length c.as_slice-rows.ensures)) c.rows.invariant

pub resume_process-requires-clause-fresh : goal.resume_process-requires-clause-fresh
resume_process-requires-clause-fresh c =
    next_fresh c.args.state.now.procs c.rows.procs c.rows.k c.index-rows-k.result (omega (arith, c.rows-test.true, ap length c.as_slice-rows.ensures)) c.rows.invariant

pub resume_process-requires-clause-limits : goal.resume_process-requires-clause-limits
resume_process-requires-clause-limits c =
    ap is_within_limits (c.index-rows-k.is ∙ ap (λ (rows : List ProcRow). get_or rows c.rows.k c.index-rows-k.result) c.as_slice-rows.ensures)
    ∙ next_limits c.requires.resumable.file c.args.state.now c.requires.resumable.resumable c.rows.k c.index-rows-k.result
    (omega (arith, c.rows-test.true, ap length c.as_slice-rows.ensures))

pub resume_process-requires-clause-apart : goal.resume_process-requires-clause-apart
resume_process-requires-clause-apart c =
    ap (λ (row : ProcRow). are_apart row.serials) (c.index-rows-k.is ∙ ap (λ (rows : List ProcRow). get_or rows c.rows.k c.index-rows-k.result) c.as_slice-rows.ensures)
    ∙ next_apart c.requires.resumable.file c.args.state.now c.requires.resumable.resumable c.rows.k c.index-rows-k.result
    (omega (arith, c.rows-test.true, ap length c.as_slice-rows.ensures))

pub rows-preserved : goal.rows-preserved
rows-preserved c =
    next_processed c.args.state.now.procs c.rows.procs c.rows.k c.index-rows-k.result (omega (arith, c.rows-test.true, ap length c.as_slice-rows.ensures)) c.rows.invariant
    c.resume_process.new.procs c.resume_process.ensures.count
    (subst (λ (row : ProcRow). processes_of c.resume_process.new.procs ≡ put_at nat_eq (processes_of c.rows.procs) (c.rows.k + 2) (Some (row_process row)))
    (c.index-rows-k.is ∙ ap (λ (rows : List ProcRow). get_or rows c.rows.k c.index-rows-k.result) c.as_slice-rows.ensures)
    c.resume_process.ensures.after)

pub returns-clause-procs : goal.returns-clause-procs
returns-clause-procs c =
    all_processed c.args.state.now.procs c.rows.procs
    (subst (λ (k : ℕ). AreProcessesTo c.args.state.now.procs c.rows.procs k)
    (omega (arith, c.rows-test.false, c.rows.auto.k-end, ap length c.as_slice-rows.ensures)) c.rows.invariant)

pub returns-clause-count : goal.returns-clause-count
returns-clause-count c = c.rows.invariant.count ∙ c.requires.resumable.resumable.spelled.form.many_procs
