use Rattle.std.proofs.Common.{length, ap, arith}
use Rattle.snapshot_rows.specs.declared.state.PageRow.{PageRow}
use Rattle.resume_path.proofs.Homes.PagesBackLemmas.{keeps_same, row_asked, row_back, row_failed, row_fits, row_full}
use Rattle.resume_path.specs.Resumable.{state_pages}
use Rattle.resume_path.specs.Standing.{pages_before, standing_of}
use Rattle.resume_path.proofs.pages.resume_pages.Goals as goal

abbrev no_row : PageRow
no_row = record { pid = 0; page = 0; right = 0; holder_pid = 0; holder_page = 0; kind = 0; number = 0; from = 0 }

-- src/pages.rt
pub rows-init : goal.rows-init
rows-init g c = record {
  come = c.requires.come;
  keeps = keeps_same g.W.SwapStore c.args.mem.now;
}

pub put_row-requires-clause-pid : goal.put_row-requires-clause-pid
put_row-requires-clause-pid g c =
    (row_asked g.W.SwapStore c.args.file.now c.args.state.now
    c.requires.resumable
    c.args.mem.now c.rows.mem c.rows.row-index no_row (omega (arith, c.rows-test.true, ap length c.as_slice-row-items.ensures)) c.requires.processes
    c.requires.capacity c.rows.invariant
    c.as_slice-row-items.result.now c.as_slice-row-items.ensures).pid

pub put_row-requires-clause-place : goal.put_row-requires-clause-place
put_row-requires-clause-place g c =
    (row_asked g.W.SwapStore c.args.file.now c.args.state.now
    c.requires.resumable
    c.args.mem.now c.rows.mem c.rows.row-index no_row (omega (arith, c.rows-test.true, ap length c.as_slice-row-items.ensures)) c.requires.processes
    c.requires.capacity c.rows.invariant
    c.as_slice-row-items.result.now c.as_slice-row-items.ensures).place

pub put_row-requires-clause-free : goal.put_row-requires-clause-free
put_row-requires-clause-free g c =
    (row_asked g.W.SwapStore c.args.file.now c.args.state.now
    c.requires.resumable
    c.args.mem.now c.rows.mem c.rows.row-index no_row (omega (arith, c.rows-test.true, ap length c.as_slice-row-items.ensures)) c.requires.processes
    c.requires.capacity c.rows.invariant
    c.as_slice-row-items.result.now c.as_slice-row-items.ensures).free

pub put_row-requires-clause-room : goal.put_row-requires-clause-room
put_row-requires-clause-room g c =
    (row_asked g.W.SwapStore c.args.file.now c.args.state.now
    c.requires.resumable
    c.args.mem.now c.rows.mem c.rows.row-index no_row (omega (arith, c.rows-test.true, ap length c.as_slice-row-items.ensures)) c.requires.processes
    c.requires.capacity c.rows.invariant
    c.as_slice-row-items.result.now c.as_slice-row-items.ensures).room

pub put_row-requires-clause-bytes : goal.put_row-requires-clause-bytes
put_row-requires-clause-bytes g c =
    (row_asked g.W.SwapStore c.args.file.now c.args.state.now
    c.requires.resumable
    c.args.mem.now c.rows.mem c.rows.row-index no_row (omega (arith, c.rows-test.true, ap length c.as_slice-row-items.ensures)) c.requires.processes
    c.requires.capacity c.rows.invariant
    c.as_slice-row-items.result.now c.as_slice-row-items.ensures).bytes

pub put_row-requires-clause-window : goal.put_row-requires-clause-window
put_row-requires-clause-window g c =
    (row_asked g.W.SwapStore c.args.file.now c.args.state.now
    c.requires.resumable
    c.args.mem.now c.rows.mem c.rows.row-index no_row (omega (arith, c.rows-test.true, ap length c.as_slice-row-items.ensures)) c.requires.processes
    c.requires.capacity c.rows.invariant
    c.as_slice-row-items.result.now c.as_slice-row-items.ensures).window

pub put_row-requires-clause-first : goal.put_row-requires-clause-first
put_row-requires-clause-first g c =
    (row_asked g.W.SwapStore c.args.file.now c.args.state.now
    c.requires.resumable
    c.args.mem.now c.rows.mem c.rows.row-index no_row (omega (arith, c.rows-test.true, ap length c.as_slice-row-items.ensures)) c.requires.processes
    c.requires.capacity c.rows.invariant
    c.as_slice-row-items.result.now c.as_slice-row-items.ensures).first

pub put_row-requires-clause-no_fetch : goal.put_row-requires-clause-no_fetch
put_row-requires-clause-no_fetch g c =
    (row_asked g.W.SwapStore c.args.file.now c.args.state.now
    c.requires.resumable
    c.args.mem.now c.rows.mem c.rows.row-index no_row (omega (arith, c.rows-test.true, ap length c.as_slice-row-items.ensures)) c.requires.processes
    c.requires.capacity c.rows.invariant
    c.as_slice-row-items.result.now c.as_slice-row-items.ensures).no_fetch

pub returns-in_err-put_row-clause-failed : goal.returns-in_err-put_row-clause-failed
returns-in_err-put_row-clause-failed g c =
    row_failed g.W.SwapStore c.args.file.now c.args.state.now
    c.requires.resumable
    c.args.mem.now c.rows.mem c.rows.row-index no_row (omega (arith, c.rows-test.true, ap length c.as_slice-row-items.ensures)) c.requires.processes
    c.requires.capacity c.rows.invariant
    c.from_residual.result c.put_row.new.mem c.requires.come c.in_err-put_row.ensures.failed

pub returns-in_err-put_row-clause-full : goal.returns-in_err-put_row-clause-full
returns-in_err-put_row-clause-full g c =
    row_full g.W.SwapStore c.args.file.now c.args.state.now
    c.requires.resumable
    c.args.mem.now c.rows.mem c.rows.row-index no_row (omega (arith, c.rows-test.true, ap length c.as_slice-row-items.ensures)) c.requires.processes
    c.requires.capacity c.rows.invariant
    c.from_residual.result
    (c.in_err-put_row.ensures.full (state_pages c.args.file.now c.args.state.now)
    (standing_of c.args.file.now c.args.state.now (pages_before c.args.state.now.pages c.rows.row-index)) c.rows.invariant.come
    (row_fits g.W.SwapStore c.args.file.now c.args.state.now
    c.requires.resumable
    c.args.mem.now c.rows.mem c.rows.row-index no_row (omega (arith, c.rows-test.true, ap length c.as_slice-row-items.ensures)) c.requires.processes
    c.requires.capacity c.rows.invariant
    c.as_slice-row-items.result.now c.as_slice-row-items.ensures))

pub rows-preserved : goal.rows-preserved
rows-preserved g c =
    row_back g.W.SwapStore c.args.file.now c.args.state.now
    c.requires.resumable
    c.args.mem.now c.rows.mem c.rows.row-index no_row (omega (arith, c.rows-test.true, ap length c.as_slice-row-items.ensures)) c.requires.processes
    c.requires.capacity c.rows.invariant
    c.as_slice-row-items.result.now c.as_slice-row-items.ensures c.put_row.new.mem c.in_ok-put_row.ensures.keeps
    (c.in_ok-put_row.ensures.comes (state_pages c.args.file.now c.args.state.now)
    (standing_of c.args.file.now c.args.state.now (pages_before c.args.state.now.pages c.rows.row-index)) c.rows.invariant.come
    (row_fits g.W.SwapStore c.args.file.now c.args.state.now
    c.requires.resumable
    c.args.mem.now c.rows.mem c.rows.row-index no_row (omega (arith, c.rows-test.true, ap length c.as_slice-row-items.ensures)) c.requires.processes
    c.requires.capacity c.rows.invariant
    c.as_slice-row-items.result.now c.as_slice-row-items.ensures))
