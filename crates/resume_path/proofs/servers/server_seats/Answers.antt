use Rattle.std.proofs.Common.{◌<◌, List, length, get_or, sym, ap, subst, ◌∙◌, arith}
use Rattle.snapshot_rows.specs.declared.state.ServerRow.{ServerRow}
use Rattle.resume_path.specs.Tables.{row_seat}
use Rattle.resume_path.proofs.Rows.ServerRowLemmas.{all_seated, next_seated, server_pid_small}
use Rattle.resume_path.proofs.servers.server_seats.Goals as goal

-- src/servers.rt
pub rows-init : goal.rows-init
rows-init c = c.new-seats.ensures

pub seat-requires : goal.seat-requires
seat-requires c =
    subst (λ (row : ServerRow). row.pid < 256) (sym (c.row-item.is ∙ ap (λ (rows : List ServerRow). get_or rows c.rows.row-index c.row-item.result) c.as_slice-row-items.ensures))
    (server_pid_small c.requires.resumable.file c.args.state.now c.requires.resumable.resumable c.rows.row-index c.row-item.result
    (omega (arith, c.rows-test.true, ap length c.as_slice-row-items.ensures)))

pub rows-preserved : goal.rows-preserved
rows-preserved c =
    next_seated c.args.state.now.servers c.rows.row-index c.row-item.result c.rows.seats c.push.new.self c.seat.result
    (omega (arith, c.rows-test.true, ap length c.as_slice-row-items.ensures)) c.rows.invariant
    (c.seat.ensures ∙ ap row_seat (c.row-item.is ∙ ap (λ (rows : List ServerRow). get_or rows c.rows.row-index c.row-item.result) c.as_slice-row-items.ensures))
    c.in_ok-push.ensures.ok

pub returns : goal.returns
returns c =
    all_seated c.args.state.now.servers c.rows.row-index c.rows.seats (omega (arith, c.rows-test.false, ap length c.as_slice-row-items.ensures)) c.rows.invariant
