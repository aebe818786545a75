use Rattle.std.proofs.Common.{◌≡◌, ℕ, ◌<◌, true, Some, Fits, ap, arith, sym, w8, ◌∙◌}
use Rattle.std.specs.Prelude.{is_some}
use Rattle.resume_path.proofs.Rows.MessageRowLemmas.{few_messages, sender_tid_small, server_low}
use Rattle.resume_path.proofs.Orphaned.OrphanLoopLemmas.{orphan_held, orphan_next, orphan_room, orphan_skipped, orphans_failed, orphans_server}
use Rattle.resume_path.proofs.Orphaned.OrphansBackLemmas.{row_said, row_there, server_read}
use Rattle.resume_path.specs.Messages.{is_orphaned}
use Rattle.resume_path.proofs.orphans.resume_server_orphans.Goals as goal
use Rattle.resume_path.proofs.orphans.resume_server_orphans.Goals.{then-is_orphaned+in_ok-loan, else-is_orphaned}

fits : {n : ℕ} → n < 64 → Fits w8 n
fits low = omega (arith, low)

-- src/orphans.rt
pub message_count-k-end-requires : goal.message_count-k-end-requires
message_count-k-end-requires g c =
    let there =
    server_read c.args.state.now c.args.i c.as_slice.result.now c.index-as_slice-i.result c.as_slice.ensures c.requires.server c.index-as_slice-i.is in
    record { few = few_messages c.args.file.now c.args.state.now c.requires.resumable c.args.i c.index-as_slice-i.result there }

pub lend_orphans-requires-clause-there : goal.lend_orphans-requires-clause-there
lend_orphans-requires-clause-there g c =
    let there =
    server_read c.args.state.now c.args.i c.as_slice.result.now c.index-as_slice-i.result c.as_slice.ensures c.requires.server c.index-as_slice-i.is in
    ap is_some (row_there c.args.state.now c.args.i c.index-as_slice-i.result there c.messages.k c.message_at-row.result.now c.message_at-row.ensures)

pub lend_orphans-requires-clause-orphaned : goal.lend_orphans-requires-clause-orphaned
lend_orphans-requires-clause-orphaned g c =
    let there =
    server_read c.args.state.now c.args.i c.as_slice.result.now c.index-as_slice-i.result c.as_slice.ensures c.requires.server c.index-as_slice-i.is in
    row_said c.args.state.now c.args.i c.index-as_slice-i.result there c.messages.k c.message_at-row.result.now c.message_at-row.ensures
    (λ row. is_orphaned row ≡ true) (sym c.is_orphaned.ensures ∙ c.if-is_orphaned.true)

pub returns-in_err-loan-clause-failed : goal.returns-in_err-loan-clause-failed
returns-in_err-loan-clause-failed g c =
    orphans_failed g.W.SwapStore c.args.file.now c.args.state.now
    c.requires.resumable
    c.from_residual.result c.args.mem.now c.messages.mem c.lend_orphans.new.mem c.messages.queues c.args.i c.messages.k c.messages.invariant
    c.in_err-loan.ensures.failed

pub message-requires-clause-tid : goal.message-requires-clause-tid
message-requires-clause-tid g c =
    let there =
    server_read c.args.state.now c.args.i c.as_slice.result.now c.index-as_slice-i.result c.as_slice.ensures c.requires.server c.index-as_slice-i.is in
    sender_tid_small c.args.file.now c.args.state.now c.requires.resumable c.args.i c.index-as_slice-i.result there c.messages.k c.message_at-row.result.now
    c.message_at-row.ensures

pub overflow_cast-i : goal.overflow_cast-i
overflow_cast-i g c =
    let there =
    server_read c.args.state.now c.args.i c.as_slice.result.now c.index-as_slice-i.result c.as_slice.ensures c.requires.server c.index-as_slice-i.is in
    fits (server_low c.args.file.now c.args.state.now c.requires.resumable c.args.i c.index-as_slice-i.result there)

pub hold-requires-clause-seat : goal.hold-requires-clause-seat
hold-requires-clause-seat g c =
    let there =
    server_read c.args.state.now c.args.i c.as_slice.result.now c.index-as_slice-i.result c.as_slice.ensures c.requires.server c.index-as_slice-i.is in
    server_low c.args.file.now c.args.state.now c.requires.resumable c.args.i c.index-as_slice-i.result there

pub hold-requires-clause-room : goal.hold-requires-clause-room
hold-requires-clause-room g c =
    let there =
    server_read c.args.state.now c.args.i c.as_slice.result.now c.index-as_slice-i.result c.as_slice.ensures c.requires.server c.index-as_slice-i.is in
    orphan_room g.W.SwapStore c.args.file.now c.args.state.now
    c.requires.resumable c.args.i c.index-as_slice-i.result there c.args.mem.now
    c.messages.k c.message_at-row.result.now c.message_at-row.ensures (sym c.is_orphaned.ensures ∙ c.if-is_orphaned.true) c.messages.mem c.messages.queues
    c.messages.invariant

pub messages-preserved : goal.messages-preserved
messages-preserved g c =
    let there =
    server_read c.args.state.now c.args.i c.as_slice.result.now c.index-as_slice-i.result c.as_slice.ensures c.requires.server c.index-as_slice-i.is in
    elim c.if-is_orphaned.branch [
      | then-is_orphaned+in_ok-loan w ↦
          let orphaned = sym c.is_orphaned.ensures ∙ w.if-is_orphaned.true in
          let step =
          orphan_next g.W.SwapStore c.args.file.now
          c.args.state.now c.requires.resumable c.args.i c.index-as_slice-i.result there c.args.mem.now
          c.messages.k c.message_at-row.result.now c.message_at-row.ensures orphaned c.messages.mem c.messages.queues c.messages.invariant
          w.lend_orphans.new.mem w.hold.new.self
          (record { msg = w.message.result; loan = Some w.in_ok-loan.loan }) w.in_ok-loan.ensures.keeps w.in_ok-loan.ensures.come
          (orphan_held c.args.state.now c.args.i c.index-as_slice-i.result there c.messages.k c.message_at-row.result.now c.message_at-row.ensures orphaned
          w.message.result w.in_ok-loan.loan w.message.ensures w.in_ok-loan.ensures.loan)
          w.hold.ensures in
          rw (w.mem-is, w.queues-is) step
      | else-is_orphaned w ↦
          let step =
          orphan_skipped g.W.SwapStore c.args.file.now
          c.args.state.now c.requires.resumable c.args.i c.index-as_slice-i.result there c.args.mem.now
          c.messages.k c.message_at-row.result.now c.message_at-row.ensures (sym c.is_orphaned.ensures ∙ w.if-is_orphaned.false) c.messages.mem
          c.messages.queues c.messages.invariant in
          rw (w.mem-is, w.queues-is) step
    ]

pub returns-clause-come : goal.returns-clause-come
returns-clause-come g c =
    let there =
    server_read c.args.state.now c.args.i c.as_slice.result.now c.index-as_slice-i.result c.as_slice.ensures c.requires.server c.index-as_slice-i.is in
    let all =
    orphans_server g.W.SwapStore c.args.file.now c.args.state.now
    c.requires.resumable c.args.i c.index-as_slice-i.result there c.args.mem.now
    c.messages.mem c.messages.queues c.messages.k (omega (arith, c.messages-test.false, c.message_count-k-end.ensures)) c.messages.invariant in
    all.come

pub returns-clause-back : goal.returns-clause-back
returns-clause-back g c =
    let there =
    server_read c.args.state.now c.args.i c.as_slice.result.now c.index-as_slice-i.result c.as_slice.ensures c.requires.server c.index-as_slice-i.is in
    let all =
    orphans_server g.W.SwapStore c.args.file.now c.args.state.now
    c.requires.resumable c.args.i c.index-as_slice-i.result there c.args.mem.now
    c.messages.mem c.messages.queues c.messages.k (omega (arith, c.messages-test.false, c.message_count-k-end.ensures)) c.messages.invariant in
    all.back
