use Rattle.std.proofs.Common.{◌≡◌, ℕ, ◌-◌, ◌<◌, ◌≤◌, false, List, length, Fits, ap, arith, length-append, subst, sym, w8, ◌∙◌}
use Rattle.std.specs.Prelude.{is_some}
use Rattle.std.proofs.lemmas.Option.{same_Some, slice_get_within}
use Rattle.msg_queue.specs.Seats.{changed_at, seat_of, with_held_at}
use Rattle.snapshot_rows.specs.declared.state.MessageRow.{MessageRow}
use Rattle.resume_path.proofs.Lending.LentLoopLemmas.{held_there, lent_held, lent_place, lent_queued, lent_room, lent_server, lent_skipped}
use Rattle.resume_path.proofs.Rows.MessageRowLemmas.{few_messages, server_low}
use Rattle.resume_path.proofs.Orphaned.OrphansBackLemmas.{row_said, row_there, server_read}
use Rattle.resume_path.specs.Messages.{is_orphaned, row_held}
use Rattle.resume_path.specs.Standing.{row_messages}
use Rattle.resume_path.proofs.lends.resume_server_messages.Goals as goal
use Rattle.resume_path.proofs.lends.resume_server_messages.Goals.{then-not-is_orphaned+then-k-queued, then-not-is_orphaned+else-k-queued, else-not-is_orphaned}

fits : {n : ℕ} → n < 64 → Fits w8 n
fits low = omega (arith, low)

-- src/lends.rt
pub message_count-k-end-requires : goal.message_count-k-end-requires
message_count-k-end-requires g c =
    let there =
    server_read c.args.state.now c.args.i c.as_slice.result.now c.index-as_slice-i.result c.as_slice.ensures c.requires.server c.index-as_slice-i.is in
    record { few = few_messages c.args.file.now c.args.state.now c.requires.resumable c.args.i c.index-as_slice-i.result there }

pub held_again-held-requires-clause-there : goal.held_again-held-requires-clause-there
held_again-held-requires-clause-there g c =
    let there =
    server_read c.args.state.now c.args.i c.as_slice.result.now c.index-as_slice-i.result c.as_slice.ensures c.requires.server c.index-as_slice-i.is in
    ap is_some (row_there c.args.state.now c.args.i c.index-as_slice-i.result there c.messages.k c.message_at.result.now c.message_at.ensures)

pub held_again-held-requires-clause-lent : goal.held_again-held-requires-clause-lent
held_again-held-requires-clause-lent g c =
    let there =
    server_read c.args.state.now c.args.i c.as_slice.result.now c.index-as_slice-i.result c.as_slice.ensures c.requires.server c.index-as_slice-i.is in
    row_said c.args.state.now c.args.i c.index-as_slice-i.result there c.messages.k c.message_at.result.now c.message_at.ensures
    (λ row. is_orphaned row ≡ false) (sym c.is_orphaned.ensures ∙ c.if-not-is_orphaned.true)

pub overflow_cast-i : goal.overflow_cast-i
overflow_cast-i g c =
    let there =
    server_read c.args.state.now c.args.i c.as_slice.result.now c.index-as_slice-i.result c.as_slice.ensures c.requires.server c.index-as_slice-i.is in
    fits (server_low c.args.file.now c.args.state.now c.requires.resumable c.args.i c.index-as_slice-i.result there)

pub overflow_cast-i-else-k-queued : goal.overflow_cast-i-else-k-queued
overflow_cast-i-else-k-queued g c =
    let there =
    server_read c.args.state.now c.args.i c.as_slice.result.now c.index-as_slice-i.result c.as_slice.ensures c.requires.server c.index-as_slice-i.is in
    fits (server_low c.args.file.now c.args.state.now c.requires.resumable c.args.i c.index-as_slice-i.result there)

pub overflow_cast-k : goal.overflow_cast-k
overflow_cast-k g c =
    let there =
    server_read c.args.state.now c.args.i c.as_slice.result.now c.index-as_slice-i.result c.as_slice.ensures c.requires.server c.index-as_slice-i.is in
    let few = few_messages c.args.file.now c.args.state.now c.requires.resumable c.args.i c.index-as_slice-i.result there in
    let within = slice_get_within (row_messages c.index-as_slice-i.result) c.messages.k c.message_at.result.now c.message_at.ensures in
    let long = length-append c.index-as_slice-i.result.queued c.index-as_slice-i.result.held in
    omega (arith, few, within, long)

pub put-requires-clause-seat : goal.put-requires-clause-seat
put-requires-clause-seat g c =
    let there =
    server_read c.args.state.now c.args.i c.as_slice.result.now c.index-as_slice-i.result c.as_slice.ensures c.requires.server c.index-as_slice-i.is in
    server_low c.args.file.now c.args.state.now c.requires.resumable c.args.i c.index-as_slice-i.result there

pub put-requires-clause-room : goal.put-requires-clause-room
put-requires-clause-room g c =
    let there =
    server_read c.args.state.now c.args.i c.as_slice.result.now c.index-as_slice-i.result c.as_slice.ensures c.requires.server c.index-as_slice-i.is in
    lent_room g.W.SwapStore c.args.file.now c.args.state.now
    c.requires.resumable c.args.i c.index-as_slice-i.result there c.args.mem.now
    c.messages.k c.message_at.result.now c.message_at.ensures (sym c.is_orphaned.ensures ∙ c.if-not-is_orphaned.true) c.messages.mem c.messages.queues
    c.messages.invariant

pub hold_at-requires-clause-seat : goal.hold_at-requires-clause-seat
hold_at-requires-clause-seat g c =
    let there =
    server_read c.args.state.now c.args.i c.as_slice.result.now c.index-as_slice-i.result c.as_slice.ensures c.requires.server c.index-as_slice-i.is in
    server_low c.args.file.now c.args.state.now c.requires.resumable c.args.i c.index-as_slice-i.result there

pub hold_at-requires-clause-room : goal.hold_at-requires-clause-room
hold_at-requires-clause-room g c =
    let there =
    server_read c.args.state.now c.args.i c.as_slice.result.now c.index-as_slice-i.result c.as_slice.ensures c.requires.server c.index-as_slice-i.is in
    lent_room g.W.SwapStore c.args.file.now c.args.state.now
    c.requires.resumable c.args.i c.index-as_slice-i.result there c.args.mem.now
    c.messages.k c.message_at.result.now c.message_at.ensures (sym c.is_orphaned.ensures ∙ c.if-not-is_orphaned.true) c.messages.mem c.messages.queues
    c.messages.invariant

pub hold_at-requires-clause-place : goal.hold_at-requires-clause-place
hold_at-requires-clause-place g c =
    let there =
    server_read c.args.state.now c.args.i c.as_slice.result.now c.index-as_slice-i.result c.as_slice.ensures c.requires.server c.index-as_slice-i.is in
    let many : length c.as_slice-queued.result.now ≡ length c.index-as_slice-i.result.queued =
    ap (λ (rows : List MessageRow). length rows) c.as_slice-queued.ensures in
    let place =
    lent_place g.W.SwapStore c.args.file.now c.args.state.now
    c.requires.resumable c.args.i c.index-as_slice-i.result there c.args.mem.now
    c.messages.k c.message_at.result.now c.message_at.ensures (sym c.is_orphaned.ensures ∙ c.if-not-is_orphaned.true) c.messages.mem c.messages.queues
    c.messages.invariant (omega (arith, many, c.if-k-queued.false)) in
    subst (λ n. c.messages.k - n ≤ length (seat_of c.messages.queues c.args.i).held) (sym many) place

pub messages-preserved : goal.messages-preserved
messages-preserved g c =
    let there =
    server_read c.args.state.now c.args.i c.as_slice.result.now c.index-as_slice-i.result c.as_slice.ensures c.requires.server c.index-as_slice-i.is in
    let many : length c.as_slice-queued.result.now ≡ length c.index-as_slice-i.result.queued =
    ap (λ (rows : List MessageRow). length rows) c.as_slice-queued.ensures in
    elim c.if-not-is_orphaned.branch [
      | then-not-is_orphaned+then-k-queued w ↦
          let step =
          lent_queued g.W.SwapStore c.args.file.now
          c.args.state.now c.requires.resumable c.args.i c.index-as_slice-i.result there c.args.mem.now
          c.messages.k c.message_at.result.now c.message_at.ensures (sym c.is_orphaned.ensures ∙ w.if-not-is_orphaned.true) c.messages.mem c.messages.queues
          c.messages.invariant
          w.held_again-held.new.mem w.put.new.self w.held_again-held.result w.held_again-held.ensures.keeps w.held_again-held.ensures.come
          (same_Some w.held_again-held.result (row_held c.args.state.now.pages c.index-as_slice-i.result.pid c.message_at.result.now)
          (sym w.held_again-held.ensures.held ∙ held_there c.args.state.now c.args.i c.index-as_slice-i.result there c.messages.k c.message_at.result.now
          c.message_at.ensures))
          (omega (arith, many, w.if-k-queued.true)) w.put.ensures in
          rw (w.mem-is, w.queues-is) step
      | then-not-is_orphaned+else-k-queued w ↦
          let step =
          lent_held g.W.SwapStore c.args.file.now
          c.args.state.now c.requires.resumable c.args.i c.index-as_slice-i.result there c.args.mem.now
          c.messages.k c.message_at.result.now c.message_at.ensures (sym c.is_orphaned.ensures ∙ w.if-not-is_orphaned.true) c.messages.mem c.messages.queues
          c.messages.invariant
          w.held_again-held.new.mem w.hold_at.new.self w.held_again-held.result w.held_again-held.ensures.keeps w.held_again-held.ensures.come
          (same_Some w.held_again-held.result (row_held c.args.state.now.pages c.index-as_slice-i.result.pid c.message_at.result.now)
          (sym w.held_again-held.ensures.held ∙ held_there c.args.state.now c.args.i c.index-as_slice-i.result there c.messages.k c.message_at.result.now
          c.message_at.ensures))
          (omega (arith, many, w.if-k-queued.false))
          (w.hold_at.ensures ∙ ap (λ n. changed_at c.args.i (with_held_at (c.messages.k - n) w.held_again-held.result) c.messages.queues) many) in
          rw (w.mem-is, w.queues-is) step
      | else-not-is_orphaned w ↦
          let step =
          lent_skipped g.W.SwapStore c.args.file.now
          c.args.state.now c.requires.resumable c.args.i c.index-as_slice-i.result there c.args.mem.now
          c.messages.k c.message_at.result.now c.message_at.ensures (sym c.is_orphaned.ensures ∙ w.if-not-is_orphaned.false) c.messages.mem c.messages.queues
          c.messages.invariant in
          rw (w.mem-is, w.queues-is) step
    ]

pub returns-clause-come : goal.returns-clause-come
returns-clause-come g c =
    let there =
    server_read c.args.state.now c.args.i c.as_slice.result.now c.index-as_slice-i.result c.as_slice.ensures c.requires.server c.index-as_slice-i.is in
    let all =
    lent_server g.W.SwapStore c.args.file.now c.args.state.now
    c.requires.resumable c.args.i c.index-as_slice-i.result there c.args.mem.now
    c.messages.mem c.messages.queues c.messages.k (omega (arith, c.messages-test.false, c.message_count-k-end.ensures)) c.messages.invariant in
    all.come

pub returns-clause-back : goal.returns-clause-back
returns-clause-back g c =
    let there =
    server_read c.args.state.now c.args.i c.as_slice.result.now c.index-as_slice-i.result c.as_slice.ensures c.requires.server c.index-as_slice-i.is in
    let all =
    lent_server g.W.SwapStore c.args.file.now c.args.state.now
    c.requires.resumable c.args.i c.index-as_slice-i.result there c.args.mem.now
    c.messages.mem c.messages.queues c.messages.k (omega (arith, c.messages-test.false, c.message_count-k-end.ensures)) c.messages.invariant in
    all.back
