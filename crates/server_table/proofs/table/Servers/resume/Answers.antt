use Rattle.std.proofs.Common.{◌≡◌, [], ◌∷◌, ◌++◌, length, length-append, ap, ◌∙◌, arith}
use Rattle.xk_base.specs.declared.limits.TheConstants.{SERVER_LIMIT}
use Rattle.xk_base.specs.Tables.RowMap.{row_map}
use Rattle.server_table.specs.Seats.{AreApart}
use Rattle.server_table.specs.ServersOf.{servers_of}
use Rattle.server_table.proofs.ChangeLemmas.{counted_apart}
use Rattle.server_table.proofs.ListedLemmas.{AreSeated, seated_all, seated_apart, seated_more, seated_state}
use Rattle.server_table.proofs.table.Servers.resume.Goals as goal

pub loop-seat-preserved : goal.loop-seat-preserved
loop-seat-preserved c =
    let more : c.push_reserved.new.self.items ≡ c.loop-seat.seats.items ++ c.seated.result ∷ [] = c.push_reserved.ensures.items in
    record {
      size = rw more (rw length-append (omega (arith, c.loop-seat.invariant.size)));
      seated = λ i l. ap (λ xs. row_map xs i) more
          ∙ seated_more c.args.rows.now c.loop-seat.seats.items c.loop-seat.seat c.seated.result c.loop-seat.invariant.size c.loop-seat.invariant.seated c.seated.ensures i l;
      room = rw c.push_reserved.ensures.capacity c.loop-seat.invariant.room;
    }

pub invariant_of-result-clause-apart : goal.invariant_of-result-clause-apart
invariant_of-result-clause-apart c =
    let xs = c.loop-seat.seats.items in
    let size : length xs ≡ SERVER_LIMIT = omega (arith, c.loop-seat.invariant.size) in
    let seated : AreSeated c.args.rows.now xs =
    seated_all c.args.rows.now xs size c.requires.few (λ i l. c.loop-seat.invariant.seated i (omega (arith, size, c.loop-seat.invariant.size))) in
    seated_apart c.args.rows.now xs c.args.next seated c.requires.ascending c.requires.given c.requires.named

pub invariant_of-result-clause-counted : goal.invariant_of-result-clause-counted
invariant_of-result-clause-counted c =
    let xs = c.loop-seat.seats.items in
    let size : length xs ≡ SERVER_LIMIT = omega (arith, c.loop-seat.invariant.size) in
    let seated : AreSeated c.args.rows.now xs =
    seated_all c.args.rows.now xs size c.requires.few (λ i l. c.loop-seat.invariant.seated i (omega (arith, size, c.loop-seat.invariant.size))) in
    counted_apart xs c.args.next (seated_apart c.args.rows.now xs c.args.next seated c.requires.ascending c.requires.given c.requires.named) size

pub returns : goal.returns
unfolding servers_of
returns c =
    let xs = c.loop-seat.seats.items in
    let size : length xs ≡ SERVER_LIMIT = omega (arith, c.loop-seat.invariant.size) in
    let seated : AreSeated c.args.rows.now xs =
    seated_all c.args.rows.now xs size c.requires.few (λ i l. c.loop-seat.invariant.seated i (omega (arith, size, c.loop-seat.invariant.size))) in
    let apart : AreApart xs c.args.next = seated_apart c.args.rows.now xs c.args.next seated c.requires.ascending c.requires.given c.requires.named in
    λ i. record { next = c.args.next; live = seated_state c.args.rows.now xs c.args.next seated c.requires.ascending apart size i }
