use Rattle.std.proofs.Common.{arith}
use Rattle.snapshot_matching.proofs.ProcessRows.ClaimLemmas.{timer_told}
use Rattle.snapshot_matching.proofs.claims.is_timer_matched.Goals as goal

pub returns-else-state-ne1 : goal.returns-else-state-ne1
returns-else-state-ne1 c = timer_told c.args.state.now c.is_claimed.result (omega (arith, c.if-state-ne1.false)) (rw c.as_slice.ensures at c.is_claimed.ensures)
