use Rattle.std.proofs.Common.{sym, ◌∙◌}
use Rattle.std.specs.List.{list_any}
use Rattle.std.specs.Prelude.{◌==◌}
use Rattle.snapshot_rows.specs.declared.state.ClaimRow.{ClaimRow}
use Rattle.snapshot_rows.specs.Machines.{claim_of}
use Rattle.snapshot_rows.proofs.KeyLemmas.{found_any}
use Rattle.xk_base.specs.declared.limits.TheConstants.{TIMER_INTERRUPT}
use Rattle.order_model.proofs.turns.has_timer.Goals as goal

pub returns : goal.returns
returns c file =
    c.is_claimed.ensures
    ∙ ((λ i. list_any (λ (row : ClaimRow). row.number == c.from.ensures i) (c.as_slice.ensures i))
    ∙ sym (found_any claim_of (λ (row : ClaimRow). row.number == TIMER_INTERRUPT) c.args.state.now.claims))
