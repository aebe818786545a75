use Rattle.std.proofs.Common.{◌∙◌, sym}
use Rattle.std.specs.List.{list_any}
use Rattle.std.specs.Prelude.{◌==◌}
use Rattle.snapshot_rows.specs.declared.state.ClaimRow.{ClaimRow}
use Rattle.snapshot_rows.specs.Machines.{claim_of, machine_of, processes_of}
use Rattle.snapshot_rows.proofs.KeyLemmas.{found_any}
use Rattle.order_model.proofs.ChoiceLemmas.{irq_idle, kill_idle, reserved_busy}
use Rattle.order_model.proofs.coming.is_idle.Goals as goal

pub returns-then-is_reserved : goal.returns-then-is_reserved
returns-then-is_reserved c file =
    sym (reserved_busy c.args.event (machine_of file c.args.state.now) (sym (c.is_reserved.ensures file) ∙ c.if-is_reserved.true))

pub returns-in-Irq : goal.returns-in-Irq
returns-in-Irq c file =
    irq_idle c.args.event (machine_of file c.args.state.now) c.in-Irq.number c.is_claimed.result c.in-Irq.is
    (c.is_claimed.ensures
    ∙ ((λ i. list_any (λ (row : ClaimRow). row.number == c.from.ensures i) (c.as_slice.ensures i))
    ∙ sym (found_any claim_of (λ (row : ClaimRow). row.number == c.in-Irq.number) c.args.state.now.claims)))
    (sym (c.is_reserved.ensures file) ∙ c.if-is_reserved.false)

pub returns-in-Kill : goal.returns-in-Kill
returns-in-Kill c file =
    kill_idle c.args.event (machine_of file c.args.state.now) c.in-Kill.pid c.is_alive.result c.in-Kill.is
    (c.is_alive.ensures ∙ (λ i. (processes_of (c.as_slice-in-Kill.ensures i) (c.from-in-Kill.ensures i)).alive))
    (sym (c.is_reserved.ensures file) ∙ c.if-is_reserved.false)
