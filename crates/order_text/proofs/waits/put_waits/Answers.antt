use Rattle.std.proofs.Common.{◌≡◌, ℕ, List, OnOk, refl, subst}
use Rattle.std.specs.Prelude.{codes}
use Rattle.order_model.specs.Endings.{kept_at}
use Rattle.snapshot_rows.specs.Machines.{machine_of}
use Rattle.order_text.specs.Texts.{kept_text}
use Rattle.order_text.proofs.TextLemmas.{two_pieces}
use Rattle.order_text.proofs.waits.put_waits.Goals as goal

pub returns : goal.returns
returns c file =
    let place = kept_text c.args.named (kept_at (machine_of file c.args.state.now) (record { 0 = c.args.number })) in
    subst (λ (xs : List ℕ). OnOk c.put_kept.result (c.put_kept.new.text.items ≡ xs))
    (two_pieces c.args.text.now.items (codes " waits") place c.put.new.text.items _ c.in_ok-put.ensures refl) (c.put_kept.ensures file)
