use Rattle.std.proofs.Common.{sym, arith}
use Rattle.suspend_image.proofs.SpellsLemmas.{slice_is_spelled}
use Rattle.suspend_image.proofs.reading.spelled_state.Goals as goal

pub returns-in-Ok-clause-spelled : goal.returns-in-Ok-clause-spelled
returns-in-Ok-clause-spelled c =
    slice_is_spelled c.args.bytes.now c.in-Ok.state (λ i. omega (arith, c.type_inv.bytes i)) (sym c.in_default.ensures.fault) c.in-Ok.ensures
