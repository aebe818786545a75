use Rattle.std.proofs.Common.{◌∙◌, ap}
use Rattle.rv32_atomics.specs.Performing.{reserved_after}
use Rattle.rv32_atomics.proofs.PerformingLemmas.{reserves-by}
use Rattle.rv32_atomics.proofs.run.perform.Goals as goal

-- src/run.rt
pub returns-clause-reserved : goal.returns-clause-reserved
returns-clause-reserved g c =
    let left = c.reserves-left.ensures
    ∙ (rw (c.kind_of.ensures, c.get.ensures.value, c.fields_of.ensures) (reserves-by c.args.atomic c.args.regs.now c.args.reserved.now)) in
    c.reserved_after.ensures ∙ ap (reserved_after c.execute-ran.result c.args.reserved.now) left
