use Rattle.std.proofs.Common.{arith}
use Rattle.kernel_args.proofs.ProcessLemmas.{sections_more, sections_refused}
use Rattle.kernel_args.proofs.process.sections_of.Goals as goal

pub returns-then-section-gt-KNOWN_FLAGS : goal.returns-then-section-gt-KNOWN_FLAGS
returns-then-section-gt-KNOWN_FLAGS c =
    sections_refused c.args.bytes.now c.loop-rest.rest.now c.loop-rest.sections c.front_section.result.0 c.front_section.result.1.now c.loop-rest.invariant c.front_section.ensures (omega arith)

pub loop-rest-preserved : goal.loop-rest-preserved
loop-rest-preserved c =
    let more = sections_more c.args.bytes.now c.loop-rest.rest.now c.loop-rest.sections c.front_section.result.0 c.front_section.result.1.now
    c.loop-rest.invariant (λ i. omega (arith, c.type_inv.bytes i)) c.front_section.ensures (omega arith) in
    rw c.in_ok-push.ensures.ok more
