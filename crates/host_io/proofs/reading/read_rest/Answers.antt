use Rattle.std.proofs.Common.{arith}
use Rattle.std.proofs.lemmas.Grind.{common_steps}
use Rattle.host_io.proofs.ToldLemmas.{consumed_front}
use Rattle.host_io.proofs.reading.read_rest.Goals as goal

pub returns-clause-content : goal.returns-clause-content
returns-clause-content g c =
    let front = consumed_front (g.H.Host.left c.args.host.now c.args.which) (g.H.Host.left c.pieces.host c.args.which) c.pieces.bytes.items c.pieces.invariant.used in
    (front.0, grind (arith, common_steps), front.2)
