-- The bits of the table are all flags.
use Rattle.std.proofs.Common.{eq-eqb}
use Rattle.std.proofs.lemmas.Bool.{eqb-true}
use Rattle.bitflags.proofs.OnLiterals.{bitflags_on_literals}
use Rattle.syscall_codec.proofs.flags.MapFlags.from_bits.Goals as goal

pub returns-clause-known : goal.returns-clause-known
unfolding bitflags_on_literals
returns-clause-known c =
    let known = c.from_bits.ensures.known tt in
    (λ found. eq-eqb _ _ (known.0 found), λ test. known.1 (eqb-true _ _ test))
