use Rattle.std.proofs.lemmas.Nat.{or_shifted}
use Rattle.std.proofs.Math.Nat.{mod-eq_of_lt}
use Rattle.rv32_atomics.proofs.encoding.joined.Goals as goal

pub returns : goal.returns
returns c = rw (mod-eq_of_lt c.requires.room) (or_shifted c.args.high c.args.width c.args.low c.requires.fits)
