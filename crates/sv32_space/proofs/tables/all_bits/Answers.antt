use Rattle.std.proofs.Common.{arith}
use Rattle.sv32_space.proofs.TableLemmas.{below_next}
use Rattle.sv32_space.proofs.tables.all_bits.Goals as goal

pub loop-i-init : goal.loop-i-init
loop-i-init c = λ k low. absurd (omega (arith, low))

pub loop-i-preserved : goal.loop-i-preserved
loop-i-preserved c = below_next c.args.table.now c.loop-i.i c.loop-i.bits c.entry_word-bits.result c.loop-i.invariant c.entry_word-bits.ensures

pub returns : goal.returns
returns c = λ k low. c.loop-i.invariant k (omega (arith, low, c.loop-i-test.false))
