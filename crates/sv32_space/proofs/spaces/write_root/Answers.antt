use Rattle.std.proofs.Common.{◌+◌, ◌*◌, ap, arith}
use Rattle.sv32_space.proofs.ClearLemmas.{root_one}
use Rattle.sv32_space.proofs.spaces.write_root.Goals as goal

pub loop-i-preserved : goal.loop-i-preserved
loop-i-preserved c =
    root_one c.args.ram.now c.loop-i.ram c.set_word.new.self c.args.first.0 c.loop-i.i c.root_entry.result c.ppn_of-table.ensures.placed (omega arith) c.loop-i-test.true
    c.root_entry.type_inv c.root_entry.ensures c.loop-i.invariant (c.ppn_of-table.result * 4096 + 4 * c.loop-i.i) (ap (λ n. n * 4096 + 4 * c.loop-i.i) c.ppn_of-table.ensures.number) c.set_word.ensures.pages c.set_word.ensures.area
