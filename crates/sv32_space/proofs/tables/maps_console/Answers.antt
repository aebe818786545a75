use Rattle.std.proofs.Common.{arith, sym}
use Rattle.phys_pages.specs.Ram.{area}
use Rattle.sv32_space.specs.SpelledEntries.{entries}
use Rattle.sv32_space.proofs.TableLemmas.{map_found, map_goes_on, map_missed, map_table}
use Rattle.sv32_space.proofs.tables.maps_console.Goals as goal

pub table_of-requires-clause-window : goal.table_of-requires-clause-window
table_of-requires-clause-window c = map_table c.first-first.result.0 c.loop-i.i c.first-first.ensures c.loop-i-test.true

pub returns-then-any_console : goal.returns-then-any_console
returns-then-any_console c = λ procs process. sym (map_found procs c.args.ram.now c.args.pid c.first-first.result.0 c.loop-i.i c.table_of.result.now process c.first-first.ensures c.loop-i-test.true
    c.table_of.ensures.table (c.any_console.ensures.found (area c.args.ram.now) c.frames-frames.ensures.placed c.if-any_console.true))

pub loop-i-preserved : goal.loop-i-preserved
loop-i-preserved c = λ procs process. map_goes_on procs c.args.ram.now c.args.pid c.first-first.result.0 c.loop-i.i c.table_of.result.now process c.first-first.ensures c.loop-i-test.true
    c.table_of.ensures.table (λ k low. c.any_console.ensures.none (area c.args.ram.now) k c.frames-frames.ensures.placed c.if-any_console.false low)
    (c.loop-i.invariant procs process)

pub returns : goal.returns
returns c = λ procs process. sym (map_missed (entries procs c.args.ram.now) c.args.pid (λ k low. c.loop-i.invariant procs process k (omega (arith, low, c.loop-i-test.false))))
